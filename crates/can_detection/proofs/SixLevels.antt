-- A stuffed list does not end with five equal levels, and has no six in a row.
use Rattle.std.proofs.Common.{◌≡◌, ◌+◌, ◌-◌, ◌<◌, true, List, [], ◌∷◌, ◌++◌, length, get_or, refl, sym, ◌∙◌, ap, arith, append_assoc, length-append}
use Rattle.std.proofs.lemmas.List.{reverse-append, get_or_at}
use Rattle.std.proofs.lemmas.Bool.{both_ways}
use Rattle.can_frame.specs.declared.level.Level.{Level}
use Rattle.can_frame.specs.declared.level.Level.TheVariants.{Dominant, Recessive}
use Rattle.can_wire.specs.Stuffing.{begins_with_five, is_stuff_place, Stuffs}
use Rattle.can_wire.proofs.StuffPlaces.{is_due, is_due-reverse, is_stuff_place-append}

abbrev five : List Level
five = Recessive ∷ Recessive ∷ Recessive ∷ Recessive ∷ Recessive ∷ []

abbrev four : List Level
four = Recessive ∷ Recessive ∷ Recessive ∷ Recessive ∷ []

due_after_five : (b : List Level) → is_due (b ++ five) ≡ true
due_after_five b = is_due-reverse (b ++ five) ∙ ap begins_with_five (reverse-append b five)

pub five_at_end : (u b : List Level) → Stuffs u (b ++ Recessive ∷ Recessive ∷ Recessive ∷ Recessive ∷ Recessive ∷ []) → ⊥
five_at_end u b stuffs = both_ways (is_due (b ++ five)) stuffs.end (due_after_five b)

pub six_in_row : (u b t : List Level) → Stuffs u (b ++ Recessive ∷ Recessive ∷ Recessive ∷ Recessive ∷ Recessive ∷ Recessive ∷ t) → ⊥
six_in_row u b t stuffs =
    let whole = b ++ Recessive ∷ Recessive ∷ Recessive ∷ Recessive ∷ Recessive ∷ Recessive ∷ t in
    let p = length (b ++ five) in
    let size : p ≡ length b + 5 = length-append b five in
    let after_five : (b ++ five) ++ Recessive ∷ t ≡ whole = append_assoc b five (Recessive ∷ t) in
    let after_four : (b ++ four) ++ Recessive ∷ Recessive ∷ t ≡ whole = append_assoc b four (Recessive ∷ Recessive ∷ t) in
    let within : p < length whole = omega (arith, length-append b (Recessive ∷ Recessive ∷ Recessive ∷ Recessive ∷ Recessive ∷ Recessive ∷ t)) in
    let place : is_stuff_place whole p ≡ true =
    ap (λ l. is_stuff_place l p) (sym after_five) ∙ is_stuff_place-append (b ++ five) (Recessive ∷ t) p (omega arith) ∙ due_after_five b in
    let here : get_or whole p Dominant ≡ Recessive = ap (λ l. get_or l p Dominant) (sym after_five) ∙ get_or_at (b ++ five) Recessive t Dominant p refl in
    let before_size : length (b ++ four) ≡ p - 1 = omega (arith, length-append b four) in
    let before : get_or whole (p - 1) Dominant ≡ Recessive =
    ap (λ l. get_or l (p - 1) Dominant) (sym after_four) ∙ get_or_at (b ++ four) Recessive (Recessive ∷ t) Dominant (p - 1) before_size in
    stuffs.differs p within place (here ∙ sym before)
