-- A wire of plain fields.
use Rattle.std.specs.Prelude.{slice_get}
use Rattle.std.specs.List.{list_any}
use Rattle.std.proofs.Common.{◌≡◌, ℕ, ◌+◌, ◌<◌, ◌≤◌, Bool, true, false, ◌||◌, List, [], ◌∷◌, Some, length, drop, get_or, set, refl, sym, ap, ◌∙◌, inl, inr, arith, length-set, get_or-set_other, get_or-set_same}
use Rattle.std.proofs.lemmas.Bool.{cases_order}
use Rattle.std.proofs.lemmas.List.{drop_all, drop_more}
use Rattle.std.proofs.lemmas.Option.{slice_get-get_or, get_or_from_slice_get}
use Rattle.can_frame.specs.declared.level.Level.{Level}
use Rattle.can_frame.specs.declared.level.Level.TheVariants.{Dominant, Recessive}
use Rattle.can_frame.specs.Levels.{is_recessive, level_of, levels_of_codes}
use Rattle.can_terms.specs.declared.hit.Hit.{Hit}
use Rattle.can_bus.specs.Run.{hits_wire}
use Rattle.can_bus.specs.Wired.{over, wired}
use Rattle.can_bus.specs.WireSteps.{WireState, is_struck, wire_attempt}
use Rattle.can_bus.specs.declared.bus_wire.Moment.{Moment}
use Rattle.can_c.specs.declared.inputs.PlainHit.{PlainHit}
use Rattle.can_c.specs.PlainInputs.{hit_of_plain, hits_of_plain}

-- a test of hits, read one by one
pub any-hit : (p : Hit → Bool) (hits : List PlainHit) → list_any (λ hit. p (hit_of_plain hit)) hits ≡ list_any p (hits_of_plain hits)
any-hit p [] = refl
any-hit p (hit ∷ hits) = ap (λ more. p (hit_of_plain hit) || more) (any-hit p hits)

-- ---- what several drive together

decides : (x rest whole : Level) → over x rest ≡ whole → is_recessive x ≡ false → Dominant ≡ whole
decides Dominant rest whole e low = e
decides Recessive rest whole e low = absurd (let k : true ≡ false = low in cc)

passes : (x rest whole : Level) → over x rest ≡ whole → is_recessive x ≡ true → rest ≡ whole
passes Dominant rest whole e high = absurd (let k : false ≡ true = high in cc)
passes Recessive rest whole e high = e

at : (codes : List ℕ) (n d : ℕ) → n < length codes → wired (levels_of_codes (drop n codes)) ≡ over (level_of (get_or codes n d)) (wired (levels_of_codes (drop (n + 1) codes)))
unfolding wired
at codes n d within = ap (λ rest. wired (levels_of_codes rest)) (drop_more codes n d within)

-- a dominant level decides
pub dominant-here : (codes : List ℕ) (n d : ℕ) → n < length codes → wired (levels_of_codes (drop n codes)) ≡ wired (levels_of_codes codes) →
    is_recessive (level_of (get_or codes n d)) ≡ false → Dominant ≡ wired (levels_of_codes codes)
dominant-here codes n d within same low =
    decides (level_of (get_or codes n d)) (wired (levels_of_codes (drop (n + 1) codes))) (wired (levels_of_codes codes)) (sym (at codes n d within) ∙ same) low

-- a recessive one is passed
pub recessive-here : (codes : List ℕ) (n d : ℕ) → n < length codes → wired (levels_of_codes (drop n codes)) ≡ wired (levels_of_codes codes) →
    is_recessive (level_of (get_or codes n d)) ≡ true → wired (levels_of_codes (drop (n + 1) codes)) ≡ wired (levels_of_codes codes)
recessive-here codes n d within same high =
    passes (level_of (get_or codes n d)) (wired (levels_of_codes (drop (n + 1) codes))) (wired (levels_of_codes codes)) (sym (at codes n d within) ∙ same) high

-- after the last one, all were recessive
pub all-recessive : (codes : List ℕ) (n : ℕ) → length codes ≤ n → wired (levels_of_codes (drop n codes)) ≡ wired (levels_of_codes codes) →
    Recessive ≡ wired (levels_of_codes codes)
unfolding wired
all-recessive codes n long same = sym (ap (λ rest. wired (levels_of_codes rest)) (drop_all n codes long)) ∙ same

-- ---- one bit time

-- the bit time of a wire that is driven so
abbrev pub moment_of : WireState → Level → Moment
moment_of w driven = record { time = w.time; attempt = wire_attempt w driven }

-- what is found in the bit time is what falls on the wire in it
pub struck-is : (hits : List PlainHit) (w : WireState) (driven : Level) (m : Moment) (hit : Bool) →
    m ≡ moment_of w driven →
    hit ≡ list_any (λ hit. hits_wire m.time m.attempt (hit_of_plain hit)) hits → hit ≡ is_struck (hits_of_plain hits) w driven
struck-is hits w driven m hit is e =
    e ∙ ap (λ (n : Moment). list_any (λ hit. hits_wire n.time n.attempt (hit_of_plain hit)) hits) is ∙ any-hit (hits_wire w.time (wire_attempt w driven)) hits

-- ---- places that are written one after another

pub told-more : (line : ℕ → ℕ) (codes : List ℕ) (n x : ℕ) → n < length codes → ((t : ℕ) → t < n → slice_get codes t ≡ Some (line t)) → x ≡ line n →
    (t : ℕ) → t < n + 1 → slice_get (set codes n x) t ≡ Some (line t)
told-more line codes n x within told is t h =
    let inside : t < length (set codes n x) = omega (arith, within, h, length-set codes n x) in
    slice_get-get_or (set codes n x) t 0 inside ∙ ap Some (elim (cases_order t n) [
      | inl same ↦ ap (λ k. get_or (set codes n x) k 0) same ∙ get_or-set_same codes n x 0 within ∙ is ∙ ap line (sym same)
      | inr other ↦ elim other [
        | inl less ↦ get_or-set_other codes n t x 0 (λ e. omega (arith, less, e)) ∙ get_or_from_slice_get codes t (line t) 0 (told t less)
        | inr more ↦ absurd (omega (arith, more, h))
      ]
    ])
