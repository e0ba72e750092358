-- Complete stuffed parts: none begins another, and they are what spelled lists and shapes begin with.
use Rattle.std.proofs.Common.{◌≡◌, ℕ, suc, ◌+◌, ◌≤◌, Bool, true, false, List, [], ◌∷◌, ◌++◌, length, take, drop, refl, sym, ◌∙◌, ap, subst, arith, cond}
use Rattle.std.proofs.lemmas.List.{take-append-le, take-append-drop, take_at}
use Rattle.can_frame.specs.declared.level.Level.{Level}
use Rattle.can_frame.specs.declared.level.Level.TheVariants.{Recessive}
use Rattle.can_wire.specs.Crc.{IsCrc}
use Rattle.can_wire.specs.Stuffing.{is_stuff_place, kept, Stuffs}
use Rattle.can_wire.specs.Wire.{tail}
use Rattle.can_wire.specs.Heard.{HeardParts, ack_slot, heard_head, Spells, IsStuffedPart}
use Rattle.can_wire.specs.Layout.{level_at, heard_of, check_of, IsPart}
use Rattle.can_wire.proofs.LayoutLengths.{frame_len_ge}
use Rattle.can_wire.proofs.StuffedFronts.{Stuffs-once}
use Rattle.can_wire.proofs.LayoutRead.{heard_head-complete}
use Rattle.can_code.proofs.LayoutWrite.{IsHeard-heard_of, heard_head-heard_of, length-check_of}

length-kept-le : (b : List Level) (p : ℕ) (xs : List Level) → length (kept b p xs) ≤ length xs
length-kept-le b p [] = omega arith
length-kept-le b p (x ∷ xs) = by_place (is_stuff_place b p) (kept b (p + 1) xs) (length-kept-le b (p + 1) xs)
  where
    by_place : (due : Bool) (k : List Level) → length k ≤ length xs → length (cond due k (x ∷ k)) ≤ suc (length xs)
    by_place true k h = omega arith
    by_place false k h = omega arith

-- it has at least the levels of a frame without data
pub IsPart-length : (u b : List Level) → IsPart u b → 34 ≤ length b
IsPart-length u b part = omega (arith, length-kept-le b 0 b, ap length part.stuffs.rest, part.complete.whole, frame_len_ge u)

-- it begins with the start of frame
pub IsPart-start : (u b y t : List Level) → IsPart u b → b ++ y ≡ Recessive ∷ t → ⊥
IsPart-start u [] y t part same = absurd (omega (arith, IsPart-length u [] part))
IsPart-start u (x ∷ b) y t part same =
    let start : level_at u 0 ≡ x = sym (ap (λ z. level_at z 0) part.stuffs.rest) in
    let dominant = part.complete.start in
    cc

pub IsPart-from : (h : HeardParts) (check s : List Level) → IsStuffedPart h check s → IsPart (heard_head h ++ check) s
IsPart-from h check s part = record { complete = heard_head-complete h check part.heard part.fifteen; stuffs = part.stuffed }

pub IsStuffedPart-from : (u s : List Level) (acked : Bool) (last : Level) → IsPart u s → IsStuffedPart (heard_of u acked last) (check_of u) s
IsStuffedPart-from u s acked last part = record {
  heard = IsHeard-heard_of u acked last;
  fifteen = length-check_of u part.complete;
  stuffed = subst (λ t. Stuffs t s) (heard_head-heard_of u acked last part.complete) part.stuffs;
}

-- of two fronts of one list the shorter begins the longer
pub front_of : (b d x y : List Level) → b ++ x ≡ d ++ y → length b ≤ length d → d ≡ b ++ drop (length b) d
front_of b d x y same shorter =
    let front : b ≡ take (length b) d = sym (take_at b x (length b) refl) ∙ ap (take (length b)) same ∙ take-append-le (length b) d y shorter in
    sym (take-append-drop (length b) d) ∙ ap (λ t. t ++ drop (length b) d) (sym front)

-- a list begins with at most one complete stuffed part
pub IsPart-once : (u v b d x y : List Level) → IsPart u b → IsPart v d → b ++ x ≡ d ++ y → (u ≡ v) × (b ≡ d)
IsPart-once u v b d x y p q same =
    let one = Stuffs-once u v b d x y p.complete q.complete p.stuffs q.stuffs same in
    (sym p.stuffs.rest ∙ ap (λ z. kept z 0 z) one ∙ q.stuffs.rest, one)

-- the stuffed part of an encoded frame, and its CRC sequence
pub Spells-part : (h : HeardParts) (w : List Level) → Spells h w
    → (check : List Level) × (s : List Level) × IsStuffedPart h check s × IsCrc (heard_head h) check × (w ≡ s ++ tail (ack_slot h.acked) h.last)
Spells-part h w spelled =
    let r = spelled.spelling in
    (r.check, r.stuffed, record { heard = spelled.heard; fifteen = r.is_check.length; stuffed = r.is_stuffed }, r.is_check, r.whole)
