-- The frame of a sender: how long it is, and what it has heard of it.
use Rattle.std.proofs.Common.{◌≡◌, ℕ, ◌+◌, ◌<◌, ◌≤◌, ◌⊎◌, inl, inr, Bool, true, false, cond, List, [], ◌∷◌, ◌++◌, length, take, refl, sym, ◌∙◌, ap, arith, length-append}
use Rattle.std.specs.Prelude.{nat_lt}
use Rattle.std.proofs.Math.Dec.{eqb}
use Rattle.std.proofs.lemmas.Bool.{cases_lt, cond_both, ltb-true, eqb-false, eq-eqb, true≢false}
use Rattle.std.proofs.lemmas.List.{take_all, take_more}
use Rattle.can_frame.specs.declared.level.Level.{Level}
use Rattle.can_frame.specs.declared.level.Level.TheVariants.{Dominant}
use Rattle.can_frame.specs.Levels.{is_recessive}
use Rattle.can_frame.specs.Parts.{Parts, IsFrame}
use Rattle.can_wire.specs.Crc.{crc_of}
use Rattle.can_wire.specs.Crc.{crc_of}
use Rattle.can_wire.specs.Stuffing.{run_after}
use Rattle.can_wire.specs.Wire.{head, unstuffed}
use Rattle.can_wire.specs.Layout.{level_at, frame_len, frame_of}
use Rattle.can_wire.proofs.DivisionLemmas.{none}
use Rattle.can_wire.proofs.LayoutPlaces.{level_at-dominant}
use Rattle.can_wire.proofs.LayoutLengths.{frame_len-dominant, frame_len_le}
use Rattle.can_wire.proofs.LayoutRead.{frame_of-head, head-complete}
use Rattle.can_code.specs.Front.{FrontParts, first_front, has_check, heard_level}
use Rattle.can_code.specs.Sending.{sent_level}
use Rattle.can_code.proofs.FrontLemmas.{next_place-partial}
use Rattle.can_code.proofs.UnstuffedLevels.{unstuffed-complete}
use Rattle.can_mac.specs.State.{IsOpen}
use Rattle.can_gates_controller.proofs.Checks.{next_level}

-- dominant levels after a head complete it
pub frame_len-head : (f : Parts) → IsFrame f → frame_len (head f) ≡ length (head f) + 15
frame_len-head f is =
    let whole = (head-complete f (none 15) is refl).whole in
    sym (frame_len-dominant (head f) 15) ∙ sym whole ∙ length-append (head f) (none 15)

pub head-extended : (f : Parts) → IsFrame f → is_recessive (level_at (head f) 13) ≡ f.id.extended
unfolding frame_of
head-extended f is = ap is_recessive (sym (level_at-dominant (head f) 15 13)) ∙ ap (λ g. g.id.extended) (frame_of-head f (none 15) is)

-- what its sender has heard of it

pub first_sent : (f : Parts) → first_front.unstuffed ≡ take (length first_front.unstuffed) (unstuffed f)
unfolding unstuffed head
first_sent f = refl

-- while a bit of it is to come, there is one
some_left : (f : Parts) → IsFrame f → (front : FrontParts) → IsOpen front → eqb front.run 5 ≡ false → front.unstuffed ≡ take (length front.unstuffed) (unstuffed f) → length front.unstuffed < length (unstuffed f)
some_left f is front going not_due sent = by (cases_lt (length front.unstuffed) (length (unstuffed f)))
  where
    by : (length front.unstuffed < length (unstuffed f)) ⊎ (length (unstuffed f) ≤ length front.unstuffed) → length front.unstuffed < length (unstuffed f)
    by (inl h) = h
    by (inr h) =
        let all : front.unstuffed ≡ unstuffed f = sent ∙ take_all (length front.unstuffed) (unstuffed f) h in
        let whole : has_check front.unstuffed ≡ true = ap has_check all ∙ rw (sym (unstuffed-complete f is).whole) (eq-eqb (length (unstuffed f)) (length (unstuffed f)) refl) in
        absurd (true≢false (sym whole ∙ next_place-partial front going.goes_on (eqb-false front.run 5 not_due)))

abbrev due : FrontParts → Level → FrontParts
due front x = record { unstuffed = front.unstuffed; last = x; run = 1 }

abbrev plain : FrontParts → Level → FrontParts
plain front x = record { unstuffed = front.unstuffed ++ x ∷ []; last = x; run = run_after front.last front.run x }

-- a sender that sees its own level has heard one more
pub more_sent : (f : Parts) → IsFrame f → (front : FrontParts) (x : Level) → IsOpen front → front.unstuffed ≡ take (length front.unstuffed) (unstuffed f) → (eqb front.run 5 ≡ false → x ≡ sent_level f (length front.unstuffed)) → (heard_level front x).unstuffed ≡ take (length (heard_level front x).unstuffed) (unstuffed f)
more_sent f is front x going sent own =
    cond_both (eqb front.run 5) (due front x) (plain front x) (λ g. g.unstuffed ≡ take (length g.unstuffed) (unstuffed f)) (λ e. sent)
    (λ e.
    let u = front.unstuffed in
    let one : length (u ++ x ∷ []) ≡ length u + 1 = length-append u (x ∷ []) in
    let more = take_more (unstuffed f) (length u) Dominant (some_left f is front going e sent) in
    ap (λ l. l ++ x ∷ []) sent ∙ ap (λ y. take (length u) (unstuffed f) ++ y ∷ []) (own e) ∙ sym more ∙ ap (λ n. take n (unstuffed f)) (sym one))

head_short : (f : Parts) → IsFrame f → length (head f) ≤ 103
head_short f is = omega (arith, frame_len-head f is, frame_len_le (head f))

chosen_level : (b test level top x y w : Bool) → test ≡ b → (b ≡ true → level ≡ x) → top ≡ y → w ≡ cond b x y → cond test level top ≡ w
chosen_level true true level top x y w e l t is = l refl ∙ sym is
chosen_level true false level top x y w e l t is = cc e
chosen_level false true level top x y w e l t is = cc e
chosen_level false false level top x y w e l t is = t ∙ sym is

-- the next level of its frame, from its head or from the highest bit of the CRC register
pub next_own_level : (f : Parts) → IsFrame f → (u : List Level) (n : ℕ) (of_head level top : Bool) → u ≡ take n (unstuffed f) → of_head ≡ nat_lt n (length (head f)) → (n < 103 → level ≡ is_recessive (level_at (head f) n)) → top ≡ is_recessive (level_at (crc_of u) 0) → cond of_head level top ≡ is_recessive (sent_level f n)
unfolding unstuffed
next_own_level f is u n of_head level top sent test level_is top_is =
    chosen_level (nat_lt n (length (head f))) of_head level top (is_recessive (level_at (head f) n)) (is_recessive (level_at (crc_of u) 0)) (is_recessive (level_at (head f ++ crc_of (head f)) n)) test
    (λ e. let within : n < length (head f) = ltb-true n (length (head f)) e in level_is (omega (arith, within, head_short f is)))
    top_is (next_level (head f) u n sent)
