-- A receiver that reads another stuffed part than was sent. Only the level after the levels `a` was inverted. What it
-- reads as the stuffed part is two to six levels longer, and the level that it then reads in the ACK slot is recessive.
use Rattle.std.proofs.Common.{◌≡◌, ℕ, ◌+◌, ◌<◌, ◌≤◌, List, [], ◌∷◌, ◌++◌, length, refl, sym, ◌∙◌, ap, subst, arith, append_assoc, length-append, inl, inr}
use Rattle.std.proofs.lemmas.List.{append-nil, append_cancel_left}
use Rattle.can_frame.specs.declared.level.Level.{Level}
use Rattle.can_frame.specs.declared.level.Level.TheVariants.{Dominant, Recessive}
use Rattle.can_frame.specs.Levels.{opposite}
use Rattle.can_wire.specs.Crc.{Multiple}
use Rattle.can_wire.specs.Stuffing.{Stuffs}
use Rattle.can_wire.specs.Wire.{tail}
use Rattle.can_wire.specs.Layout.{IsPart}
use Rattle.can_wire.proofs.StuffedFronts.{fronts}
use Rattle.can_code.proofs.StuffedParts.{IsPart-once}
use Rattle.can_detection.proofs.TwoParts.{two_parts}
use Rattle.can_detection.proofs.SixLevels.{five_at_end, six_in_row}

-- the eight levels after the stuffed part of an acknowledged frame, to the fifth bit of the end of frame
abbrev pub eight : List Level
eight = Recessive ∷ Dominant ∷ Recessive ∷ Recessive ∷ Recessive ∷ Recessive ∷ Recessive ∷ Recessive ∷ []

-- the stuffed part d that is read instead of one with n levels, and the ACK slot after it
pub record IsLater (n : ℕ) (d : List Level) (ack : Level) : Type 0 where
  pub least : n + 2 ≤ length d
  pub most : length d ≤ n + 6
  pub slot : ack ≡ Recessive

-- six recessive levels, and more
abbrev six : List Level → List Level
six t = Recessive ∷ Recessive ∷ Recessive ∷ Recessive ∷ Recessive ∷ Recessive ∷ t

-- ---- a longer stuffed part

-- the levels t by which it is longer
more_levels : (n : ℕ) (u m t more rest : List Level) (ack last : Level) → length m ≡ n → Stuffs u (m ++ t) → (t ≡ [] → ⊥) → eight ++ more ≡ t ++ (tail ack last ++ rest) → IsLater n (m ++ t) ack
more_levels n u m [] more rest ack last size stuffs some same = absurd (some refl)
more_levels n u m (t1 ∷ []) more rest ack last size stuffs some same = cc
more_levels n u m (t1 ∷ t2 ∷ []) more rest ack last size stuffs some same = record {
  least = omega (arith, length-append m (t1 ∷ t2 ∷ []));
  most = omega (arith, length-append m (t1 ∷ t2 ∷ []));
  slot = cc;
}
more_levels n u m (t1 ∷ t2 ∷ t3 ∷ []) more rest ack last size stuffs some same = record {
  least = omega (arith, length-append m (t1 ∷ t2 ∷ t3 ∷ []));
  most = omega (arith, length-append m (t1 ∷ t2 ∷ t3 ∷ []));
  slot = cc;
}
more_levels n u m (t1 ∷ t2 ∷ t3 ∷ t4 ∷ []) more rest ack last size stuffs some same = record {
  least = omega (arith, length-append m (t1 ∷ t2 ∷ t3 ∷ t4 ∷ []));
  most = omega (arith, length-append m (t1 ∷ t2 ∷ t3 ∷ t4 ∷ []));
  slot = cc;
}
more_levels n u m (t1 ∷ t2 ∷ t3 ∷ t4 ∷ t5 ∷ []) more rest ack last size stuffs some same = record {
  least = omega (arith, length-append m (t1 ∷ t2 ∷ t3 ∷ t4 ∷ t5 ∷ []));
  most = omega (arith, length-append m (t1 ∷ t2 ∷ t3 ∷ t4 ∷ t5 ∷ []));
  slot = cc;
}
more_levels n u m (t1 ∷ t2 ∷ t3 ∷ t4 ∷ t5 ∷ t6 ∷ []) more rest ack last size stuffs some same = record {
  least = omega (arith, length-append m (t1 ∷ t2 ∷ t3 ∷ t4 ∷ t5 ∷ t6 ∷ []));
  most = omega (arith, length-append m (t1 ∷ t2 ∷ t3 ∷ t4 ∷ t5 ∷ t6 ∷ []));
  slot = cc;
}
more_levels n u m (t1 ∷ t2 ∷ t3 ∷ t4 ∷ t5 ∷ t6 ∷ t7 ∷ []) more rest ack last size stuffs some same =
    let levels : t1 ∷ t2 ∷ t3 ∷ t4 ∷ t5 ∷ t6 ∷ t7 ∷ [] ≡ Recessive ∷ Dominant ∷ Recessive ∷ Recessive ∷ Recessive ∷ Recessive ∷ Recessive ∷ [] = cc in
    let regrouped = ap (λ l. m ++ l) levels ∙ sym (append_assoc m (Recessive ∷ Dominant ∷ []) (Recessive ∷ Recessive ∷ Recessive ∷ Recessive ∷ Recessive ∷ [])) in
    absurd (five_at_end u (m ++ Recessive ∷ Dominant ∷ []) (subst (Stuffs u) regrouped stuffs))
more_levels n u m (t1 ∷ t2 ∷ t3 ∷ t4 ∷ t5 ∷ t6 ∷ t7 ∷ t8 ∷ t) more rest ack last size stuffs some same =
    let levels : t1 ∷ t2 ∷ t3 ∷ t4 ∷ t5 ∷ t6 ∷ t7 ∷ t8 ∷ t ≡ Recessive ∷ Dominant ∷ Recessive ∷ Recessive ∷ Recessive ∷ Recessive ∷ Recessive ∷ Recessive ∷ t = cc in
    let regrouped = ap (λ l. m ++ l) levels ∙ sym (append_assoc m (Recessive ∷ Dominant ∷ []) (Recessive ∷ Recessive ∷ Recessive ∷ Recessive ∷ Recessive ∷ Recessive ∷ t)) in
    absurd (six_in_row u (m ++ Recessive ∷ Dominant ∷ []) t (subst (Stuffs u) regrouped stuffs))

-- ---- a shorter one

-- it is shorter by eight levels or more: with fewer, the dominant ACK slot is read where a level has to be recessive
fewer_levels : (t more rest : List Level) (ack last : Level) → (t ≡ [] → ⊥) → t ++ (eight ++ more) ≡ tail ack last ++ rest
    → (z : List Level) × (t ≡ Recessive ∷ ack ∷ six z)
fewer_levels [] more rest ack last some same = absurd (some refl)
fewer_levels (t1 ∷ []) more rest ack last some same = cc
fewer_levels (t1 ∷ t2 ∷ []) more rest ack last some same = cc
fewer_levels (t1 ∷ t2 ∷ t3 ∷ []) more rest ack last some same = cc
fewer_levels (t1 ∷ t2 ∷ t3 ∷ t4 ∷ []) more rest ack last some same = cc
fewer_levels (t1 ∷ t2 ∷ t3 ∷ t4 ∷ t5 ∷ []) more rest ack last some same = cc
fewer_levels (t1 ∷ t2 ∷ t3 ∷ t4 ∷ t5 ∷ t6 ∷ []) more rest ack last some same = cc
fewer_levels (t1 ∷ t2 ∷ t3 ∷ t4 ∷ t5 ∷ t6 ∷ t7 ∷ []) more rest ack last some same = cc
fewer_levels (t1 ∷ t2 ∷ t3 ∷ t4 ∷ t5 ∷ t6 ∷ t7 ∷ t8 ∷ z) more rest ack last some same = (z, cc)

-- a stuffed part s, of which the level x after a is inverted, and the stuffed part d that is read
module _ (a b : List Level) (x : Level) (u v d : List Level) (sent : IsPart u (a ++ x ∷ b)) (read : IsPart v d) where
  abbrev m : List Level
  m = a ++ opposite x ∷ b

  -- the levels read do not end before the inverted one
  not_before : (t : List Level) → a ≡ d ++ t → ⊥
  not_before t longer =
      let whole : d ++ (t ++ x ∷ b) ≡ (a ++ x ∷ b) ++ [] = sym (append_assoc d t (x ∷ b)) ∙ ap (λ l. l ++ x ∷ b) (sym longer) ∙ sym (append-nil (a ++ x ∷ b)) in
      let one = IsPart-once v u d (a ++ x ∷ b) (t ++ x ∷ b) [] read sent whole in
      absurd (omega (arith, ap length one.1, ap length longer, length-append d t, length-append a (x ∷ b)))

  -- nor do they end eight levels early, since the six recessive levels that have to follow are levels of s too
  not_early : (t : List Level) (ack : Level) → m ≡ d ++ Recessive ∷ ack ∷ six t → ⊥
  not_early t ack same = elim (fronts a d (opposite x ∷ b) (Recessive ∷ ack ∷ six t) same) [ inr before ↦ not_before before.0 before.1 | inl after ↦ not_after after.0 after.1 ]
    where
      not_after : (c : List Level) → d ≡ a ++ c → ⊥
      not_after [] longer = not_before [] (sym (append-nil a) ∙ sym longer ∙ sym (append-nil d))
      not_after (y ∷ c) longer =
          let behind = Recessive ∷ ack ∷ six t in
          let rest : opposite x ∷ b ≡ y ∷ (c ++ behind) =
          append_cancel_left a (opposite x ∷ b) (y ∷ (c ++ behind)) (same ∙ ap (λ l. l ++ behind) longer ∙ append_assoc a (y ∷ c) behind) in
          let kept : b ≡ c ++ behind = cc in
          let first = a ++ x ∷ c in
          let shape : a ++ x ∷ b ≡ (first ++ Recessive ∷ ack ∷ []) ++ six t =
          ap (λ l. a ++ x ∷ l) kept ∙ sym (append_assoc a (x ∷ c) behind) ∙ sym (append_assoc first (Recessive ∷ ack ∷ []) (six t)) in
          six_in_row u (first ++ Recessive ∷ ack ∷ []) t (subst (Stuffs u) shape sent.stuffs)

  module _ (some : 0 < length a) (divides : Multiple u) (divides_read : (a ++ opposite x ∷ b ≡ d) → Multiple v) where
    -- it is not the inverted levels themselves
    not_same : m ≡ d → ⊥
    not_same same = two_parts a b x u v some sent (subst (IsPart v) (sym same) read) divides (divides_read same)

    -- so it is longer
    pub IsLater-read : (more rest : List Level) (ack last : Level) → (a ++ opposite x ∷ b) ++ (eight ++ more) ≡ d ++ (tail ack last ++ rest) → IsLater (length (a ++ x ∷ b)) d ack
    IsLater-read more rest ack last same =
        let size : length m ≡ length (a ++ x ∷ b) = omega (arith, length-append a (opposite x ∷ b), length-append a (x ∷ b)) in
        let ten = tail ack last ++ rest in
        elim (fronts m d (eight ++ more) ten same) [
          | inl longer ↦
              let t = longer.0 in
              let some_more : t ≡ [] → ⊥ = λ none. not_same (sym (append-nil m) ∙ ap (λ l. m ++ l) (sym none) ∙ sym longer.1) in
              let after : eight ++ more ≡ t ++ ten = append_cancel_left m (eight ++ more) (t ++ ten) (same ∙ ap (λ l. l ++ ten) longer.1 ∙ append_assoc m t ten) in
              subst (λ l. IsLater (length (a ++ x ∷ b)) l ack) (sym longer.1)
              (more_levels (length (a ++ x ∷ b)) v m t more rest ack last size (subst (Stuffs v) longer.1 read.stuffs) some_more after)
          | inr shorter ↦
              let t = shorter.0 in
              let some_less : t ≡ [] → ⊥ = λ none. not_same (shorter.1 ∙ ap (λ l. d ++ l) none ∙ append-nil d) in
              let after : t ++ (eight ++ more) ≡ ten = append_cancel_left d (t ++ (eight ++ more)) ten (sym (append_assoc d t (eight ++ more)) ∙ ap (λ l. l ++ (eight ++ more)) (sym shorter.1) ∙ same) in
              let early = fewer_levels t more rest ack last some_less after in
              absurd (not_early early.0 ack (shorter.1 ∙ ap (λ l. d ++ l) early.1))
        ]
