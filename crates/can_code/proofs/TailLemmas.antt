-- The ten levels after the stuffed part, received one by one.
use Rattle.std.proofs.Common.{◌≡◌, ◌≢◌, ℕ, zero, suc, ◌+◌, ◌<◌, Bool, true, false, not, List, [], ◌∷◌, ◌++◌, get_or, take, refl, sym, ◌∙◌, ap, subst, arith}
use Rattle.std.proofs.lemmas.List.{take_more, length-take-le, get_or_at}
use Rattle.can_frame.specs.declared.level.Level.{Level}
use Rattle.can_frame.specs.declared.level.Level.TheVariants.{Dominant, Recessive}
use Rattle.can_frame.specs.Levels.{is_recessive}
use Rattle.can_wire.specs.Wire.{tail}
use Rattle.can_wire.specs.Heard.{HeardParts, ack_slot}

-- each level of a tail but the ACK slot and the last is recessive
tail_at : (a l : Level) (k : ℕ) → k < 10 → k ≢ 1 → k ≢ 9 → get_or (tail a l) k Dominant ≡ Recessive
tail_at a l zero h p q = refl
tail_at a l (suc zero) h p q = absurd (p refl)
tail_at a l (suc (suc zero)) h p q = refl
tail_at a l (suc (suc (suc zero))) h p q = refl
tail_at a l (suc (suc (suc (suc zero)))) h p q = refl
tail_at a l (suc (suc (suc (suc (suc zero))))) h p q = refl
tail_at a l (suc (suc (suc (suc (suc (suc zero)))))) h p q = refl
tail_at a l (suc (suc (suc (suc (suc (suc (suc zero))))))) h p q = refl
tail_at a l (suc (suc (suc (suc (suc (suc (suc (suc zero)))))))) h p q = refl
tail_at a l (suc (suc (suc (suc (suc (suc (suc (suc (suc zero))))))))) h p q = absurd (q refl)
tail_at a l (suc (suc (suc (suc (suc (suc (suc (suc (suc (suc k)))))))))) h p q = absurd (omega arith)

pub ack_slot-told : (x : Level) → ack_slot (not (is_recessive x)) ≡ x
ack_slot-told Dominant = refl
ack_slot-told Recessive = refl

-- the first k levels of a tail, and x
module _ (k : ℕ) (acked : Bool) (x : Level) where
  abbrev ten : List Level
  ten = tail (ack_slot acked) Recessive

  pub ack_slot_heard : k ≡ 1 → take (k + 1) (tail (ack_slot (not (is_recessive x))) Recessive) ≡ take k ten ++ x ∷ []
  ack_slot_heard slot = subst (λ n. take (n + 1) (tail (ack_slot (not (is_recessive x))) Recessive) ≡ take n ten ++ x ∷ []) (sym slot) (ap (λ y. Recessive ∷ y ∷ []) (ack_slot-told x))

  module _ (few : k < 10) (no_slot : k ≢ 1) (no_last : k ≢ 9) where
    pub recessive_heard : is_recessive x ≡ true → take (k + 1) ten ≡ take k ten ++ x ∷ []
    recessive_heard recessive = take_more ten k Dominant few ∙ ap (λ y. take k ten ++ y ∷ []) (tail_at (ack_slot acked) Recessive k few no_slot no_last ∙ of_test x recessive)
      where
        of_test : (x : Level) → is_recessive x ≡ true → Recessive ≡ x
        of_test Recessive h = refl
        of_test Dominant h = cc

    pub dominant_breaks : is_recessive x ≡ false → (h : HeardParts) (more : List Level) → take k ten ++ x ∷ more ≡ tail (ack_slot h.acked) h.last → ⊥
    dominant_breaks dominant h more same =
        of_test x dominant
        (sym (get_or_at (take k ten) x more Dominant k (length-take-le k ten (omega arith))) ∙ ap (λ t. get_or t k Dominant) same ∙ tail_at (ack_slot h.acked) h.last k few no_slot no_last)
      where
        of_test : (x : Level) → is_recessive x ≡ false → x ≡ Recessive → ⊥
        of_test Dominant h e = cc
        of_test Recessive h e = cc
