-- Levels either begin with a frame's spelling or have a fault: so says a decoder that hears them one by one.
use Rattle.std.proofs.Common.{◌≡◌, ◌≢◌, ◌⊎◌, inl, inr, ℕ, zero, suc, ◌+◌, ◌<◌, Bool, true, false, not, List, [], ◌∷◌, ◌++◌, length, take, refl, sym, ◌∙◌, ap, subst, arith, append_assoc, length-append}
use Rattle.std.proofs.Math.Seq.{take-append_seam}
use Rattle.std.proofs.lemmas.List.{append-nil}
use Rattle.std.proofs.lemmas.Bool.{cases_eq}
use Rattle.can_frame.specs.declared.level.Level.{Level}
use Rattle.can_frame.specs.declared.level.Level.TheVariants.{Dominant, Recessive}
use Rattle.can_frame.specs.Levels.{is_recessive}
use Rattle.can_code.specs.declared.fault.CodeFaultKind.{CodeFaultKind}
use Rattle.can_code.specs.declared.fault.CodeFaultKind.TheVariants.{Short, Stuff, Crc, Form}
use Rattle.can_code.specs.declared.front.Place.TheVariants.{CrcDelimiter}
use Rattle.can_wire.specs.Crc.{IsCrc, crc_of}
use Rattle.can_wire.specs.Wire.{tail}
use Rattle.can_wire.specs.Heard.{HeardParts, ack_slot, Spells}
use Rattle.can_wire.specs.Layout.{check_of, head_of, heard_of}
use Rattle.can_code.specs.CodeFaults.{IsCodeFault}
use Rattle.can_code.specs.Front.{FrontParts, first_front, next_place, is_stuff_error, heard_level}
use Rattle.can_code.specs.Decoder.{DecoderParts, HasHeard, StandsBehind}
use Rattle.can_wire.proofs.DivisionLemmas.{IsCrc-crc_of, IsCrc-only}
use Rattle.can_code.proofs.HeardLevels.{ended_or_going}
use Rattle.can_code.proofs.TailLemmas.{ack_slot_heard, recessive_heard, dominant_breaks}
use Rattle.can_code.proofs.DecoderLemmas.{HasHeard-begin, HasHeard-stuff, HasHeard-crc, HasHeard-level, HasHeard-form, HasHeard-behind, HasHeard-last, HasHeard-short}

-- ---- CRC sequences

same_levels : (a b : List Level) → (a ≡ b) ⊎ (a ≢ b)
same_levels [] [] = inl refl
same_levels [] (y ∷ b) = inr (λ e. cc)
same_levels (x ∷ a) [] = inr (λ e. cc)
same_levels (Dominant ∷ a) (Recessive ∷ b) = inr (λ e. cc)
same_levels (Recessive ∷ a) (Dominant ∷ b) = inr (λ e. cc)
same_levels (Dominant ∷ a) (Dominant ∷ b) = elim (same_levels a b) [ inl e ↦ inl (ap (λ l. Dominant ∷ l) e) | inr other ↦ inr (λ e. other cc) ]
same_levels (Recessive ∷ a) (Recessive ∷ b) = elim (same_levels a b) [ inl e ↦ inl (ap (λ l. Recessive ∷ l) e) | inr other ↦ inr (λ e. other cc) ]

right_or_wrong : (b c : List Level) → IsCrc b c ⊎ (IsCrc b c → ⊥)
right_or_wrong b c = elim (same_levels c (crc_of b)) [
  | inl same ↦ inl (subst (IsCrc b) (sym same) (IsCrc-crc_of b))
  | inr other ↦ inr (λ is. other (IsCrc-only b c is))
]

-- ---- the levels after a stuffed part

same_fronts : (a last : Level) (k : ℕ) → k < 10 → take k (tail a last) ≡ take k (tail a Recessive)
same_fronts a last zero few = refl
same_fronts a last (suc zero) few = refl
same_fronts a last (suc (suc zero)) few = refl
same_fronts a last (suc (suc (suc zero))) few = refl
same_fronts a last (suc (suc (suc (suc zero)))) few = refl
same_fronts a last (suc (suc (suc (suc (suc zero))))) few = refl
same_fronts a last (suc (suc (suc (suc (suc (suc zero)))))) few = refl
same_fronts a last (suc (suc (suc (suc (suc (suc (suc zero))))))) few = refl
same_fronts a last (suc (suc (suc (suc (suc (suc (suc (suc zero)))))))) few = refl
same_fronts a last (suc (suc (suc (suc (suc (suc (suc (suc (suc zero))))))))) few = refl
same_fronts a last (suc (suc (suc (suc (suc (suc (suc (suc (suc (suc k)))))))))) few = absurd (omega arith)

module _ (f : FrontParts) (behind : List Level) (stands : StandsBehind f behind) where
  pub behind-few : length behind < 10
  behind-few = omega (arith, stands.missing, ap length stands.begins, length-append behind stands.more)

  behind-tail : behind ≡ take (length behind) (tail (ack_slot stands.acked) Recessive)
  behind-tail =
      sym (take-append_seam behind stands.more) ∙ ap (take (length behind)) stands.begins
      ∙ same_fronts (ack_slot stands.acked) stands.last (length behind) behind-few

-- ---- one level more

-- what one level more comes to: the frame goes on, it is whole, or the fault shows
data Comes (l : List Level) (x : Level) : Type 0 where
  goes_on : (d : DecoderParts) → HasHeard d (l ++ x ∷ []) → Comes l x
  whole : (h : HeardParts) → Spells h (l ++ x ∷ []) → Comes l x
  faulty : (kind : CodeFaultKind) → ((rest : List Level) → IsCodeFault (l ++ x ∷ rest) (record { kind = kind; place = length l })) → Comes l x

module _ (d : DecoderParts) (l : List Level) (heard : HasHeard d l) where
  in_part : (x : Level) → next_place d.front ≢ CrcDelimiter → Comes l x
  in_part x going = by_error (is_stuff_error d.front x) refl
    where
      now : DecoderParts
      now = record { front = heard_level d.front x; behind = d.behind }

      by_error : (b : Bool) → is_stuff_error d.front x ≡ b → Comes l x
      by_error true e = Comes.faulty Stuff (λ rest. HasHeard-stuff d l heard going x rest e)
      by_error false e = elim (ended_or_going (next_place now.front)) [
        | inr on ↦ Comes.goes_on now (HasHeard-level d l heard going x e now refl refl (λ ended. absurd (on ended)))
        | inl ended ↦ elim (right_or_wrong (head_of now.front.unstuffed) (check_of now.front.unstuffed)) [
          | inl agrees ↦ Comes.goes_on now (HasHeard-level d l heard going x e now refl refl (λ _. agrees))
          | inr wrong ↦ Comes.faulty Crc (λ rest. HasHeard-crc d l heard going x e rest ended wrong)
        ]
      ]

  module _ (ended : next_place d.front ≡ CrcDelimiter) (x : Level) where
    stands : StandsBehind d.front d.behind
    stands = heard.behind ended

    abbrev k : ℕ
    k = length d.behind

    abbrev ten : List Level
    ten = tail (ack_slot stands.acked) Recessive

    few : k < 10
    few = behind-few d.front d.behind stands

    is_tail : d.behind ≡ take k ten
    is_tail = behind-tail d.front d.behind stands

    now_behind : (acked : Bool) → k ≢ 9 → take (k + 1) (tail (ack_slot acked) Recessive) ≡ take k ten ++ x ∷ [] → Comes l x
    now_behind acked no_last longer =
        let now : DecoderParts = record { front = d.front; behind = d.behind ++ x ∷ [] } in
        Comes.goes_on now (HasHeard-behind d l heard ended now x (k + 1) acked (omega (arith, few)) refl refl (ap (λ b. b ++ x ∷ []) is_tail ∙ sym longer))

    at_last : k ≡ 9 → Comes l x
    at_last nine = Comes.whole (heard_of d.front.unstuffed stands.acked x) (HasHeard-last d l heard ended x stands.acked (is_tail ∙ ap (λ n. take n ten) nine))

    at_other : k ≢ 1 → k ≢ 9 → (b : Bool) → is_recessive x ≡ b → Comes l x
    at_other no_slot no_last true is = now_behind stands.acked no_last (recessive_heard k stands.acked x few no_slot no_last is)
    at_other no_slot no_last false is =
        Comes.faulty Form (λ rest.
        HasHeard-form d l heard ended x rest (λ h more same. dominant_breaks k stands.acked x few no_slot no_last is h more (ap (λ b. b ++ x ∷ more) (sym is_tail) ∙ same)))

    at_tail : Comes l x
    at_tail = elim (cases_eq k 1) [
      | inl slot ↦ now_behind (not (is_recessive x)) (λ e. omega (arith, slot, e)) (ack_slot_heard k stands.acked x slot)
      | inr no_slot ↦ elim (cases_eq k 9) [ inl last ↦ at_last last | inr no_last ↦ at_other no_slot no_last (is_recessive x) refl ]
    ]

  one_more : (x : Level) → Comes l x
  one_more x = elim (ended_or_going (next_place d.front)) [ inl ended ↦ at_tail ended x | inr going ↦ in_part x going ]

-- ---- all levels

-- the levels begin with a frame's spelling
pub record BeginsSpelled (levels : List Level) : Type 0 where
  pub h : HeardParts
  pub w : List Level
  pub rest : List Level
  pub spells : Spells h w
  pub whole : levels ≡ w ++ rest

-- the fault of the levels shows after a prefix of them
pub record HasFault (levels : List Level) : Type 0 where
  pub kind : CodeFaultKind
  pub front : List Level
  pub rest : List Level
  pub some : 0 < length front
  pub whole : levels ≡ front ++ rest
  pub fault : IsCodeFault levels (record { kind = kind; place = length front })

pub frame_or_fault-from : (more l : List Level) (d : DecoderParts) → HasHeard d l → 0 < length l → BeginsSpelled (l ++ more) ⊎ HasFault (l ++ more)
frame_or_fault-from [] l d heard some =
    inr (record {
      kind = Short;
      front = l;
      rest = [];
      some = some;
      whole = refl;
      fault = subst (λ t. IsCodeFault t (record { kind = Short; place = length l })) (sym (append-nil l)) (HasHeard-short d l heard);
    })
frame_or_fault-from (x ∷ more) l d heard some =
    by_level (one_more d l heard x) (λ e now. frame_or_fault-from more (l ++ x ∷ []) e now (omega (arith, length-append l (x ∷ []))))
  where
    by_level : Comes l x → ((e : DecoderParts) → HasHeard e (l ++ x ∷ []) → BeginsSpelled ((l ++ x ∷ []) ++ more) ⊎ HasFault ((l ++ x ∷ []) ++ more)) → BeginsSpelled (l ++ x ∷ more) ⊎ HasFault (l ++ x ∷ more)
    by_level (Comes.goes_on e now) on = subst (λ t. BeginsSpelled t ⊎ HasFault t) (append_assoc l (x ∷ []) more) (on e now)
    by_level (Comes.whole h spells) on = inl (record { h = h; w = l ++ x ∷ []; rest = more; spells = spells; whole = sym (append_assoc l (x ∷ []) more) })
    by_level (Comes.faulty kind fault) on = inr (record { kind = kind; front = l; rest = x ∷ more; some = some; whole = refl; fault = fault more })

-- a decoder that has heard the start of frame
pub frame_or_fault : (levels : List Level) → BeginsSpelled (Dominant ∷ levels) ⊎ HasFault (Dominant ∷ levels)
frame_or_fault levels =
    let begun : DecoderParts = record { front = first_front; behind = [] } in
    frame_or_fault-from levels (Dominant ∷ []) begun (HasHeard-begin begun refl refl) (omega arith)
