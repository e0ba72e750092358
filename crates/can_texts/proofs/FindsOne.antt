-- In levels one list is found, and no other.
use Rattle.std.proofs.Common.{◌≡◌, ◌⊎◌, inl, inr, ℕ, zero, suc, ◌+◌, ◌<◌, ◌≤◌, List, [], ◌∷◌, ◌++◌, length, refl, sym, ap, subst, ◌∙◌, append_assoc, arith, length-append}
use Rattle.std.proofs.lemmas.List.{append-nil, append_cancel_left}
use Rattle.can_frame.specs.declared.level.Level.{Level}
use Rattle.can_frame.specs.declared.level.Level.TheVariants.{Dominant, Recessive}
use Rattle.can_code.specs.declared.fault.CodeFault.{CodeFault}
use Rattle.can_code.specs.declared.fault.CodeFaultKind.{CodeFaultKind}
use Rattle.can_wire.specs.Heard.{HeardParts, heard_head, ack_slot, Spells}
use Rattle.can_wire.specs.Wire.{tail}
use Rattle.can_code.specs.CodeFaults.{IsCodeFault}
use Rattle.can_code.proofs.StuffedParts.{Spells-part, IsPart-from, IsPart-start}
use Rattle.can_wire.proofs.SpellingFronts.{Spells-apart}
use Rattle.can_code.proofs.OneCodeFault.{IsCodeFault-one}
use Rattle.can_code.proofs.FrameOrFault.{frame_or_fault}
use Rattle.can_texts.specs.Decoded.{Finds, SkipsToIdle}
use Rattle.can_texts.specs.declared.traces.finding.Finding.{Finding}
use Rattle.can_texts.specs.declared.traces.finding.Finding.TheVariants.{Frame, Fault}

-- ---- fronts of one list

-- of two fronts of one list one begins the other
begins : (a b c d : List Level) → a ++ b ≡ c ++ d → ((more : List Level) × (c ≡ a ++ more) × (b ≡ more ++ d)) ⊎ ((more : List Level) × (a ≡ c ++ more) × (d ≡ more ++ b))
begins [] b c d same = inl (c, refl, same)
begins (x ∷ a) b [] d same = inr (x ∷ a, refl, sym same)
begins (x ∷ a) b (y ∷ c) d same =
    let first : x ≡ y = cc in
    let others : a ++ b ≡ c ++ d = cc in
    elim (begins a b c d others) [
      | inl on ↦ inl (on.0, ap (λ l. y ∷ l) on.1 ∙ ap (λ z. z ∷ (a ++ on.0)) (sym first), on.2)
      | inr on ↦ inr (on.0, ap (λ l. x ∷ l) on.1 ∙ ap (λ z. z ∷ (c ++ on.0)) first, on.2)
    ]

same_length : (a b c d : List Level) → a ++ b ≡ c ++ d → length a ≡ length c → (a ≡ c) × (b ≡ d)
same_length [] b [] d same size = (refl, same)
same_length [] b (y ∷ c) d same size = absurd (omega arith)
same_length (x ∷ a) b [] d same size = absurd (omega arith)
same_length (x ∷ a) b (y ∷ c) d same size =
    let first : x ≡ y = cc in
    let others : a ++ b ≡ c ++ d = cc in
    let on = same_length a b c d others (omega arith) in
    (ap (λ l. x ∷ l) on.0 ∙ ap (λ z. z ∷ c) first, on.1)

-- ---- the search for eleven recessive levels

-- one search does not go on if another has ended
no_longer : (s t r q more : List Level) → SkipsToIdle s r → SkipsToIdle t q → t ≡ s ++ more → r ≡ more ++ q → more ≡ []
no_longer s t r q [] first second longer rest = refl
no_longer s t r q (x ∷ more) first second longer rest =
    absurd (second.first s (x ∷ more) longer (λ none. cc) (first.idle (λ none. let nothing : (x ∷ more) ++ q ≡ [] = sym rest ∙ none in cc)))

SkipsToIdle-one : (s t r q : List Level) → SkipsToIdle s r → SkipsToIdle t q → s ++ r ≡ t ++ q → (s ≡ t) × (r ≡ q)
SkipsToIdle-one s t r q first second same = elim (begins s r t q same) [
  | inl on ↦
      let none = no_longer s t r q on.0 first second on.1 on.2 in
      let shape : t ≡ s = on.1 ∙ ap (λ m. s ++ m) none ∙ append-nil s in
      (sym shape, on.2 ∙ ap (λ m. m ++ q) none)
  | inr on ↦
      let none = no_longer t s q r on.0 second first on.1 on.2 in
      (on.1 ∙ ap (λ m. t ++ m) none ∙ append-nil t, sym (on.2 ∙ ap (λ m. m ++ r) none))
]

-- ---- what is found first

-- a spelling begins with no recessive level
pub no_recessive_start : (h : HeardParts) (w rest levels : List Level) → Spells h w → w ++ rest ≡ Recessive ∷ levels → ⊥
no_recessive_start h w rest levels spells same =
    let p = Spells-part h w spells in
    let ten = tail (ack_slot h.acked) h.last in
    IsPart-start (heard_head h ++ p.0) p.1 (ten ++ rest) levels (IsPart-from h p.0 p.1 p.2) (sym (append_assoc p.1 ten rest) ∙ ap (λ l. l ++ rest) (sym p.4) ∙ same)

no_empty : (h : HeardParts) (w rest : List Level) → Spells h w → w ++ rest ≡ [] → ⊥
no_empty h w rest spells none =
    let ten = tail (ack_slot h.acked) h.last in
    absurd (omega (arith, ap length none, length-append w rest, ap length spells.spelling.whole, length-append spells.spelling.stuffed ten))

-- what follows what is found first, by what that is
abbrev Follows : ℕ → List Level → List Finding → Type 0
Follows place levels [] = levels ≡ []
Follows place levels (Frame p h ∷ found) = (w : List Level) × (rest : List Level) × Spells h w × (levels ≡ w ++ rest) × (p ≡ place) × Finds (place + length w) rest found
Follows place levels (Fault p kind q ∷ found) = (front : List Level) × (skipped : List Level) × (rest : List Level) × (levels ≡ front ++ (skipped ++ rest))
    × IsCodeFault levels (record { kind = kind; place = length front }) × SkipsToIdle skipped rest × (p ≡ place) × (q ≡ place + length front) × Finds (place + length (front ++ skipped)) rest found

at_end : (place : ℕ) (found : List Finding) → Finds place [] found → found ≡ []
at_end place found finds = by_levels place [] found finds refl
  where
    by_levels : (p : ℕ) (l : List Level) (f : List Finding) → Finds p l f → l ≡ [] → f ≡ []
    by_levels p _ _ (Finds.over _) is = refl
    by_levels p _ _ (Finds.idle _ rest f on) is = cc
    by_levels p _ _ (Finds.frame _ h w rest f spells on) is = absurd (no_empty h w rest spells is)
    by_levels p _ _ (Finds.fault _ levels front skipped rest kind f whole fault skips on) is = cc

at_recessive : (place : ℕ) (levels : List Level) (found : List Finding) → Finds place (Recessive ∷ levels) found → Finds (place + 1) levels found
at_recessive place levels found finds = by_levels place (Recessive ∷ levels) found finds refl
  where
    by_levels : (p : ℕ) (l : List Level) (f : List Finding) → Finds p l f → l ≡ Recessive ∷ levels → Finds (p + 1) levels f
    by_levels p _ _ (Finds.over _) is = cc
    by_levels p _ _ (Finds.idle _ rest f on) is = let same : rest ≡ levels = cc in subst (λ l. Finds (p + 1) l f) same on
    by_levels p _ _ (Finds.frame _ h w rest f spells on) is = absurd (no_recessive_start h w rest levels spells is)
    by_levels p _ _ (Finds.fault _ others front skipped rest kind f whole fault skips on) is = cc

at_dominant : (place : ℕ) (levels : List Level) (found : List Finding) → Finds place (Dominant ∷ levels) found → Follows place (Dominant ∷ levels) found
at_dominant place levels found finds = by_levels place (Dominant ∷ levels) found finds refl
  where
    by_levels : (p : ℕ) (l : List Level) (f : List Finding) → Finds p l f → l ≡ Dominant ∷ levels → Follows p l f
    by_levels p _ _ (Finds.over _) is = refl
    by_levels p _ _ (Finds.idle _ rest f on) is = cc
    by_levels p _ _ (Finds.frame _ h w rest f spells on) is = (w, rest, spells, refl, refl, on)
    by_levels p _ _ (Finds.fault _ others front skipped rest kind f whole fault skips on) is = (front, skipped, rest, whole, fault, skips, refl, refl, on)

-- ---- all that is found

-- a fault comes after the start of frame
fault_behind : (rest front : List Level) (kind : CodeFaultKind) → IsCodeFault (Dominant ∷ rest) (record { kind = kind; place = length front }) → 0 < length front
fault_behind rest front kind fault = elim (frame_or_fault rest) [
  | inl begun ↦ absurd (fault.unspelled begun.h begun.w begun.rest begun.spells (sym begun.whole))
  | inr has ↦
      let one = IsCodeFault-one (Dominant ∷ rest) (record { kind = kind; place = length front }) (record { kind = has.kind; place = length has.front }) fault has.fault in
      omega (arith, ap (λ (x : CodeFault). x.place) one, has.some)
]

module _ (place : ℕ) (behind : List Level) where
  abbrev levels : List Level
  levels = Dominant ∷ behind

  -- levels with a fault begin with no frame
  not_both : (h : HeardParts) (fault : CodeFault) (w rest : List Level) → Spells h w → levels ≡ w ++ rest → IsCodeFault levels fault → ⊥
  not_both h fault w rest spells whole is_fault = is_fault.unspelled h w rest spells (sym whole)

  abbrev One : ℕ → Type 0
  One n = (p : ℕ) (l : List Level) (f g : List Finding) → length l ≤ n → Finds p l f → Finds p l g → f ≡ g

  module _ (n : ℕ) (within : length levels ≤ suc n) (on : One n) where
    one_first : (f g : List Finding) → Follows place levels f → Follows place levels g → f ≡ g
    one_first [] g first second = cc
    one_first (Frame p h ∷ f) [] first second = cc
    one_first (Fault p kind k ∷ f) [] first second = cc
    one_first (Frame p h ∷ f) (Fault q kind k ∷ g) first second = absurd (not_both h (record { kind = kind; place = length second.0 }) first.0 first.1 first.2 first.3 second.4)
    one_first (Fault p kind k ∷ f) (Frame q h ∷ g) first second = absurd (not_both h (record { kind = kind; place = length first.0 }) second.0 second.1 second.2 second.3 first.4)
    one_first (Frame p h ∷ f) (Frame q j ∷ g) first second =
        let w = first.0 in
        let apart = Spells-apart h j w second.0 first.1 second.1 first.2 second.2 (sym first.3 ∙ second.3) in
        let rests : first.1 ≡ second.1 = append_cancel_left w first.1 second.1 (sym first.3 ∙ second.3 ∙ ap (λ l. l ++ second.1) (sym apart.1)) in
        let ten = tail (ack_slot h.acked) h.last in
        let shorter : length first.1 ≤ n = omega (
          arith,
          within,
          ap length first.3,
          length-append w first.1,
          ap length first.2.spelling.whole,
          length-append first.2.spelling.stuffed ten,
        ) in
        let other : Finds (place + length w) first.1 g = subst (λ v. Finds (place + length v) first.1 g) (sym apart.1) (subst (λ l. Finds (place + length second.0) l g) (sym rests) second.5) in
        let later : f ≡ g = on (place + length w) first.1 f g shorter first.5 other in
        ap (λ k. Frame k h ∷ f) (first.4 ∙ sym second.4) ∙ ap (λ x. Frame q x ∷ f) apart.0 ∙ ap (λ x. Frame q j ∷ x) later
    one_first (Fault p kind k ∷ f) (Fault q other m ∷ g) first second =
        let one = IsCodeFault-one levels (record { kind = kind; place = length first.0 }) (record { kind = other; place = length second.0 }) first.4 second.4 in
        let places : length first.0 ≡ length second.0 = ap (λ (x : CodeFault). x.place) one in
        let kinds : kind ≡ other = ap (λ (x : CodeFault). x.kind) one in
        let fronts = same_length first.0 (first.1 ++ first.2) second.0 (second.1 ++ second.2) (sym first.3 ∙ second.3) places in
        let search = SkipsToIdle-one first.1 second.1 first.2 second.2 first.5 second.5 fronts.1 in
        let here = place + length (first.0 ++ first.1) in
        let ends : length (second.0 ++ second.1) ≡ length (first.0 ++ first.1) = ap (λ l. length (l ++ second.1)) (sym fronts.0) ∙ ap (λ l. length (first.0 ++ l)) (sym search.0) in
        let same : Finds here first.2 g = subst (λ k. Finds (place + k) first.2 g) ends (subst (λ l. Finds (place + length (second.0 ++ second.1)) l g) (sym search.1) second.8) in
        let shorter : length first.2 ≤ n = omega (arith, within, fault_behind behind first.0 kind first.4, ap length first.3, length-append first.0 (first.1 ++ first.2), length-append first.1 first.2) in
        let later : f ≡ g = on here first.2 f g shorter first.8 same in
        let faults : k ≡ m = first.7 ∙ ap (λ x. place + x) places ∙ sym second.7 in
        ap (λ x. Fault x kind k ∷ f) (first.6 ∙ sym second.6) ∙ ap (λ x. Fault q x k ∷ f) kinds ∙ ap (λ x. Fault q other x ∷ f) faults ∙ ap (λ x. Fault q other m ∷ x) later

Finds-only : (n place : ℕ) (levels : List Level) (f g : List Finding) → length levels ≤ n → Finds place levels f → Finds place levels g → f ≡ g
Finds-only n place [] f g within first second = at_end place f first ∙ sym (at_end place g second)
Finds-only zero place (x ∷ levels) f g within first second = absurd (omega arith)
Finds-only (suc n) place (Recessive ∷ levels) f g within first second =
    Finds-only n (place + 1) levels f g (omega (arith, within)) (at_recessive place levels f first) (at_recessive place levels g second)
Finds-only (suc n) place (Dominant ∷ levels) f g within first second =
    one_first place levels n within (Finds-only n) f g (at_dominant place levels f first) (at_dominant place levels g second)

pub Finds-one : (place : ℕ) (levels : List Level) (f g : List Finding) → Finds place levels f → Finds place levels g → f ≡ g
Finds-one place levels f g = Finds-only (length levels) place levels f g (omega arith)
