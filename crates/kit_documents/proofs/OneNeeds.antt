-- The words of a case determine its needs.
use Rattle.std.proofs.Common.{◌≡◌, ℕ, Bool, true, false, List, [], ◌∷◌, ◌++◌, map, codes, if◌then◌else◌, Option, refl, sym, ap, subst, ◌∙◌}
use Rattle.toml.specs.Data.{Data, string}
use Rattle.document_values.specs.Values.{named}
use Rattle.kit_documents.specs.declared.cases.words.Needs.{Needs}
use Rattle.kit_documents.specs.Cases.{NeedsAll}
use Rattle.kit_documents.specs.CaseWords.{need_words, SaysNeeds}
use Rattle.kit_documents.proofs.WordLists.{differ, hold_words, not_first-last, not_first-other, queue_words, recovery_word, IsNotFirst}

same_head : (word : List ℕ) (a b : Bool) (xs ys : List (List ℕ)) → IsNotFirst word xs → IsNotFirst word ys
    → map string ((if a then word ∷ [] else []) ++ xs) ≡ map string ((if b then word ∷ [] else []) ++ ys) → (a ≡ b) × (map string xs ≡ map string ys)
unfolding IsNotFirst
same_head word true true xs ys none other e = (refl, cc)
same_head word true false xs ys none other e = absurd (other (map string xs) (sym e))
same_head word false true xs ys none other e = absurd (none (map string ys) e)
same_head word false false xs ys none other e = (refl, e)

same_last : (word : List ℕ) (a b : Bool) → map string (if a then word ∷ [] else []) ≡ map string (if b then word ∷ [] else []) → a ≡ b
same_last word true true e = refl
same_last word true false e = absurd (cc)
same_last word false true e = absurd (cc)
same_last word false false e = refl

no_forced : (n : Needs) → IsNotFirst (codes "forced") (hold_words n)
no_forced n =
    not_first-other (codes "forced") (codes "hold") n.hold (queue_words n) (differ (codes "forced") (codes "hold") refl)
    (not_first-other (codes "forced") (codes "queue") n.queue (recovery_word n) (differ (codes "forced") (codes "queue") refl)
    (not_first-last (codes "forced") (codes "recovery") n.recovery (differ (codes "forced") (codes "recovery") refl)))

no_hold : (n : Needs) → IsNotFirst (codes "hold") (queue_words n)
no_hold n =
    not_first-other (codes "hold") (codes "queue") n.queue (recovery_word n) (differ (codes "hold") (codes "queue") refl)
    (not_first-last (codes "hold") (codes "recovery") n.recovery (differ (codes "hold") (codes "recovery") refl))

no_queue : (n : Needs) → IsNotFirst (codes "queue") (recovery_word n)
no_queue n = not_first-last (codes "queue") (codes "recovery") n.recovery (differ (codes "queue") (codes "recovery") refl)

-- words determine the needs
pub needs-same : (a b : Needs) → map string (need_words a) ≡ map string (need_words b) → a ≡ b
needs-same a b e =
    let first = same_head (codes "forced") a.forced b.forced (hold_words a) (hold_words b) (no_forced a) (no_forced b) e in
    let second = same_head (codes "hold") a.hold b.hold (queue_words a) (queue_words b) (no_hold a) (no_hold b) first.1 in
    let third = same_head (codes "queue") a.queue b.queue (recovery_word a) (recovery_word b) (no_queue a) (no_queue b) second.1 in
    let last : a.recovery ≡ b.recovery = same_last (codes "recovery") a.recovery b.recovery third.1 in
    let of : Bool → Bool → Bool → Bool → Needs = λ forced hold queue recovery. record { forced = forced; hold = hold; queue = queue; recovery = recovery } in
    ap (λ forced. of forced a.hold a.queue a.recovery) first.0 ∙ ap (λ hold. of b.forced hold a.queue a.recovery) second.0
    ∙ ap (λ queue. of b.forced b.hold queue a.recovery) third.0 ∙ ap (of b.forced b.hold b.queue) last

pub one-needs : (field : Option Data) (a b : Needs) → SaysNeeds field a → SaysNeeds field b → a ≡ b
one-needs field a b x y = needs-same a b (sym x.said ∙ y.said)

-- if one reading of the needs includes all that is required, so does each
pub needs-all : (d : Data) (a b : Needs) → SaysNeeds (named (codes "needs") d) a → NeedsAll d b → NeedsAll d a
needs-all d a b said all = subst (NeedsAll d) (one-needs (named (codes "needs") d) b a all.said said) all
