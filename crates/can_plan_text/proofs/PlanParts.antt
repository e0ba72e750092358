-- The parts of a document, read one after another.
use Rattle.std.proofs.Common.{◌≡◌, ℕ, zero, suc, ◌+◌, ◌<◌, true, false, List, [], ◌∷◌, ◌++◌, length, Option, Some, None, codes, refl, sym, ap, subst, ◌∙◌, inl, arith}
use Rattle.std.specs.Prelude.{slice_get}
use Rattle.std.proofs.lemmas.Option.{slice_get_within}
use Rattle.toml.specs.Data.{Data, string}
use Rattle.can_plan_text.specs.declared.name.Name.{Name}
use Rattle.can_frame.specs.Arbitration.{arbitration_field}
use Rattle.can_frame.specs.Parts.{Parts}
use Rattle.can_frame.proofs.OneText.{same_frame}
use Rattle.document_values.specs.Demands.{Demands, demands_on_each, followed, AllMet, IsFirstUnmet}
use Rattle.document_values.specs.Values.{named, ArePaired, IsRequired}
use Rattle.document_values.proofs.DemandLemmas.{met-followed, unmet-first, unmet-later}
use Rattle.document_values.proofs.ReadLists.{length-paired}
use Rattle.can_plan_text.specs.declared.field.PlanField.{PlanField}
use Rattle.can_plan_text.specs.declared.plan.Planned.{Planned}
use Rattle.can_plan_text.specs.Names.{HasName, SaysName}
use Rattle.can_plan_text.specs.Order.{HaveOwnFields, HaveOwnNames, IsNamedAgain, IsRepeated, is_one_name}
use Rattle.can_plan_text.specs.Plans.{IsHeadText, IsNew, IsNewName, NamesHead, SaysHead, SaysMessage, SaysText, message_demands, messages_in, name_demands, new_demands, plan_demands, rate_in, plan_top_demands}
use Rattle.can_plan_text.proofs.OwnNames.{one-name-from, one-name-to}

-- ---- pairs

paired-at : {A B : Type 0} (R : A → B → Type 0) (xs : List A) (ys : List B) (n : ℕ) (x : A) → ArePaired R xs ys → slice_get xs n ≡ Some x → (y : B) × (slice_get ys n ≡ Some y) × R x y
paired-at R [] ys n x p is = absurd (cc)
paired-at R (z ∷ xs) [] n x p is = absurd p
paired-at R (z ∷ xs) (y ∷ ys) zero x p is = let e : z ≡ x = (let s : Some z ≡ Some x = is in cc) in (y, refl, subst (λ w. R w y) e p.0)
paired-at R (z ∷ xs) (y ∷ ys) (suc n) x p is = paired-at R xs ys n x p.1 is

-- what is paired with an element
pub paired-back : {A B : Type 0} (R : A → B → Type 0) (xs : List A) (ys : List B) (n : ℕ) (y : B) → ArePaired R xs ys → slice_get ys n ≡ Some y → (x : A) × (slice_get xs n ≡ Some x) × R x y
paired-back R xs [] n y p is = absurd (cc)
paired-back R [] (z ∷ ys) n y p is = absurd p
paired-back R (x ∷ xs) (z ∷ ys) zero y p is = let e : z ≡ y = (let s : Some z ≡ Some y = is in cc) in (x, refl, subst (λ w. R x w) e p.0)
paired-back R (x ∷ xs) (z ∷ ys) (suc n) y p is = paired-back R xs ys n y p.1 is

-- ---- requirements on each

module _ {F A : Type 0} (one : ℕ → A → Demands F) where
  each-met : (from : ℕ) (xs : List A) → ((k p : ℕ) (y : A) → p ≡ from + k → slice_get xs k ≡ Some y → AllMet (one p y)) → AllMet (demands_on_each one from xs)
  each-met from [] met = tt
  each-met from (x ∷ xs) met =
      met-followed (one from x) _ (met 0 from x (omega arith) refl) (each-met (from + 1) xs (λ k p y e is. met (suc k) p y (omega (arith, e)) is))

  each-first : (wrong : F) (from : ℕ) (xs : List A) (n : ℕ) (x : A) → slice_get xs n ≡ Some x →
      ((k p : ℕ) (y : A) → k < n → p ≡ from + k → slice_get xs k ≡ Some y → AllMet (one p y)) → ((p : ℕ) → p ≡ from + n → IsFirstUnmet wrong (one p x)) →
      IsFirstUnmet wrong (demands_on_each one from xs)
  each-first wrong from [] n x is met unmet = absurd (cc)
  each-first wrong from (z ∷ xs) zero x is met unmet =
      let e : x ≡ z = (let s : Some z ≡ Some x = is in cc) in
      unmet-first wrong (one from z) _ (subst (λ w. IsFirstUnmet wrong (one from w)) e (unmet from (omega arith)))
  each-first wrong from (z ∷ xs) (suc n) x is met unmet =
      unmet-later wrong (one from z) _ (met 0 from z (omega arith) (omega arith) refl)
      (each-first wrong (from + 1) xs n x is (λ k p y less e there. met (suc k) p y (omega (arith, less)) (omega (arith, e)) there) (λ p e. unmet p (omega (arith, e))))

-- ---- heads

-- a text is the head of one frame
pub one-head_text : (text : List ℕ) (f g : Parts) → IsHeadText text f → IsHeadText text g → f ≡ g
one-head_text text f g a b = same_frame f g a.0 b.0 (a.1 ∙ sym b.1)

one-head : (h : Data) (f g : Parts) → SaysHead h f → SaysHead h g → f ≡ g
one-head h f g a b =
    let texts : a.0 ≡ b.0 = (let e : string a.0 ≡ string b.0 = sym a.1 ∙ b.1 in cc) in
    one-head_text b.0 f g (subst (λ (text : List ℕ). IsHeadText text f) texts a.2) b.2

one-required : (o : Option Data) (f g : Parts) → IsRequired (λ h. SaysHead h f) o → IsRequired (λ h. SaysHead h g) o → f ≡ g
one-required None f g a b = absurd a
one-required (Some h) f g a b = one-head h f g a b

one-name : (d : Data) (f g : Parts) → NamesHead d f → NamesHead d g → f ≡ g
one-name d f g a b = one-required (named (codes "frame") d) f g a b

-- ---- names

has-name : (o : Option Data) (n : Option Name) (text : List ℕ) → SaysName o n → o ≡ Some (string text) → HasName n text
has-name None n text says is = absurd (cc)
has-name (Some d) n text says is =
    let first : d ≡ string text = (let e : Some d ≡ Some (string text) = is in cc) in
    let same : says.0 ≡ text = (let e : string says.0 ≡ string text = sym says.1 ∙ first in cc) in
    subst (λ (t : List ℕ). HasName n t) same says.2

one-text : (n : Option Name) (a b : List ℕ) → HasName n a → HasName n b → a ≡ b
one-text None a b x y = absurd x
one-text (Some name) a b x y = sym x ∙ y

says-name : (o : Option Data) (n : Option Name) (text : List ℕ) → SaysName o n → HasName n text → o ≡ Some (string text)
says-name None n text says has = absurd (subst (λ (k : Option Name). HasName k text) says has)
says-name (Some d) n text says has = ap Some (says.1 ∙ ap string (one-text n says.0 text says.2 has))

module _ (rate : ℕ) (d : Data) (p : Planned) (says : SaysMessage rate d p) where
  head-named : NamesHead d p.head
  head-named = subst (λ (f : Parts). NamesHead d f) (sym says.2.head) says.1.head

  field-named : (f : Parts) → NamesHead d f → arbitration_field f ≡ p.message.field
  field-named f names = ap arbitration_field (one-name d f p.head names head-named) ∙ sym p.named

  name-said : SaysName (named (codes "name") d) p.name
  name-said = subst (λ (n : Option Name). SaysName (named (codes "name") d) n) (sym says.2.name) says.1.name

  name-has : (text : List ℕ) → SaysText d text → HasName p.name text
  name-has text is = has-name (named (codes "name") d) p.name text name-said is

  name-from : (text : List ℕ) → HasName p.name text → SaysText d text
  name-from text has = says-name (named (codes "name") d) p.name text name-said has

-- ---- messages with fields of their own

module _ (rate : ℕ) (ds : List Data) (listed : List Planned) (paired : ArePaired (SaysMessage rate) ds listed) where
  new-at : (place k : ℕ) (d : Data) → HaveOwnFields place listed → k < place → slice_get ds k ≡ Some d → IsNew ds k d
  new-at place k d apart less here n e f g earlier there names_f names_g =
      let a = paired-at (SaysMessage rate) ds listed n e paired there in
      let b = paired-at (SaysMessage rate) ds listed k d paired here in
      λ same. apart n k a.0 b.0 earlier less a.1 b.1 (sym (field-named rate e a.0 a.2 f names_f) ∙ same ∙ field-named rate d b.0 b.2 g names_g)

  all-new : HaveOwnFields (length listed) listed → AllMet (demands_on_each (new_demands ds) 0 ds)
  all-new apart = each-met (new_demands ds) 0 ds (λ k p d e is.
      let size = length-paired (SaysMessage rate) ds listed paired in
      let within = slice_get_within ds k d is in
      let same : k ≡ p = omega (arith, e) in
      subst (λ (n : ℕ). AllMet (new_demands ds n d)) same (new-at (length listed) k d apart (omega (arith, size, within)) is, tt))

  first-repeated : (wrong : PlanField) → IsRepeated wrong listed → IsFirstUnmet wrong (demands_on_each (new_demands ds) 0 ds)
  first-repeated wrong r =
      let e = paired-back (SaysMessage rate) ds listed r.before r.first paired r.is_first in
      let d = paired-back (SaysMessage rate) ds listed r.place r.second paired r.is_second in
      let seen : IsNew ds r.place d.0 → ⊥ = λ new.
      new r.before e.0 r.first.head r.second.head r.earlier e.1 (head-named rate e.0 r.first e.2) (head-named rate d.0 r.second d.2)
      (sym r.first.named ∙ r.same ∙ r.second.named) in
      each-first (new_demands ds) wrong 0 ds r.place d.0 d.1
      (λ k p y less at is. subst (λ (n : ℕ). AllMet (new_demands ds n y)) (omega (arith, at)) (new-at r.place k y r.apart less is, tt))
      (λ p at. subst (λ (n : ℕ). IsFirstUnmet wrong (new_demands ds n d.0)) (omega (arith, at)) (inl (sym r.told, seen)))

  -- names of their own
  name-new-at : (place k : ℕ) (d : Data) → HaveOwnNames place listed → k < place → slice_get ds k ≡ Some d → IsNewName ds k d
  name-new-at place k d own less here n e text earlier there says_e says_d =
      let a = paired-at (SaysMessage rate) ds listed n e paired there in
      let b = paired-at (SaysMessage rate) ds listed k d paired here in
      let one : is_one_name b.0.name a.0.name ≡ true = one-name-from b.0.name a.0.name text (name-has rate d b.0 b.2 text says_d) (name-has rate e a.0 a.2 text says_e) in
      let differ : is_one_name b.0.name a.0.name ≡ false = own n k a.0 b.0 earlier less a.1 b.1 in
      absurd (cc)

  all-named : HaveOwnNames (length listed) listed → AllMet (demands_on_each (name_demands ds) 0 ds)
  all-named own = each-met (name_demands ds) 0 ds (λ k p d e is.
      let size = length-paired (SaysMessage rate) ds listed paired in
      let within = slice_get_within ds k d is in
      let same : k ≡ p = omega (arith, e) in
      subst (λ (n : ℕ). AllMet (name_demands ds n d)) same (name-new-at (length listed) k d own (omega (arith, size, within)) is, tt))

  first-named-again : (wrong : PlanField) → IsNamedAgain wrong listed → IsFirstUnmet wrong (demands_on_each (name_demands ds) 0 ds)
  first-named-again wrong r =
      let e = paired-back (SaysMessage rate) ds listed r.before r.first paired r.is_first in
      let d = paired-back (SaysMessage rate) ds listed r.place r.second paired r.is_second in
      let both = one-name-to r.second.name r.first.name r.same in
      let seen : IsNewName ds r.place d.0 → ⊥ = λ new.
      new r.before e.0 both.0 r.earlier e.1 (name-from rate e.0 r.first e.2 both.0 both.2) (name-from rate d.0 r.second d.2 both.0 both.1) in
      each-first (name_demands ds) wrong 0 ds r.place d.0 d.1
      (λ k p y less at is. subst (λ (n : ℕ). AllMet (name_demands ds n y)) (omega (arith, at)) (name-new-at r.place k y r.apart less is, tt))
      (λ p at. subst (λ (n : ℕ). IsFirstUnmet wrong (name_demands ds n d.0)) (omega (arith, at)) (inl (sym r.told, seen)))

-- ---- the document

module _ (document : Data) (ds : List Data) (rate : ℕ) (are : ds ≡ messages_in document) (said : rate ≡ rate_in document) where
  pub top-unmet : (wrong : PlanField) → IsFirstUnmet wrong (plan_top_demands document) → IsFirstUnmet wrong (plan_demands document)
  top-unmet wrong unmet = unmet-first wrong (plan_top_demands document) _ unmet

  abbrev listed_demands : Demands PlanField
  listed_demands = demands_on_each (message_demands rate) 0 ds

  to-document : (P : Demands PlanField → Type 0) → P listed_demands → P (demands_on_each (message_demands (rate_in document)) 0 (messages_in document))
  to-document P p = subst (λ (r : ℕ). P (demands_on_each (message_demands r) 0 (messages_in document))) said (subst (λ (xs : List Data). P (demands_on_each (message_demands rate) 0 xs)) are p)

  pub listed-unmet : (wrong : PlanField) → AllMet (plan_top_demands document) → IsFirstUnmet wrong listed_demands → IsFirstUnmet wrong (plan_demands document)
  listed-unmet wrong top unmet =
      unmet-later wrong (plan_top_demands document) _ top
      (unmet-first wrong (demands_on_each (message_demands (rate_in document)) 0 (messages_in document)) _ (to-document (λ d. IsFirstUnmet wrong d) unmet))

  module _ (top : AllMet (plan_top_demands document)) (met : AllMet listed_demands) (listed : List Planned) (paired : ArePaired (SaysMessage rate) ds listed) where
    abbrev each_field : Demands PlanField
    each_field = demands_on_each (new_demands (messages_in document)) 0 (messages_in document)

    abbrev each_name : Demands PlanField
    each_name = demands_on_each (name_demands (messages_in document)) 0 (messages_in document)

    -- the faults that follow the requirements on each message by itself
    behind-each : (wrong : PlanField) → IsFirstUnmet wrong (followed each_field each_name) → IsFirstUnmet wrong (plan_demands document)
    behind-each wrong unmet =
        unmet-later wrong (plan_top_demands document) _ top
        (unmet-later wrong (demands_on_each (message_demands (rate_in document)) 0 (messages_in document)) (followed each_field each_name) (to-document AllMet met) unmet)

    fields-met : HaveOwnFields (length listed) listed → AllMet each_field
    fields-met apart = subst (λ (xs : List Data). AllMet (demands_on_each (new_demands xs) 0 xs)) are (all-new rate ds listed paired apart)

    pub repeated-unmet : (wrong : PlanField) → IsRepeated wrong listed → IsFirstUnmet wrong (plan_demands document)
    repeated-unmet wrong r =
        behind-each wrong
        (unmet-first wrong each_field each_name
        (subst (λ (xs : List Data). IsFirstUnmet wrong (demands_on_each (new_demands xs) 0 xs)) are (first-repeated rate ds listed paired wrong r)))

    pub named-again-unmet : (wrong : PlanField) → HaveOwnFields (length listed) listed → IsNamedAgain wrong listed → IsFirstUnmet wrong (plan_demands document)
    named-again-unmet wrong apart r =
        behind-each wrong
        (unmet-later wrong each_field each_name (fields-met apart)
        (subst (λ (xs : List Data). IsFirstUnmet wrong (demands_on_each (name_demands xs) 0 xs)) are (first-named-again rate ds listed paired wrong r)))

    pub plan-met : HaveOwnFields (length listed) listed → HaveOwnNames (length listed) listed → AllMet (plan_demands document)
    plan-met apart own =
        met-followed (plan_top_demands document) _ top
        (met-followed (demands_on_each (message_demands (rate_in document)) 0 (messages_in document)) _ (to-document AllMet met)
        (met-followed each_field each_name (fields-met apart)
        (subst (λ (xs : List Data). AllMet (demands_on_each (name_demands xs) 0 xs)) are (all-named rate ds listed paired own))))
