-- The numbers of the cases without a transcript, by name: with one case more, and with one transcript more.
use denote.Ref.{Bor}
use Rattle.std.specs.BTreeMap.{BTreeMap, Updates, UpdatesBy}
use Rattle.std.specs.Cmp.Lexicographic.{slice_cmp}
use Rattle.std.specs.List.{position, position_from}
use Rattle.std.specs.Ordering.{nat_cmp}
use Rattle.std.specs.Option.{unwrap_or}
use Rattle.std.specs.Str.{bytes_eq}
use Rattle.std.proofs.Common.{◌≡◌, ℕ, ◌+◌, ◌<◌, Bool, true, false, cond, is_some, List, [], ◌∷◌, ◌++◌, length, get_or, map, take, Option, Some, None, refl, sym, ap, ◌∙◌, arith}
use Rattle.std.proofs.lemmas.Bool.{false_from_ne_true}
use Rattle.std.proofs.lemmas.Iterator.Adapters.{position_from-zero}
use Rattle.std.proofs.lemmas.List.{map-append, take_more}
use Rattle.std.proofs.lemmas.Map.Text.{btree_map_updates_str, is_eq-slice_cmp}
use Rattle.std.proofs.lemmas.Slice.Eq.{bytes_eq-Decides}
use Rattle.toml.specs.Data.{Data, same_key}
use Rattle.toml.specs.View.{view}
use Rattle.toml.specs.declared.value.Value.{Value}
use Rattle.kit_documents.specs.Cases.{case_name}
use Rattle.kit_documents.specs.Transcripts.{case_of, place_where}
use Rattle.kit_documents.specs.Untold.{place_at, with_place, HasUntold}

-- ---- the first place in a list with one element more

-- this place, or that one if there is none
or_place : Option ℕ → Option ℕ → Option ℕ
or_place None other = other
or_place (Some place) other = Some place

at_last : {X : Type 0} → (X → Bool) → ℕ → X → Option ℕ
at_last test place x = cond (test x) (Some place) None

from-more : {X : Type 0} (test : X → Bool) (start : ℕ) (xs : List X) (x : X) → position_from test start (xs ++ x ∷ []) ≡ or_place (position_from test start xs) (at_last test (start + length xs) x)
unfolding or_place at_last
from-more test start [] x = ap (λ n. cond (test x) (Some n) None) (omega arith)
from-more test start (y ∷ xs) x =
    let later : position_from test (start + 1) (xs ++ x ∷ []) ≡ or_place (position_from test (start + 1) xs) (at_last test (start + length (y ∷ xs)) x) =
    from-more test (start + 1) xs x ∙ ap (λ n. or_place (position_from test (start + 1) xs) (at_last test n x)) (omega arith) in
    elim (test y) as (λ b. cond b (Some start) (position_from test (start + 1) (xs ++ x ∷ [])) ≡ or_place (cond b (Some start) (position_from test (start + 1) xs)) (at_last test (start + length (y ∷ xs)) x)) [
      | true ↦ refl
      | false ↦ later
    ]

position-more : {X : Type 0} (test : X → Bool) (xs : List X) (x : X) → position test (xs ++ x ∷ []) ≡ or_place (position test xs) (at_last test (length xs) x)
position-more test xs x =
    position_from-zero test (xs ++ x ∷ [])
    ∙ from-more test 0 xs x
    ∙ ap (λ n. or_place (position_from test 0 xs) (at_last test n x)) (omega arith)
    ∙ ap (λ o. or_place o (at_last test (length xs) x)) (sym (position_from-zero test xs))

-- ---- whether two texts are the same

same-here : (a b : List ℕ) → a ≡ b → same_key b a ≡ true
same-here a b is = is_eq-slice_cmp b a ∙ (bytes_eq-Decides b a).1 (sym is)

same-apart : (a b : List ℕ) → bytes_eq a b ≡ false → same_key b a ≡ false
same-apart a b apart = false_from_ne_true _ (λ same.
    let other : bytes_eq a b ≡ true = (bytes_eq-Decides a b).1 (sym ((bytes_eq-Decides b a).0 (sym (is_eq-slice_cmp b a) ∙ same))) in cc)

-- ---- cases

first_or : (o : Option ℕ) (n : ℕ) → Some (unwrap_or o n) ≡ or_place o (Some n)
unfolding or_place
first_or None n = refl
first_or (Some k) n = refl

or_none : (o : Option ℕ) → o ≡ or_place o None
unfolding or_place
or_none None = refl
or_none (Some k) = refl

-- with the place of one case more
pub untold-case : (places more : BTreeMap (Bor (List ℕ)) ℕ) (cases : List Data) (d : Data) (name : List ℕ) (n : ℕ) → n ≡ length cases → name ≡ case_name d
    → ((text : List ℕ) → place_at more text ≡ with_place (place_at places) name n text)
    → HasUntold places cases [] → HasUntold more (cases ++ d ∷ []) []
unfolding at_last
untold-case places more cases d name n last says adds before = λ text.
    let old = place_where case_name text cases in
    let goal : Bool → Type 0 = λ b. bytes_eq name text ≡ b → cond b (Some (unwrap_or (place_at places name) n)) (place_at places text) ≡ or_place old (at_last (λ table. same_key text (case_name table)) n d) in
    let cases_of : (b : Bool) → goal b = elim [
      | true ↦ λ is.
          let same : name ≡ text = (bytes_eq-Decides name text).0 is in
          let known : place_at places name ≡ old = ap (λ t. place_at places t) same ∙ before text in
          let found : same_key text (case_name d) ≡ true = ap (λ t. same_key text t) (sym says) ∙ same-here name text same in
          ap (λ o. Some (unwrap_or o n)) known ∙ first_or old n ∙ ap (λ b. or_place old (cond b (Some n) None)) (sym found)
      | false ↦ λ apart.
          let other : same_key text (case_name d) ≡ false = ap (λ t. same_key text t) (sym says) ∙ same-apart name text apart in
          before text ∙ or_none old ∙ ap (λ b. or_place old (cond b (Some n) None)) (sym other)
    ] in
    adds text ∙ cases_of (bytes_eq name text) refl ∙ ap (λ k. or_place old (at_last (λ table. same_key text (case_name table)) k d)) last
    ∙ sym (position-more (λ table. same_key text (case_name table)) cases d)

twice : {X : Type 0} (b : Bool) (x y z : X) → cond b x (cond b y z) ≡ cond b x z
twice true x y z = refl
twice false x y z = refl

-- a name that had no number has this one
pub place-new : (old new : BTreeMap (Bor (List ℕ)) ℕ) (name : Bor (List ℕ)) (place : ℕ) → None ≡ place_at old name.now
    → Updates (λ a b. slice_cmp nat_cmp a.now b.now) old new name (Some place)
    → (text : List ℕ) → place_at new text ≡ with_place (place_at old) name.now place text
place-new old new name place none updates text =
    btree_map_updates_str name.now old new (Some place) updates text
    ∙ ap (λ o. cond (bytes_eq name.now text) (Some (unwrap_or o place)) (place_at old text)) none

-- a name that had a number keeps it
pub place-back : (old new back : BTreeMap (Bor (List ℕ)) ℕ) (name : Bor (List ℕ)) (place first : ℕ) → Some first ≡ place_at old name.now
    → Updates (λ a b. slice_cmp nat_cmp a.now b.now) old new name (Some place)
    → Updates (λ a b. slice_cmp nat_cmp a.now b.now) new back name (Some first)
    → (text : List ℕ) → place_at back text ≡ with_place (place_at old) name.now place text
place-back old new back name place first known updates again text =
    btree_map_updates_str name.now new back (Some first) again text
    ∙ ap (λ o. cond (bytes_eq name.now text) (Some first) o) (btree_map_updates_str name.now old new (Some place) updates text)
    ∙ twice (bytes_eq name.now text) (Some first) (Some place) (place_at old text)
    ∙ ap (λ o. cond (bytes_eq name.now text) (Some (unwrap_or o place)) (place_at old text)) known

-- ---- transcripts

-- without the case of the added transcript
pub untold-told : (places more : BTreeMap (Bor (List ℕ)) ℕ) (cases earlier : List Data) (d : Data) (said : Bor (List ℕ)) → said.now ≡ case_of d
    → UpdatesBy (λ a b. slice_cmp nat_cmp a.now b.now) (λ key. slice_cmp nat_cmp said.now key.now) places more None
    → HasUntold places cases earlier → HasUntold more cases (earlier ++ d ∷ [])
unfolding or_place at_last
untold-told places more cases earlier d said says updates before = λ text.
    let old = place_where case_of text earlier in
    let place = place_where case_name text cases in
    let last = at_last (λ table. same_key text (case_of table)) (length earlier) d in
    let goal : Bool → Type 0 = λ b. bytes_eq said.now text ≡ b → cond b None (place_at places text) ≡ cond (is_some (or_place old last)) None place in
    let told : (o : Option ℕ) → None ≡ cond (is_some (or_place o (Some (length earlier)))) None place = elim [ None ↦ refl | Some k ↦ refl ] in
    let cases_of : (b : Bool) → goal b = elim [
      | true ↦ λ is.
          let same : said.now ≡ text = (bytes_eq-Decides said.now text).0 is in
          let found : same_key text (case_of d) ≡ true = ap (λ t. same_key text t) (sym says) ∙ same-here said.now text same in
          told old ∙ ap (λ b. cond (is_some (or_place old (cond b (Some (length earlier)) None))) None place) (sym found)
      | false ↦ λ apart.
          let other : same_key text (case_of d) ≡ false = ap (λ t. same_key text t) (sym says) ∙ same-apart said.now text apart in
          before text ∙ ap (λ o. cond (is_some o) None place) (or_none old) ∙ ap (λ b. cond (is_some (or_place old (cond b (Some (length earlier)) None))) None place) (sym other)
    ] in
    btree_map_updates_str said.now places more None updates text ∙ cases_of (bytes_eq said.now text) refl
    ∙ ap (λ o. cond (is_some o) None place) (sym (position-more (λ table. same_key text (case_of table)) earlier d))

-- ---- values

-- the tables before a place, and that at it
pub tables-more : (values : List Value) (place : ℕ) (value : Value) → place < length values → value ≡ get_or values place value
    → map view (take (place + 1) values) ≡ map view (take place values) ++ view value ∷ []
tables-more values place value within is =
    ap (λ vs. map view vs) (take_more values place value within)
    ∙ map-append view (take place values) (get_or values place value ∷ [])
    ∙ ap (λ v. map view (take place values) ++ view v ∷ []) (sym is)
