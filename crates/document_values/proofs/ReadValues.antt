-- What the readers of a document's values return.
use Rattle.std.proofs.Common.{◌≡◌, ℕ, List, [], ◌∷◌, ◌&&◌, map, Some, String, Global, Bor, string_bytes, bytes_eq, refl, ap, sym, ◌∙◌, length}
use Rattle.std.proofs.lemmas.Map.Text.{is_eq-slice_cmp}
use Rattle.std.proofs.lemmas.Option.{same_Some, none-some}
use Rattle.std.proofs.lemmas.Iterator.{YieldsList}
use Rattle.std.proofs.lemmas.Iterator.Consumers.{YieldsList-from_shown}
use Rattle.std.specs.List.{list_any, list_all}
use Rattle.std.specs.Map.{keys_of}
use Rattle.std.specs.Map.Iter.{TakesFirst, deref}
use Rattle.toml.specs.Data.{Data, string, integer, float, boolean, datetime, array, table, same_key, as_array}
use Rattle.toml.specs.View.{view, items_view, members_view}
use Rattle.toml.specs.declared.value.Value.{Value}
use Rattle.document_values.specs.Values.{are_known, elements, elements_of}
use Rattle.document_values.proofs.DemandLemmas.{elements-view}

-- the elements of an array, from what a value's `as_array` gives
pub elements-array : (values : List Value) (d : Data) → Some (items_view values) ≡ as_array d → map view values ≡ elements d
elements-array values (array items) is = sym (elements-view values) ∙ ap elements_of (same_Some _ _ is)
elements-array values (string s) is = absurd (none-some _ (sym is))
elements-array values (integer z) is = absurd (none-some _ (sym is))
elements-array values (float x) is = absurd (none-some _ (sym is))
elements-array values (boolean b) is = absurd (none-some _ (sym is))
elements-array values (datetime t) is = absurd (none-some _ (sym is))
elements-array values (table fields) is = absurd (none-some _ (sym is))

-- a name among others, as bytes and as keys
pub names-among : (name : List ℕ) (names : List (Bor (List ℕ))) → list_any (λ known. bytes_eq name known.now) names ≡ list_any (same_key name) (map (λ known. known.now) names)
names-among name [] = refl
names-among name (known ∷ names) = rw (is_eq-slice_cmp name known.now, names-among name names)

-- the keys of a map that are looked at one after another
pub YieldsList-from_keys : {K : Type 0} (ks : List K) → YieldsList (TakesFirst (deref {X = K})) deref ks ks
YieldsList-from_keys {K} ks = YieldsList-from_shown (TakesFirst (deref {X = K})) deref (λ s. s) (λ s t none. ap length none.0) (λ s x t some. some) ks

-- each key of a table has one of the names
pub known-keys : (names : List (List ℕ)) (es : List (String Global × Value)) → list_all (λ key. list_any (same_key (string_bytes key)) names) (keys_of es) ≡ are_known names (members_view es)
known-keys names [] = refl
known-keys names (e ∷ es) = ap (λ rest. list_any (same_key (string_bytes e.0)) names && rest) (known-keys names es)
