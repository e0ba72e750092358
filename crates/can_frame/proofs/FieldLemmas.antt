-- Arbitration fields: their order, that none is a prefix of another, and what a field determines.
use Rattle.std.proofs.Common.{◌≡◌, ℕ, suc, ◌/◌, ◌%◌, ◌^◌, ◌<◌, Bool, true, false, List, [], ◌∷◌, ◌++◌, length, take, drop, refl, sym, ◌∙◌, ap, arith, inl, inr, append_assoc, length-append}
use Rattle.std.specs.Prelude.{◌↔◌, IsTrue, if◌then◌else◌}
use Rattle.std.specs.declared.cmp.Ordering.{Ordering}
use Rattle.std.specs.declared.cmp.Ordering.TheVariants.{Less, Equal, Greater}
use Rattle.std.specs.Ordering.{is_lt, partial_lt, as_partial_cmp}
use Rattle.std.proofs.lemmas.List.{take_at, drop_at}
use Rattle.can_frame.specs.declared.level.Level.{Level}
use Rattle.can_frame.specs.declared.level.Level.TheVariants.{Dominant, Recessive}
use Rattle.can_frame.specs.Levels.{level_from, bits_of, number_from}
use Rattle.can_frame.specs.Ident.{Ident, IsIdent, ident_count}
use Rattle.can_frame.specs.Parts.{Parts}
use Rattle.can_frame.specs.Arbitration.{standard_field, extended_field, arbitration_field, Before, field_cmp}
use Rattle.can_frame.proofs.LevelLemmas.{length-bits_of, number_from-bits_of}
use Rattle.can_frame.proofs.BeforeLemmas.{Before-append, Before-behind, Ranked, ranked_as_long, Tells, field_cmp-tells}

-- how many levels an arbitration field has after its IDE bit
abbrev behind_ide : Level → ℕ
behind_ide Dominant = 0
behind_ide Recessive = 19

-- the IDE bit is the 13th level and determines how many follow
pub record Shape (field : List Level) : Type 0 where
  pub base : List Level
  pub ide : Level
  pub rest : List Level
  pub base_length : length base ≡ 12
  pub rest_length : length rest ≡ behind_ide ide
  pub whole : field ≡ base ++ ide ∷ rest

standard_shape : (raw : ℕ) (remote : Bool) → Shape (standard_field raw remote)
standard_shape raw remote = record {
  base = bits_of 11 raw ++ level_from remote ∷ [];
  ide = Dominant;
  rest = [];
  base_length = omega (arith, length-append (bits_of 11 raw) (level_from remote ∷ []), length-bits_of 11 raw);
  rest_length = refl;
  whole = sym (append_assoc (bits_of 11 raw) (level_from remote ∷ []) (Dominant ∷ []));
}

extended_shape : (raw : ℕ) (remote : Bool) → Shape (extended_field raw remote)
extended_shape raw remote =
    let lower = bits_of 18 raw ++ level_from remote ∷ [] in
    record {
      base = bits_of 11 (raw / 2 ^ 18) ++ Recessive ∷ [];
      ide = Recessive;
      rest = lower;
      base_length = omega (arith, length-append (bits_of 11 (raw / 2 ^ 18)) (Recessive ∷ []), length-bits_of 11 (raw / 2 ^ 18));
      rest_length = omega (arith, length-append (bits_of 18 raw) (level_from remote ∷ []), length-bits_of 18 raw);
      whole = sym (append_assoc (bits_of 11 (raw / 2 ^ 18)) (Recessive ∷ []) (Recessive ∷ lower));
    }

pub arbitration_field-shape : (f : Parts) → Shape (arbitration_field f)
unfolding arbitration_field
arbitration_field-shape f = by_kind f.id.extended
  where
    by_kind : (extended : Bool) → Shape (if extended then extended_field f.id.raw f.remote else standard_field f.id.raw f.remote)
    by_kind true = extended_shape f.id.raw f.remote
    by_kind false = standard_shape f.id.raw f.remote

-- ---- how two fields are ranked

Ranked-behind : (front a b : List Level) → Ranked a b → Ranked (front ++ a) (front ++ b)
Ranked-behind front a b (inl h) = inl (Before-behind front a b h)
Ranked-behind front a b (inr (inl e)) = inr (inl (ap (λ t. front ++ t) e))
Ranked-behind front a b (inr (inr h)) = inr (inr (Before-behind front b a h))

from_ide : (x y : Level) (a b : List Level) → length a ≡ behind_ide x → length b ≡ behind_ide y → Ranked (x ∷ a) (y ∷ b)
from_ide Dominant Dominant a b m n = ranked_as_long (Dominant ∷ a) (Dominant ∷ b) (omega arith)
from_ide Dominant Recessive a b m n = inl (record { place = 0; same = refl; low = refl; high = refl })
from_ide Recessive Dominant a b m n = inr (inr (record { place = 0; same = refl; low = refl; high = refl }))
from_ide Recessive Recessive a b m n = ranked_as_long (Recessive ∷ a) (Recessive ∷ b) (omega arith)

pub shapes_ranked : (a b : List Level) → Shape a → Shape b → Ranked a b
shapes_ranked a b s t = rw (s.whole, t.whole) (by_base (ranked_as_long s.base t.base (s.base_length ∙ sym t.base_length)))
  where
    by_base : Ranked s.base t.base → Ranked (s.base ++ s.ide ∷ s.rest) (t.base ++ t.ide ∷ t.rest)
    by_base (inl h) = inl (Before-append s.base t.base (s.ide ∷ s.rest) (t.ide ∷ t.rest) h)
    by_base (inr (inl e)) = rw e (Ranked-behind t.base (s.ide ∷ s.rest) (t.ide ∷ t.rest) (from_ide s.ide t.ide s.rest t.rest s.rest_length t.rest_length))
    by_base (inr (inr h)) = inr (inr (Before-append t.base s.base (t.ide ∷ t.rest) (s.ide ∷ s.rest) h))

-- one of two frames' fields is before the other, or the fields are one
pub fields_ranked : (f g : Parts) → Ranked (arbitration_field f) (arbitration_field g)
fields_ranked f g = shapes_ranked (arbitration_field f) (arbitration_field g) (arbitration_field-shape f) (arbitration_field-shape g)

-- ---- no field begins another

same_front : (a b x y : List Level) → length a ≡ length b → a ++ x ≡ b ++ y → (a ≡ b) × (x ≡ y)
same_front a b x y size e =
    let fronts : a ≡ b = sym (take_at a x (length a) refl) ∙ ap (take (length a)) e ∙ take_at b y (length a) (sym size) in
    let rests : x ≡ y = sym (drop_at a x (length a) refl) ∙ ap (drop (length a)) e ∙ drop_at b y (length a) (sym size) in
    (fronts, rests)

same_from_ide : (v w : Level) (a b x y : List Level) → length a ≡ behind_ide v → length b ≡ behind_ide w → v ∷ (a ++ x) ≡ w ∷ (b ++ y) → v ∷ a ≡ w ∷ b
same_from_ide v w a b x y m n e =
    let ide : v ≡ w = cc in
    let rests : a ++ x ≡ b ++ y = cc in
    let same = same_front a b x y (m ∙ ap behind_ide ide ∙ sym n) rests in
    ap (λ t. v ∷ t) same.0 ∙ ap (λ l. l ∷ b) ide

pub shapes_apart : (a b x y : List Level) → Shape a → Shape b → a ++ x ≡ b ++ y → a ≡ b
shapes_apart a b x y s t e =
    let longer : s.base ++ s.ide ∷ (s.rest ++ x) ≡ t.base ++ t.ide ∷ (t.rest ++ y) =
    sym (append_assoc s.base (s.ide ∷ s.rest) x) ∙ ap (λ l. l ++ x) (sym s.whole) ∙ e ∙ ap (λ l. l ++ y) t.whole ∙ append_assoc t.base (t.ide ∷ t.rest) y in
    let parts = same_front s.base t.base (s.ide ∷ (s.rest ++ x)) (t.ide ∷ (t.rest ++ y)) (s.base_length ∙ sym t.base_length) longer in
    let ends : s.ide ∷ s.rest ≡ t.ide ∷ t.rest = same_from_ide s.ide t.ide s.rest t.rest x y s.rest_length t.rest_length parts.1 in
    s.whole ∙ ap (λ l. l ++ s.ide ∷ s.rest) parts.0 ∙ ap (λ l. t.base ++ l) ends ∙ sym t.whole

pub fields_apart : (f g : Parts) (x y : List Level) → arbitration_field f ++ x ≡ arbitration_field g ++ y → arbitration_field f ≡ arbitration_field g
fields_apart f g x y = shapes_apart (arbitration_field f) (arbitration_field g) x y (arbitration_field-shape f) (arbitration_field-shape g)

-- ---- what `<` and `cmp` of two frames' keys return

pub key_cmp-tells : (f g : Parts) → Tells (arbitration_field f) (arbitration_field g) (field_cmp (arbitration_field f) (arbitration_field g))
key_cmp-tells f g = field_cmp-tells (arbitration_field f) (arbitration_field g) (fields_ranked f g)

is_lt-Less : (o : Ordering) → is_lt o ≡ true → o ≡ Less
is_lt-Less Less e = refl
is_lt-Less Equal e = cc
is_lt-Less Greater e = cc

pub key_lt-Before : (f g : Parts) → IsTrue (partial_lt (as_partial_cmp field_cmp) (arbitration_field f) (arbitration_field g)) ↔ Before (arbitration_field f) (arbitration_field g)
key_lt-Before f g =
    let tells = key_cmp-tells f g in
    (λ e. tells.less.0 (is_lt-Less (field_cmp (arbitration_field f) (arbitration_field g)) e), λ h. ap is_lt (tells.less.1 h))

-- ---- a field determines the identifier and the kind of its frame

level_from-back : (b c : Bool) → level_from b ≡ level_from c → b ≡ c
level_from-back true true e = refl
level_from-back true false e = cc
level_from-back false true e = cc
level_from-back false false e = refl

head_same : (x y : Level) (a b : List Level) → x ∷ a ≡ y ∷ b → x ≡ y
head_same x y a b e = cc

same_size : (n x y : ℕ) → length (bits_of n x) ≡ length (bits_of n y)
same_size n x y = length-bits_of n x ∙ sym (length-bits_of n y)

number_back : (n x y : ℕ) → bits_of n x ≡ bits_of n y → x % 2 ^ n ≡ y % 2 ^ n
number_back n x y e = omega (arith, number_from-bits_of n 0 x, number_from-bits_of n 0 y, ap (number_from 0) e)

standard_tells : (i j : ℕ) (q r : Bool) → i < 2 ^ 11 → j < 2 ^ 11 → standard_field i q ≡ standard_field j r → (i ≡ j) × (q ≡ r)
standard_tells i j q r m n e =
    let parts = same_front (bits_of 11 i) (bits_of 11 j) (level_from q ∷ Dominant ∷ []) (level_from r ∷ Dominant ∷ []) (same_size 11 i j) e in
    (omega (arith, number_back 11 i j parts.0), level_from-back q r (head_same (level_from q) (level_from r) (Dominant ∷ []) (Dominant ∷ []) parts.1))

extended_tells : (i j : ℕ) (q r : Bool) → i < 2 ^ 29 → j < 2 ^ 29 → extended_field i q ≡ extended_field j r → (i ≡ j) × (q ≡ r)
extended_tells i j q r m n e =
    let upper = same_front (bits_of 11 (i / 2 ^ 18)) (bits_of 11 (j / 2 ^ 18)) _ _ (same_size 11 (i / 2 ^ 18) (j / 2 ^ 18)) e in
    let lower = same_front (Recessive ∷ Recessive ∷ bits_of 18 i) (Recessive ∷ Recessive ∷ bits_of 18 j) (level_from q ∷ []) (level_from r ∷ []) (ap (λ k. suc (suc k)) (same_size 18 i j)) upper.1 in
    let low : bits_of 18 i ≡ bits_of 18 j = cc lower.0 in
    (omega (arith, number_back 11 (i / 2 ^ 18) (j / 2 ^ 18) upper.0, number_back 18 i j low), level_from-back q r (head_same (level_from q) (level_from r) [] [] lower.1))

kinds_apart : (i j : ℕ) (q r : Bool) → standard_field i q ≡ extended_field j r → ⊥
kinds_apart i j q r e =
    let parts = same_front (bits_of 11 i) (bits_of 11 (j / 2 ^ 18)) (level_from q ∷ Dominant ∷ []) _ (same_size 11 i (j / 2 ^ 18)) e in
    cc parts.1

abbrev field_by : Bool → ℕ → Bool → List Level
field_by extended raw remote = if extended then extended_field raw remote else standard_field raw remote

tells_by : (a b : Bool) (i j : ℕ) (q r : Bool) → i < ident_count a → j < ident_count b → field_by a i q ≡ field_by b j r → (a ≡ b) × (i ≡ j) × (q ≡ r)
tells_by false false i j q r m n e = let t = standard_tells i j q r m n e in (refl, t.0, t.1)
tells_by false true i j q r m n e = absurd (kinds_apart i j q r e)
tells_by true false i j q r m n e = absurd (kinds_apart j i r q (sym e))
tells_by true true i j q r m n e = let t = extended_tells i j q r m n e in (refl, t.0, t.1)

same_id : (i j : Ident) → i.extended ≡ j.extended → i.raw ≡ j.raw → i ≡ j
same_id i j extended raw = λ k. record { raw = raw k; extended = extended k }

pub field_tells : (f g : Parts) → IsIdent f.id → IsIdent g.id → (arbitration_field f ≡ arbitration_field g) ↔ ((f.id ≡ g.id) × (f.remote ≡ g.remote))
unfolding arbitration_field
field_tells f g m n =
    (λ e. let t = tells_by f.id.extended g.id.extended f.id.raw g.id.raw f.remote g.remote m n e in (same_id f.id g.id t.0 t.1, t.2), λ both. cc)
