-- Two stuffed parts that differ in one level do not both have a right CRC sequence. Their unstuffed levels differ only
-- within a few neighbouring ones. From the inverted level on, one front has the longer run of the same last level, until
-- both end in the same run.
use Rattle.std.proofs.Common.{◌≡◌, ◌≢◌, ℕ, suc, ◌+◌, ◌*◌, ◌%◌, ◌<◌, ◌≤◌, Bool, true, false, List, [], ◌∷◌, ◌++◌, length, refl, sym, ◌∙◌, ap, subst, arith, append_assoc, length-append, inl, inr}
use Rattle.std.proofs.lemmas.List.{append-nil}
use Rattle.std.proofs.lemmas.Bool.{cases_eq}
use Rattle.can_frame.specs.declared.level.Level.{Level}
use Rattle.can_frame.specs.declared.level.Level.TheVariants.{Dominant, Recessive}
use Rattle.can_frame.specs.Levels.{opposite}
use Rattle.can_frame.specs.Parts.{byte_count}
use Rattle.can_wire.specs.Crc.{Multiple}
use Rattle.can_wire.specs.Layout.{extended_of, remote_of, dlc_of, data_place, frame_len, IsComplete, IsPart}
use Rattle.can_wire.proofs.Runs.{opposite_other}
use Rattle.can_code.specs.Front.{FrontParts}
use Rattle.can_code.proofs.PartFronts.{front_made}
use Rattle.can_detection.proofs.Bursts.{bursts_equal}
use Rattle.can_detection.proofs.Fronts.{Completes, front, Completes-nil, Completes-begun, same_or_opposite, Completes-stuff_bit, Completes-free, Completes-same, Completes-other, go_on_together}

-- ---- lengths

-- every frame has two unstuffed levels more than a multiple of four
frame_len-mod : (u : List Level) → frame_len u % 4 ≡ 2
unfolding frame_len
frame_len-mod u = by_kind (extended_of u) (byte_count (remote_of u) (dlc_of u))
  where
    by_kind : (extended : Bool) (count : ℕ) → (data_place extended + 8 * count + 15) % 4 ≡ 2
    by_kind true count = omega arith
    by_kind false count = omega arith

-- ---- lists that differ only within a few neighbouring levels

-- u and v have the same first levels, then different ones, then the same again
pub record Apart (u v : List Level) : Type 0 where
  pub begin : List Level
  pub p : Level
  pub q : Level
  pub x : List Level
  pub y : List Level
  pub rest : List Level
  pub first : u ≡ begin ++ p ∷ (x ++ rest)
  pub second : v ≡ begin ++ q ∷ (y ++ rest)
  pub differ : p ≢ q
  pub few_x : length x ≤ 14
  pub few_y : length y ≤ 14
  pub near_x : length x ≤ length y + 1
  pub near_y : length y ≤ length x + 1

Apart-turned : (u v : List Level) → Apart u v → Apart v u
Apart-turned u v h = record {
  begin = h.begin;
  p = h.q;
  q = h.p;
  x = h.y;
  y = h.x;
  rest = h.rest;
  first = h.second;
  second = h.first;
  differ = λ e. h.differ (sym e);
  few_x = h.few_y;
  few_y = h.few_x;
  near_x = h.near_y;
  near_y = h.near_x;
}

-- the generator does not divide the unstuffed levels of both
Apart-never : (u v : List Level) → Apart u v → IsComplete u → IsComplete v → Multiple u → Multiple v → ⊥
Apart-never u v h whole_u whole_v divides_u divides_v =
    let size_u : length u ≡ length h.begin + (1 + length h.x + length h.rest) = ap length h.first ∙ omega (arith, length-append h.begin (h.p ∷ (h.x ++ h.rest)), length-append h.x h.rest) in
    let size_v : length v ≡ length h.begin + (1 + length h.y + length h.rest) = ap length h.second ∙ omega (arith, length-append h.begin (h.q ∷ (h.y ++ h.rest)), length-append h.y h.rest) in
    let mod_u : length u % 4 ≡ 2 = ap (λ n. n % 4) whole_u.whole ∙ frame_len-mod u in
    let mod_v : length v % 4 ≡ 2 = ap (λ n. n % 4) whole_v.whole ∙ frame_len-mod v in
    let near_x = h.near_x in
    let near_y = h.near_y in
    let few = h.few_x in
    let same_size : length h.x ≡ length h.y = omega (arith, size_u, size_v, mod_u, mod_v, near_x, near_y) in
    let equal : h.p ∷ h.x ≡ h.q ∷ h.y =
    bursts_equal h.begin (h.p ∷ h.x) (h.q ∷ h.y) h.rest (ap suc same_size) (omega arith) (subst Multiple h.first divides_u) (subst Multiple h.second divides_v) in
    h.differ cc

-- ---- from the inverted level on

-- the two fronts end in the same run
module _ (a x y : List Level) (p q : Level) (differ : p ≢ q) (xs : List Level) (u v : List Level) where
  in_step : (l : Level) (k : ℕ) → length x ≤ 14 → length y ≤ 14 → length x ≤ length y + 1 → length y ≤ length x + 1
      → Completes (front (a ++ p ∷ x) l k) xs u → Completes (front (a ++ q ∷ y) l k) xs v → Apart u v
  in_step l k few_x few_y near_x near_y c d =
      let z = go_on_together xs l k (a ++ p ∷ x) (a ++ q ∷ y) u v c d in
      record {
        begin = a;
        p = p;
        q = q;
        x = x;
        y = y;
        rest = z.0;
        first = z.1 ∙ append_assoc a (p ∷ x) z.0;
        second = z.2 ∙ append_assoc a (q ∷ y) z.0;
        differ = differ;
        few_x = few_x;
        few_y = few_y;
        near_x = near_x;
        near_y = near_y;
      }

-- one more unstuffed level
pushed : (a x : List Level) (p m l : Level) (k : ℕ) (xs u : List Level) → Completes (front ((a ++ p ∷ x) ++ m ∷ []) l k) xs u → Completes (front (a ++ p ∷ (x ++ m ∷ [])) l k) xs u
pushed a x p m l k xs u c = subst (λ t. Completes (front t l k) xs u) (append_assoc a (p ∷ x) (m ∷ [])) c

-- they have the same last level, and the first has the longer run
runs_differ : (xs : List Level) (l : Level) (k j : ℕ) (a x y : List Level) (p q : Level) (u v : List Level) → p ≢ q → j < k → k ≤ 5 → length x ≤ k → length y ≤ length x → length x ≤ length y + 1
    → Completes (front (a ++ p ∷ x) l k) xs u → Completes (front (a ++ q ∷ y) l j) xs v → Apart u v
runs_differ [] l k j a x y p q u v differ less short few no_longer near c d = record {
  begin = a;
  p = p;
  q = q;
  x = x;
  y = y;
  rest = [];
  first = Completes-nil (front (a ++ p ∷ x) l k) u c ∙ ap (λ t. a ++ p ∷ t) (sym (append-nil x));
  second = Completes-nil (front (a ++ q ∷ y) l j) v d ∙ ap (λ t. a ++ q ∷ t) (sym (append-nil y));
  differ = differ;
  few_x = omega arith;
  few_y = omega arith;
  near_x = near;
  near_y = omega arith;
}
runs_differ (n ∷ xs) l k j a x y p q u v differ less short few no_longer near c d = elim (same_or_opposite n l) [
  | inl same ↦
      let c' = subst (λ m. Completes (front (a ++ p ∷ x) l k) (m ∷ xs) u) same c in
      let d' = subst (λ m. Completes (front (a ++ q ∷ y) l j) (m ∷ xs) v) same d in
      let free : k ≢ 5 = Completes-free (a ++ p ∷ x) l k xs u c' in
      let free_too : j ≢ 5 = omega arith in
      let x_size = length-append x (l ∷ []) in
      let y_size = length-append y (l ∷ []) in
      runs_differ xs l (k + 1) (j + 1) a (x ++ l ∷ []) (y ++ l ∷ []) p q u v differ (omega arith) (omega arith) (omega arith) (omega arith) (omega arith)
      (pushed a x p l l (k + 1) xs u (Completes-same (a ++ p ∷ x) l k xs u free c')) (pushed a y q l l (j + 1) xs v (Completes-same (a ++ q ∷ y) l j xs v free_too d'))
  | inr other ↦
      let o = opposite l in
      let c' = subst (λ m. Completes (front (a ++ p ∷ x) l k) (m ∷ xs) u) other c in
      let d' = subst (λ m. Completes (front (a ++ q ∷ y) l j) (m ∷ xs) v) other d in
      let free_too : j ≢ 5 = omega arith in
      let x_size = length-append x (o ∷ []) in
      let y_size = length-append y (o ∷ []) in
      let e = pushed a y q o o 1 xs v (Completes-other (a ++ q ∷ y) l j xs v free_too d') in
      elim (cases_eq k 5) [
        | inl five ↦ in_step a x (y ++ o ∷ []) p q differ xs u v o 1 (omega arith) (omega arith) (omega arith) (omega arith) (Completes-stuff_bit (a ++ p ∷ x) l k xs u o five c').1 e
        | inr free ↦
            in_step a (x ++ o ∷ []) (y ++ o ∷ []) p q differ xs u v o 1 (omega arith) (omega arith) (omega arith) (omega arith)
            (pushed a x p o o 1 xs u (Completes-other (a ++ p ∷ x) l k xs u free c')) e
      ]
]

opposite_twice : (l : Level) → opposite (opposite l) ≡ l
opposite_twice Dominant = refl
opposite_twice Recessive = refl

-- no stuff bit follows a run that has just begun
begun : (k : ℕ) → k < 5 → k ≢ 5
begun k short = omega arith

-- after the first of them: it goes on with a run in u, and begins one in v
after_first : (xs : List Level) (l : Level) (r : ℕ) (a u v : List Level) → r < 5 → Completes (front (a ++ l ∷ []) l (r + 1)) xs u → Completes (front (a ++ opposite l ∷ []) (opposite l) 1) xs v → Apart u v
after_first [] l r a u v short c d = record {
  begin = a;
  p = l;
  q = opposite l;
  x = [];
  y = [];
  rest = [];
  first = Completes-nil (front (a ++ l ∷ []) l (r + 1)) u c;
  second = Completes-nil (front (a ++ opposite l ∷ []) (opposite l) 1) v d;
  differ = λ e. opposite_other l (sym e);
  few_x = omega arith;
  few_y = omega arith;
  near_x = omega arith;
  near_y = omega arith;
}
after_first (n ∷ xs) l r a u v short c d = elim (same_or_opposite n l) [
  | inl same ↦
      let o = opposite l in
      let c' = subst (λ m. Completes (front (a ++ l ∷ []) l (r + 1)) (m ∷ xs) u) same c in
      let d' = subst (λ m. Completes (front (a ++ o ∷ []) o 1) (m ∷ xs) v) (same ∙ sym (opposite_twice l)) d in
      let free : r + 1 ≢ 5 = Completes-free (a ++ l ∷ []) l (r + 1) xs u c' in
      let e = subst (λ m. Completes (front (a ++ o ∷ (m ∷ [])) m 1) xs v) (opposite_twice l) (pushed a [] o (opposite o) (opposite o) 1 xs v (Completes-other (a ++ o ∷ []) o 1 xs v (begun 1 (omega arith)) d')) in
      runs_differ xs l (r + 1 + 1) 1 a (l ∷ []) (l ∷ []) l o u v (λ equal. opposite_other l (sym equal)) (omega arith) (omega arith) (omega arith) (omega arith) (omega arith)
      (pushed a [] l l l (r + 1 + 1) xs u (Completes-same (a ++ l ∷ []) l (r + 1) xs u free c')) e
  | inr other ↦
      let o = opposite l in
      let c' = subst (λ m. Completes (front (a ++ l ∷ []) l (r + 1)) (m ∷ xs) u) other c in
      let d' = subst (λ m. Completes (front (a ++ o ∷ []) o 1) (m ∷ xs) v) other d in
      let e = pushed a [] o o o 2 xs v (Completes-same (a ++ o ∷ []) o 1 xs v (begun 1 (omega arith)) d') in
      elim (cases_eq (r + 1) 5) [
        | inl five ↦
            Apart-turned v u (runs_differ xs o 2 1 a (o ∷ []) [] o l v u (opposite_other l) (omega arith) (omega arith) (omega arith) (omega arith) (omega arith) e (Completes-stuff_bit (a ++ l ∷ []) l (r + 1) xs u o five c').1)
        | inr free ↦
            Apart-turned v u (runs_differ xs o 2 1 a (o ∷ []) (o ∷ []) o l v u (opposite_other l) (omega arith) (omega arith) (omega arith) (omega arith) (omega arith) e
            (pushed a [] l o o 1 xs u (Completes-other (a ++ l ∷ []) l (r + 1) xs u free c')))
      ]
]

-- the first of them goes on with the run in u
run_goes_on : (f : FrontParts) (xs u v : List Level) → f.run ≤ 5 → Completes f (f.last ∷ xs) u → Completes f (opposite f.last ∷ xs) v → Apart u v
run_goes_on f xs u v short c d =
    let free : f.run ≢ 5 = Completes-free f.unstuffed f.last f.run xs u c in
    after_first xs f.last f.run f.unstuffed u v (omega arith) (Completes-same f.unstuffed f.last f.run xs u free c) (Completes-other f.unstuffed f.last f.run xs v free d)

pub two_parts : (a xs : List Level) (x : Level) (u v : List Level) → 0 < length a → IsPart u (a ++ x ∷ xs) → IsPart v (a ++ opposite x ∷ xs) → Multiple u → Multiple v → ⊥
two_parts a xs x u v some first second divides_u divides_v =
    let f = front_made a in
    let c = Completes-begun u a (x ∷ xs) some first in
    let d = Completes-begun v a (opposite x ∷ xs) some second in
    let short : f.run ≤ 5 = c.made.front.short in
    elim (same_or_opposite x f.last) [
      | inl same ↦
          let apart = run_goes_on f xs u v short (subst (λ m. Completes f (m ∷ xs) u) same c) (subst (λ m. Completes f (opposite m ∷ xs) v) same d) in
          Apart-never u v apart first.complete second.complete divides_u divides_v
      | inr other ↦
          let back : opposite x ≡ f.last = ap opposite other ∙ opposite_twice f.last in
          let apart = run_goes_on f xs v u short (subst (λ m. Completes f (m ∷ xs) v) back d) (subst (λ m. Completes f (m ∷ xs) u) other c) in
          Apart-never v u apart second.complete first.complete divides_v divides_u
    ]
