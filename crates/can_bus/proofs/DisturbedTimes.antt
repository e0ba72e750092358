-- When attempts begin, and when a hit falls on the wire, over whole lists of levels and bit time by bit time.
use Rattle.std.specs.Prelude.{if◌then◌else◌, nat_le, ◌==◌, ◌&&◌, not, min, ◌↔◌}
use Rattle.std.specs.List.{Any, Contains, list_any, range_with_len, suffix_len}
use Rattle.std.proofs.Common.{◌≡◌, ℕ, ◌+◌, ◌<◌, Bool, true, false, cond, List, [], ◌∷◌, ◌++◌, Option, Some, None, length, take, replicate, refl, ap, sym, ◌∙◌, subst, inl, inr, append_assoc, arith, below_more}
use Rattle.std.proofs.lemmas.Bool.{cases_lt, cases_order, and_from, and_parts, eq-eqb, eqb-true, false_from_ne_true, false≢true, le-leb, lt-leb}
use Rattle.std.proofs.lemmas.List.{append-nil, get_or-replicate, length-replicate, map-id, reverse-append, take_more}
use Rattle.std.proofs.lemmas.List.Elements.{Contains-get_or}
use Rattle.std.proofs.lemmas.List.Folds.{Any-from_list_any, list_any-from_Any}
use Rattle.std.proofs.lemmas.List.FromFn.{map-range_with_len_more}
use Rattle.std.proofs.lemmas.List.Sums.{sum_by_push, suffix_len_is}
use Rattle.can_frame.specs.declared.level.Level.{Level}
use Rattle.can_frame.specs.declared.level.Level.TheVariants.{Dominant, Recessive}
use Rattle.can_frame.specs.Levels.{is_recessive, opposite}
use Rattle.can_terms.specs.declared.hit.Hit.{Hit}
use Rattle.can_terms.specs.declared.hit.Hit.TheVariants.{At, In, View}
use Rattle.can_bus.specs.declared.moment.Attempt.{Attempt}
use Rattle.can_bus.specs.Disturbed.{level_then, rest_before, begins_at, attempts_before, IsBeginning, FallsOnWire}
use Rattle.can_bus.specs.Run.{aged, begins_attempt, following, hits_view, hits_wire, inverted_if, is_attempt, rest_after}
use Rattle.can_bus.proofs.Members.{none-taken}

-- How many recessive levels come last.

last-more : (levels : List Level) (x : Level) → suffix_len is_recessive (levels ++ x ∷ []) ≡ cond (is_recessive x) (1 + suffix_len is_recessive levels) 0
last-more levels x = rw reverse-append refl

last-replicate : (n : ℕ) → suffix_len is_recessive (replicate n Recessive) ≡ n
last-replicate n =
    suffix_len_is is_recessive (replicate n Recessive) 0 Recessive (omega arith)
    (λ k h within. let inside : k < n = omega (arith, within, length-replicate n Recessive) in ap is_recessive (get_or-replicate n k Recessive Recessive inside))
    (λ h. absurd (omega arith))
    ∙ (let e : length (replicate n Recessive) ≡ n = length-replicate n Recessive in omega arith)

pub rest_before-none : (rest : ℕ) (recorded : List Level) → rest_before rest recorded 0 ≡ rest
unfolding rest_before
rest_before-none rest recorded =
    ap (λ levels. suffix_len is_recessive (replicate rest Recessive ++ levels)) (none-taken recorded)
    ∙ ap (suffix_len is_recessive) (append-nil (replicate rest Recessive)) ∙ last-replicate rest

pub rest_before-more : (rest : ℕ) (recorded : List Level) (t : ℕ) → t < length recorded →
    rest_before rest recorded (t + 1) ≡ cond (is_recessive (level_then recorded t)) (1 + rest_before rest recorded t) 0
unfolding rest_before
rest_before-more rest recorded t within =
    ap (λ levels. suffix_len is_recessive (replicate rest Recessive ++ levels)) (take_more recorded t Recessive within)
    ∙ ap (suffix_len is_recessive) (sym (append_assoc (replicate rest Recessive) (take t recorded) (level_then recorded t ∷ [])))
    ∙ last-more (replicate rest Recessive ++ take t recorded) (level_then recorded t)

pub rest_after-capped : (rest : ℕ) (x : Level) → min (cond (is_recessive x) (1 + rest) 0) 11 ≡ rest_after (min rest 11) x
rest_after-capped rest Dominant = refl
rest_after-capped rest Recessive = omega arith

pub begins_attempt-capped : (rest : ℕ) (x : Level) → begins_attempt (min rest 11) x ≡ (not (is_recessive x) && nat_le 11 rest)
begins_attempt-capped rest Dominant = elim (cases_lt rest 11) [
  | inl less ↦ false_from_ne_true (min rest 11 == 11) (λ e. let full : min rest 11 ≡ 11 = eqb-true (min rest 11) 11 e in omega (arith, full, less)) ∙ sym (lt-leb 11 rest less)
  | inr full ↦ eq-eqb (min rest 11) 11 (omega (arith, full)) ∙ sym (le-leb 11 rest full)
]
begins_attempt-capped rest Recessive = refl

-- Where a hit inverts a level.

same_levels : (a b : Level) → (a ≡ opposite b → ⊥) → a ≡ b
same_levels Dominant Dominant h = refl
same_levels Dominant Recessive h = absurd (h refl)
same_levels Recessive Dominant h = absurd (h refl)
same_levels Recessive Recessive h = refl

never_opposite : (a : Level) → a ≡ opposite a → ⊥
never_opposite Dominant e = cc
never_opposite Recessive e = cc

-- a level that is inverted as a test says is the opposite exactly if what the test decides is true
pub inverted-tells : {P : Type 0} (hit : Bool) (x y : Level) → (hit ≡ true) ↔ P → y ≡ inverted_if hit x → (y ≡ opposite x) ↔ P
inverted-tells true x y decides e = (λ h. decides.0 refl, λ p. e)
inverted-tells false x y decides e = (λ h. absurd (never_opposite x (sym e ∙ h)), λ p. absurd (false≢true (decides.1 p)))

-- and the other way round
pub inverted-told : {P : Type 0} (hit : Bool) (x y : Level) → (hit ≡ true) ↔ P → (y ≡ opposite x) ↔ P → y ≡ inverted_if hit x
inverted-told true x y decides e = e.1 (decides.0 refl)
inverted-told false x y decides e = same_levels y x (λ h. false≢true (decides.1 (e.0 h)))

-- a test that decides a fact of each hit decides whether it is one of any
any-decided : (P : Hit → Type 0) (p : Hit → Bool) → ((hit : Hit) → p hit ≡ true → P hit) → ((hit : Hit) → P hit → p hit ≡ true) →
    (hits : List Hit) → (list_any p hits ≡ true) ↔ Any P hits
any-decided P p there back hits = (
  λ e. let found = Any-from_list_any p hits e in (found.0, found.1, found.2, found.3, there found.1 found.4),
  λ found. list_any-from_Any p hits (found.0, found.1, found.2, found.3, back found.1 found.4),
)

is_view : (t port : ℕ) (hit : Hit) → hits_view t port hit ≡ true → hit ≡ View t port
is_view t port (At time) e = absurd (false≢true e)
is_view t port (In attempt offset) e = absurd (false≢true e)
is_view t port (View time node) e =
    let both = and_parts (time == t) (node == port) e in
    ap (λ n. View n node) (eqb-true time t both.0) ∙ ap (View t) (eqb-true node port both.1)

view_hits : (t port : ℕ) → hits_view t port (View t port) ≡ true
view_hits t port = and_from (t == t) (port == port) (eq-eqb t t refl) (eq-eqb port port refl)

pub view-decided : (t port : ℕ) (hits : List Hit) → (list_any (hits_view t port) hits ≡ true) ↔ Contains hits (View t port)
view-decided t port hits = (
  λ e.
      let found = Any-from_list_any (hits_view t port) hits e in
      subst (Contains hits) (found.3 ∙ is_view t port found.1 found.4) (Contains-get_or hits found.0 found.1 found.2),
  λ there. list_any-from_Any (hits_view t port) hits (there.0, View t port, there.1, there.2, view_hits t port),
)

-- Attempts.

module _ (rest : ℕ) (wired recorded : List Level) where
  times_more : (t : ℕ) → range_with_len 0 (t + 1) ≡ range_with_len 0 t ++ t ∷ []
  times_more t =
      sym (map-id (range_with_len 0 (t + 1))) ∙ map-range_with_len_more (λ k. k) 0 t t (omega arith) ∙ ap (λ times. times ++ t ∷ []) (map-id (range_with_len 0 t))

  attempts_before-none : attempts_before rest wired recorded 0 ≡ 0
  unfolding attempts_before
  attempts_before-none = refl

  attempts_before-more : (t : ℕ) → attempts_before rest wired recorded (t + 1) ≡ attempts_before rest wired recorded t + cond (begins_at rest wired recorded t) 1 0
  unfolding attempts_before
  attempts_before-more t = rw (times_more t) (sum_by_push (λ u. cond (begins_at rest wired recorded u) 1 0) (range_with_len 0 t) t)

  -- the latest attempt at time t
  abbrev pub LatestIs : ℕ → Option Attempt → Type 0
  LatestIs t None = (attempts_before rest wired recorded t ≡ 0) × ((u : ℕ) → u < t → begins_at rest wired recorded u ≡ false)
  LatestIs t (Some a) =
      (attempts_before rest wired recorded t ≡ a.number + 1)
      × ((start : ℕ) × IsBeginning rest wired recorded a.number start × (start + a.offset + 1 ≡ t) × ((u : ℕ) → start < u → u < t → begins_at rest wired recorded u ≡ false))

  pub latest-none : LatestIs 0 None
  latest-none = (attempts_before-none, λ u h. absurd (omega arith))

  more_yes : (t n : ℕ) → begins_at rest wired recorded t ≡ true → attempts_before rest wired recorded t ≡ n → attempts_before rest wired recorded (t + 1) ≡ n + 1
  more_yes t n b e = attempts_before-more t ∙ ap (λ x. attempts_before rest wired recorded t + cond x 1 0) b ∙ ap (λ k. k + 1) e

  more_no : (t n : ℕ) → begins_at rest wired recorded t ≡ false → attempts_before rest wired recorded t ≡ n → attempts_before rest wired recorded (t + 1) ≡ n
  more_no t n b e = attempts_before-more t ∙ ap (λ x. attempts_before rest wired recorded t + cond x 1 0) b ∙ (let k : attempts_before rest wired recorded t + 0 ≡ n = omega (arith, e) in k)

  -- one bit time later
  pub latest-more : (t : ℕ) (begun : Bool) (latest : Option Attempt) → begins_at rest wired recorded t ≡ begun → LatestIs t latest →
      LatestIs (t + 1) (if begun then Some (following latest) else aged latest)
  latest-more t true None b h = (more_yes t 0 b h.0, (t, record { begins = b; number = h.0 }, omega arith, λ u low high. absurd (omega arith)))
  latest-more t true (Some a) b h = (more_yes t (a.number + 1) b h.0, (t, record { begins = b; number = h.0 }, omega arith, λ u low high. absurd (omega arith)))
  latest-more t false None b h = (more_no t 0 b h.0, below_more (λ u. begins_at rest wired recorded u ≡ false) t h.1 b)
  latest-more t false (Some a) b h = (
    more_no t (a.number + 1) b h.0,
    (
      h.1.0,
      h.1.1,
      (let e : h.1.0 + (a.offset + 1) + 1 ≡ t + 1 = omega (arith, h.1.2) in e),
      λ u low high. elim (cases_order u t) [
        | inl same ↦ ap (begins_at rest wired recorded) same ∙ b
        | inr other ↦ elim other [
          | inl less ↦ h.1.3 u low less
          | inr more ↦ absurd (omega arith)
        ]
      ],
    ),
  )

  none_begins : (u : ℕ) → begins_at rest wired recorded u ≡ true → begins_at rest wired recorded u ≡ false → ⊥
  none_begins u begun unbegun = false≢true (sym unbegun ∙ begun)

  -- the attempt that goes on at time t is the one that a hit falls on
  falls-in : (t : ℕ) (latest : Option Attempt) (number offset : ℕ) → LatestIs (t + 1) latest → is_attempt latest number offset ≡ true →
      FallsOnWire rest wired recorded (In number offset) t
  falls-in t None number offset h e = absurd (false≢true e)
  falls-in t (Some a) number offset h e =
      let both = and_parts (a.number == number) (a.offset == offset) e in
      let n : a.number ≡ number = eqb-true a.number number both.0 in
      let o : a.offset ≡ offset = eqb-true a.offset offset both.1 in (
        h.1.0,
        subst (λ k. IsBeginning rest wired recorded k h.1.0) n h.1.1,
        omega (arith, h.1.2, o),
        λ u low high. h.1.3 u low (omega arith),
      )

  falls-back : (t : ℕ) (latest : Option Attempt) (number offset : ℕ) → LatestIs (t + 1) latest → FallsOnWire rest wired recorded (In number offset) t →
      is_attempt latest number offset ≡ true
  falls-back t None number offset h f = absurd (none_begins f.0 f.1.begins (h.1 f.0 (omega (arith, f.2))))
  falls-back t (Some a) number offset h f =
      elim (cases_order f.0 h.1.0) [
        | inl same ↦
            let n : a.number ≡ number = sym h.1.1.number ∙ ap (attempts_before rest wired recorded) (sym same) ∙ f.1.number in
            let o : a.offset ≡ offset = omega (arith, h.1.2, f.2, same) in
            and_from (a.number == number) (a.offset == offset) (eq-eqb a.number number n) (eq-eqb a.offset offset o)
        | inr other ↦ elim other [
          | inl less ↦ absurd (none_begins h.1.0 h.1.1.begins (f.3 h.1.0 less (omega (arith, h.1.2))))
          | inr more ↦ absurd (none_begins f.0 f.1.begins (h.1.3 f.0 more (omega (arith, f.2))))
        ]
      ]

  falls : (t : ℕ) (latest : Option Attempt) → LatestIs (t + 1) latest → (hit : Hit) → hits_wire t latest hit ≡ true → FallsOnWire rest wired recorded hit t
  falls t latest h (At time) e = eqb-true time t e
  falls t latest h (In number offset) e = falls-in t latest number offset h e
  falls t latest h (View time node) e = absurd (false≢true e)

  fallen : (t : ℕ) (latest : Option Attempt) → LatestIs (t + 1) latest → (hit : Hit) → FallsOnWire rest wired recorded hit t → hits_wire t latest hit ≡ true
  fallen t latest h (At time) e = eq-eqb time t e
  fallen t latest h (In number offset) f = falls-back t latest number offset h f
  fallen t latest h (View time node) f = absurd f

  pub wire-decided : (t : ℕ) (latest : Option Attempt) (hits : List Hit) → LatestIs (t + 1) latest →
      (list_any (hits_wire t latest) hits ≡ true) ↔ Any (λ hit. FallsOnWire rest wired recorded hit t) hits
  wire-decided t latest hits h = any-decided (λ hit. FallsOnWire rest wired recorded hit t) (hits_wire t latest) (falls t latest h) (fallen t latest h) hits
