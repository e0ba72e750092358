-- The tournament of a queue's slots: who wins it, what a slot that changes makes of it, and how a frame is found in it.
use Rattle.std.proofs.Common.{◌≡◌, ◌≢◌, ℕ, zero, suc, ◌+◌, ◌-◌, ◌*◌, ◌/◌, ◌≤◌, ◌<◌, Bool, true, false, List, length, get_or, set, refl, sym, ◌∙◌, ap, subst, arith, inl, inr}
use Rattle.std.specs.Prelude.{Option, Some, None, ◌⊎◌, nat_lt, if◌then◌else◌}
use Rattle.std.specs.Cmp.{IsTotalOrder}
use Rattle.std.specs.declared.cmp.Ordering.{Ordering}
use Rattle.std.specs.declared.cmp.Ordering.TheVariants.{Less, Equal, Greater}
use Rattle.std.specs.Ordering.{ordering_reverse, is_gt}
use Rattle.std.proofs.lemmas.Bool.{cond-true, cond-false, cases_eq, cases_lt, lt-ltb, le-ltb}
use Rattle.std.proofs.lemmas.Cmp.{upto, tied_itself, on_total, then_total, nat_cmp_total}
use Rattle.std.proofs.lemmas.List.{length-set, get_or-set_same, get_or-set_other, get_or_past}
use Rattle.can_frame.specs.Parts.{Parts}
use Rattle.can_frame.specs.Arbitration.{arbitration_field}
use Rattle.can_frame.proofs.BeforeLemmas.{field_cmp_total}
use Rattle.can_node.specs.declared.queue.entrant.Entrant.{Entrant}
use Rattle.can_node.specs.Tournament.{entrant_cmp, earlier_of, entrant_in, entrant_at, winner_at, IsPlayedAt, IsPlayed, IsPlayedBut, Under, here, left, right}

-- ---- the order of entrants

entrant_cmp_total : IsTotalOrder entrant_cmp
entrant_cmp_total = then_total (on_total (λ (e : Entrant). e.field) field_cmp_total) (on_total (λ (e : Entrant). e.place) nat_cmp_total)

-- the first goes before the second, or is it
abbrev pub Leads : Option Entrant → Option Entrant → Type 0
Leads a None = Unit {0}
Leads None (Some b) = ⊥
Leads (Some a) (Some b) = is_gt (entrant_cmp a b) ≡ false

leads_itself : (a : Option Entrant) → Leads a a
leads_itself None = tt
leads_itself (Some a) = ap is_gt (tied_itself entrant_cmp_total a)

leads_trans : (a b c : Option Entrant) → Leads a b → Leads b c → Leads a c
leads_trans a b None h k = tt
leads_trans None None (Some c) h k = k
leads_trans None (Some b) (Some c) h k = h
leads_trans (Some a) None (Some c) h k = absurd k
leads_trans (Some a) (Some b) (Some c) h k = upto entrant_cmp_total a b c h k

reversed : (o : Ordering) → is_gt o ≡ true → is_gt (ordering_reverse o) ≡ false
reversed Less e = cc
reversed Equal e = cc
reversed Greater e = refl

behind : (a b : Entrant) → is_gt (entrant_cmp a b) ≡ true → is_gt (entrant_cmp b a) ≡ false
behind a b e = ap is_gt (entrant_cmp_total.antisymm b a) ∙ reversed (entrant_cmp a b) e

earlier-leads : (a b : Option Entrant) → Leads (earlier_of a b) a × Leads (earlier_of a b) b
earlier-leads None b = (tt, leads_itself b)
earlier-leads (Some a) None = (leads_itself (Some a), tt)
earlier-leads (Some a) (Some b) = by (is_gt (entrant_cmp a b)) refl
  where
    by : (t : Bool) → is_gt (entrant_cmp a b) ≡ t → Leads (if t then Some b else Some a) (Some a) × Leads (if t then Some b else Some a) (Some b)
    by true e = (behind a b e, leads_itself (Some b))
    by false e = (leads_itself (Some a), e)

earlier-one : (a b : Option Entrant) → (earlier_of a b ≡ a) ⊎ (earlier_of a b ≡ b)
earlier-one None b = inr refl
earlier-one (Some a) None = inl refl
earlier-one (Some a) (Some b) = by (is_gt (entrant_cmp a b))
  where
    by : (t : Bool) → ((if t then Some b else Some a) ≡ Some a) ⊎ ((if t then Some b else Some a) ≡ Some b)
    by true = inr refl
    by false = inl refl

-- ---- nodes

pub under_le : (n m : ℕ) → Under n m → n ≤ m
under_le n m here = omega arith
under_le n m (left u) = let h = under_le (2 * n) m u in omega (arith, h)
under_le n m (right u) = let h = under_le (2 * n + 1) m u in omega (arith, h)

-- another node is under one of the two children
pub under_split : (n m : ℕ) → n < m → Under n m → Under (2 * n) m ⊎ Under (2 * n + 1) m
under_split n m l here = absurd (omega (arith, l))
under_split n m l (left u) = inl u
under_split n m l (right u) = inr u

-- each node is under the first
under_first : (fuel n m : ℕ) → n ≤ fuel → 1 ≤ n → Under n m → Under 1 m
under_first zero n m f l u = absurd (omega (arith, f, l))
under_first (suc fuel) n m f l u =
    elim (cases_eq n 1) [
      | inl e ↦ subst (λ k. Under k m) e u
      | inr more ↦ elim (cases_eq n (2 * (n / 2))) [
        | inl e ↦ under_first fuel (n / 2) m (omega (arith, f, e)) (omega (arith, l, e)) (left (subst (λ k. Under k m) e u))
        | inr odd ↦
            let e : n ≡ 2 * (n / 2) + 1 = omega (arith, odd) in
            under_first fuel (n / 2) m (omega (arith, f, e)) (omega (arith, l, more, e)) (right (subst (λ k. Under k m) e u))
      ]
    ]

pub under_root : (m : ℕ) → 1 ≤ m → Under 1 m
under_root m l = under_first m m m (omega arith) l here

-- ---- the entrant in a slot

pub record Stands (slots : List (Option Parts)) (e : Entrant) : Type 0 where
  pub frame : Parts
  pub at : get_or slots e.place None ≡ Some frame
  pub field : arbitration_field frame ≡ e.field

entrant-stands : (slots : List (Option Parts)) (place : ℕ) (e : Entrant) → entrant_at slots place ≡ Some e → Stands slots e
entrant-stands slots place e is = by (get_or slots place None) refl is
  where
    by : (slot : Option Parts) → get_or slots place None ≡ slot → entrant_in slot place ≡ Some e → Stands slots e
    by None s k = absurd (let h : None ≡ Some e = k in cc)
    by (Some f) s k =
        let same : record { field = arbitration_field f; place = place } ≡ e = (let h : Some (record { field = arbitration_field f; place = place }) ≡ Some e = k in cc) in
        subst (Stands slots) same (record { frame = f; at = s; field = refl })

pub filled : (slots : List (Option Parts)) (place : ℕ) (f : Parts) → get_or slots place None ≡ Some f → place < length slots
filled slots place f e =
    elim (cases_lt place (length slots)) [
      | inl l ↦ l
      | inr past ↦ absurd (let h : None ≡ Some f = sym (get_or_past slots place None past) ∙ e in cc)
    ]

module _ (winners : List (Option Entrant)) (slots : List (Option Parts)) where
  abbrev at : ℕ → Option Entrant
  at = winner_at winners slots

  abbrev width : ℕ
  width = length winners

  at-kept : (n : ℕ) → n < width → at n ≡ get_or winners n None
  unfolding winner_at
  at-kept n l = cond-true (nat_lt n width) (get_or winners n None) (entrant_at slots (n - width)) (lt-ltb n width l)

  at-past : (n : ℕ) → width ≤ n → at n ≡ entrant_at slots (n - width)
  unfolding winner_at
  at-past n l = cond-false (nat_lt n width) (get_or winners n None) (entrant_at slots (n - width)) (le-ltb n width l)

  at-slot : (place : ℕ) → at (width + place) ≡ entrant_at slots place
  at-slot place = at-past (width + place) (omega arith) ∙ ap (entrant_at slots) (let e : width + place - width ≡ place = omega arith in e)

  pub at-frame : (place : ℕ) (f : Parts) → get_or slots place None ≡ Some f → at (width + place) ≡ Some (record { field = arbitration_field f; place = place })
  at-frame place f e = at-slot place ∙ ap (λ slot. entrant_in slot place) e

  module _ (played : IsPlayed winners slots) where
    leads-below : (n : ℕ) → 1 ≤ n → n < width → Leads (at n) (at (2 * n)) × Leads (at n) (at (2 * n + 1))
    leads-below n l w = rw (played n l w) (earlier-leads (at (2 * n)) (at (2 * n + 1)))

    -- the winner at a node goes before all under it
    leads-under : (n m : ℕ) → 1 ≤ n → m < 2 * width → Under n m → Leads (at n) (at m)
    leads-under n m l w here = leads_itself (at n)
    leads-under n m l w (left u) =
        let over = under_le (2 * n) m u in
        leads_trans (at n) (at (2 * n)) (at m) (leads-below n l (omega (arith, over, w))).0 (leads-under (2 * n) m (omega (arith, l)) w u)
    leads-under n m l w (right u) =
        let over = under_le (2 * n + 1) m u in
        leads_trans (at n) (at (2 * n + 1)) (at m) (leads-below n l (omega (arith, over, w))).1 (leads-under (2 * n + 1) m (omega (arith, l)) w u)

    -- and is in a slot
    wins-by : (fuel n : ℕ) (e : Entrant) → 1 ≤ n → width ≤ n + fuel → at n ≡ Some e → Stands slots e
    wins-by zero n e l f is = entrant-stands slots (n - width) e (sym (at-past n (omega (arith, f))) ∙ is)
    wins-by (suc fuel) n e l f is =
        elim (cases_lt n width) [
          | inr past ↦ entrant-stands slots (n - width) e (sym (at-past n past) ∙ is)
          | inl w ↦ elim (earlier-one (at (2 * n)) (at (2 * n + 1))) [
            | inl a ↦ wins-by fuel (2 * n) e (omega (arith, l)) (omega (arith, f, l)) (sym a ∙ sym (played n l w) ∙ is)
            | inr b ↦ wins-by fuel (2 * n + 1) e (omega (arith, l)) (omega (arith, f, l)) (sym b ∙ sym (played n l w) ∙ is)
          ]
        ]

    pub wins : (n : ℕ) (e : Entrant) → 1 ≤ n → at n ≡ Some e → Stands slots e
    wins n e l is = wins-by width n e l (omega arith) is

    -- a frame under a node is led by the winner there
    pub leads-frame : (n place : ℕ) (f : Parts) → 1 ≤ n → length slots ≤ width → Under n (width + place) → get_or slots place None ≡ Some f →
        Leads (at n) (Some (record { field = arbitration_field f; place = place }))
    leads-frame n place f l fit u e =
        let in_slots = filled slots place f e in
        subst (Leads (at n)) (at-frame place f e) (leads-under n (width + place) l (omega (arith, in_slots, fit)) u)

-- ---- a slot that changes

-- with other slots, which differ at one place at most
module _ (winners : List (Option Entrant)) (slots others : List (Option Parts)) (place : ℕ)
    (same : (n : ℕ) → n ≢ place → get_or others n None ≡ get_or slots n None) where
  at-other : (n : ℕ) → n ≢ length winners + place → winner_at winners others n ≡ winner_at winners slots n
  at-other n apart =
      elim (cases_lt n (length winners)) [
        | inl w ↦ at-kept winners others n w ∙ sym (at-kept winners slots n w)
        | inr past ↦
            at-past winners others n past
            ∙ ap (λ slot. entrant_in slot (n - length winners)) (same (n - length winners) (λ e. apart (omega (arith, e, past))))
            ∙ sym (at-past winners slots n past)
      ]

  pub played-but : IsPlayed winners slots → IsPlayedBut (length winners + place) winners others
  played-but played n l w apart_left apart_right =
      at-other n (λ e. omega (arith, e, w))
      ∙ played n l w
      ∙ sym (ap (λ a. earlier_of a (winner_at winners others (2 * n + 1))) (at-other (2 * n) apart_left)
      ∙ ap (earlier_of (winner_at winners slots (2 * n))) (at-other (2 * n + 1) apart_right))

-- ---- a node that is played again

module _ (winners : List (Option Entrant)) (slots : List (Option Parts)) (node : ℕ) where
  abbrev below : Option Entrant
  below = earlier_of (winner_at winners slots (2 * node)) (winner_at winners slots (2 * node + 1))

  abbrev anew : List (Option Entrant)
  anew = set winners node below

  size : length anew ≡ length winners
  size = length-set winners node below

  -- if the winner stays, those of the nodes over it do
  pub settled : node < length winners → (changed : ℕ) → node ≡ changed / 2 → below ≡ get_or winners node None → IsPlayedBut changed winners slots → IsPlayed winners slots
  settled inner changed half stays h n l w =
      elim (cases_eq n node) [
        | inl e ↦ subst (IsPlayedAt winners slots) (sym e) (at-kept winners slots node inner ∙ sym stays)
        | inr other ↦ h n l w (λ e. other (omega (arith, e, half))) (λ e. other (omega (arith, e, half)))
      ]

  module _ (first : 1 ≤ node) (inner : node < length winners) where
    anew-other : (n : ℕ) → n ≢ node → winner_at anew slots n ≡ winner_at winners slots n
    anew-other n apart =
        elim (cases_lt n (length winners)) [
          | inl w ↦ at-kept anew slots n (rw size w) ∙ get_or-set_other winners node n below None apart ∙ sym (at-kept winners slots n w)
          | inr past ↦ at-past anew slots n (rw size past) ∙ ap (λ k. entrant_at slots (n - k)) size ∙ sym (at-past winners slots n past)
        ]

    anew-same : (n : ℕ) → n ≢ node → 2 * n ≢ node → 2 * n + 1 ≢ node → IsPlayedAt winners slots n → IsPlayedAt anew slots n
    anew-same n apart apart_left apart_right h =
        anew-other n apart
        ∙ h
        ∙ sym (ap (λ a. earlier_of a (winner_at anew slots (2 * n + 1))) (anew-other (2 * n) apart_left)
        ∙ ap (earlier_of (winner_at winners slots (2 * n))) (anew-other (2 * n + 1) apart_right))

    anew-here : IsPlayedAt anew slots node
    anew-here =
        at-kept anew slots node (rw size inner)
        ∙ get_or-set_same winners node below None inner
        ∙ sym (ap (λ a. earlier_of a (winner_at anew slots (2 * node + 1))) (anew-other (2 * node) (λ e. omega (arith, e, first)))
        ∙ ap (earlier_of (winner_at winners slots (2 * node))) (anew-other (2 * node + 1) (λ e. omega (arith, e, first))))

    -- on the way from a changed slot to the first node
    pub replayed : (changed : ℕ) → node ≡ changed / 2 → IsPlayedBut changed winners slots → IsPlayedBut node anew slots
    replayed changed half h n l w apart_left apart_right =
        elim (cases_eq n node) [
          | inl e ↦ subst (IsPlayedAt anew slots) (sym e) anew-here
          | inr other ↦ anew-same n other apart_left apart_right
              (h n l (omega (arith, w, size)) (λ e. other (omega (arith, e, half))) (λ e. other (omega (arith, e, half))))
        ]

    -- and from the last node on
    pub restarted : ((n : ℕ) → node < n → n < length winners → IsPlayedAt winners slots n) → (n : ℕ) → node ≤ n → n < length anew → IsPlayedAt anew slots n
    restarted h n l w =
        elim (cases_eq n node) [
          | inl e ↦ subst (IsPlayedAt anew slots) (sym e) anew-here
          | inr other ↦ anew-same n other (λ e. omega (arith, e, l, first)) (λ e. omega (arith, e, l)) (h n (omega (arith, l, other)) (omega (arith, w, size)))
        ]
