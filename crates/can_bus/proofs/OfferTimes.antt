-- The frames that are offered to a port, in order of time: which are offered by a time, and which at it.
use Rattle.std.specs.Prelude.{filter}
use Rattle.std.proofs.Common.{◌≡◌, ◌≢◌, ℕ, zero, suc, ◌<◌, ◌≤◌, List, [], ◌∷◌, ◌++◌, length, refl, sym, ap, ◌∙◌, arith, inl, inr, append_assoc, ◌+◌, subst}
use Rattle.std.proofs.Math.Dec.{eqb, leb}
use Rattle.std.proofs.lemmas.Bool.{cond-true, cond-false, cases_eq, cases_lt, le-leb, lt-leb, eq-eqb, ne_eqb}
use Rattle.std.proofs.lemmas.List.{append-nil}
use Rattle.can_frame.specs.Parts.{Parts}
use Rattle.can_node.proofs.Arrivals.{arrived, later_by}
use Rattle.can_node.proofs.GainingBreaks.{arrived-more}
use Rattle.can_bus.specs.Timed.{TimedParts, Lists, frames_of, offered_by, offered_first}
use Rattle.can_bus.proofs.Members.{stands-here, stands-later}
use Rattle.can_node.proofs.FramesWaiting.{AreFrames}

-- those that are offered at this time
abbrev pub offered_at : List TimedParts → ℕ → List Parts
offered_at own t = frames_of (filter (λ x. eqb x.time t) own)

-- none is earlier than this time
abbrev pub AreFrom : ℕ → List TimedParts → Type 0
AreFrom t own = (x : TimedParts) → Lists own x → t ≤ x.time

-- none is earlier than one before it
abbrev pub AreInOrder : List TimedParts → Type 0
AreInOrder [] = Unit {0}
AreInOrder (x ∷ own) = AreFrom x.time own × AreInOrder own

-- one offer more
module _ (x : TimedParts) (own : List TimedParts) (t : ℕ) where
  pub by-early : x.time ≤ t → offered_by t (x ∷ own) ≡ x.frame ∷ offered_by t own
  by-early early = ap frames_of (cond-true (leb x.time t) (x ∷ filter (λ y. leb y.time t) own) (filter (λ y. leb y.time t) own) (le-leb x.time t early))

  pub by-late : t < x.time → offered_by t (x ∷ own) ≡ offered_by t own
  by-late late = ap frames_of (cond-false (leb x.time t) (x ∷ filter (λ y. leb y.time t) own) (filter (λ y. leb y.time t) own) (lt-leb x.time t late))

  pub at-now : x.time ≡ t → offered_at (x ∷ own) t ≡ x.frame ∷ offered_at own t
  at-now now = ap frames_of (cond-true (eqb x.time t) (x ∷ filter (λ y. eqb y.time t) own) (filter (λ y. eqb y.time t) own) (eq-eqb x.time t now))

  pub at-other : x.time ≢ t → offered_at (x ∷ own) t ≡ offered_at own t
  at-other other = ap frames_of (cond-false (eqb x.time t) (x ∷ filter (λ y. eqb y.time t) own) (filter (λ y. eqb y.time t) own) (ne_eqb x.time t other))

pub offered_by-append : (t : ℕ) (a b : List TimedParts) → offered_by t (a ++ b) ≡ offered_by t a ++ offered_by t b
offered_by-append t [] b = refl
offered_by-append t (x ∷ a) b = elim (cases_lt t x.time) [
  | inl late ↦ by-late x (a ++ b) t late ∙ offered_by-append t a b ∙ ap (λ fs. fs ++ offered_by t b) (sym (by-late x a t late))
  | inr early ↦ by-early x (a ++ b) t early ∙ ap (λ fs. x.frame ∷ fs) (offered_by-append t a b) ∙ ap (λ fs. fs ++ offered_by t b) (sym (by-early x a t early))
]

-- frames that wait as the call begins
pub offered_by-first : (t : ℕ) (queue : List Parts) → offered_by t (offered_first queue) ≡ queue
offered_by-first t [] = refl
offered_by-first t (f ∷ queue) = by-early (record { time = 0; frame = f }) (offered_first queue) t (omega arith) ∙ ap (λ fs. f ∷ fs) (offered_by-first t queue)

pub length-offered_by : (t : ℕ) (own : List TimedParts) → length (offered_by t own) ≤ length own
length-offered_by t [] = omega arith
length-offered_by t (x ∷ own) = elim (cases_lt t x.time) [
  | inl late ↦ omega (arith, ap length (by-late x own t late), length-offered_by t own)
  | inr early ↦ omega (arith, ap length (by-early x own t early), length-offered_by t own)
]

-- at time 0 none is earlier
pub at-first : (own : List TimedParts) → offered_at own 0 ≡ offered_by 0 own
at-first [] = refl
at-first (x ∷ own) = elim (cases_eq x.time 0) [
  | inl now ↦ at-now x own 0 now ∙ ap (λ fs. x.frame ∷ fs) (at-first own) ∙ sym (by-early x own 0 (omega (arith, now)))
  | inr other ↦ at-other x own 0 other ∙ at-first own ∙ sym (by-late x own 0 (omega (arith, other)))
]

pub by-none : (t s : ℕ) (own : List TimedParts) → t < s → AreFrom s own → offered_by t own ≡ []
by-none t s [] less from = refl
by-none t s (x ∷ own) less from =
    by-late x own t (omega (arith, less, from x (stands-here x own))) ∙ by-none t s own less (λ y h. from y (stands-later x own y h))

-- those of the next time come before those of later ones
pub at-next : (own : List TimedParts) → AreInOrder own → (t : ℕ) → offered_by t own ++ offered_at own (suc t) ≡ offered_by (suc t) own
at-next [] order t = refl
at-next (x ∷ own) order t = elim (cases_lt t x.time) [
  | inr early ↦
      ap (λ fs. fs ++ offered_at (x ∷ own) (suc t)) (by-early x own t early)
      ∙ ap (λ fs. x.frame ∷ (offered_by t own ++ fs)) (at-other x own (suc t) (λ e. omega (arith, e, early)))
      ∙ ap (λ fs. x.frame ∷ fs) (at-next own order.1 t)
      ∙ sym (by-early x own (suc t) (omega (arith, early)))
  | inl late ↦
      let none : offered_by t own ≡ [] = by-none t x.time own late order.0 in
      let first : offered_by t (x ∷ own) ≡ [] = by-late x own t late ∙ none in
      let rest : offered_at own (suc t) ≡ offered_by (suc t) own = ap (λ fs. fs ++ offered_at own (suc t)) (sym none) ∙ at-next own order.1 t in
      ap (λ fs. fs ++ offered_at (x ∷ own) (suc t)) first
      ∙ elim (cases_eq x.time (suc t)) [
        | inl now ↦ at-now x own (suc t) now ∙ ap (λ fs. x.frame ∷ fs) rest ∙ sym (by-early x own (suc t) (omega (arith, now)))
        | inr other ↦ at-other x own (suc t) other ∙ rest ∙ sym (by-late x own (suc t) (omega (arith, other, late)))
      ]
]

-- so what is offered at time 0, and then bit time after bit time, is what is offered by a time
pub offered-arrived : (own : List TimedParts) → AreInOrder own → (t : ℕ) → offered_at own 0 ++ arrived (offered_at own) t ≡ offered_by t own
offered-arrived own order zero = append-nil (offered_at own 0) ∙ at-first own
offered-arrived own order (suc t) =
    sym (append_assoc (offered_at own 0) (arrived (offered_at own) t) (offered_at own (suc t)))
    ∙ ap (λ fs. fs ++ offered_at own (suc t)) (offered-arrived own order t)
    ∙ at-next own order t

pub frames-offered : (t : ℕ) (own : List TimedParts) → AreFrames (frames_of own) → AreFrames (offered_by t own)
frames-offered t [] are = tt
frames-offered t (x ∷ own) are = elim (cases_lt t x.time) [
  | inl late ↦ subst AreFrames (sym (by-late x own t late)) (frames-offered t own are.1)
  | inr early ↦ subst AreFrames (sym (by-early x own t early)) (are.0, frames-offered t own are.1)
]

-- n bit times later, in which what has arrived waits after this queue
pub queue-later : (now n : ℕ) (arrives : ℕ → List Parts) (queue : List Parts) (own : List TimedParts) → ((m : ℕ) → queue ++ arrived arrives m ≡ offered_by (now + m) own) →
    (m : ℕ) → (queue ++ arrived arrives n) ++ arrived (later_by n arrives) m ≡ offered_by ((now + n) + m) own
queue-later now n arrives queue own is m =
    append_assoc queue (arrived arrives n) (arrived (later_by n arrives) m) ∙ ap (λ fs. queue ++ fs) (sym (arrived-more n m arrives)) ∙ is (n + m)
    ∙ ap (λ t. offered_by t own) (let e : now + (n + m) ≡ (now + n) + m = omega arith in e)
