-- A bus of any machines, reduced to one machine alone: a leader, and others that join it.
use Rattle.std.proofs.Common.{◌≡◌, ◌<◌, ◌⊎◌, List, [], ◌∷◌, length, map, refl, ap, ◌∙◌, arith, inl, inr}
use Rattle.std.proofs.lemmas.List.{length-map}
use Rattle.can_frame.specs.declared.level.Level.{Level}
use Rattle.can_frame.specs.declared.level.Level.TheVariants.{Dominant, Recessive}
use Rattle.can_bus.specs.Wired.{over, wired}

-- from these machines on the wire has these levels, of which each is seen as the one beside it
abbrev pub Gives : {M : Type 0} → (M → Level) → (Level → M → M) → List (Level × Level) → List M → Type 0
Gives drive step [] ms = Unit {0}
Gives drive step (l ∷ ls) ms = (wired (map drive ms) ≡ l.0) × Gives drive step ls (map (step l.1) ms)

-- a machine that drives these levels
abbrev pub Leads : {M : Type 0} → (M → Level) → (Level → M → M) → List (Level × Level) → List Level → M → Type 0
Leads drive step [] xs m = Unit {0}
Leads drive step (l ∷ ls) [] m = ⊥
Leads drive step (l ∷ ls) (x ∷ xs) m = (drive m ≡ x) × Leads drive step ls xs (step l.1 m)

-- a machine whose levels over those of the leader are those of the wire
abbrev pub Joins : {M : Type 0} → (M → Level) → (Level → M → M) → List (Level × Level) → List Level → M → Type 0
Joins drive step [] xs m = Unit {0}
Joins drive step (l ∷ ls) [] m = ⊥
Joins drive step (l ∷ ls) (x ∷ xs) m = (over x (drive m) ≡ l.0) × Joins drive step ls xs (step l.1 m)

abbrev pub AllJoin : {M : Type 0} → (M → Level) → (Level → M → M) → List (Level × Level) → List Level → List M → Type 0
AllJoin drive step ls xs [] = Unit {0}
AllJoin drive step ls xs (m ∷ ms) = Joins drive step ls xs m × AllJoin drive step ls xs ms

-- one leads, all others join
abbrev pub OneLeads : {M : Type 0} → (M → Level) → (Level → M → M) → List (Level × Level) → List Level → List M → Type 0
OneLeads drive step ls xs [] = ⊥
OneLeads drive step ls xs (m ∷ ms) = (Leads drive step ls xs m × AllJoin drive step ls xs ms) ⊎ (Joins drive step ls xs m × OneLeads drive step ls xs ms)

join_more : (x d w l : Level) → over x d ≡ l → over x w ≡ l → over x (over d w) ≡ l
join_more Dominant d w l e f = e
join_more Recessive Dominant w l e f = e
join_more Recessive Recessive w l e f = f

join_alone : (x d l : Level) → over x d ≡ l → over x (over d Recessive) ≡ l
join_alone Dominant d l e = e
join_alone Recessive Dominant l e = e
join_alone Recessive Recessive l e = e

lead_alone : (x d l : Level) → over x d ≡ l → over d (over x Recessive) ≡ l
lead_alone Dominant Dominant l e = e
lead_alone Dominant Recessive l e = e
lead_alone Recessive Dominant l e = e
lead_alone Recessive Recessive l e = e

over_wire : (x d l : Level) → over x d ≡ l → over d l ≡ l
over_wire x Dominant Dominant e = refl
over_wire Dominant Dominant Recessive e = absurd (let h : Dominant ≡ Recessive = e in cc)
over_wire Recessive Dominant Recessive e = absurd (let h : Dominant ≡ Recessive = e in cc)
over_wire x Recessive l e = refl

all_wire : {M : Type 0} (drive : M → Level) (step : Level → M → M) (l : Level × Level) (ls : List (Level × Level)) (x : Level) (xs : List Level) (m : M) (ms : List M) →
    AllJoin drive step (l ∷ ls) (x ∷ xs) (m ∷ ms) → over x (wired (map drive (m ∷ ms))) ≡ l.0
unfolding wired
all_wire drive step l ls x xs m [] h = join_alone x (drive m) l.0 h.0.0
all_wire drive step l ls x xs m (n ∷ ms) h =
    join_more x (drive m) (wired (map drive (n ∷ ms))) l.0 h.0.0 (all_wire drive step l ls x xs n ms h.1)

one_wire : {M : Type 0} (drive : M → Level) (step : Level → M → M) (l : Level × Level) (ls : List (Level × Level)) (x : Level) (xs : List Level) (ms : List M) →
    1 < length ms → OneLeads drive step (l ∷ ls) (x ∷ xs) ms → wired (map drive ms) ≡ l.0
unfolding wired
one_wire drive step l ls x xs [] n h = absurd h
one_wire drive step l ls x xs (m ∷ []) n h = absurd (omega arith)
one_wire drive step l ls x xs (m ∷ (k ∷ ms)) n (inl h) =
    ap (λ d. over d (wired (map drive (k ∷ ms)))) h.0.0 ∙ all_wire drive step l ls x xs k ms h.1
one_wire drive step l ls x xs (m ∷ (k ∷ [])) n (inr h) =
    elim h.1 [
      | inl g ↦ ap (λ d. over (drive m) (over d Recessive)) g.0.0 ∙ lead_alone x (drive m) l.0 h.0.0
      | inr g ↦ absurd g.1
    ]
one_wire drive step l ls x xs (m ∷ (k ∷ (j ∷ ms))) n (inr h) =
    ap (over (drive m)) (one_wire drive step l ls x xs (k ∷ (j ∷ ms)) (omega arith) h.1) ∙ over_wire x (drive m) l.0 h.0.0

all_go : {M : Type 0} (drive : M → Level) (step : Level → M → M) (l : Level × Level) (ls : List (Level × Level)) (x : Level) (xs : List Level) (ms : List M) →
    AllJoin drive step (l ∷ ls) (x ∷ xs) ms → AllJoin drive step ls xs (map (step l.1) ms)
all_go drive step l ls x xs [] h = tt
all_go drive step l ls x xs (m ∷ ms) h = (h.0.1, all_go drive step l ls x xs ms h.1)

one_goes : {M : Type 0} (drive : M → Level) (step : Level → M → M) (l : Level × Level) (ls : List (Level × Level)) (x : Level) (xs : List Level) (ms : List M) →
    OneLeads drive step (l ∷ ls) (x ∷ xs) ms → OneLeads drive step ls xs (map (step l.1) ms)
one_goes drive step l ls x xs [] h = absurd h
one_goes drive step l ls x xs (m ∷ ms) (inl h) = inl (h.0.1, all_go drive step l ls x xs ms h.1)
one_goes drive step l ls x xs (m ∷ ms) (inr h) = inr (h.0.1, one_goes drive step l ls x xs ms h.1)

no_leader : {M : Type 0} (drive : M → Level) (step : Level → M → M) (l : Level × Level) (ls : List (Level × Level)) (ms : List M) → OneLeads drive step (l ∷ ls) [] ms → ⊥
no_leader drive step l ls [] h = h
no_leader drive step l ls (m ∷ ms) (inl h) = h.0
no_leader drive step l ls (m ∷ ms) (inr h) = h.0

-- Two machines or more, of which one leads and the others join: the wire is what each of them alone makes of it.
pub reduction : {M : Type 0} (drive : M → Level) (step : Level → M → M) (ls : List (Level × Level)) (xs : List Level) (ms : List M) →
    1 < length ms → OneLeads drive step ls xs ms → Gives drive step ls ms
reduction drive step [] xs ms n h = tt
reduction drive step (l ∷ ls) [] ms n h = absurd (no_leader drive step l ls ms h)
reduction drive step (l ∷ ls) (x ∷ xs) ms n h =
    (one_wire drive step l ls x xs ms n h, reduction drive step ls xs (map (step l.1) ms) (simp length-map n) (one_goes drive step l ls x xs ms h))

pub maps-alike : {L M N : Type 0} (f : L → M) (g : M → N) (h : L → N) → ((l : L) → g (f l) ≡ h l) → (ls : List L) → map g (map f ls) ≡ map h ls
maps-alike f g h same [] = refl
maps-alike f g h same (l ∷ ls) = ap (λ n. n ∷ map g (map f ls)) (same l) ∙ ap (λ ns. h l ∷ ns) (maps-alike f g h same ls)
