-- Ports that a frame passes at once: what they drive in its bit times, and which they are among others.
use Rattle.std.proofs.Common.{◌≡◌, ℕ, zero, suc, ◌+◌, ◌++◌, ◌<◌, ◌⊎◌, Some, List, [], ◌∷◌, length, map, take, drop, get_or, add-one, refl, sym, ap, subst, ◌∙◌, arith, inl, inr}
use Rattle.std.proofs.lemmas.List.{map-id, take-take}
use Rattle.can_frame.specs.declared.level.Level.{Level}
use Rattle.can_frame.specs.declared.level.Level.TheVariants.{Dominant, Recessive}
use Rattle.can_frame.specs.Parts.{Parts, IsFrame}
use Rattle.can_wire.specs.Layout.{level_at}
use Rattle.can_wire.specs.Wire.{stuffed_part}
use Rattle.can_mac.specs.Frames.{driven_with_intermission, role_drives, with_intermission}
use Rattle.can_mac.specs.State.{MacState}
use Rattle.can_mac.proofs.FrameParts.{length-with_intermission}
use Rattle.can_mac.proofs.FrameRoles.{role-own}
use Rattle.can_node.specs.Passing.{HasHeardFirst, IsAside}
use Rattle.can_node.specs.Ports.{PortState, IsPort, port_drives, port_run}
use Rattle.can_node.proofs.FrameLeaves.{goes-behind}
use Rattle.can_node.proofs.FramesWaiting.{AreFrames-from, IsWaiting-waiting}
use Rattle.can_node.proofs.Passing.{Enters, begins-kept, comes-behind, run-drives}
use Rattle.can_node.proofs.Riding.{run-rides}
use Rattle.can_bus.specs.Passing.{IsReceived, MayPass, MayPassAll, PassesAt, PassesBus, PassesBy, PassesByAll, PassesFrom, Receives}
use Rattle.can_bus.specs.Wired.{over, wired}
use Rattle.can_bus.proofs.AsidePorts.{apart-drives, aside-apart}
use Rattle.can_bus.proofs.Contests.{AllPorts}
use Rattle.can_bus.proofs.FrameOnBus.{receiver-joins}
use Rattle.can_bus.proofs.HitRuns.{sees}
use Rattle.can_bus.proofs.PortLoops.{front_at}
use Rattle.can_bus.proofs.Reduction.{maps-alike}
use Rattle.can_bus.proofs.WireRuns.{all_after}
use Rattle.can_bus.proofs.WiredLemmas.{over_swap}

-- ---- what they drive

-- f begins at these ports
pub enters-from : (f : Parts) → IsFrame f → (p : PortState) → PassesFrom f p → Enters f p (Some f)
enters-from f is p own = record { frame = is; poised = own; kept = is; behind = inl refl }

pub enters-by : (f : Parts) → IsFrame f → (p : PortState) → IsPort p → (by : Receives f p) → Enters f p by.0
enters-by f is p valid by = record {
  frame = is;
  poised = by.1.0;
  kept = begins-kept p by.0 by.1.0 (IsWaiting-waiting p.queue (AreFrames-from p.queue valid.queued));
  behind = goes-behind f by.0 (comes-behind f by.0 by.1.1);
}

over_alone : (y : Level) → over y Recessive ≡ y
over_alone Dominant = refl
over_alone Recessive = refl

over_self : (y : Level) → over y y ≡ y
over_self Dominant = refl
over_self Recessive = refl

over_twice : (y w : Level) → over y (over y w) ≡ over y w
over_twice Dominant w = refl
over_twice Recessive w = refl

-- one level that comes to z over y, and others that come to z or to y
one_more : (y z d w : Level) → over y d ≡ z → (over y w ≡ y) ⊎ (over y w ≡ z) → over y (over d w) ≡ z
one_more Dominant z d w e h = e
one_more Recessive z Dominant w e h = e
one_more Recessive z Recessive w e (inl h) = h ∙ e
one_more Recessive z Recessive w e (inr h) = h

rest_more : (y z d w : Level) → (over y d ≡ y) ⊎ (over y d ≡ z) → over y w ≡ z → over y (over d w) ≡ z
rest_more Dominant z d w h e = e
rest_more Recessive z Dominant w (inl h) e = absurd (let k : Dominant ≡ Recessive = h in cc)
rest_more Recessive z Dominant w (inr h) e = h
rest_more Recessive z Recessive w h e = e

-- what the ports drive in bit time o of f
module _ (f : Parts) (is : IsFrame f) (o : ℕ) (within : o < length (with_intermission f)) where
  abbrev x : Level
  x = level_at (driven_with_intermission f) o

  abbrev l : Level
  l = level_at (with_intermission f) o

  abbrev drive : PortState → Level
  drive p = port_drives (port_run p (take o (with_intermission f)))

  -- the transmitter, a receiver, and a port that takes no part
  sender : (p : PortState) → PassesFrom f p → drive p ≡ x
  sender p own = run-drives f p (Some f) (enters-from f is p own) o within ∙ ap (λ r. role_drives f r o) (role-own f o)

  receiver : (p : PortState) → IsPort p → Receives f p → over x (drive p) ≡ l
  receiver p valid by =
      let enters = enters-by f is p valid by in
      ap (over x) (run-drives f p by.0 enters o within) ∙ receiver-joins f by.0 is enters.kept (comes-behind f by.0 by.1.1) enters.behind o within

  nobody : (p : PortState) → IsPort p → IsAside p → drive p ≡ Recessive
  nobody p valid aside = apart-drives (port_run p (take o (with_intermission f))) l (aside-apart f is p valid aside o within)

  -- together
  abbrev wire : List PortState → Level
  wire ports = wired (map drive ports)

  -- over the level of the transmitter this one comes to the same, or to the level of the frame
  abbrev Adds : Level → Type 0
  Adds d = (over x d ≡ x) ⊎ (over x d ≡ l)

  by-adds : (p : PortState) → IsPort p → PassesBy f p → Adds (drive p)
  by-adds p valid (inl aside) = inl (ap (over x) (nobody p valid aside) ∙ over_alone x)
  by-adds p valid (inr receives) = inr (receiver p valid receives)

  by-all-add : (ports : List PortState) → AllPorts IsPort ports → PassesByAll f ports → AllPorts (λ p. Adds (drive p)) ports
  by-all-add [] valid by = tt
  by-all-add (p ∷ ports) valid by = (by-adds p valid.0 by.0, by-all-add ports valid.1 by.1)

  bus-adds : (ports : List PortState) → AllPorts IsPort ports → PassesBus f ports → AllPorts (λ p. Adds (drive p)) ports
  bus-adds [] valid passes = absurd passes
  bus-adds (p ∷ ports) valid (inl one) = (inl (ap (over x) (sender p one.0) ∙ over_self x), by-all-add ports valid.1 one.1)
  bus-adds (p ∷ ports) valid (inr one) = (by-adds p valid.0 one.0, bus-adds ports valid.1 one.1)

  more-adds : (d w : Level) → Adds d → Adds w → Adds (over d w)
  more-adds d w (inl h) (inl k) = inl (rest_more x x d w (inl h) k)
  more-adds d w (inl h) (inr k) = inr (rest_more x l d w (inl h) k)
  more-adds d w (inr h) k = inr (one_more x l d w h k)

  wire-adds : (ports : List PortState) → AllPorts (λ p. Adds (drive p)) ports → Adds (wire ports)
  unfolding wired
  wire-adds [] add = inl (over_alone x)
  wire-adds (p ∷ ports) add = more-adds (drive p) (wire ports) add.0 (wire-adds ports add.1)

  -- with a receiver it comes to that of the frame
  received : (ports : List PortState) → AllPorts IsPort ports → AllPorts (λ p. Adds (drive p)) ports → IsReceived f ports → over x (wire ports) ≡ l
  unfolding wired
  received [] valid add got = absurd got
  received (p ∷ ports) valid add (inl here) = one_more x l (drive p) (wire ports) (receiver p valid.0 here) (wire-adds ports add.1)
  received (p ∷ ports) valid add (inr there) = rest_more x l (drive p) (wire ports) add.0 (received ports valid.1 add.1 there)

  -- and the transmitter's is in it
  sent : (ports : List PortState) → PassesBus f ports → over x (wire ports) ≡ wire ports
  unfolding wired
  sent [] passes = absurd passes
  sent (p ∷ ports) (inl one) = subst (λ d. over x (over d (wire ports)) ≡ over d (wire ports)) (sym (sender p one.0)) (over_twice x (wire ports))
  sent (p ∷ ports) (inr one) = over_swap x (drive p) (wire ports) ∙ ap (over (drive p)) (sent ports one.1)

  -- so the wire has the level of the frame
  pub bus-drives : (ports : List PortState) → AllPorts IsPort ports → PassesBus f ports → IsReceived f ports → wired (map (λ p. port_drives (port_run p (take o (with_intermission f)))) ports) ≡ level_at (with_intermission f) o
  bus-drives ports valid passes got = sym (sent ports passes) ∙ received ports valid (bus-adds ports valid passes) got

pub all_after-run : (levels : List Level) (ports : List PortState) → all_after sees levels ports ≡ map (λ p. port_run p levels) ports
unfolding port_run
all_after-run [] ports = sym (map-id ports)
all_after-run (x ∷ levels) ports = all_after-run levels (map (sees x) ports) ∙ maps-alike (sees x) (λ p. port_run p levels) (λ p. port_run p (x ∷ levels)) (λ p. refl) ports

-- in each bit time the wire has the level of a frame that passes
pub frame-wires : (f : Parts) → IsFrame f → (ports : List PortState) → AllPorts IsPort ports → PassesBus f ports → IsReceived f ports → (o : ℕ) → o < length (with_intermission f) →
    wired (map port_drives (all_after sees (take o (with_intermission f)) ports)) ≡ level_at (with_intermission f) o
frame-wires f is ports valid passes got o within =
    ap (λ ps. wired (map port_drives ps)) (all_after-run (take o (with_intermission f)) ports)
    ∙ ap wired (maps-alike (λ p. port_run p (take o (with_intermission f))) port_drives (λ p. port_drives (port_run p (take o (with_intermission f)))) (λ p. refl) ports)
    ∙ bus-drives f is o within ports valid passes got

-- ---- one port after another

-- a frame that passes by these ports passes by one more
passes-step : {X : Type 0} (S : X → PortState) (f : Parts) (xs : List X) (i : ℕ) (d : X) → i < length xs → PassesByAll f (map S (take i xs)) → PassesBy f (S (get_or xs i d)) → PassesByAll f (map S (take (suc i) xs))
passes-step S f [] i d within before here = absurd (omega (arith, within))
passes-step S f (x ∷ []) zero d within before here = (here, tt)
passes-step S f (x ∷ (y ∷ xs)) zero d within before here = (here, tt)
passes-step S f (x ∷ xs) (suc i) d within before here = (before.0, passes-step S f xs i d (omega (arith, within)) before.1 here)

pub passes-more : {X : Type 0} (S : X → PortState) (f : Parts) (xs : List X) (i : ℕ) (d : X) → i < length xs → PassesByAll f (map S (take i xs)) → PassesBy f (S (get_or xs i d)) → PassesByAll f (map S (take (i + 1) xs))
passes-more S f xs i d within before here = rw add-one (passes-step S f xs i d within before here)

-- one port among others
passes-one : {X : Type 0} (S : X → PortState) (f : Parts) (xs : List X) (i : ℕ) (d : X) → i < length xs → PassesByAll f (map S (take i xs)) → PassesFrom f (S (get_or xs i d)) → PassesByAll f (map S (drop (suc i) xs)) →
    PassesBus f (map S xs)
passes-one S f [] i d within before own behind = absurd (omega (arith, within))
passes-one S f (x ∷ xs) zero d within before own behind = inl (own, behind)
passes-one S f (x ∷ xs) (suc i) d within before own behind = inr (before.0, passes-one S f xs i d (omega (arith, within)) before.1 own behind)

pub passes-at : {X : Type 0} (S : X → PortState) (f : Parts) (xs : List X) (i : ℕ) (d : X) → i < length xs → PassesByAll f (map S (take i xs)) → PassesFrom f (S (get_or xs i d)) → PassesByAll f (map S (drop (i + 1) xs)) →
    PassesBus f (map S xs)
passes-at S f xs i d within before own behind = passes-one S f xs i d within before own (subst (λ n. PassesByAll f (map S (drop n xs))) (add-one i) behind)

by-all : (f : Parts) (s k : ℕ) (ports : List PortState) → PassesByAll f ports → PassesAt f s k ports
by-all f s k [] by = tt
by-all f s k (p ∷ ports) by = (inr by.0, by-all f s (k + 1) ports by.1)

sender-from : {X : Type 0} (S : X → PortState) (f : Parts) (xs : List X) (i k : ℕ) (d : X) → i < length xs → PassesByAll f (map S (take i xs)) → PassesFrom f (S (get_or xs i d)) → PassesByAll f (map S (drop (suc i) xs)) →
    PassesAt f (k + i) k (map S xs)
sender-from S f [] i k d within before own behind = absurd (omega (arith, within))
sender-from S f (x ∷ xs) zero k d within before own behind = (inl ((let e : k ≡ k + 0 = omega arith in e), own), by-all f (k + 0) (k + 1) (map S xs) behind)
sender-from S f (x ∷ xs) (suc i) k d within before own behind =
    (inr before.0, subst (λ s. PassesAt f s (k + 1) (map S xs)) (let e : (k + 1) + i ≡ k + suc i = omega arith in e) (sender-from S f xs i (k + 1) d (omega (arith, within)) before.1 own behind))

pub sender-at : {X : Type 0} (S : X → PortState) (f : Parts) (xs : List X) (i : ℕ) (d : X) → i < length xs → PassesByAll f (map S (take i xs)) → PassesFrom f (S (get_or xs i d)) → PassesByAll f (map S (drop (i + 1) xs)) →
    PassesAt f i 0 (map S xs)
sender-at S f xs i d within before own behind =
    subst (λ s. PassesAt f s 0 (map S xs)) (let e : 0 + i ≡ i = omega arith in e) (sender-from S f xs i 0 d within before own (subst (λ n. PassesByAll f (map S (drop n xs))) (add-one i) behind))

-- each port is off the bus, or lets the frame pass
lets-by : (f : Parts) (p : PortState) → PassesBy f p → MayPass f p
lets-by f p (inl aside) = inl aside
lets-by f p (inr by) = inr (by.0, (by.1.0, goes-behind f by.0 (comes-behind f by.0 by.1.1)))

all-may : (f : Parts) (ports : List PortState) → PassesByAll f ports → MayPassAll f ports
all-may f [] by = tt
all-may f (p ∷ ports) by = (lets-by f p by.0, all-may f ports by.1)

pub bus-may : (f : Parts) (ports : List PortState) → PassesBus f ports → MayPassAll f ports
bus-may f [] passes = tt
bus-may f (p ∷ ports) (inl one) = (inr (Some f, (one.0, inl refl)), all-may f ports one.1)
bus-may f (p ∷ ports) (inr one) = (lets-by f p one.0, bus-may f ports one.1)

-- f may pass all ports of two lists, one after the other
may-parts : {X : Type 0} (S : X → PortState) (f : Parts) (xs ys : List X) → MayPassAll f (map S (xs ++ ys)) → MayPassAll f (map S xs) × MayPassAll f (map S ys)
may-parts S f [] ys may = (tt, may)
may-parts S f (x ∷ xs) ys may = let more = may-parts S f xs ys may.1 in ((may.0, more.0), more.1)

-- a port that has sampled the first levels of f
rides-to : (f : Parts) → IsFrame f → (p : PortState) → IsPort p → MayPass f p → (o : ℕ) → 0 < o → o < length (with_intermission f) → HasHeardFirst f o (port_run p (take o (with_intermission f))).mac.phase
rides-to f is p valid may zero some within = absurd (omega (arith, some))
rides-to f is p valid (inl aside) (suc o) some within = λ front part. absurd ((aside-apart f is p valid aside (suc o) within).elsewhere front part)
rides-to f is p valid (inr lets) (suc o) some within = λ front part.
    let enters : Enters f p lets.0 = record { frame = is; poised = lets.1.0; kept = begins-kept p lets.0 lets.1.0 (IsWaiting-waiting p.queue (AreFrames-from p.queue valid.queued)); behind = lets.1.1 } in
    ap (λ (m : MacState). m.phase) (run-rides f p lets.0 enters o within)

-- the same, if these are the levels
rides-front : (f : Parts) → IsFrame f → (p q : PortState) → IsPort p → MayPass f p → (front : List Level) → front ≡ take (length front) (with_intermission f) → 0 < length front → length front < length (stuffed_part f) →
    q ≡ port_run p front → HasHeardFirst f (length front) q.mac.phase
rides-front f is p q valid may front of some within runs =
    subst (λ (state : PortState). HasHeardFirst f (length front) state.mac.phase) (sym (runs ∙ ap (port_run p) of)) (rides-to f is p valid may (length front) some (omega (arith, within, length-with_intermission f)))

-- the ports before and after the transmitter, and what it has heard
pub rides-others : {X : Type 0} (S : X → PortState) (f : Parts) → IsFrame f → (sender : X) → IsPort (S sender) → (xs before behind : List X) → xs ≡ before ++ sender ∷ behind → PassesBus f (map S xs) →
    (front : List Level) → front ≡ take (length front) (with_intermission f) → 0 < length front → length front < length (stuffed_part f) → (q : PortState) → q ≡ port_run (S sender) front →
    MayPassAll f (map S before) × MayPassAll f (map S behind) × HasHeardFirst f (length front) q.mac.phase
rides-others S f is sender valid xs before behind cut passes front of some within q runs =
    let may = may-parts S f before (sender ∷ behind) (subst (λ ys. MayPassAll f (map S ys)) cut (bus-may f (map S xs) passes)) in
    (may.0, may.1.1, rides-front f is (S sender) q valid may.1.0 front of some within runs)

-- a port that receives the frame, among the first of some, or after them
pub received-first : {X : Type 0} (S : X → PortState) (f : Parts) (xs : List X) (n : ℕ) → IsReceived f (map S (take n xs)) → IsReceived f (map S xs)
received-first S f [] zero got = absurd got
received-first S f [] (suc n) got = absurd got
received-first S f (x ∷ xs) zero got = absurd got
received-first S f (x ∷ xs) (suc n) (inl here) = inl here
received-first S f (x ∷ xs) (suc n) (inr there) = inr (received-first S f xs n there)

pub received-behind : {X : Type 0} (S : X → PortState) (f : Parts) (xs : List X) (n : ℕ) → IsReceived f (map S (drop n xs)) → IsReceived f (map S xs)
received-behind S f [] zero got = absurd got
received-behind S f [] (suc n) got = absurd got
received-behind S f (x ∷ xs) zero got = got
received-behind S f (x ∷ xs) (suc n) got = inr (received-behind S f xs n got)

pub received-more : {X : Type 0} (S : X → PortState) (f : Parts) (xs : List X) (n : ℕ) → IsReceived f (map S (take n xs)) → IsReceived f (map S (take (n + 1) xs))
received-more S f xs n got = received-first S f (take (n + 1) xs) n (subst (λ ys. IsReceived f (map S ys)) (sym (take-take n (n + 1) xs (omega arith))) got)

received-at : {X : Type 0} (S : X → PortState) (f : Parts) (xs : List X) (n : ℕ) (d : X) → n < length xs → Receives f (S (get_or xs n d)) → IsReceived f (map S (take (suc n) xs))
received-at S f [] n d within here = absurd (omega (arith, within))
received-at S f (x ∷ xs) zero d within here = inl here
received-at S f (x ∷ xs) (suc n) d within here = inr (received-at S f xs n d (omega (arith, within)) here)

pub received-here : {X : Type 0} (S : X → PortState) (f : Parts) (xs : List X) (n : ℕ) (d : X) → n < length xs → Receives f (S (get_or xs n d)) → IsReceived f (map S (take (n + 1) xs))
received-here S f xs n d within here = rw add-one (received-at S f xs n d within here)

-- what may pass all ports may pass the next one, after those before it have changed
pub may-next : {X : Type 0} (S : X → PortState) (f : Parts) (F : ℕ → PortState → PortState) (k i : ℕ) (xs : List X) (ps : List PortState) (d : X) → MayPassAll f ps → map S xs ≡ front_at F k i ps → i < length xs →
    MayPass f (S (get_or xs i d))
may-next S f F k i [] ps d may e within = absurd (omega (arith, within))
may-next S f F k i (x ∷ xs) [] d may e within = absurd (nothing i e)
  where
    nothing : (i : ℕ) → map S (x ∷ xs) ≡ front_at F k i [] → ⊥
    nothing zero e = let n : length (S x ∷ map S xs) ≡ 0 = ap length e in omega (arith, n)
    nothing (suc i) e = let n : length (S x ∷ map S xs) ≡ 0 = ap length e in omega (arith, n)
may-next S f F k zero (x ∷ xs) (p ∷ ps) d may e within = let h : S x ≡ p = cc in subst (MayPass f) (sym h) may.0
may-next S f F k (suc i) (x ∷ xs) (p ∷ ps) d may e within = let t : map S xs ≡ front_at F (k + 1) i ps = cc in may-next S f F (k + 1) i xs ps d may.1 t (omega (arith, within))
