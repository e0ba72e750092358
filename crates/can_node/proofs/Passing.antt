-- A frame that passes a port at once: the port has sent it, or received it, and is between frames again.
use Rattle.std.proofs.Common.{◌≡◌, ◌≢◌, ℕ, zero, suc, ◌+◌, ◌<◌, ◌≤◌, Bool, true, false, IsTrue, IsFalse, Option, Some, None, List, [], ◌∷◌, length, take, refl, sym, ◌∙◌, ap, subst, arith, inl, inr}
use Rattle.std.specs.Prelude.{if◌then◌else◌}
use Rattle.std.proofs.Math.Dec.{ltb}
use Rattle.std.proofs.lemmas.Bool.{cases_lt, cond-false, le-ltb}
use Rattle.std.proofs.lemmas.List.{take_all}
use Rattle.can_frame.specs.declared.level.Level.{Level}
use Rattle.can_frame.specs.declared.level.Level.TheVariants.{Recessive}
use Rattle.can_frame.specs.Parts.{Parts, IsFrame}
use Rattle.can_frame.specs.Arbitration.{arbitration_field, Before}
use Rattle.can_wire.specs.Layout.{level_at}
use Rattle.can_wire.specs.Wire.{stuffed_part}
use Rattle.can_fault.specs.Counters.{ConfineParts}
use Rattle.can_terms.specs.declared.event.Event.TheVariants.{Sent, Received}
use Rattle.can_mac.specs.declared.phase.Role.{Role}
use Rattle.can_mac.specs.declared.phase.Role.TheVariants.{Receiver, Sender}
use Rattle.can_mac.specs.State.{MacState, IsFrameOrNone}
use Rattle.can_mac.specs.Frames.{with_intermission, behind_part, role_at, frame_state, frame_event, frame_drives, end_event, behind_frame, phase_at, receiving_in, GoesBehind, IsPoised}
use Rattle.can_mac.proofs.FrameDrives.{begins-drives, drives-frame}
use Rattle.can_mac.proofs.FrameEnds.{end_levels, end_state, sender-settles}
use Rattle.can_mac.proofs.FrameParts.{length-with_intermission, line-late}
use Rattle.can_mac.proofs.Following.{receiver-state}
use Rattle.can_mac.proofs.FrameRoles.{role-own}
use Rattle.can_mac.proofs.FrameRuns.{enters-frame, event-first}
use Rattle.can_mac.proofs.FrameSteps.{Awake, event-early, state-late, step-next}
use Rattle.can_node.specs.Ports.{PortState, waiting, port_drives, port_noting, port_run, port_step}
use Rattle.can_node.proofs.OneFrame.{at_mac, port_noting-at_mac, step-port_noting}
use Rattle.can_node.proofs.FrameLeaves.{ComesBehind, IsUnnoted, loss-unnoted, receiver-late, received-once, sent-once}

-- f begins at a port, which starts with this frame: with f, or with one of lower priority, or with none
pub record Enters (f : Parts) (p : PortState) (next : Option Parts) : Type 0 where
  pub frame : IsFrame f
  pub poised : IsPoised p.mac (waiting p.queue) next
  pub kept : IsFrameOrNone next
  pub behind : GoesBehind f next

-- queue and log as bit time o of f begins
abbrev pub noted : Parts → Option Parts → PortState → ℕ → PortState
noted f next p zero = p
noted f next p (suc o) = port_noting (frame_event f next o) (noted f next p o)

-- the port then
abbrev pub going : Parts → Option Parts → PortState → ℕ → PortState
going f next p zero = p
going f next p (suc o) = at_mac (frame_state f next p.mac.overloads.pending p.mac.counters (suc o)) (noted f next p (suc o))

-- ---- runs

-- a run through known states
port_run-through : (levels : List Level) (s : ℕ → PortState) (t : ℕ) → t ≤ length levels → ((o : ℕ) → o < t → port_step (s o) (level_at levels o) ≡ s (suc o)) → port_run (s 0) (take t levels) ≡ s t
unfolding port_run
port_run-through [] s zero within each = refl
port_run-through [] s (suc t) within each = absurd (omega (arith, within))
port_run-through (x ∷ levels) s zero within each = refl
port_run-through (x ∷ levels) s (suc t) within each =
    ap (λ q. port_run q (take t levels)) (each 0 (omega arith))
    ∙ port_run-through levels (λ o. s (suc o)) t (omega (arith, within)) (λ o less. each (suc o) (omega (arith, less)))

-- one level more
pub port_run-taken : (levels : List Level) (p : PortState) (o : ℕ) → o < length levels → port_run p (take (suc o) levels) ≡ port_step (port_run p (take o levels)) (level_at levels o)
unfolding port_run
port_run-taken [] p o within = absurd (omega (arith, within))
port_run-taken (x ∷ []) p zero within = refl
port_run-taken (x ∷ (y ∷ levels)) p zero within = refl
port_run-taken (x ∷ levels) p (suc o) within = port_run-taken levels (port_step p x) o (omega (arith, within))

module _ (f : Parts) (p : PortState) (next : Option Parts) (enters : Enters f p next) where
  abbrev pending : ℕ
  pending = p.mac.overloads.pending

  abbrev c : ConfineParts
  c = p.mac.counters

  abbrev state : ℕ → MacState
  state o = frame_state f next pending c o

  goes-on : (o : ℕ) → o < length (with_intermission f) → Awake f next p.mac.counters o → port_step (going f next p o) (level_at (with_intermission f) o) ≡ going f next p (suc o)
  goes-on zero within awake =
      let step = enters-frame f enters.frame p.mac (waiting p.queue) next enters.poised.begins in
      step-port_noting p (level_at (with_intermission f) 0) (state 1) (frame_event f next 0) (ap (λ r. r.0) step) (ap (λ r. r.1) step ∙ sym (event-first f enters.frame next))
      ∙ port_noting-at_mac (frame_event f next 0) (state 1) p
  goes-on (suc o) within awake =
      let before = noted f next p (suc o) in
      let one_more : suc o + 1 ≡ suc (suc o) = omega arith in
      let step = step-next f enters.frame next pending c enters.kept enters.behind enters.poised.on_bus (waiting before.queue) (suc o) (omega arith) within (λ past. enters.poised.unasked) awake in
      step-port_noting (going f next p (suc o)) (level_at (with_intermission f) (suc o)) (state (suc (suc o))) (frame_event f next (suc o)) (ap (λ r. r.0) step ∙ ap state one_more) (ap (λ r. r.1) step)
      ∙ port_noting-at_mac (frame_event f next (suc o)) (state (suc (suc o))) before

  -- after the first o levels
  runs : (o : ℕ) → o ≤ length (with_intermission f) → ((k : ℕ) → k < o → Awake f next p.mac.counters k) → port_run p (take o (with_intermission f)) ≡ going f next p o
  runs o within awake = port_run-through (with_intermission f) (going f next p) o within (λ k less. goes-on k (omega (arith, less, within)) (awake k less))

  early-awake : (o : ℕ) → o < length (with_intermission f) → (k : ℕ) → k < o → Awake f next p.mac.counters k
  early-awake o within k less last sends = absurd (omega (arith, within, less, last))

  pub runs-early : (o : ℕ) → o < length (with_intermission f) → port_run p (take o (with_intermission f)) ≡ going f next p o
  runs-early o within = runs o (omega (arith, within)) (early-awake o within)

  -- in each bit time the port drives what is to be driven
  pub run-drives : (o : ℕ) → o < length (with_intermission f) → port_drives (port_run p (take o (with_intermission f))) ≡ frame_drives f next o
  unfolding port_drives
  run-drives zero within = ap port_drives (runs-early 0 within) ∙ begins-drives f p.mac (waiting p.queue) next enters.poised.begins
  run-drives (suc o) within =
      ap port_drives (runs-early (suc o) within)
      ∙ drives-frame f enters.frame next enters.kept enters.behind pending c (waiting (noted f next p (suc o)).queue) (suc o) (omega arith) within

  -- in the stuffed part nothing is noted
  noted-early : (o : ℕ) → o ≤ length (stuffed_part f) → noted f next p o ≡ p
  noted-early zero within = refl
  noted-early (suc o) within =
      ap (λ e. port_noting e (noted f next p o)) (event-early f next o (omega (arith, within)))
      ∙ loss-unnoted (role_at f next o) (role_at f next (o + 1)) (noted f next p o)
      ∙ noted-early o (omega (arith, within))

  -- a receiver there
  pub receives-early : (o : ℕ) → 0 < o → o < length (stuffed_part f) → role_at f next o ≡ Receiver → port_run p (take o (with_intermission f)) ≡ at_mac (receiving_in (phase_at f o) p.mac) p
  receives-early zero some within role = absurd (omega (arith, some))
  receives-early (suc o) some within role =
      runs-early (suc o) (omega (arith, within, length-with_intermission f))
      ∙ ap (at_mac (state (suc o))) (noted-early (suc o) (omega (arith, within)))
      ∙ ap (λ m. at_mac m p) (receiver-state f enters.frame next pending c (suc o) (omega (arith, within)) role)

  -- ---- what is noted

  abbrev n : ℕ
  n = length (stuffed_part f)

  last : length (with_intermission f) ≡ suc (n + 12)
  last = length-with_intermission f ∙ (let e : n + 13 ≡ suc (n + 12) = omega arith in e)

  -- after the stuffed part the port has this role, and one level causes this event, and no other one
  module _ (role : Role) (keeps : (o : ℕ) → length (stuffed_part f) ≤ o → role_at f next o ≡ role) (place : ℕ) (elsewhere : (k : ℕ) → k ≢ place → end_event f role k ≡ None) where
    late : (o : ℕ) → n ≤ o → frame_event f next o ≡ end_event f role (behind_part f o)
    late o past = cond-false (ltb o n) _ _ (le-ltb o n past) ∙ ap (λ r. end_event f r (behind_part f o)) (keeps o past)

    unnoted : (o : ℕ) → o ≢ n + place → IsUnnoted (frame_event f next o)
    unnoted o other q = elim (cases_lt o n) [
      | inl more ↦ ap (λ e. port_noting e q) (event-early f next o more) ∙ loss-unnoted (role_at f next o) (role_at f next (o + 1)) q
      | inr past ↦ ap (λ e. port_noting e q) (late o past ∙ elsewhere (behind_part f o) (λ e. other (omega (arith, e, past))))
    ]

    noted-before : (o : ℕ) → o ≤ n + place → noted f next p o ≡ p
    noted-before zero within = refl
    noted-before (suc o) within = unnoted o (λ e. omega (arith, e, within)) (noted f next p o) ∙ noted-before o (omega (arith, within))

    noted-behind : (o : ℕ) → n + place < o → noted f next p o ≡ port_noting (end_event f role place) p
    noted-behind zero past = absurd (omega (arith, past))
    noted-behind (suc o) past = elim (cases_lt (n + place) o) [
      | inl more ↦ unnoted o (λ e. omega (arith, e, more)) (noted f next p o) ∙ noted-behind o more
      | inr there ↦
          let here : behind_part f o ≡ place = omega (arith, past, there) in
          ap (λ e. port_noting e (noted f next p o)) (late o (omega (arith, past, there)) ∙ ap (end_event f role) here)
          ∙ ap (port_noting (end_event f role place)) (noted-before o (omega (arith, there)))
    ]

    state-in-end : (k o : ℕ) → o ≡ n + k → frame_state f next pending c o ≡ end_state f role pending c k
    state-in-end k o at =
        let past : n ≤ o = omega (arith, at) in
        let here : behind_part f o ≡ k = omega (arith, at) in
        state-late f enters.frame next pending c o past ∙ ap (λ r. end_state f r pending c (behind_part f o)) (keeps o past) ∙ ap (end_state f role pending c) here

  -- f stays in the queue of its transmitter until it is noted
  pub keeps-own : next ≡ Some f → (o : ℕ) → o < length (with_intermission f) → o ≤ length (stuffed_part f) + 9 → (port_run p (take o (with_intermission f))).queue ≡ p.queue
  keeps-own own o within early =
      ap (λ (q : PortState). q.queue) (runs-early o within) ∙ goes o
      ∙ ap (λ (q : PortState). q.queue) (noted-before (Sender f) (λ k past. ap (λ w. role_at f w k) own ∙ role-own f k) 9 (sent-once f) o early)
    where
      goes : (o : ℕ) → (going f next p o).queue ≡ (noted f next p o).queue
      goes zero = refl
      goes (suc o) = refl

  -- ---- all of f

  whole : take (suc (n + 12)) (with_intermission f) ≡ with_intermission f
  whole = take_all (suc (n + 12)) (with_intermission f) (omega (arith, last))

  receives : ComesBehind f next → port_run p (with_intermission f) ≡ port_noting (Some (Received f)) (at_mac (behind_frame f false p.mac) p)
  receives other =
      let keeps = receiver-late f next enters.frame enters.kept other in
      ap (port_run p) (sym whole)
      ∙ runs (suc (n + 12)) (omega (arith, last)) (λ k less end sends. absurd (let r = keeps k (omega (arith, end, last)) in let e : Receiver ≡ Sender f = sym r ∙ sends in cc))
      ∙ ap (λ m. at_mac m (noted f next p (suc (n + 12)))) (state-in-end Receiver keeps 8 (received-once f) 13 (suc (n + 12)) (omega arith))
      ∙ ap (at_mac (behind_frame f false p.mac)) (noted-behind Receiver keeps 8 (received-once f) (suc (n + 12)) (omega arith))
      ∙ sym (port_noting-at_mac (Some (Received f)) (behind_frame f false p.mac) p)

  sends : next ≡ Some f → port_run p (with_intermission f) ≡ port_noting (Some (Sent f)) (at_mac (behind_frame f true p.mac) p)
  sends own =
      let keeps : (o : ℕ) → n ≤ o → role_at f next o ≡ Sender f = λ o past. ap (λ w. role_at f w o) own ∙ role-own f o in
      let q = noted f next p (n + 12) in
      let before : going f next p (n + 12) ≡ at_mac (end_state f (Sender f) pending c 12) q =
      going-late (n + 12) (omega arith) ∙ ap (λ m. at_mac m q) (state-in-end (Sender f) keeps 9 (sent-once f) 12 (n + 12) (omega arith)) in
      let step = sender-settles f c enters.poised.on_bus (waiting q.queue) pending in
      ap (port_run p) (sym whole)
      ∙ port_run-taken (with_intermission f) p (n + 12) (omega (arith, last))
      ∙ ap (λ r. port_step r (level_at (with_intermission f) (n + 12))) (runs-early (n + 12) (omega (arith, last)) ∙ before)
      ∙ ap (port_step (at_mac (end_state f (Sender f) pending c 12) q)) (line-late f (n + 12) (omega arith) ∙ ap (level_at end_levels) (let e : behind_part f (n + 12) ≡ 12 = omega arith in e))
      ∙ step-port_noting (at_mac (end_state f (Sender f) pending c 12) q) Recessive (behind_frame f true p.mac) None (ap (λ r. r.0) step) (ap (λ r. r.1) step)
      ∙ ap (at_mac (behind_frame f true p.mac)) (noted-behind (Sender f) keeps 9 (sent-once f) (n + 12) (omega arith))
      ∙ sym (port_noting-at_mac (Some (Sent f)) (behind_frame f true p.mac) p)
    where
      going-late : (o : ℕ) → 0 < o → going f next p o ≡ at_mac (frame_state f next pending c o) (noted f next p o)
      going-late zero some = absurd (omega (arith, some))
      going-late (suc o) some = refl

  -- what f leaves, if the port has sent it, and if it has not
  pub passed : (sent : Bool) → (IsTrue sent → next ≡ Some f) → (IsFalse sent → ComesBehind f next)
      → port_run p (with_intermission f) ≡ port_noting (Some (if sent then Sent f else Received f)) (at_mac (behind_frame f sent p.mac) p)
  passed true own other = sends (own refl)
  passed false own other = receives (other refl)

pub comes-behind : (f : Parts) (w : Option Parts) → ((g : Parts) → w ≡ Some g → Before (arbitration_field f) (arbitration_field g)) → ComesBehind f w
comes-behind f None each = tt
comes-behind f (Some g) each = each g refl

-- what a port begins with is a frame, as what waits is
pub begins-kept : (p : PortState) (next : Option Parts) → IsPoised p.mac (waiting p.queue) next → IsFrameOrNone (waiting p.queue) → IsFrameOrNone next
begins-kept p next poised kept = elim poised.begins [
  | inl idle ↦ subst IsFrameOrNone (sym idle.1) kept
  | inr suspended ↦ subst IsFrameOrNone (sym suspended.1.1) tt
]
