-- A frame one of whose levels is inverted on the bus, at one port at which frames arrive in the meantime: they wait after the others, and
-- nothing else changes.
use Rattle.std.proofs.Common.{◌≡◌, ℕ, zero, suc, ◌+◌, ◌<◌, ◌≤◌, Some, List, [], ◌∷◌, ◌++◌, length, take, refl, sym, ◌∙◌, ap, arith, append_assoc}
use Rattle.std.proofs.lemmas.List.{append-nil}
use Rattle.can_frame.specs.declared.level.Level.{Level}
use Rattle.can_frame.specs.Parts.{Parts}
use Rattle.can_fault.specs.Counters.{ConfineParts}
use Rattle.can_mac.specs.State.{MacState}
use Rattle.can_mac.specs.Frames.{with_intermission, frame_state}
use Rattle.can_mac.proofs.FrameParts.{length-with_intermission}
use Rattle.can_mac.proofs.ErrorFrames.{Goes}
use Rattle.can_mac.proofs.HitLevels.{IsHit}
use Rattle.can_node.specs.Ports.{PortState, waiting, port_step}
use Rattle.can_node.proofs.Arrivals.{GainingPort, gaining, gains, gains-none, gains-twice, later, later_by, arrived, gaining_step, gaining_run, later_by-at}
use Rattle.can_node.proofs.OneFrame.{at_mac, port_noting_at, gaining_at, gaining_run-at}
use Rattle.can_node.proofs.FrameLeaves.{Sends, Receives, sends-Meets, receives-Meets, early-sent, early-received}
use Rattle.can_node.proofs.BrokenFrames.{seen_of, one-port_step}

-- ---- what arrives, in two parts

pub arrived-more : (n m : ℕ) (arrives : ℕ → List Parts) → arrived arrives (n + m) ≡ arrived arrives n ++ arrived (later_by n arrives) m
arrived-more n zero arrives = ap (arrived arrives) (let e : n + 0 ≡ n = omega arith in e) ∙ sym (append-nil (arrived arrives n))
arrived-more n (suc m) arrives =
    ap (arrived arrives) (let e : n + suc m ≡ suc (n + m) = omega arith in e)
    ∙ ap (λ a. a ++ arrives (suc (n + m))) (arrived-more n m arrives)
    ∙ append_assoc (arrived arrives n) (arrived (later_by n arrives) m) (arrives (suc (n + m)))
    ∙ ap (λ b. arrived arrives n ++ (arrived (later_by n arrives) m ++ b)) (ap arrives (let e : suc (n + m) ≡ n + suc m = omega arith in e) ∙ sym (later_by-at n (suc m) arrives))

pub later_by-more : (n m : ℕ) (arrives : ℕ → List Parts) → later_by (n + m) arrives ≡ later_by m (later_by n arrives)
later_by-more zero m arrives = ap (λ k. later_by k arrives) (let e : 0 + m ≡ m = omega arith in e)
later_by-more (suc n) m arrives = ap (λ k. later_by k arrives) (let e : suc n + m ≡ suc (n + m) = omega arith in e) ∙ later_by-more n m (later arrives)

-- a port with this controller, and its state n bit times later, if only frames arrive
abbrev pub put : MacState → GainingPort → GainingPort
put m g = gaining (at_mac m g.port) g.arrives

abbrev pub gained : ℕ → GainingPort → GainingPort
gained n g = gaining (gains (arrived g.arrives n) g.port) (later_by n g.arrives)

pub gained-more : (n m : ℕ) (g : GainingPort) → gained m (gained n g) ≡ gained (n + m) g
gained-more n m g =
    ap (λ p. gaining p (later_by m (later_by n g.arrives))) (gains-twice (arrived g.arrives n) (arrived (later_by n g.arrives) m) g.port)
    ∙ ap (λ fs. gaining (gains fs g.port) (later_by m (later_by n g.arrives))) (sym (arrived-more n m g.arrives))
    ∙ ap (gaining (gains (arrived g.arrives (n + m)) g.port)) (sym (later_by-more n m g.arrives))

-- ---- levels after others

pub gaining_run-append : (a b : List Level) (g : GainingPort) → gaining_run g (a ++ b) ≡ gaining_run (gaining_run g a) b
gaining_run-append [] b g = refl
gaining_run-append (x ∷ a) b g = gaining_run-append a b (gaining_step g x)

-- ---- the next state of a controller

pub one-gaining_step : (m : MacState) (l : Level × Level) (next : MacState) (g : GainingPort) → port_step (at_mac m g.port) l.1 ≡ at_mac next g.port →
    gaining_step (put m g) l.1 ≡ put next (gained 1 g)
one-gaining_step m l next g one = ap (λ p. gaining (gains (g.arrives 1) p) (later g.arrives)) one

pub goes-gaining : (C : ConfineParts → Type 0) (levels : List (Level × Level)) (m n : MacState) → Goes C levels m n → (g : GainingPort) →
    gaining_run (put m g) (seen_of levels) ≡ gained (length levels) (put n g)
goes-gaining C [] m n goes g = ap (λ s. put s g) goes ∙ ap (λ p. gaining p g.arrives) (sym (gains-none (at_mac n g.port)))
goes-gaining C (l ∷ levels) m n goes g =
    ap (λ h. gaining_run h (seen_of levels)) (one-gaining_step m l goes.1.0 g (one-port_step m l.0 l.1 goes.1.0 goes.1.1.0 g.port))
    ∙ goes-gaining C levels goes.1.0 n goes.1.1.1 (gained 1 g)
    ∙ gained-more 1 (length levels) (put n g)
    ∙ ap (λ k. gained k (put n g)) (let e : 1 + length levels ≡ length (l ∷ levels) = omega arith in e)

-- ---- as the hit falls

module _ (f : Parts) (g : GainingPort) (o : ℕ) (hit : IsHit f o) where
  abbrev p : PortState
  p = g.port

  in_line : o ≤ length (with_intermission f)
  in_line = omega (arith, hit.within, length-with_intermission f)

  at-again : (k : ℕ) → 0 < k → port_noting_at f p g.arrives k ≡ gains (arrived g.arrives k) p →
      gaining_at f g k ≡ gained k (put (frame_state f (waiting p.queue) p.mac.overloads.pending p.mac.counters k) g)
  at-again zero some early = absurd (omega (arith, some))
  at-again (suc k) some early =
      ap (λ q. gaining (at_mac (frame_state f (waiting p.queue) p.mac.overloads.pending p.mac.counters (suc k)) q) (later_by (suc k) g.arrives)) early

  pub sender-stood : Sends f p → gaining_run g (take o (with_intermission f)) ≡ gained o (put (frame_state f (Some f) p.mac.overloads.pending p.mac.counters o) g)
  sender-stood h =
      gaining_run-at f g (sends-Meets f p h) o in_line ∙ at-again o hit.some (early-sent f p g.arrives h o (omega (arith, hit.within)))
      ∙ ap (λ w. gained o (put (frame_state f w p.mac.overloads.pending p.mac.counters o) g)) h.own

  pub receiver-stood : Receives f p → gaining_run g (take o (with_intermission f)) ≡ gained o (put (frame_state f (waiting p.queue) 0 p.mac.counters o) g)
  receiver-stood h =
      gaining_run-at f g (receives-Meets f p h) o in_line ∙ at-again o hit.some (early-received f p g.arrives h o hit.within)
      ∙ ap (λ k. gained o (put (frame_state f (waiting p.queue) k p.mac.counters o) g)) h.ready.unasked
