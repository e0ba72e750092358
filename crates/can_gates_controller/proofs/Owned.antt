-- A transmitter's frame after a bit time, and the frame of the event.
use Rattle.std.proofs.Common.{◌≡◌, ℕ, ◌<◌, Bool, true, false, ◌||◌, cond, Option, Some, List, length, take, get_or, refl, subst, ◌∙◌, ap}
use Rattle.can_frame.specs.declared.level.Level.{Level}
use Rattle.can_frame.specs.Parts.{Parts}
use Rattle.can_wire.specs.Wire.{head, unstuffed}
use Rattle.can_code.specs.Front.{FrontParts, first_front, heard_level}
use Rattle.can_terms.specs.declared.event.Event.{Event}
use Rattle.can_mac.specs.declared.phase.Role.{Role}
use Rattle.can_mac.specs.declared.phase.Role.TheVariants.{Sender}
use Rattle.can_mac.specs.declared.phase.Phase.TheVariants.{StuffedPart, CrcDelimiter, AckSlot, AckDelimiter, EndOfFrame}
use Rattle.can_mac.specs.State.{MacPhase, MacState, IsMac, IsPhase, IsRole}
use Rattle.can_gates.specs.declared.literal.Literal.{Literal}
use Rattle.can_gates.specs.Circuit.{value, never}
use Rattle.can_gates_mac.specs.declared.registers.Controller.{Controller}
use Rattle.can_gates_mac.specs.Nibbles.{nibble}
use Rattle.can_terms.specs.Codes.{event_code}
use Rattle.can_gates_mac.specs.Numbers.{Numbers}
use Rattle.can_gates_mac.specs.Shown.{shown}
use Rattle.can_gates_mac.specs.Stepping.{IsStep}
use Rattle.can_gates_controller.specs.declared.registers.Registers.{Registers}
use Rattle.can_gates_controller.specs.Fronts.{HoldsLevels}
use Rattle.can_gates_controller.specs.Holding.{is_in_frame}
use Rattle.can_gates_controller.specs.Following.{is_part, is_behind_part, next_front, Owns, KeepsOwn, SeesOwn, IsPhaseBehind, IsEventIn}
use Rattle.can_gates_controller.specs.Whole.{HoldsOwn, HoldsAll, TellsFrame}
use Rattle.can_gates_controller.proofs.Phases.{same_front, front_in}
use Rattle.can_gates_controller.proofs.Own.{first_sent, more_sent}

pub frame_parts : (p : MacPhase) → (is_part p || is_behind_part p) ≡ is_in_frame p
frame_parts (StuffedPart front) = refl
frame_parts (CrcDelimiter r) = refl
frame_parts (AckSlot r) = refl
frame_parts (AckDelimiter r) = refl
frame_parts (EndOfFrame r place) = refl
frame_parts p = refl

pub event_is : (v : ℕ → Bool) (k : Controller) (after : MacState × Option Event) → IsStep v k after → nibble v k.wires.event ≡ event_code after.1
unfolding shown
event_is v k after h = ap (λ (n : Numbers). n.event) h.state

-- whose frame it is, if the next phase is one of a frame
owns_in : (p q : MacPhase) (role new : Role) (waiting : Option Parts) (x : Level) → is_in_frame q ≡ true → IsPhaseBehind p role waiting x q new → KeepsOwn p role waiting new
owns_in p (StuffedPart front) role new waiting x e is = is.1.0
owns_in p (CrcDelimiter r) role new waiting x e is = is.1.0
owns_in p (AckSlot r) role new waiting x e is = is.1.0
owns_in p (AckDelimiter r) role new waiting x e is = is.1.0
owns_in p (EndOfFrame r place) role new waiting x e is = is.1.0
owns_in p q role new waiting x e is = cc e

sees_in : (p q : MacPhase) (role new : Role) (waiting : Option Parts) (x : Level) (front : FrontParts) → q ≡ StuffedPart front → IsPhaseBehind p role waiting x q new → SeesOwn p x new
sees_in p q role new waiting x front e is =
    let P : MacPhase → Type 0 = λ q. IsPhaseBehind p role waiting x q new in (subst P e is).1.1

module _ (v : ℕ → Bool) (old made offered : List Literal) where
  levels_by : (b : Bool) (role : Role) (waiting : Option Parts) (f : Parts) → Owns b role waiting f → (b ≡ true → role ≡ Sender f → HoldsLevels v old (head f)) → (waiting ≡ Some f → HoldsLevels v offered (head f)) → ((p : ℕ) → p < 103 → value v (get_or made p never) ≡ cond b (value v (get_or old p never)) (value v (get_or offered p never))) → HoldsLevels v made (head f)
  levels_by true role waiting f owns kept offers is = λ p h. is p h ∙ kept refl owns p h
  levels_by false role waiting f owns kept offers is = λ p h. is p h ∙ offers owns p h

  own_sent : (p : MacPhase) (role new : Role) (waiting : Option Parts) (x : Level) (front : FrontParts) (f : Parts) → IsPhase p → IsRole role → ((g : FrontParts) → p ≡ StuffedPart g → role ≡ Sender f → g.unstuffed ≡ take (length g.unstuffed) (unstuffed f)) → next_front p x ≡ Some front → KeepsOwn p role waiting new → SeesOwn p x new → new ≡ Sender f → front.unstuffed ≡ take (length front.unstuffed) (unstuffed f)
  own_sent (StuffedPart g) role new waiting x front f phase is_role sent next owns sees e =
      let role_is = owns f e in
      let P : FrontParts → Type 0 = λ h. h.unstuffed ≡ take (length h.unstuffed) (unstuffed f) in
      subst P (same_front (heard_level g x) front next) (more_sent f (subst IsRole role_is is_role) g x phase (sent g refl role_is) (sees f e))
  own_sent (CrcDelimiter r) role new waiting x front f phase is_role sent next owns sees e = cc next
  own_sent (AckSlot r) role new waiting x front f phase is_role sent next owns sees e = cc next
  own_sent (AckDelimiter r) role new waiting x front f phase is_role sent next owns sees e = cc next
  own_sent (EndOfFrame r place) role new waiting x front f phase is_role sent next owns sees e = cc next
  own_sent p role new waiting x front f phase is_role sent next owns sees e =
      let P : FrontParts → Type 0 = λ h. h.unstuffed ≡ take (length h.unstuffed) (unstuffed f) in
      subst P (same_front first_front front next) (first_sent f)

  pub own_follows : (m : MacState) (waiting : Option Parts) (x : Level) (q : MacPhase) (new : Role) → IsMac m → HoldsOwn v old m.phase m.role → ((f : Parts) → waiting ≡ Some f → HoldsLevels v offered (head f)) → IsPhaseBehind m.phase m.role waiting x q new → ((p : ℕ) → p < 103 → value v (get_or made p never) ≡ cond (is_in_frame m.phase) (value v (get_or old p never)) (value v (get_or offered p never))) → HoldsOwn v made q new
  own_follows m waiting x q new is_mac held offers is places = record {
    levels = λ f e role. levels_by (is_in_frame m.phase) m.role waiting f (owns_in m.phase q m.role new waiting x e is f role) (held.levels f) (offers f) places;
    sent = λ f front e role. own_sent m.phase m.role new waiting x front f is_mac.phase is_mac.role (held.sent f) (front_in m.phase q m.role new waiting x front e is) (owns_in m.phase q m.role new waiting x (ap is_in_frame e) is) (sees_in m.phase q m.role new waiting x front e is) role;
  }

-- the frame of the event
pub told_frame : (v : ℕ → Bool) (k : Registers) (m : MacState) (e : Option Event) → HoldsAll v k m → IsEventIn m.phase m.role e → TellsFrame v k e
told_frame v k m e held told = record {
  sent = λ f is. let t = subst (λ e. IsEventIn m.phase m.role e) is told in held.own.levels f t.0 t.1;
  received = λ f is.
      let t = (subst (λ e. IsEventIn m.phase m.role e) is told).1 in
      let here = held.heard.told t.0 t.1.0 in
      (here.unstuffed, (t.1.1 ∙ ap (λ q. q.frame) here.told, here.levels));
}
