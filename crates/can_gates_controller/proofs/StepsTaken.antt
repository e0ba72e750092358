-- What a step makes of registers, and what goes out in it.
use Rattle.std.proofs.Common.{◌≡◌, ℕ, ◌≤◌, ◌<◌, Bool, true, false, not, ◌&&◌, ◌||◌, cond, Option, Some, None, List, get_or, [], ◌∷◌, refl, ◌∙◌, ap, subst, arith}
use Rattle.std.specs.Prelude.{nat_le, nat_lt}
use Rattle.can_frame.specs.Levels.{is_recessive, level_from}
use Rattle.can_frame.specs.Parts.{Parts, IsFrame}
use Rattle.can_wire.specs.Wire.{head}
use Rattle.can_terms.specs.declared.event.Event.{Event}
use Rattle.can_mac.specs.State.{MacState, idle, joining}
use Rattle.can_mac.specs.Machine.{mac_drives, holding}
use Rattle.can_mac.proofs.Kept.{holding_kept}
use Rattle.can_gates.specs.declared.literal.Literal.{Literal}
use Rattle.can_gates.specs.Circuit.{value, never}
use Rattle.can_gates.specs.Words.{number}
use Rattle.can_gates_mac.specs.declared.nibble.Nibble.{Nibble}
use Rattle.can_gates_mac.specs.declared.registers.Controller.{Controller}
use Rattle.can_gates_mac.specs.Nibbles.{nibble}
use Rattle.can_terms.specs.Codes.{event_code}
use Rattle.can_gates_mac.specs.Stepping.{Holds}
use Rattle.can_gates_controller.specs.declared.registers.Registers.{Registers}
use Rattle.can_gates_controller.specs.declared.registers.Offered.{Offered}
use Rattle.can_gates_controller.specs.Fronts.{HoldsLevels}
use Rattle.can_gates_controller.specs.Fields.{frame_told}
use Rattle.can_gates_controller.specs.Whole.{HoldsAll, Offers}
use Rattle.can_gates_controller.specs.Steps.{asked}
use Rattle.can_gates_controller.specs.Listed.{register_list}
use Rattle.can_gates_controller.specs.Stepped.{TakesLevels, taken_at}
use Rattle.can_gates_controller.proofs.Taking.{takes_holds, reset_holds}
use Rattle.can_gates_controller.proofs.ListedLemmas.{list_takes, list_resets}

-- What the registers take.

pub merged : (reset integrating enable first next held : Bool) → ((((enable && not reset) && next) || ((not enable && not reset) && held)) || (first && (reset && integrating))) ≡ cond reset (first && integrating) (cond enable next held)
merged true integrating true true next held = refl
merged true integrating true false next held = refl
merged true integrating false true next held = refl
merged true integrating false false next held = refl
merged false integrating true true true held = refl
merged false integrating true true false held = refl
merged false integrating true false true held = refl
merged false integrating true false false held = refl
merged false integrating false true next true = refl
merged false integrating false true next false = refl
merged false integrating false false next true = refl
merged false integrating false false next false = refl

pub not_first : (b : Bool) → false ≡ (b && false)
not_first true = refl
not_first false = refl

module _ (v w : ℕ → Bool) (held next : Registers) (taken : List Literal) (reset integrating enable : Bool) (is : (p : ℕ) → p < 277 → value v (get_or taken p never) ≡ taken_at reset integrating enable p (value v (get_or (register_list next) p never)) (value v (get_or (register_list held) p never))) (takes : TakesLevels v w 277 (register_list held) taken) where
  pub taken_reset : reset ≡ true → HoldsAll w held (cond integrating joining idle)
  taken_reset e = reset_holds w held integrating (list_resets w held integrating (λ p h. takes p h ∙ is p h ∙ rw e refl))

  taken_time : (m : MacState) → reset ≡ false → enable ≡ true → HoldsAll v next m → HoldsAll w held m
  taken_time m e f h = takes_holds v w held next m (list_takes v w held next (λ p l. takes p l ∙ is p l ∙ rw (e, f) refl)) h

  taken_rest : (m : MacState) → reset ≡ false → enable ≡ false → HoldsAll v held m → HoldsAll w held m
  taken_rest m e f h = takes_holds v w held held m (list_takes v w held held (λ p l. takes p l ∙ is p l ∙ rw (e, f) refl)) h

  -- by what the step is
  pub taken_behind : (m next_is : MacState) → HoldsAll v held m → HoldsAll v next next_is → HoldsAll w held (cond reset (cond integrating joining idle) (cond enable next_is m))
  taken_behind m next_is h hn = by reset enable refl refl
    where
      by : (a b : Bool) → reset ≡ a → enable ≡ b → HoldsAll w held (cond a (cond integrating joining idle) (cond b next_is m))
      by true b e f = taken_reset e
      by false true e f = taken_time next_is e f hn
      by false false e f = taken_rest m e f h

-- Own overload frames that are asked for.

few_is : (n : ℕ) (b : Bool) → nat_le n 2 ≡ b → nat_lt n 3 ≡ b
few_is n true e = grind (arith, e)
few_is n false e = grind (arith, e)

few_at_most : (n : ℕ) → nat_le n 2 ≡ true → n ≤ 2
few_at_most n e = grind (arith, e)

module _ (v : ℕ → Bool) (k : Controller) (held : Registers) (m : MacState) (pending : ℕ) (h : HoldsAll v held m) (made : (n : ℕ) → pending ≡ n → Holds v k (holding n m)) where
  unasked : pending ≡ m.overloads.pending → HoldsAll v (record { controller = k; heard = held.heard; own = held.own }) m
  unasked e =
      let x = made m.overloads.pending e in
      record { is = h.is; settled = h.settled; controller = record { phase = x.phase; place = x.place; last = x.last; unacknowledged = x.unacknowledged; first = x.first; sender = x.sender; pending = x.pending; used = x.used; counters = x.counters }; heard = h.heard; own = record { levels = h.own.levels; sent = h.own.sent } }

  held_by : (n : ℕ) → n ≤ 2 → pending ≡ n → HoldsAll v (record { controller = k; heard = held.heard; own = held.own }) (holding n m)
  held_by n few e = record { is = holding_kept m h.is n few; settled = h.settled; controller = made n e; heard = h.heard; own = record { levels = h.own.levels; sent = h.own.sent } }

  pub wish_holds : (hold asks : Bool) (w : ℕ) → asks ≡ (hold && nat_lt w 3) → pending ≡ cond asks w m.overloads.pending → HoldsAll v (record { controller = k; heard = held.heard; own = held.own }) (asked (cond hold (Some w) None) m)
  wish_holds false asks w is e = unasked (e ∙ rw is refl)
  wish_holds true asks w is e = by (nat_le w 2) refl
    where
      by : (b : Bool) → nat_le w 2 ≡ b → HoldsAll v (record { controller = k; heard = held.heard; own = held.own }) (cond b (holding w m) m)
      by true f = held_by w (few_at_most w f) (e ∙ rw (is, few_is w true f) refl)
      by false f = unasked (e ∙ rw (is, few_is w false f) refl)

pub two_places : (v : ℕ → Bool) (n : Nibble) → value v n.fours ≡ false → value v n.eights ≡ false → nibble v n ≡ number v (n.ones ∷ n.twos ∷ [])
unfolding nibble
two_places v n e f = rw (e, f) refl

-- What comes in.

pub recessive_from : (b : Bool) → b ≡ is_recessive (level_from b)
recessive_from true = refl
recessive_from false = refl

pub offers_is : (v : ℕ → Bool) (k : Offered) (b : Bool) (f : Parts) → value v k.waits ≡ b → IsFrame f → HoldsLevels v k.levels (head f) → Offers v k (cond b (Some f) None)
offers_is v k true f e is levels = record { frame = is; waits = e; levels = λ g same. let P : Parts → Type 0 = λ h. HoldsLevels v k.levels (head h) in subst P (same_frame f g same) levels }
  where
    or_this : Option Parts → Parts
    or_this None = f
    or_this (Some g) = g

    same_frame : (f g : Parts) → Some f ≡ Some g → f ≡ g
    same_frame f g e = ap or_this e
offers_is v k false f e is levels = record { frame = tt; waits = e; levels = λ g same. cc same }

-- What goes out.

pub drives_asked : (wish : Option ℕ) (m : MacState) (waiting : Option Parts) → mac_drives (asked wish m) waiting ≡ mac_drives m waiting
unfolding mac_drives
drives_asked None m waiting = refl
drives_asked (Some n) m waiting = by (nat_le n 2)
  where
    by : (b : Bool) → mac_drives (cond b (holding n m) m) waiting ≡ mac_drives m waiting
    by true = refl
    by false = refl

pub event_is : (reset enable : Bool) (e : Option Event) → cond (enable && not reset) (event_code e) 0 ≡ event_code (cond reset None (cond enable e None))
event_is true true e = refl
event_is true false e = refl
event_is false true e = refl
event_is false false e = refl

pub frame_is : (reset enable : Bool) (e : Option Event) (f : Parts) → frame_told (cond reset None (cond enable e None)) ≡ Some f → frame_told e ≡ Some f
frame_is true enable e f h = cc h
frame_is false true e f h = h
frame_is false false e f h = cc h
