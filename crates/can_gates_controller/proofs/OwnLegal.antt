-- What is so of the registers of each transmitter's frame.
use Rattle.std.proofs.Common.{◌≡◌, ℕ, ◌+◌, ◌<◌, ◌≤◌, ◌⊎◌, inl, inr, Bool, true, false, not, ◌&&◌, ◌||◌, cond, List, ◌++◌, length, take, refl, sym, ◌∙◌, ap, arith}
use Rattle.std.specs.Prelude.{nat_lt}
use Rattle.std.proofs.lemmas.Bool.{cases_lt}
use Rattle.std.proofs.lemmas.List.{get_or-take}
use Rattle.can_frame.specs.declared.level.Level.{Level}
use Rattle.can_frame.specs.declared.level.Level.TheVariants.{Dominant, Recessive}
use Rattle.can_frame.specs.Levels.{is_recessive}
use Rattle.can_frame.specs.Parts.{Parts, IsFrame}
use Rattle.can_wire.specs.Crc.{crc_of}
use Rattle.can_wire.specs.Heard.{sent}
use Rattle.can_wire.specs.Layout.{level_at, extended_of, rtr_place, heard_of}
use Rattle.can_wire.specs.Wire.{head, unstuffed}
use Rattle.can_wire.proofs.DivisionLemmas.{none}
use Rattle.can_wire.proofs.LayoutPlaces.{level_at-dominant, level_at-append}
use Rattle.can_wire.proofs.LayoutHead.{heard_head-sent, IsHeard-sent}
use Rattle.can_wire.proofs.LayoutRead.{heard_of-heard_head}
use Rattle.can_code.specs.Front.{FrontParts}
use Rattle.can_mac.specs.declared.phase.Role.{Role}
use Rattle.can_mac.specs.declared.phase.Role.TheVariants.{Receiver, Sender}
use Rattle.can_mac.specs.declared.phase.Phase.TheVariants.{StuffedPart}
use Rattle.can_mac.specs.State.{MacPhase, is_sender}
use Rattle.can_gates.specs.Circuit.{differ}
use Rattle.can_gates_controller.specs.Following.{is_part}
use Rattle.can_gates_controller.specs.Holding.{is_in_frame}
use Rattle.can_gates_controller.proofs.Checks.{below_is, above_is}

-- Its form.

form_of : (u : List Level) (e : Bool) → cond e (level_at u 12) Recessive ≡ Recessive → cond e (level_at u 33) Dominant ≡ Dominant → level_at u (rtr_place e + 2) ≡ Dominant → cond e (is_recessive (level_at u 12) && (not (is_recessive (level_at u 33)) && not (is_recessive (level_at u 34)))) (not (is_recessive (level_at u 14))) ≡ true
form_of u true srr r1 r0 =
    let srr_is : level_at u 12 ≡ Recessive = srr in
    let r1_is : level_at u 33 ≡ Dominant = r1 in
    let r0_is : level_at u 34 ≡ Dominant = r0 in
    rw (srr_is, r1_is, r0_is) refl
form_of u false srr r1 r0 = let r0_is : level_at u 14 ≡ Dominant = r0 in rw r0_is refl

heard_as_sent : (f : Parts) → IsFrame f → heard_of (head f ++ none 15) true Recessive ≡ sent f
heard_as_sent f is = ap (λ t. heard_of (t ++ none 15) true Recessive) (sym (heard_head-sent f)) ∙ heard_of-heard_head (sent f) (none 15) (IsHeard-sent f is)

head_start : (f : Parts) → level_at (head f) 0 ≡ Dominant
unfolding head
head_start f = refl

-- in the head of a frame the SOF and the reserved bits are dominant, and SRR is recessive
pub head_form : (f : Parts) → IsFrame f → (not (is_recessive (level_at (head f) 0)) && cond (is_recessive (level_at (head f) 13)) (is_recessive (level_at (head f) 12) && (not (is_recessive (level_at (head f) 33)) && not (is_recessive (level_at (head f) 34)))) (not (is_recessive (level_at (head f) 14)))) ≡ true
unfolding heard_of
head_form f is =
    let u = head f ++ none 15 in
    let at : (p : ℕ) → level_at (head f) p ≡ level_at u p = λ p. sym (level_at-dominant (head f) 15 p) in
    let same = heard_as_sent f is in
    rw (head_start f, at 13, at 12, at 33, at 34, at 14) (form_of u (extended_of u) (ap (λ t. t.srr) same) (ap (λ t. t.r1) same) (ap (λ t. t.r0) same))

-- What has been received of it.

-- up to the end of the data field a transmitter has received what it sent
pub head_heard : (f : Parts) (u : List Level) (p : ℕ) → u ≡ take (length u) (unstuffed f) → p < length u → p < length (head f) → level_at u p ≡ level_at (head f) p
unfolding unstuffed
head_heard f u p is heard within = ap (λ t. level_at t p) is ∙ get_or-take (length u) (unstuffed f) p Dominant heard ∙ level_at-append (head f) (crc_of (head f)) p within

same_levels : (b : Bool) → not (true && differ b b) ≡ true
same_levels true = refl
same_levels false = refl

-- a place that has been received and is before the end, or another one
pub same_place : (n m p : ℕ) (a b : Bool) → (p < n → p < m → a ≡ b) → not (not (nat_lt n (p + 1) || nat_lt m (p + 1)) && differ a b) ≡ true
same_place n m p a b h = by (cases_lt p n) (cases_lt p m)
  where
    by : (p < n) ⊎ (n ≤ p) → (p < m) ⊎ (m ≤ p) → not (not (nat_lt n (p + 1) || nat_lt m (p + 1)) && differ a b) ≡ true
    by (inl l) (inl k) = rw (above_is n (p + 1) (omega (arith, l)), above_is m (p + 1) (omega (arith, k)), h l k) (same_levels b)
    by (inl l) (inr k) = rw (above_is n (p + 1) (omega (arith, l)), below_is m (p + 1) (omega (arith, k))) refl
    by (inr l) k = rw (below_is n (p + 1) (omega (arith, l))) refl

-- By the phase and the role.

pub part_fits : (p : MacPhase) (sent : Bool) → ((front : FrontParts) → p ≡ StuffedPart front → sent ≡ true) → (not (is_part p) || sent) ≡ true
part_fits (StuffedPart front) sent h = h front refl
part_fits p sent h = refl

pub own_fits : (p : MacPhase) (role : Role) (legal : Bool) → ((f : Parts) → is_in_frame p ≡ true → role ≡ Sender f → legal ≡ true) → cond (is_in_frame p && is_sender role) legal true ≡ true
own_fits p role legal h = by (is_in_frame p) role refl refl
  where
    by : (b : Bool) (who : Role) → is_in_frame p ≡ b → role ≡ who → cond (b && is_sender who) legal true ≡ true
    by true (Sender f) e is = h f e is
    by true Receiver e is = refl
    by false who e is = refl
