-- What the moves read, and the numbers of the phase after a move.
use Rattle.std.specs.Prelude.{ℕ, ◌≡◌, ◌+◌, ◌<◌, ◌≤◌, nat_lt, Bool, false, not, ◌&&◌, if◌then◌else◌, Option}
use Rattle.can_frame.specs.declared.level.Level.{Level}
use Rattle.can_frame.specs.Levels.{is_recessive}
use Rattle.can_frame.specs.Parts.{Parts}
use Rattle.can_mac.specs.declared.moves.Stance.{Stance}
use Rattle.can_mac.specs.State.{MacPhase}
use Rattle.can_mac.specs.Moves.{is_held_back}
use Rattle.can_gates.specs.Circuit.{value, differ}
use Rattle.can_gates_mac.specs.declared.wires.Now.{Now}
use Rattle.can_gates_mac.specs.declared.senses.Senses.{Senses}
use Rattle.can_gates_mac.specs.declared.senses.Places.{Places}
use Rattle.can_gates_mac.specs.Nibbles.{nibble}
use Rattle.can_gates_mac.specs.Numbers.{Numbers, place_number, last_recessive, unacknowledged_of, is_first, is_sender, is_waiting}
use Rattle.can_gates_mac.specs.Inputs.{TellsReading}

-- only the phase changes, to these two numbers, with this cause and event
abbrev pub going : Stance → ℕ → ℕ → ℕ → ℕ → Numbers
going s phase place cause event = record {
  phase = phase;
  place = place;
  last = false;
  unacknowledged = false;
  first = false;
  sender = is_sender s.role;
  pending = s.overloads.pending;
  used = s.overloads.used;
  cause = cause;
  event = event;
}

-- how many equal levels in a row a passive error flag has, with this one
abbrev pub run_with : MacPhase → Level → ℕ
run_with p x = if differ (last_recessive p) (is_recessive x) then 1 else place_number p + 1

-- the comparisons of place n
pub record IsPlaced (v : ℕ → Bool) (k : Places) (n : ℕ) : Type 0 where
  pub below_2 : value v k.below_2 ≡ nat_lt n 2
  pub below_5 : value v k.below_5 ≡ nat_lt n 5
  pub below_6 : value v k.below_6 ≡ nat_lt n 6
  pub below_7 : value v k.below_7 ≡ nat_lt n 7
  pub below_10 : value v k.below_10 ≡ nat_lt n 10
  pub next : n < 15 → nibble v k.next ≡ n + 1

-- registers and inputs are those of a controller with this stance in this phase, with this pending frame and this sampled level
pub record IsNow (v : ℕ → Bool) (k : Now) (s : Stance) (p : MacPhase) (waiting : Option Parts) (x : Level) : Type 0 where
  pub place : nibble v k.place ≡ place_number p
  pub small : place_number p < 15
  pub last : value v k.last ≡ last_recessive p
  pub unacknowledged : value v k.unacknowledged ≡ unacknowledged_of p
  pub first : value v k.first ≡ is_first p
  pub sender : value v k.sender ≡ is_sender s.role
  pub pending : nibble v k.pending ≡ s.overloads.pending
  pub used : nibble v k.used ≡ s.overloads.used
  pub few : s.overloads.pending ≤ 2
  pub few_used : s.overloads.used ≤ 2
  pub passive : value v k.passive ≡ s.passive
  pub waits : value v k.waits ≡ is_waiting waiting
  pub seen : value v k.seen ≡ is_recessive x
  pub agrees : TellsReading p (value v k.agrees)

-- the senses are those of a controller with this stance in this phase, with this pending frame and this sampled level
pub record IsSensed (v : ℕ → Bool) (k : Senses) (s : Stance) (p : MacPhase) (waiting : Option Parts) (x : Level) : Type 0 where
  pub never : v 0 ≡ false
  pub passive : value v k.passive ≡ s.passive
  pub sender : value v k.sender ≡ is_sender s.role
  pub receiver : value v k.receiver ≡ not (is_sender s.role)
  pub held_back : value v k.held_back ≡ is_held_back s s.role
  pub pending : nibble v k.pending ≡ s.overloads.pending
  pub used : nibble v k.used ≡ s.overloads.used
  pub few : s.overloads.pending ≤ 2
  pub asks : value v k.asks ≡ (nat_lt 0 s.overloads.pending && nat_lt s.overloads.used 2)
  pub waits : value v k.waits ≡ is_waiting waiting
  pub starts : value v k.starts ≡ (is_waiting waiting && not (is_held_back s s.role))
  pub recessive : value v k.recessive ≡ is_recessive x
  pub dominant : value v k.dominant ≡ not (is_recessive x)
  pub below_2 : value v k.places.below_2 ≡ nat_lt (place_number p) 2
  pub below_5 : value v k.places.below_5 ≡ nat_lt (place_number p) 5
  pub below_6 : value v k.places.below_6 ≡ nat_lt (place_number p) 6
  pub below_7 : value v k.places.below_7 ≡ nat_lt (place_number p) 7
  pub below_10 : value v k.places.below_10 ≡ nat_lt (place_number p) 10
  pub next : nibble v k.places.next ≡ place_number p + 1
  pub agrees : TellsReading p (value v k.agrees)
  pub refuses : value v k.refuses ≡ (not (is_sender s.role) && not (value v k.agrees))
  pub still : value v k.still ≡ (unacknowledged_of p && is_recessive x)
  pub counts : value v k.counts ≡ (unacknowledged_of p && not (is_recessive x))
  pub run : nibble v k.run ≡ run_with p x
  pub run_below_6 : value v k.run_below_6 ≡ nat_lt (run_with p x) 6
  pub first : value v k.first ≡ (not (is_sender s.role) && is_first p)

-- this holds in each assignment in which the senses are those of a controller with a stance in a phase, and of a
-- sampled level
abbrev pub WhereSensed : Senses → ((ℕ → Bool) → Stance → MacPhase → Level → Type 0) → Type 0
WhereSensed k P = (v : ℕ → Bool) (s : Stance) (p : MacPhase) (waiting : Option Parts) (x : Level) → IsSensed v k s p waiting x → P v s p x
