-- Whether two levels, events, counters or ends are the same.
use Rattle.std.proofs.Common.{◌≡◌, ℕ, zero, suc, ◌+◌, Bool, true, false, List, [], ◌∷◌, Option, Some, None, refl, sym, ap, ◌∙◌, inl, inr}
use Rattle.std.proofs.lemmas.Bool.{cases_eq}
use Rattle.can_frame.specs.declared.level.Level.{Level}
use Rattle.can_frame.specs.declared.level.Level.TheVariants.{Dominant, Recessive}
use Rattle.can_frame.specs.Ident.{Ident}
use Rattle.can_frame.specs.Parts.{Parts}
use Rattle.can_fault.specs.declared.state.State.{State}
use Rattle.can_fault.specs.declared.state.State.TheVariants.{Active, Passive, BusOff}
use Rattle.can_terms.specs.declared.event.Event.{Event}
use Rattle.can_terms.specs.declared.event.Event.TheVariants.{Sent, Received, Lost, Error, Overload, WentOff, Recovered}
use Rattle.can_terms.specs.declared.event.ErrorKind.{ErrorKind}
use Rattle.can_terms.specs.declared.event.ErrorKind.TheVariants.{Bit, Stuff, Crc, Form, Ack}
use Rattle.can_terms.specs.declared.transcript.Counters.{Counters}
use Rattle.can_terms.specs.declared.transcript.Ending.{Ending}

-- it holds or it doesn't
pub data OrNot (P : Type 0) : Type 0 where
  holds : P → OrNot P
  fails : (P → ⊥) → OrNot P

or-not-both : {P Q : Type 0} → OrNot P → OrNot Q → OrNot (P × Q)
or-not-both (holds p) (holds q) = holds (p, q)
or-not-both (holds p) (fails never) = fails (λ both. never both.1)
or-not-both (fails never) other = fails (λ both. never both.0)

or-not-as : {P Q : Type 0} → (P → Q) → (Q → P) → OrNot P → OrNot Q
or-not-as to from (holds p) = holds (to p)
or-not-as to from (fails never) = fails (λ q. never (from q))

-- equality is decided by a code that can be decoded
told-by : {A B : Type 0} (code : A → B) (back : B → A) → ((a : A) → back (code a) ≡ a) → ((x y : B) → OrNot (x ≡ y)) → (a b : A) → OrNot (a ≡ b)
told-by code back round decides a b = or-not-as (λ e. sym (round a) ∙ ap back e ∙ round b) (λ e. ap code e) (decides (code a) (code b))

same-number : (m n : ℕ) → OrNot (m ≡ n)
same-number m n = elim (cases_eq m n) [ inl same ↦ holds same | inr apart ↦ fails apart ]

abbrev bool-code : Bool → ℕ
bool-code true = 1
bool-code false = 0

abbrev bool-back : ℕ → Bool
bool-back zero = false
bool-back (suc n) = true

bool-round : (b : Bool) → bool-back (bool-code b) ≡ b
bool-round true = refl
bool-round false = refl

same-bool : (a b : Bool) → OrNot (a ≡ b)
same-bool a b = told-by bool-code bool-back bool-round same-number a b

same-list : {A : Type 0} → ((x y : A) → OrNot (x ≡ y)) → (xs ys : List A) → OrNot (xs ≡ ys)
same-list decides [] [] = holds refl
same-list decides [] (y ∷ ys) = fails (λ e. cc)
same-list decides (x ∷ xs) [] = fails (λ e. cc)
same-list decides (x ∷ xs) (y ∷ ys) =
    or-not-as (λ h. ap (λ z. z ∷ xs) h.0 ∙ ap (λ zs. y ∷ zs) h.1) (λ e. ((let k : x ≡ y = cc in k), (let k : xs ≡ ys = cc in k)))
    (or-not-both (decides x y) (same-list decides xs ys))

pub same-option : {A : Type 0} → ((x y : A) → OrNot (x ≡ y)) → (o p : Option A) → OrNot (o ≡ p)
same-option decides None None = holds refl
same-option decides None (Some y) = fails (λ e. cc)
same-option decides (Some x) None = fails (λ e. cc)
same-option decides (Some x) (Some y) = or-not-as (λ e. ap (λ z. Some z) e) (λ e. let k : x ≡ y = cc in k) (decides x y)

-- ---- levels

abbrev level-code : Level → Bool
level-code Dominant = false
level-code Recessive = true

abbrev level-back : Bool → Level
level-back false = Dominant
level-back true = Recessive

level-round : (x : Level) → level-back (level-code x) ≡ x
level-round Dominant = refl
level-round Recessive = refl

pub same-level : (x y : Level) → OrNot (x ≡ y)
same-level x y = told-by level-code level-back level-round same-bool x y

-- ---- frames

same-ident : (x y : Ident) → OrNot (x ≡ y)
same-ident x y =
    or-not-as
    (λ h. ap (λ n. let i : Ident = record { raw = n; extended = x.extended } in i) h.0 ∙ ap (λ e. let i : Ident = record { raw = y.raw; extended = e } in i) h.1)
    (λ e. (ap (λ (i : Ident). i.raw) e, ap (λ (i : Ident). i.extended) e))
    (or-not-both (same-number x.raw y.raw) (same-bool x.extended y.extended))

-- the parts of a frame, in pairs
abbrev parts-code : Parts → (Ident × Bool) × (ℕ × List ℕ)
parts-code f = ((f.id, f.remote), (f.dlc, f.bytes))

abbrev parts-back : (Ident × Bool) × (ℕ × List ℕ) → Parts
parts-back p = record { id = p.0.0; remote = p.0.1; dlc = p.1.0; bytes = p.1.1 }

parts-round : (f : Parts) → parts-back (parts-code f) ≡ f
parts-round f = refl

same-pair : {A B : Type 0} → ((x y : A) → OrNot (x ≡ y)) → ((x y : B) → OrNot (x ≡ y)) → (p q : A × B) → OrNot (p ≡ q)
same-pair {A} {B} one other p q =
    or-not-as
    (λ h. ap (λ a. let r : A × B = (a, p.1) in r) h.0 ∙ ap (λ b. let r : A × B = (q.0, b) in r) h.1)
    (λ e. (ap (λ (r : A × B). r.0) e, ap (λ (r : A × B). r.1) e))
    (or-not-both (one p.0 q.0) (other p.1 q.1))

same-frame : (f g : Parts) → OrNot (f ≡ g)
same-frame f g = told-by parts-code parts-back parts-round (same-pair (same-pair same-ident same-bool) (same-pair same-number (same-list same-number))) f g

-- ---- events

abbrev kind-code : ErrorKind → ℕ
kind-code Bit = 0
kind-code Stuff = 1
kind-code Crc = 2
kind-code Form = 3
kind-code Ack = 4

abbrev kind-back : ℕ → ErrorKind
kind-back zero = Bit
kind-back (suc zero) = Stuff
kind-back (suc (suc zero)) = Crc
kind-back (suc (suc (suc zero))) = Form
kind-back (suc (suc (suc (suc n)))) = Ack

-- an event as a number, and the frame that it has
abbrev event-code : Event → ℕ × Option Parts
event-code (Sent f) = (0, Some f)
event-code (Received f) = (1, Some f)
event-code Lost = (0, None)
event-code Overload = (1, None)
event-code WentOff = (2, None)
event-code Recovered = (3, None)
event-code (Error kind) = (4 + kind-code kind, None)

abbrev with-frame : ℕ → Parts → Event
with-frame zero f = Sent f
with-frame (suc n) f = Received f

abbrev without-frame : ℕ → Event
without-frame zero = Lost
without-frame (suc zero) = Overload
without-frame (suc (suc zero)) = WentOff
without-frame (suc (suc (suc zero))) = Recovered
without-frame (suc (suc (suc (suc n)))) = Error (kind-back n)

abbrev event-by : ℕ → Option Parts → Event
event-by n None = without-frame n
event-by n (Some f) = with-frame n f

abbrev event-back : ℕ × Option Parts → Event
event-back p = event-by p.0 p.1

event-round : (e : Event) → event-back (event-code e) ≡ e
event-round (Sent f) = refl
event-round (Received f) = refl
event-round Lost = refl
event-round Overload = refl
event-round WentOff = refl
event-round Recovered = refl
event-round (Error Bit) = refl
event-round (Error Stuff) = refl
event-round (Error Crc) = refl
event-round (Error Form) = refl
event-round (Error Ack) = refl

pub same-event : (d e : Event) → OrNot (d ≡ e)
same-event d e = told-by event-code event-back event-round (same-pair same-number (same-option same-frame)) d e

-- ---- counters and ends

pub same-counts : (c d : Counters) → OrNot (c ≡ d)
same-counts c d =
    or-not-as
    (λ h. ap (λ n. let r : Counters = record { transmit = n; receive = c.receive } in r) h.0 ∙ ap (λ n. let r : Counters = record { transmit = d.transmit; receive = n } in r) h.1)
    (λ e. (ap (λ (r : Counters). r.transmit) e, ap (λ (r : Counters). r.receive) e))
    (or-not-both (same-number c.transmit d.transmit) (same-number c.receive d.receive))

abbrev state-code : State → ℕ
state-code Active = 0
state-code Passive = 1
state-code BusOff = 2

abbrev state-back : ℕ → State
state-back zero = Active
state-back (suc zero) = Passive
state-back (suc (suc n)) = BusOff

state-round : (s : State) → state-back (state-code s) ≡ s
state-round Active = refl
state-round Passive = refl
state-round BusOff = refl

same-state : (s t : State) → OrNot (s ≡ t)
same-state s t = told-by state-code state-back state-round same-number s t

pub same-ending : (c d : Ending) → OrNot (c ≡ d)
same-ending c d =
    or-not-as
    (λ h. ap (λ s. let r : Ending = record { state = s; counters = c.counters } in r) h.0 ∙ ap (λ n. let r : Ending = record { state = d.state; counters = n } in r) h.1)
    (λ e. (ap (λ (r : Ending). r.state) e, ap (λ (r : Ending). r.counters) e))
    (or-not-both (same-state c.state d.state) (same-counts c.counters d.counters))
