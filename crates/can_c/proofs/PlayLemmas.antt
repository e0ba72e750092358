-- A bus whose ports are lent by handles: what it does with offers and hits that were read from plain fields, and what is refused.
use Rattle.std.specs.Prelude.{if◌then◌else◌, nat_lt, ◌==◌, slice_get, ◌⊎◌, OnOk, OnErr, Result, Ok, Err}
use Rattle.std.specs.Option.{option_map, option_or}
use Rattle.std.proofs.Common.{◌≡◌, ◌≢◌, ℕ, zero, suc, ◌<◌, ◌≤◌, Bool, true, false, Option, Some, None, List, [], ◌∷◌, length, map, refl, sym, ap, subst, ◌∙◌, inl, inr, arith}
use Rattle.std.proofs.lemmas.Bool.Decides.{nat_tests}
use Rattle.std.proofs.lemmas.List.{length-map}
use Rattle.std.proofs.lemmas.Option.{slice_get-map}
use Rattle.can_frame.specs.declared.level.Level.{Level}
use Rattle.can_frame.specs.declared.level.Level.TheVariants.{Dominant, Recessive}
use Rattle.can_frame.specs.Ident.{ident_count}
use Rattle.can_frame.specs.Levels.{level_code, levels_of_codes}
use Rattle.can_node.specs.Ports.{PortState}
use Rattle.can_terms.specs.declared.hit.Hit.{Hit}
use Rattle.can_terms.specs.Hits.{AreTaken}
use Rattle.can_bus.specs.declared.fault.BusFault.{BusFault}
use Rattle.can_bus.specs.declared.fault.BusFault.TheVariants as bus
use Rattle.can_bus.specs.declared.offer.Offer.{Offer}
use Rattle.can_bus.specs.Network.{IsNetworkCall, OnNetworkCall}
use Rattle.can_bus.specs.Offers.{call_after, call_level, call_refused, offered_now, AreOffered}
use Rattle.can_bus.specs.Run.{AreLevelsOf, BusState, new_bus}
use Rattle.can_bus.proofs.OfferLemmas.{length-all_made}
use Rattle.can_bus.proofs.RunLemmas.{length-step, new_bus-is}
use Rattle.can_c.specs.declared.handle.Handle.{Handle}
use Rattle.can_c.specs.declared.inputs.PlainHit.{PlainHit}
use Rattle.can_c.specs.declared.inputs.PlainOffer.{PlainOffer}
use Rattle.can_c.specs.declared.plain.PlainFrame.{PlainFrame}
use Rattle.can_c.specs.declared.status.Status.{Status}
use Rattle.can_c.specs.declared.status.Status.TheVariants.{Done, NoPort, NoMemory, BadFlag, BadIdentifier, BadDlc, BadBus, BadKind}
use Rattle.can_c.specs.Play.{AreCodesOf, IsNetworkRun, IsPlayCall, IsPlayFault, IsPlayRefusal, bus_held, held_by, held_in, lacks_port, play_refusal, ports_refusal}
use Rattle.can_c.specs.PlainFrames.{refusal}
use Rattle.can_c.specs.PlainInputs.{first_reason, hits_of_plain, hits_refusal, kind_refusal, offers_of_plain, offers_refusal}
use Rattle.can_c.specs.Statuses.{bus_status}
use Rattle.can_c.proofs.HandleLists.{ports-held}

-- ---- a bus

pub bus-held : (held : List (Option PortState)) (ports : List PortState) → held ≡ map Some ports → new_bus ports ≡ bus_held held
bus-held held ports is = sym (ap bus_held is ∙ ap new_bus (ports-held ports))

-- after a call there are as many ports as before
pub length-call : (offers : List Offer) (hits : List Hit) (n : ℕ) (start : BusState) → length (call_after offers hits n start).bus.ports ≡ length start.ports
unfolding call_after
length-call offers hits zero start = refl
length-call offers hits (suc n) start =
    length-step hits (offered_now offers (call_after offers hits n start))
    ∙ length-all_made offers (call_after offers hits n start).time (call_after offers hits n start).bus.ports ∙ length-call offers hits n start

-- a bus of nodes that has run
module _ {N : Type 0} (port : N → PortState) (offers : List Offer) (hits : List Hit) (k : ℕ) (nodes before after : List N) (rest end : ℕ) (is : before ≡ nodes) (rested : rest ≡ 11) where
  abbrev start : BusState
  start = record { ports = map port before; rest = rest }

  pub begun : start ≡ new_bus (map port nodes)
  begun = new_bus-is (map port before) (map port nodes) rest (ap (map port) is) rested

  pub run-ports : (let ended : BusState = record { ports = map port after; rest = end } in ended) ≡ (call_after offers hits k start).bus → map port after ≡ (call_after offers hits k (new_bus (map port nodes))).bus.ports
  run-ports ran = ap (λ (b : BusState). b.ports) (ran ∙ ap (λ (b : BusState). (call_after offers hits k b).bus) begun)

  pub run-size : (let ended : BusState = record { ports = map port after; rest = end } in ended) ≡ (call_after offers hits k start).bus → length after ≡ length nodes
  run-size ran =
      sym (length-map after port) ∙ ap (λ (b : BusState). length b.ports) ran ∙ length-call offers hits k start ∙ length-map before port ∙ ap length is

pub both-ways : {T E P : Type 0} (r : Result T E) → OnOk r P → OnErr r P → P
both-ways (Ok x) p q = p
both-ways (Err e) p q = q

-- the numbers of levels that are given one by one
pub codes-of : (line : ℕ → Level) (levels : List Level) (codes : List ℕ) → codes ≡ map level_code levels → ((t : ℕ) → t < length levels → slice_get levels t ≡ Some (line t)) → AreCodesOf line codes
codes-of line levels codes are told t within =
    let size : length codes ≡ length levels = ap length are ∙ length-map levels level_code in
    ap (λ xs. slice_get xs t) are ∙ slice_get-map level_code levels t ∙ ap (option_map level_code) (told t (omega (arith, size, within)))

-- ---- refusals

if-refused : {A : Type 0} (b : Bool) (x : A) (y : Option A) → (if b then Some x else y) ≡ None → (b ≡ false) × (y ≡ None)
if-refused true x y e = absurd (let k : Some x ≡ None = e in cc)
if-refused false x y e = (refl, e)

-- by how many handles there are, and whether each holds a port
abbrev by_tests : Bool → Bool → Bool → Option Status
by_tests none many lacks = if none then Some BadBus else if many then Some BadBus else if lacks then Some NoPort else None

module _ (handles : List Handle) where
  size : length (held_in handles) ≡ length handles
  size = length-map handles held_by

  pub by-lack : (lacks : Bool) → 1 ≤ length handles → length handles ≤ 64 → lacks_port (held_in handles) ≡ lacks → ports_refusal (held_in handles) ≡ by_tests false false lacks
  by-lack lacks some few is =
      let all : length (held_in handles) ≡ length handles = size in
      let test : (length (held_in handles) == 0) ≡ false = grind (arith, nat_tests) in
      let more : nat_lt 64 (length (held_in handles)) ≡ false = grind (arith, nat_tests) in
      ap (λ b. by_tests b (nat_lt 64 (length (held_in handles))) (lacks_port (held_in handles))) test ∙ ap (λ b. by_tests false b (lacks_port (held_in handles))) more
      ∙ ap (by_tests false false) is

-- what it says that there is a bus of these handles
pub fits-parts : (held : List (Option PortState)) → ports_refusal held ≡ None → (1 ≤ length held) × (length held ≤ 64) × (lacks_port held ≡ false)
fits-parts held fits =
    let some = if-refused (length held == 0) BadBus _ fits in
    let few = if-refused (nat_lt 64 (length held)) BadBus _ some.1 in
    let each = if-refused (lacks_port held) NoPort _ few.1 in
    let zero-is : (length held == 0) ≡ false = some.0 in
    let few-is : nat_lt 64 (length held) ≡ false = few.0 in
    (grind (arith, nat_tests), grind (arith, nat_tests), each.0)

-- the reasons why a call is refused, one after another
pub refused-ports : (held : List (Option PortState)) (offers : List PlainOffer) (hits : List PlainHit) (why : Status) → ports_refusal held ≡ Some why → play_refusal held offers hits ≡ Some why
refused-ports held offers hits why is = ap (λ r. option_or r (option_or (offers_refusal offers) (hits_refusal hits))) is

pub refused-hits : (held : List (Option PortState)) (offers : List PlainOffer) (hits : List PlainHit) (why : Option Status) → ports_refusal held ≡ None → offers_refusal offers ≡ None → hits_refusal hits ≡ why →
    play_refusal held offers hits ≡ why
refused-hits held offers hits why fits none is =
    ap (λ r. option_or r (option_or (offers_refusal offers) (hits_refusal hits))) fits ∙ ap (λ r. option_or r (hits_refusal hits)) none ∙ is

-- none of them is that the call has done what it says
if-not : (b : Bool) (x y : Option Status) → (x ≡ Some Done → ⊥) → (y ≡ Some Done → ⊥) → (if b then x else y) ≡ Some Done → ⊥
if-not true x y one other e = one e
if-not false x y one other e = other e

or-not : (a b : Option Status) → (a ≡ Some Done → ⊥) → (b ≡ Some Done → ⊥) → option_or a b ≡ Some Done → ⊥
or-not None b one other e = other e
or-not (Some x) b one other e = one e

first-not : {A : Type 0} (why : A → Option Status) (xs : List A) → ((x : A) → why x ≡ Some Done → ⊥) → first_reason why xs ≡ Some Done → ⊥
first-not why [] none e = (let k : None ≡ Some Done = e in cc)
first-not why (x ∷ xs) none e = or-not (why x) (first_reason why xs) (none x) (first-not why xs none) e

none-not : None ≡ Some Done → ⊥
none-not e = cc

frame-not : (f : PlainFrame) → refusal f ≡ Some Done → ⊥
frame-not f =
    let flag : Some BadFlag ≡ Some Done → ⊥ = λ e. cc in
    let identifier : Some BadIdentifier ≡ Some Done → ⊥ = λ e. cc in
    let dlc : Some BadDlc ≡ Some Done → ⊥ = λ e. cc in
    if-not (nat_lt 1 f.extended) _ _ flag (if-not (nat_lt 1 f.remote) _ _ flag
    (if-not (nat_lt f.identifier (ident_count (f.extended == 1))) _ _ (if-not (nat_lt 15 f.dlc) _ _ dlc none-not) identifier))

kind-not : (h : PlainHit) → kind_refusal h ≡ Some Done → ⊥
kind-not h = let kind : Some BadKind ≡ Some Done → ⊥ = λ e. cc in if-not (nat_lt 2 h.kind) _ _ kind none-not

ports-not : (held : List (Option PortState)) → ports_refusal held ≡ Some Done → ⊥
ports-not held =
    let size : Some BadBus ≡ Some Done → ⊥ = λ e. cc in
    let port : Some NoPort ≡ Some Done → ⊥ = λ e. cc in
    if-not (length held == 0) _ _ size (if-not (nat_lt 64 (length held)) _ _ size (if-not (lacks_port held) _ _ port none-not))

fault-not : (fault : BusFault) → bus_status fault ≡ Done → ⊥
fault-not bus.NoPort e = cc
fault-not bus.TooManyPorts e = cc
fault-not bus.NotRising e = cc
fault-not bus.NoSuchPort e = cc

memory-not : NoMemory ≡ Done → ⊥
memory-not e = cc

pub refusal-named : (held : List (Option PortState)) (offers : List PlainOffer) (hits : List PlainHit) (why : Status) → IsPlayRefusal held offers hits why → why ≢ Done
refusal-named held offers hits why is done = elim is [
  | inl memory ↦ memory-not (sym memory ∙ done)
  | inr other ↦ elim other [
    | inl first ↦ or-not (ports_refusal held) _ (ports-not held) (or-not (offers_refusal offers) (hits_refusal hits) (first-not (λ (o : PlainOffer). refusal o.frame) offers (λ o. frame-not o.frame)) (first-not kind_refusal hits kind-not))
        (first ∙ ap Some done)
    | inr later ↦ fault-not later.1.0 (sym later.1.1.1 ∙ done)
  ]
]

-- ---- what a bus does with offers and hits that were read from plain fields, its handles holding what they held before

module _ (first handles : List Handle) (plain : List PlainOffer) (given : List PlainHit) (offers : List Offer) (hits : List Hit)
    (same : held_in handles ≡ held_in first) (read : offers ≡ offers_of_plain plain) (told : hits ≡ hits_of_plain given) where
  as-many : length handles ≡ length (held_in first)
  as-many = sym (length-map handles held_by) ∙ ap length same

  offered-of : AreOffered (length handles) offers → AreOffered (length (held_in first)) (offers_of_plain plain)
  offered-of is = subst (λ (os : List Offer). AreOffered (length (held_in first)) os) read (subst (λ (n : ℕ). AreOffered n offers) as-many is)

  taken-of : AreTaken (length handles) hits → AreTaken (length (held_in first)) (hits_of_plain given)
  taken-of is = subst (λ (hs : List Hit). AreTaken (length (held_in first)) hs) told (subst (λ (n : ℕ). AreTaken n hits) as-many is)

  pub played-is : ports_refusal (held_in first) ≡ None → offers_refusal plain ≡ None → hits_refusal given ≡ None → AreOffered (length handles) offers → AreTaken (length handles) hits → IsPlayCall (held_in first) plain given
  played-is fits frames kinds offered taken = record {
    fits = refused-hits (held_in first) plain given None fits frames kinds;
    offered = offered-of offered;
    taken = taken-of taken;
  }

  fault-of : (fault : BusFault) → IsPlayFault (length handles) offers hits fault → IsPlayFault (length (held_in first)) (offers_of_plain plain) (hits_of_plain given) fault
  fault-of fault is =
      subst (λ (hs : List Hit). IsPlayFault (length (held_in first)) (offers_of_plain plain) hs fault) told
      (subst (λ (os : List Offer). IsPlayFault (length (held_in first)) os hits fault) read (subst (λ (n : ℕ). IsPlayFault n offers hits fault) as-many is))

  -- why the bus has not run
  pub refused-run : ports_refusal (held_in first) ≡ None → offers_refusal plain ≡ None → hits_refusal given ≡ None → (why : Status)
      → (why ≡ NoMemory) ⊎ ((fault : BusFault) × (IsPlayFault (length handles) offers hits fault × (why ≡ bus_status fault))) → IsPlayRefusal (held_in first) plain given why
  refused-run fits frames kinds why (inl memory) = inl memory
  refused-run fits frames kinds why (inr other) = inr (inr (refused-hits (held_in first) plain given None fits frames kinds, (other.0, (fault-of other.0 other.1.0, other.1.1))))

  call-levels : (t : ℕ) → call_level offers hits t (bus_held (held_in handles)) ≡ call_level (offers_of_plain plain) (hits_of_plain given) t (bus_held (held_in first))
  call-levels t =
      ap (λ (os : List Offer). call_level os hits t (bus_held (held_in handles))) read
      ∙ ap (λ (hs : List Hit). call_level (offers_of_plain plain) hs t (bus_held (held_in handles))) told
      ∙ ap (λ (held : List (Option PortState)). call_level (offers_of_plain plain) (hits_of_plain given) t (bus_held held)) same

  pub played-levels : (recorded : List Level) (codes : List ℕ) → codes ≡ map level_code recorded → AreLevelsOf (λ t. call_level offers hits t (bus_held (held_in handles))) recorded
      → AreCodesOf (λ t. call_level (offers_of_plain plain) (hits_of_plain given) t (bus_held (held_in first))) codes
  played-levels recorded codes are is =
      codes-of (λ t. call_level (offers_of_plain plain) (hits_of_plain given) t (bus_held (held_in first))) recorded codes are (λ t within. is t within ∙ ap Some (call-levels t))

-- ---- handles whose ports have been on a bus, and are back

module _ (first last : List Handle) (before after : List PortState) (lent : held_in first ≡ map Some before) (back : held_in last ≡ map Some after) where
  pub back-ports : (offers : List Offer) (hits : List Hit) (k : ℕ) → after ≡ (call_after offers hits k (new_bus before)).bus.ports → held_in last ≡ map Some (call_after offers hits k (bus_held (held_in first))).bus.ports
  back-ports offers hits k is =
      back ∙ ap (map Some) is ∙ ap (λ (b : BusState). map Some (call_after offers hits k b).bus.ports) (bus-held (held_in first) before lent)

  pub back-levels : (offers : List Offer) (hits : List Hit) (recorded : List Level) → AreLevelsOf (λ t. call_level offers hits t (new_bus before)) recorded
      → AreLevelsOf (λ t. call_level offers hits t (bus_held (held_in first))) recorded
  back-levels offers hits recorded is = subst (λ (b : BusState). AreLevelsOf (λ t. call_level offers hits t b) recorded) (bus-held (held_in first) before lent) is

  pub back-count : (offers : List Offer) (hits : List Hit) (k count : ℕ) → count ≡ call_refused offers hits k (new_bus before) → count ≡ call_refused offers hits k (bus_held (held_in first))
  back-count offers hits k count is = is ∙ ap (λ (b : BusState). call_refused offers hits k b) (bus-held (held_in first) before lent)

-- ---- a network

-- a run of one bus is a run of an equal bus, with equal ports after it and equal records
pub network-same : (offers : List Offer) (hits : List Hit) (bus other : BusState) (recorded records : List Level) (after last : List PortState) → bus ≡ other → recorded ≡ records → after ≡ last
    → OnNetworkCall offers hits bus (λ course. IsNetworkRun offers course recorded bus.ports after) → OnNetworkCall offers hits other (λ course. IsNetworkRun offers course records other.ports last)
network-same offers hits bus other recorded records after last from levels to is =
    λ course call.
    subst (λ (ps : List PortState). IsNetworkRun offers course records other.ports ps) to
    (subst (λ (ls : List Level). IsNetworkRun offers course ls other.ports after) levels
    (subst (λ (b : BusState). IsNetworkRun offers course recorded b.ports after) from
    (is course (subst (λ (b : BusState). IsNetworkCall offers hits b course) (sym from) call))))

-- and one with other offers and hits that are the same
pub network-given : (offers others : List Offer) (hits given : List Hit) (bus : BusState) (recorded : List Level) (after : List PortState) → offers ≡ others → hits ≡ given
    → OnNetworkCall offers hits bus (λ course. IsNetworkRun offers course recorded bus.ports after) → OnNetworkCall others given bus (λ course. IsNetworkRun others course recorded bus.ports after)
network-given offers others hits given bus recorded after read told is =
    subst (λ (hs : List Hit). OnNetworkCall others hs bus (λ course. IsNetworkRun others course recorded bus.ports after)) told
    (subst (λ (os : List Offer). OnNetworkCall os hits bus (λ course. IsNetworkRun os course recorded bus.ports after)) read is)

-- the levels of their numbers
levels-back : (levels : List Level) → levels_of_codes (map level_code levels) ≡ levels
levels-back [] = refl
levels-back (Dominant ∷ levels) = ap (λ ls. Dominant ∷ ls) (levels-back levels)
levels-back (Recessive ∷ levels) = ap (λ ls. Recessive ∷ ls) (levels-back levels)

pub levels-of : (levels : List Level) (codes : List ℕ) → codes ≡ map level_code levels → levels ≡ levels_of_codes codes
levels-of levels codes are = sym (ap levels_of_codes are ∙ levels-back levels)
