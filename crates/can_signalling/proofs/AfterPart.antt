-- A receiver after a stuffed part, while others end their frame: n is the place of its CRC delimiter.
use Rattle.std.proofs.Common.{◌≡◌, ◌+◌, ℕ, zero, suc, ◌<◌, ◌≤◌, ◌⊎◌, true, false, not, Option, Some, None, List, length, refl, sym, ◌∙◌, ap, subst, arith, inl, inr}
use Rattle.std.proofs.Math.Dec.{eqb, ltb, leb}
use Rattle.std.proofs.lemmas.Bool.{cases_Bool, cases_lt, cond-true, cond-false, cond_both, and_parts, lt-ltb}
use Rattle.can_frame.specs.declared.level.Level.{Level}
use Rattle.can_frame.specs.declared.level.Level.TheVariants.{Dominant, Recessive}
use Rattle.can_frame.specs.Levels.{same}
use Rattle.can_frame.specs.Parts.{Parts}
use Rattle.can_wire.specs.Layout.{level_at}
use Rattle.can_code.specs.Front.{FrontParts, is_stuff_error}
use Rattle.can_fault.specs.declared.cause.Cause.TheVariants.{ReceiverError, FrameReceived}
use Rattle.can_fault.specs.Counters.{ConfineParts, changed, counted, is_bus_off}
use Rattle.can_terms.specs.declared.event.Event.{Event}
use Rattle.can_terms.specs.declared.event.Event.TheVariants.{Error}
use Rattle.can_terms.specs.declared.event.ErrorKind.{ErrorKind}
use Rattle.can_terms.specs.declared.event.ErrorKind.TheVariants.{Stuff, Form, Crc}
use Rattle.can_mac.specs.declared.phase.Overloads.{Overloads}
use Rattle.can_mac.specs.declared.phase.Reading.{Reading}
use Rattle.can_mac.specs.declared.phase.Role.TheVariants.{Receiver}
use Rattle.can_mac.specs.declared.phase.Phase.TheVariants.{StuffedPart, CrcDelimiter, AckSlot, AckDelimiter, EndOfFrame, ErrorFlag}
use Rattle.can_mac.specs.State.{MacPhase, MacState, kind_of}
use Rattle.can_mac.specs.Moves.{MacMove, errs, stuffed_part_move, goes}
use Rattle.can_mac.specs.Machine.{mac_step, on_step, phase_drives, stance, state_after_move}
use Rattle.can_mac.specs.Frames.{IsActive}
use Rattle.can_mac.proofs.FrameEnds.{active-on, on-received}
use Rattle.can_mac.proofs.FrameParts.{part_state}
use Rattle.can_signalling.specs.Signalling.{over, IsReady, IsSignalledIn, ComesBy, form, crc}
use Rattle.can_signalling.proofs.Errors.{errs-lands}
use Rattle.can_signalling.proofs.Sampled.{over-dominant}
use Rattle.can_signalling.proofs.Walks.{Walks, Listens, Walks-next, Walks-step, Walks-told, Walks-flag, Walks-driven}

-- an error active receiver stays so with a frame that it has received
pub active-received : (c : ConfineParts) → IsActive c → IsActive (counted FrameReceived c)
active-received c active =
    subst IsActive (sym (cond-false (is_bus_off c) c (changed FrameReceived c) (active-on c active)))
    (record { tec = active.tec; rec = cond_both (leb 128 c.rec) 127 _ (λ n. n < 128) (λ e. omega arith) (λ e. omega (arith, active.rec)) })

-- ---- its steps, whatever waits

-- it reports this error
abbrev pub Detects : Overloads → ConfineParts → Option Parts → MacPhase → Level → ErrorKind → Type 0
Detects o c w phase x kind = mac_step (part_state phase Receiver o c) w x ≡ (part_state (ErrorFlag 0) Receiver o (counted ReceiverError c), Some (Error kind))

-- the ACK delimiter, and the bits of the end of frame after it
abbrev pub ending : Reading → ℕ → MacPhase
ending r zero = AckDelimiter r
ending r (suc place) = EndOfFrame r place

pub ending-drives : (r : Reading) (j : ℕ) (v : Option Parts) → phase_drives (ending r j) Receiver v ≡ Recessive
ending-drives r zero v = refl
ending-drives r (suc place) v = refl

module _ (o : Overloads) (c : ConfineParts) (active : IsActive c) (w : Option Parts) where
  abbrev at : MacPhase → MacState
  at phase = part_state phase Receiver o c

  pub stuff-step : (f : FrontParts) (x : Level) → is_stuff_error f x ≡ true → Detects o c w (StuffedPart f) x Stuff
  unfolding mac_step
  stuff-step f x error =
      let s = stance (at (StuffedPart f)) in
      let both = and_parts (eqb f.run 5) (same x f.last) error in
      let moves : stuffed_part_move s f x ≡ errs s Stuff = cond-true (eqb f.run 5) _ _ both.0 ∙ cond-true (same x f.last) _ _ both.1 in
      ap (on_step (at (StuffedPart f))) moves ∙ errs-lands Receiver c active (StuffedPart f) o Stuff

  pub delimiter-step : (r : Reading) → Detects o c w (CrcDelimiter r) Dominant Form
  unfolding mac_step
  delimiter-step r = errs-lands Receiver c active (CrcDelimiter r) o Form

  pub delimiter-goes : (r : Reading) → mac_step (part_state (CrcDelimiter r) Receiver o c) w Recessive ≡ (part_state (AckSlot r) Receiver o c, None)
  unfolding mac_step
  delimiter-goes r = refl

  -- it acknowledges
  pub slot-agrees : (r : Reading) → r.agrees ≡ true → mac_step (part_state (AckSlot r) Receiver o c) w Dominant ≡ (part_state (AckDelimiter r) Receiver o (counted FrameReceived c), None)
  unfolding mac_step
  slot-agrees r agreed =
      let s = stance (at (AckSlot r)) in
      let v : MacMove = record (goes s (AckDelimiter r)) { cause = Some FrameReceived } in
      let landed : MacState × Option Event = (state_after_move v (counted FrameReceived c), v.event) in
      ap (on_step (at (AckSlot r))) (cond-true r.agrees v (goes s (AckDelimiter r)) agreed)
      ∙ cond-false (is_bus_off (counted FrameReceived c)) _ landed (on-received c (active-on c active))

  -- or only listens
  pub slot-refuses : (r : Reading) (x : Level) → r.agrees ≡ false → mac_step (part_state (AckSlot r) Receiver o c) w x ≡ (part_state (AckDelimiter r) Receiver o c, None)
  unfolding mac_step
  slot-refuses r Dominant refused = ap (on_step (at (AckSlot r))) (cond-false r.agrees _ (goes (stance (at (AckSlot r))) (AckDelimiter r)) refused)
  slot-refuses r Recessive refused = ap (on_step (at (AckSlot r))) (cond-false r.agrees _ (goes (stance (at (AckSlot r))) (AckDelimiter r)) refused)

  pub crc-step : (r : Reading) → r.agrees ≡ false → Detects o c w (AckDelimiter r) Recessive Crc
  unfolding mac_step
  crc-step r refused =
      let s = stance (at (AckDelimiter r)) in
      ap (on_step (at (AckDelimiter r))) (cond-true (not r.agrees) (errs s Crc) _ (ap not refused)) ∙ errs-lands Receiver c active (AckDelimiter r) o Crc

  pub ending-step : (r : Reading) (j : ℕ) → j < 7 → Detects o c w (ending r j) Dominant Form
  unfolding mac_step
  ending-step r zero few = errs-lands Receiver c active (AckDelimiter r) o Form
  ending-step r (suc place) few =
      let s = stance (at (EndOfFrame r place)) in
      ap (on_step (at (EndOfFrame r place))) (cond-true (ltb place 6) (errs s Form) _ (lt-ltb place 6 (omega arith))) ∙ errs-lands Receiver c active (EndOfFrame r place) o Form

  pub ending-goes : (r : Reading) (j : ℕ) → r.agrees ≡ true → j < 6 → mac_step (part_state (ending r j) Receiver o c) w Recessive ≡ (part_state (ending r (suc j)) Receiver o c, None)
  unfolding mac_step
  ending-goes r zero agreed few =
      let s = stance (at (AckDelimiter r)) in
      ap (on_step (at (AckDelimiter r))) (cond-false (not r.agrees) (errs s Crc) (goes s (EndOfFrame r 0)) (ap not agreed))
  ending-goes r (suc place) agreed few =
      let s = stance (at (EndOfFrame r place)) in
      let one_more : place + 1 ≡ suc place = omega arith in
      ap (on_step (at (EndOfFrame r place))) (cond-true (ltb place 5) (goes s (EndOfFrame r (place + 1))) _ (lt-ltb place 5 (omega arith)))
      ∙ ap (λ q. let e : MacState × Option Event = (part_state (EndOfFrame r q) Receiver o c, None) in e) one_more

-- ---- where the others' frame ends

-- levels with the CRC delimiter of a frame at place n: its ACK slot is dominant, and the levels after it are recessive, to the
-- last but one
pub record EndsFrame (n : ℕ) (others : List Level) : Type 0 where
  pub size : n + 10 ≤ length others
  pub acknowledged : level_at others (n + 1) ≡ Dominant
  pub recessive : (q : ℕ) → n + 2 ≤ q → q ≤ n + 8 → level_at others q ≡ Recessive

-- the first dominant one of these levels, if there is one
search : (g : ℕ → Level) (n : ℕ) → ((i : ℕ) → i < n → g i ≡ Recessive) ⊎ ((j : ℕ) × (j < n) × (g j ≡ Dominant) × ((i : ℕ) → i < j → g i ≡ Recessive))
search g zero = inl (λ i none. absurd (omega arith))
search g (suc n) = further (search g n)
  where
    found : Type 0
    found = (j : ℕ) × (j < suc n) × (g j ≡ Dominant) × ((i : ℕ) → i < j → g i ≡ Recessive)

    at_end : ((i : ℕ) → i < n → g i ≡ Recessive) → (x : Level) → g n ≡ x → ((i : ℕ) → i < suc n → g i ≡ Recessive) ⊎ ((j : ℕ) × (j < suc n) × (g j ≡ Dominant) × ((i : ℕ) → i < j → g i ≡ Recessive))
    at_end before Dominant here = inr (n, omega arith, here, before)
    at_end before Recessive here = inl (λ i inside. elim (cases_lt i n) [
      | inl earlier ↦ before i earlier
      | inr last ↦ let same : n ≡ i = omega arith in subst (λ k. g k ≡ Recessive) same here
    ])

    further : ((i : ℕ) → i < n → g i ≡ Recessive) ⊎ ((j : ℕ) × (j < n) × (g j ≡ Dominant) × ((i : ℕ) → i < j → g i ≡ Recessive))
        → ((i : ℕ) → i < suc n → g i ≡ Recessive) ⊎ ((j : ℕ) × (j < suc n) × (g j ≡ Dominant) × ((i : ℕ) → i < j → g i ≡ Recessive))
    further (inl before) = at_end before (g n) refl
    further (inr h) = inr (h.0, omega (arith, h.1), h.2, h.3)

module _ (m : MacState) (waits : ℕ → Option Parts) (others : List Level) (ready : IsReady m waits) (n : ℕ) (frame : EndsFrame n others) where
  abbrev wishes : Overloads
  wishes = record { pending = m.overloads.pending; used = 0 }

  abbrev Signalled : Type 0
  Signalled = (t : ℕ) × (t ≤ n + 8) × IsSignalledIn m waits others n t

  -- a dominant level comes by the ACK slot
  early : (t : ℕ) → t ≤ n + 8 → level_at others t ≡ Dominant → t ≤ n + 1
  early t within dominant = elim (cases_lt t (n + 2)) [
    | inl before ↦ omega arith
    | inr past ↦ let both : Dominant ≡ Recessive = sym dominant ∙ frame.recessive t (omega arith) within in cc
  ]

  -- an error in this phase, at a level of the others
  module _ (slot t : ℕ) (phase : MacPhase) (c : ConfineParts) (walk : Walks m waits others slot t phase c) (drives : (w : Option Parts) → phase_drives phase Receiver w ≡ Recessive) where
    pub signals : (x : Level) (kind : ErrorKind) → t ≤ n + 8 → level_at others t ≡ x → Detects wishes c (waits t) phase x kind
        → ComesBy n t kind → (t : ℕ) × (t ≤ n + 8) × IsSignalledIn m waits others n t
    signals x kind within here step by =
        let more : t < length others = omega (arith, within, frame.size) in
        let whole = Walks-step m waits others slot t phase c more walk x here drives (part_state (ErrorFlag 0) Receiver wishes (counted ReceiverError c), Some (Error kind)) step in (
          t,
          within,
          record {
            slot = slot;
            before = walk.quiet;
            signals = inl (record {
              kind = kind;
              first = record { silent = walk.quiet.silent; told = Walks-told m waits others slot t phase c more walk kind (counted ReceiverError c) whole; flag = Walks-flag m waits others slot t phase c more walk kind (counted ReceiverError c) whole };
              by = by;
            });
          },
        )

    form_signals : t ≤ n + 8 → level_at others t ≡ Dominant → Detects wishes c (waits t) phase Dominant Form → Signalled
    form_signals within here step = signals Dominant Form within here step (form (early t within here))

  -- the stuffed part has k levels
  module _ (k : ℕ) (r : Reading) (few : k ≤ n + 6) (listens : Listens m waits others k (CrcDelimiter r)) where
    abbrev c : ConfineParts
    c = m.counters

    more_at : (t : ℕ) → t ≤ n + 8 → t < length others
    more_at t within = omega (arith, within, frame.size)

    -- a dominant CRC delimiter
    delimiter_signals : level_at others k ≡ Dominant → Signalled
    delimiter_signals here =
        form_signals (suc k) k (CrcDelimiter r) c (listens (suc k)) (λ w. refl) (omega (arith, few)) here (delimiter-step wishes c ready.active (waits k) r)

    module _ (here : level_at others k ≡ Recessive) where
      at_slot : Listens m waits others (suc k) (AckSlot r)
      at_slot slot =
          let more = more_at k (omega (arith, few)) in
          Walks-next m waits others slot k (CrcDelimiter r) c more (listens slot) (AckSlot r) c
          (Walks-step m waits others slot k (CrcDelimiter r) c more (listens slot) Recessive here (λ w. refl) (part_state (AckSlot r) Receiver wishes c, None) (delimiter-goes wishes c ready.active (waits k) r))
          (inl refl)

      slot_more : suc k < length others
      slot_more = more_at (suc k) (omega (arith, few))

      -- a wrong CRC sequence
      module _ (refused : r.agrees ≡ false) where
        passive : (w : Option Parts) → phase_drives (AckSlot r) Receiver w ≡ Recessive
        passive w = cond-false r.agrees Dominant Recessive refused

        at_delimiter : Listens m waits others (suc (suc k)) (AckDelimiter r)
        at_delimiter slot =
            let x = level_at others (suc k) in
            Walks-next m waits others slot (suc k) (AckSlot r) c slot_more (at_slot slot) (AckDelimiter r) c
            (Walks-step m waits others slot (suc k) (AckSlot r) c slot_more (at_slot slot) x refl passive (part_state (AckDelimiter r) Receiver wishes c, None) (slot-refuses wishes c ready.active (waits (suc k)) r x refused))
            (inl (passive (waits (suc k))))

        crc_signals : (x : Level) → level_at others (suc (suc k)) ≡ x → Signalled
        crc_signals Dominant e =
            form_signals (suc k) (suc (suc k)) (AckDelimiter r) c (at_delimiter (suc k)) (λ w. refl) (omega (arith, few)) e (ending-step wishes c ready.active (waits (suc (suc k))) r 0 (omega arith))
        crc_signals Recessive e =
            signals (suc k) (suc (suc k)) (AckDelimiter r) c (at_delimiter (suc k)) (λ w. refl) Recessive Crc (omega (arith, few)) e (crc-step wishes c ready.active (waits (suc (suc k))) r refused) (crc (omega (arith, few)))

      -- a right one
      module _ (agreed : r.agrees ≡ true) where
        acknowledges : (w : Option Parts) → phase_drives (AckSlot r) Receiver w ≡ Dominant
        acknowledges w = cond-true r.agrees Dominant Recessive agreed

        -- after the others' frame: its ACK slot is in their end of frame
        late : n < k → Signalled
        late past = elim (cases_lt (n + 1) k) [
          | inr next ↦
              let same : k ≡ n + 1 = omega (arith, past, next) in
              let both : Recessive ≡ Dominant = sym here ∙ ap (level_at others) same ∙ frame.acknowledged in
              cc
          | inl more ↦ (
            suc k,
            omega (arith, few),
            record {
              slot = suc k;
              before = (at_slot (suc k)).quiet;
              signals = inr (record {
                in_slot = ap kind_of (at_slot (suc k)).state;
                drives = Walks-driven m waits others (suc k) (suc k) (AckSlot r) c slot_more (at_slot (suc k)) ∙ acknowledges (waits (suc k));
                recessive = frame.recessive (suc k) (omega (arith, more)) (omega (arith, few));
                least = omega (arith, more);
                most = omega (arith, few);
              });
            },
          )
        ]

        -- no later than the others' frame
        module _ (before : k ≤ n) where
          abbrev new : ConfineParts
          new = counted FrameReceived c

          acknowledged : Walks m waits others (suc k) (suc (suc k)) (AckDelimiter r) new
          acknowledged =
              let seen = ap (over (level_at others (suc k))) (acknowledges (waits (suc k))) ∙ over-dominant (level_at others (suc k)) in
              Walks-next m waits others (suc k) (suc k) (AckSlot r) c slot_more (at_slot (suc k)) (AckDelimiter r) new
              (ap (mac_step (part_state (AckSlot r) Receiver wishes c) (waits (suc k))) seen ∙ slot-agrees wishes c ready.active (waits (suc k)) r agreed)
              (inr (refl, refl))

          abbrev tail_at : ℕ → Level
          tail_at i = level_at others (k + 2 + i)

          -- it goes on as long as the levels are recessive
          tail_walk : (j t : ℕ) → t ≡ k + 2 + j → j ≤ 6 → ((i : ℕ) → i < j → tail_at i ≡ Recessive) → Walks m waits others (suc k) t (ending r j) new
          tail_walk zero t e few_left all =
              let start : suc (suc k) ≡ t = omega (arith, e) in
              subst (λ q. Walks m waits others (suc k) q (AckDelimiter r) new) start acknowledged
          tail_walk (suc j) t e few_left all =
              let now = k + 2 + j in
              let more = more_at now (omega (arith, before)) in
              let phase = ending r j in
              let walk : Walks m waits others (suc k) now phase new = tail_walk j now refl (omega arith) (λ i less. all i (omega arith)) in
              let drives = ending-drives r j in
              let on : suc now ≡ t = omega (arith, e) in
              let next = ending r (suc j) in
              subst (λ q. Walks m waits others (suc k) q next new) on
              (Walks-next m waits others (suc k) now phase new more walk next new
              (Walks-step m waits others (suc k) now phase new more walk Recessive (all j (omega arith)) drives (part_state next Receiver wishes new, None)
              (ending-goes wishes new (active-received c ready.active) (waits now) r j agreed (omega arith)))
              (inl (drives (waits now))))

          tail_signals : (j : ℕ) → j < 7 → tail_at j ≡ Dominant → ((i : ℕ) → i < j → tail_at i ≡ Recessive) → Signalled
          tail_signals j few_left dominant all =
              let now = k + 2 + j in
              form_signals (suc k) now (ending r j) new (tail_walk j now refl (omega arith) all) (ending-drives r j) (omega (arith, before)) dominant
              (ending-step wishes new (active-received c ready.active) (waits now) r j few_left)

          -- so it detects an error, or the levels end a frame
          pub acknowledged-signals : (((i : ℕ) → i < 7 → level_at others (k + 2 + i) ≡ Recessive) → ⊥) → (t : ℕ) × (t ≤ n + 8) × IsSignalledIn m waits others n t
          acknowledged-signals never = elim (search tail_at 7) [
            | inl all ↦ absurd (never all)
            | inr h ↦ tail_signals h.0 h.1 h.2 h.3
          ]

    -- if the levels never end a frame that is accepted, it detects an error or breaks the end of the others' frame
    pub after-part : (r.agrees ≡ true → k ≤ n → level_at others k ≡ Recessive → ((i : ℕ) → i < 7 → level_at others (k + 2 + i) ≡ Recessive) → ⊥) → (t : ℕ) × (t ≤ n + 8) × IsSignalledIn m waits others n t
    after-part never = by_delimiter (level_at others k) refl
      where
        by_delimiter : (x : Level) → level_at others k ≡ x → Signalled
        by_delimiter Dominant here = delimiter_signals here
        by_delimiter Recessive here = elim (cases_Bool r.agrees) [
          | inr refused ↦ crc_signals here refused (level_at others (suc (suc k))) refl
          | inl agreed ↦ elim (cases_lt n k) [
            | inl past ↦ late here agreed past
            | inr within ↦ acknowledged-signals here agreed (omega arith) (never agreed (omega arith) here)
          ]
        ]
