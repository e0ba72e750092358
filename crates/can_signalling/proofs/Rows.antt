-- Known values: two frames as they are sent, of which one level is inverted, at an idle receiver.
use Rattle.std.proofs.Common.{◌≡◌, ℕ, zero, suc, ◌+◌, ◌<◌, Bool, true, false, ◌&&◌, Option, Some, None, List, [], ◌∷◌, refl, sym, subst, arith, inl, inr}
use Rattle.std.specs.Prelude.{slice_index}
use Rattle.std.proofs.lemmas.Bool.{cases_lt, and_parts}
use Rattle.can_frame.specs.declared.level.Level.{Level}
use Rattle.can_frame.specs.declared.level.Level.TheVariants.{Dominant, Recessive}
use Rattle.can_frame.specs.Levels.{bits_of, is_recessive}
use Rattle.can_frame.specs.Arbitration.{arbitration_field}
use Rattle.can_frame.specs.Parts.{Parts, IsFrame}
use Rattle.can_wire.specs.Crc.{crc_of}
use Rattle.can_wire.specs.Layout.{frame_len, frame_of, level_at}
use Rattle.can_wire.specs.Stuffing.{stuffed}
use Rattle.can_wire.specs.Wire.{head, unstuffed, stuffed_part, wire}
use Rattle.can_terms.specs.declared.event.Event.{Event}
use Rattle.can_terms.specs.declared.event.Event.TheVariants.{Error}
use Rattle.can_terms.specs.declared.event.ErrorKind.TheVariants.{Crc}
use Rattle.can_terms.specs.declared.phase_kind.PhaseKind.TheVariants as kind
use Rattle.can_mac.specs.declared.phase.Phase.TheVariants.{ErrorFlag}
use Rattle.can_mac.specs.State.{idle, kind_of}
use Rattle.can_mac.specs.Moves.{agrees}
use Rattle.can_mac.specs.Machine.{mac_drives, mac_step}
use Rattle.can_mac.specs.Frames.{state_after, told_at, driven_at}
use Rattle.can_detection.specs.WrongBit.{inverted_at, crc_delimiter}
use Rattle.can_detection.proofs.Rows.{sent_065}
use Rattle.can_signalling.specs.Signalling.{sampled, IsQuietBefore, BreaksEnd, IsSignalledIn, crc}

-- ---- an idle receiver without a pending frame

abbrev nothing : ℕ → Option Parts
nothing t = None

is_silent : Option Event → Bool
is_silent None = true
is_silent (Some event) = false

none_from : (told : Option Event) → is_silent told ≡ true → told ≡ None
unfolding is_silent
none_from None h = refl
none_from (Some event) h = cc

recessive_from : (x : Level) → is_recessive x ≡ true → x ≡ Recessive
recessive_from Recessive h = refl
recessive_from Dominant h = cc

module _ (others : List Level) where
  abbrev seen : List Level
  seen = sampled idle nothing others

  -- before bit time t it reports no event, and drives recessive
  calm : ℕ → Bool
  calm zero = true
  calm (suc t) = (is_silent (told_at idle nothing seen t) && is_recessive (driven_at idle nothing seen t)) && calm t

  calm_at : (n t : ℕ) → calm n ≡ true → t < n → (told_at idle nothing (sampled idle nothing others) t ≡ None) × (driven_at idle nothing (sampled idle nothing others) t ≡ Recessive)
  unfolding calm
  calm_at zero t h within = absurd (omega arith)
  calm_at (suc n) t h within =
      let told = is_silent (told_at idle nothing seen n) in
      let driven = is_recessive (driven_at idle nothing seen n) in
      let parts = and_parts (told && driven) (calm n) h in
      elim (cases_lt t n) [
        | inl earlier ↦ calm_at n t parts.1 earlier
        | inr last ↦
            let here = and_parts told driven parts.0 in
            let same : n ≡ t = omega arith in
            subst (λ q. (told_at idle nothing seen q ≡ None) × (driven_at idle nothing seen q ≡ Recessive)) same
            (none_from (told_at idle nothing seen n) here.0, recessive_from (driven_at idle nothing seen n) here.1)
      ]

  quiet : (n slot : ℕ) → calm n ≡ true → IsQuietBefore idle (λ t. None) others slot n
  quiet n slot h = record { silent = λ o before. (calm_at n o h before).0; drives = λ o before. inl (calm_at n o h before).1 }

-- ---- `S 065 D 1 b6`: with level 22 inverted it is read as a longer frame, and its end is broken

abbrev broken : List Level
broken = inverted_at 22 (wire sent_065)

is_frame_065 : IsFrame sent_065
is_frame_065 = record { id = omega arith; dlc = omega arith; count = refl; small = by_place }
  where
    by_place : (k : ℕ) → slice_index (0xb6 ∷ []) k < 256
    by_place zero = omega arith
    by_place (suc k) = omega arith

delimiter_065 : crc_delimiter (wire sent_065) ≡ 44
unfolding stuffed_part unstuffed stuffed crc_of head arbitration_field bits_of
delimiter_065 = refl

calm_065 : calm broken 47 ≡ true
unfolding calm is_silent mac_drives mac_step agrees frame_len frame_of stuffed_part unstuffed stuffed crc_of head arbitration_field bits_of
calm_065 = refl

drives_065 : driven_at idle nothing (sampled idle nothing broken) 47 ≡ Dominant
unfolding mac_drives mac_step agrees frame_len frame_of stuffed_part unstuffed stuffed crc_of head arbitration_field bits_of
drives_065 = refl

slot_065 : kind_of (state_after idle nothing (sampled idle nothing broken) 47) ≡ kind.AckSlot
unfolding mac_drives mac_step agrees frame_len frame_of stuffed_part unstuffed stuffed crc_of head arbitration_field bits_of
slot_065 = refl

recessive_065 : level_at broken 47 ≡ Recessive
unfolding stuffed_part unstuffed stuffed crc_of head arbitration_field bits_of
recessive_065 = refl

pub breaks_end : (f : Parts) × (p : ℕ) × (t : ℕ) × (slot : ℕ) × IsFrame f × (0 < p) × (p < crc_delimiter (wire f))
    × IsQuietBefore idle (λ t. None) (inverted_at p (wire f)) slot t
    × BreaksEnd idle (λ t. None) (inverted_at p (wire f)) (crc_delimiter (wire f)) t
breaks_end = (
  sent_065,
  22,
  47,
  47,
  is_frame_065,
  omega arith,
  omega (arith, delimiter_065),
  quiet broken 47 47 calm_065,
  record { in_slot = slot_065; drives = drives_065; recessive = recessive_065; least = omega (arith, delimiter_065); most = omega (arith, delimiter_065) },
)

-- ---- `X 0f403b10 R 6`: with its SRR bit inverted it is read as a standard data frame with three bytes. Five dominant bits end at
-- the inverted one, so that the IDE bit is read as a stuff bit.

abbrev remote_frame : Parts
remote_frame = record { id = record { raw = 0x0f403b10; extended = true }; remote = true; dlc = 6; bytes = [] }

abbrev shifted : List Level
shifted = inverted_at 12 (wire remote_frame)

is_remote_frame : IsFrame remote_frame
is_remote_frame = record { id = omega arith; dlc = omega arith; count = refl; small = λ k. omega arith }

delimiter_remote : crc_delimiter (wire remote_frame) ≡ 55
unfolding stuffed_part unstuffed stuffed crc_of head arbitration_field bits_of
delimiter_remote = refl

calm_remote : calm shifted 63 ≡ true
unfolding calm is_silent mac_drives mac_step agrees frame_len frame_of stuffed_part unstuffed stuffed crc_of head arbitration_field bits_of
calm_remote = refl

told_remote : told_at idle nothing (sampled idle nothing shifted) 63 ≡ Some (Error Crc)
unfolding mac_drives mac_step agrees frame_len frame_of stuffed_part unstuffed stuffed crc_of head arbitration_field bits_of
told_remote = refl

flag_remote : (state_after idle nothing (sampled idle nothing shifted) 64).phase ≡ ErrorFlag 0
unfolding mac_drives mac_step agrees frame_len frame_of stuffed_part unstuffed stuffed crc_of head arbitration_field bits_of
flag_remote = refl

signalled_remote : IsSignalledIn idle (λ t. None) shifted 55 63
signalled_remote = record { slot = 0; before = quiet shifted 63 0 calm_remote; signals = inl (record { kind = Crc; first = record { silent = (quiet shifted 63 0 calm_remote).silent; told = told_remote; flag = flag_remote }; by = crc (omega arith) }) }

pub latest_error : (f : Parts) × (p : ℕ) × IsFrame f × (0 < p) × (p < crc_delimiter (wire f))
    × IsSignalledIn idle (λ t. None) (inverted_at p (wire f)) (crc_delimiter (wire f)) (crc_delimiter (wire f) + 8)
latest_error = (
  remote_frame,
  12,
  is_remote_frame,
  omega arith,
  omega (arith, delimiter_remote),
  subst (λ n. IsSignalledIn idle (λ t. None) shifted n (n + 8)) (sym delimiter_remote) signalled_remote,
)
