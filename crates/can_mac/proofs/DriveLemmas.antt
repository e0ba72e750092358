-- How much of a frame a controller holds, and that it is silent in some phases.
use Rattle.std.proofs.Common.{◌≡◌, ◌≤◌, Option, length, refl, subst, arith}
use Rattle.can_frame.specs.declared.level.Level.TheVariants.{Recessive}
use Rattle.can_frame.specs.Parts.{Parts}
use Rattle.can_code.specs.Front.{FrontParts}
use Rattle.can_wire.proofs.LayoutLengths.{frame_len_le}
use Rattle.can_mac.specs.declared.phase.Phase.TheVariants.{StuffedPart}
use Rattle.can_mac.specs.declared.phase.Role.{Role}
use Rattle.can_mac.specs.Machine.{IsSilent, joining, off, passive_flag, phase_drives}
use Rattle.can_mac.specs.State.{MacPhase, MacState, IsMac, IsOpen, IsPhase}

-- a frame has at most 118 unstuffed levels
pub longest_part : (m : MacState) → IsMac m → (front : FrontParts) → m.phase ≡ StuffedPart front → length front.unstuffed ≤ 118
longest_part m h front e =
    let opened : IsOpen front = subst IsPhase e h.phase in
    omega (arith, opened.front.within, frame_len_le front.unstuffed)

pub silent_drives : (phase : MacPhase) (role : Role) (waiting : Option Parts) → IsSilent phase → phase_drives phase role waiting ≡ Recessive
silent_drives phase role waiting (joining row) = refl
silent_drives phase role waiting (passive_flag last run unacknowledged) = refl
silent_drives phase role waiting off = refl
