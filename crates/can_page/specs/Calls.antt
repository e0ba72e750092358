-- Which calls are refused.
use Rattle.std.specs.Prelude.{◌≢◌, ℕ, ◌<◌, ◌≤◌, Bool, List, length}
use Rattle.can_frame.specs.Ident.{ident_count}
use Rattle.can_frame.specs.Parts.{Parts, byte_count}
use Rattle.can_page.specs.declared.answer.Answer.{Answer}
use Rattle.can_page.specs.declared.answer.Answer.TheVariants.{BadIdentifier, BadDlc, BadCount}

-- the parts of a frame
abbrev pub parts_of : ℕ → Bool → Bool → ℕ → List ℕ → Parts
parts_of raw extended remote dlc bytes =
    record { id = record { raw = raw; extended = extended }; remote = remote; dlc = dlc; bytes = bytes }

-- The first reason why parts are not those of a frame: the identifier is tested before the DLC, and the DLC before the
-- number of data bytes.
abbrev pub IsRefusal : Answer → Parts → Type 0
IsRefusal BadIdentifier f = ident_count f.id.extended ≤ f.id.raw
IsRefusal BadDlc f = (f.id.raw < ident_count f.id.extended) × (15 < f.dlc)
IsRefusal BadCount f = (f.id.raw < ident_count f.id.extended) × (f.dlc ≤ 15) × (length f.bytes ≢ byte_count f.remote f.dlc)
IsRefusal _ f = ⊥
