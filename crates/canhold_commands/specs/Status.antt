-- The exit status of `canhold`. (docs/CODES.md)
use Rattle.std.specs.Prelude.{ℕ}
use Rattle.kit_documents.specs.declared.fault.KitFault.{KitFault}
use Rattle.kit_documents.specs.declared.fault.KitFault.TheVariants as kit
use Rattle.can_program.specs.Status.{stream_status}
use Rattle.can_stream.specs.declared.fault.TraceFault.TheVariants.{Memory}
use Rattle.canhold_commands.specs.declared.fault.CanholdFault.{CanholdFault}
use Rattle.canhold_commands.specs.declared.fault.CanholdFault.TheVariants.{Field, NothingJudged, Stream, TranscriptsDiffer}

-- 1: the input is refused, or not all transcripts pass. 3: a stream failed. 4: an allocation failed. 5: nothing was
-- judged.
abbrev pub canhold_status : CanholdFault → ℕ
canhold_status (Field wrong) = 1
canhold_status TranscriptsDiffer = 1
canhold_status NothingJudged = 5
canhold_status (Stream fault) = stream_status fault

-- the fault of `canhold` for a fault of the document
abbrev pub kit_fault_of : KitFault → CanholdFault
kit_fault_of (kit.Field wrong) = Field wrong
kit_fault_of kit.Memory = Stream Memory
