use Rattle.std.proofs.Common.{sym}
use Rattle.kit_documents.proofs.EventTexts.{frame-behind}
use Rattle.kit_documents.proofs.words.events.frame_behind.Goals as goal

pub returns : goal.returns
returns c =
    rw (sym c.as_bytes.ensures.value, sym c.as_bytes-2.ensures.value)
    (frame-behind c.as_bytes.result.now c.as_bytes-2.result.now c.in_ok-behind.field-0.now c.frame_of.result c.in_ok-behind.ensures c.frame_of.ensures)
