use Rattle.kit_documents.proofs.EventTexts.{words-said}
use Rattle.kit_documents.proofs.words.events.read_event.Goals as goal

pub returns : goal.returns
returns c = words-said c.args.text.now c.in_default.ensures c.in_default-frame_behind.ensures c.event_in_words.result c.event_in_words.ensures
