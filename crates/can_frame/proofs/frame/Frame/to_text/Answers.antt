use Rattle.std.proofs.lemmas.Str.{IsUtf8-from_ascii}
use Rattle.can_frame.proofs.frame.Frame.to_text.Goals as goal

pub from_utf8_unchecked-text-requires : goal.from_utf8_unchecked-text-requires
from_utf8_unchecked-text-requires c = IsUtf8-from_ascii _ (rw c.as_slice.ensures.value c.text_bytes-bytes.ensures.ascii)
