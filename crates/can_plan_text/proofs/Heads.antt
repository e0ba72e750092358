-- The text of a head.
use Rattle.std.proofs.Common.{◌≡◌, ℕ, ◌+◌, ◌≤◌, List, ◌++◌, length, ap, arith}
use Rattle.std.specs.Prelude.{codes}
use Rattle.std.proofs.lemmas.List.{length-append}
use Rattle.can_frame.specs.Parts.{Parts}
use Rattle.can_frame.proofs.TextLengths.{length-frame_text}
use Rattle.can_plan_text.specs.Plans.{IsHeadText}

-- with the DLC it is no longer than a frame's text
pub head-short : (text : List ℕ) (f : Parts) → IsHeadText text f → length text + 2 ≤ 32
head-short text f is =
    let size : length (text ++ codes " 0") ≡ length text + 2 = length-append text (codes " 0") in
    let short = length-frame_text f is.0 in
    let same = ap length is.1 in
    omega (arith, size, short, same)
