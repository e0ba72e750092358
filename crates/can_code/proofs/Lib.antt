-- complete unstuffed levels are the levels of the frame that they determine
pub mod LayoutWrite
-- the unstuffed levels of a frame that is sent are complete, and give it back
pub mod UnstuffedLevels
-- complete stuffed parts: none begins another
pub mod StuffedParts
-- a front stays one with each level, and determines how long it gets
pub mod FrontLemmas
-- the front that levels make, heard one by one
pub mod FrontsOf
-- levels heard one by one give a stuffed part's unstuffed levels
pub mod HeardLevels
-- the front that each beginning of a stuffed part makes
pub mod PartFronts
-- the front that each beginning of a frame's stuffed part makes, and what its sender drives next
pub mod WireFronts
-- arbitration, level by level: the place at which two frames that are sent together differ
pub mod WireOrder
-- what each fault of levels takes
pub mod CodeFaultLemmas
-- levels have at most one fault
pub mod OneCodeFault
-- what a decoder has heard, level by level
pub mod DecoderLemmas
-- levels begin with a spelling or have a fault
pub mod FrameOrFault
-- levels as they are heard
pub mod ReadingLemmas
pub mod SoundLemmas
pub mod DecodingLemmas
pub mod UnstuffingLemmas
pub mod StepLemmas
pub mod StepTable
pub mod StepRows
pub mod WholeTail
pub mod TailLemmas
-- arbitration, level by level
pub mod UnstuffedOrder
pub mod StuffedOrder
-- levels copied by means of numbers of them
mod CopiedLevels
