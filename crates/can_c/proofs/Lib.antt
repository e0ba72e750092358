-- a handle and its box: what the heap has at a pointer, and the calls of a box
mod PortBox
mod PortDrop
mod BoxCalls
mod HandleValues
-- the status of calls
mod StatusLemmas
mod FrameLemmas
mod DecodeLemmas
mod LongestFrame
-- ports through bit times
mod RunLemmas
-- what a bus is offered and how it is disturbed, a wire, handles on a bus
mod InputLemmas
mod WireLemmas
mod HandleLists
mod PlayLemmas
