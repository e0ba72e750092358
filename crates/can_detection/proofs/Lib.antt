-- two multiples of the generator that differ within fifteen neighbouring bits
pub mod Bursts
-- lists with one level inverted
pub mod Inverted
-- an inverted level after the stuffed part
pub mod FixedForm
-- fronts that go on to the end of a stuffed part, level by level
pub mod Fronts
-- two stuffed parts that differ in one level
pub mod TwoParts
-- six equal levels of which none is a stuff bit
pub mod SixLevels
-- how long a receiver's stuffed part can be
pub mod OtherParts
-- a receiver of a frame of whose stuffed part one level is inverted
pub mod Receivers
-- known values, and the frame that shows the exception
pub mod Rows
pub mod Exception
