-- To believe: the definitions in which public calls and laws state what they promise
pub mod Circuit
pub mod Lacking
pub mod Words
pub mod Runs
pub mod Aiger
pub mod AigerNumbers
pub mod Ordered
pub mod Names
pub mod Statements
pub mod Verilog
pub mod Named
pub mod Binary
pub mod Readable
pub mod Module
pub mod Files
-- For private calls
pub mod Texts
pub mod Fitting
