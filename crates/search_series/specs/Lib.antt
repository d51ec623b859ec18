-- The history that a series of calls is compared with, and the claim about every series: document 01, "The ledger".
pub mod History
pub mod Series
