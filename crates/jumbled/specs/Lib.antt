-- The definitions that every claim of this repository rests on, in the order in which to read them.
pub mod Match
pub mod Scan
pub mod Fields
pub mod Heap
pub mod Steps
pub mod Refusals
pub mod Former
