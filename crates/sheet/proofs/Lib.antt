-- What the call's contract says where it is accepted and where it is refused, and what can be told from the paper.
mod Terms
mod Answers
pub mod Contract
pub mod Paper
pub mod Example
