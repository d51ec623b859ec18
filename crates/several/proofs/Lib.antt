-- The answer of the call, the words that its pass begins with, and what its contract comes to: an accepted and a refused search, and the counting
-- searches put together; an example worked out.
pub mod Answers
pub mod Words
pub mod Contract
pub mod Separate
pub mod Example
pub mod Lost
