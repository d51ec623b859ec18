-- A field by the bytes that were taken, the theorem that the steps find exactly the matching windows, and what is found pattern by pattern
-- and place by place.
pub mod Fields
pub mod Passes
pub mod Separate
pub mod Pairs
pub mod Handed
