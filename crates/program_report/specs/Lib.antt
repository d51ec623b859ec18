-- What the program mixlist prints for an input, and how much of the input it reads.
pub mod Output
pub mod Reads
