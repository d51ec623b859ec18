-- The laws of the saved image: its numbers, what is read in any bytes, and the way back.
pub mod Numbers
pub mod Contents
pub mod Images
pub mod Again
