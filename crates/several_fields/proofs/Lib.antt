-- Laws of words with a field for each pattern, over any number of patterns; and the words while bytes enter and leave.
pub mod Packing
pub mod Placing
pub mod Rooms
