-- The sentences of the demands (Consequences), of method 6 (Ebl), what has stayed as it was (AsBefore), what save and load say of each other (RoundTrip), and series
-- worked out (Example). They rest on the theorem's statement, on the contracts, and on laws about the definitions; the theorem's invariant can't be
-- named here.
pub mod Consequences
pub mod Ebl
pub mod AsBefore
pub mod RoundTrip
pub mod Example
