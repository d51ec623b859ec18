-- The bytes that a search keeps: document 01, "A search and its calls".
use Rattle.std.specs.Prelude.{List, ◌++◌, ℕ, ◌-◌, length, drop, replicate}

-- U in so many places, and 0 in the others
abbrev pub padded : ℕ → List ℕ → List ℕ
padded places U = U ++ replicate (places - length U) 0

-- The last j of some bytes
abbrev pub last_of : ℕ → List ℕ → List ℕ
last_of j U = drop (length U - j) U
