-- What a search of a tail followed by a chunk by any method asks of its arguments, and what it yields: document 01, "A search and its calls", Feed.
use Rattle.std.specs.Prelude.{◌≡◌, List, ℕ, ◌<◌, length}
use Rattle.jumbled.specs.Steps.{steps_into}
use Rattle.jumbled.specs.Refusals.{given, method_tests}
use Rattle.table_parikh.specs.Table.{parikh}
use Rattle.lent.specs.Found.{Found}
use Rattle.lent.specs.declared.SearchCounts.{SearchCounts}
use Rattle.chunk_seam.specs.declared.Joined.{Joined}
use Rattle.chunk_seam.specs.Joined.{Joinable, PreparedIn, text_of}

-- How often the pattern has each byte, and a tolerance and a method that 2 to 5 do not refuse
pub record Taken (P counts : List ℕ) (k method : ℕ) : Type 0 where
  pub counted : counts ≡ parikh P
  pub within : k < length P
  pub method-right : given (method_tests P k method) ≡ 0

-- A tail and a chunk that can be joined
pub record Searchable (P counts : List ℕ) (k method : ℕ) (tail chunk : List ℕ) (base : ℕ) (list : List ℕ) : Type 0 where
  pub joinable : Joinable (length P) tail chunk base list
  pub taken : Taken P counts k method

-- The same once they were made ready
pub record SplitSearchable (P counts : List ℕ) (k method : ℕ) (j : Joined) (list : List ℕ) : Type 0 where
  pub prepared : PreparedIn (length P) j list
  pub taken : Taken P counts k method

-- The method's steps over a text were made, up to where the list is full
abbrev pub Stepped : List ℕ → (k method : ℕ) → List ℕ → (base : ℕ) → (before after : List ℕ) → SearchCounts → Type 0
Stepped P k method T base before after r = Found (steps_into (length before) P k method T) base before after r

-- over the seam and then the chunk
abbrev pub SplitStepped : List ℕ → (k method : ℕ) → Joined → (before after : List ℕ) → SearchCounts → Type 0
SplitStepped P k method j before after r = Stepped P k method (text_of j) j.split.over_tail.base before after r
