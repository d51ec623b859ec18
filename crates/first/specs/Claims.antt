-- What an answer says of the text and of other calls: document 02, T-08.
use Rattle.std.specs.Prelude.{◌≡◌, cond, List, [], ◌∷◌, ◌↔◌, ℕ, ◌+◌, ◌≤◌, leb, length}
use Rattle.std.proofs.Math.Option.{Option, none, some}
use Rattle.jumbled.specs.Match.{excess, window}

-- A position at or after a whose window is in the text and matches
pub record MatchFrom (P : List ℕ) (k : ℕ) (T : List ℕ) (a s : ℕ) : Type 0 where
  pub not-before : a ≤ s
  pub inside : s + length P ≤ length T
  pub matching : excess P (window (length P) T s) ≤ k

-- What the position that a search from a on answers says of the text
pub record IsFirst (P : List ℕ) (k : ℕ) (T : List ℕ) (a : ℕ) (position : Option ℕ) : Type 0 where
  -- There is none exactly where nothing at or after a matches.
  pub none-exactly : (position ≡ none) ↔ ((s : ℕ) → MatchFrom P k T a s → ⊥)
  -- One that is found matches, and nothing from a on matches before it.
  pub is-match : (p : ℕ) → position ≡ some p → MatchFrom P k T a p
  pub smallest : (p : ℕ) → position ≡ some p → (s : ℕ) → MatchFrom P k T a s → p ≤ s

-- The first entry of a list that is at least a
unfoldable pub entry_from : ℕ → List ℕ → Option ℕ
entry_from a [] = none
entry_from a (p ∷ list) = cond (leb a p) (some p) (entry_from a list)

-- The first entry of all
abbrev pub first_entry : List ℕ → Option ℕ
first_entry [] = none
first_entry (p ∷ list) = some p
