-- What runs are, in plain terms: document 02, T-10.
use Rattle.std.specs.Prelude.{ℕ, suc, ◌+◌, ◌≤◌, ◌<◌, ◌≡◌, Bool, true, false, length}
use mathlib.Core.List.{List, [], ◌∷◌, Memᴰ}
use Rattle.jumbled.specs.Match.{excess, window}
use Rattle.charge_form.specs.Runs.{Run}

-- A matching window of the text that holds the hour h
pub record HeldBy (P : List ℕ) (k : ℕ) (T : List ℕ) (h : ℕ) : Type 0 where
  pub start : ℕ
  pub inside : start + length P ≤ length T
  pub matching : excess P (window (length P) T start) ≤ k
  pub from : start ≤ h
  pub to : h < start + length P

-- Of n hours a longest stretch of marked ones: all of its hours are marked, and it can't be made longer to either side
pub record Longest (marks : ℕ → Bool) (n : ℕ) (run : Run) : Type 0 where
  pub some : 0 < run.hours
  pub inside : run.first + run.hours ≤ n
  pub all-marked : (h : ℕ) → run.first ≤ h → h < run.first + run.hours → marks h ≡ true
  pub not-before : (h : ℕ) → suc h ≡ run.first → marks h ≡ false
  pub not_after : run.first + run.hours < n → marks (run.first + run.hours) ≡ false

-- Each run begins after an hour that is in none, so that no two overlap or touch; the first of them not before `from`
pub data Apart : ℕ → List Run → Type 0 where
  none : {from : ℕ} → Apart from []
  next : {from : ℕ} {run : Run} {more : List Run} → from ≤ run.first → Apart (suc (run.first + run.hours)) more → Apart from (run ∷ more)

-- One of these runs has the hour h
pub record HasHour (rs : List Run) (h : ℕ) : Type 0 where
  pub run : Run
  pub among : Memᴰ run rs
  pub from : run.first ≤ h
  pub to : h < run.first + run.hours
