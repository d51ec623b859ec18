-- How method 1 judges a window by its excess.
use mathlib.Core.Path.{◌≡◌, refl}
use mathlib.Core.Bool.{true, false}
use mathlib.Core.List.{List}
use Prim.Native.Nat.{ℕ, ◌≤◌, ◌<◌}
use native.Mathlib.Omega.{arith}
use borrow.Author.Tests.{le-leb, lt-leb}
use Rattle.jumbled.specs.Match.{excess, matches}
use Rattle.jumbled.specs.Steps.{count_judged}
use Rattle.loop_count.specs.Counting.{Counting}

module _ {P W counts : List ℕ} {window_excess : ℕ} (state : Counting P W counts window_excess) {k : ℕ} where
  pub judged-right : window_excess ≤ k → (count_judged P k W).listed ≡ true
  unfolding count_judged matches
  judged-right h = le-leb (excess P W) k (omega (arith, state.exceeding))

  pub judged-wrong : k < window_excess → (count_judged P k W).listed ≡ false
  unfolding count_judged matches
  judged-wrong h = lt-leb (excess P W) k (omega (arith, state.exceeding))

pub judged-unverified : (P : List ℕ) (k : ℕ) (W : List ℕ) → (count_judged P k W).verification ≡ 0
unfolding count_judged
judged-unverified P k W = refl
