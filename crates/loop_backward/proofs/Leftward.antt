-- A window of a text while it is read from its right end, by the position p that the reading has come to.
use mathlib.Core.Path.{◌≡◌, ap, ◌∙◌}
use mathlib.Core.List.{List, [], ◌∷◌}
use Prim.Native.Nat.{ℕ, suc, ◌+◌, ◌-◌, ◌≤◌, ◌<◌}
use native.Mathlib.Omega.{arith}
use lib.ListN.{length, get_or, drop, drop_of_length-le}
use lib.Seq.{drop-cons, get_or-take, get_or-drop}
use Rattle.jumbled.specs.Match.{window}
use Rattle.jumbled.proofs.Windows.{window-whole}

-- The part from p on of the window at s
abbrev pub read_from : ℕ → List ℕ → ℕ → ℕ → List ℕ
read_from m T s p = drop (p - s) (window m T s)

window-at : (m : ℕ) (T : List ℕ) (s d : ℕ) → d < m → get_or (window m T s) d 0 ≡ get_or T (s + d) 0
window-at m T s d h = get_or-take m (drop s T) d 0 h ∙ get_or-drop s T d 0

module _ (m : ℕ) (T : List ℕ) (s : ℕ) (whole : s + m ≤ length T) where
  -- nothing of it is read yet
  pub read_none : read_from m T s (s + m) ≡ []
  read_none = drop_of_length-le (window m T s) {i = s + m - s} (omega (arith, window-whole m T s whole))

  -- the byte before p
  module _ (p : ℕ) (more : s < p) (upto : p ≤ s + m) where
    pub left-more : p - s ≡ suc (p - 1 - s)
    left-more = omega arith

    pub in_window : p - 1 - s < length (window m T s)
    in_window = omega (arith, window-whole m T s whole)

    pub byte-is : get_or (window m T s) (p - 1 - s) 0 ≡ get_or T (p - 1) 0
    byte-is =
        let place : s + (p - 1 - s) ≡ p - 1 = omega arith in
        window-at m T s (p - 1 - s) (omega arith) ∙ ap (λ (i : ℕ). get_or T i 0) place

    pub read_more : read_from m T s (p - 1) ≡ get_or T (p - 1) 0 ∷ read_from m T s p
    read_more = rw (left-more, ← byte-is) (drop-cons (window m T s) (p - 1 - s) 0 in_window)
