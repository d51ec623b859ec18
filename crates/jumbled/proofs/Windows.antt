-- A window's length and bytes; a window by its last byte, and by its first.
use mathlib.Core.Path.{◌≡◌, sym, ap, ◌∙◌}
use mathlib.Core.List.{List, [], ◌∷◌, ◌++◌}
use Prim.Native.Nat.{ℕ, zero, suc, ◌+◌, ◌-◌, ◌≤◌}
use native.Mathlib.Nat.{suc-sub-suc, sub-zero, zero-sub}
use native.Mathlib.Numerals.{add-one}
use native.Mathlib.Omega.{arith}
use lib.ListN.{length, get_or, take, drop, length-take, length-drop}
use lib.Seq.{take-nil, take-suc, take-take, drop-cons, get_or-drop}
use Rattle.jumbled.specs.Match.{Bytes, window, window_prefix}
use Rattle.jumbled.proofs.Counts.{bytes_take, bytes_drop}

-- a window as a part of the text from its start to its end
pub window-part : (m : ℕ) (T : List ℕ) (s : ℕ) → take (s + m - s) (drop s T) ≡ window m T s
window-part m T s = ap (λ (n : ℕ). take n (drop s T)) same
  where
    same : s + m - s ≡ m
    same = omega arith

pub window-whole : (m : ℕ) (T : List ℕ) (s : ℕ) → s + m ≤ length T → length (window m T s) ≡ m
window-whole m T s h = omega (arith, length-take m (drop s T), length-drop s T)

pub window_bytes : (m : ℕ) (T : List ℕ) (s : ℕ) → Bytes T → Bytes (window m T s)
window_bytes m T s h = bytes_take m (drop s T) (bytes_drop s T h)

-- the rest of a text's first bytes
pub drop-take : (U : List ℕ) (f t : ℕ) → drop f (take t U) ≡ take (t - f) (drop f U)
drop-take U zero t = ap (λ (n : ℕ). take n U) (sym (sub-zero t))
drop-take [] (suc f) t = ap (drop (suc f)) (take-nil t) ∙ sym (take-nil (t - suc f))
drop-take (b ∷ U) (suc f) zero = ap (λ (n : ℕ). take n (drop f U)) (sym (zero-sub (suc f)))
drop-take (b ∷ U) (suc f) (suc t) = drop-take U f t ∙ ap (λ (n : ℕ). take n (drop f U)) (sym (suc-sub-suc t f))

-- a window in the first n bytes is known by these
pub window-known : (m n s : ℕ) (T : List ℕ) → s + m ≤ n → window m T s ≡ window m (take n T) s
window-known m n s T h = sym (take-take m (n - s) (drop s T) (omega arith)) ∙ ap (take m) (sym (drop-take T s n))

module _ (m : ℕ) (T : List ℕ) (s : ℕ) (some : 1 ≤ m) (whole : s + m ≤ length T) where
  one_more : m ≡ suc (m - 1)
  one_more = omega arith

  pub window-last : window m T s ≡ window_prefix m T s ++ (get_or T (s + m - 1) 0 ∷ [])
  window-last =
      ap (λ (n : ℕ). take n (drop s T)) one_more
      ∙ take-suc (drop s T) (m - 1) 0 (omega (arith, length-drop s T))
      ∙ ap (λ (b : ℕ). window_prefix m T s ++ (b ∷ [])) (get_or-drop s T (m - 1) 0 ∙ ap (λ (i : ℕ). get_or T i 0) same)
    where
      same : s + (m - 1) ≡ s + m - 1
      same = omega arith

  pub window-first : window m T s ≡ get_or T s 0 ∷ window_prefix m T (s + 1)
  window-first =
      ap (λ (n : ℕ). take n (drop s T)) one_more
      ∙ ap (take (suc (m - 1))) (drop-cons T s 0 (omega arith))
      ∙ ap (λ (n : ℕ). get_or T s 0 ∷ take (m - 1) (drop n T)) (sym (add-one s))
