-- Bytes put into an array of zeros, and the last bytes of a tail followed by a chunk.
use mathlib.Core.Path.{◌≡◌, sym, ap, ◌∙◌}
use mathlib.Core.List.{List, ◌++◌}
use Prim.Native.Nat.{ℕ, zero, suc, ◌+◌, ◌-◌, ◌≤◌, ◌<◌}
use native.Mathlib.Nat.{zero-add, sub-zero, suc-sub-suc, zero-sub}
use native.Mathlib.Omega.{arith}
use lib.ListN.{length, take, drop, replicate, length-append, length-drop}
use lib.Seq.{drop-append-add, drop-append-le, take_all}
use Rattle.lent.specs.Placed.{placed}
use Rattle.search_state.specs.Stored.{padded, last_of}

drop-replicate : (j n v : ℕ) → drop j (replicate n v) ≡ replicate (n - j) v
drop-replicate zero n v = ap (λ (k : ℕ). replicate k v) (sym (sub-zero n))
drop-replicate (suc j) zero v = ap (λ (k : ℕ). replicate k v) (sym (zero-sub (suc j)))
drop-replicate (suc j) (suc n) v = drop-replicate j n v ∙ ap (λ (k : ℕ). replicate k v) (sym (suc-sub-suc n j))

-- bytes put into zeros from the first place on
pub placed-zeros : (n : ℕ) (U : List ℕ) → placed (replicate n 0) 0 U ≡ padded n U
unfolding placed
placed-zeros n U = ap (λ (l : List ℕ). U ++ l) (ap (λ (k : ℕ). drop k (replicate n 0)) (zero-add (length U)) ∙ drop-replicate (length U) n 0)

-- a part up to the end
pub part-all : (n j : ℕ) (U : List ℕ) → n ≡ length U - j → take n (drop j U) ≡ drop j U
part-all n j U e = take_all n (drop j U) (omega (arith, length-drop j U))

module _ (tail chunk : List ℕ) (keep : ℕ) where
  -- all of them lie in the chunk
  pub last-chunk : keep ≤ length chunk → last_of keep (tail ++ chunk) ≡ drop (length chunk - keep) chunk
  last-chunk h =
      let from : length (tail ++ chunk) - keep ≡ length tail + (length chunk - keep) = omega (arith, length-append tail chunk) in
      ap (λ (n : ℕ). drop n (tail ++ chunk)) from ∙ drop-append-add tail chunk (length chunk - keep)

  -- or the chunk is among them
  pub last-both : length chunk < keep → keep ≤ length tail + length chunk
      → last_of keep (tail ++ chunk) ≡ drop (length tail + length chunk - keep) tail ++ chunk
  last-both h g =
      let from : length (tail ++ chunk) - keep ≡ length tail + length chunk - keep = omega (arith, length-append tail chunk) in
      ap (λ (n : ℕ). drop n (tail ++ chunk)) from ∙ drop-append-le (length tail + length chunk - keep) tail chunk (omega arith)
