-- A search of a tail followed by a chunk that ends where its list is full: all windows that start in the tail, and of the chunk's as many as the places
-- that are left allow.
use mathlib.Core.Path.{◌≡◌, refl, sym, ap, subst, ◌∙◌}
use mathlib.Core.List.{List, [], ◌∷◌, ◌++◌, map}
use mathlib.Core.Logic.{⊎_elim}
use Prim.Native.Nat.{ℕ, ◌+◌, ◌-◌, ◌≤◌, ◌<◌}
use native.Mathlib.Nat.{add-zero, zero-add, le_refl}
use native.Mathlib.Omega.{arith}
use lib.ListN.{length}
use Rattle.jumbled.specs.Match.{starts}
use Rattle.jumbled.specs.Scan.{Result, Way, driven, driven_into, through}
use Rattle.jumbled.proofs.Sums.{below_or_not}
use Rattle.jumbled.proofs.Cuts.{◌then◌, moved, Within, within_count, within-moved, driven-within, through-between, through-cut, through-moved}

no-numbers : (l : List ℕ) → length l ≤ 0 → l ≡ []
no-numbers [] h = refl
no-numbers (x ∷ l) h = absurd (omega arith)

-- The way goes over the a window starts of the tail, of t bytes, which yield `one`, and then over some of the chunk's b: these yield `rest`
module _ (w : Way) (m : ℕ) (T : List ℕ) (one : Result) (rest : ℕ → Result) (t a b : ℕ) (all : a + b ≡ starts m T) (full : 0 < b → a ≡ t)
    (cut : (n : ℕ) → n ≤ b → 0 < a + n → driven w m T 0 (a + n) ≡ one then moved t (rest n))
    (few : Within 0 a one.occurrences) (few-more : Within 0 b (rest b).occurrences) where
  -- where there is a window start in the chunk, the tail has a of them
  same : map (λ p. t + p) (rest b).occurrences ≡ map (λ p. a + p) (rest b).occurrences
  same =
      ⊎_elim (λ (some : 0 < b). ap (λ (n : ℕ). map (λ p. n + p) (rest b).occurrences) (sym (full some)))
      (λ (none : b ≤ 0).
      let empty = no-numbers (rest b).occurrences (omega (arith, within_count few-more)) in
      rw empty refl) (below_or_not 0 b)

  -- as many windows as there are places for
  through-both : (places : ℕ) → a ≤ places
      → through places 0 (a + b) (one.occurrences ++ map (λ p. t + p) (rest b).occurrences)
      ≡ a + through (places - length one.occurrences) 0 b (rest b).occurrences
  through-both places room =
      ap (λ (l : List ℕ). through places 0 (a + b) (one.occurrences ++ l)) same
      ∙ through-cut few (subst (λ (s : ℕ). Within s b (map (λ p. a + p) (rest b).occurrences)) (add-zero a ∙ sym (zero-add a)) (within-moved a few-more)) places room
      ∙ ap (λ (s : ℕ). a + through (places - length one.occurrences) s b (map (λ p. a + p) (rest b).occurrences)) (zero-add a ∙ sym (add-zero a))
      ∙ ap (λ (n : ℕ). a + n) (through-moved a (places - length one.occurrences) 0 b (rest b).occurrences)

  pub into-joined : (places : ℕ) → 0 < places → 0 < a + b → a ≤ places
      → driven_into places w m T ≡ one then moved t (rest (through (places - length one.occurrences) 0 b (rest b).occurrences))
  into-joined places some any room =
      ap (λ (n : ℕ). driven w m T 0 (through places 0 n (driven w m T 0 n).occurrences)) (sym all)
      ∙ ap (driven w m T 0) counted
      ∙ cut (through (places - length one.occurrences) 0 b (rest b).occurrences) (through-between few-more (places - length one.occurrences)).1
      (omega (arith, counted, (through-between (driven-within w m T 0 (a + b)) places).0))
    where
      counted : through places 0 (a + b) (driven w m T 0 (a + b)).occurrences ≡ a + through (places - length one.occurrences) 0 b (rest b).occurrences
      counted = ap (λ (r : Result). through places 0 (a + b) r.occurrences) (cut b (le_refl b) any) ∙ through-both places room
