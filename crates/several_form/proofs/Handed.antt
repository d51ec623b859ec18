-- The patterns by their lengths.
use mathlib.Core.Path.{◌≡◌, refl, sym, ap, ap₂, ◌∙◌}
use mathlib.Core.List.{List, [], ◌∷◌}
use Prim.Native.Nat.{ℕ, zero, suc, ◌+◌, ◌-◌, ◌*◌, ◌≤◌, ◌<◌}
use native.Mathlib.Nat.{suc-mul, zero-mul, mul-le-mul_right}
use native.Mathlib.Omega.{arith}
use lib.ListN.{length, get_or, take, drop, length-take, length-drop, take-append-drop}
use lib.Seq.{drop-drop}
use Rattle.jumbled.specs.Match.{cc}
use Rattle.jumbled.specs.Refusals.{total}
use Rattle.jumbled.proofs.Counts.{cc-nil, cc-append, cc-take, cc-drop, cc-length}
use Rattle.jumbled.proofs.Selections.{Alike, first_alike}
use Rattle.several_form.specs.Finds.{Together}
use Rattle.several_form.specs.Handed.{patterns_of}

module _ (m : ℕ) where
  -- the pattern in each place
  pub pattern-at : (lengths bytes : List ℕ) → Alike m lengths → (f : ℕ) → f < length lengths → get_or (patterns_of lengths bytes) f [] ≡ take m (drop (f * m) bytes)
  unfolding patterns_of
  pattern-at [] bytes e f h = absurd (omega arith)
  pattern-at (x ∷ lengths) bytes e zero h = ap₂ (λ (n i : ℕ). take n (drop i bytes)) (first_alike m x lengths e).0 (sym (zero-mul m))
  pattern-at (x ∷ lengths) bytes e (suc f) h =
      let both = first_alike m x lengths e in
      let next : x + f * m ≡ suc f * m = omega (arith, both.0, suc-mul f m) in
      pattern-at lengths (drop x bytes) both.1 f (omega arith)
      ∙ ap (take m) (drop-drop (f * m) x bytes)
      ∙ ap (λ (n : ℕ). take m (drop n bytes)) next

pub as-many-patterns : (lengths bytes : List ℕ) → length (patterns_of lengths bytes) ≡ length lengths
unfolding patterns_of
as-many-patterns [] bytes = refl
as-many-patterns (m ∷ lengths) bytes = ap suc (as-many-patterns lengths (drop m bytes))

-- A byte that the bytes lack, each pattern lacks, and where the lengths take up all bytes, a byte that each pattern lacks, they lack
pub none-in-each : (lengths bytes : List ℕ) (c : ℕ) → cc bytes c ≡ 0 → (f : ℕ) → cc (get_or (patterns_of lengths bytes) f []) c ≡ 0
unfolding patterns_of
none-in-each [] bytes c none f = cc-nil c
none-in-each (m ∷ lengths) bytes c none zero = omega (arith, cc-take m bytes c)
none-in-each (m ∷ lengths) bytes c none (suc f) = none-in-each lengths (drop m bytes) c (omega (arith, cc-drop m bytes c)) f

pub none-in-all : (lengths bytes : List ℕ) (c : ℕ) → total lengths ≡ length bytes → ((f : ℕ) → f < length lengths → cc (get_or (patterns_of lengths bytes) f []) c ≡ 0)
    → cc bytes c ≡ 0
unfolding patterns_of total
none-in-all [] bytes c all none = omega (arith, cc-length bytes c)
none-in-all (m ∷ lengths) bytes c all none =
    let rest : cc (drop m bytes) c ≡ 0 = none-in-all lengths (drop m bytes) c (omega (arith, length-drop m bytes)) (λ f l. none (suc f) (omega arith)) in
    let first : cc (take m bytes) c ≡ 0 = none 0 (omega arith) in
    omega (arith, cc-append (take m bytes) (drop m bytes) c, ap (λ (l : List ℕ). cc l c) (take-append-drop m bytes))

-- Lengths that are all m, 1 to 64, and together as many bytes as there are: the patterns are searched together
pub together : (m : ℕ) (lengths bytes : List ℕ) → 1 ≤ m → m ≤ 64 → 1 ≤ length lengths → Alike m lengths → length lengths * m ≡ length bytes
    → Together (patterns_of lengths bytes) m
together m lengths bytes some short some_pattern alike all =
    record {
      some_pattern = rw (as-many-patterns lengths bytes) some_pattern;
      some = some;
      short = short;
      one-length = λ number from to. whole (number - 1) (omega (arith, as-many-patterns lengths bytes));
    }
  where
    whole : (f : ℕ) → f < length lengths → length (get_or (patterns_of lengths bytes) f []) ≡ m
    whole f l =
        let ends : suc f * m ≤ length lengths * m = mul-le-mul_right m l in
        ap length (pattern-at m lengths bytes alike f l)
        ∙ omega (arith, length-take m (drop (f * m) bytes), length-drop (f * m) bytes, suc-mul f m)
