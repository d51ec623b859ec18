-- A loop that fills places from the front, each with what a definition says of it.
use borrow.Author.Tests.{eq-eqb, ne_eqb}
use mathlib.Core.Path.{◌≡◌, refl, sym, ap₂, ◌∙◌}
use mathlib.Core.List.{List, [], ◌∷◌, ◌++◌}
use Prim.Native.Nat.{ℕ, zero, suc, ◌+◌, ◌*◌, ◌%◌, ◌^◌, ◌≤◌, ◌<◌}
use native.Mathlib.Numerals.{add-one}
use native.Mathlib.Omega.{arith}
use lib.ListN.{length, get_or, take, drop, set, length-set, length-append}
use lib.Seq.{length-take-le, take_at, take_all, get_or-take}
use Rattle.table_parikh.specs.Table.{tabulate}
use Rattle.table_parikh.proofs.Tables.{tabulated}
use Rattle.lent.specs.Placed.{placed}
use Rattle.lent.specs.Written.{Written}
use Rattle.lent.proofs.Writing.{written_none, written-more}
use Rattle.tests_stream.specs.Fillings.{Filled, drawn, made_length}

-- the first i places, of n to be filled, hold what f says, and the others are as before
pub record Filling (f : ℕ → ℕ) (n : ℕ) (before places : List ℕ) (i : ℕ) : Type 0 where
  pub kept : length places ≡ length before
  pub passed : i ≤ n
  pub written : Written before 0 (tabulate i f) places i

pub filling-none : (f : ℕ → ℕ) (n : ℕ) (before : List ℕ) → Filling f n before before 0
unfolding tabulate
filling-none f n before = record { kept = refl; passed = omega arith; written = written_none before 0 }

one_more : (f : ℕ → ℕ) (i : ℕ) {v : ℕ} → v ≡ f i → tabulate i f ++ (v ∷ []) ≡ tabulate (i + 1) f
unfolding tabulate
one_more f i e = rw (add-one, e)

module _ {f : ℕ → ℕ} {n : ℕ} {before places : List ℕ} {i : ℕ} (filling : Filling f n before places i) (room : n ≤ length before) where
  pub filling-more : {v : ℕ} → i < n → v ≡ f i → Filling f n before (set places i v) (i + 1)
  filling-more {v} inside e =
      record {
        kept = length-set places i v ∙ filling.kept;
        passed = omega arith;
        written = rw (one_more f i e) at (written-more filling.written (omega arith) v);
      }

  pub filling-all : n ≤ i → Filled f n before places
  filling-all all =
      let end : i ≡ n = omega arith in
      let there : n ≤ length places = omega arith in
      record { within = (there, sym (length-take-le n places there)); written = rw end at filling.written }

-- the part that is filled
pub written-part : {before U after : List ℕ} {n : ℕ} → Written before 0 U after n → take n after ≡ U
unfolding placed
written-part {before} {U} {n = n} w = rw w.filled (take_at U (drop (0 + length U) before) n (omega (arith, w.place)))

-- The first n places as a part of their own, of which i are filled
module _ {f : ℕ → ℕ} (n : ℕ) (before : List ℕ) {part : List ℕ} {i : ℕ} (filling : Filling f n (take n before) part i) (room : n ≤ length before) where
  as_many : length (take n before) ≡ n
  as_many = length-take-le n before room

  pub filling-part : {v : ℕ} → i < length (take n before) → v ≡ f i → Filling f n (take n before) (set part i v) (i + 1)
  filling-part inside e = filling-more filling (omega (arith, as_many)) (omega (arith, as_many)) e

  pub filled-front : length (take n before) ≤ i → Filled f n before (part ++ drop n before)
  unfolding placed
  filled-front all =
      let whole = filling-all filling (omega (arith, as_many)) (omega (arith, as_many)) in
      let is : part ≡ tabulate n f = sym (take_all n part (omega (arith, as_many, filling.kept))) ∙ written-part whole.written in
      let there : n ≤ length (part ++ drop n before) = omega (arith, length-append part (drop n before), as_many, filling.kept) in
      record {
        within = (there, sym (length-take-le n (part ++ drop n before) there));
        written =
            record {
              filled = ap₂ (λ (U : List ℕ) (k : ℕ). U ++ drop k before) is whole.written.place;
              place = whole.written.place;
            };
      }

-- nothing is filled
pub filled-empty : (f : ℕ → ℕ) (places : List ℕ) → Filled f 0 places places
unfolding tabulate
filled-empty f places = record { within = (omega arith, omega arith); written = written_none places 0 }

pub filled-part : {f : ℕ → ℕ} {n : ℕ} {before after : List ℕ} → Filled f n before after → take n after ≡ tabulate n f
filled-part filled = written-part filled.written

-- a place of it
pub filled-held : {f : ℕ → ℕ} {n : ℕ} {before after : List ℕ} → Filled f n before after → (i : ℕ) → i < n → get_or after i 0 ≡ f i
filled-held {f} {n} {after = after} filled i inside =
    sym (get_or-take n after i 0 inside) ∙ tabulated n f (filled-part filled) i inside

-- how much is filled
pub made_none : (letters : List ℕ) (len : ℕ) → length letters ≡ 0 → 0 ≡ made_length letters len
unfolding made_length
made_none letters len none = rw (eq-eqb (length letters) 0 none)

pub made_all : (letters : List ℕ) (len : ℕ) → (length letters ≡ 0 → ⊥) → len ≡ made_length letters len
unfolding made_length
made_all letters len some = rw (ne_eqb (length letters) 0 some)

-- ---- numbers drawn from a seed

pub drawn-small : (seed i : ℕ) → drawn seed i < 2 ^ 31
unfolding drawn
drawn-small seed zero = omega arith
drawn-small seed (suc i) = omega arith

pub drawn-more : {x : ℕ} (seed i : ℕ) → x ≡ drawn seed i → (x * 1103515245 + 12345) % 2 ^ 31 ≡ drawn seed (suc i)
unfolding drawn
drawn-more seed i e = rw e
