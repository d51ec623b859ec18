-- Laws of what a writer yields: nothing, two writes in a row, one byte more, a part written as a whole, and the buffer's length.
use mathlib.Core.Path.{◌≡◌, sym, ap, ap₂, ◌∙◌}
use mathlib.Core.List.{List, [], ◌∷◌, ◌++◌}
use borrow.Rule.Slice.PartMut.{put_mid}
use Prim.Native.Nat.{ℕ, ◌+◌, ◌-◌, ◌≤◌, ◌<◌}
use native.Mathlib.Nat.{add-zero}
use native.Mathlib.Omega.{arith}
use lib.ListN.{length, take, drop, set, length-append}
use lib.Seq.{drop-drop}
use Rattle.lent.specs.Placed.{placed}
use Rattle.lent.proofs.Placing.{placed-nil, length-placed, placed-placed, placed-next}
use Rattle.lent.specs.Written.{Written}

pub written_none : (b : List ℕ) (at : ℕ) → Written b at [] b at
written_none b at = record { filled = sym (placed-nil b at); place = sym (add-zero at) }

pub written-length : {b : List ℕ} {at : ℕ} {U after : List ℕ} {next : ℕ}
    → Written b at U after next → at + length U ≤ length b → length after ≡ length b
written-length {b} {at} {U} w room = ap length w.filled ∙ length-placed b at U room

pub written_then : {b : List ℕ} {at : ℕ} {U middle : List ℕ} {place : ℕ} {W after : List ℕ} {next : ℕ}
    → Written b at U middle place → Written middle place W after next → at + length U ≤ length b → Written b at (U ++ W) after next
written_then {b} {at} {U} {W = W} first second room =
    record {
      filled =
          second.filled ∙ ap₂ (λ (c : List ℕ) (n : ℕ). placed c n W) first.filled first.place
          ∙ placed-placed b at U room W;
      place = omega (arith, first.place, second.place, length-append U W);
    }

-- where two lists fit, the first does
pub first_fits : (at : ℕ) (U W : List ℕ) {n : ℕ} → at + length (U ++ W) ≤ n → at + length U ≤ n
first_fits at U W room = omega (arith, length-append U W)

-- and the second does after the first
pub second_fits : {b : List ℕ} {at : ℕ} {U middle : List ℕ} {place : ℕ} (W : List ℕ)
    → Written b at U middle place → at + length (U ++ W) ≤ length b → place + length W ≤ length middle
second_fits {at = at} {U} W w room =
    omega (arith, w.place, length-append U W, written-length w (first_fits at U W room))

-- ---- one byte more

pub written-more : {b : List ℕ} {at : ℕ} {U middle : List ℕ} {place : ℕ} → Written b at U middle place → at + length U < length b → (v : ℕ)
    → Written b at (U ++ (v ∷ [])) (set middle place v) (place + 1)
written-more {b} {at} {U} w room v =
    record {
      filled = ap₂ (λ (c : List ℕ) (n : ℕ). set c n v) w.filled w.place ∙ placed-next b at U v room;
      place = omega (arith, w.place, length-append U (v ∷ []));
    }

-- a byte alone is one more than none
pub written_byte : (b : List ℕ) (at v : ℕ) → at < length b → Written b at (v ∷ []) (set b at v) (at + 1)
written_byte b at v room = written-more (written_none b at) (omega arith) v

-- a part of the buffer overwritten as a whole
pub written_part : (b : List ℕ) (at next : ℕ) {U part : List ℕ} → part ≡ U → next ≡ at + length U → Written b at U (put_mid at (next - at) b part) next
unfolding placed
written_part b at next {U} {part} is place =
    record {
      filled = ap₂ (λ (bytes rest : List ℕ). take at b ++ (bytes ++ rest)) is (drop-drop (next - at) at b ∙ ap (λ (n : ℕ). drop n b) (omega arith));
      place = place;
    }
