-- Bytes written in front of others: what stands first is written last.
use mathlib.Core.Path.{◌≡◌, refl, sym, ap, ap₂, ◌∙◌}
use mathlib.Core.List.{List, ◌++◌, append_assoc}
use Prim.Native.Nat.{ℕ, ◌+◌, ◌≤◌}
use native.Mathlib.Nat.{add_assoc}
use native.Mathlib.Omega.{arith}
use lib.ListN.{length, take, drop, length-append}
use lib.Seq.{length-take-le, take-append-le, take-take, drop_at}
use Rattle.lent.specs.Placed.{placed}
use Rattle.lent.specs.Written.{Written}

placed-def : (list : List ℕ) (at : ℕ) (numbers : List ℕ) → placed list at numbers ≡ take at list ++ (numbers ++ drop (at + length numbers) list)
unfolding placed
placed-def list at numbers = refl

-- numbers put before others that were put already
pub placed-front : (list : List ℕ) (at : ℕ) (numbers later : List ℕ) → at + length (numbers ++ later) ≤ length list
    → placed (placed list (at + length numbers) later) at numbers ≡ placed list at (numbers ++ later)
placed-front list at numbers later room =
    placed-def (placed list (at + length numbers) later) at numbers
    ∙ ap₂ (λ (before after : List ℕ). before ++ (numbers ++ after)) front back
    ∙ ap (λ (l : List ℕ). take at list ++ l) (sym (append_assoc numbers later (drop (at + length numbers + length later) list)))
    ∙ ap (λ (n : ℕ). take at list ++ ((numbers ++ later) ++ drop n list)) (add_assoc at (length numbers) (length later) ∙ ap (λ (n : ℕ). at + n) (sym (length-append numbers later)))
    ∙ sym (placed-def list at (numbers ++ later))
  where
    first : length (take (at + length numbers) list) ≡ at + length numbers
    first = length-take-le (at + length numbers) list (omega (arith, length-append numbers later))

    front : take at (placed list (at + length numbers) later) ≡ take at list
    front =
        ap (take at) (placed-def list (at + length numbers) later)
        ∙ take-append-le at (take (at + length numbers) list) _ (omega (arith, first))
        ∙ take-take at (at + length numbers) list (omega arith)

    back : drop (at + length numbers) (placed list (at + length numbers) later) ≡ later ++ drop (at + length numbers + length later) list
    back = ap (drop (at + length numbers)) (placed-def list (at + length numbers) later) ∙ drop_at (take (at + length numbers) list) _ (at + length numbers) first

-- two writes, the second of which ends where the first began, wrote one list
pub written-front : {b : List ℕ} {at place : ℕ} {W middle : List ℕ} {next : ℕ} {U after : List ℕ} {end : ℕ}
    → Written b place W middle next → Written middle at U after end → place ≡ at + length U → at + length (U ++ W) ≤ length b → Written b at (U ++ W) after next
written-front {b} {at} {place} {W} {U = U} later front meet room =
    record {
      filled =
          front.filled ∙ ap (λ (c : List ℕ). placed c at U) (later.filled ∙ ap (λ (n : ℕ). placed b n W) meet)
          ∙ placed-front b at U W room;
      place = omega (arith, later.place, meet, length-append U W);
    }
