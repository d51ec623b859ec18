-- How what is found grows in the two lists, one find after the other and one window after the other.
use mathlib.Core.Path.{◌≡◌, refl, sym, ap, ap₂, ◌∙◌}
use mathlib.Core.Bool.{Bool, true, false, cond, not}
use mathlib.Core.List.{List, [], ◌∷◌, ◌++◌, append-nil}
use Prim.Native.Nat.{ℕ, ◌+◌, ◌-◌, ◌*◌, ◌%◌, ◌^◌, ◌≤◌, ◌<◌}
use native.Mathlib.Nat.{add-zero}
use native.Mathlib.Omega.{arith}
use lib.Bits.{bit_and}
use lib.Dec.{eqb, lit<}
use lib.ListN.{length, set, length-append}
use lib.Pow.{shl_exact}
use borrow.Author.Tests.{eq-eqb, ne_eqb}
use Rattle.jumbled.specs.Match.{select}
use Rattle.jumbled.proofs.Selections.{select-cut, select-few}
use Rattle.lent.specs.Placed.{placed}
use Rattle.lent.proofs.Placing.{placed-nil, placed-next, placed-placed, length-placed}
use Rattle.several_form.specs.Finds.{Find, part_in, beside}
use Rattle.several_form.specs.Mcount.{top_value}
use Rattle.several_form.proofs.Separate.{part-append, length_part}
use Rattle.several_pass.specs.Passing.{Noted, tops_set}

-- ---- one part of the finds, in one list

module _ (part : Find → ℕ) where
  module _ (F : List Find) (at : ℕ) (list : List ℕ) {list' : List ℕ} (filled : list' ≡ placed list at (part_in part F)) where
    -- it keeps its length,
    filled-length : at + length F ≤ length list → length list' ≡ length list
    filled-length room = ap length filled ∙ length-placed list at (part_in part F) (omega (arith, length_part part F))

    module _ {next : ℕ} (place : next ≡ at + length F) where
      next-is : next ≡ at + length (part_in part F)
      next-is = place ∙ ap (λ (n : ℕ). at + n) (sym (length_part part F))

      -- takes one find more,
      filled-one : (f : Find) → at + length F < length list → set list' next (part f) ≡ placed list at (part_in part (F ++ (f ∷ [])))
      unfolding part_in
      filled-one f room =
          ap₂ (λ (l : List ℕ) (i : ℕ). set l i (part f)) filled next-is
          ∙ placed-next list at (part_in part F) (part f) (omega (arith, length_part part F))
          ∙ ap (placed list at) (sym (part-append part F (f ∷ [])))

      -- and more of them
      filled_more : {list'' : List ℕ} (G : List Find) → at + length F ≤ length list → list'' ≡ placed list' next (part_in part G)
          → list'' ≡ placed list at (part_in part (F ++ G))
      filled_more G room later =
          later
          ∙ ap₂ (λ (l : List ℕ) (i : ℕ). placed l i (part_in part G)) filled next-is
          ∙ placed-placed list at (part_in part F) (omega (arith, length_part part F)) (part_in part G)
          ∙ ap (placed list at) (sym (part-append part F G))

-- ---- both lists

pub noted-none : (at : ℕ) (positions numbers : List ℕ) → Noted [] at positions positions numbers numbers at
unfolding part_in
noted-none at positions numbers =
    record {
      positions-filled = sym (placed-nil positions at);
      numbers-filled = sym (placed-nil numbers at);
      next_place = sym (add-zero at);
    }

module _ {F : List Find} {at : ℕ} {positions positions' numbers numbers' : List ℕ} {next : ℕ} (so_far : Noted F at positions positions' numbers numbers' next) where
  pub noted-lengths : at + length F ≤ length positions → at + length F ≤ length numbers → (length positions' ≡ length positions) × (length numbers' ≡ length numbers)
  noted-lengths room room' =
      (filled-length (λ f. f.position) F at positions so_far.positions-filled room, filled-length (λ f. f.number) F at numbers so_far.numbers-filled room')

  -- one find more
  pub noted_one : (f : Find) → at + length F < length positions → at + length F < length numbers
      → Noted (F ++ (f ∷ [])) at positions (set positions' next f.position) numbers (set numbers' next f.number) (next + 1)
  noted_one f room room' =
      record {
        positions-filled = filled-one (λ f. f.position) F at positions so_far.positions-filled so_far.next_place f room;
        numbers-filled = filled-one (λ f. f.number) F at numbers so_far.numbers-filled so_far.next_place f room';
        next_place = omega (arith, so_far.next_place, length-append F (f ∷ []));
      }

  -- more of them after these
  pub noted_more : {G : List Find} {positions'' numbers'' : List ℕ} {end : ℕ} → at + length F ≤ length positions → at + length F ≤ length numbers
      → Noted G next positions' positions'' numbers' numbers'' end → Noted (F ++ G) at positions positions'' numbers numbers'' end
  noted_more {G} room room' later =
      record {
        positions-filled = filled_more (λ f. f.position) F at positions so_far.positions-filled so_far.next_place G room later.positions-filled;
        numbers-filled = filled_more (λ f. f.number) F at numbers so_far.numbers-filled so_far.next_place G room' later.numbers-filled;
        next_place = omega (arith, later.next_place, so_far.next_place, length-append F G);
      }

-- ---- one window: the fields whose top bit is set, one after the other

beside-append : (s : ℕ) (A B : List ℕ) → beside s (A ++ B) ≡ beside s A ++ beside s B
unfolding beside
beside-append s [] B = refl
beside-append s (a ∷ A) B = ap (λ (l : List Find). record { position = s; number = a } ∷ l) (beside-append s A B)

-- the mask of one field's top bit, as the code has it
abbrev pub mask : ℕ → ℕ
mask field = (128 * 2 ^ (8 * field)) % 2 ^ 64

mask_is : (field : ℕ) → field < 8 → mask field ≡ top_value * 2 ^ (8 * (field + 1 - 1))
mask_is field l =
    let same : field + 1 - 1 ≡ field = omega arith in
    shl_exact {a = 128} 8 (8 * field) 64 (lit< tt) (omega arith) ∙ ap (λ (f : ℕ). top_value * 2 ^ (8 * f)) (sym same)

pub few-set : (word count : ℕ) → length (tops_set word count) ≤ count
unfolding tops_set
few-set word count = select-few _ 1 count

module _ (word field : ℕ) (small : field < 8) where
  is_set : (t : Bool) → eqb (bit_and word (mask field)) 0 ≡ t → tops_set word (field + 1) ≡ tops_set word field ++ cond t [] ((field + 1) ∷ [])
  unfolding tops_set select
  is_set t e =
      select-cut _ 1 field 1
      ∙ ap (λ (n : ℕ). select test 1 field ++ select test n 1) first
      ∙ ap (λ (u : Bool). select test 1 field ++ cond (not u) ((field + 1) ∷ []) [])
      (ap (λ (m : ℕ). eqb (bit_and word m) 0) (sym (mask_is field small)) ∙ e)
      ∙ case t
    where
      test : ℕ → Bool
      test number = not (eqb (bit_and word (top_value * 2 ^ (8 * (number - 1)))) 0)

      first : 1 + field ≡ field + 1
      first = omega arith

      case : (t : Bool) → select test 1 field ++ cond (not t) ((field + 1) ∷ []) [] ≡ select test 1 field ++ cond t [] ((field + 1) ∷ [])
      case true = refl
      case false = refl

  pub set_more : (s : ℕ) → (bit_and word (mask field) ≡ 0 → ⊥)
      → beside s (tops_set word (field + 1)) ≡ beside s (tops_set word field) ++ (record { position = s; number = field + 1 } ∷ [])
  unfolding beside
  set_more s e = ap (beside s) (is_set false (ne_eqb (bit_and word (mask field)) 0 e)) ∙ beside-append s (tops_set word field) ((field + 1) ∷ [])

  pub set_same : (s : ℕ) → bit_and word (mask field) ≡ 0 → beside s (tops_set word (field + 1)) ≡ beside s (tops_set word field)
  set_same s e = ap (beside s) (is_set true (eq-eqb (bit_and word (mask field)) 0 e) ∙ append-nil (tops_set word field))
