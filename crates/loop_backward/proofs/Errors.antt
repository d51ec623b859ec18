-- The errors that method 4 counts while it reads a window.
use mathlib.Core.Path.{◌≡◌, refl, sym, ap, ◌∙◌}
use mathlib.Core.Bool.{Bool, true, false, cond, not}
use mathlib.Core.List.{List, [], ◌∷◌}
use Prim.Native.Nat.{ℕ, ◌+◌, ◌-◌, ◌≤◌, ◌<◌}
use native.Mathlib.Omega.{arith}
use lib.Bits.{bit_and}
use lib.Dec.{eqb}
use lib.ListN.{length, get_or, drop, length-take, length-drop}
use borrow.Author.Tests.{eq-eqb, ne_eqb, not-true, not-false}
use Rattle.jumbled.specs.Match.{bit, lost, window}
use Rattle.jumbled.proofs.Counts.{bit_le}
use Rattle.jumbled.specs.Fields.{Layout, own_top_set, errors as errors_of}
use Rattle.table_parikh.proofs.Tables.{get_d_tabulate}
use Rattle.table_packed.specs.Word.{tested, OwnTops}
use Rattle.table_packed.specs.declared.Word.{Word}
use Rattle.table_packed.proofs.Values.{word-own-top}
use Rattle.lent.specs.declared.Range.{Range}
use Rattle.loop_backward.proofs.Reading.{Method}
use Rattle.loop_backward.proofs.Leftward.{read_from, read_none, read_more}
use Rattle.loop_backward.proofs.Scanning.{Window, Inner, Taken, window-upto, inner_first, inner-fitting}

-- The window at s₀ is read down to p, with as many errors as the steps count
pub record ErrorsCounted (P : List ℕ) (M : Method) (T : List ℕ) (s₀ inspections₀ s inspections word errors p : ℕ) : Type 0 where
  pub inner : Inner P M T s₀ inspections₀ s inspections word p
  pub counted : errors ≡ errors_of P M.layout (read_from (length P) T s₀ p)

-- one a byte at most
errors-most : (P : List ℕ) (layout : Layout) (R : List ℕ) → errors_of P layout R ≤ length R
unfolding errors_of
errors-most P layout [] = omega arith
errors-most P layout (b ∷ R) = omega (arith, errors-most P layout R, at_most (lost b))
  where
    at_most : (t : Bool) → cond t 0 (bit (own_top_set P layout (b ∷ R) b)) ≤ 1
    at_most true = omega arith
    at_most false = bit_le (own_top_set P layout (b ∷ R) b)

as-bit : (t own : Bool) → cond t 0 (bit own) ≡ bit (cond t false own)
as-bit true own = refl
as-bit false own = refl

pub counting-few : {P : List ℕ} {M : Method} {T : List ℕ} {s₀ inspections₀ s inspections word errors p : ℕ} → ErrorsCounted P M T s₀ inspections₀ s inspections word errors p → errors ≤ length P
counting-few {P} {M} {T} {s₀} {p = p} c =
    omega (
      arith,
      c.counted,
      errors-most P M.layout (read_from (length P) T s₀ p),
      length-drop (p - s₀) (window (length P) T s₀),
      length-take (length P) (drop s₀ T),
    )

-- none before the first byte
pub counting-first : {P : List ℕ} {M : Method} {packing : Word} {units T : List ℕ} {range : Range} {before : List ℕ} {s₀ at inspections₀ : ℕ} {after : List ℕ}
    → Window P M packing units T range before s₀ at inspections₀ after → ErrorsCounted P M T s₀ inspections₀ s₀ inspections₀ packing.start 0 (s₀ + length P)
unfolding errors_of
counting-first {P} {M} {T = T} {s₀ = s₀} w =
    record { inner = inner_first w; counted = sym (ap (errors_of P M.layout) (read_none (length P) T s₀ (window-upto w))) }

module _ {P : List ℕ} {M : Method} {packing : Word} {units T : List ℕ} {range : Range} {before : List ℕ} {s₀ at inspections₀ : ℕ} {after : List ℕ}
    (w : Window P M packing units T range before s₀ at inspections₀ after) {tops : List ℕ} (own-tops : OwnTops P M.layout tops) {s inspections word p next_word next-inspections : ℕ} (inner : Inner P M T s₀ inspections₀ s inspections word p) (more : s < p)
    (taken : Taken P M T s₀ p inspections (p - 1) next_word next-inspections) where
  -- the byte before p, and whether it is an error once it is read
  byte : ℕ
  byte = get_or T (p - 1) 0

  is_error : Bool
  is_error = cond (lost byte) false (own_top_set P M.layout (read_from (length P) T s₀ (p - 1)) byte)

  own-top-test : eqb (bit_and next_word (get_or tops (get_or T (p - 1) 0) 0)) 0 ≡ not is_error
  unfolding is_error byte
  own-top-test =
      let small : get_or T (p - 1) 0 < 256 = w.given.text.below (p - 1) in
      rw (taken.holds, own-tops, get_d_tabulate 256 (tested P M.layout) (get_or T (p - 1) 0) small)
      (word-own-top P M.layout (read_from (length P) T s₀ (p - 1)) (inner-fitting w inner (p - 1) (omega arith) taken.near) (get_or T (p - 1) 0) small)

  grown : (t : Bool) → is_error ≡ t → errors_of P M.layout (read_from (length P) T s₀ (p - 1)) ≡ bit t + errors_of P M.layout (read_from (length P) T s₀ p)
  unfolding errors_of is_error byte
  grown t e =
      let read : read_from (length P) T s₀ (p - 1) ≡ get_or T (p - 1) 0 ∷ read_from (length P) T s₀ p
      = read_more (length P) T s₀ (window-upto w) p (omega (arith, inner.same)) inner.upto in
      ap (errors_of P M.layout) read
      ∙ ap (λ (n : ℕ). n + errors_of P M.layout (read_from (length P) T s₀ p)) (as-bit (lost (get_or T (p - 1) 0)) _ ∙ ap bit (rw read at e))

  -- an error, and none
  pub error-found : {errors : ℕ} → errors ≡ errors_of P M.layout (read_from (length P) T s₀ p)
      → (bit_and next_word (get_or tops (get_or T (p - 1) 0) 0) ≡ 0 → ⊥)
      → errors + 1 ≡ errors_of P M.layout (read_from (length P) T s₀ (p - 1))
  error-found e h = omega (arith, grown true (not-false is_error (sym own-top-test ∙ ne_eqb (bit_and next_word (get_or tops (get_or T (p - 1) 0) 0)) 0 h)))

  pub error-none : {errors : ℕ} → errors ≡ errors_of P M.layout (read_from (length P) T s₀ p)
      → bit_and next_word (get_or tops (get_or T (p - 1) 0) 0) ≡ 0
      → errors ≡ errors_of P M.layout (read_from (length P) T s₀ (p - 1))
  error-none e h = omega (arith, grown false (not-true is_error (sym own-top-test ∙ eq-eqb (bit_and next_word (get_or tops (get_or T (p - 1) 0) 0)) 0 h)))
