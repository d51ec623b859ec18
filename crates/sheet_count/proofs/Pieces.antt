-- How a count goes on from piece to piece, each of them the windows that a loop judges before its list is full.
use mathlib.Core.Path.{◌≡◌, refl, ap, ◌∙◌}
use mathlib.Core.List.{List}
use Prim.Native.Nat.{ℕ, ◌+◌, ◌-◌, ◌^◌, ◌≤◌, ◌<◌}
use native.Mathlib.Nat.{zero-add}
use native.Mathlib.Omega.{arith}
use lib.ListN.{length, length-append}
use Rattle.jumbled.specs.Match.{Bytes, window_prefix, starts, positions}
use Rattle.jumbled.specs.Scan.{Result, forward}
use Rattle.jumbled.specs.Steps.{count_judged}
use Rattle.jumbled.proofs.Cuts.{◌then◌, forward-cut, forward-count, forward-within, through-between}
use Rattle.jumbled.proofs.Drivers.{forward-lists}
use Rattle.lent.specs.declared.Range.{Range}
use Rattle.loop_forward.specs.declared.Slid.{Slid}
use Rattle.loop_forward.specs.Windows.{covered}
use Rattle.loop_forward.specs.Sliding.{Slidable, SlidOver}
use Rattle.loop_count.specs.declared.Sliding.{Sliding}
use Rattle.loop_count.specs.Counting.{Counting}
use Rattle.sheet_count.specs.Counting.{Countable}

-- what the windows before the one at `first` yield
abbrev result_to : List ℕ → ℕ → List ℕ → ℕ → Result
result_to P k T first = forward (count_judged P k) (length P) T 0 first 1

-- the windows from the one at `first` on, listed from the first place on
abbrev rest : ℕ → ℕ → Range
rest first end = record { first = first; end = end; base = 0; at = 0 }

-- a state that is that of these bytes
abbrev keeps : List ℕ → List ℕ → Sliding → Type 0
keeps P U state = Counting P U state.counts state.excess

-- What holds before the window at `first`: the positions before it are counted, and the state is that of the window but its last byte
pub record CountedTo (P : List ℕ) (k : ℕ) (T : List ℕ) (state : Sliding) (first found : ℕ) : Type 0 where
  pub within : first ≤ starts (length P) T
  pub count : found ≡ length (result_to P k T first).occurrences
  pub kept : keeps P (window_prefix (length P) T first) state

-- and once a piece is searched from there
pub record Onward (P : List ℕ) (k : ℕ) (T : List ℕ) (first found : ℕ) (r : Slid Sliding) : Type 0 where
  pub further : first < r.next
  pub fits : found + r.at < 2 ^ 64
  pub so_far : CountedTo P k T r.state r.next (found + r.at)

-- ---- where it begins and ends

none_before : (P : List ℕ) (k : ℕ) (T : List ℕ) → 0 ≡ length (result_to P k T 0).occurrences
unfolding forward
none_before P k T = refl

pub begun : {P : List ℕ} {k : ℕ} {T : List ℕ} {state : Sliding} → keeps P (window_prefix (length P) T 0) state → CountedTo P k T state 0 0
begun {P} {k} {T} kept = record { within = omega arith; count = none_before P k T; kept = kept }

module _ {T : List ℕ} (bytes : Bytes T) where
  all-before : (P : List ℕ) (k first : ℕ) → first ≡ starts (length P) T → (result_to P k T first).occurrences ≡ positions P k T
  unfolding positions count_judged
  all-before P k first all =
      rw all (forward-lists P k T bytes (count_judged P k) (λ W b e. refl) 0 (starts (length P) T) 1 (omega arith))

  pub no-windows : (P : List ℕ) (k : ℕ) → length T < length P → 0 ≡ length (positions P k T)
  no-windows P k short = none_before P k T ∙ ap length (all-before P k 0 (omega arith))

  pub all-counted : {P : List ℕ} {k : ℕ} {state : Sliding} {first found : ℕ} → CountedTo P k T state first found
      → starts (length P) T ≤ first → found ≡ length (positions P k T)
  all-counted {P} {k} {state} {first} so_far last = so_far.count ∙ ap length (all-before P k first (omega (arith, so_far.within)))

-- ---- a piece

module _ {P counts T : List ℕ} (ready : Countable P counts T) where
  module _ {k : ℕ} {state : Sliding} {first found end : ℕ} (so_far : CountedTo P k T state first found) where
    pub for-piece : end ≡ starts (length P) T → Slidable (keeps P) (length P) T state (rest first end)
    for-piece ends =
        record {
          fitting =
              record {
                some = ready.some;
                short = ready.short;
                ordered = omega (arith, so_far.within);
                whole = λ s h. omega arith;
                numbered = omega (arith, ready.some, ready.numbered);
              };
          kept = so_far.kept;
        }

    module _ {before after : List ℕ} {r : Slid Sliding} (searched : SlidOver (keeps P) (count_judged P k) (length P) T (rest first end) before after r)
        (ends : end ≡ starts (length P) T) (places : 0 < length before) (left : first < end) where
      abbrev judged : ℕ
      judged = covered (count_judged P k) (length P) T (rest first end) before

      -- one window at least, and none past the last
      some-judged : (0 < judged) × (first + judged ≤ end)
      some-judged =
          let between = through-between (forward-within (count_judged P k) (length P) T first (end - first) 1) (length before - 0) in
          (omega (arith, between.0), omega (arith, between.1))

      parts : result_to P k T (first + judged) ≡ result_to P k T first then forward (count_judged P k) (length P) T first judged 1
      parts = rw zero-add at (forward-cut (count_judged P k) (length P) T 0 first judged)

      counted : found + r.at ≡ length (result_to P k T (first + judged)).occurrences
      counted = rw (parts, length-append) (omega (arith, so_far.count, searched.searched.listed.next_place))

      next : CountedTo P k T r.state r.next (found + r.at)
      next =
          record {
            within = omega (arith, searched.searched.goes_on, some-judged.1);
            count = rw searched.searched.goes_on counted;
            kept = searched.kept;
          }

      pub onward : Onward P k T first found r
      onward =
          record {
            further = omega (arith, searched.searched.goes_on, some-judged.0);
            fits = omega (arith, next.count, next.within, forward-count (count_judged P k) (length P) T 0 r.next 1, ready.numbered);
            so_far = next;
          }
