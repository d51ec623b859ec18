-- How a forward loop goes from window start to window start, whatever its judgement of a window is.
use mathlib.Core.Path.{◌≡◌, refl, sym, ap, ◌∙◌}
use mathlib.Core.Bool.{Bool, true, false}
use mathlib.Core.List.{List, [], ◌∷◌, ◌++◌}
use mathlib.Core.Logic.{◌⊎◌, ⊎_elim}
use Prim.Native.Nat.{ℕ, suc, ◌+◌, ◌-◌, ◌*◌, ◌≤◌, ◌<◌}
use native.Mathlib.Nat.{sub_self}
use native.Mathlib.Omega.{arith}
use lib.ListN.{length, get_or, drop, set, length-take, length-set}
use Rattle.jumbled.specs.Match.{Bytes, window, window_prefix}
use Rattle.jumbled.specs.Scan.{Result, Judged, forward}
use Rattle.jumbled.proofs.Sums.{below_or_not}
use Rattle.jumbled.proofs.Cuts.{◌then◌, forward-cut, forward-within}
use Rattle.jumbled.proofs.Counts.{bytes_take, bytes_drop}
use Rattle.jumbled.proofs.Windows.{window-whole, window-last, window-first}
use Rattle.lent.specs.declared.Range.{Range}
use Rattle.lent.specs.Loops.{Fitting, Listed}
use Rattle.lent.proofs.Listing.{share, listed-none, listed-skip, listed_more, passed_none, passed-room, passed-last, passed-all}
use Rattle.loop_forward.specs.Windows.{covered, Ended}

-- what the windows of a range before the one at s yield
abbrev pub result_before : (List ℕ → Judged) → ℕ → List ℕ → Range → ℕ → Result
result_before judged m T range s = forward judged m T range.first (s - range.first) 1

-- and what all of them would list
abbrev all : (List ℕ → Judged) → ℕ → List ℕ → Range → List ℕ
all judged m T range = (result_before judged m T range range.end).occurrences

-- A loop that started with the list `before` has come to the window start s. Where the list is full it ends there.
pub record Progress (judged : List ℕ → Judged) (m : ℕ) (T : List ℕ) (range : Range) (before after : List ℕ) (at inspections s : ℕ) : Type 0 where
  pub from : range.first ≤ s
  pub within : s ≤ range.end
  pub listed : Listed (result_before judged m T range s) range before after at inspections
  pub same_length : length after ≡ length before
  pub full : length before ≤ at → covered judged m T range before ≡ s - range.first
  pub bounded : inspections ≤ 65 * (s - range.first)

pub progress-none : (judged : List ℕ → Judged) (m : ℕ) (T : List ℕ) (range : Range) (before : List ℕ) → range.first ≤ range.end
    → Progress judged m T range before before range.at 0 range.first
unfolding forward
progress-none judged m T range before h =
    record {
      from = omega arith;
      within = h;
      listed = rw (sub_self range.first) (listed-none range before);
      same_length = refl;
      full = λ none. passed_none range before (all judged m T range) none ∙ sym (sub_self range.first);
      bounded = omega arith;
    }

forward-one : (judged : List ℕ → Judged) (m : ℕ) (T : List ℕ) (s : ℕ)
    → forward judged m T s 1 1 ≡ share (judged (window m T s)).listed s (1 + (judged (window m T s)).verification)
unfolding forward
forward-one judged m T s = refl

-- one window further
result-before-next : (judged : List ℕ → Judged) (m : ℕ) (T : List ℕ) (range : Range) (s : ℕ) → range.first ≤ s
    → result_before judged m T range (s + 1)
    ≡ result_before judged m T range s then share (judged (window m T s)).listed s (1 + (judged (window m T s)).verification)
result-before-next judged m T range s h =
    let first = range.first in
    let more : s + 1 - first ≡ s - first + 1 = omega arith in
    let here : first + (s - first) ≡ s = omega arith in
    rw (more, forward-cut judged m T first (s - first) 1, here) (ap (λ (r : Result). result_before judged m T range s then r) (forward-one judged m T s))

-- a listed window's position follows those before it
all-with : (judged : List ℕ → Judged) (m : ℕ) (T : List ℕ) (range : Range) (s : ℕ) → range.first ≤ s → s < range.end
    → (judged (window m T s)).listed ≡ true
    → all judged m T range
    ≡ (result_before judged m T range s).occurrences ++ (s ∷ (forward judged m T (suc s) (range.end - s - 1) 1).occurrences)
unfolding forward
all-with judged m T range s from in-loop e =
    let parts : range.end - first ≡ s - first + suc left = omega arith in
    ap (λ (n : ℕ). (forward judged m T first n 1).occurrences) parts
    ∙ ap (λ (r : Result). r.occurrences) (forward-cut judged m T first (s - first) (suc left))
    ∙ ap (λ (l : List ℕ). (result_before judged m T range s).occurrences ++ l) ahead
  where
    first : ℕ
    first = range.first

    left : ℕ
    left = range.end - s - 1

    ahead : (forward judged m T (first + (s - first)) (suc left) 1).occurrences ≡ s ∷ (forward judged m T (suc s) left 1).occurrences
    ahead = let here : first + (s - first) ≡ s = omega arith in rw (here, e) refl

-- ---- a turn of the loop

-- What is known at the window start s
pub record Turn (judged : List ℕ → Judged) (m : ℕ) (T : List ℕ) (range : Range) (before after : List ℕ) (at inspections s : ℕ) : Type 0 where
  pub fitting : Fitting T m range
  pub bytes : Bytes T
  pub so_far : Progress judged m T range before after at inspections s
  pub in-loop : s < range.end
  pub place : at < length after

module _ {judged : List ℕ → Judged} {m : ℕ} {T : List ℕ} {range : Range} {before after : List ℕ} {at inspections s : ℕ}
    (turn : Turn judged m T range before after at inspections s) where
  pub whole : s + m ≤ length T
  whole = turn.fitting.whole s turn.in-loop

  -- the byte that enters the window, and the one that leaves it
  pub last_byte : get_or T (s + m - 1) 0 < 256
  last_byte = turn.bytes.below (s + m - 1)

  pub first_byte : get_or T s 0 < 256
  first_byte = turn.bytes.below s

  pub by_last : window m T s ≡ window_prefix m T s ++ (get_or T (s + m - 1) 0 ∷ [])
  by_last = window-last m T s turn.fitting.some whole

  pub by_first : window m T s ≡ get_or T s 0 ∷ window_prefix m T (s + 1)
  by_first = window-first m T s turn.fitting.some whole

  pub whole-window : length (window m T s) ≡ m
  whole-window = window-whole m T s whole

  pub prefix-bytes : Bytes (window_prefix m T s)
  prefix-bytes = bytes_take (m - 1) (drop s T) (bytes_drop s T turn.bytes)

  pub prefix-short : length (window_prefix m T s) < 64
  prefix-short = omega (arith, turn.fitting.some, turn.fitting.short, length-take (m - 1) (drop s T))

  -- there is a place
  pub has_room : at < length before
  has_room = omega (arith, turn.place, turn.so_far.same_length)

  next : (t : Bool) → (judged (window m T s)).listed ≡ t
      → result_before judged m T range (s + 1) ≡ result_before judged m T range s then share t s (1 + (judged (window m T s)).verification)
  next t e =
      result-before-next judged m T range s turn.so_far.from
      ∙ ap (λ (u : Bool). result_before judged m T range s then share u s (1 + (judged (window m T s)).verification)) e

  module _ (inspected : ℕ) (counted : inspected ≡ inspections + (1 + (judged (window m T s)).verification)) (bounded : inspected ≤ inspections + 65) where
    pub turn-listed : (judged (window m T s)).listed ≡ true
        → Progress judged m T range before (set after at (range.base + s)) (at + 1) inspected (s + 1)
    turn-listed e =
        record {
          from = omega arith;
          within = omega arith;
          listed =
              rw (next true e, counted)
              (listed_more range before (result_before judged m T range s) turn.so_far.listed s (1 + (judged (window m T s)).verification)
              (omega (arith, turn.so_far.listed.next_place, has_room)));
          same_length = length-set after at (range.base + s) ∙ turn.so_far.same_length;
          full =
              λ last.
              passed-last range before (all judged m T range) turn.so_far.listed s _
              (all-with judged m T range s turn.so_far.from turn.in-loop e) has_room last
              ∙ omega arith;
          bounded = omega (arith, turn.so_far.bounded);
        }

    pub turn-skipped : (judged (window m T s)).listed ≡ false → Progress judged m T range before after at inspected (s + 1)
    turn-skipped e =
        record {
          from = omega arith;
          within = omega arith;
          listed =
              rw (next false e, counted)
              (listed-skip range before (result_before judged m T range s) turn.so_far.listed s (1 + (judged (window m T s)).verification));
          same_length = turn.so_far.same_length;
          full = λ none. absurd (omega (arith, has_room));
          bounded = omega (arith, turn.so_far.bounded);
        }

-- ---- the end of the loop

-- no window is left, or no place
pub ended : {judged : List ℕ → Judged} {m : ℕ} {T : List ℕ} {range : Range} {before after : List ℕ} {at inspections s : ℕ}
    → Progress judged m T range before after at inspections s → (range.end ≤ s) ⊎ (length after ≤ at)
    → Ended judged m T range before after s at inspections
ended {judged} {m} {T} {range} {before} {after} {at} {inspections} {s} so_far why =
    record { listed = rw (← gone) at so_far.listed; goes_on = omega (arith, gone, so_far.from) }
  where
    is-end : range.end ≤ s → range.end ≡ s
    is-end h = omega (arith, so_far.within)

    gone : covered judged m T range before ≡ s - range.first
    gone =
        ⊎_elim
        (λ (free : at < length before).
        let last : range.end ≡ s = is-end (⊎_elim (λ h. h) (λ h. absurd (omega (arith, so_far.same_length))) why) in
        passed-all range before (all judged m T range) so_far.listed free (ap (λ (n : ℕ). (result_before judged m T range n).occurrences) last)
        ∙ omega arith)
        so_far.full (below_or_not at (length before))

-- where the list has a place for each window, every one was judged
module _ {judged : List ℕ → Judged} {m : ℕ} {T : List ℕ} {range : Range} {before after : List ℕ} {next at inspections : ℕ}
    (end : Ended judged m T range before after next at inspections) (places : range.at + (range.end - range.first) ≤ length before) where
  every : covered judged m T range before ≡ range.end - range.first
  every = passed-room range before (all judged m T range) (forward-within judged m T range.first (range.end - range.first) 1) places

  pub every-listed : Listed (result_before judged m T range range.end) range before after at inspections
  every-listed = rw every at end.listed

  pub at-end : range.first ≤ range.end → next ≡ range.end
  at-end ordered = omega (arith, end.goes_on, every)
