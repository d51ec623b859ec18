-- The report of a feed: what the longer text lists beyond the shorter one, and what the tail followed by the chunk lists.
use mathlib.Core.Path.{◌≡◌, refl, sym, ap, ap₂, ◌∙◌}
use mathlib.Core.Bool.{Bool, true, false, cond, ◌&&◌}
use mathlib.Core.List.{List, ◌∷◌, ◌++◌}
use Prim.Native.Nat.{ℕ, zero, suc, ◌+◌, ◌-◌, ◌≤◌, ◌<◌}
use native.Mathlib.Nat.{add-suc}
use native.Mathlib.Omega.{arith}
use lib.ListN.{length, take, drop, length-append, length-drop}
use lib.Seq.{drop-drop, drop-append-le, take-append-le}
use borrow.Author.Tests.{lt-ltb, le-ltb}
use Rattle.jumbled.specs.Match.{matches, window, starts, select, positions}
use Rattle.lent.specs.Placed.{shifted}
use Rattle.jumbled.specs.Refusals.{tail_length}
use Rattle.jumbled.proofs.Selections.{select-cut, select-same, select-none}
use Rattle.search_state.specs.Stored.{last_of}
use Rattle.search_series.specs.History.{report_of}

-- ---- select

-- a test that fails in the first places, and agrees with another one from then on
select-from : (test test' : ℕ → Bool) (a b all : ℕ) → all ≡ a + b → ((i : ℕ) → i < a → test i ≡ false) → ((i : ℕ) → a ≤ i → test i ≡ test' i)
    → select test 0 all ≡ select test' (0 + a) b
select-from test test' a b all cut before beyond =
    ap (select test 0) cut
    ∙ select-cut test 0 a b
    ∙ ap₂ ◌++◌ (select-none test 0 a (λ i least below. before i (omega arith))) (select-same test test' (0 + a) b (λ i least below. beyond i (omega arith)))

-- tests that agree where one is d places further on
select-shifted : (test test' : ℕ → Bool) (d s count : ℕ) → ((i : ℕ) → test i ≡ test' (d + i)) → shifted d (select test s count) ≡ select test' (d + s) count
unfolding select shifted
select-shifted test test' d s zero same = refl
select-shifted test test' d s (suc count) same =
    rw (same s) (case (test' (d + s)) (select-shifted test test' d (suc s) count same ∙ ap (λ (n : ℕ). select test' n count) (add-suc d s)))
  where
    case : (t : Bool) → shifted d (select test (suc s) count) ≡ select test' (suc (d + s)) count
        → shifted d (cond t (s ∷ select test (suc s) count) (select test (suc s) count))
        ≡ cond t ((d + s) ∷ select test' (suc (d + s)) count) (select test' (suc (d + s)) count)
    case true e = ap (λ (l : List ℕ). (d + s) ∷ l) e
    case false e = e

-- ---- the report

and-true : (t u : Bool) → u ≡ true → (t && u) ≡ t
and-true true u e = e
and-true false u e = refl

and-false : (t u : Bool) → u ≡ false → (t && u) ≡ false
and-false true u e = e
and-false false u e = refl

-- the windows that start before the tail of a text of n bytes are those of the text alone
passed-starts : (n m : ℕ) → 0 < m → n - tail_length m n ≡ suc n - m
passed-starts n m some = omega arith

starts-left : (n c m : ℕ) → 0 < m → suc (n + c - (suc n - m)) - m ≡ suc (n + c) - m - (suc n - m)
starts-left n c m some = omega arith

-- the tail after the feed is within what the feed reached
tail_within : (n c m : ℕ) → n - tail_length m n + (n + c - (n - tail_length m n) - tail_length m (n + c)) ≡ n + c - tail_length m (n + c)
tail_within n c m = within (tail_length m n) (tail_length m (n + c)) (omega arith) (omega arith)
  where
    within : (t j : ℕ) → t ≤ n → j ≤ t + c → n - t + (n + c - (n - t) - j) ≡ n + c - j
    within t j inside reach = omega arith

module _ (P : List ℕ) (k : ℕ) (text chunk : List ℕ) where
  -- the window at s of the longer text matches
  matching : ℕ → Bool
  matching s = matches P k (window (length P) (text ++ chunk) s)

  -- the window starts beyond those of the text alone
  more : ℕ
  more = starts (length P) (text ++ chunk) - starts (length P) text

  all-starts : starts (length P) (text ++ chunk) ≡ starts (length P) text + more
  unfolding more
  all-starts = omega (arith, length-append text chunk)

  -- they are those of the report
  report-starts : report_of P k text chunk ≡ select matching (0 + starts (length P) text) more
  unfolding report_of matching more
  report-starts =
      select-from _ matching (starts (length P) text) more _ all-starts (λ i below. and-false (matching i) _ (le-ltb (length text) (i + length P) (omega arith)))
      (λ i least. and-true (matching i) _ (lt-ltb (length text) (i + length P) (omega arith)))

  -- the longer text lists what the shorter one does, and then the report
  pub positions-append : positions P k (text ++ chunk) ≡ positions P k text ++ report_of P k text chunk
  unfolding positions matching more
  positions-append =
      ap (select matching 0) all-starts
      ∙ select-cut matching 0 (starts (length P) text) more
      ∙ ap₂ ◌++◌ (select-same matching (λ s. matches P k (window (length P) text s)) 0 (starts (length P) text) inside) (sym report-starts)
    where
      inside : (i : ℕ) → 0 ≤ i → i < 0 + starts (length P) text → matching i ≡ matches P k (window (length P) text i)
      inside i least below =
          ap (matches P k)
          (ap (take (length P)) (drop-append-le i text chunk (omega arith))
          ∙ take-append-le (length P) (drop i text) chunk (omega (arith, length-drop i text)))

  -- ---- the tail followed by the chunk

  -- how many bytes of the text are not in the tail
  abbrev pub passed : ℕ
  passed = length text - tail_length (length P) (length text)

  -- the last bytes of the text, followed by the chunk, are the last bytes of both
  tail-chunk : last_of (tail_length (length P) (length text)) text ++ chunk ≡ drop passed (text ++ chunk)
  tail-chunk = sym (drop-append-le passed text chunk (omega arith))

  pub report-by-tail : 0 < length P
      → shifted (length text - tail_length (length P) (length text)) (positions P k (last_of (tail_length (length P) (length text)) text ++ chunk))
      ≡ report_of P k text chunk
  unfolding positions matching more
  report-by-tail some =
      ap (λ (l : List ℕ). shifted passed (positions P k l)) tail-chunk
      ∙ select-shifted (λ s. matches P k (window (length P) (drop passed (text ++ chunk)) s)) matching passed 0 (starts (length P) (drop passed (text ++ chunk)))
      (λ i. ap (λ (l : List ℕ). matches P k (take (length P) l)) (drop-drop i passed (text ++ chunk)))
      ∙ ap₂ (select matching) first count
      ∙ sym report-starts
    where
      first : passed + 0 ≡ 0 + starts (length P) text
      first = ap (λ (n : ℕ). n + 0) (passed-starts (length text) (length P) some) ∙ omega arith

      count : starts (length P) (drop passed (text ++ chunk)) ≡ more
      count =
          ap (λ (n : ℕ). suc n - length P)
          (length-drop passed (text ++ chunk) ∙ ap₂ ◌-◌ (length-append text chunk) (passed-starts (length text) (length P) some))
          ∙ starts-left (length text) (length chunk) (length P) some
          ∙ ap (λ (n : ℕ). suc n - length P - starts (length P) text) (sym (length-append text chunk))

  -- the last bytes after the feed are the last bytes of the longer text
  pub tail-after :
      last_of (tail_length (length P) (length text + length chunk)) (last_of (tail_length (length P) (length text)) text ++ chunk)
      ≡ last_of (tail_length (length P) (length (text ++ chunk))) (text ++ chunk)
  tail-after =
      let j : ℕ = tail_length (length P) (length text + length chunk) in
      let all : length (text ++ chunk) ≡ length text + length chunk = length-append text chunk in
      ap (last_of j) tail-chunk
      ∙ drop-drop (length (drop passed (text ++ chunk)) - j) passed (text ++ chunk)
      ∙ ap (λ (n : ℕ). drop n (text ++ chunk))
      (ap (λ (n : ℕ). passed + (n - j)) (length-drop passed (text ++ chunk) ∙ ap (λ (n : ℕ). n - passed) all)
      ∙ tail_within (length text) (length chunk) (length P)
      ∙ ap (λ (n : ℕ). n - tail_length (length P) n) (sym all))
