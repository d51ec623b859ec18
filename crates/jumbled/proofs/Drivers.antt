-- The theorem of the two drivers: a sound scan, or a sound judgement, of one window makes its driver list exactly the matching positions.
use mathlib.Core.Path.{◌≡◌, refl, sym, ap, ap₂, ◌∙◌}
use mathlib.Core.Bool.{Bool, false, cond}
use mathlib.Core.List.{List, [], ◌∷◌}
use Prim.Native.Nat.{ℕ, zero, suc, ◌+◌, ◌-◌, ◌≤◌, ◌<◌}
use native.Mathlib.Nat.{add-zero, add-suc, suc-add, le_trans, le_refl}
use native.Mathlib.Omega.{arith}
use lib.ListN.{length, take, drop}
use lib.Seq.{take-take, drop-drop}
use borrow.Author.Tests.{lt-leb}
use Rattle.jumbled.specs.Match.{Bytes, cc, excess, matches, window, starts, select}
use Rattle.jumbled.specs.Scan.{note, Scanned, backward, Judged, forward}
use Rattle.jumbled.proofs.Counts.{bytes_take, bytes_drop, cc-nil, cc-take, cc-drop, excess-mono}
use Rattle.jumbled.proofs.Windows.{window-whole, window_bytes}

-- ---- parts of windows

-- what a window at s holds from its byte d on, the window at s + d holds too
cc-shifted : (d m : ℕ) (X : List ℕ) (c : ℕ) → cc (drop d (take m X)) c ≤ cc (take m (drop d X)) c
cc-shifted zero m X c = le_refl (cc (take m X) c)
cc-shifted (suc d) zero X c = rw (cc-nil c) (omega arith)
cc-shifted (suc d) (suc m) [] c = le_refl (cc [] c)
cc-shifted (suc d) (suc m) (x ∷ X) c =
    le_trans (cc-shifted d m X c)
    (rw (take-take m (suc m) (drop d X) (omega arith)) at (cc-take m (take (suc m) (drop d X)) c))

-- so a part of the window that has an excess over k lies in every window from s + 1 up to the one that starts with the part
part-excess : (P X : List ℕ) (m j d : ℕ) → d ≤ j → excess P (drop j (take m X)) ≤ excess P (take m (drop d X))
part-excess P X m j d l =
    excess-mono P (drop j (take m X)) (take m (drop d X)) (λ c. le_trans (inner c) (cc-shifted d m X c))
  where
    cut : drop (j - d) (drop d (take m X)) ≡ drop j (take m X)
    cut = let whole : d + (j - d) ≡ j = omega arith in rw (drop-drop (j - d) d (take m X), whole) refl

    inner : (c : ℕ) → cc (drop j (take m X)) c ≤ cc (drop d (take m X)) c
    inner c = rw cut at (cc-drop (j - d) (drop d (take m X)) c)

-- every window start's window has m bytes
window-length : (m : ℕ) (T : List ℕ) (s : ℕ) → s < starts m T → length (window m T s) ≡ m
window-length m T s h = window-whole m T s (omega arith)

-- ---- the theorems

-- What a scan has to show: it lists a window exactly when the window matches, and where it stops at offset j, the part of the window from
-- j on has an excess over k already
pub record Sound (P : List ℕ) (k : ℕ) (scanned : List ℕ → Scanned) : Type 0 where
  pub lists : (W : List ℕ) → Bytes W → length W ≡ length P → (scanned W).listed ≡ matches P k W
  pub passes : (W : List ℕ) → Bytes W → length W ≡ length P → 0 < (scanned W).offset → k < excess P (drop (scanned W).offset W)

-- the window at s matches
abbrev pub matches_at : List ℕ → ℕ → List ℕ → ℕ → Bool
matches_at P k T s = matches P k (window (length P) T s)

listed_if : ℕ → Bool → List ℕ → List ℕ
listed_if s t rest = cond t (s ∷ rest) rest

module _ (P : List ℕ) (k : ℕ) (T : List ℕ) (bytes : Bytes T) where
  bytes-window : (s : ℕ) → Bytes (window (length P) T s)
  bytes-window s = bytes_take (length P) (drop s T) (bytes_drop s T bytes)

  -- the window starts that a sound scan passes over do not match
  passed_over : {scanned : List ℕ → Scanned} → Sound P k scanned → (s d : ℕ) → s < starts (length P) T
      → d < (scanned (window (length P) T s)).offset → matches_at P k T (suc s + d) ≡ false
  unfolding matches
  passed_over {scanned} sound s d h l =
      lt-leb (excess P (window (length P) T (suc s + d))) k
      (le_trans (sound.passes (window (length P) T s) (bytes-window s) (window-length (length P) T s h) (omega arith)) later)
    where
      shift : drop (suc d) (drop s T) ≡ drop (suc s + d) T
      shift = let same : s + suc d ≡ suc s + d = omega arith in rw (drop-drop (suc d) s T, same) refl

      later : excess P (drop (scanned (window (length P) T s)).offset (window (length P) T s)) ≤ excess P (window (length P) T (suc s + d))
      later = rw shift at (part-excess P (drop s T) (length P) (scanned (window (length P) T s)).offset (suc d) l)

  pub backward-lists : (scanned : List ℕ → Scanned) → Sound P k scanned → (s left skip : ℕ) → s + left ≤ starts (length P) T
      → ((d : ℕ) → d < skip → matches_at P k T (s + d) ≡ false)
      → (backward scanned (length P) T s left skip).occurrences ≡ select (matches_at P k T) s left
  unfolding backward select listed_if
  backward-lists scanned sound s zero skip h none = refl
  backward-lists scanned sound s (suc left) (suc skip) h none =
      backward-lists scanned sound (suc s) left skip (omega arith) (λ d l. ap (matches_at P k T) (suc-add s d ∙ sym (add-suc s d)) ∙ none (suc d) (omega arith))
      ∙ ap (λ (t : Bool). listed_if s t (select (matches_at P k T) (suc s) left)) (sym (ap (matches_at P k T) (sym (add-zero s)) ∙ none 0 (omega arith)))
  backward-lists scanned sound s (suc left) zero h none =
      let here : s < starts (length P) T = omega arith in
      ap₂ (listed_if s) (sound.lists (window (length P) T s) (bytes-window s) (window-length (length P) T s here))
      (backward-lists scanned sound (suc s) left (scanned (window (length P) T s)).offset (omega arith) (λ d l. passed_over sound s d here l))

  pub forward-lists : (judged : List ℕ → Judged)
      → ((W : List ℕ) → Bytes W → length W ≡ length P → (judged W).listed ≡ matches P k W)
      → (s left cost : ℕ) → s + left ≤ starts (length P) T
      → (forward judged (length P) T s left cost).occurrences ≡ select (matches_at P k T) s left
  unfolding forward select listed_if
  forward-lists judged sound s zero cost h = refl
  forward-lists judged sound s (suc left) cost h =
      ap₂ (listed_if s) (sound (window (length P) T s) (bytes-window s) (window-length (length P) T s (omega arith)))
      (forward-lists judged sound (suc s) left 1 (omega arith))

-- ---- two scans that are alike of every window make one search

pub backward-alike : (m : ℕ) (T : List ℕ) → Bytes T → {scanned scanned' : List ℕ → Scanned} → ((W : List ℕ) → Bytes W → scanned W ≡ scanned' W)
    → (s left skip : ℕ) → backward scanned m T s left skip ≡ backward scanned' m T s left skip
unfolding backward
backward-alike m T bytes alike s zero skip = refl
backward-alike m T bytes alike s (suc left) (suc skip) = backward-alike m T bytes alike (suc s) left skip
backward-alike m T bytes {scanned} {scanned'} alike s (suc left) zero =
    let w : Scanned = scanned' (window m T s) in
    rw (alike (window m T s) (window_bytes m T s bytes))
    (ap (note w.listed s w.inspections) (backward-alike m T bytes alike (suc s) left w.offset))
