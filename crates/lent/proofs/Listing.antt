-- How a loop's listing grows: by a window that is listed, and by one that is not.
use mathlib.Core.Path.{◌≡◌, refl, sym, ap, ap₂, ◌∙◌}
use mathlib.Core.Bool.{Bool, true, false}
use mathlib.Core.List.{List, [], ◌∷◌, ◌++◌, append-nil}
use Prim.Native.Nat.{ℕ, suc, ◌+◌, ◌-◌, ◌≤◌, ◌<◌}
use native.Mathlib.Nat.{add-zero}
use native.Mathlib.Omega.{arith}
use lib.ListN.{length, set, length-append}
use Rattle.jumbled.specs.Scan.{Result, nothing, note, through}
use Rattle.jumbled.proofs.Cuts.{◌then◌, Within, through-free, through-room, through-last}
use Rattle.lent.specs.declared.Range.{Range}
use Rattle.lent.specs.Placed.{placed, shifted}
use Rattle.lent.specs.Loops.{passed, Listed}
use Rattle.lent.proofs.Placing.{placed-nil, placed-next, length-placed, length-shifted, shifted-append}

-- one window's share alone
abbrev pub share : Bool → ℕ → ℕ → Result
share t s taken = note t s taken nothing

pub then-nothing : (a : Result) → a then nothing ≡ a
then-nothing a = ap₂ (λ (l : List ℕ) (n : ℕ). record { occurrences = l; inspections = n }) (append-nil a.occurrences) (add-zero a.inspections)

-- nothing listed yet
pub listed-none : (range : Range) (list : List ℕ) → Listed nothing range list list range.at 0
unfolding shifted
listed-none range list =
    record { filled = sym (placed-nil list range.at); next_place = sym (add-zero range.at); inspected = refl }

module _ (range : Range) (before : List ℕ) (r : Result) where
  -- a window that is not listed
  pub listed-skip : {after : List ℕ} {at inspections : ℕ} → Listed r range before after at inspections → (s taken : ℕ)
      → Listed (r then share false s taken) range before after at (inspections + taken)
  listed-skip so_far s taken =
      record {
        filled = so_far.filled ∙ ap (λ (l : List ℕ). placed before range.at (shifted range.base l)) (sym (append-nil r.occurrences));
        next_place = so_far.next_place ∙ ap (λ (l : List ℕ). range.at + length l) (sym (append-nil r.occurrences));
        inspected = omega (arith, so_far.inspected);
      }

  -- a window that is
  pub listed_more : {after : List ℕ} {at inspections : ℕ} → Listed r range before after at inspections → (s taken : ℕ)
      → range.at + length r.occurrences < length before
      → Listed (r then share true s taken) range before (set after at (range.base + s)) (at + 1) (inspections + taken)
  unfolding shifted
  listed_more {after} {at} {inspections} so_far s taken room =
      record {
        filled =
            ap₂ (λ (l : List ℕ) (n : ℕ). set l n (range.base + s)) so_far.filled place
            ∙ placed-next before range.at (shifted range.base r.occurrences) (range.base + s) (omega (arith, length-shifted range.base r.occurrences))
            ∙ ap (placed before range.at) (sym (shifted-append range.base r.occurrences (s ∷ [])));
        next_place = omega (arith, so_far.next_place, length-append r.occurrences (s ∷ []));
        inspected = omega (arith, so_far.inspected);
      }
    where
      place : at ≡ range.at + length (shifted range.base r.occurrences)
      place = so_far.next_place ∙ ap (λ (n : ℕ). range.at + n) (sym (length-shifted range.base r.occurrences))

  -- the list keeps its length
  pub listed-length : {after : List ℕ} {at inspections : ℕ} → Listed r range before after at inspections
      → range.at + length r.occurrences ≤ length before → length after ≡ length before
  listed-length so_far room =
      ap length so_far.filled
      ∙ length-placed before range.at (shifted range.base r.occurrences) (omega (arith, length-shifted range.base r.occurrences))

-- ---- where a loop ends, by the places that it has

module _ (range : Range) (before listed : List ℕ) where
  -- the list is full from the start
  pub passed_none : length before ≤ range.at → passed range before listed ≡ 0
  unfolding through
  passed_none full = let none : length before - range.at ≡ 0 = omega arith in rw none refl

  -- there is a place for every window start
  pub passed-room : Within range.first (range.end - range.first) listed → range.at + (range.end - range.first) ≤ length before
      → passed range before listed ≡ range.end - range.first
  passed-room within room = through-room within (length before - range.at) (omega arith)

  module _ {r : Result} {after : List ℕ} {at inspections : ℕ} (so_far : Listed r range before after at inspections) where
    -- a place stays free, and nothing else is to be listed
    pub passed-all : at < length before → listed ≡ r.occurrences → passed range before listed ≡ range.end - range.first
    passed-all free e = through-free (length before - range.at) range.first (range.end - range.first) listed (omega (arith, so_far.next_place, ap length e))

    -- the window at s takes the last place
    pub passed-last : (s : ℕ) (more : List ℕ) → listed ≡ r.occurrences ++ (s ∷ more) → at < length before → length before ≤ at + 1
        → passed range before listed ≡ suc s - range.first
    passed-last s more e free full =
        through-last r.occurrences s more listed range.first (range.end - range.first) (length before - range.at) e (omega (arith, so_far.next_place))
