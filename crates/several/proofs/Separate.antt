-- One pass for several patterns is the counting searches for each of them, put together (document 02, T-01): from the contracts of the calls and laws
-- about the definitions.
use mathlib.Core.Path.{◌≡◌, sym, ap, ap₂, ◌∙◌}
use mathlib.Core.Bool.{false}
use mathlib.Core.List.{List, Memᴰ}
use mathlib.Core.Logic.{◌↔◌, ◌⊎◌, ⊎_elim}
use Prim.Native.Nat.{ℕ, suc, ◌+◌, ◌-◌, ◌≤◌, ◌<◌}
use native.Mathlib.Omega.{arith}
use lib.ListN.{length, get_or, take, get_or-map}
use lib.Seq.{get_or-take}
use Rattle.jumbled.specs.Match.{occurs, lost_hour, excess, window}
use Rattle.jumbled.proofs.Counts.{occurs-none, lacked}
use Rattle.jumbled.specs.Scan.{Result}
use Rattle.jumbled.proofs.Sums.{below_or_not, sum-ext}
use Rattle.jumbled.proofs.Admission.{first_chunk, size_fits}
use Rattle.jumbled.proofs.Positions.{listed, count-inspections, no-inspections}
use Rattle.lent.specs.Placed.{FirstPlaces}
use Rattle.lent.proofs.Placing.{first-places}
use Rattle.answers.specs.Numbers.{answer_number}
use Rattle.answers.specs.Answers.{Answer, answer_found, answer_inspections}
use Rattle.admit_pattern.proofs.Counting.{counting-taken}
use Rattle.search_whole.specs.Whole.{whole_number, Whole}
use Rattle.search_whole.proofs.Wholes.{whole-late}
use Rattle.search_whole.proofs.Contract.{WholeAccepted, whole-accepted}
use Rattle.several_form.specs.Finds.{Find, numbered, common_length, part_in, side_by_side, positions_of, finds}
use Rattle.several_form.specs.Mcount.{mcount}
use Rattle.several_form.specs.Handed.{patterns_of}
use Rattle.several_form.proofs.Passes.{common-length, mcount-inspections, mcount-none}
use Rattle.several_form.proofs.Handed.{none-in-each}
use Rattle.several_form.proofs.Separate.{read_back, separate, found-together}
use Rattle.several_form.proofs.Pairs.{no_find, finds-rise, finds-numbered}
use Rattle.several.specs.Whole.{WholeSeveral}
use Rattle.several.specs.Separate.{Separately, pairs_in, PutTogether}
use Rattle.several.proofs.Answers.{taken-together}
use Rattle.several.proofs.Contract.{patterns-taken, sizes-taken, as_many, inspected, by-mcount, positions-places, numbers-places}

-- what stands at a place of a list whose first places hold one part of some finds
part_at : (part : Find → ℕ) (F : List Find) {before after : List ℕ} {places : ℕ} → FirstPlaces before after places (part_in part F) → (i : ℕ) → i < places
    → get_or after i (part no_find) ≡ part (get_or F i no_find)
unfolding part_in
part_at part F {after = after} {places = places} filled i h =
    sym (get_or-take places after i (part no_find) h) ∙ ap (λ (l : List ℕ). get_or l i (part no_find)) filled.first ∙ get_or-map part F i no_find

module _ {bytes lengths : List ℕ} {k : ℕ} {T list_before list numbers_before numbers : List ℕ} {r : Answer}
    (contract : WholeSeveral bytes lengths k T list_before list numbers_before numbers r) (ok : answer_number r ≡ 0) where
  abbrev Ps : List (List ℕ)
  Ps = patterns_of lengths bytes

  -- ---- the patterns

  abbrev m : ℕ
  m = get_or lengths 0 0

  module _ (number : ℕ) (from : 1 ≤ number) (to : number ≤ length Ps) where
    pub one-length : length (numbered Ps number) ≡ m
    one-length = (taken-together bytes lengths k (patterns-taken contract ok)).one-length number from (omega arith)

    common : length (numbered Ps number) ≡ common_length Ps
    common = one-length ∙ sym (common-length (taken-together bytes lengths k (patterns-taken contract ok)))

    -- it holds no lost hour
    pub none-lost : occurs (numbered Ps number) lost_hour ≡ false
    none-lost =
        occurs-none (numbered Ps number) lost_hour
        (none-in-each lengths bytes lost_hour (lacked bytes lost_hour (patterns-taken contract ok).none-lost) (number - 1))

    -- a counting search for it is accepted, in any list that has as many places as the text has bytes
    pub separately-accepted : (places : List ℕ) → length T ≤ length places → whole_number (numbered Ps number) k 1 T places ≡ 0
    separately-accepted places room =
        let taken = patterns-taken contract ok in
        whole-late (numbered Ps number) k 1 T places
        (counting-taken (numbered Ps number) k (omega (arith, one-length, taken.set.some)) (omega (arith, one-length, taken.set.short)) none-lost
        (omega (arith, one-length, taken.within)))
        ∙ first_chunk (length T) (length places)
        ∙ size_fits (length T) (length places) (sizes-taken contract ok).not-long room

  -- ---- the pairs

  -- those that stand in the lists are those to be found
  pub pairs-found : pairs_in (answer_found r) list numbers ≡ finds Ps k T
  pairs-found = ap₂ side_by_side (positions-places contract ok).first (numbers-places contract ok).first ∙ read_back (finds Ps k T)

  -- and those that Mcount's steps find, by as many inspections
  pub pairs-by-steps : (pairs_in (answer_found r) list numbers ≡ (mcount Ps k T).finds) × (answer_inspections r ≡ (mcount Ps k T).inspections)
  pairs-by-steps = (pairs-found ∙ sym (by-mcount contract ok), inspected contract ok)

  inside : (i : ℕ) → i < answer_found r → i < length (finds Ps k T)
  inside i h = omega (arith, as_many contract ok)

  position_at : (i : ℕ) → i < answer_found r → get_or list i 0 ≡ (get_or (finds Ps k T) i no_find).position
  position_at i h = part_at (λ f. f.position) (finds Ps k T) (positions-places contract ok) i h

  number_at : (i : ℕ) → i < answer_found r → get_or numbers i 0 ≡ (get_or (finds Ps k T) i no_find).number
  number_at i h = part_at (λ f. f.number) (finds Ps k T) (numbers-places contract ok) i h

  -- a position stands beside a number exactly where its window is whole and has an excess of at most k over that pattern
  pub pairs-exact : (number : ℕ) → 1 ≤ number → number ≤ length Ps → (s : ℕ)
      → Memᴰ s (positions_of number (pairs_in (answer_found r) list numbers))
      ↔ ((s + length (numbered Ps number) ≤ length T) × (excess (numbered Ps number) (window (length (numbered Ps number)) T s) ≤ k))
  pairs-exact number from to s =
      rw (pairs-found, separate Ps k T number from (omega arith) (common number from to)) (listed (numbered Ps number) k T s)

  -- ---- the inspections: n, or none where n < m

  pub inspects-all : m ≤ length T → answer_inspections r ≡ length T
  inspects-all enough =
      inspected contract ok
      ∙ mcount-inspections Ps k T (omega (arith, common-length (taken-together bytes lengths k (patterns-taken contract ok))))

  pub inspects-none : length T < m → answer_inspections r ≡ 0
  inspects-none short =
      inspected contract ok ∙ mcount-none Ps k T (omega (arith, common-length (taken-together bytes lengths k (patterns-taken contract ok))))

  -- ---- the separate searches put together

  pairs-rise : (i j : ℕ) → i < j → j < answer_found r
      → (get_or list i 0 < get_or list j 0) ⊎ ((get_or list i 0 ≡ get_or list j 0) × (get_or numbers i 0 < get_or numbers j 0))
  pairs-rise i j l h =
      rw (position_at i (omega arith), position_at j h, number_at i (omega arith), number_at j h) (finds-rise Ps k T i j l (inside j h))

  -- beside a number stand the positions that an accepted counting search for its pattern lists, in that order, and it makes as many inspections
  module _ (number : ℕ) (from : 1 ≤ number) (to : number ≤ length Ps) {before after : List ℕ} {alone : Answer}
      (counted : Whole (numbered Ps number) k 1 T before after alone) (accepted : answer_number alone ≡ 0) where
    of_one : WholeAccepted (numbered Ps number) k 1 T before after alone
    of_one = whole-accepted counted accepted

    pub beside-alone : positions_of number (pairs_in (answer_found r) list numbers) ≡ take (answer_found alone) after
    beside-alone =
        ap (positions_of number) pairs-found
        ∙ separate Ps k T number from (omega arith) (common number from to)
        ∙ sym (first-places of_one.list of_one.found).first

    pub inspected-alone : answer_inspections r ≡ answer_inspections alone
    inspected-alone =
        ⊎_elim
        (λ (short : length T < m).
        inspects-none short ∙ sym (of_one.inspections ∙ ap (λ (x : Result). x.inspections) (no-inspections (numbered Ps number) k 1 T (omega (arith, one-length number from to)))))
        (λ (enough : m ≤ length T).
        inspects-all enough ∙ sym (of_one.inspections ∙ count-inspections (numbered Ps number) k T (omega (arith, one-length number from to)))) (below_or_not (length T) m)

  all-together : (separately : Separately Ps k T) → PutTogether separately list numbers r
  all-together separately =
      record {
        positions-beside = λ number from to. beside-alone number from to (separately.contract number from to) (separately.accepted number from to);
        numbers-right = λ i h. rw (number_at i h) (finds-numbered Ps k T i (inside i h));
        rising = pairs-rise;
        found =
            as_many contract ok
            ∙ found-together Ps k T (λ number from to. common number from (omega arith))
            ∙ sum-ext (length Ps) _ _
            (λ f l. sym (of_one (suc f) (omega arith) (omega arith) (separately.contract (suc f) (omega arith) (omega arith)) (separately.accepted (suc f) (omega arith) (omega arith))).found);
        inspections = λ number from to. inspected-alone number from to (separately.contract number from to) (separately.accepted number from to);
      }

-- Of an accepted search for several patterns, and of an accepted counting search for each of them
pub put-together : {bytes lengths : List ℕ} {k : ℕ} {T positions positions' numbers numbers' : List ℕ} {r : Answer}
    → WholeSeveral bytes lengths k T positions positions' numbers numbers' r
    → answer_number r ≡ 0
    → (separately : Separately (patterns_of lengths bytes) k T)
    → PutTogether separately positions' numbers' r
put-together contract ok separately = all-together contract ok separately
