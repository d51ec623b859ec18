-- A window while it is read from its right end: the steps that take a byte or two, the word, and where the scan stands.
use mathlib.Core.Path.{◌≡◌, refl, sym, ap, ◌∙◌}
use mathlib.Core.Bool.{Bool, true, false, cond}
use mathlib.Core.List.{List, [], ◌∷◌, ◌++◌, reverse, reverse-append}
use Prim.Native.Nat.{ℕ, suc, ◌+◌, ◌-◌, ◌≤◌, ◌<◌}
use native.Mathlib.Omega.{arith}
use lib.ListN.{length, get_or, take, drop, length-take, take-append-drop}
use lib.Seq.{take-suc, drop-cons, drop-drop, drop-length, take-length}
use borrow.Author.Tests.{ltb-false}
use Rattle.jumbled.specs.Match.{Bytes, excess}
use Rattle.jumbled.specs.Scan.{Scanned, completed, stopped, scan, singles, pairs}
use Rattle.jumbled.specs.Fields.{Layout, field_count, width_of, value_of}
use Rattle.jumbled.proofs.Counts.{bytes_take, bytes_drop, excess-nil, excess-append}
use Rattle.jumbled.proofs.Scans.{Exact}
use Rattle.jumbled.proofs.Overflow.{Roomy, no-carry}
use Rattle.table_parikh.proofs.Tables.{get_d_tabulate}
use Rattle.table_packed.specs.Word.{added, Packed}
use Rattle.table_packed.specs.declared.Word.{Word}
use Rattle.table_packed.proofs.Packs.{ValuesFit}
use Rattle.table_packed.proofs.Values.{word_of, word-nil, word-cons}

-- ---- the steps

-- A step that takes the bytes of W from the one numbered d up to that before e: they are the next group of the cut
pub record Group (cut : List ℕ → List (List ℕ)) (W : List ℕ) (d e : ℕ) : Type 0 where
  pub group : List ℕ
  pub taken : cut (reverse (take e W)) ≡ group ∷ cut (reverse (take d W))
  pub joined : group ++ drop e W ≡ drop d W

module _ (W : List ℕ) where
  rightmost : (d : ℕ) → d < length W → reverse (take (suc d) W) ≡ get_or W d 0 ∷ reverse (take d W)
  rightmost d h = ap reverse (take-suc W d 0 h) ∙ reverse-append (take d W) (get_or W d 0 ∷ [])

  pub one_byte : (d : ℕ) → d < length W → Group singles W d (suc d)
  unfolding singles
  one_byte d h = record { group = get_or W d 0 ∷ []; taken = ap singles (rightmost d h); joined = sym (drop-cons W d 0 h) }

  pub two_bytes : (d : ℕ) → suc d < length W → Group pairs W d (suc (suc d))
  unfolding pairs
  two_bytes d h =
      let h' : d < length W = omega arith in
      record {
        group = get_or W d 0 ∷ get_or W (suc d) 0 ∷ [];
        taken = ap pairs (rightmost (suc d) h ∙ ap (λ (l : List ℕ). get_or W (suc d) 0 ∷ l) (rightmost d h'));
        joined = sym (drop-cons W d 0 h' ∙ ap (λ (l : List ℕ). get_or W d 0 ∷ l) (drop-cons W (suc d) 0 h));
      }

  -- the leftmost byte alone
  pub leftmost : 0 < length W → Group pairs W 0 1
  unfolding pairs
  leftmost h = record { group = get_or W 0 0 ∷ []; taken = ap pairs (rightmost 0 h); joined = sym (drop-cons W 0 0 h) }

  -- a step of n bytes adds n to the excess at most
  pub grown : (P : List ℕ) → Bytes W → (n d : ℕ) → excess P (drop d W) ≤ n + excess P (drop (d + n) W)
  grown P hW n d =
      omega (
        arith,
        ap (excess P) (take-append-drop n (drop d W)),
        ap (excess P) (ap (λ (l : List ℕ). take n (drop d W) ++ l) (drop-drop n d W)),
        excess-append P (take n (drop d W)) (drop (d + n) W) (bytes_take n (drop d W) (bytes_drop d W hW)),
        length-take n (drop d W),
      )

-- ---- the word

module _ (P : List ℕ) (layout : Layout) where
  -- the unit of the byte numbered d is added
  pub unit-added : {packing : Word} {units : List ℕ} → Packed P layout packing units → (W : List ℕ) → Bytes W → (d word : ℕ) → d < length W → word ≡ word_of P layout (drop (suc d) W)
      → word + get_or units (get_or W d 0) 0 ≡ word_of P layout (drop d W)
  unit-added {units = units} packed W hW d word h e =
      rw (e, packed.units-are, get_d_tabulate 256 (added P layout) (get_or W d 0) (hW.below d), drop-cons W d 0 h)
      (word-cons P layout (get_or W d 0) (drop (suc d) W))

-- ---- the scan

-- A method by its fields, the excess that it tolerates, its test, how it cuts a window into steps, and how many bytes a step takes at most
pub record Method : Type 0 where
  pub layout : Layout
  pub tolerance : ℕ
  pub stop : List ℕ → Bool
  pub cut : List ℕ → List (List ℕ)
  pub most : ℕ

-- The method's scan of a window
abbrev pub scanned_by : List ℕ → Method → List ℕ → Scanned
scanned_by P M W = scan M.stop (length P) [] (M.cut (reverse W))

-- What it shows: its fields have room, its test tells an excess over what it tolerates, and nothing is left to cut of no bytes
pub record Lawful (P : List ℕ) (M : Method) : Type 0 where
  pub roomy : Roomy M.tolerance M.most M.layout
  pub exact : Exact P M.tolerance M.most M.stop
  pub ends : M.cut [] ≡ []

-- Of the window W the first `left` bytes are still to be read. The word holds those read, whose excess is tolerated.
pub record Reading (P : List ℕ) (M : Method) (W : List ℕ) (left word : ℕ) : Type 0 where
  pub still : scanned_by P M W ≡ scan M.stop (length P) (drop left W) (M.cut (reverse (take left W)))
  pub holds : word ≡ word_of P M.layout (drop left W)
  pub allowed : excess P (drop left W) ≤ M.tolerance

pub reading-first : (P : List ℕ) (M : Method) {packing : Word} {units : List ℕ} → Packed P M.layout packing units → (W : List ℕ) → Reading P M W (length W) packing.start
reading-first P M packed W =
    record {
      still = rw (drop-length W, take-length W) refl;
      holds = rw (drop-length W) (packed.start ∙ sym (word-nil P M.layout));
      allowed = rw (drop-length W, excess-nil P) (omega arith);
    }

-- all of the window was read
pub reading-end : {P : List ℕ} {M : Method} → Lawful P M → {W : List ℕ} {word : ℕ} → Reading P M W 0 word → scanned_by P M W ≡ completed W
unfolding scan
reading-end {P} {M} lawful {W} reading = reading.still ∙ ap (scan M.stop (length P) W) lawful.ends

-- bytes are added, from the one before e down to that numbered d
module _ {P : List ℕ} {M : Method} (lawful : Lawful P M) {W : List ℕ} (hW : Bytes W) {e word : ℕ} (reading : Reading P M W e word) (d : ℕ) (lower : d ≤ e) (near : e ≤ d + M.most) where
  -- the excess is at most as far over what is tolerated as a step goes,
  reading-excess : excess P (drop d W) ≤ M.tolerance + M.most
  reading-excess = omega (arith, grown-upto, reading.allowed)
    where
      grown-upto : excess P (drop d W) ≤ (e - d) + excess P (drop e W)
      grown-upto = let same : d + (e - d) ≡ e = omega arith in rw same at (grown W P hW (e - d) d)

  -- so no field carries
  pub reading-fitting : Bytes P → ValuesFit (width_of P M.layout) (value_of P M.layout (drop d W)) field_count
  reading-fitting bytes f h = no-carry P M.tolerance M.most M.layout bytes lawful.roomy (drop d W) f (bytes_drop d W hW) reading-excess h

  -- and where they are a step, the test follows
  module _ (group : Group M.cut W d e) where
    stepped : scanned_by P M W ≡ cond (M.stop (drop d W)) (stopped (length P) (drop d W)) (scan M.stop (length P) (drop d W) (M.cut (reverse (take d W))))
    unfolding scan
    stepped =
        reading.still
        ∙ ap (scan M.stop (length P) (drop e W)) group.taken
        ∙ ap (λ (R : List ℕ). cond (M.stop R) (stopped (length P) R) (scan M.stop (length P) R (M.cut (reverse (take d W))))) group.joined

    pub reading-stop : M.stop (drop d W) ≡ true → scanned_by P M W ≡ stopped (length P) (drop d W)
    reading-stop t = rw t at stepped

    pub reading-on : {next : ℕ} → next ≡ word_of P M.layout (drop d W) → M.stop (drop d W) ≡ false → Reading P M W d next
    reading-on holds t =
        record {
          still = rw t at stepped;
          holds = holds;
          allowed = ltb-false M.tolerance (excess P (drop d W)) (sym (lawful.exact.tells (drop d W) (bytes_drop d W hW) reading-excess) ∙ t);
        }
