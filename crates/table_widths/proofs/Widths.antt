-- Laws of `lg` and of the widths of fields.
use mathlib.Core.Path.{◌≡◌, refl, sym, ap, ◌∙◌}
use mathlib.Core.Logic.{⊎_elim}
use mathlib.Core.Bool.{Bool, true, false, cond}
use mathlib.Core.List.{List}
use lib.ListN.{length, get_or, take, drop, length-take, length-drop}
use Rattle.std.proofs.lemmas.List.{get_or-drop, get_or-take}
use lib.Dec.{eqb, lit≤}
use Prim.Native.Nat.{ℕ, zero, suc, ◌+◌, ◌-◌, ◌*◌, ◌≤◌, ◌<◌, max, min}
use native.Mathlib.Nat.{max-le}
use native.Mathlib.Omega.{arith}
use borrow.Author.Tests.{ne_eqb}
use Rattle.jumbled.specs.Fields.{first, lg, letter_width, Layout, bam_layout, bam2_layout, abam_layout, no_layout, layout_of, width_of, bits}
use Rattle.jumbled.specs.Match.{cc, sum}
use Rattle.jumbled.proofs.Sums.{below_or_not, sum-zero, sum-suc, sum_zeros}
use Rattle.jumbled.proofs.Counts.{cc-length}
use Rattle.jumbled.specs.Refusals.{is_method}
use Rattle.methods.specs.Numbers.{method_number}
use Rattle.methods.specs.declared.Method.{Method}
use Rattle.methods.specs.declared.Method.TheVariants.{Count, Bam, Bam2, Abam, Hcam, Ebl}
use Rattle.table_parikh.specs.Table.{parikh}
use Rattle.table_parikh.specs.declared.Span.{Span}
use Rattle.table_parikh.proofs.Tables.{tabulated, length-tabulate}
use Rattle.table_parikh.proofs.Spans.{span-start, span_last}
use Rattle.table_widths.specs.Counted.{PatternCounted}
use Rattle.jumbled.proofs.Lg.{lg-least, letter-lg, bam-letters}
use Rattle.jumbled.proofs.Overflow.{Roomy, bam-roomy, bam2-roomy, abam-roomy, width-none, width-own, width-shared}

-- ---- lg

pub lg-le : (v : ℕ) → v ≤ 64 → lg v ≤ 6
lg-le v h = lg-least v 6 (omega arith)

-- a letter's width is at most 8 bits
pub letter-le : (v : ℕ) → v ≤ 64 → letter_width v ≤ 8
letter-le v h = bam-letters.least v 8 (lit≤ tt) (omega arith)

-- the largest has 8
pub letter-largest : letter_width 64 ≡ 8
unfolding letter_width first
letter-largest = refl

-- by which the width of a letter is computed
pub ruleset letter_steps = (lg-le, letter-lg, letter-largest)

-- and those of a method
pub ruleset widths = (lg-le)

-- ---- the layouts by the method's number

layout-2 : (k method : ℕ) → method ≡ 2 → layout_of k method ≡ bam_layout
unfolding layout_of
layout-2 k method e = rw e refl

layout-3 : (k method : ℕ) → method ≡ 3 → layout_of k method ≡ bam2_layout
unfolding layout_of
layout-3 k method e = rw e refl

layout-4 : (k method : ℕ) → method ≡ 4 → layout_of k method ≡ abam_layout k
unfolding layout_of
layout-4 k method e = rw e refl

pub layout-none : (k method : ℕ) → (method ≡ 2 → ⊥) → (method ≡ 3 → ⊥) → (method ≡ 4 → ⊥) → layout_of k method ≡ no_layout
unfolding layout_of
layout-none k method e2 e3 e4 = rw (ne_eqb method 2 e2, ne_eqb method 3 e3, ne_eqb method 4 e4) refl

-- ---- what the proofs use of a layout's widths, for a k and counts of at most 64

-- A width is at most 8 bits
pub record Narrow (L : Layout) : Type 0 where
  pub own-most : (v : ℕ) → v ≤ 64 → L.own v ≤ 8
  pub common-most : L.common ≤ 8

larger-le : (v k : ℕ) → k ≤ 64 → v ≤ 64 → lg (max v k) ≤ 6
larger-le v k hk hv = lg-le (max v k) (max-le hv hk)

-- in each layout of document 01
pub layout-narrow : (k method : ℕ) → k ≤ 64 → Narrow (layout_of k method)
unfolding layout_of
layout-narrow k method h =
    either (eqb method 2) (record { own-most = letter-le; common-most = lit≤ tt })
    (either (eqb method 3) (record { own-most = letter-le; common-most = lit≤ tt })
    (either (eqb method 4)
    (record { own-most = λ v l. omega (arith, larger-le v k h l); common-most = omega (arith, lg-le k h) })
    (record { own-most = λ v l. lit≤ tt; common-most = lit≤ tt })))
  where
    either : {L M : Layout} (t : Bool) → Narrow L → Narrow M → Narrow (cond t L M)
    either true l m = l
    either false l m = m

-- in those of methods 2, 3 and 4, what placing a field asks: room for its start value
pub layout-roomy : (k method : ℕ) → 2 ≤ method → method ≤ 4 → Roomy 0 1 (layout_of k method)
layout-roomy k method l h =
    ⊎_elim (λ (m : method < 3). rw (layout-2 k method (omega arith)) bam-roomy)
    (λ (m : 3 ≤ method).
    ⊎_elim (λ (n : method < 4). rw (layout-3 k method (omega arith)) (at_least bam2-roomy))
    (λ (n : 4 ≤ method). rw (layout-4 k method (omega arith)) (at_least (abam-roomy k))) (below_or_not method 4)) (below_or_not method 3)
  where
    at_least : {j q : ℕ} {L : Layout} → Roomy j (suc q) L → Roomy 0 1 L
    at_least r =
        record {
          starts = r.starts;
          own-holds = λ v p. omega (arith, r.own-holds v p);
          common-some = r.common-some;
          common-holds = omega (arith, r.common-holds);
        }

-- ---- the widths of a pattern's fields

-- a counter is how often the pattern has the byte
pub count-is : (P counts : List ℕ) (c : ℕ) → counts ≡ parikh P → c < 256 → get_or counts c 0 ≡ cc P c
unfolding parikh
count-is P counts c e l = tabulated 256 (cc P) e c l

width-most : (P : List ℕ) (L : Layout) (f : ℕ) → length P ≤ 64 → Narrow L → width_of P L f ≤ 8
unfolding width_of
width-most P L f h n = either (eqb f 256) n.common-most (either (eqb (cc P f) 0) (lit≤ tt) (n.own-most (cc P f) (omega (arith, cc-length P f))))
  where
    either : {a b : ℕ} (t : Bool) → a ≤ 8 → b ≤ 8 → cond t a b ≤ 8
    either true l m = l
    either false l m = m

-- and their sum
pub widths-most : (P : List ℕ) (L : Layout) (n : ℕ) → length P ≤ 64 → Narrow L → sum n (width_of P L) ≤ 8 * n
unfolding sum
widths-most P L zero h r = lit≤ tt
widths-most P L (suc n) h r = omega (arith, widths-most P L n h r, width-most P L n h r)

-- the counter at a place of a part of the counts
pub part_count : (counts : List ℕ) (lo past i : ℕ) → i < length (take (past - lo) (drop lo counts))
    → (lo + i < past) × (get_or counts (lo + i) 0 ≡ get_or (take (past - lo) (drop lo counts)) i 0)
part_count counts lo past i inside =
    let within : i < past - lo = omega (arith, length-take (past - lo) (drop lo counts)) in
    (omega arith, sym (get_or-take (past - lo) (drop lo counts) i 0 within ∙ get_or-drop lo counts i 0))

-- the widths of the bytes below one are summed up where the span begins,
module _ {P counts : List ℕ} {span : Span} (of : PatternCounted P counts span) (L : Layout) where
  lacking : (total c : ℕ) → c ≤ 255 → cc P c ≡ 0 → total ≡ sum c (width_of P L) → total ≡ sum (suc c) (width_of P L)
  lacking total c l none e = omega (arith, sum-suc c (width_of P L), width-none P L c (omega arith) none)

  pub sum-begin : 0 ≡ sum (min span.low span.past) (width_of P L)
  sum-begin = span-start P (λ n. 0 ≡ sum n (width_of P L)) (λ n l. lacking 0 n (omega arith)) of.spanned (sym (sum-zero (width_of P L)))

  -- at each of its bytes, of which x is the counter, be it one that the pattern has or not,
  module _ (lo i x : ℕ) (inside : lo + i < span.past) (counter : get_or counts (lo + i) 0 ≡ x) where
    byte : lo + i ≤ 255
    byte = omega (arith, of.spanned.bytes)

    is : x ≡ cc P (lo + i)
    is = sym counter ∙ count-is P counts (lo + i) of.counts-are (omega (arith, byte))

    pub few-in-span : x ≤ 64
    few-in-span = omega (arith, is, of.short, cc-length P (lo + i))

    pub sum-own : (total width : ℕ) → 0 < x → width ≡ L.own x → total ≡ sum (lo + i) (width_of P L) → total + width ≡ sum (lo + (i + 1)) (width_of P L)
    sum-own total width has e so_far =
        let w : width ≡ width_of P L (lo + i) = e ∙ ap L.own is ∙ sym (width-own P L (lo + i) (omega (arith, byte)) (omega (arith, is))) in
        let next : lo + (i + 1) ≡ suc (lo + i) = omega arith in
        rw next (omega (arith, so_far, w, sum-suc (lo + i) (width_of P L)))

    pub sum-none : (total : ℕ) → x ≤ 0 → total ≡ sum (lo + i) (width_of P L) → total ≡ sum (lo + (i + 1)) (width_of P L)
    sum-none total none so_far =
        let next : lo + (i + 1) ≡ suc (lo + i) = omega arith in
        rw next (lacking total (lo + i) byte (omega (arith, is)) so_far)

  -- all of them,
  pub part-length : (lo : ℕ) → length (take (span.past - lo) (drop lo counts)) ≡ span.past - lo
  unfolding parikh
  part-length lo =
      let all : length counts ≡ 256 = ap length of.counts-are ∙ length-tabulate 256 (cc P) in
      omega (arith, all, of.spanned.bytes, length-take (span.past - lo) (drop lo counts), length-drop lo counts)

  -- and past its end
  pub sum-end : (total c : ℕ) → span.past ≤ c → c ≤ 256 → total ≡ sum c (width_of P L) → total ≡ sum 256 (width_of P L)
  sum-end total c past within so_far =
      let here : min c 256 ≡ c = omega arith in
      span_last P (λ n. total ≡ sum n (width_of P L)) (λ n l. lacking total n (omega arith)) of.spanned c past (rw here so_far)

-- the own fields' bits, and the shared field's
pub bits-split : (P : List ℕ) (L : Layout) → bits P L ≡ sum 256 (width_of P L) + L.common
unfolding bits
bits-split P L = sum-suc 256 (width_of P L) ∙ ap (λ (n : ℕ). sum 256 (width_of P L) + n) (width-shared P L)

-- a method without fields needs none
pub widths_none : (n : ℕ) (P : List ℕ) (L : Layout) → L ≡ no_layout → sum n (width_of P L) ≡ 0
unfolding width_of
widths_none n P L e = rw e (sum_zeros n (width_of P no_layout) (λ f. either (eqb f 256) (either (eqb (cc P f) 0) refl)))
  where
    either : {a : ℕ} (t : Bool) → a ≡ 0 → cond t 0 a ≡ 0
    either true h = refl
    either false h = h

pub bits_none : (P : List ℕ) (L : Layout) → L ≡ no_layout → bits P L ≡ 0
unfolding bits
bits_none = widths_none 257

pub no_bits : (P : List ℕ) (k : ℕ) (method : Method) → (method ≡ Bam → ⊥) → (method ≡ Bam2 → ⊥) → (method ≡ Abam → ⊥) → bits P (layout_of k (method_number method)) ≡ 0
unfolding layout_of
no_bits P k Count bam bam2 abam = bits_none P no_layout refl
no_bits P k Bam bam bam2 abam = absurd (bam refl)
no_bits P k Bam2 bam bam2 abam = absurd (bam2 refl)
no_bits P k Abam bam bam2 abam = absurd (abam refl)
no_bits P k Hcam bam bam2 abam = bits_none P no_layout refl
no_bits P k Ebl bam bam2 abam = bits_none P no_layout refl

-- nor does a number that no method has: it has no fields
pub unknown_layout : (k number : ℕ) → is_method number ≡ false → layout_of k number ≡ no_layout
unfolding is_method
unknown_layout k number unknown = layout-none k number (differs 2 refl) (differs 3 refl) (differs 4 refl)
  where
    differs : (m : ℕ) → is_method m ≡ true → number ≡ m → ⊥
    differs m known same = let not_known : is_method m ≡ false = rw same at unknown in Prim.cc

pub unknown_bits : (P : List ℕ) (k number : ℕ) → is_method number ≡ false → bits P (layout_of k number) ≡ 0
unknown_bits P k number unknown = bits_none P (layout_of k number) (unknown_layout k number unknown)
