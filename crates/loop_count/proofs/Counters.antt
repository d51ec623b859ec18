-- How the counters and the excess of a sliding window follow the bytes that enter and leave it.
use mathlib.Core.Path.{◌≡◌, refl, sym, ap, ◌∙◌}
use mathlib.Core.Bool.{Bool, true, false, cond}
use mathlib.Core.List.{List, [], ◌∷◌, ◌++◌}
use Prim.Native.Nat.{ℕ, ◌+◌, ◌-◌, ◌≤◌, ◌<◌}
use native.Mathlib.Omega.{arith}
use lib.Dec.{leb, eqb}
use lib.ListN.{length, get_or, set, replicate}
use mir.Val.{bool_byte}
use borrow.Author.Tests.{eq-eqb, eqb-true}
use Rattle.jumbled.specs.Match.{Bytes, bit, cc, used_up, excess}
use Rattle.jumbled.proofs.Counts.{cc-cons, cc-length, excess-nil, excess-cons, excess-snoc, excess-length}
use Rattle.table_parikh.specs.Table.{parikh, allowances}
use Rattle.table_parikh.proofs.Tables.{tabulate-ext, tabulate-set}
use Rattle.table_parikh.proofs.Parikh.{get_or-parikh, parikh-nil, parikh-snoc}
use Rattle.table_parikh.proofs.Excess.{spent}
use Rattle.table_parikh.proofs.Lost.{byte-bit, byte_le}
use Rattle.loop_count.specs.Counting.{Counting}

-- the first byte leaves
parikh-less : (U : List ℕ) (b : ℕ) → b < 256 → set (parikh (b ∷ U)) b (get_or (parikh (b ∷ U)) b 0 - 1) ≡ parikh U
unfolding parikh
parikh-less U b h =
    tabulate-set 256 (cc (b ∷ U)) b (get_or (parikh (b ∷ U)) b 0 - 1)
    ∙ tabulate-ext 256 (λ c. cond (eqb b c) (get_or (parikh (b ∷ U)) b 0 - 1) (cc (b ∷ U) c)) (cc U) (λ c l. at c (eqb b c) refl)
  where
    at : (c : ℕ) (t : Bool) → eqb b c ≡ t → cond t (get_or (parikh (b ∷ U)) b 0 - 1) (cc (b ∷ U) c) ≡ cc U c
    at c true e =
        let same : b ≡ c = eqb-true b c e in
        let own : cc (b ∷ U) b ≡ 1 + cc U b = rw (cc-cons b U b, eq-eqb b b refl) refl in
        rw (← same) (omega (arith, get_or-parikh (b ∷ U) b h))
    at c false e = cc-cons b U c ∙ ap (λ (t : Bool). bit t + cc U c) e ∙ omega arith

pub counting-none : (P : List ℕ) → Counting P [] (replicate 256 0) 0
counting-none P = record { counters = parikh-nil; exceeding = sym (excess-nil P) }

-- what the code counts of a byte, by the allowances of the pattern and the counters of the bytes U
spent-bit : (P U : List ℕ) {allowed counts : List ℕ} {b : ℕ} → allowed ≡ allowances P → counts ≡ parikh U → length U < 255 → b < 256
    → bool_byte (leb (get_or allowed b 0) (get_or counts b 0)) ≡ bit (used_up P U b)
spent-bit P U known counted few byte = ap bool_byte (spent P U known counted few byte) ∙ byte-bit (used_up P U _)

-- ---- a byte enters

module _ {P U counts : List ℕ} {window_excess : ℕ} (state : Counting P U counts window_excess) where
  pub counting_more : {allowed : List ℕ} {b : ℕ} → allowed ≡ allowances P → length U < 255 → b < 256
      → Counting P (U ++ (b ∷ [])) (set counts b (get_or counts b 0 + 1)) (window_excess + bool_byte (leb (get_or allowed b 0) (get_or counts b 0)))
  counting_more {allowed} {b} known few byte =
      record {
        counters = rw state.counters (parikh-snoc U b byte);
        exceeding = rw (spent-bit P U known state.counters few byte, state.exceeding) (sym (excess-snoc P U b byte));
      }

  -- there is room for it
  pub counter-room : {b : ℕ} → b < 256 → get_or counts b 0 ≤ length U
  counter-room {b} byte = rw (state.counters, get_or-parikh U b byte) (cc-length U b)

  pub excess-room : Bytes U → (t : Bool) → window_excess + bool_byte t ≤ length U + 1
  excess-room bytes t = omega (arith, state.exceeding, excess-length P U bytes, byte_le t)

-- ---- the first byte leaves

module _ {P U counts : List ℕ} {window_excess b : ℕ} (state : Counting P (b ∷ U) counts window_excess) (byte : b < 256) where
  counters-less : set counts b (get_or counts b 0 - 1) ≡ parikh U
  counters-less = rw state.counters (parikh-less U b byte)

  -- what is taken off was there
  pub counter-there : 1 ≤ get_or counts b 0
  counter-there = rw (state.counters, get_or-parikh (b ∷ U) b byte, cc-cons b U b, eq-eqb b b refl) (omega arith)

  module _ {allowed : List ℕ} (known : allowed ≡ allowances P) (few : length U < 255) where
    excess-less : window_excess ≡ excess P U + bool_byte (leb (get_or allowed b 0) (get_or (set counts b (get_or counts b 0 - 1)) b 0))
    excess-less = rw (spent-bit P U known counters-less few byte) (state.exceeding ∙ excess-cons P b U byte)

    pub counting-less : Counting P U (set counts b (get_or counts b 0 - 1))
        (window_excess - bool_byte (leb (get_or allowed b 0) (get_or (set counts b (get_or counts b 0 - 1)) b 0)))
    counting-less = record { counters = counters-less; exceeding = omega (arith, excess-less) }

    pub excess-there : bool_byte (leb (get_or allowed b 0) (get_or (set counts b (get_or counts b 0 - 1)) b 0)) ≤ window_excess
    excess-there = omega (arith, excess-less)
