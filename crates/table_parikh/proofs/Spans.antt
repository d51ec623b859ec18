-- A table is made from the bytes of a span alone, where a byte that the pattern lacks changes nothing.
use mathlib.Core.Path.{◌≡◌}
use mathlib.Core.List.{List}
use Prim.Native.Nat.{ℕ, zero, suc, ◌+◌, ◌-◌, ◌≤◌, ◌<◌, min}
use native.Mathlib.Nat.{add-zero, add-suc, zero-add}
use native.Mathlib.Omega.{arith}
use Rattle.jumbled.specs.Match.{cc}
use Rattle.table_parikh.specs.Letters.{Spanned}
use Rattle.table_parikh.specs.declared.Span.{Span}

-- What holds of the bytes below one that the pattern lacks holds with it too
module _ (P : List ℕ) (Q : ℕ → Type 0) (lacking : (c : ℕ) → c < 256 → cc P c ≡ 0 → Q c → Q (suc c)) where
  pass-over : (a n : ℕ) → a + n ≤ 256 → ((c : ℕ) → a ≤ c → c < a + n → cc P c ≡ 0) → Q a → Q (a + n)
  pass-over a zero within lack q = rw (add-zero a) q
  pass-over a (suc n) within lack q =
      rw (add-suc a n) (lacking (a + n) (omega arith) (lack (a + n) (omega arith) (omega arith)) (pass-over a n (omega arith) (λ c l h. lack c l (omega arith)) q))

  module _ {r : Span} (spanned : Spanned P r) where
    -- so it holds where the span begins
    pub span-first : Q 0 → Q (min r.low 256)
    span-first q = rw (zero-add (min r.low 256)) at (pass-over 0 (min r.low 256) (omega arith) (λ c l h. spanned.below c (omega arith)) q)

    -- also where it is empty
    pub span-start : Q 0 → Q (min r.low r.past)
    span-start q = rw (zero-add (min r.low r.past)) at (pass-over 0 (min r.low r.past) (omega (arith, spanned.bytes)) (λ c l h. spanned.below c (omega arith)) q)

    -- and, where it holds at the span's end, of all bytes
    pub span_last : (byte : ℕ) → r.past ≤ byte → Q (min byte 256) → Q 256
    span_last byte past q =
        let all : min byte 256 + (256 - min byte 256) ≡ 256 = omega arith in
        rw all at (pass-over (min byte 256) (256 - min byte 256) (omega arith) (λ c l h. spanned.above c (omega arith)) q)
