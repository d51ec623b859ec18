-- What a digest notices: of two sequences of bytes that differ at one place the digests differ.
use mathlib.Core.Path.{◌≡◌, refl}
use mathlib.Core.List.{List, [], ◌∷◌, ◌++◌}
use Prim.Native.Nat.{ℕ, ◌+◌, ◌-◌, ◌*◌, ◌/◌, ◌<◌}
use native.Mathlib.Omega.{arith}
use Rattle.tests_outcomes.specs.Digests.{digest, digest_step}
use Rattle.tests_outcomes.proofs.Digesting.{digest-append}

-- 251 has no divisor in common with the modulus: a multiple of both is 0, or is at least 251 times the modulus
common : (d e : ℕ) → 251 * d ≡ 72057594037927931 * e → d < 72057594037927931 → d ≡ 0
common d e same small = none d (4880394815317828 * e - 17 * d) (omega arith) small
  where
    none : (d t : ℕ) → d ≡ 72057594037927931 * t → d < 72057594037927931 → d ≡ 0
    none d t multiple small = omega arith

-- so a step loses nothing of the digest before it
step_keeps : (h j b : ℕ) → h < 72057594037927931 → j < 72057594037927931 → digest_step h b ≡ digest_step j b → h ≡ j
step_keeps h j b small small' e =
    let x = (h * 251 + b + 1) / 72057594037927931 in
    let y = (j * 251 + b + 1) / 72057594037927931 in
    let most : h - j ≡ 0 = common (h - j) (x - y) (omega arith) (omega arith) in
    let least : j - h ≡ 0 = common (j - h) (y - x) (omega arith) (omega arith) in
    omega arith

digest-keeps : (W : List ℕ) (h j : ℕ) → h < 72057594037927931 → j < 72057594037927931 → digest h W ≡ digest j W → h ≡ j
unfolding digest
digest-keeps [] h j small small' e = e
digest-keeps (b ∷ W) h j small small' e =
    step_keeps h j b small small' (digest-keeps W (digest_step h b) (digest_step j b) (omega arith) (omega arith) e)

-- two bytes differ by less than the modulus
byte-kept : (h a b : ℕ) → a < 256 → b < 256 → digest_step h a ≡ digest_step h b → a ≡ b
byte-kept h a b small small' e = omega arith

-- a single wrong byte is noticed
pub one-byte-noticed : (h : ℕ) (U W : List ℕ) (a b : ℕ) → a < 256 → b < 256
    → digest h (U ++ (a ∷ W)) ≡ digest h (U ++ (b ∷ W)) → a ≡ b
unfolding digest
one-byte-noticed h U W a b small small' e =
    byte-kept (digest h U) a b small small'
    (digest-keeps W (digest_step (digest h U) a) (digest_step (digest h U) b) (omega arith) (omega arith)
    (rw (digest-append h U (a ∷ W), digest-append h U (b ∷ W)) at e))

-- two wrong bytes can cancel each other: one more, and the next 251 less
pub two-bytes-unnoticed : digest 0 (0 ∷ 251 ∷ []) ≡ digest 0 (1 ∷ 0 ∷ [])
unfolding digest
two-bytes-unnoticed = refl
