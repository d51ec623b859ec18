-- Laws of digests, and of loops that digest bytes from the front.
use mathlib.Core.Path.{◌≡◌, refl}
use mathlib.Core.List.{List, [], ◌∷◌, ◌++◌}
use Prim.Native.Nat.{ℕ, zero, suc, ◌+◌, ◌-◌, ◌/◌, ◌%◌, ◌≤◌, ◌<◌}
use native.Mathlib.Omega.{arith}
use lib.ListN.{length, get_or, drop}
use lib.Seq.{drop-cons, drop-nil}
use Rattle.image_form.specs.Image.{low_first}
use Rattle.tests_outcomes.specs.Digests.{digest, digest_step, list_bytes}

pub digest-append : (h : ℕ) (U W : List ℕ) → digest h (U ++ W) ≡ digest (digest h U) W
unfolding digest
digest-append h [] W = refl
digest-append h (b ∷ U) W = digest-append (digest_step h b) U W

-- ---- a loop: what is still to come of some bytes, before a step and after it

pub digest-drop : (h : ℕ) (bytes : List ℕ) (i : ℕ) → i < length bytes
    → digest h (drop i bytes) ≡ digest (digest_step h (get_or bytes i 0)) (drop (i + 1) bytes)
unfolding digest
digest-drop h bytes i inside = let more : i + 1 ≡ suc i = omega arith in rw (more, drop-cons bytes i 0 inside) refl

-- a number that is digested low byte first
pub digest-low : (h left n : ℕ) → 0 < left
    → digest h (low_first left n) ≡ digest (digest_step h (n % 256)) (low_first (left - 1) (n / 256))
unfolding digest low_first
digest-low h zero n some = absurd (omega arith)
digest-low h (suc left) n some =
    let one : suc left - 1 ≡ left = omega arith in
    rw one refl

-- a list, whose places are digested one by one
pub digest-place : (h : ℕ) (list : List ℕ) (i : ℕ) → i < length list
    → digest h (list_bytes (drop i list)) ≡ digest (digest h (low_first 4 (get_or list i 0))) (list_bytes (drop (i + 1) list))
unfolding list_bytes
digest-place h list i inside =
    let more : i + 1 ≡ suc i = omega arith in
    rw (more, drop-cons list i 0 inside) (digest-append h (low_first 4 (get_or list i 0)) (list_bytes (drop (suc i) list)))

-- at the end nothing is to come
drop-none : (U : List ℕ) (i : ℕ) → length U ≤ i → drop i U ≡ []
drop-none [] i h = drop-nil i
drop-none (b ∷ U) zero h = absurd (omega arith)
drop-none (b ∷ U) (suc i) h = drop-none U i (omega arith)

pub digest-end : (h : ℕ) (bytes : List ℕ) (i : ℕ) → length bytes ≤ i → digest h (drop i bytes) ≡ h
unfolding digest
digest-end h bytes i end = rw (drop-none bytes i end) refl

pub digest-list-end : (h : ℕ) (list : List ℕ) (i : ℕ) → length list ≤ i → digest h (list_bytes (drop i list)) ≡ h
unfolding digest list_bytes
digest-list-end h list i end = rw (drop-none list i end) refl

pub digest-low-end : (h left n : ℕ) → left ≤ 0 → digest h (low_first left n) ≡ h
unfolding digest low_first
digest-low-end h zero n none = refl
digest-low-end h (suc left) n none = absurd (omega arith)
