-- The way of a method by its number.
use mathlib.Core.Path.{◌≡◌, refl}
use mathlib.Core.List.{List}
use Prim.Native.Nat.{ℕ, zero, suc, ◌≤◌}
use native.Mathlib.Nat.{not-suc-le-zero}
use native.Mathlib.Omega.{arith}
use Rattle.jumbled.specs.Scan.{scans, judges}
use Rattle.jumbled.specs.Steps.{count_judged, hcam_judged, ebl_scan, way_of}
use Rattle.chunk_backward.specs.Scans.{scan_of}

pub way-1 : (P : List ℕ) (k method : ℕ) → method ≡ 1 → way_of P k method ≡ judges (count_judged P k)
unfolding way_of
way-1 P k method e = rw e refl

pub way-5 : (P : List ℕ) (k method : ℕ) → method ≡ 5 → way_of P k method ≡ judges (hcam_judged P)
unfolding way_of
way-5 P k method e = rw e refl

pub way-6 : (P : List ℕ) (k method : ℕ) → method ≡ 6 → way_of P k method ≡ scans (ebl_scan P)
unfolding way_of
way-6 P k method e = rw e refl

pub way-backward : (P : List ℕ) (k method : ℕ) → 2 ≤ method → method ≤ 4 → way_of P k method ≡ scans (scan_of P k method)
unfolding way_of scan_of
way-backward P k zero least most = absurd (not-suc-le-zero least)
way-backward P k (suc zero) least most = absurd (omega arith)
way-backward P k (suc (suc zero)) least most = refl
way-backward P k (suc (suc (suc zero))) least most = refl
way-backward P k (suc (suc (suc (suc zero)))) least most = refl
way-backward P k (suc (suc (suc (suc (suc n))))) least most = absurd (omega arith)
