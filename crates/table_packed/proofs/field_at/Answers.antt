-- `table_packed::field_at` meets its contract: each shift moves a number of the field's width, so no bit is lost. Assumes nothing.
use mathlib.Core.Path.{◌≡◌, sym, ap, ◌∙◌}
use Prim.Native.Nat.{ℕ, ◌*◌, ◌-◌, ◌%◌, ◌^◌, ◌≤◌, ◌<◌}
use native.Mathlib.Nat.{one-mul}
use native.Mathlib.Omega.{arith}
use lib.Dec.{lit<}
use lib.Pow.{pow-lt, shl_exact}
use Rattle.table_packed.proofs.Packs.{top_bit-pred}
use Rattle.table_packed.proofs.field_at.Goals as goal

-- the top bit, before it is moved to its place
top-is : (width : ℕ) → 1 ≤ width → width ≤ 64 → (1 * 2 ^ (width - 1)) % 2 ^ 64 ≡ 2 ^ (width - 1)
top-is width l h = shl_exact {a = 1} 1 (width - 1) 64 (lit< tt) (omega arith) ∙ one-mul (2 ^ (width - 1))

pub returns : goal.returns
returns c =
    let a = c.args in
    let g = a.width in
    let top = top-is g (omega arith) (omega arith) in
    let below : 2 ^ (g - 1) < 2 ^ g = pow-lt (omega arith) in
    record {
      start =
          ap (λ (x : ℕ). ((x - a.count - 1) * 2 ^ a.at) % 2 ^ 64) top
          ∙ shl_exact {a = 2 ^ (g - 1) - a.count - 1} g a.at 64 (omega arith) (omega arith);
      unit = shl_exact {a = 1} 1 a.at 64 (lit< tt) (omega arith) ∙ one-mul (2 ^ a.at);
      top =
          ap (λ (x : ℕ). (x * 2 ^ a.at) % 2 ^ 64) top
          ∙ shl_exact {a = 2 ^ (g - 1)} g a.at 64 below (omega arith)
          ∙ ap (λ (x : ℕ). x * 2 ^ a.at) (sym (top_bit-pred g (omega arith)));
    }
