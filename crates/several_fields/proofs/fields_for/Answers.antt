-- `several_fields::fields_for` meets its contract.
use mathlib.Core.Path.{◌≡◌, refl, ap, ◌∙◌}
use Prim.Native.Nat.{ℕ, ◌+◌, ◌-◌, ◌*◌, ◌%◌, ◌^◌, ◌≤◌, ◌<◌}
use native.Mathlib.Nat.{one-mul}
use native.Mathlib.Omega.{arith}
use lib.Dec.{lit<}
use Rattle.table_packed.specs.Pack.{pack}
use Rattle.table_packed.proofs.Packs.{pack-ext}
use Rattle.several_form.specs.Mcount.{top_value}
use Rattle.several_fields.specs.Words.{field_bits, packed}
use Rattle.several_fields.proofs.Packing.{packed_more, unit-at, packed-fits, packed-scale}
use Rattle.several_fields.proofs.fields_for.Goals as goal

-- one number in every field
each : (x count : ℕ) → packed (λ f. 1) count * x ≡ packed (λ f. x) count
each x count = packed-scale (λ f. 1) x count ∙ pack-ext field_bits (λ f. 1 * x) (λ f. x) count (λ f l. one-mul x)

pub loop-field-preserved : goal.loop-field-preserved
loop-field-preserved c =
    let one_more : let at = c.loop-field in
    at.ones + (1 * 2 ^ (8 * at.field)) % 2 ^ 64 ≡ packed (λ f. 1) (at.field + 1) = let at = c.loop-field in
    let few : at.field < 8 = omega (arith, c.requires.0, c.loop-field-test.true) in
    omega (arith, at.invariant.1, unit-at at.field few, packed_more (λ f. 1) at.field) in
    (omega (arith, c.loop-field-test.true), one_more)

pub returns : goal.returns
returns c =
    let all_ones : c.loop-field.ones ≡ packed (λ f. 1) c.args.count = let same : c.loop-field.field ≡ c.args.count = omega (arith, c.loop-field.invariant.0, c.loop-field-test.false) in
    c.loop-field.invariant.1 ∙ ap (packed (λ f. 1)) same in
    let scaled : (x : ℕ) → c.loop-field.ones * x ≡ packed (λ f. x) c.args.count = λ x. ap (λ (ones : ℕ). ones * x) all_ones ∙ each x c.args.count in
    record { ones-are = all_ones; tops_are = scaled top_value; start_is = scaled (top_value - c.args.waiting) }

pub loop-field-init : goal.loop-field-init
unfolding pack
loop-field-init c = (omega arith, refl)

pub overflow_add-ones : goal.overflow_add-ones
overflow_add-ones c =
    let one_more : let at = c.loop-field in
    at.ones + (1 * 2 ^ (8 * at.field)) % 2 ^ 64 ≡ packed (λ f. 1) (at.field + 1) = let at = c.loop-field in
    let few : at.field < 8 = omega (arith, c.requires.0, c.loop-field-test.true) in
    omega (arith, at.invariant.1, unit-at at.field few, packed_more (λ f. 1) at.field) in
    let few : c.loop-field.field + 1 ≤ 8 = omega (arith, c.requires.0, c.loop-field-test.true) in
    record { fits = rw one_more (packed-fits (λ f. 1) (c.loop-field.field + 1) few (λ f l. lit< tt)) }

pub overflow_mul-result : goal.overflow_mul-result
overflow_mul-result c =
    let all_ones : c.loop-field.ones ≡ packed (λ f. 1) c.args.count = let same : c.loop-field.field ≡ c.args.count = omega (arith, c.loop-field.invariant.0, c.loop-field-test.false) in
    c.loop-field.invariant.1 ∙ ap (packed (λ f. 1)) same in
    let scaled : (x : ℕ) → c.loop-field.ones * x ≡ packed (λ f. x) c.args.count = λ x. ap (λ (ones : ℕ). ones * x) all_ones ∙ each x c.args.count in
    let scaled_fits : (x : ℕ) → x < 256 → c.loop-field.ones * x < 2 ^ 64 = λ x small. rw (scaled x) (packed-fits (λ f. x) c.args.count c.requires.0 (λ f l. small)) in
    record { fits = scaled_fits 128 (lit< tt) }

pub overflow_mul-result-2 : goal.overflow_mul-result-2
overflow_mul-result-2 c =
    let all_ones : c.loop-field.ones ≡ packed (λ f. 1) c.args.count = let same : c.loop-field.field ≡ c.args.count = omega (arith, c.loop-field.invariant.0, c.loop-field-test.false) in
    c.loop-field.invariant.1 ∙ ap (packed (λ f. 1)) same in
    let scaled : (x : ℕ) → c.loop-field.ones * x ≡ packed (λ f. x) c.args.count = λ x. ap (λ (ones : ℕ). ones * x) all_ones ∙ each x c.args.count in
    let scaled_fits : (x : ℕ) → x < 256 → c.loop-field.ones * x < 2 ^ 64 = λ x small. rw (scaled x) (packed-fits (λ f. x) c.args.count c.requires.0 (λ f l. small)) in
    record { fits = scaled_fits (128 - c.args.waiting) (omega arith) }
