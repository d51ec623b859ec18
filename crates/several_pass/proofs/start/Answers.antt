-- `several_pass::start` meets its contract. The loop's invariant: the bytes before the one at hand are taken.
use Rattle.std.proofs.Common.{◌≡◌, ◌∙◌, List, [], ◌∷◌, ◌++◌, ℕ, ◌+◌, ◌-◌, ◌<◌, length, get_or, take, length-take, arith}
use Rattle.std.proofs.lemmas.List.{get_or-take}
use Rattle.jumbled.specs.Match.{Bytes}
use Rattle.jumbled.proofs.Counts.{bytes_take}
use Rattle.table_parikh.proofs.Letters.{take_more}
use Rattle.several_fields.specs.declared.Fields.{Fields}
use Rattle.several_fields.specs.Words.{WordsOf, Taking}
use Rattle.several_pass.specs.Passing.{Startable}
use Rattle.several_pass.proofs.start.Goals as goal

-- the byte at i can be taken after those before it
abbrev taking : {m i word : ℕ} {fields : Fields} {T rooms rooms' : List ℕ} → (ready : Startable m fields T rooms) → Bytes T → i < length (take (m - 1) T)
    → WordsOf ready.of (take i T) word rooms' → Taking fields word (get_or (take (m - 1) T) i 0) rooms'
taking {m} {i} {T = T} ready bytes left words =
    record {
      of = ready.of;
      taken = take i T;
      bytes = bytes_take i T bytes;
      short = omega (arith, length-take i T, length-take (m - 1) T, ready.short);
      words = words;
    }

-- it is the text's byte there
taken : (m : ℕ) {i : ℕ} (T : List ℕ) → i < length (take (m - 1) T) → take i T ++ (get_or (take (m - 1) T) i 0 ∷ []) ≡ take (i + 1) T
taken m {i} T left =
    let within : i < m - 1 = omega (arith, length-take (m - 1) T) in
    rw (get_or-take (m - 1) T i 0 within) (take_more T i (omega (arith, length-take (m - 1) T)))

pub loop-byte-preserved : goal.loop-byte-preserved
loop-byte-preserved c =
    let bytes : Bytes c.args.text.now = record { below = λ k. (c.type_inv.text k).fits } in (
      omega (arith, c.loop-byte.invariant.0),
      λ ready.
          rw (taken c.args.m c.args.text.now c.loop-byte-test.true) at
          (c.take-word.ensures (taking ready bytes c.loop-byte-test.true (c.loop-byte.invariant.1 ready))),
    )

pub returns : goal.returns
returns c ready =
    let at = c.loop-byte in
    let same : at.byte-index ≡ c.args.m - 1 = omega (arith, length-take (c.args.m - 1) c.args.text.now, ready.enough) in
    record {
      words = rw same at (at.invariant.1 ready);
      inspected = at.invariant.0 ∙ same;
    }

pub take-word-requires : goal.take-word-requires
take-word-requires c =
    taking c.requires (record { below = λ k. (c.type_inv.text k).fits }) c.loop-byte-test.true (c.loop-byte.invariant.1 c.requires)
