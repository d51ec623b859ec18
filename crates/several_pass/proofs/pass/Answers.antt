-- `several_pass::pass` meets its contract. The loop's invariant: the pass has come to the window start s.
use Rattle.std.proofs.Common.{◌≡◌, refl, List, ℕ, ◌+◌, ◌-◌, ◌≤◌, length, arith}
use Rattle.jumbled.specs.Match.{Bytes}
use Rattle.several_fields.specs.declared.Fields.{Fields}
use Rattle.several_pass.specs.Passing.{Passable, Startable}
use Rattle.several_pass.proofs.Turns.{several, whole, places, taking, giving, noted-window, noted_nothing, begun, passed, passed_none, rooms-left, rooms-kept}
use Rattle.several_pass.proofs.pass.Goals.{then-word-fields-ne0, else-word-fields-ne0}
use Rattle.several_pass.proofs.pass.Goals as goal

-- the first window's bytes can be taken
abbrev starting : {m count : ℕ} {fields : Fields} {rooms T positions numbers : List ℕ} → Passable m count fields rooms T positions numbers → Bytes T
    → m ≤ length T → Startable m fields T rooms
starting ready bytes enough =
    record {
      of = several ready.of bytes;
      some = ready.of.together.some;
      short = ready.of.together.short;
      enough = enough;
      words = ready.words;
    }

pub returns-then-text-m : goal.returns-then-text-m
returns-then-text-m c ready =
    let bytes : Bytes c.args.text.now = record { below = λ i. (c.type_inv.text i).fits } in
    (passed_none ready.of bytes c.if-text-m.true, rooms-kept ready.of bytes c.if-text-m.true ready.words)

pub start-started-requires : goal.start-started-requires
start-started-requires c = starting c.requires (record { below = λ i. (c.type_inv.text i).fits }) c.if-text-m.false

pub loop-s-init : goal.loop-s-init
loop-s-init c = (
  c.if-text-m.false,
  refl,
  λ ready bytes.
      let started = c.start-started.ensures (starting ready bytes c.if-text-m.false) in
      begun ready.of bytes started.words started.inspected,
)

pub overflow_add-inspections : goal.overflow_add-inspections
overflow_add-inspections c =
    let bytes : Bytes c.args.text.now = record { below = λ i. (c.type_inv.text i).fits } in
    let ready = c.requires.of in
    let running = c.loop-s.invariant.2 c.requires bytes in
    let inside = whole ready bytes c.loop-s.invariant.0 running c.loop-s-test.true in
    omega (arith, running.inspected, inside, ready.together.some, ready.numbered-text)

pub take-word-requires : goal.take-word-requires
take-word-requires c =
    let bytes : Bytes c.args.text.now = record { below = λ i. (c.type_inv.text i).fits } in
    taking c.requires.of bytes c.loop-s.invariant.0 (c.loop-s.invariant.2 c.requires bytes) c.loop-s-test.true

pub note-at-requires : goal.note-at-requires
note-at-requires c =
    let bytes : Bytes c.args.text.now = record { below = λ i. (c.type_inv.text i).fits } in
    let ready = c.requires.of in
    let running = c.loop-s.invariant.2 c.requires bytes in
    let inside = whole ready bytes c.loop-s.invariant.0 running c.loop-s-test.true in
    let room = places ready bytes c.loop-s.invariant.0 running c.loop-s-test.true in
    record {
      few = ready.few;
      numbered-window = omega (arith, inside, ready.together.some, ready.numbered-text);
      positions-room = room.0;
      numbers-room = room.1;
    }

pub give_back-word-requires : goal.give_back-word-requires
give_back-word-requires c =
    let bytes : Bytes c.args.text.now = record { below = λ i. (c.type_inv.text i).fits } in
    let ready = c.requires.of in
    let running = c.loop-s.invariant.2 c.requires bytes in
    giving ready bytes c.loop-s.invariant.0 running c.loop-s-test.true
    (c.take-word.ensures (taking ready bytes c.loop-s.invariant.0 running c.loop-s-test.true))

pub loop-s-preserved : goal.loop-s-preserved
loop-s-preserved c =
    let in-turn = c.loop-s-test.true in
    let enough = c.loop-s.invariant.0 in (
      enough,
      refl,
      λ ready bytes.
          let here = c.loop-s.invariant.2 ready bytes in
          let entered = c.take-word.ensures (taking ready.of bytes enough here in-turn) in
          record {
            within = omega (arith, in-turn);
            words = c.give_back-word.ensures (giving ready.of bytes enough here in-turn entered);
            noted =
                elim c.if-word-fields-ne0.branch [
                  | then-word-fields-ne0 w ↦ rw (w.at-is, w.positions-is, w.numbers-is) (noted-window ready.of bytes enough here in-turn entered w.note-at.ensures)
                  | else-word-fields-ne0 w ↦ rw (w.at-is, w.positions-is, w.numbers-is) (noted_nothing ready.of bytes enough here in-turn entered w.if-word-fields-ne0.false)
                ];
            inspected = omega (arith, here.inspected);
          },
    )

pub returns : goal.returns
returns c ready =
    let bytes : Bytes c.args.text.now = record { below = λ i. (c.type_inv.text i).fits } in
    let ended = c.loop-s.invariant.2 ready bytes in
    let last-start : c.loop-s.s ≡ length c.args.text.now - c.args.m + 1 = omega (arith, ended.within, c.loop-s-test.false) in
    let last = rw last-start at ended in
    (passed ready.of bytes c.loop-s.invariant.0 last, rooms-left ready.of bytes c.loop-s.invariant.0 last)
