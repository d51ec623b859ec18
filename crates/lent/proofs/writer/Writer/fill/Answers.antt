-- `Writer::fill` meets its contract: a part of the buffer is overwritten by the byte, over and over.
use Rattle.std.proofs.Common.{◌≡◌, ℕ, List, ◌+◌, ◌-◌, length, take, drop, replicate, refl, sym, ap, ◌∙◌, arith, length-take, length-drop}
use Rattle.std.proofs.lemmas.List.{length-replicate}
use Rattle.lent.proofs.Writing.{written_part}
use Rattle.lent.proofs.writer.Writer.fill.Goals as goal

pub returns : goal.returns
returns c =
    let writer = c.args.self.now in
    let part : List ℕ = take (writer.at + c.args.count - writer.at) (drop writer.at writer.buffer.now) in
    let places : length part ≡ c.args.count = omega (arith, length-take {A = ℕ}, length-drop {A = ℕ}, c.requires.fits, length-replicate c.args.count c.args.byte) in
    let all = ap (λ (n : ℕ). replicate n c.args.byte) places in
    record {
      room = c.requires;
      same_reference = refl;
      written = written_part _ _ _ (c.fill.ensures.after (λ _ same. same) ∙ all) (ap (λ (n : ℕ). writer.at + n) (sym (length-replicate c.args.count c.args.byte)));
    }
