-- `search::Search::checked` meets its contract.
use Rattle.std.proofs.Common.{◌≡◌, length, sym, rules}
use Rattle.search.proofs.Handed.{handed-long, handed-short}
use Rattle.search.proofs.Search.checked.Goals as goal

pub returns-then-self-gt-LONGEST_PATTERN : goal.returns-then-self-gt-LONGEST_PATTERN
returns-then-self-gt-LONGEST_PATTERN c = record { number = handed-long c.args.self.now c.if-self-gt-LONGEST_PATTERN.true; taken = tt }

pub returns : goal.returns
returns c =
    let pattern-long : length c.args.self.now.pattern ≡ 64 = search rules in
    let same = handed-short c.args.self.now c.if-self-gt-LONGEST_PATTERN.false pattern-long in
    rw (same, sym c.own_pattern-pattern.ensures) c.admit_parts.ensures
