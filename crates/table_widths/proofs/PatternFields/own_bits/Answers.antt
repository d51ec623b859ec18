-- `PatternFields::own_bits` meets its contract: the pattern is the one that was counted.
use Rattle.table_widths.proofs.PatternFields.own_bits.Goals as goal

pub returns : goal.returns
returns c = let fields = c.args.self.now in c.method_own_bits.ensures (record { pattern = fields.pattern.now; counted = fields.counted })
