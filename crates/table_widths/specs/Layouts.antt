-- The widths of a pattern's fields, by its method and k.
use Rattle.jumbled.specs.Fields.{Layout, layout_of}
use Rattle.methods.specs.Numbers.{method_number}
use Rattle.table_widths.specs.declared.PatternFields.{PatternFields}

abbrev pub layout : PatternFields → Layout
layout fields = layout_of fields.k (method_number fields.method)
