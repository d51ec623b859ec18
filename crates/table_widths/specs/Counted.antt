-- What the fields of a pattern are measured by.
use Rattle.std.specs.Prelude.{◌≡◌, List, ℕ, ◌≤◌, length}
use Rattle.jumbled.specs.Match.{Bytes}
use Rattle.table_parikh.specs.Table.{parikh}
use Rattle.table_parikh.specs.Letters.{Spanned}
use Rattle.table_parikh.specs.declared.Span.{Span}

-- The counts and the span of a pattern of at most 64 bytes
pub record PatternCounted (pattern counts : List ℕ) (span : Span) : Type 0 where
  pub bytes : Bytes pattern
  pub short : length pattern ≤ 64
  pub counts-are : counts ≡ parikh pattern
  pub spanned : Spanned pattern span

-- The same, whichever the pattern is
pub record SomeCounted (counts : List ℕ) (span : Span) : Type 0 where
  pub pattern : List ℕ
  pub counted : PatternCounted pattern counts span
