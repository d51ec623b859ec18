-- Letters as bytes: document 01, its opening paragraph.
use Rattle.std.specs.Prelude.{ℕ, List, [], ◌∷◌}
use Prim.Native.Char.{code}
use Prim.Native.String as Text

-- A text's letters as their ASCII codes
unfoldable pub ascii : Text.String → List ℕ
ascii Text.[] = []
ascii (Text.◌∷◌ ch more) = code ch ∷ ascii more

-- ---- the codes that have a name

abbrev pub newline : ℕ
newline = 10

abbrev pub space : ℕ
space = 32

abbrev pub zero_digit : ℕ
zero_digit = 48
