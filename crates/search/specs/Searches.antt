-- A search: document 01, "A search and its calls".
use Rattle.std.specs.Prelude.{List, [], ℕ, length, take}
use Rattle.image_form.specs.Image.{Parts, parts_with}
use Rattle.search_state.specs.Stored.{padded}
use Rattle.search.specs.declared.Search.{Search}

-- Its pattern, its tail, and the five parts that it is compared by: bytes past the lengths are in none of them
abbrev pub pattern_of : Search → List ℕ
pattern_of s = take s.pattern_len s.pattern

abbrev pub tail_of : Search → List ℕ
tail_of s = take s.tail_len s.tail

abbrev pub parts_of_search : Search → Parts
parts_of_search s = parts_with (pattern_of s) s.k s.method s.total (tail_of s)

-- The search with these parts and every stored byte past the lengths 0
abbrev pub stored : Parts → Search
stored parts =
    record {
      pattern = padded 64 parts.pattern;
      pattern_len = length parts.pattern;
      k = parts.k;
      method = parts.method;
      total = parts.total;
      tail = padded 63 parts.tail;
      tail_len = length parts.tail;
    }

-- The blank search: method 1, no pattern, no tail, and 0 everywhere else
abbrev pub blank_search : Search
blank_search = stored (parts_with [] 0 1 0 [])
