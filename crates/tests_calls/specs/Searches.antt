-- A search as the stream has it (tools/vectors_stream.py).
use Rattle.std.specs.Prelude.{List, ℕ}
use Rattle.tests_stream.specs.declared.cases.Fields.{Fields}
use Rattle.tests_outcomes.specs.Digests.{field_bytes}
use Rattle.search.specs.declared.Search.{Search}

-- The bytes that it is digested as: all that it stores, field by field
abbrev pub search_bytes : Search → List ℕ
search_bytes s = field_bytes s.pattern s.pattern_len s.k s.method s.total s.tail s.tail_len

-- The search with the fields that a case fills in by hand
abbrev pub search_of : Fields → Search
search_of f =
    record {
      pattern = f.pattern;
      pattern_len = f.pattern_len;
      k = f.k;
      method = f.method;
      total = f.total;
      tail = f.tail;
      tail_len = f.tail_len;
    }
