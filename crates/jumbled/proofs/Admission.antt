-- What it says that nothing of a list of tests is given. A call's tests are taken apart by the laws of `given` and `++` alone, and each
-- condition by the law of its own list, so that a new test changes the laws of the list that it stands in.
use mathlib.Core.Path.{◌≡◌, refl, sym, ap, ◌∙◌}
use mathlib.Core.Bool.{Bool, true, false, cond, ◌&&◌, ◌||◌, true≢false}
use mathlib.Core.List.Memᴰ
use mathlib.Core.List.{List, [], ◌∷◌, ◌++◌, map, append_assoc, Memᴰ}
use mathlib.Core.Logic.{⊎_elim}
use Prim.Native.Nat.{ℕ, zero, suc, ◌+◌, ◌≤◌, ◌<◌}
use native.Mathlib.Omega.{arith}
use lib.Dec.{leb, ltb, eqb, eqb-suc-zero}
use lib.ListN.{length}
use borrow.Author.Tests.{leb-true, leb-false, ltb-true, ltb-false, lt-ltb, le-ltb, eqb-true, eqb-false, eq-eqb, ne_eqb, not-false}
use Rattle.jumbled.specs.Match.{occurs, lost_hour}
use Rattle.jumbled.specs.Fields.{layout_of, bits}
use Rattle.jumbled.specs.Refusals.{Test, test, given, is_method, exact_only, length_tests, lost_tests, tolerance_tests, known_tests, exact_tests, width_tests, text_tests, input_tests, place_tests, total_tests, tail_length, tail_tests, buffer_tests, line_tests, method_tests, pattern_tests, size_tests, whole_tests, first_tests, search_tests, chunk_tests, request_tests, program_tests}

pub or-false : (a b : Bool) → (a || b) ≡ false → (a ≡ false) × (b ≡ false)
or-false true b e = absurd (true≢false e)
or-false false b e = (refl, e)

and-true : (a b : Bool) → (a && b) ≡ true → (a ≡ true) × (b ≡ true)
and-true true b e = (refl, e)
and-true false b e = absurd (true≢false (sym e))

and-false : (a b : Bool) → (a && b) ≡ false → b ≡ true → a ≡ false
and-false true b e h = absurd (true≢false (sym h ∙ e))
and-false false b e h = refl

-- ---- lists of tests

-- tests with numbers of one or two digits, none of them 0
pub data Numbered : List Test → Type 0 where
  none : Numbered []
  next : {n : ℕ} {b : Bool} {ts : List Test} → (ltb 0 n && ltb n 100) ≡ true → Numbered ts → Numbered (test n b ∷ ts)

positive : (n : ℕ) → (ltb 0 n && ltb n 100) ≡ true → n ≡ 0 → ⊥
positive n e q = let l = ltb-true 0 n (and-true (ltb 0 n) (ltb n 100) e).0 in omega arith

-- the first list's number, or the second's where nothing of the first is given
pub given-append : (ts us : List Test) → Numbered ts → given (ts ++ us) ≡ cond (eqb (given ts) 0) (given us) (given ts)
unfolding given
given-append ts us none = refl
given-append ts us (next {n = n} {b = true} row more) = rw (ne_eqb n 0 (positive n row)) refl
given-append ts us (next {b = false} {ts = rest} row more) = given-append rest us more

-- nothing of both is given exactly where nothing of either is
pub given-append-none : (ts us : List Test) → Numbered ts → given (ts ++ us) ≡ 0 → (given ts ≡ 0) × (given us ≡ 0)
unfolding given
given-append-none ts us none e = (refl, e)
given-append-none ts us (next {n = n} {b = true} row more) e = absurd (positive n row e)
given-append-none ts us (next {b = false} {ts = rest} row more) e = given-append-none rest us more e

pub given-none-append : (ts us : List Test) → Numbered ts → given ts ≡ 0 → given us ≡ 0 → given (ts ++ us) ≡ 0
given-none-append ts us numbered first later = given-append ts us numbered ∙ rw (eq-eqb (given ts) 0 first) later

-- where nothing of the first is given, the number is the second's;
pub given-later : (ts us : List Test) → Numbered ts → given ts ≡ 0 → given (ts ++ us) ≡ given us
given-later ts us numbered first = given-append ts us numbered ∙ rw (eq-eqb (given ts) 0 first) refl

-- where something of the first is given, it is the first's,
pub given-refused : (ts us : List Test) → Numbered ts → {n : ℕ} → given ts ≡ suc n → given (ts ++ us) ≡ suc n
given-refused ts us numbered {n} first = given-append ts us numbered ∙ rw (first, eqb-suc-zero n) refl

-- and so it is where the second never adds one
pub given-first : (ts us : List Test) → Numbered ts → (given ts ≡ 0 → given us ≡ 0) → given (ts ++ us) ≡ given ts
given-first ts us numbered never = given-append ts us numbered ∙ by (given ts) never
  where
    by : (n : ℕ) → (n ≡ 0 → given us ≡ 0) → cond (eqb n 0) (given us) n ≡ n
    by zero h = h refl
    by (suc n) h = rw (eqb-suc-zero n) refl

-- tests that were made before add nothing
given-twice : (ts us : List Test) → Numbered ts → given (ts ++ (ts ++ us)) ≡ given (ts ++ us)
given-twice ts us numbered = by (given ts) refl
  where
    by : (n : ℕ) → given ts ≡ n → given (ts ++ (ts ++ us)) ≡ given (ts ++ us)
    by zero e = given-later ts (ts ++ us) numbered e
    by (suc n) e = given-refused ts (ts ++ us) numbered e ∙ sym (given-refused ts us numbered e)

pub numbered-append : (ts us : List Test) → Numbered ts → Numbered us → Numbered (ts ++ us)
numbered-append ts us none later = later
numbered-append ts us (next {ts = rest} row more) later = next row (numbered-append rest us more later)

pub given-small : (ts : List Test) → Numbered ts → given ts < 100
unfolding given
given-small ts none = omega arith
given-small ts (next {n = n} {b = true} row more) = ltb-true n 100 (and-true (ltb 0 n) (ltb n 100) row).1
given-small ts (next {b = false} {ts = rest} row more) = given-small rest more

-- the number given is that of one of the tests, or 0
pub given-among : (ts : List Test) → Memᴰ (given ts) (0 ∷ map (λ t. t.number) ts)
unfolding given
given-among [] = Memᴰ.head refl
given-among (t ∷ ts) = case t.applies (given-among ts)
  where
    later : Memᴰ (given ts) (0 ∷ map (λ t. t.number) ts) → Memᴰ (given ts) (0 ∷ t.number ∷ map (λ t. t.number) ts)
    later mem = ⊎_elim (λ (q : given ts ≡ 0). Memᴰ.head q) (λ more. Memᴰ.tail (Memᴰ.tail more)) (Memᴰ.cases_cons mem)

    case : (b : Bool) → Memᴰ (given ts) (0 ∷ map (λ t. t.number) ts) → Memᴰ (cond b t.number (given ts)) (0 ∷ t.number ∷ map (λ t. t.number) ts)
    case true mem = Memᴰ.tail (Memᴰ.head refl)
    case false mem = later mem

-- of one test: its condition does not hold
pub given-one : {n : ℕ} {b : Bool} → Numbered (test n b ∷ []) → given (test n b ∷ []) ≡ 0 → b ≡ false
unfolding given
given-one (next {n = n} {b = true} row more) e = absurd (positive n row e)
given-one (next {b = false} row more) e = refl

-- ---- 1, 13 and 2

pub length-numbered : (m : ℕ) → Numbered (length_tests m)
unfolding length_tests
length-numbered m = next refl none

-- what it says that 1 does not apply
pub record LengthTaken (m : ℕ) : Type 0 where
  pub some : 0 < m
  pub short : m ≤ 64

pub length_taken : (m : ℕ) → given (length_tests m) ≡ 0 → LengthTaken m
unfolding length_tests
length_taken m e =
    let sizes = or-false (eqb m 0) (ltb 64 m) (given-one (length-numbered m) e) in
    record { some = some (eqb-false m 0 sizes.0); short = ltb-false 64 m sizes.1 }
  where
    some : (m ≡ 0 → ⊥) → 0 < m
    some h = omega arith

pub lost-numbered : (P : List ℕ) → Numbered (lost_tests P)
unfolding lost_tests
lost-numbered P = next refl none

-- what it says that 13 does not apply
pub lost-taken : (P : List ℕ) → given (lost_tests P) ≡ 0 → occurs P lost_hour ≡ false
unfolding lost_tests
lost-taken P e = given-one (lost-numbered P) e

pub tolerance-numbered : (m k : ℕ) → Numbered (tolerance_tests m k)
unfolding tolerance_tests
tolerance-numbered m k = next refl none

pub tolerance-taken : (m k : ℕ) → given (tolerance_tests m k) ≡ 0 → k < m
unfolding tolerance_tests
tolerance-taken m k e = leb-false m k (given-one (tolerance-numbered m k) e)

-- ---- 3, 4 and 5

known-numbered : (method : ℕ) → Numbered (known_tests method)
unfolding known_tests
known-numbered method = next refl none

known-taken : (method : ℕ) → given (known_tests method) ≡ 0 → is_method method ≡ true
unfolding known_tests
known-taken method e = not-false (is_method method) (given-one (known-numbered method) e)

exact-numbered : (k method : ℕ) → Numbered (exact_tests k method)
unfolding exact_tests
exact-numbered k method = next refl none

exact-taken : (k method : ℕ) → given (exact_tests k method) ≡ 0 → exact_only method ≡ true → k ≡ 0
unfolding exact_tests
exact-taken k method e h =
    let few = ltb-false 0 k (and-false (ltb 0 k) (exact_only method) (given-one (exact-numbered k method) e) h) in omega arith

width-numbered : (P : List ℕ) (k method : ℕ) → Numbered (width_tests P k method)
unfolding width_tests
width-numbered P k method = next refl none

width-taken : (P : List ℕ) (k method : ℕ) → given (width_tests P k method) ≡ 0 → bits P (layout_of k method) ≤ 64
unfolding width_tests
width-taken P k method e = ltb-false 64 (bits P (layout_of k method)) (given-one (width-numbered P k method) e)

-- what it says that none of them applies
pub record MethodTaken (P : List ℕ) (k method : ℕ) : Type 0 where
  pub least : 1 ≤ method
  pub most : method ≤ 6
  pub no-tolerance : exact_only method ≡ true → k ≡ 0
  pub narrow : bits P (layout_of k method) ≤ 64

-- a method's number is within these bounds
method-bounds : (method : ℕ) → is_method method ≡ true → (1 ≤ method) × (method ≤ 6)
unfolding is_method
method-bounds method e =
    let known = and-true (leb 1 method) (leb method 6) e in
    (leb-true 1 method known.0, leb-true method 6 known.1)

pub method-taken : (P : List ℕ) (k method : ℕ) → given (method_tests P k method) ≡ 0 → MethodTaken P k method
unfolding method_tests
method-taken P k method e =
    let known = given-append-none (known_tests method) _ (known-numbered method) e in
    let exact = given-append-none (exact_tests k method) _ (exact-numbered k method) known.1 in
    let bounds = method-bounds method (known-taken method known.0) in
    record {
      least = bounds.0;
      most = bounds.1;
      no-tolerance = exact-taken k method exact.0;
      narrow = width-taken P k method exact.1;
    }

method-numbered : (P : List ℕ) (k method : ℕ) → Numbered (method_tests P k method)
unfolding method_tests
method-numbered P k method =
    numbered-append (known_tests method) _ (known-numbered method)
    (numbered-append (exact_tests k method) (width_tests P k method) (exact-numbered k method) (width-numbered P k method))

-- ---- the tests of open

pub pattern-numbered : (P : List ℕ) (k method : ℕ) → Numbered (pattern_tests P k method)
unfolding pattern_tests
pattern-numbered P k method =
    numbered-append (length_tests (length P)) _ (length-numbered (length P))
    (numbered-append (lost_tests P) _ (lost-numbered P)
    (numbered-append (tolerance_tests (length P) k) (method_tests P k method) (tolerance-numbered (length P) k) (method-numbered P k method)))

-- nothing of them is given exactly where nothing of each part is
record PartsTaken (P : List ℕ) (k method : ℕ) : Type 0 where
  length-right : given (length_tests (length P)) ≡ 0
  none-lost : given (lost_tests P) ≡ 0
  tolerance-right : given (tolerance_tests (length P) k) ≡ 0
  method-right : given (method_tests P k method) ≡ 0

parts-taken : (P : List ℕ) (k method : ℕ) → given (pattern_tests P k method) ≡ 0 → PartsTaken P k method
unfolding pattern_tests
parts-taken P k method e =
    let first = given-append-none (length_tests (length P)) _ (length-numbered (length P)) e in
    let second = given-append-none (lost_tests P) _ (lost-numbered P) first.1 in
    let third = given-append-none (tolerance_tests (length P) k) _ (tolerance-numbered (length P) k) second.1 in
    record { length-right = first.0; none-lost = second.0; tolerance-right = third.0; method-right = third.1 }

taken-parts : (P : List ℕ) (k method : ℕ) → PartsTaken P k method → given (pattern_tests P k method) ≡ 0
unfolding pattern_tests
taken-parts P k method parts =
    given-none-append (length_tests (length P)) _ (length-numbered (length P)) parts.length-right
    (given-none-append (lost_tests P) _ (lost-numbered P) parts.none-lost
    (given-none-append (tolerance_tests (length P) k) _ (tolerance-numbered (length P) k) parts.tolerance-right parts.method-right))

-- what it says that none of them applies
pub record Admitted (P : List ℕ) (k method : ℕ) : Type 0 where
  pub some : 0 < length P
  pub short : length P ≤ 64
  pub none-lost : occurs P lost_hour ≡ false
  pub within : k < length P
  pub taken : MethodTaken P k method

pub admitted : (P : List ℕ) (k method : ℕ) → given (pattern_tests P k method) ≡ 0 → Admitted P k method
admitted P k method e =
    let parts = parts-taken P k method e in
    let length-right = length_taken (length P) parts.length-right in
    record {
      some = length-right.some;
      short = length-right.short;
      none-lost = lost-taken P parts.none-lost;
      within = tolerance-taken (length P) k parts.tolerance-right;
      taken = method-taken P k method parts.method-right;
    }

-- then nothing of 3 to 5 is given
pub method-given : (P : List ℕ) (k method : ℕ) → given (pattern_tests P k method) ≡ 0 → given (method_tests P k method) ≡ 0
method-given P k method e = (parts-taken P k method e).method-right

-- and another method may come in
pub method-changed : (P : List ℕ) (k method new_method : ℕ) → given (pattern_tests P k method) ≡ 0 → given (method_tests P k new_method) ≡ 0
    → given (pattern_tests P k new_method) ≡ 0
method-changed P k method new_method old new =
    let parts = parts-taken P k method old in
    taken-parts P k new_method
    (record { length-right = parts.length-right; none-lost = parts.none-lost; tolerance-right = parts.tolerance-right; method-right = new })

-- ---- 6, 7 and 8

pub text-numbered : (bytes : ℕ) → Numbered (text_tests bytes)
unfolding text_tests
text-numbered bytes = next refl none

pub text-taken : (bytes : ℕ) → given (text_tests bytes) ≡ 0 → bytes ≤ 65536
unfolding text_tests
text-taken bytes e = ltb-false 65536 bytes (given-one (text-numbered bytes) e)

place-numbered : (bytes places : ℕ) → Numbered (place_tests bytes places)
unfolding place_tests
place-numbered bytes places = next refl none

place-taken : (bytes places : ℕ) → given (place_tests bytes places) ≡ 0 → bytes ≤ places
unfolding place_tests
place-taken bytes places e = ltb-false places bytes (given-one (place-numbered bytes places) e)

total-numbered : (n bytes : ℕ) → Numbered (total_tests n bytes)
unfolding total_tests
total-numbered n bytes = next refl none

total-taken : (n bytes : ℕ) → given (total_tests n bytes) ≡ 0 → n + bytes ≤ 4294967295
unfolding total_tests
total-taken n bytes e = ltb-false 4294967295 (n + bytes) (given-one (total-numbered n bytes) e)

size-numbered : (bytes places : ℕ) → Numbered (size_tests bytes places)
unfolding size_tests
size-numbered bytes places = numbered-append (text_tests bytes) (place_tests bytes places) (text-numbered bytes) (place-numbered bytes places)

-- what it says that neither 6 nor 7 applies
pub record SizeTaken (bytes places : ℕ) : Type 0 where
  pub not-long : bytes ≤ 65536
  pub room : bytes ≤ places

size-taken : (bytes places : ℕ) → given (size_tests bytes places) ≡ 0 → SizeTaken bytes places
unfolding size_tests
size-taken bytes places e =
    let parts = given-append-none (text_tests bytes) (place_tests bytes places) (text-numbered bytes) e in
    record { not-long = text-taken bytes parts.0; room = place-taken bytes places parts.1 }

-- and when they do not
pub size_fits : (bytes places : ℕ) → bytes ≤ 65536 → bytes ≤ places → given (size_tests bytes places) ≡ 0
unfolding size_tests text_tests place_tests given
size_fits bytes places short room = rw (le-ltb 65536 bytes short, le-ltb places bytes room) refl

-- a list with a place for each byte adds nothing to 6
place-fits : (bytes places : ℕ) → bytes ≤ places → given (place_tests bytes places) ≡ 0
unfolding place_tests given
place-fits bytes places room = rw (le-ltb places bytes room) refl

-- ---- the tests of whole search

pub whole-numbered : (P : List ℕ) (k method bytes places : ℕ) → Numbered (whole_tests P k method bytes places)
unfolding whole_tests
whole-numbered P k method bytes places =
    numbered-append (pattern_tests P k method) (size_tests bytes places) (pattern-numbered P k method) (size-numbered bytes places)

-- what it says that none of them applies
pub record WholeTaken (P : List ℕ) (k method bytes places : ℕ) : Type 0 where
  pub pattern-right : given (pattern_tests P k method) ≡ 0
  pub size : SizeTaken bytes places

pub whole-taken : (P : List ℕ) (k method bytes places : ℕ) → given (whole_tests P k method bytes places) ≡ 0 → WholeTaken P k method bytes places
unfolding whole_tests
whole-taken P k method bytes places e =
    let parts = given-append-none (pattern_tests P k method) (size_tests bytes places) (pattern-numbered P k method) e in
    record { pattern-right = parts.0; size = size-taken bytes places parts.1 }

-- ---- the tests of the first match from a given position on

pub first-numbered : (P : List ℕ) (k method bytes : ℕ) → Numbered (first_tests P k method bytes)
unfolding first_tests
first-numbered P k method bytes = numbered-append (pattern_tests P k method) (text_tests bytes) (pattern-numbered P k method) (text-numbered bytes)

-- they are those of whole search, where that has a place for each byte
pub first-as-whole : (P : List ℕ) (k method bytes places : ℕ) → bytes ≤ places → given (whole_tests P k method bytes places) ≡ given (first_tests P k method bytes)
unfolding whole_tests size_tests first_tests
first-as-whole P k method bytes places room =
    ap given (sym (append_assoc (pattern_tests P k method) (text_tests bytes) (place_tests bytes places)))
    ∙ given-first (pattern_tests P k method ++ text_tests bytes) (place_tests bytes places) (first-numbered P k method bytes) (λ e. place-fits bytes places room)

-- ---- 8

-- what it says that none of 6, 7 and 8 applies
pub record ChunkTaken (n bytes places : ℕ) : Type 0 where
  pub size : SizeTaken bytes places
  pub fits : n + bytes ≤ 4294967295

pub chunk-taken : (n bytes places : ℕ) → given (chunk_tests n bytes places) ≡ 0 → ChunkTaken n bytes places
unfolding chunk_tests
chunk-taken n bytes places e =
    let parts = given-append-none (size_tests bytes places) (total_tests n bytes) (size-numbered bytes places) e in
    record { size = size-taken bytes places parts.0; fits = total-taken n bytes parts.1 }

total-fits : (n bytes : ℕ) → n + bytes ≤ 4294967295 → given (total_tests n bytes) ≡ 0
unfolding total_tests given
total-fits n bytes fits = rw (le-ltb 4294967295 (n + bytes) fits) refl

-- 8 never applies to a first chunk: 6 would come before it
pub first_chunk : (bytes places : ℕ) → given (chunk_tests 0 bytes places) ≡ given (size_tests bytes places)
unfolding chunk_tests
first_chunk bytes places =
    given-first (size_tests bytes places) (total_tests 0 bytes) (size-numbered bytes places)
    (λ e. total-fits 0 bytes (let short = (size-taken bytes places e).not-long in omega arith))

-- ---- 9

tail-numbered : (m n t : ℕ) → Numbered (tail_tests m n t)
unfolding tail_tests
tail-numbered m n t = next refl none

tail-taken : (m n t : ℕ) → given (tail_tests m n t) ≡ 0 → t ≡ tail_length m n
unfolding tail_tests
tail-taken m n t e = eqb-true t (tail_length m n) (not-false (eqb t (tail_length m n)) (given-one (tail-numbered m n t) e))

pub tail-right : (m n t : ℕ) → t ≡ tail_length m n → given (tail_tests m n t) ≡ 0
unfolding tail_tests given
tail-right m n t e = rw (eq-eqb t (tail_length m n) e) refl

module _ (P : List ℕ) (k method n t : ℕ) where
  pub search-numbered : Numbered (search_tests P k method n t)
  unfolding search_tests
  search-numbered = numbered-append (pattern_tests P k method) (tail_tests (length P) n t) (pattern-numbered P k method) (tail-numbered (length P) n t)

  -- the tests of a search's parts: nothing is given exactly where nothing of open's is, and the tail is as long as it should be
  pub search-taken : given (search_tests P k method n t) ≡ 0 → (given (pattern_tests P k method) ≡ 0) × (t ≡ tail_length (length P) n)
  unfolding search_tests
  search-taken e =
      let parts = given-append-none (pattern_tests P k method) (tail_tests (length P) n t) (pattern-numbered P k method) e in
      (parts.0, tail-taken (length P) n t parts.1)

  pub search-right : given (pattern_tests P k method) ≡ 0 → t ≡ tail_length (length P) n → given (search_tests P k method n t) ≡ 0
  unfolding search_tests
  search-right e tail =
      given-none-append (pattern_tests P k method) (tail_tests (length P) n t) (pattern-numbered P k method) e (tail-right (length P) n t tail)

-- 1 tested of the length before them changes nothing
pub length-again : (P : List ℕ) (k method n t : ℕ)
    → given (length_tests (length P) ++ search_tests P k method n t) ≡ given (search_tests P k method n t)
unfolding search_tests pattern_tests
length-again P k method n t =
    let first = length_tests (length P) in
    let joined = append_assoc first _ (tail_tests (length P) n t) in
    ap (λ (ts : List Test). given (first ++ ts)) joined ∙ given-twice first _ (length-numbered (length P)) ∙ ap given (sym joined)

-- of a fresh search, 9 never applies
pub search-fresh : (P : List ℕ) (k method : ℕ) → given (search_tests P k method 0 0) ≡ given (pattern_tests P k method)
unfolding search_tests
search-fresh P k method =
    given-first (pattern_tests P k method) (tail_tests (length P) 0 0) (pattern-numbered P k method) (λ e. tail-right (length P) 0 0 (omega arith))

-- ---- 10: it is given exactly where there are more bytes than places

pub buffer-short : (places bytes : ℕ) → places < bytes → given (buffer_tests places bytes) ≡ 10
unfolding buffer_tests given
buffer-short places bytes short = rw (lt-ltb places bytes short) refl

pub buffer-fits : (places bytes : ℕ) → bytes ≤ places → given (buffer_tests places bytes) ≡ 0
unfolding buffer_tests given
buffer-fits places bytes room = rw (le-ltb places bytes room) refl

-- ---- 6 and 11 of the program

input-numbered : (bytes : ℕ) → Numbered (input_tests bytes)
unfolding input_tests
input-numbered bytes = next refl none

input-taken : (bytes : ℕ) → given (input_tests bytes) ≡ 0 → bytes ≤ 16384
unfolding input_tests
input-taken bytes e = ltb-false 16384 bytes (given-one (input-numbered bytes) e)

line-numbered : (bad_line : Bool) → Numbered (line_tests bad_line)
unfolding line_tests
line-numbered bad_line = next refl none

line_taken : (bad_line : Bool) → given (line_tests bad_line) ≡ 0 → bad_line ≡ false
unfolding line_tests
line_taken bad_line e = given-one (line-numbered bad_line) e

-- what it says that neither of them applies
pub record RequestTaken (bytes : ℕ) (bad_line : Bool) : Type 0 where
  pub short : bytes ≤ 16384
  pub good : bad_line ≡ false

module _ (bytes : ℕ) (bad_line : Bool) where
  pub request-taken : given (request_tests bytes bad_line) ≡ 0 → RequestTaken bytes bad_line
  unfolding request_tests
  request-taken e =
      let parts = given-append-none (input_tests bytes) (line_tests bad_line) (input-numbered bytes) e in
      record { short = input-taken bytes parts.0; good = line_taken bad_line parts.1 }

  pub request-numbered : Numbered (request_tests bytes bad_line)
  unfolding request_tests
  request-numbered = numbered-append (input_tests bytes) (line_tests bad_line) (input-numbered bytes) (line-numbered bad_line)

  pub program-numbered : (P : List ℕ) (k method : ℕ) → Numbered (program_tests bytes bad_line P k method)
  unfolding program_tests
  program-numbered P k method =
      numbered-append (request_tests bytes bad_line) (pattern_tests P k method) request-numbered (pattern-numbered P k method)
