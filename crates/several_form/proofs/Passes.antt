-- The steps of Mcount find exactly the matching windows, over any number of patterns, with n inspections: document 02, T-01.
use mathlib.Core.Path.{◌≡◌, refl, sym, ap, ap₂, ◌∙◌}
use mathlib.Core.List.{List, [], ◌∷◌, ◌++◌, append-nil, append_assoc}
use Prim.Native.Nat.{ℕ, zero, suc, ◌+◌, ◌-◌, ◌≤◌, ◌<◌}
use native.Mathlib.Numerals.{add-one}
use native.Mathlib.Omega.{arith}
use lib.ListN.{length, get_or, take, drop}
use Rattle.jumbled.specs.Match.{Bytes, window, window_prefix, starts}
use Rattle.jumbled.proofs.Counts.{bytes-nil, bytes-head, bytes-tail, bytes_take, bytes_drop, bytes-append, bytes-front}
use Rattle.jumbled.proofs.Selections.{select-same}
use Rattle.jumbled.proofs.Windows.{window-whole, window_bytes, window-last, window-first}
use Rattle.several_form.specs.Finds.{Find, numbered, common_length, Together, beside, collect, matching, finds}
use Rattle.several_form.specs.Mcount.{start_field, field_after, entered, given_back, all_entered, reached, pass, mcount}
use Rattle.several_form.proofs.Fields.{field-start, field-entered, field-given-back, field-reached}

-- The fields are those of the bytes U
abbrev pub Tracks : List (List ℕ) → ℕ → List ℕ → (ℕ → ℕ) → Type 0
Tracks Ps k U fields = (number : ℕ) → 1 ≤ number → number < 1 + length Ps → fields number ≡ field_after (numbered Ps number) k U

pub common-length : {Ps : List (List ℕ)} {m : ℕ} → Together Ps m → common_length Ps ≡ m
common-length together = together.one-length 1 (omega arith) (omega (arith, together.some_pattern))

module _ {Ps : List (List ℕ)} {m : ℕ} (together : Together Ps m) (k : ℕ) where
  short : (number : ℕ) → 1 ≤ number → number < 1 + length Ps → length (numbered Ps number) ≤ 64
  short number from to = omega (arith, together.one-length number from to, together.short)

  tracks-start : k ≤ m → Tracks Ps k [] (λ number. start_field (numbered Ps number) k)
  tracks-start h number from to =
      sym (field-start (numbered Ps number) k (short number from to) (omega (arith, together.one-length number from to)))

  tracks-entered : {U : List ℕ} {fields : ℕ → ℕ} → Tracks Ps k U fields → Bytes U → (b : ℕ) → b < 256
      → Tracks Ps k (U ++ (b ∷ [])) (entered Ps U b fields)
  tracks-entered {U} {fields} tracks bytes b byte number from to =
      rw (tracks number from to) (field-entered (numbered Ps number) k (short number from to) U b byte bytes)

  tracks-given-back : {U : List ℕ} {fields : ℕ → ℕ} (b : ℕ) → Tracks Ps k (b ∷ U) fields → Bytes U → b < 256
      → Tracks Ps k U (given_back Ps U b fields)
  tracks-given-back {U} {fields} b tracks bytes byte number from to =
      rw (tracks number from to) (field-given-back (numbered Ps number) k (short number from to) U b byte bytes)

  -- one byte after the other
  tracks-all : (U more : List ℕ) {fields : ℕ → ℕ} → Tracks Ps k U fields → Bytes U → Bytes more → Tracks Ps k (U ++ more) (all_entered Ps U more fields)
  unfolding all_entered
  tracks-all U [] tracks bytes rest = rw (append-nil U) tracks
  tracks-all U (c ∷ more) tracks bytes rest =
      rw (← append_assoc U (c ∷ []) more)
      (tracks-all (U ++ (c ∷ [])) more (tracks-entered tracks bytes c (bytes-head rest))
      (bytes-append U (c ∷ []) bytes (bytes-front (c ∷ []) more rest)) (bytes-tail rest))

  -- what is reached in a window matches it
  reached-matching : {W : List ℕ} {fields : ℕ → ℕ} → Tracks Ps k W fields → Bytes W → length W ≡ m → reached (length Ps) fields ≡ matching Ps k W
  unfolding reached matching
  reached-matching {W} tracks bytes same =
      select-same _ _ 1 (length Ps)
      (λ number from to.
      rw (tracks number from to)
      (field-reached (numbered Ps number) k (short number from to) W (same ∙ sym (together.one-length number from to)) bytes))

  -- ---- the pass

  module _ (T : List ℕ) (bytes : Bytes T) where
    abbrev at : ℕ → List ℕ
    at s = matching Ps k (window m T s)

    pass-finds : (s left cost : ℕ) (fields : ℕ → ℕ) → s + left ≤ starts m T → Tracks Ps k (window_prefix m T s) fields
        → (pass Ps m T s left fields cost).finds ≡ collect at s left
    unfolding pass collect
    pass-finds s zero cost fields inside tracks = refl
    pass-finds s (suc left) cost fields inside tracks =
        ap₂ (λ (numbers : List ℕ) (rest : List Find). beside s numbers ++ rest) (reached-matching full (window_bytes m T s bytes) (window-whole m T s whole))
        (pass-finds (suc s) left _ _ (omega arith) after)
      where
        whole : s + m ≤ length T
        whole = omega arith

        prefix-bytes : (i : ℕ) → Bytes (window_prefix m T i)
        prefix-bytes i = bytes_take (m - 1) (drop i T) (bytes_drop i T bytes)

        full : Tracks Ps k (window m T s) (entered Ps (window_prefix m T s) (get_or T (s + m - 1) 0) fields)
        full =
            rw (window-last m T s together.some whole)
            (tracks-entered tracks (prefix-bytes s) (get_or T (s + m - 1) 0) (bytes.below (s + m - 1)))

        from_first : window m T s ≡ get_or T s 0 ∷ window_prefix m T (suc s)
        from_first = window-first m T s together.some whole ∙ ap (λ (i : ℕ). get_or T s 0 ∷ window_prefix m T i) (add-one s)

        after : Tracks Ps k (window_prefix m T (suc s))
            (given_back Ps (window_prefix m T (suc s)) (get_or T s 0) (entered Ps (window_prefix m T s) (get_or T (s + m - 1) 0) fields))
        after = tracks-given-back (get_or T s 0) (rw from_first at full) (prefix-bytes (suc s)) (bytes.below s)

  -- The steps find exactly what is to be found
  pub mcount-finds : k ≤ m → (T : List ℕ) → Bytes T → (mcount Ps k T).finds ≡ finds Ps k T
  unfolding mcount finds
  mcount-finds h T bytes =
      rw (common-length together)
      (pass-finds T bytes 0 (starts m T) m _ (omega arith)
      (tracks-all [] (take (m - 1) T) (tracks-start h) bytes-nil (bytes_take (m - 1) T bytes)))

-- ---- the inspections

pass-inspections : (Ps : List (List ℕ)) (m : ℕ) (T : List ℕ) (s left cost : ℕ) (fields : ℕ → ℕ)
    → (pass Ps m T s (suc left) fields cost).inspections ≡ cost + left
unfolding pass
pass-inspections Ps m T s zero cost fields = refl
pass-inspections Ps m T s (suc left) cost fields = rw (pass-inspections Ps m T (suc s) left 1 _) (omega arith)

-- n, whatever the number of patterns,
pub mcount-inspections : (Ps : List (List ℕ)) (k : ℕ) (T : List ℕ) → common_length Ps ≤ length T → (mcount Ps k T).inspections ≡ length T
unfolding mcount
mcount-inspections Ps k T h =
    let m = common_length Ps in
    let some : starts m T ≡ suc (length T - m) = omega arith in
    rw some (pass-inspections Ps m T 0 (length T - m) m _ ∙ omega arith)

-- and none where n < m
pub mcount-none : (Ps : List (List ℕ)) (k : ℕ) (T : List ℕ) → length T < common_length Ps → (mcount Ps k T).inspections ≡ 0
unfolding mcount pass
mcount-none Ps k T h =
    let none : starts (common_length Ps) T ≡ 0 = omega arith in
    rw none refl
