-- Laws of `placed` and `shifted`.
use mathlib.Core.Path.{◌≡◌, refl, sym, ap, ap₂, ◌∙◌}
use mathlib.Core.List.{List, [], ◌∷◌, ◌++◌, append_assoc}
use Prim.Native.Nat.{ℕ, suc, ◌+◌, ◌≤◌, ◌<◌}
use native.Mathlib.Nat.{add-zero, zero-add, add_assoc}
use native.Mathlib.Omega.{arith}
use lib.ListN.{length, get_or, take, drop, set, length-append, length-take, length-drop, take-append-drop}
use lib.Seq.{drop-cons, set_at, take_at, drop_at, drop-drop, take-append_seam, drop-append_seam}
use Rattle.lent.specs.Placed.{placed, shifted, FirstPlaces}

regroup : (a b c d : List ℕ) → (a ++ b) ++ (c ++ d) ≡ a ++ ((b ++ c) ++ d)
regroup a b c d = simp append_assoc

placed-def : (list : List ℕ) (at : ℕ) (numbers : List ℕ) → placed list at numbers ≡ take at list ++ (numbers ++ drop (at + length numbers) list)
unfolding placed
placed-def list at numbers = refl

-- nothing put
pub placed-nil : (list : List ℕ) (at : ℕ) → placed list at [] ≡ list
unfolding placed
placed-nil list at = rw (add-zero at) (take-append-drop at list)

module _ (list : List ℕ) (at : ℕ) (numbers : List ℕ) (room : at + length numbers ≤ length list) where
  front_length : length (take at list ++ numbers) ≡ at + length numbers
  front_length = omega (arith, length-append (take at list) numbers, length-take at list)

  split : placed list at numbers ≡ (take at list ++ numbers) ++ drop (at + length numbers) list
  unfolding placed
  split = sym (append_assoc (take at list) numbers (drop (at + length numbers) list))

  pub length-placed : length (placed list at numbers) ≡ length list
  length-placed =
      rw split (omega (arith, length-append (take at list ++ numbers) (drop (at + length numbers) list), front_length, length-drop (at + length numbers) list))

  -- the places that were filled
  pub take-placed : take (at + length numbers) (placed list at numbers) ≡ take at list ++ numbers
  take-placed = rw split (take_at (take at list ++ numbers) (drop (at + length numbers) list) (at + length numbers) front_length)

  drop-placed : drop (at + length numbers) (placed list at numbers) ≡ drop (at + length numbers) list
  drop-placed = rw split (drop_at (take at list ++ numbers) (drop (at + length numbers) list) (at + length numbers) front_length)

  -- more numbers put after them
  pub placed-placed : (more : List ℕ) → placed (placed list at numbers) (at + length numbers) more ≡ placed list at (numbers ++ more)
  placed-placed more =
      placed-def (placed list at numbers) (at + length numbers) more
      ∙ ap₂ (λ (front back : List ℕ). front ++ (more ++ back)) take-placed past
      ∙ regroup (take at list) numbers more (drop (at + length (numbers ++ more)) list)
      ∙ sym (placed-def list at (numbers ++ more))
    where
      past : drop (at + length numbers + length more) (placed list at numbers) ≡ drop (at + length (numbers ++ more)) list
      past =
          sym (drop-drop (length more) (at + length numbers) (placed list at numbers))
          ∙ ap (drop (length more)) drop-placed
          ∙ drop-drop (length more) (at + length numbers) list
          ∙ ap (λ (n : ℕ). drop n list) (add_assoc at (length numbers) (length more) ∙ ap (λ (n : ℕ). at + n) (sym (length-append numbers more)))

-- one number more
pub placed-next : (list : List ℕ) (at : ℕ) (numbers : List ℕ) (x : ℕ) → at + length numbers < length list
    → set (placed list at numbers) (at + length numbers) x ≡ placed list at (numbers ++ (x ∷ []))
placed-next list at numbers x room =
    let fits : at + length numbers ≤ length list = omega arith in
    ap (λ (l : List ℕ). set l (at + length numbers) x) (split list at numbers fits ∙ ap (λ (l : List ℕ). (take at list ++ numbers) ++ l) (drop-cons list (at + length numbers) 0 room))
    ∙ set_at (take at list ++ numbers) (get_or list (at + length numbers) 0) (drop (suc (at + length numbers)) list) x (at + length numbers) (front_length list at numbers fits)
    ∙ ap (λ (n : ℕ). (take at list ++ numbers) ++ (x ∷ drop n list)) one_more
    ∙ regroup (take at list) numbers (x ∷ []) (drop (at + length (numbers ++ (x ∷ []))) list)
    ∙ sym (placed-def list at (numbers ++ (x ∷ [])))
  where
    one_more : suc (at + length numbers) ≡ at + length (numbers ++ (x ∷ []))
    one_more = omega (arith, length-append numbers (x ∷ []))

-- ---- shifted

pub length-shifted : (base : ℕ) (positions : List ℕ) → length (shifted base positions) ≡ length positions
unfolding shifted
length-shifted base [] = refl
length-shifted base (p ∷ ps) = ap suc (length-shifted base ps)

pub shifted-append : (base : ℕ) (ps qs : List ℕ) → shifted base (ps ++ qs) ≡ shifted base ps ++ shifted base qs
unfolding shifted
shifted-append base [] qs = refl
shifted-append base (p ∷ ps) qs = ap (λ (l : List ℕ). (base + p) ∷ l) (shifted-append base ps qs)

pub shifted-shifted : (a b : ℕ) (ps : List ℕ) → shifted a (shifted b ps) ≡ shifted (a + b) ps
unfolding shifted
shifted-shifted a b [] = refl
shifted-shifted a b (p ∷ ps) = ap₂ (λ (q : ℕ) (l : List ℕ). q ∷ l) (sym (add_assoc a b p)) (shifted-shifted a b ps)

pub shifted-zero : (ps : List ℕ) → shifted 0 ps ≡ ps
unfolding shifted
shifted-zero [] = refl
shifted-zero (p ∷ ps) = ap₂ (λ (q : ℕ) (l : List ℕ). q ∷ l) (zero-add p) (shifted-zero ps)

-- ---- the first places

pub take-placed-first : (list numbers : List ℕ) → take (length numbers) (placed list 0 numbers) ≡ numbers
unfolding placed
take-placed-first list numbers = take-append_seam numbers (drop (0 + length numbers) list)

later-places : (before numbers : List ℕ) → drop (length numbers) (placed before 0 numbers) ≡ drop (length numbers) before
unfolding placed
later-places before numbers =
    drop-append_seam numbers (drop (0 + length numbers) before) ∙ ap (λ (n : ℕ). drop n before) (zero-add (length numbers))

pub first-places : {before after numbers : List ℕ} {count : ℕ} → after ≡ placed before 0 numbers → count ≡ length numbers → FirstPlaces before after count numbers
first-places {before} {after} {numbers} {count} filled counted =
    record {
      first = ap₂ (λ (n : ℕ) (l : List ℕ). take n l) counted filled ∙ take-placed-first before numbers;
      rest = ap₂ (λ (n : ℕ) (l : List ℕ). drop n l) counted filled ∙ later-places before numbers ∙ ap (λ (n : ℕ). drop n before) (sym counted);
    }
