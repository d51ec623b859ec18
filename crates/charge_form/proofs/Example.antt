-- Small texts worked out: which hours are marked, which runs they make up, and the charge (document 02, T-10).
use mathlib.Core.Path.{◌≡◌, refl}
use mathlib.Core.List.{List, [], ◌∷◌, map}
use Prim.Native.Nat.{ℕ}
use Prim.Native.String as Text
use lib.ListN.{length}
use Rattle.jumbled.specs.Match.{cc, sum, evidence, beyond, excess, matches, select, positions}
use Rattle.jumbled.specs.Refusals.{any_of, total}
use Rattle.ascii.specs.Codes.{ascii}
use Rattle.charge_form.specs.Runs.{marked_by, marked, marked_hours, stretch, begins, Run, runs}
use Rattle.charge_form.specs.Charge.{charge_for, charge}

-- What is worked out of a pattern and a text, with k = 0 and a rate of 250 cents
record Worked : Type 0 where
  hours : ℕ
  made-up-of : List Run
  cents : ℕ

abbrev run : ℕ → ℕ → Run
run first hours = record { first = first; hours = hours }

abbrev worked : ℕ → List Run → ℕ → Worked
worked hours rs cents = record { hours = hours; made-up-of = rs; cents = cents }

abbrev of : Text.String → Text.String → Worked
of P T =
    worked (length (marked_hours (marked (ascii P) 0 (ascii T)) (length (ascii T)))) (runs (marked (ascii P) 0 (ascii T)) (length (ascii T)))
    (charge (ascii P) 0 (ascii T) 250)

record Row : Type 0 where
  pattern : Text.String
  text : Text.String
  right : Worked

abbrev row : Text.String → Text.String → Worked → Row
row P T w = record { pattern = P; text = T; right = w }

abbrev rows : List Row
rows =
    -- the request's own: positions 0 and 6
    row "abc" "abcxxxabc" (worked 6 (run 0 3 ∷ run 6 3 ∷ []) 500)
    -- windows that overlap, for six hours and for seven
    ∷ row "abc" "abcabc" (worked 6 (run 0 6 ∷ []) 250)
    ∷ row "abc" "abcabca" (worked 7 (run 0 7 ∷ []) 500)
    -- windows that touch, and with an hour between them
    ∷ row "aab" "aabbaa" (worked 6 (run 0 6 ∷ []) 250)
    ∷ row "ab" "abxba" (worked 4 (run 0 2 ∷ run 3 2 ∷ []) 500)
    -- three runs, of which the first does not begin with the first hour and the last ends with the last
    ∷ row "a" "xaxaaxa" (worked 4 (run 1 1 ∷ run 3 2 ∷ run 6 1 ∷ []) 750)
    -- a lost hour is in a window like any other hour (document 02, T-07)
    ∷ row "abc" "xa-cx" (worked 3 (run 1 3 ∷ []) 250)
    -- nothing is listed
    ∷ row "ab" "axb" (worked 0 [] 0)
    ∷ []

pub sheet-charge : map (λ r. of r.pattern r.text) rows ≡ map (λ r. r.right) rows
unfolding ascii cc sum evidence beyond excess matches select positions any_of total marked_by marked stretch begins runs charge_for charge
sheet-charge = refl
