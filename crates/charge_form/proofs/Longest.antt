-- The runs are the longest stretches of marked hours, each of them and nothing else; they stand apart, in ascending order, and have exactly the
-- marked hours (document 02, T-10). Marked are the hours of the matching windows.
use mathlib.Core.Path.{◌≡◌, refl, sym, ap, subst, ◌∙◌}
use mathlib.Core.Bool.{Bool, true, false, ◌||◌, or-true, true≢false}
use mathlib.Core.List.Memᴰ
use mathlib.Core.List.{List, [], ◌∷◌, Memᴰ}
use mathlib.Core.Logic.{◌↔◌, ⊎_elim}
use Prim.Native.Nat.{ℕ, zero, suc, ◌+◌, ◌-◌, ◌≤◌, ◌<◌}
use native.Mathlib.Nat.{le_refl, le_trans}
use native.Mathlib.Omega.{arith}
use lib.Dec.{leb, ltb}
use lib.ListN.{length}
use borrow.Author.Tests.{leb-true, ltb-true, le-leb, lt-ltb}
use Rattle.jumbled.specs.Match.{select, positions}
use Rattle.jumbled.specs.Refusals.{any_of}
use Rattle.jumbled.proofs.Sums.{below_or_not}
use Rattle.jumbled.proofs.Positions.{picked, selected, listed}
use Rattle.charge_form.specs.Runs.{in_window, marked_by, marked, stretch, begins, Run, run_from, runs}
use Rattle.charge_form.specs.Longest.{HeldBy, Longest, Apart, none, next, HasHour}
use Rattle.charge_form.proofs.Stretches.{both, stretch-on, stretch-off, stretch-few, stretch-marked, stretch-ends, stretch-has, stretch-is, begins-marked, begins-after, begins-at, marked-before, begins-by, runs-from, run-begins, none-begins}

-- ---- the beginning of the run that has the hour h

module _ (marks : ℕ → Bool) where
  record Begun (h : ℕ) : Type 0 where
    start : ℕ
    begin : begins marks start ≡ true
    not-past : start ≤ h
    all : (i : ℕ) → start ≤ i → i ≤ h → marks i ≡ true

  begun : (h : ℕ) → marks h ≡ true → Begun h
  begun zero e =
      record { start = 0; begin = begins-at marks 0 e (λ h q. absurd (omega arith)); not-past = le_refl 0; all = λ i from to. let same : i ≡ 0 = omega arith in ap marks same ∙ e }
  begun (suc h) e = case (marks h) refl (begun h)
    where
      case : (m : Bool) → marks h ≡ m → (marks h ≡ true → Begun h) → Begun (suc h)
      case true f earlier =
          let b = earlier f in
          record {
            start = b.start;
            begin = b.begin;
            not-past = omega (arith, b.not-past);
            all = λ i from to.
                ⊎_elim (λ (l : h < i). let same : i ≡ suc h = omega arith in ap marks same ∙ e) (λ (l : i ≤ h). b.all i from l) (below_or_not h i);
          }
      case false f earlier =
          record {
            start = suc h;
            begin = begins-at marks (suc h) e (λ i q. let same : i ≡ h = omega arith in ap marks same ∙ f);
            not-past = le_refl (suc h);
            all = λ i from to. let same : i ≡ suc h = omega arith in ap marks same ∙ e;
          }

-- ---- the runs of n hours

module _ (marks : ℕ → Bool) (n : ℕ) where
  is-longest : (s : ℕ) → s < n → begins marks s ≡ true → Longest marks n (run_from marks n s)
  is-longest s below begin =
      let few = stretch-few marks s (n - s) in
      record {
        some = stretch-has marks s 1 (n - s) (omega arith) (λ h from to. let same : h ≡ s = omega arith in ap marks same ∙ begins-marked marks s begin);
        inside = omega arith;
        all-marked = stretch-marked marks s (n - s);
        not-before = λ h q. begins-after marks h (ap (begins marks) q ∙ begin);
        not_after = λ short. stretch-ends marks s (n - s) (omega arith);
      }

  runs-longest : (run : Run) → Memᴰ run (runs marks n) → Longest marks n run
  unfolding runs
  runs-longest run mem =
      let from = Memᴰ.of_map (run_from marks n) (select (begins marks) 0 n) mem in
      let p = picked (begins marks) 0 n from.0 from.1 in
      subst (λ (r : Run). Longest marks n r) from.2 (is-longest from.0 (omega (arith, p.below)) p.passes)

  longest-runs : (run : Run) → Longest marks n run → Memᴰ run (runs marks n)
  unfolding runs
  longest-runs run l =
      let some = l.some in
      let inside = l.inside in
      let begin = begins-at marks run.first (l.all-marked run.first (omega arith) (omega arith)) l.not-before in
      let hours : stretch marks run.first (n - run.first) ≡ run.hours =
      stretch-is marks run.first run.hours (n - run.first) (omega arith) l.all-marked (λ short. l.not_after (omega arith)) in
      Memᴰ.cast (ap (λ (hours : ℕ). record { first = run.first; hours = hours }) (sym hours))
      (Memᴰ.map (run_from marks n) (selected (begins marks) 0 n run.first (record { least = omega arith; below = omega arith; passes = begin })))

  -- a longest stretch of marked hours is a run, and a run is one
  pub runs-are : (run : Run) → Memᴰ run (runs marks n) ↔ Longest marks n run
  runs-are run = (runs-longest run, longest-runs run)

  -- an hour is marked exactly where a run has it
  pub runs-cover : (h : ℕ) → h < n → (marks h ≡ true) ↔ HasHour (runs marks n) h
  runs-cover h below = (there, back)
    where
      there : marks h ≡ true → HasHour (runs marks n) h
      there e =
          let b = begun marks h e in
          let not-past = b.not-past in
          let long = stretch-has marks b.start (suc h - b.start) (n - b.start) (omega arith) (λ i from to. b.all i from (omega arith)) in
          record {
            run = run_from marks n b.start;
            among = longest-runs (run_from marks n b.start) (is-longest b.start (omega arith) b.begin);
            from = not-past;
            to = omega arith;
          }

      back : HasHour (runs marks n) h → marks h ≡ true
      back had = (runs-longest had.run had.among).all-marked h had.from had.to

  -- ---- apart

  weaker : {a : ℕ} {rs : List Run} (b : ℕ) → b ≤ a → Apart a rs → Apart b rs
  weaker b l none = none
  weaker b l (next from more) = next (le_trans l from) more

  -- they do not begin before s, and where the hour before s is marked, not before the run that goes on there is over and an hour has passed
  record Later (s left : ℕ) : Type 0 where
    from-here : Apart s (runs-from marks n s left)
    past-the-run : marked-before marks s ≡ true → Apart (suc (s + stretch marks s left)) (runs-from marks n s left)

  -- one hour, with what is known of those after it
  hour : (s left : ℕ) → s + suc left ≡ n → (m : Bool) → marks s ≡ m → (t : Bool) → marked-before marks s ≡ t
      → Apart (suc s) (runs-from marks n (suc s) left) → (m ≡ true → Apart (suc (suc s + stretch marks (suc s) left)) (runs-from marks n (suc s) left))
      → Later s (suc left)
  hour s left at true e true f from_next past =
      record {
        from-here = rw (none-begins marks n s left (begins-by marks s ∙ rw (e, f) refl)) (weaker s (omega arith) from_next);
        past-the-run = λ q.
            rw (none-begins marks n s left (begins-by marks s ∙ rw (e, f) refl)) (weaker _ (omega (arith, stretch-on marks s left e)) (past refl));
      }
  hour s left at true e false f from_next past =
      let more : n - s ≡ suc left = omega arith in
      record {
        from-here =
            rw (run-begins marks n s left (begins-by marks s ∙ rw (e, f) refl))
            (next {run = run_from marks n s} (le_refl s) (weaker _ (omega (arith, stretch-on marks s left e, ap (stretch marks s) more)) (past refl)));
        past-the-run = λ q. absurd (true≢false (sym q ∙ f));
      }
  hour s left at false e t f from_next past =
      let same = none-begins marks n s left (begins-by marks s ∙ rw e refl) in
      record {
        from-here = rw same (weaker s (omega arith) from_next);
        past-the-run = λ q. rw same (weaker _ (omega (arith, stretch-off marks s left e)) from_next);
      }

  later : (s left : ℕ) → s + left ≡ n → Later s left
  unfolding select marked-before
  later s zero at = record { from-here = none; past-the-run = λ e. none }
  later s (suc left) at =
      let rest = later (suc s) left (omega arith) in
      hour s left at (marks s) refl (marked-before marks s) refl rest.from-here rest.past-the-run

  -- the runs are ascending; no two overlap, and no two touch
  pub runs-apart : Apart 0 (runs marks n)
  unfolding runs
  runs-apart = (later 0 n (omega arith)).from-here

-- ---- which hours are marked

found : (passes : ℕ → Bool) (l : List ℕ) → any_of passes l ≡ true → (x : ℕ) × Memᴰ x l × (passes x ≡ true)
unfolding any_of
found passes [] e = absurd (true≢false (sym e))
found passes (x ∷ l) e = case (passes x) refl e (found passes l)
  where
    case : (t : Bool) → passes x ≡ t → (t || any_of passes l) ≡ true → (any_of passes l ≡ true → (y : ℕ) × Memᴰ y l × (passes y ≡ true))
        → (y : ℕ) × Memᴰ y (x ∷ l) × (passes y ≡ true)
    case true q h rest = (x, Memᴰ.head refl, q)
    case false q h rest = let y = rest h in (y.0, Memᴰ.tail y.1, y.2)

passing : (passes : ℕ → Bool) (l : List ℕ) (x : ℕ) → Memᴰ x l → passes x ≡ true → any_of passes l ≡ true
unfolding any_of
passing passes [] x mem e = absurd (Memᴰ.not-nil mem)
passing passes (y ∷ l) x mem e =
    ⊎_elim (λ (q : x ≡ y). rw (ap passes (sym q) ∙ e) refl) (λ m. ap (λ (b : Bool). passes y || b) (passing passes l x m e) ∙ or-true (passes y))
    (Memᴰ.cases_cons mem)

module _ (P : List ℕ) (k : ℕ) (T : List ℕ) (h : ℕ) where
  -- those that a matching window holds
  pub marked-exactly : (marked P k T h ≡ true) ↔ HeldBy P k T h
  unfolding marked marked_by
  marked-exactly = (there, back)
    where
      there : marked P k T h ≡ true → HeldBy P k T h
      there e =
          let s = found (in_window (length P) h) (positions P k T) e in
          let window = (listed P k T s.0).0 s.1 in
          let held = both (leb s.0 h) (ltb h (s.0 + length P)) s.2 in
          record {
            start = s.0;
            inside = window.0;
            matching = window.1;
            from = leb-true s.0 h held.0;
            to = ltb-true h (s.0 + length P) held.1;
          }

      back : HeldBy P k T h → marked P k T h ≡ true
      back held =
          passing (in_window (length P) h) (positions P k T) held.start ((listed P k T held.start).1 (held.inside, held.matching))
          (rw (le-leb held.start h held.from, lt-ltb h (held.start + length P) held.to) refl)

  -- so that each of them is an hour of the text
  pub marked-inside : marked P k T h ≡ true → h < length T
  marked-inside e = let held = marked-exactly.0 e in omega (arith, held.inside, held.to)
