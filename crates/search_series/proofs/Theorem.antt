-- The theorem on series of calls: document 01, demand 3. Its statement is `Right`, of specs/Series.antt.
use mathlib.Core.Path.{◌≡◌, refl}
use mathlib.Core.List.{List}
use mathlib.Core.Logic.{◌⊎◌, ⊎_elim}
use Prim.Native.Nat.{ℕ, zero, suc}
use native.Mathlib.Omega.{arith}
use Rattle.answers.specs.Numbers.{answer_number}
use Rattle.answers.specs.Answers.{Answer}
use Rattle.search.specs.declared.Search.{Search}
use Rattle.search.specs.declared.SearchResult.{SearchResult}
use Rattle.search.specs.declared.FeedResult.{FeedResult}
use Rattle.search.specs.declared.SaveResult.{SaveResult}
use Rattle.search_whole.specs.Whole.{Whole}
use Rattle.search.specs.Calls.{Opened, Feeds, SetsMethod, Saves, Loads}
use Rattle.search_series.specs.History.{History, verdict, Event, opened, fed, method_set, saved, loaded, searched, brought_back, after_event, history}
use Rattle.search_series.specs.Series.{KeptAs, written_image, Run, fresh, opens, feeds, sets, saves, loads, wholes, AfterCall, Right}
use Rattle.answers.proofs.Refused.{IsRefused}
use Rattle.search_series.proofs.Contracts.{feed-keeps-search, set-refused, open-refused, load-refused}
use Rattle.search_series.proofs.Ledgers.{open-represents, feed-reports, feed-while-blank, set-while-blank, save-while-blank, load-takes, load-represents}
use Rattle.search_series.proofs.Copies.{CopiesInvariant, none, copy-meant}
use Rattle.search_series.proofs.Current.{RepresentsCurrent, is-blank, is_held, represents, blank-search, agrees-current, unchanged, feed-current, set-current, save-copies}

-- What holds after every call: of the current ledger and the search, and of the kept copies, each by itself
record Invariant (h : History) (s : Search) : Type 0 where
  current : RepresentsCurrent h.current s
  copies : CopiesInvariant h.kept

-- ---- one call more: n is the number that it gives

refused : {number n : ℕ} → number ≡ suc n → IsRefused number
refused e zero-said = omega arith

after_open : {h : History} {s : Search} → Invariant h s → {P : List ℕ} {k method : ℕ} {r : SearchResult} → Opened P k method r
    → (n : ℕ) → answer_number r.admission ≡ n → Invariant (after_event h (opened P k method (verdict n))) r.search
unfolding after_event
after_open inv contract zero e = record { current = is_held (open-represents contract e); copies = inv.copies }
after_open inv contract (suc n) e = record { current = is-blank (open-refused contract (refused e)); copies = inv.copies }

after-feed : {h : History} {s : Search} → Invariant h s → {chunk before rest : List ℕ} {r : FeedResult} → Feeds s chunk before rest r
    → (n : ℕ) → answer_number r.answer ≡ n → Invariant (after_event h (fed chunk (verdict n))) r.search
unfolding after_event
after-feed inv contract zero e = record { current = feed-current inv.current contract e; copies = inv.copies }
after-feed inv contract (suc n) e = record { current = unchanged inv.current (feed-keeps-search contract (refused e)); copies = inv.copies }

after-set : {h : History} {s : Search} → Invariant h s → {method : ℕ} {r : SearchResult} → SetsMethod s method r
    → (n : ℕ) → answer_number r.admission ≡ n → Invariant (after_event h (method_set method (verdict n))) r.search
unfolding after_event
after-set inv contract zero e = record { current = set-current inv.current contract e; copies = inv.copies }
after-set inv contract (suc n) e = record { current = unchanged inv.current (set-refused contract (refused e)); copies = inv.copies }

after-save : {h : History} {s : Search} → Invariant h s → {before rest : List ℕ} {r : SaveResult} → Saves s before rest r
    → (n : ℕ) → answer_number r.saving ≡ n → Invariant (after_event h (saved (written_image rest r) (verdict n))) r.search
unfolding after_event
after-save inv contract zero e =
    record { current = unchanged inv.current contract.search; copies = save-copies inv.current contract e inv.copies }
after-save inv contract (suc n) e = record { current = unchanged inv.current contract.search; copies = inv.copies }

after-load : {h : History} {s : Search} → Invariant h s → {bytes : List ℕ} {which : ℕ} {r : SearchResult} → Loads bytes r
    → KeptAs bytes h.kept which ⊎ (answer_number r.admission ≡ 0 → ⊥)
    → (n : ℕ) → answer_number r.admission ≡ n → Invariant (after_event h (loaded bytes which (verdict n))) r.search
unfolding after_event
after-load {h} inv {bytes} {which} {r} contract got zero e =
    record { current = ⊎_elim brought (λ no. absurd (no e)) got; copies = inv.copies }
  where
    brought : KeptAs bytes h.kept which → RepresentsCurrent (brought_back h.kept which) r.search
    brought found =
        let meant = copy-meant inv.copies found in
        rw meant.back (is_held (load-represents contract meant.ledger meant.sound meant.written_as))
after-load inv contract got (suc n) e = record { current = is-blank (load-refused contract (refused e)); copies = inv.copies }

-- a whole search hands back no search, and the history stays
after-whole : {h : History} {s : Search} → Invariant h s → {P : List ℕ} {k method : ℕ} {text before rest : List ℕ} {r : Answer}
    → Whole P k method text before rest r → Invariant (after_event h (searched P k method text (verdict (answer_number r)))) s
unfolding after_event
after-whole inv contract = inv

-- ---- every series

invariant : {P : List ℕ} {k method : ℕ} {s : Search} {events : List Event} → Run P k method s events → Invariant (history P k method events) s
unfolding history
invariant (fresh contract ok) = record { current = is_held (open-represents contract ok); copies = none }
invariant (opens run contract) = after_open (invariant run) contract _ refl
invariant (feeds run contract) = after-feed (invariant run) contract _ refl
invariant (sets run contract) = after-set (invariant run) contract _ refl
invariant (saves run contract) = after-save (invariant run) contract _ refl
invariant (loads run contract got) = after-load (invariant run) contract got _ refl
invariant (wholes run contract) = after-whole (invariant run) contract

after_call : {P : List ℕ} {k method : ℕ} {s : Search} {events : List Event} → Run P k method s events → AfterCall (history P k method events).current s
after_call run = agrees-current (invariant run).current

pub series : {P : List ℕ} {k method : ℕ} {s : Search} {events : List Event} (run : Run P k method s events) → Right run
unfolding Right
series (fresh contract ok) = after_call (fresh contract ok)
series (opens run contract) = (series run, after_call (opens run contract))
series (feeds run contract) = (
  series run,
  λ L e ok. feed-reports contract (represents (invariant run).current L e) ok,
  λ e. feed-while-blank contract (blank-search (invariant run).current e),
  after_call (feeds run contract),
)
series (sets run contract) =
    (series run, λ e. set-while-blank contract (blank-search (invariant run).current e), after_call (sets run contract))
series (saves run contract) =
    (series run, λ e. save-while-blank contract (blank-search (invariant run).current e), after_call (saves run contract))
series (loads run contract got) = (series run, λ found. let meant = copy-meant (invariant run).copies found in load-takes contract meant.ledger meant.sound meant.written_as, after_call (loads run contract got))
series (wholes run contract) = (series run, after_call (wholes run contract))
