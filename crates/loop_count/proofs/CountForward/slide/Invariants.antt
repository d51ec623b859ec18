use mathlib.Core.Path.{◌≡◌, refl}
use mathlib.Core.List.{List, ◌∷◌}
use Prim.Native.Nat.{ℕ, ◌≤◌, ◌<◌, ◌-◌, ◌+◌, ◌^◌}
use native.Mathlib.Omega.{arith}
use mir.Val.{bool_byte}
use lib.Dec.{leb}
use lib.ListN.{length, get_or, set, drop, length-take}
use Rattle.jumbled.specs.Match.{Bytes, window, window_prefix}
use Rattle.jumbled.specs.Steps.{count_judged}
use Rattle.table_parikh.specs.Table.{allowances}
use Rattle.lent.specs.declared.Range.{Range}
use Rattle.lent.specs.Loops.{Fitting}
use Rattle.loop_count.specs.Counting.{CountTabled, Counting}
use Rattle.loop_forward.proofs.Progress.{Progress, Turn, last_byte, first_byte, by_last, by_first, prefix-bytes, prefix-short, turn-listed, turn-skipped}
use Rattle.loop_count.proofs.Counters.{counting_more, counter-room, excess-room, counting-less}
use Rattle.loop_count.proofs.Judging.{judged-right, judged-wrong, judged-unverified}
use Rattle.loop_count.proofs.CountForward.slide.Given as goal

-- What holds before the window at s
pub record Running (P : List ℕ) (m k : ℕ) (T : List ℕ) (range : Range) (before after counts : List ℕ) (window_excess at inspections s : ℕ) : Type 0 where
  pub progress : Progress (count_judged P k) m T range before after at inspections s
  pub state : Counting P (window_prefix m T s) counts window_excess

-- and in a turn of the loop
pub record Counts (P allowed : List ℕ) (m k : ℕ) (T : List ℕ) (range : Range) (before after counts : List ℕ) (window_excess at inspections s : ℕ) : Type 0 where
  pub turn : Turn (count_judged P k) m T range before after at inspections s
  pub known : allowed ≡ allowances P
  pub state : Counting P (window_prefix m T s) counts window_excess

-- the counters once a byte enters or leaves, and what the excess gains or loses
abbrev pub more : List ℕ → ℕ → List ℕ
more counts b = set counts b (get_or counts b 0 + 1)

abbrev pub less : List ℕ → ℕ → List ℕ
less counts b = set counts b (get_or counts b 0 - 1)

abbrev pub spent : List ℕ → List ℕ → ℕ → ℕ
spent allowed counts b = bool_byte (leb (get_or allowed b 0) (get_or counts b 0))

module _ {P allowed : List ℕ} {m k : ℕ} {T : List ℕ} {range : Range} {before after counts : List ℕ} {window_excess at inspections s : ℕ}
    (here : Counts P allowed m k T range before after counts window_excess at inspections s) where
  abbrev pub entering : ℕ
  entering = get_or T (s + m - 1) 0

  abbrev pub first : ℕ
  first = get_or T s 0

  pub few : (i : ℕ) → length (window_prefix m T i) < 255
  few i = omega (arith, length-take (m - 1) (drop i T), here.turn.fitting.short)

  pub over-window : Counting P (window m T s) (more counts entering) (window_excess + spent allowed counts entering)
  over-window = rw (by_last here.turn) (counting_more here.state here.known (few s) (last_byte here.turn))

  pub from_first : Counting P (first ∷ window_prefix m T (s + 1)) (more counts entering) (window_excess + spent allowed counts entering)
  from_first = rw (by_first here.turn) at over-window

  pub excess-fits : window_excess + spent allowed counts entering < 2 ^ 64
  excess-fits =
      omega (
        arith,
        excess-room here.state (prefix-bytes here.turn) (leb (get_or allowed entering 0) (get_or counts entering 0)),
        prefix-short here.turn,
      )

  pub counter-fits : get_or counts entering 0 + 1 < 2 ^ 8
  counter-fits = omega (arith, counter-room here.state (last_byte here.turn), prefix-short here.turn)

  pub inspected-once : inspections + 1 ≡ inspections + (1 + (count_judged P k (window m T s)).verification)
  inspected-once = rw (judged-unverified P k (window m T s)) refl

  pub again-listed : window_excess + spent allowed counts entering ≤ k
      → Progress (count_judged P k) m T range before (set after at (range.base + s)) (at + 1) (inspections + 1) (s + 1)
  again-listed h = turn-listed here.turn (inspections + 1) inspected-once (omega arith) (judged-right over-window h)

  pub again-skipped : k < window_excess + spent allowed counts entering
      → Progress (count_judged P k) m T range before after at (inspections + 1) (s + 1)
  again-skipped h = turn-skipped here.turn (inspections + 1) inspected-once (omega arith) (judged-wrong over-window h)

  pub kept : Counting P (window_prefix m T (s + 1)) (less (more counts entering) first)
      (window_excess + spent allowed counts entering - spent allowed (less (more counts entering) first) first)
  kept = counting-less from_first (first_byte here.turn) here.known (few (s + 1))

-- so it is in a turn
pub counts-of : {m k s at inspections : ℕ} {P allowed T before after counts : List ℕ} {window_excess : ℕ} {range : Range}
    → CountTabled P allowed → Fitting T m range → Bytes T → Running P m k T range before after counts window_excess at inspections s
    → s < range.end → at < length after
    → Counts P allowed m k T range before after counts window_excess at inspections s
counts-of tabled fitting bytes running in-loop place =
    record {
      turn = record { fitting = fitting; bytes = bytes; so_far = running.progress; in-loop = in-loop; place = place };
      known = tabled.allows;
      state = running.state;
    }

-- No place was missing yet
abbrev pub invariant-loop-s : goal.invariant-loop-s
invariant-loop-s l =
    Running l.self.pattern.now (length l.self.pattern.now) l.self.k l.text l.fn.range l.initial.list l.list l.counts l.excess l.at l.inspections l.s
    × (l.next ≡ l.fn.range.end)
