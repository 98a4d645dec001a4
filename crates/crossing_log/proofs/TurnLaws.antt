-- A logged run, stretch after stretch.
use Prim.Native.Nat.{ℕ, ◌+◌, ◌-◌, ◌*◌, ◌≤◌}
use native.Mathlib.Omega.{arith}
use native.Mathlib.Nat.{zero-add}
use mathlib.Core.Bool.{true, false}
use mathlib.Core.List.{List, [], ◌∷◌}
use mathlib.Core.Path.{◌≡◌, refl, sym, ap, ◌∙◌}
use borrow.Author.Tests.{le-leb}
use lib.Dec.{ltb}
use lib.ListN.{length}
use Rattle.words.specs.Bit.{bit}
use Rattle.words.specs.declared.refusal.Refusal.{Refusal}
use Rattle.state.specs.declared.record.Machine.{Machine}
use Rattle.soundness.proofs.Facts.{sound-facts}
use Rattle.runs.specs.declared.outcome.End.{End}
use Rattle.runs.specs.declared.outcome.End.TheVariants as end
use Rattle.runs.specs.declared.outcome.Outcome.{Outcome}
use Rattle.runs.specs.Run.{Ending, halted, spent, crossed, faulted, refused, Ran, ran, run_from, judged_run, end_answer, ran_answer}
use Rattle.processor.specs.Steps.{after_stretch}
use Rattle.image_format.specs.Bytes.{pair_bytes, joined}
use Rattle.image_format.specs.Output.{written}
use Rattle.image_format.proofs.Written.{written_none, written-length, written-more}
use Rattle.executions.specs.Statements.{SoundRecord}
use Rattle.executions.proofs.Stretches.{run-stretches, count_most}
use Rattle.executions.proofs.Sound.{run_sound}
use Rattle.executions.proofs.Words.{run_length}
use Rattle.crossing_log.specs.Crossings.{Kind, call, return, Crossing, kind_of, crossing_to, crossings_of}
use Rattle.crossing_log.specs.Log.{crossing_bytes, same_kind, of_kind, LoggedRun, logged_of}
use Rattle.crossing_log.proofs.StretchLaws.{recounted, recounts, crossed-some, rest_of, crossings-stretch}

-- a log with crossings put from a place on, and totals that had come so far
abbrev logged : Ran → List ℕ → ℕ → ℕ → ℕ → List Crossing → LoggedRun
logged r log at calls returns cs =
    record { run = r; log = written log at (joined crossing_bytes cs); calls = calls + of_kind call cs; returns = returns + of_kind return cs }

-- at most k instructions more, n completed so far
abbrev pub logged_from : ℕ → ℕ → Machine → List ℕ → List ℕ → ℕ → ℕ → ℕ → LoggedRun
logged_from k n m words log at calls returns = logged (run_from false k n m words) log at calls returns (crossings_of k m words)

-- one crossing put down, and no more
one-put : (r : Ran) (log : List ℕ) (at calls returns : ℕ) (c : Crossing) (cs : List Crossing) → at + 6 ≤ length log
    → logged r log at calls returns (c ∷ cs)
    ≡ logged r (written log at (crossing_bytes c)) (at + 6) (calls + bit (same_kind call c.kind)) (returns + bit (same_kind return c.kind)) cs
unfolding joined of_kind pair_bytes
one-put r log at calls returns c cs h =
    let e : written log at (joined crossing_bytes (c ∷ cs)) ≡ written (written log at (crossing_bytes c)) (at + 6) (joined crossing_bytes cs) =
    sym (written-more log at (crossing_bytes c) (joined crossing_bytes cs) (at + 6) h refl) in
    let f : calls + (bit (same_kind call c.kind) + of_kind call cs) ≡ calls + bit (same_kind call c.kind) + of_kind call cs = omega arith in
    let g : returns + (bit (same_kind return c.kind) + of_kind return cs) ≡ returns + bit (same_kind return c.kind) + of_kind return cs = omega arith in
    (λ i. record { run = r; log = e i; calls = f i; returns = g i })

none-put : (r : Ran) (log : List ℕ) (at calls returns : ℕ) → logged r log at calls returns [] ≡ record { run = r; log = log; calls = calls; returns = returns }
unfolding joined of_kind
none-put r log at calls returns =
    let e : written log at [] ≡ log = sym (written_none log at) in
    let f : calls + 0 ≡ calls = omega arith in
    let g : returns + 0 ≡ returns = omega arith in
    (λ i. record { run = r; log = e i; calls = f i; returns = g i })

module _ (k n : ℕ) (m : Machine) (words log : List ℕ) (at calls returns : ℕ) where
  abbrev first : Ran
  first = run_from true k 0 m words

  -- the run and its crossings, of the first stretch
  run-first : run_from false k n m words ≡ recounted n (after_stretch k first)
  run-first =
      ap (λ (c : ℕ). run_from false k c m words) (let e : n ≡ n + 0 = omega arith in e) ∙ recounts false n k 0 m words ∙
      ap (recounted n) (run-stretches k 0 m words ∙ ap (λ (c : ℕ). after_stretch c first) (zero-add k))

  crossings-first : crossings_of k m words ≡ rest_of k m first
  crossings-first = crossings-stretch k 0 m words ∙ ap (λ (c : ℕ). rest_of c m first) (zero-add k)

  of-first : logged_from k n m words log at calls returns ≡ logged (recounted n (after_stretch k first)) log at calls returns (rest_of k m first)
  of-first = (λ i. logged (run-first i) log at calls returns (crossings-first i))

  abbrev Turns : Ran → LoggedRun → Type 0
  Turns r x = logged (recounted n (after_stretch k r)) log at calls returns (rest_of k m r) ≡ x

  -- a stretch that does not end at a crossing ends the run
  ends_by : (x : Machine) (now : List ℕ) (c : ℕ) (e : Ending) → (e ≡ crossed → ⊥)
      → Turns (ran x now c e) (record { run = recounted n (ran x now c e); log = log; calls = calls; returns = returns })
  unfolding after_stretch
  ends_by x now c halted other = none-put (recounted n (ran x now c halted)) log at calls returns
  ends_by x now c spent other = none-put (recounted n (ran x now c spent)) log at calls returns
  ends_by x now c crossed other = absurd (other refl)
  ends_by x now c (faulted f) other = none-put (recounted n (ran x now c (faulted f))) log at calls returns
  ends_by x now c (refused f) other = none-put (recounted n (ran x now c (refused f))) log at calls returns

  pub ends-turn : (first.ending ≡ crossed → ⊥) → logged_from k n m words log at calls returns ≡ record { run = recounted n first; log = log; calls = calls; returns = returns }
  ends-turn other = of-first ∙ ends_by first.machine first.words first.count first.ending other

  -- one that does puts a crossing down, and the run goes on from there
  crosses-by : (x : Machine) (now : List ℕ) (c : ℕ) → at + 6 ≤ length log
      → Turns (ran x now c crossed)
      (logged_from (k - c) (n + c) x now (written log at (crossing_bytes (crossing_to m x))) (at + 6)
      (calls + bit (same_kind call (crossing_to m x).kind)) (returns + bit (same_kind return (crossing_to m x).kind)))
  unfolding after_stretch
  crosses-by x now c room =
      one-put (recounted n (run_from false (k - c) c x now)) log at calls returns (crossing_to m x) (crossings_of (k - c) x now) room ∙
      ap (λ (r : Ran). logged r (written log at (crossing_bytes (crossing_to m x))) (at + 6)
      (calls + bit (same_kind call (crossing_to m x).kind)) (returns + bit (same_kind return (crossing_to m x).kind)) (crossings_of (k - c) x now))
      (sym (recounts false n (k - c) c x now))

  pub crosses-turn : first.ending ≡ crossed → at + 6 ≤ length log
      → logged_from k n m words log at calls returns
      ≡ logged_from (k - first.count) (n + first.count) first.machine first.words (written log at (crossing_bytes (crossing_to m first.machine))) (at + 6)
      (calls + bit (same_kind call (crossing_to m first.machine).kind)) (returns + bit (same_kind return (crossing_to m first.machine).kind))
  crosses-turn e room =
      of-first ∙ ap (λ (r : Ran). logged (recounted n (after_stretch k r)) log at calls returns (rest_of k m r)) (let q : first ≡ ran first.machine first.words first.count crossed = ap (ran first.machine first.words first.count) e in q)
      ∙ crosses-by first.machine first.words first.count room

-- a logged run has come to a machine, its words and log after n instructions, with its totals
pub record Follows (m₀ : Machine) (words₀ log₀ : List ℕ) (m : Machine) (words log : List ℕ) (n calls returns : ℕ) : Type 0 where
  pub within : n ≤ 1000
  pub made : calls + returns ≤ n
  pub sound : SoundRecord m
  pub same : length words ≡ length words₀
  pub room : length log ≡ length log₀
  pub rest : logged_of m₀ words₀ log₀ ≡ logged_from (1000 - n) n m words log ((calls + returns) * 6) calls returns

pub starts : (m : Machine) (words log : List ℕ) → SoundRecord m → Follows m words log m words log 0 0 0
unfolding logged_of
starts m words log s =
    record {
      within = omega arith;
      made = omega arith;
      sound = s;
      same = refl;
      room = refl;
      rest =
          (λ i. record { run = run_from false 1000 0 m words; log = written log 0 (joined crossing_bytes (crossings_of 1000 m words)); calls = sym (zero-add (of_kind call (crossings_of 1000 m words))) i; returns = sym (zero-add (of_kind return (crossings_of 1000 m words))) i });
    }

-- one crossing is a call or a return
pub one-kind : (k : Kind) → bit (same_kind call k) + bit (same_kind return k) ≡ 1
one-kind call = refl
one-kind return = refl

-- a sound record has at most eight frames in use
judged-run : (run : Machine → List ℕ → Ran) (m : Machine) (words : List ℕ) → SoundRecord m → judged_run run m words ≡ run m words
unfolding judged_run
judged-run run m words s = rw (le-leb m.depth 8 (sound-facts m s.0).frames.most) refl

crossed-only : (e : End Refusal) → end_answer e ≡ crossed → e ≡ end.Crossed
crossed-only end.Crossed q = refl
crossed-only end.Halted q = absurd (let z : ◌≡◌ {A = ℕ} 0 1 = cc in omega arith)
crossed-only (end.Faulted f) q = absurd (let z : ◌≡◌ {A = ℕ} 0 1 = cc in omega arith)
crossed-only end.Spent q = absurd (let z : ◌≡◌ {A = ℕ} 0 1 = cc in omega arith)
crossed-only (end.Refused f) q = absurd (let z : ◌≡◌ {A = ℕ} 0 1 = cc in omega arith)

-- what a turn of the loop makes of it: a stretch from m comes to o and the words now
module _ (m₀ : Machine) (words₀ log₀ : List ℕ) (m : Machine) (words log : List ℕ) (n calls returns : ℕ) (f : Follows m₀ words₀ log₀ m words log n calls returns) (long : 6000 ≤ length log₀)
    (o : Outcome) (now : List ℕ) (eo : ran_answer o now ≡ judged_run (run_from true (1000 - n) 0) m words) where
  is : ran_answer o now ≡ run_from true (1000 - n) 0 m words
  is = eo ∙ judged-run (run_from true (1000 - n) 0) m words f.sound

  pub counted : n + o.count ≤ 1000
  counted = let c = rw (← is) at (count_most true (1000 - n) 0 m words).1 in omega (arith, c, f.within)

  sound-after : SoundRecord o.machine
  sound-after = rw (← is) at (run_sound m words f.sound true (1000 - n) 0)

  pub same_after : length now ≡ length words₀
  same_after = (rw (← is) at (run_length true (1000 - n) 0 m words)) ∙ f.same

  pub ends : (o.end ≡ end.Crossed → ⊥) → logged_of m₀ words₀ log₀ ≡ record { run = ran o.machine now (n + o.count) (end_answer o.end); log = log; calls = calls; returns = returns }
  ends other =
      f.rest ∙
      ends-turn (1000 - n) n m words log ((calls + returns) * 6) calls returns (λ q. other (crossed-only o.end (ap (λ r. r.ending) is ∙ q))) ∙
      ap (λ (r : Ran). record { run = recounted n r; log = log; calls = calls; returns = returns }) (sym is)

  module _ (e : o.end ≡ end.Crossed) where
    ended : (run_from true (1000 - n) 0 m words).ending ≡ crossed
    ended = ap (λ r. r.ending) (sym is) ∙ ap end_answer e

    pub some : 1 ≤ o.count
    some = let c = rw (← is, e) at (crossed-some 0 (1000 - n) m words) in omega (arith, c)

    pub fits : (calls + returns) * 6 + 6 ≤ length log
    fits = omega (arith, f.made, f.room, long, some, counted)

    abbrev kind : Kind
    kind = kind_of m.depth o.machine.depth

    abbrev put : List ℕ
    put = written log ((calls + returns) * 6) (crossing_bytes (crossing_to m o.machine))

    goes_on : Follows m₀ words₀ log₀ o.machine now put (n + o.count) (calls + bit (same_kind call kind)) (returns + bit (same_kind return kind))
    unfolding pair_bytes
    goes_on =
        record {
          within = counted;
          made = omega (arith, one-kind kind, f.made, some);
          sound = sound-after;
          same = same_after;
          room = written-length log ((calls + returns) * 6) (crossing_bytes (crossing_to m o.machine)) fits ∙ f.room;
          rest = f.rest ∙ turned ∙ (λ i. logged_from (less i) (n + o.count) o.machine now put (place i) (calls + bit (same_kind call kind)) (returns + bit (same_kind return kind)));
        }
      where
        turned : logged_from (1000 - n) n m words log ((calls + returns) * 6) calls returns
            ≡ logged_from (1000 - n - o.count) (n + o.count) o.machine now put ((calls + returns) * 6 + 6) (calls + bit (same_kind call kind)) (returns + bit (same_kind return kind))
        turned = rw (← is) at (crosses-turn (1000 - n) n m words log ((calls + returns) * 6) calls returns ended fits)

        less : 1000 - n - o.count ≡ 1000 - (n + o.count)
        less = omega arith

        place : (calls + returns) * 6 + 6 ≡ (calls + bit (same_kind call kind) + (returns + bit (same_kind return kind))) * 6
        place = omega (arith, one-kind kind)

    goes_so : (b : List ℕ) (c r : ℕ) → b ≡ put → c ≡ calls + bit (same_kind call kind) → r ≡ returns + bit (same_kind return kind) → Follows m₀ words₀ log₀ o.machine now b (n + o.count) c r
    goes_so b c r eb ec er = rw (eb, ec, er) goes_on

    pub called_on : (b : List ℕ) → b ≡ put → ltb m.depth o.machine.depth ≡ true → Follows m₀ words₀ log₀ o.machine now b (n + o.count) (calls + 1) returns
    called_on b eb t = goes_so b (calls + 1) returns eb (rw t refl) (rw t (omega arith))

    pub returned-on : (b : List ℕ) → b ≡ put → ltb m.depth o.machine.depth ≡ false → Follows m₀ words₀ log₀ o.machine now b (n + o.count) calls (returns + 1)
    returned-on b eb t = goes_so b calls (returns + 1) eb (rw t (omega arith)) (rw t refl)
