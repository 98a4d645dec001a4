-- The call that logs a run.
use Rattle.std.specs.Prelude.{if◌then◌else◌}
use Prim.Native.Nat.{ℕ, ◌+◌, ◌-◌, ◌*◌, ◌≤◌}
use native.Mathlib.Omega.{arith}
use native.Mathlib.Nat.{zero-add}
use mathlib.Core.Bool.{Bool, true, false}
use mathlib.Core.List.{List, [], ◌∷◌, ◌++◌}
use mathlib.Core.Path.{◌≡◌, refl, sym, ap, ◌∙◌}
use borrow.Author.Tests.{le-leb, ne_eqb, eqb-true}
use lib.Dec.{eqb}
use lib.ListN.{length, get_or, drop, length-append}
use lib.Seq.{get_or-append-add, get_or-drop}
use Rattle.state.specs.declared.record.Machine.{Machine}
use Rattle.fresh.specs.Fresh.{fresh_of}
use Rattle.runs.specs.Run.{ran, refused, run_from, judged, called_of}
use Rattle.processor.specs.Calls.{run_call}
use Rattle.image_format.specs.Bytes.{pair_bytes, joined}
use Rattle.image_format.specs.Output.{written}
use Rattle.image_format.proofs.Written.{written_start, written-length}
use Rattle.executions.proofs.Stretches.{count_most}
use Rattle.crossing_log.specs.Crossings.{Crossing, crossings_of}
use Rattle.crossing_log.specs.Log.{crossing_bytes, LoggedRun, logged_of, log_judged, not_logged, log_call}
use Rattle.crossing_log.proofs.JudgeLaws.{judged-fit}
use Rattle.log_theorems.proofs.Crossings.{log-totals, balance, counts}
use Rattle.log_theorems.specs.Statements.{LogRun, LogRefused, LogBalance, FreshBalance, LogMost, LogFits, LogLength, LogPast}

pub log-run : LogRun
unfolding log_call log_judged run_call called_of logged_of
log-run m words log long = rw (le-leb 6000 (length log) (omega (arith, long))) (by (eqb (judged m words) 0) refl)
  where
    by : (t : Bool) → eqb (judged m words) 0 ≡ t
        → (if eqb (if t then 0 else judged m words) 0 then logged_of m words log else not_logged m words log (if t then 0 else judged m words)).run
        ≡ (if t then run_from false 1000 0 m words else ran m words 0 (refused (judged m words)))
    by true e = refl
    by false e = rw e refl

pub log-refused : LogRefused
unfolding log_call
log-refused m words log h = rw (ne_eqb _ _ h) refl

-- what holds of a logged run and of a refusal holds of the call
module _ (P : LoggedRun → Type 0) (m : Machine) (words log : List ℕ) (accepted : 6000 ≤ length log → P (logged_of m words log)) (refusal : (n : ℕ) → P (not_logged m words log n)) where
  called : P (log_call m words log)
  unfolding log_call
  called = by (eqb (log_judged m words log) 0) refl
    where
      by : (t : Bool) → eqb (log_judged m words log) 0 ≡ t → P (if t then logged_of m words log else not_logged m words log (log_judged m words log))
      by true e = accepted (judged-fit m words log (eqb-true (log_judged m words log) 0 e)).1
      by false e = refusal (log_judged m words log)

pub log-balance : LogBalance
unfolding logged_of
log-balance m words log =
    called (λ r. m.depth + r.calls ≡ r.run.machine.depth + r.returns) m words log (λ long. balance 1000 0 m words) (λ n. refl)

pub fresh-balance : FreshBalance
unfolding fresh_of
fresh-balance l words log = sym (zero-add (log_call (fresh_of l) words log).calls) ∙ log-balance (fresh_of l) words log

pub log-most : LogMost
log-most k m words =
    let c = counts k 0 m words in
    let d = (count_most false k 0 m words).1 in
    (omega (arith, c), omega (arith, c, d))

-- a record has six bytes
sixes : (cs : List Crossing) → length (joined crossing_bytes cs) ≡ length cs * 6
unfolding joined pair_bytes
sixes [] = refl
sixes (c ∷ cs) = omega (arith, sixes cs, length-append (crossing_bytes c) (joined crossing_bytes cs))

pub log-fits : LogFits
log-fits m words = omega (arith, sixes (crossings_of 1000 m words), (log-most 1000 m words).1)

pub log-length : LogLength
unfolding logged_of
log-length m words log =
    called (λ r. length r.log ≡ length log) m words log
    (λ long. written-length log 0 (joined crossing_bytes (crossings_of 1000 m words)) (omega (arith, long, log-fits m words))) (λ n. refl)

-- what is written from the start leaves the bytes past it
past : (log bytes : List ℕ) (i : ℕ) → length bytes ≤ i → get_or (written log 0 bytes) i 0 ≡ get_or log i 0
past log bytes i h =
    let e : i ≡ length bytes + (i - length bytes) = omega (arith, h) in
    ap (λ (l : List ℕ). get_or l i 0) (written_start log bytes) ∙ ap (λ (j : ℕ). get_or (bytes ++ drop (length bytes) log) j 0) e ∙
    get_or-append-add bytes (drop (length bytes) log) (i - length bytes) 0 ∙ get_or-drop (length bytes) log (i - length bytes) 0 ∙ ap (λ (j : ℕ). get_or log j 0) (sym e)

pub log-past : LogPast
unfolding logged_of
log-past m words log i h =
    called (λ r. (r.calls + r.returns) * 6 ≤ i → get_or r.log i 0 ≡ get_or log i 0) m words log
    (λ long h. past log (joined crossing_bytes (crossings_of 1000 m words)) i (omega (arith, h, sixes (crossings_of 1000 m words), log-totals (crossings_of 1000 m words))))
    (λ n h. refl) (omega (arith, h))
