-- The log of a run: its crossings as bytes, and how many there are of each kind.
use Rattle.std.specs.Prelude.{ℕ, ◌+◌, Bool, true, false, List, [], ◌∷◌, eqb, leb, length, if◌then◌else◌}
use Rattle.words.specs.Bit.{bit}
use Rattle.words.specs.Numbers.{output_too_short}
use Rattle.state.specs.declared.record.Machine.{Machine}
use Rattle.runs.specs.Run.{Ran, ran, refused, judged, ran_answer}
use Rattle.processor.specs.Calls.{run_of}
use Rattle.image_format.specs.Bytes.{pair_bytes, joined}
use Rattle.image_format.specs.Output.{written}
use Rattle.crossing_log.specs.Crossings.{Kind, call, return, Crossing, crossings_of}
use Rattle.crossing_log.specs.declared.Logged.{Logged}

-- 0 for a call, 1 for a return
abbrev pub kind_byte : Kind → ℕ
kind_byte call = 0
kind_byte return = 1

-- six bytes: kind, domain left, domain entered, segment, and the word in two
abbrev pub crossing_bytes : Crossing → List ℕ
crossing_bytes c = kind_byte c.kind ∷ c.left ∷ c.entered ∷ c.segment ∷ pair_bytes c.word

-- how many crossings are of a kind
abbrev pub same_kind : Kind → Kind → Bool
same_kind call call = true
same_kind call return = false
same_kind return call = false
same_kind return return = true

unfoldable pub of_kind : Kind → List Crossing → ℕ
of_kind k [] = 0
of_kind k (c ∷ cs) = bit (same_kind k c.kind) + of_kind k cs

-- a run, the bytes of its log, and the totals
pub record LoggedRun : Type 0 where
  pub run : Ran
  pub log : List ℕ
  pub calls : ℕ
  pub returns : ℕ

-- a run of 1,000 instructions; its records stand from the start of the log on, and the bytes past them stay
unfoldable pub logged_of : Machine → List ℕ → List ℕ → LoggedRun
logged_of m words log =
    let crossings = crossings_of 1000 m words in
    record {
      run = run_of 1000 m words;
      log = written log 0 (joined crossing_bytes crossings);
      calls = of_kind call crossings;
      returns = of_kind return crossings;
    }

-- what is judged first: 9, then 7, then 8
unfoldable pub log_judged : Machine → List ℕ → List ℕ → ℕ
log_judged m words log = if eqb (judged m words) 0 then (if leb 6000 (length log) then 0 else output_too_short) else judged m words

-- a refused call leaves record, words and log
abbrev pub not_logged : Machine → List ℕ → List ℕ → ℕ → LoggedRun
not_logged m words log n = record { run = ran m words 0 (refused n); log = log; calls = 0; returns = 0 }

-- the call, on any record, words and log
unfoldable pub log_call : Machine → List ℕ → List ℕ → LoggedRun
log_call m words log = if eqb (log_judged m words log) 0 then logged_of m words log else not_logged m words log (log_judged m words log)

-- what the code's answer stands for
abbrev pub logged_answer : Logged → List ℕ → List ℕ → LoggedRun
logged_answer l words log = record { run = ran_answer l.outcome words; log = log; calls = l.calls; returns = l.returns }
