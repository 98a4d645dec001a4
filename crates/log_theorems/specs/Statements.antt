-- What is proved of the crossings of a run and of their log; the proofs stand in proofs/.
use Rattle.std.specs.Prelude.{ℕ, ◌+◌, ◌*◌, ◌≤◌, List, ◌++◌, ◌≡◌, length, get_or}
use Rattle.words.specs.Answer.{ok}
use Rattle.words.specs.declared.pointer.Pointer.{Pointer}
use Rattle.state.specs.declared.record.Layout.{Layout}
use Rattle.state.specs.declared.record.Machine.{Machine}
use Rattle.state.specs.Record.{live_frame, of_segment}
use Rattle.fresh.specs.Fresh.{fresh_of}
use Rattle.memory.specs.Reader.{read_word}
use Rattle.crossings.specs.Crossing.{enter_of, leave_of}
use Rattle.runs.specs.Run.{spent}
use Rattle.processor.specs.Calls.{run_of, run_call}
use Rattle.image_format.specs.Bytes.{joined}
use Rattle.crossing_log.specs.Crossings.{call, return, Crossing, crossing_to, crossings_of}
use Rattle.crossing_log.specs.Log.{crossing_bytes, of_kind, log_judged, not_logged, log_call}
use Rattle.log_theorems.specs.ReadBack.{records_in}

-- a log changes nothing of the run: it is the call of a run with limit 1,000
abbrev pub LogRun : Type 0
LogRun = (m : Machine) (words log : List ℕ) → 6000 ≤ length log → (log_call m words log).run ≡ run_call 1000 m words

-- a refused call changes nothing, and counts nothing
abbrev pub LogRefused : Type 0
LogRefused =
    (m : Machine) (words log : List ℕ) → (log_judged m words log ≡ 0 → ⊥)
    → log_call m words log ≡ not_logged m words log (log_judged m words log)

-- a call through a gate is put down as a call from the executing domain into the gate's, at the gate
abbrev pub CallPutDown : Type 0
CallPutDown =
    (m n : Machine) (words : List ℕ) (gate : Pointer) → enter_of m (read_word m words) gate ≡ ok n
    → crossing_to m n
    ≡ record {
      kind = call;
      left = m.registers.domain;
      entered = of_segment m.layout.gatedomains gate.segment;
      segment = gate.segment;
      word = gate.word;
    }

-- a return from one, by an instruction with its indirect word at q, as a return from the executing domain into the newest frame's, at the place that is returned to
abbrev pub ReturnPutDown : Type 0
ReturnPutDown =
    (m n : Machine) (q back : Pointer) → leave_of m q back ≡ ok n
    → crossing_to m n
    ≡ record {
      kind = return;
      left = m.registers.domain;
      entered = (live_frame m.depth m.frames).domain;
      segment = back.segment;
      word = back.word;
    }

-- each crossing is of one kind: the totals of a list add up to its length
abbrev pub LogTotals : Type 0
LogTotals = (cs : List Crossing) → of_kind call cs + of_kind return cs ≡ length cs

-- frames in use before and calls are as many as frames in use after and returns
abbrev pub LogBalance : Type 0
LogBalance =
    (m : Machine) (words log : List ℕ)
    → m.depth + (log_call m words log).calls ≡ (log_call m words log).run.machine.depth + (log_call m words log).returns

-- from a fresh machine, calls less returns is the number of frames in use at the end
abbrev pub FreshBalance : Type 0
FreshBalance =
    (l : Layout) (words log : List ℕ)
    → (log_call (fresh_of l) words log).calls ≡ (log_call (fresh_of l) words log).run.machine.depth + (log_call (fresh_of l) words log).returns

-- there are no more records than instructions completed, nor than the limit
abbrev pub LogMost : Type 0
LogMost =
    (k : ℕ) (m : Machine) (words : List ℕ)
    → (length (crossings_of k m words) ≤ (run_of k m words).count) × (length (crossings_of k m words) ≤ k)

-- 6,000 bytes always do
abbrev pub LogFits : Type 0
LogFits = (m : Machine) (words : List ℕ) → length (joined crossing_bytes (crossings_of 1000 m words)) ≤ 6000

-- the log keeps its length, and each byte past the last record
abbrev pub LogLength : Type 0
LogLength = (m : Machine) (words log : List ℕ) → length (log_call m words log).log ≡ length log

abbrev pub LogPast : Type 0
LogPast =
    (m : Machine) (words log : List ℕ) (i : ℕ) → ((log_call m words log).calls + (log_call m words log).returns) * 6 ≤ i
    → get_or (log_call m words log).log i 0 ≡ get_or log i 0

-- the crossings that the bytes of a log hold after the call, as many as the totals say
abbrev pub logged_records : Machine → List ℕ → List ℕ → List Crossing
logged_records m words log = records_in ((log_call m words log).calls + (log_call m words log).returns) (log_call m words log).log

-- they are those of the run; the list of frames is as long as the array
abbrev pub LogReadBack : Type 0
LogReadBack =
    (m : Machine) (words log : List ℕ) → log_judged m words log ≡ 0 → length m.frames ≡ 8
    → logged_records m words log ≡ crossings_of 1000 m words

-- the totals are how many calls and returns these are
abbrev pub LogCounted : Type 0
LogCounted =
    (m : Machine) (words log : List ℕ) → log_judged m words log ≡ 0 → length m.frames ≡ 8
    → (of_kind call (logged_records m words log) ≡ (log_call m words log).calls) × (of_kind return (logged_records m words log) ≡ (log_call m words log).returns)

-- a run that is spent and goes on has the crossings of both its parts
abbrev pub LogGoesOn : Type 0
LogGoesOn =
    (j k : ℕ) (m : Machine) (words : List ℕ) → (run_of j m words).ending ≡ spent
    → crossings_of (j + k) m words ≡ crossings_of j m words ++ crossings_of k (run_of j m words).machine (run_of j m words).words
