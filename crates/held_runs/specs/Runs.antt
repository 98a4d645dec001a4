-- Runs, stretches and steps of the record that bytes hold.
use Rattle.std.specs.Prelude.{ℕ, ◌+◌, ◌*◌, List, eqb, if◌then◌else◌}
use Rattle.words.specs.Answer.{Answer, refuse, ok, ◌>>=◌}
use Rattle.words.specs.Bit.{bit}
use Rattle.state.specs.declared.record.Machine.{Machine}
use Rattle.snapshot_format.specs.RecordForm.{with_record}
use Rattle.runs.specs.Run.{Ending, halted, spent, crossed, faulted, refused, Ran}
use Rattle.processor.specs.Calls.{Step}
use Rattle.held_runs.specs.Opened.{opened, given}

-- an ending as a number: its kind in bits 24 on, the number of a fault or a refusal in bits 16-23
abbrev pub end_code : Ending → ℕ
end_code halted = 0
end_code (faulted n) = 0x1000000 + n * 0x10000
end_code spent = 0x2000000
end_code crossed = 0x3000000
end_code (refused n) = 0x4000000 + n * 0x10000

-- a call on the record that bytes hold, and the words
unfoldable pub ran_on : (Machine → List ℕ → Ran) → List ℕ → List ℕ → Answer Ran
ran_on call bytes words = opened bytes >>= (λ m. ok (call m words))

-- its ending, and the count in bits 0-15
abbrev pub ran_code : Answer Ran → ℕ
ran_code (refuse n) = end_code (refused n)
ran_code (ok r) = end_code r.ending + r.count

-- what stands where a run that ended puts something; a refused one leaves what was there
abbrev pub ended_with : {A : Type 0} → A → A → Ending → A
ended_with before after halted = after
ended_with before after (faulted n) = after
ended_with before after spent = after
ended_with before after crossed = after
ended_with before after (refused n) = before

abbrev pub ended_bytes : List ℕ → Machine → Ending → List ℕ
ended_bytes bytes m ending = ended_with bytes (with_record bytes m) ending

abbrev pub ran_bytes : List ℕ → Answer Ran → List ℕ
ran_bytes bytes (refuse n) = bytes
ran_bytes bytes (ok r) = ended_bytes bytes r.machine r.ending

abbrev pub ran_words : List ℕ → Answer Ran → List ℕ
ran_words words run = given (λ r. r.words) words run

-- the same of a step: its number, and in bit 8 whether it halted; one that was refused or faulted leaves the bytes
unfoldable pub stepped_on : (Machine → List ℕ → Step) → List ℕ → List ℕ → Answer Step
stepped_on call bytes words = opened bytes >>= (λ m. ok (call m words))

abbrev pub step_code : Answer Step → ℕ
step_code (refuse n) = n
step_code (ok s) = s.number + bit s.halted * 256

abbrev pub step_bytes : List ℕ → Answer Step → List ℕ
step_bytes bytes (refuse n) = bytes
step_bytes bytes (ok s) = if eqb s.number 0 then with_record bytes s.machine else bytes

abbrev pub step_words : List ℕ → Answer Step → List ℕ
step_words words step = given (λ s. s.words) words step
