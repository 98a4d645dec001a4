-- Runs made of single steps, and of stretches.
use Rattle.std.specs.Prelude.{ℕ, zero, suc, ◌+◌, ◌-◌, Bool, true, false, List}
use Rattle.state.specs.declared.record.Machine.{Machine}
use Rattle.runs.specs.Step.{execute}
use Rattle.runs.specs.Run.{Ending, halted, spent, crossed, faulted, refused, Ran, ran, after, run_from}
use Rattle.processor.specs.Calls.{Step}

-- a run that is spent makes one instruction more; one that has ended stays
abbrev advance_from : Ran → Ending → Ran
advance_from r halted = r
advance_from r spent =
    after false (λ m words. ran m words (r.count + 1) spent) r.count r.machine r.words (execute r.machine r.words)
advance_from r crossed = r
advance_from r (faulted n) = r
advance_from r (refused n) = r

unfoldable pub advance : Ran → Ran
advance r = advance_from r r.ending

-- n instructions more
unfoldable pub advances : ℕ → Ran → Ran
advances zero r = r
advances (suc n) r = advance (advances n r)

-- n steps, one after the other
abbrev pub steps : ℕ → Machine → List ℕ → Ran
steps n m words = advances n (ran m words 0 spent)

-- the number that a step gives for an ending, and whether it halted
abbrev pub ending_number : Ending → ℕ
ending_number halted = 0
ending_number spent = 0
ending_number crossed = 0
ending_number (faulted n) = n
ending_number (refused n) = n

abbrev pub is_halted : Ending → Bool
is_halted halted = true
is_halted spent = false
is_halted crossed = false
is_halted (faulted n) = false
is_halted (refused n) = false

-- a run of one instruction as a step's answer
abbrev pub as_step : Ran → Step
as_step r = record { machine = r.machine; words = r.words; number = ending_number r.ending; halted = is_halted r.ending }

-- a stretch that ended at a crossing goes on as a run, up to limit instructions in all
abbrev after_stretch_from : ℕ → Ran → Ending → Ran
after_stretch_from limit r halted = r
after_stretch_from limit r spent = r
after_stretch_from limit r crossed = run_from false (limit - r.count) r.count r.machine r.words
after_stretch_from limit r (faulted n) = r
after_stretch_from limit r (refused n) = r

unfoldable pub after_stretch : ℕ → Ran → Ran
after_stretch limit r = after_stretch_from limit r r.ending
