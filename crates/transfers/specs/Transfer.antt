-- The checks of jumps and calls.
use Rattle.std.specs.Prelude.{ℕ, Bool, true, false, not, List, ltb, if◌then◌else◌, Result, Ok, Err}
use Rattle.words.specs.Answer.{Answer, refuse, ok, ◌>>◌, require}
use Rattle.words.specs.Numbers.{no_word, flag_missing, tagged_transfer, not_gate, no_free_frame}
use Rattle.words.specs.declared.pointer.Pointer.{Pointer}
use Rattle.references.specs.declared.flag.Flag.TheVariants as flag
use Rattle.references.specs.Flag.{has}
use Rattle.references.specs.Static.{exists, rights_of, static_of}
use Rattle.words.specs.Refusal.{number}
use Rattle.words.specs.declared.refusal.Refusal.{Refusal}
use Rattle.transfers.specs.declared.Way.{Way}
use Rattle.transfers.specs.declared.Way.TheVariants as way
use Rattle.state.specs.Record.{of_segment}

-- a jump's checks, an untagged pointer, then static E: 0, or the number of the fault
unfoldable pub jump_check : List ℕ → List ℕ → ℕ → Pointer → ℕ
jump_check lengths rights domain p = if p.tag then tagged_transfer else static_of lengths rights domain flag.Execute p.segment p.word

-- a call's checks: untagged; the word exists; with E it is a call inside the domain; else G, then a gate, then a free frame
unfoldable pub call_way : List ℕ → List ℕ → List ℕ → ℕ → ℕ → Pointer → Answer Bool
call_way lengths gates rights domain depth p =
    require (not p.tag) tagged_transfer >>
    require (exists lengths p.segment p.word) no_word >>
    (if has (rights_of rights domain p.segment) flag.Execute then ok true
    else (
    require (has (rights_of rights domain p.segment) flag.Gate) flag_missing >>
    require (ltb p.word (of_segment gates p.segment)) not_gate >>
    require (ltb depth 8) no_free_frame >>
    ok false))

-- what the code's result stands for: true inside the domain, false through a gate
abbrev pub call_answer : Result Way Refusal → Answer Bool
call_answer (Ok way.Inside) = ok true
call_answer (Ok way.Gate) = ok false
call_answer (Err r) = refuse (number r)
