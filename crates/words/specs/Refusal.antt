-- Refusals: the code's reasons, their numbers, and the answers that the code's results stand for.
use Rattle.std.specs.Prelude.{ℕ, Result, Ok, Err}
use Rattle.words.specs.Answer.{Answer, refuse, ok}
use Rattle.words.specs.Numbers.{cut_short, wrong_kind, wrong_length, bad_field, too_many_words, bytes_left, memory_too_short, output_too_short, not_sound, dead_gate, no_word, flag_missing, out_of_range, no_match, source_fails, bad_pointer, bad_instruction, tagged_transfer, not_gate, bad_argument, no_free_frame, bad_return}
use Rattle.words.specs.declared.refusal.Refusal.{Refusal}
use Rattle.words.specs.declared.refusal.Refusal.TheVariants as reason

-- the number of a refusal
abbrev pub number : Refusal → ℕ
number reason.CutShort = cut_short
number reason.WrongKind = wrong_kind
number reason.WrongLength = wrong_length
number reason.BadField = bad_field
number reason.TooManyWords = too_many_words
number reason.BytesLeft = bytes_left
number reason.MemoryTooShort = memory_too_short
number reason.OutputTooShort = output_too_short
number reason.NotSound = not_sound
number reason.DeadGate = dead_gate
number reason.NoWord = no_word
number reason.FlagMissing = flag_missing
number reason.OutOfRange = out_of_range
number reason.NoMatch = no_match
number reason.SourceFails = source_fails
number reason.BadPointer = bad_pointer
number reason.BadInstruction = bad_instruction
number reason.TaggedTransfer = tagged_transfer
number reason.NotGate = not_gate
number reason.BadArgument = bad_argument
number reason.NoFreeFrame = no_free_frame
number reason.BadReturn = bad_return

-- what the code's result stands for
abbrev pub answer_of : {A : Type 0} → Result A Refusal → Answer A
answer_of (Ok a) = ok a
answer_of (Err r) = refuse (number r)

-- the number that a call returns to C: 0, or that of the refusal
abbrev pub status : {A : Type 0} → Result A Refusal → ℕ
status (Ok a) = 0
status (Err r) = number r
