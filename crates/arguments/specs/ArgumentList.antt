-- The argument list of a call through a gate, and the frame made of it.
use Rattle.std.specs.Prelude.{ℕ, zero, suc, ◌+◌, ◌*◌, true, false, not, List, [], ◌∷◌, eqb, leb, pos, replicate, set, if◌then◌else◌}
use Rattle.words.specs.Answer.{Answer, ok, ◌>>=◌, ◌>>◌, require}
use Rattle.words.specs.Numbers.{bad_argument}
use Rattle.words.specs.PointerWord.{pointer_of}
use Rattle.words.specs.ModeWord.{mode_of}
use Rattle.words.specs.declared.pointer.Pointer.{Pointer}
use Rattle.words.specs.declared.mode.Mode.{Mode}
use Rattle.state.specs.declared.record.Capability.{Capability}
use Rattle.state.specs.declared.record.Frame.{Frame}
use Rattle.state.specs.Record.{no_capability}
use Rattle.references.specs.Live.{passed_of}
use Rattle.references.specs.Made.{MadeReference, made_read}
use Rattle.memory.specs.Reader.{Reader}
use Rattle.addressing.specs.Effective.{displaced_by, placed}

-- word k of the list at pointer a, read under its tag; 23 first
unfoldable pub list_word : Reader → Pointer → ℕ → Answer ℕ
list_word read a k = displaced_by a (pos k) >>= read

-- an untagged argument's source is the caller; a tagged one's is passed on; the list itself counts as an argument, at a
unfoldable pub source_of : ℕ → ℕ → Frame → Pointer → Mode → Answer ℕ
source_of caller depth live p m =
    if p.tag then passed_of depth live p.segment p.word m.length m.read m.write else ok caller

-- the capability on the words that a pointer and a mode name
abbrev pub capability_on : Pointer → Mode → ℕ → Capability
capability_on p m source = record { word = p.word; length = m.length; segment = p.segment; source = source; read = m.read; write = m.write }

-- the capability of an argument, of its pointer and its mode word
unfoldable pub capability_of : ℕ → ℕ → Frame → Pointer → ℕ → Answer Capability
capability_of caller depth live p mode =
    mode_of mode p.word >>= (λ m. source_of caller depth live p m >>= (λ source. ok (capability_on p m source)))

-- the pointer in word k of the list
unfoldable pub list_pointer : Reader → Pointer → ℕ → Answer Pointer
list_pointer read a k = list_word read a k >>= pointer_of

-- argument i: its pointer word, then its mode word
unfoldable pub argument_of : Reader → Pointer → ℕ → ℕ → Frame → ℕ → Answer Capability
argument_of read a caller depth live i =
    list_pointer read a (3 + 2 * i) >>= (λ p. list_word read a (3 + 2 * i + 1) >>= (λ v. capability_of caller depth live p v))

-- the rows of a frame with the k arguments from argument i on put in
unfoldable pub arguments_from : Reader → Pointer → ℕ → ℕ → Frame → ℕ → ℕ → List Capability → Answer (List Capability)
arguments_from read a caller depth live zero i rows = ok rows
arguments_from read a caller depth live (suc k) i rows =
    argument_of read a caller depth live i >>= (λ c. arguments_from read a caller depth live k (i + 1) (set rows i c))

-- the list as an argument: its whole 3 + 2n words, to read
abbrev pub list_mode : ℕ → Mode
list_mode n = record { length = 3 + 2 * n; read = true; write = false }

-- the read capability for the list itself
abbrev pub list_capability : Pointer → ℕ → ℕ → Capability
list_capability a source n = capability_on a (list_mode n) source

-- the frame with the rows of n arguments, and last the list itself
abbrev pub filled_of : List Capability → Capability → Pointer → Pointer → ℕ → ℕ → Frame
filled_of rows list s back caller n = record { capabilities = set rows n list; s = s; back = back; count = n + 1; domain = caller }

-- from the return location on, with the list's capability: the location is untagged; word 2 is not read; then the n arguments
unfoldable pub frame_after : Reader → Pointer → Pointer → ℕ → ℕ → Frame → Capability → ℕ → Answer Frame
frame_after read a s caller depth live list n =
    list_pointer read a 1 >>= (λ back. require (not back.tag) bad_argument >>
    (displaced_by a (pos 2) >>
    (arguments_from read a caller depth live n 0 (replicate 9 no_capability) >>= (λ rows. ok (filled_of rows list s back caller n)))))

-- the frame of a call: word 0 of the list is the number of arguments; then the list's source, passed on where a is tagged; then the other words
unfoldable pub frame_of : Reader → Pointer → Pointer → ℕ → ℕ → Frame → Answer Frame
frame_of read a s caller depth live =
    list_word read a 0 >>= (λ n. require (leb n 8) bad_argument >>
    (source_of caller depth live a (list_mode n) >>= (λ source. frame_after read a s caller depth live (list_capability a source n) n)))

-- the references to k words of the list at a, from word i on; word 2 is not read
abbrev pub list_made : Pointer → ℕ → ℕ → List MadeReference
list_made a zero i = []
list_made a (suc k) i = if eqb i 2 then list_made a k (i + 1) else (made_read (placed (displaced_by a (pos i))) ∷ list_made a k (i + 1))
