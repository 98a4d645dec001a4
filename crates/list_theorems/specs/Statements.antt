-- What is proved of the argument lists of calls through a gate; the proofs stand in proofs/.
use Rattle.std.specs.Prelude.{ℕ, ◌+◌, ◌*◌, ◌<◌, ◌≤◌, Bool, true, false, List, ◌⊎◌, ◌≡◌, leb, get_or, set}
use Rattle.words.specs.Answer.{Answer, refuse, ok, ◌>>=◌, ◌>>◌, require}
use Rattle.words.specs.Numbers.{bad_argument}
use Rattle.words.specs.declared.pointer.Pointer.{Pointer}
use Rattle.state.specs.declared.record.Capability.{Capability}
use Rattle.state.specs.declared.record.Frame.{Frame}
use Rattle.state.specs.declared.record.Machine.{Machine}
use Rattle.state.specs.Record.{no_pointer, no_capability, in_use, live_frame}
use Rattle.capabilities.specs.Search.{covers_of}
use Rattle.references.specs.declared.flag.Flag.TheVariants as flag
use Rattle.references.specs.Live.{live_match}
use Rattle.references.specs.Check.{static_check}
use Rattle.memory.specs.Reader.{Reader, read_word}
use Rattle.instructions.specs.Plan.{enter}
use Rattle.arguments.specs.ArgumentList.{list_word, list_capability, frame_after, frame_of}
use Rattle.crossings.specs.Crossing.{enter_of}
use Rattle.runs.specs.Step.{execute}
use Rattle.executions.specs.Statements.{SoundRecord, planned_by, CalledTo}

-- register a, which points at the argument list, and the live frame
abbrev pub list_at : Machine → Pointer
list_at m = get_or m.pointers 0 no_pointer

abbrev pub live : Machine → Frame
live m = live_frame m.depth m.frames

-- the first read capability of a live frame that covers a list of n arguments at a, all its words; 24 where none does
abbrev pub covering_in : ℕ → Frame → Pointer → ℕ → Answer Capability
covering_in depth f a n = live_match depth f (covers_of a.segment a.word (3 + 2 * n) true false)

abbrev pub covering : Machine → ℕ → Answer Capability
covering m n = covering_in (in_use m.depth) (live m) (list_at m) n

-- whose a list of n arguments is: the caller's; where a is tagged, that of the capability that covers it
abbrev pub ListSource : Machine → ℕ → Bool → ℕ → Type 0
ListSource m n false source = source ≡ m.registers.domain
ListSource m n true source = (covering m n >>= (λ c. ok c.source)) ≡ ok source

-- the list of a completed call: the number of arguments in its word 0, and in the frame, after the arguments, its capability
pub record Listed (m : Machine) (words : List ℕ) (n : Machine) : Type 0 where
  pub arguments : ℕ
  pub counted : list_word (read_word m words) (list_at m) 0 ≡ ok arguments
  pub few : arguments ≤ 8
  pub source : ℕ
  pub whose : ListSource m arguments (list_at m).tag source
  pub count : (live n).count ≡ arguments + 1
  pub last : get_or (live n).capabilities arguments no_capability ≡ list_capability (list_at m) source arguments

abbrev pub CallListed : Type 0
CallListed = (m n : Machine) (words : List ℕ) → SoundRecord m → CalledTo m words n → Listed m words n

-- the frame of a call whose list is taken for the caller's own: no capability is looked for
abbrev pub own_frame : Reader → Pointer → Pointer → ℕ → ℕ → Frame → Answer Frame
own_frame read a s caller depth f =
    list_word read a 0 >>= (λ n. require (leb n 8) bad_argument >> frame_after read a s caller depth f (list_capability a caller n) n)

-- where a is untagged, the frame is that one
abbrev pub UntaggedOwn : Type 0
UntaggedOwn =
    (read : Reader) (a s : Pointer) (caller depth : ℕ) (f : Frame) → a.tag ≡ false → frame_of read a s caller depth f ≡ own_frame read a s caller depth f

-- a frame with another capability in row n
abbrev pub with_row : ℕ → Capability → Frame → Frame
with_row n c f = record { capabilities = set f.capabilities n c; s = f.s; back = f.back; count = f.count; domain = f.domain }

-- where it is tagged and the list covered, all is as there, refusals too, but for the list's source
abbrev pub CoveredOwn : Type 0
CoveredOwn =
    (read : Reader) (a s : Pointer) (caller depth : ℕ) (f : Frame) (n : ℕ) (c : Capability) → a.tag ≡ true → list_word read a 0 ≡ ok n → covering_in depth f a n ≡ ok c
    → frame_of read a s caller depth f ≡ (own_frame read a s caller depth f >>= (λ g. ok (with_row n (list_capability a c.source n) g)))

-- a tagged list that no capability covers gives 24, whatever its words after word 0 hold, and whether or not they may be read
abbrev pub UncoveredRefused : Type 0
UncoveredRefused =
    (m : Machine) (read : Reader) (gate : Pointer) (n : ℕ) → (list_at m).tag ≡ true → list_word read (list_at m) 0 ≡ ok n → n ≤ 8 → covering m n ≡ refuse 24
    → enter_of m read gate ≡ refuse 24

-- before that, word 0 is read and the number of arguments judged
abbrev pub FirstWordRefused : Type 0
FirstWordRefused = (m : Machine) (read : Reader) (gate : Pointer) (number : ℕ) → list_word read (list_at m) 0 ≡ refuse number → enter_of m read gate ≡ refuse number

abbrev pub ManyRefused : Type 0
ManyRefused = (m : Machine) (read : Reader) (gate : Pointer) (n : ℕ) → list_word read (list_at m) 0 ≡ ok n → 8 < n → enter_of m read gate ≡ refuse 30

-- a tagged list that passes word 4,095 is covered by nothing, so the call gives 24
abbrev pub LongRefused : Type 0
LongRefused =
    (m : Machine) (words : List ℕ) (gate : Pointer) (n : ℕ) → SoundRecord m → planned_by m words ≡ ok (enter gate) → (list_at m).tag ≡ true
    → list_word (read_word m words) (list_at m) 0 ≡ ok n → n ≤ 8 → 4096 < (list_at m).word + (3 + 2 * n) → execute m words ≡ refuse 24

-- what the source of a capability may read: the word at the index that its static check gives; else 25
abbrev pub read_by : List ℕ → Answer ℕ → Answer ℕ
read_by words (refuse n) = refuse 25
read_by words (ok i) = ok (get_or words i 0)

-- word k of the list, as the called domain refers to it
abbrev pub list_place : Machine → ℕ → Pointer
list_place m k = record { word = (list_at m).word + k; segment = (list_at m).segment; tag = true }

-- a capability that allows the word at a pointer to be read
abbrev pub reads : Capability → Pointer → Bool
reads c p = covers_of p.segment p.word 1 true false c

-- the called domain reads a word of its list by the rights of the list's source, where no argument's capability reads that word
abbrev pub ListRead : Type 0
ListRead =
    (m n : Machine) (words : List ℕ) → SoundRecord m → CalledTo m words n → (l : Listed m words n) (k : ℕ) → k < 3 + 2 * l.arguments
    → ((j : ℕ) → j < l.arguments → reads (get_or (live n).capabilities j no_capability) (list_place m k) ≡ false)
    → read_word n words (list_place m k) ≡ read_by words (static_check m l.source flag.Read (list_at m).segment ((list_at m).word + k))

-- whatever the arguments are, a read of a word of the list that is refused is refused with 25, never with 24
abbrev pub ListMatched : Type 0
ListMatched =
    (m n : Machine) (words : List ℕ) → SoundRecord m → CalledTo m words n → (l : Listed m words n) (k : ℕ) → k < 3 + 2 * l.arguments
    → (number : ℕ) → read_word n words (list_place m k) ≡ refuse number → number ≡ 25

-- a capability is passed on from one of the live frame: of the same source, and over no more words and flags
pub record PassedOn (m : Machine) (c : Capability) : Type 0 where
  pub row : ℕ
  pub used : row < (live m).count
  pub some : 1 ≤ m.depth
  pub source : (get_or (live m).capabilities row no_capability).source ≡ c.source
  pub within : covers_of c.segment c.word c.length c.read c.write (get_or (live m).capabilities row no_capability) ≡ true

-- each capability of a call's frame, the list's too, has the caller as its source or is passed on; where a is tagged the list's is passed on
abbrev pub CallDelegates : Type 0
CallDelegates =
    (m n : Machine) (words : List ℕ) → SoundRecord m → CalledTo m words n → (j : ℕ) → j < (live n).count
    → let c = get_or (live n).capabilities j no_capability in (c.source ≡ m.registers.domain) ⊎ PassedOn m c

abbrev pub ListDelegates : Type 0
ListDelegates =
    (m n : Machine) (words : List ℕ) → SoundRecord m → CalledTo m words n → (l : Listed m words n) → (list_at m).tag ≡ true
    → PassedOn m (list_capability (list_at m) l.source l.arguments)
