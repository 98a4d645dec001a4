-- What is proved of gates; the proofs stand in proofs/.
use Rattle.std.specs.Prelude.{ℕ, ◌+◌, ◌^◌, ◌<◌, ◌≤◌, true, false, List, [], ◌∷◌, ◌++◌, ◌≡◌, length, get_or, take, set}
use Rattle.words.specs.Answer.{Answer, refuse, ok}
use Rattle.words.specs.Numbers.{cut_short, wrong_kind, wrong_length, bad_field, not_sound, dead_gate}
use Rattle.words.specs.declared.pointer.Pointer.{Pointer}
use Rattle.state.specs.declared.record.Layout.{Layout}
use Rattle.state.specs.declared.record.Machine.{Machine}
use Rattle.state.specs.Bases.{base_of}
use Rattle.fresh.specs.Fresh.{fresh_of}
use Rattle.layout_soundness.specs.SoundLayout.{ranges_test}
use Rattle.references.specs.declared.flag.Flag.{Flag}
use Rattle.references.specs.declared.flag.Flag.TheVariants as flag
use Rattle.references.specs.declared.flag.Access.{Access}
use Rattle.references.specs.Flag.{has}
use Rattle.references.specs.Static.{rights_of}
use Rattle.record_checks.specs.Judged.{judged_static, judged_check}
use Rattle.segments.specs.Segment.{segment_check}
use Rattle.memory.specs.Reader.{fetch}
use Rattle.image_format.specs.Chunk.{Read}
use Rattle.image_format.specs.Image.{Image, layout_of, chunks_of, image_of, image_from, bytes_of}
use Rattle.image_writer.specs.Writer.{write_image, output_after}
use Rattle.roundtrips.specs.Statements.{Arrays, Below}
use Rattle.runs.specs.Step.{crossing, done, execute}
use Rattle.runs.specs.Run.{Ran, ran, refused}
use Rattle.processor.specs.Calls.{run_of, step_call, run_call, stretch_call}
use Rattle.executions.specs.Statements.{idle, CalledTo}
use Rattle.crossing_log.specs.Log.{LoggedRun, not_logged, log_call}
use Rattle.held_runs.specs.Opened.{opened, replaced, given}
use Rattle.held_runs.specs.Runs.{end_code, ran_on, ran_code, ran_bytes, ran_words, stepped_on, step_code, step_bytes, step_words}
use Rattle.held_images.specs.Images.{image_written, restart_of}
use Rattle.held_log.specs.HeldLog.{logged_on, run_in, total_after}
use Rattle.host.specs.Looks.{checked_on, segment_on}
use Rattle.gate_theorems.specs.Example.{gate_bytes}

-- a segment has gates, and their domain lacks E on it
pub record HasDeadGate (l : Layout) : Type 0 where
  pub segment : ℕ
  pub there : segment < 16
  pub some : 1 ≤ get_or l.gates segment 0
  pub lacks : has (rights_of l.rights (get_or l.gatedomains segment 0) segment) flag.Execute ≡ false

-- the chunks of some bytes, kind 4 the last, are read without fault, and there is a dead gate
pub record FoundDead (bytes : List ℕ) : Type 0 where
  pub chunks : Read Image
  pub read : chunks_of bytes ≡ ok chunks
  pub dead : HasDeadGate (layout_of chunks.value)

-- then an image is refused with 10, whatever bytes are left; and then alone
abbrev pub DeadTen : Type 0
DeadTen = (bytes : List ℕ) → FoundDead bytes → image_of bytes ≡ refuse dead_gate

abbrev pub TenDead : Type 0
TenDead = (bytes : List ℕ) → image_of bytes ≡ refuse dead_gate → FoundDead bytes

-- the image of a layout that lacks nothing but E at a gate is refused with 10, whatever bytes follow it
abbrev pub DeadWritten : Type 0
DeadWritten =
    (l : Layout) (words rest : List ℕ) → ranges_test l ≡ true → HasDeadGate l → Arrays l → 8192 ≤ length words → Below (2 ^ 32) words
    → image_of (bytes_of (image_from l words) ++ rest) ≡ refuse dead_gate

-- an image with a dead gate, and the same with something else wrong
pub record DeadOrder : Type 0 where
  pub alone : image_of (gate_bytes 1 11) ≡ refuse 10
  pub bytes-left : image_of (gate_bytes 1 11 ++ (0 ∷ [])) ≡ refuse dead_gate
  pub cut-short : image_of (take 69 (gate_bytes 1 11)) ≡ refuse cut_short
  pub wrong-kind : image_of (set (gate_bytes 1 11) 68 5) ≡ refuse wrong_kind
  pub wrong-length : image_of (set (gate_bytes 1 11) 66 1) ≡ refuse wrong_length
  pub bad-field : image_of (gate_bytes 1 16) ≡ refuse bad_field

-- an accepted image has no dead gate
abbrev pub AcceptedAlive : Type 0
AcceptedAlive = (bytes : List ℕ) (i : Image) → image_of bytes ≡ ok i → HasDeadGate (layout_of i) → ⊥

-- each call on a record refuses it as not sound; what a call was lent to change stays
pub record RefusedUnsound (m : Machine) (words : List ℕ) : Type 0 where
  pub step : step_call m words ≡ idle m words not_sound
  pub run : (limit : ℕ) → run_call limit m words ≡ ran m words 0 (refused not_sound)
  pub stretch : (limit : ℕ) → stretch_call limit m words ≡ ran m words 0 (refused not_sound)
  pub log : (bytes : List ℕ) → log_call m words bytes ≡ not_logged m words bytes not_sound
  pub write : (output : List ℕ) → write_image m words output ≡ refuse not_sound
  pub output : (output : List ℕ) → output_after output (write_image m words output) ≡ output
  pub segment : (size number : ℕ) → segment_check m size number ≡ refuse not_sound
  pub static : (domain : ℕ) (f : Flag) (segment word : ℕ) → judged_static m domain f segment word ≡ refuse not_sound
  pub check : (a : Access) (p : Pointer) → judged_check m a p ≡ refuse not_sound

-- a record with a dead gate is refused so
abbrev pub DeadRefused : Type 0
DeadRefused = (m : Machine) (words : List ℕ) → HasDeadGate m.layout → RefusedUnsound m words

-- a run of the record in some bytes is refused as not sound, and leaves bytes and words
abbrev pub RanUnsound : List ℕ → List ℕ → Answer Ran → Type 0
RanUnsound bytes words r = (ran_code r ≡ end_code (refused not_sound)) × ((ran_bytes bytes r ≡ bytes) × (ran_words words r ≡ words))

-- a log and the places for its totals stay
abbrev pub NothingLogged : List ℕ → Answer LoggedRun → Type 0
NothingLogged log l =
    (given (λ x. x.log) log l ≡ log) × ((before : ℕ) → (total_after (λ x. x.calls) before l ≡ before) × (total_after (λ x. x.returns) before l ≡ before))

-- the same of the calls for C
pub record HeldUnsound (bytes words : List ℕ) : Type 0 where
  pub run : (limit : ℕ) → RanUnsound bytes words (ran_on (run_call limit) bytes words)
  pub stretch : (limit : ℕ) → RanUnsound bytes words (ran_on (stretch_call limit) bytes words)
  pub log : (log : List ℕ) → RanUnsound bytes words (run_in (logged_on bytes words log)) × NothingLogged log (logged_on bytes words log)
  pub step : (step_code (stepped_on step_call bytes words) ≡ not_sound)
      × ((step_bytes bytes (stepped_on step_call bytes words) ≡ bytes) × (step_words words (stepped_on step_call bytes words) ≡ words))
  pub write : (output : List ℕ) → (image_written bytes words output ≡ refuse not_sound) × (output_after output (image_written bytes words output) ≡ output)
  pub restart : (restart_of bytes ≡ refuse not_sound) × (replaced bytes (restart_of bytes) ≡ bytes)
  pub segment : (size number : ℕ) → segment_on bytes size number ≡ refuse not_sound
  pub check : (write tag segment word : ℕ) → checked_on bytes write tag segment word ≡ refuse not_sound

-- bytes that hold a record with a dead gate are refused so
abbrev pub DeadHeld : Type 0
DeadHeld = (bytes words : List ℕ) (m : Machine) → opened bytes ≡ ok m → HasDeadGate m.layout → HeldUnsound bytes words

-- from the fresh machine of an accepted image, after a run of any limit: a call through a gate is completed, and the fetch after it gets the gate's word
abbrev pub FreshCallFetches : Type 0
FreshCallFetches =
    (bytes : List ℕ) (i : Image) → image_of bytes ≡ ok i → (words : List ℕ) (limit : ℕ) (n : Machine)
    → let r = run_of limit (fresh_of (layout_of i)) words in
    (c : CalledTo r.machine r.words n)
    → (execute r.machine r.words ≡ ok (done n r.words crossing))
    × (fetch n r.words ≡ ok (get_or r.words (base_of (layout_of i).lengths c.gate.segment + c.gate.word) 0))
