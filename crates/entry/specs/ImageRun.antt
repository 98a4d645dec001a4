-- An image, run in a memory of its own.
use Rattle.std.specs.Prelude.{ℕ, List, replicate}
use Rattle.words.specs.Answer.{Answer, refuse, ok, ◌>>=◌}
use Rattle.state.specs.declared.record.Machine.{Machine}
use Rattle.fresh.specs.Fresh.{fresh_of, empty_layout}
use Rattle.runs.specs.declared.outcome.Outcome.{Outcome}
use Rattle.runs.specs.Run.{Ending, refused, Ran, end_answer}
use Rattle.processor.specs.Calls.{run_of}
use Rattle.image_format.specs.Image.{Image, image_of, layout_of}
use Rattle.image_reader.specs.Reader.{memory_after}

-- what a run comes to, without its words
pub record Final : Type 0 where
  pub machine : Machine
  pub count : ℕ
  pub ending : Ending

abbrev pub final_of : Ran → Final
final_of r = record { machine = r.machine; count = r.count; ending = r.ending }

-- the image's words from word 0 on, and zeros after them: 8,192 words
abbrev pub memory_of : Image → List ℕ
memory_of i = memory_after (replicate 8192 0) (ok i)

-- a fresh machine of an image, after at most limit instructions
abbrev pub machine_run : ℕ → Image → Ran
machine_run limit i = run_of limit (fresh_of (layout_of i)) (memory_of i)

-- the run of the image in some bytes, or the refusal
unfoldable pub image_run : ℕ → List ℕ → Answer Final
image_run limit bytes = image_of bytes >>= (λ i. ok (final_of (machine_run limit i)))

-- a record with nothing in it
abbrev pub empty_machine : Machine
empty_machine = fresh_of empty_layout

-- a refused image leaves the empty record, and nothing is counted
abbrev pub closed : Answer Final → Final
closed (refuse n) = record { machine = empty_machine; count = 0; ending = refused n }
closed (ok r) = r

-- what the code's outcome stands for
abbrev pub outcome_answer : Outcome → Final
outcome_answer o = record { machine = o.machine; count = o.count; ending = end_answer o.end }
