-- What the program prints for an image.
use Rattle.std.specs.Prelude.{ℕ, List, [], ◌∷◌, ◌++◌, length}
use Rattle.words.specs.Answer.{Answer, refuse, ok}
use Rattle.state.specs.declared.record.Registers.{Registers}
use Rattle.runs.specs.Run.{Ending, halted, spent, crossed, faulted, refused}
use Rattle.entry.specs.ImageRun.{Final, image_run}
use Rattle.text.specs.Text.{text, labelled, line}
use Rattle.text.specs.Put.{printed_in}
use Rattle.report.specs.declared.Printed.{Printed}

-- how a run ended; no run of an image ends at a crossing or as refused
abbrev pub end_text : Ending → List ℕ
end_text halted = text "end halted"
end_text (faulted n) = labelled (text "end fault ") n
end_text spent = text "end spent"
end_text crossed = text "end crossed"
end_text (refused n) = labelled (text "refused ") n

-- count, domain, location and A, a line each
unfoldable pub rest_text : ℕ → Registers → List ℕ
rest_text count r =
    line (labelled (text "count ") count) ++
    line (labelled (text "domain ") r.domain) ++
    line (labelled (text "at ") r.segment ++ labelled (32 ∷ []) r.word) ++
    line (labelled (text "a ") r.a)

-- what comes of an image: the lines of its run, or the refusal alone
abbrev pub answer_text : Answer Final → List ℕ
answer_text (refuse n) = line (end_text (refused n))
answer_text (ok r) = line (end_text r.ending) ++ rest_text r.count r.machine.registers

-- the program runs 1,000 instructions
unfoldable pub report_of : List ℕ → List ℕ
report_of image = answer_text (image_run 1000 image)

-- the bytes from the start of 96 zeros
abbrev pub printed_of : List ℕ → Printed
printed_of xs = record { bytes = printed_in 96 xs; length = length xs }
