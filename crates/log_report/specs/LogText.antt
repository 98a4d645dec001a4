-- What the program prints of an image's crossings.
use Rattle.std.specs.Prelude.{ℕ, List, [], ◌∷◌, ◌++◌, length}
use Rattle.words.specs.Answer.{Answer, refuse, ok, ◌>>=◌}
use Rattle.fresh.specs.Fresh.{fresh_of}
use Rattle.image_format.specs.Bytes.{joined}
use Rattle.image_format.specs.Image.{image_of, layout_of}
use Rattle.entry.specs.ImageRun.{memory_of}
use Rattle.crossing_log.specs.Crossings.{Kind, call, return, Crossing, crossings_of}
use Rattle.crossing_log.specs.Log.{of_kind}
use Rattle.text.specs.Text.{text, labelled, line}
use Rattle.text.specs.Put.{printed_in}
use Rattle.log_report.specs.declared.PrintedLog.{PrintedLog}

-- the word of a kind, and a blank
abbrev pub kind_text : Kind → List ℕ
kind_text call = text "call "
kind_text return = text "return "

-- kind, domain left, domain entered, segment and word
unfoldable pub crossing_line : Crossing → List ℕ
crossing_line c =
    line (labelled (kind_text c.kind) c.left ++ labelled (32 ∷ []) c.entered ++ labelled (32 ∷ []) c.segment ++ labelled (32 ∷ []) c.word)

-- how many calls and returns there are
unfoldable pub totals_text : ℕ → ℕ → List ℕ
totals_text calls returns = line (labelled (text "calls ") calls ++ labelled (text " returns ") returns)

abbrev pub totals_line : List Crossing → List ℕ
totals_line cs = totals_text (of_kind call cs) (of_kind return cs)

-- a line for each crossing in order, and their totals
abbrev pub log_text : List Crossing → List ℕ
log_text cs = joined crossing_line cs ++ totals_line cs

-- the crossings of 1,000 instructions of an image, or the refusal
unfoldable pub image_crossings : List ℕ → Answer (List Crossing)
image_crossings image = image_of image >>= (λ i. ok (crossings_of 1000 (fresh_of (layout_of i)) (memory_of i)))

-- what comes of an image: the lines of its crossings, or the refusal alone
abbrev pub crossings_text : Answer (List Crossing) → List ℕ
crossings_text (refuse n) = line (labelled (text "refused ") n)
crossings_text (ok cs) = log_text cs

unfoldable pub log_report_of : List ℕ → List ℕ
log_report_of image = crossings_text (image_crossings image)

-- the bytes from the start of 25,026 zeros: 1,000 lines have at most 25 each, the last one has at most 26
abbrev pub log_printed_of : List ℕ → PrintedLog
log_printed_of xs = record { bytes = printed_in 25026 xs; length = length xs }
