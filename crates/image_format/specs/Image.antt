-- Images: kind 1, kind 2 for each segment, kind 3 for each domain, kind 4, and nothing after it; no gate is dead.
use Rattle.std.specs.Prelude.{ℕ, zero, suc, ◌+◌, ◌-◌, ◌*◌, Bool, List, [], ◌∷◌, ◌++◌, eqb, length, get_or, take, drop, replicate}
use Rattle.words.specs.Answer.{Answer, ok, ◌>>=◌, ◌>>◌, require}
use Rattle.state.specs.declared.record.Start.{Start}
use Rattle.state.specs.declared.record.Layout.{Layout}
use Rattle.state.specs.Bases.{base_of}
use Rattle.words.specs.Numbers.{bytes_left, dead_gate}
use Rattle.layout_soundness.specs.SoundLayout.{gates_test}
use Rattle.image_format.specs.Bytes.{joined}
use Rattle.image_format.specs.Chunk.{Read, chunk_of, chunk_bytes, exactly}
use Rattle.image_format.specs.Head.{head_of, head_bytes}
use Rattle.image_format.specs.Segment.{Segment, segments_of, segments_bytes, lengths_of, gates_of, gatedomains_of}
use Rattle.image_format.specs.Domain.{Domain, domains_of, domains_bytes, stacks_of}

-- what an image holds
pub record Image : Type 0 where
  pub start : Start
  pub segments : List Segment
  pub domains : List Domain

-- the numbers, with zeros after them up to n
unfoldable pub padded : ℕ → List ℕ → List ℕ
padded n xs = xs ++ replicate (n - length xs) 0

-- the rights of all domains, in rows of 16
abbrev pub all_rows : List Domain → List ℕ
all_rows = joined (λ d. padded 16 d.rights)

-- the layout that an image gives
unfoldable pub layout_of : Image → Layout
layout_of i =
    record {
      lengths = padded 16 (lengths_of i.segments);
      gates = padded 16 (gates_of i.segments);
      start = i.start;
      gatedomains = padded 16 (gatedomains_of i.segments);
      stacks = padded 8 (stacks_of i.domains);
      rights = padded 128 (all_rows i.domains);
      segments = length i.segments;
      domains = length i.domains;
    }

-- no gate of an image is dead
abbrev pub gates_pass : Image → Bool
gates_pass i = let l = layout_of i in gates_test l.gates l.gatedomains l.rights

-- what the chunks at the front of some bytes hold, kind 4 the last, and the bytes after it
unfoldable pub chunks_of : List ℕ → Answer (Read Image)
chunks_of bytes =
    head_of bytes >>= (λ h.
    segments_of h.value.segments h.value.domains 8192 h.rest >>= (λ s.
    domains_of h.value.domains h.value.segments s.rest >>= (λ d.
    chunk_of 4 (exactly 0) d.rest >>= (λ e.
    ok (record { value = record { start = h.value.start; segments = s.value; domains = d.value }; rest = e.rest })))))

-- the image in some bytes: its chunks, then no dead gate, then no bytes after kind 4
unfoldable pub image_of : List ℕ → Answer Image
image_of bytes =
    chunks_of bytes >>= (λ i.
    require (gates_pass i.value) dead_gate >>
    require (eqb (length i.rest) 0) bytes_left >>
    ok i.value)

-- the bytes that hold an image
unfoldable pub bytes_of : Image → List ℕ
bytes_of i =
    head_bytes (record { start = i.start; segments = length i.segments; domains = length i.domains }) ++
    (segments_bytes i.segments ++ (domains_bytes i.domains ++ chunk_bytes 4 []))

-- n rows, from row i on
unfoldable pub rows_from : {A : Type 0} → (ℕ → A) → ℕ → ℕ → List A
rows_from row i zero = []
rows_from row i (suc n) = row i ∷ rows_from row (i + 1) n

-- segment i of a layout with its words
abbrev pub segment_at : List ℕ → List ℕ → List ℕ → List ℕ → ℕ → Segment
segment_at lengths gates gatedomains words i =
    record { gates = get_or gates i 0; domain = get_or gatedomains i 0; words = take (get_or lengths i 0) (drop (base_of lengths i) words) }

-- domain i of a layout
abbrev pub domain_at : ℕ → List ℕ → List ℕ → ℕ → Domain
domain_at segments stacks rights i = record { stack = get_or stacks i 0; rights = take segments (drop (16 * i) rights) }

-- the segments of a layout with its words
abbrev pub segments_in : Layout → List ℕ → List Segment
segments_in l words = rows_from (segment_at l.lengths l.gates l.gatedomains words) 0 l.segments

-- the domains of a layout
abbrev pub domains_in : Layout → List Domain
domains_in l = rows_from (domain_at l.segments l.stacks l.rights) 0 l.domains

-- the image of a layout with its words
abbrev pub image_from : Layout → List ℕ → Image
image_from l words = record { start = l.start; segments = segments_in l words; domains = domains_in l }
