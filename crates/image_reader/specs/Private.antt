-- Definitions that only contracts of private functions cite.
use Rattle.std.specs.Prelude.{ℕ, ◌+◌, Bool, List, Result, eqb, take, drop, length}
use Rattle.words.specs.Answer.{Answer, ok, ◌>>=◌, ◌>>◌, require}
use Rattle.words.specs.Numbers.{bytes_left, dead_gate}
use Rattle.words.specs.Refusal.{answer_of}
use Rattle.words.specs.declared.refusal.Refusal.{Refusal}
use Rattle.layout_soundness.specs.SoundLayout.{gates_test}
use Rattle.image_format.specs.declared.Head.{Head}
use Rattle.image_format.specs.Bytes.{words_of}
use Rattle.image_format.specs.Chunk.{Read, chunk_at, chunk_of, exactly}
use Rattle.image_format.specs.Segment.{Segment, lengths_of, gates_of, gatedomains_of}
use Rattle.image_format.specs.Domain.{Domain, domains_of, stacks_of}
use Rattle.state.specs.declared.record.Layout.{Layout}
use Rattle.image_format.specs.Image.{padded, all_rows}
use Rattle.image_reader.specs.declared.segment.SegmentRow.{SegmentRow}
use Rattle.image_reader.specs.declared.segment.Segments.{Segments}
use Rattle.image_reader.specs.declared.domain.Domains.{Domains}

-- the chunk of length n, where the code passed it
abbrev pub chunk_answer : ℕ → List ℕ → Result (Unit {0}) Refusal → Answer (Read (List ℕ))
chunk_answer n bytes r = answer_of r >> ok (chunk_at n bytes)

-- the head of a chunk of 12 bytes
abbrev pub head_answer : List ℕ → Result Head Refusal → Answer (Read Head)
head_answer bytes r = answer_of r >>= (λ h. ok (record { value = h; rest = drop 12 bytes }))

-- a row of a chunk that begins at a place of the image
abbrev pub segment_answer : List ℕ → ℕ → Result SegmentRow Refusal → Answer (Read Segment)
segment_answer image at r =
    answer_of r >>= (λ s. ok (record {
      value = record { gates = s.gates; domain = s.domain; words = words_of s.length (drop (at + 8) image) };
      rest = drop s.next image;
    }))

-- a domain of a chunk that begins at a place of the image
abbrev pub domain_answer : List ℕ → ℕ → ℕ → Result ℕ Refusal → Answer (Read Domain)
domain_answer image at segments r =
    answer_of r >>= (λ s. ok (record { value = record { stack = s; rights = take segments (drop (at + 5) image) }; rest = drop (at + 5 + segments) image }))

-- the arrays of the segments, and the bytes after them
pub record SegmentRows : Type 0 where
  pub lengths : List ℕ
  pub gates : List ℕ
  pub gatedomains : List ℕ
  pub rest : List ℕ

-- the arrays of the domains, and the bytes after them
pub record DomainRows : Type 0 where
  pub stacks : List ℕ
  pub rights : List ℕ
  pub rest : List ℕ

-- the rows of the segments that were read
unfoldable pub segment_rows : Answer (Read (List Segment)) → Answer SegmentRows
segment_rows a =
    a >>= (λ r. ok (record {
      lengths = padded 16 (lengths_of r.value);
      gates = padded 16 (gates_of r.value);
      gatedomains = padded 16 (gatedomains_of r.value);
      rest = r.rest;
    }))

-- the rows of the domains that were read
unfoldable pub domain_rows : Answer (Read (List Domain)) → Answer DomainRows
domain_rows a = a >>= (λ r. ok (record { stacks = padded 8 (stacks_of r.value); rights = padded 128 (all_rows r.value); rest = r.rest }))

-- what the code's rows of the segments stand for
abbrev pub segments_answer : List ℕ → Result Segments Refusal → Answer SegmentRows
segments_answer image r = answer_of r >>= (λ s. ok (record { lengths = s.lengths; gates = s.gates; gatedomains = s.gatedomains; rest = drop s.next image }))

-- what the code's rows of the domains stand for
abbrev pub domains_answer : List ℕ → Result Domains Refusal → Answer DomainRows
domains_answer image r = answer_of r >>= (λ d. ok (record { stacks = d.stacks; rights = d.rights; rest = drop d.next image }))

-- the layout of a head and its rows
abbrev pub rows_layout : Head → SegmentRows → DomainRows → Layout
rows_layout h s d =
    record {
      lengths = s.lengths;
      gates = s.gates;
      start = h.start;
      gatedomains = s.gatedomains;
      stacks = d.stacks;
      rights = d.rights;
      segments = h.segments;
      domains = h.domains;
    }

-- kind 4, then that the gates pass their test, then no bytes after kind 4
unfoldable pub end_of : Bool → List ℕ → Answer (Unit {0})
end_of pass bytes = chunk_of 4 (exactly 0) bytes >>= (λ c. require pass dead_gate >> require (eqb (length c.rest) 0) bytes_left)

-- the layout, where the segments' rows are known
unfoldable pub after_segments : Head → SegmentRows → Answer Layout
after_segments h s = domain_rows (domains_of h.domains h.segments s.rest) >>= (λ d. end_of (gates_test s.gates s.gatedomains d.rights) d.rest >> ok (rows_layout h s d))
