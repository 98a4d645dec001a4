-- How a loop comes to the rows of all segments.
use Prim.Native.Nat.{ℕ, ◌+◌, ◌-◌, ◌<◌, ◌≤◌}
use native.Mathlib.Omega.{arith}
use mathlib.Core.Path.{◌≡◌, refl, sym, ap, ◌∙◌}
use mathlib.Core.List.{List, [], ◌∷◌, ◌++◌}
use lib.ListN.{length, drop, set}
use Rattle.words.specs.Answer.{refuse, ok}
use Rattle.image_format.specs.Bytes.{words_of}
use Rattle.image_format.specs.Chunk.{Read}
use Rattle.image_format.specs.Segment.{Segment, segment_of, segments_of, lengths_of, gates_of, gatedomains_of}
use Rattle.image_format.specs.Image.{padded}
use Rattle.image_reader.specs.declared.segment.SegmentRow.{SegmentRow}
use Rattle.image_format.proofs.Parts.{words-length}
use Rattle.image_format.proofs.Padded.{column-next}
use Rattle.image_reader.proofs.Runs.{SoFar, so-far-none, so-far-done, so-far-refused, so-far-next}
use Rattle.image_format.proofs.Segments.{segment-facts, segment-count}
use Rattle.image_reader.specs.Private.{segment_rows}

-- a row of the code, as it is read
abbrev pub row_read : List ℕ → ℕ → SegmentRow → Read Segment
row_read image at r =
    record { value = record { gates = r.gates; domain = r.domain; words = words_of r.length (drop (at + 8) image) }; rest = drop r.next image }

pub record SegmentsSoFar (image : List ℕ) (start count domains : ℕ) (ls gs ds : List ℕ) (at room i : ℕ) : Type 0 where
  pub rows : List Segment
  pub read : SoFar rows count i (segments_of count domains 8192 (drop start image)) (λ n. segments_of n domains room (drop at image))
  pub lengths : ls ≡ padded 16 (lengths_of rows)
  pub gates : gs ≡ padded 16 (gates_of rows)
  pub gatedomains : ds ≡ padded 16 (gatedomains_of rows)

pub segments-none : {image : List ℕ} {start count domains : ℕ} {ls gs ds : List ℕ} → ls ≡ padded 16 [] → gs ≡ padded 16 [] → ds ≡ padded 16 []
    → SegmentsSoFar image start count domains ls gs ds start 8192 0
segments-none {image} {start} {count} {domains} a b c =
    record { rows = []; read = so-far-none count (λ n. segments_of n domains 8192 (drop start image)); lengths = a; gates = b; gatedomains = c }

module _ {image : List ℕ} {start count domains : ℕ} {ls gs ds : List ℕ} {at room i : ℕ} (f : SegmentsSoFar image start count domains ls gs ds at room i) where
  pub segments-done : count ≤ i → ok (record { lengths = ls; gates = gs; gatedomains = ds; rest = drop at image }) ≡ segment_rows (segments_of count domains 8192 (drop start image))
  unfolding segment_rows segments_of
  segments-done h =
      (λ j. ok (record { lengths = f.lengths j; gates = f.gates j; gatedomains = f.gatedomains j; rest = drop at image })) ∙ sym (ap segment_rows (so-far-done f.read (drop at image) h refl))

  module _ (less : i < count) where
    pub segments-refused : {n : ℕ} → refuse n ≡ segment_of domains room (drop at image) → refuse n ≡ segment_rows (segments_of count domains 8192 (drop start image))
    unfolding segment_rows segments_of
    segments-refused {n} e = sym (ap segment_rows (so-far-refused f.read less n (rw (← e))))

    module _ (few : count ≤ 16) (r : SegmentRow) (e : ok (row_read image at r) ≡ segment_of domains room (drop at image)) where
      size : length (words_of r.length (drop (at + 8) image)) ≡ r.length
      size = words-length r.length (drop (at + 8) image)

      pub row_fits : r.length ≤ room
      row_fits =
          let p = segment-facts domains room (drop at image) (sym e) in
          omega (arith, p.length-is.fits, segment-count domains room (drop at image) p, size)

      pub segments-next : SegmentsSoFar image start count domains (set ls i r.length) (set gs i r.gates) (set ds i r.domain) r.next (room - r.length) (i + 1)
      unfolding segments_of
      segments-next =
          let s = (row_read image at r).value in
          record {
            rows = f.rows ++ (s ∷ []);
            read = so-far-next f.read less s (λ n. segments_of n domains (room - r.length) (drop r.next image)) (rw (← e, size));
            lengths = column-next 16 (λ s. length s.words) f.rows s f.lengths f.read.counted (omega arith) (sym size);
            gates = column-next 16 (λ s. s.gates) f.rows s f.gates f.read.counted (omega arith) refl;
            gatedomains = column-next 16 (λ s. s.domain) f.rows s f.gatedomains f.read.counted (omega arith) refl;
          }
