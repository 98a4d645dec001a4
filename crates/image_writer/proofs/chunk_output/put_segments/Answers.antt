-- `image_writer::chunk_output::put_segments` meets its contract.
use Prim.Native.Nat.{ℕ, ◌+◌, ◌-◌, ◌*◌, ◌≤◌, ◌<◌}
use native.Mathlib.Omega.{arith}
use mathlib.Core.Path.{◌≡◌, sym, ap, ◌∙◌}
use borrow.Author.Rules.{rules}
use lib.ListN.{length, get_or, take, drop, length-drop}
use lib.Seq.{length-take-le}
use Rattle.state.proofs.Sums.{base-next, base-zero}
use Rattle.soundness.proofs.Facts.{LayoutSound, layout-facts}
use Rattle.image_format.specs.Segment.{segment_bytes}
use Rattle.image_format.specs.Image.{segment_at}
use Rattle.image_format.proofs.Written.{put-none, put-length, put-done, put-room, put_next}
use Rattle.image_format.proofs.Sizes.{segment-size, segment-words, base-fits}
use Rattle.image_writer.proofs.chunk_output.put_segments.Goals as goal
use Rattle.image_writer.proofs.chunk_output.put_segments.Goals.{At-loop-i, In-loop-i, Start}

abbrev first : At-loop-i → Start
first l = (goal.at.At-loop-i l).Start

sound : (s : Start) → LayoutSound s.args.layout
sound s = layout-facts s.args.layout s.requires.layout_value

-- what is known of the segment that comes next
module _ (c : In-loop-i) where
  abbrev l : At-loop-i
  l = (goal.at.In-loop-i c).At-loop-i

  abbrev s : Start
  s = first l

  abbrev n : ℕ
  n = get_or s.args.layout.lengths l.loop-i.i 0

  few : l.loop-i.i < 16
  few = omega (arith, (sound s).segments, c.loop-i-test.true)

  size : length (segment_bytes (segment_at s.args.layout.lengths s.args.layout.gates s.args.layout.gatedomains s.args.words.now l.loop-i.i)) ≡ 8 + 4 * n
  size = segment-size _ ∙ ap (λ (n : ℕ). 8 + 4 * n) (segment-words s.args.layout s.args.words.now (sound s) s.requires.in_bounds l.loop-i.i few)

  room : l.loop-i.at + 8 + 4 * n ≤ length s.args.output.now
  room = omega (arith, size, put-room l.loop-i.invariant.1 c.loop-i-test.true)

  fits : l.loop-i.base + n ≤ 8192
  fits = omega (arith, l.loop-i.invariant.0, base-fits s.args.layout (sound s) l.loop-i.i few)

  whole : l.loop-i.base + n - l.loop-i.base ≡ n
  whole = omega arith

  part : length (take (l.loop-i.base + n - l.loop-i.base) (drop l.loop-i.base s.args.words.now)) ≡ n
  part = rw whole (length-take-le n (drop l.loop-i.base s.args.words.now) (omega (arith, fits, length-drop l.loop-i.base s.args.words.now, s.requires.in_bounds)))

pub loop-i-init : goal.loop-i-init
loop-i-init c = (sym (base-zero _), put-none c.requires.words_in_bounds)

pub bounds-layout-i : goal.bounds-layout-i
bounds-layout-i c = let h = few (goal.at.bounds-layout-i c).In-loop-i in search rules

pub bounds-layout-i-in-loop-i : goal.bounds-layout-i-in-loop-i
bounds-layout-i-in-loop-i c = let h = few (goal.at.bounds-layout-i-in-loop-i c).In-loop-i in search rules

pub bounds-layout-i-in-loop-i-2 : goal.bounds-layout-i-in-loop-i-2
bounds-layout-i-in-loop-i-2 c = let h = few (goal.at.bounds-layout-i-in-loop-i-2 c).In-loop-i in search rules

pub offset_bounds-words-base : goal.offset_bounds-words-base
offset_bounds-words-base c = omega (arith, fits (goal.at.offset_bounds-words-base c).In-loop-i)

pub slice_bounds-put_segment-end : goal.slice_bounds-put_segment-end
slice_bounds-put_segment-end c = omega (arith, fits (goal.at.slice_bounds-put_segment-end c).In-loop-i, c.requires.in_bounds)

pub put_segment-requires : goal.put_segment-requires
put_segment-requires c =
    let d = (goal.at.put_segment-requires c).In-loop-i in
    (omega (arith, room d, put-length c.loop-i.invariant.1, part d), omega (arith, part d, (sound (goal.at.put_segment-requires c).Start).lengths c.loop-i.i (few d)))

pub overflow_add-at-in-loop-i : goal.overflow_add-at-in-loop-i
overflow_add-at-in-loop-i c = let h = room (goal.at.overflow_add-at-in-loop-i c).In-loop-i in search rules

pub overflow_add-base : goal.overflow_add-base
overflow_add-base c = let h = fits (goal.at.overflow_add-base c).In-loop-i in search rules

pub loop-i-preserved : goal.loop-i-preserved
loop-i-preserved c = let l = c.loop-i in
    (ap (λ (b : ℕ). b + n (goal.at.loop-i-preserved c).In-loop-i) l.invariant.0 ∙ sym (base-next _ l.i), put_next l.invariant.1 c.loop-i-test.true (rw (whole (goal.at.loop-i-preserved c).In-loop-i, l.invariant.0) at c.put_segment.ensures) (ap (λ (j : ℕ). l.at + j) (sym (size (goal.at.loop-i-preserved c).In-loop-i))))

pub returns : goal.returns
returns c = let p = put-done c.loop-i.invariant.1 c.loop-i-test.false in
    record { value = p.0; output_after = p.1 }
