-- `image_writer::put_image` meets its contract.
use Prim.Native.Nat.{ℕ, ◌+◌, ◌≤◌}
use native.Mathlib.Omega.{arith}
use mathlib.Core.Path.{ap, ◌∙◌}
use mathlib.Core.List.{List, ◌++◌}
use lib.ListN.{length, length-append}
use Rattle.image_format.specs.Bytes.{pair_bytes}
use Rattle.image_format.specs.Head.{head_bytes}
use Rattle.image_format.specs.Segment.{segments_bytes}
use Rattle.image_format.specs.Domain.{domains_bytes}
use Rattle.image_format.specs.Image.{segments_in, domains_in, image_from, bytes_of}
use Rattle.image_format.specs.Output.{written}
use Rattle.image_format.specs.declared.Head.{Head}
use Rattle.image_format.proofs.Written.{then-bytes, written_start}
use Rattle.image_format.proofs.Sizes.{head-size, bytes-size, bytes-are}
use Rattle.image_writer.proofs.put_image.Goals as goal
use Rattle.image_writer.proofs.put_image.Goals.{Start}

abbrev segments_part : Start → List ℕ
segments_part s = segments_bytes (segments_in s.args.layout s.args.words.now)

abbrev domains_part : Start → List ℕ
domains_part s = domains_bytes (domains_in s.args.layout)

-- there is room for all parts
room : (s : Start) → 12 + (length (segments_part s) + (length (domains_part s) + 4)) ≤ length s.args.output.now
room s = omega (arith, bytes-size s.args.layout s.args.words.now, s.requires.words_in_bounds)

pub put_head-requires : goal.put_head-requires
put_head-requires c = let h = room (goal.at.put_head-requires c).Start in omega arith

pub put_segments-at-requires : goal.put_segments-at-requires
put_segments-at-requires c =
    (record { layout_value = c.requires.layout_value; in_bounds = c.requires.in_bounds; words_in_bounds = omega (arith, room (goal.at.put_segments-at-requires c).Start, c.put_head.auto.output) })

pub put_domains-end-requires : goal.put_domains-end-requires
put_domains-end-requires c =
    (record { layout_value = c.requires.layout_value; layout_in_bounds = omega (arith, room (goal.at.put_domains-end-requires c).Start, c.put_segments-at.ensures.value) })

pub put_header-requires : goal.put_header-requires
put_header-requires c =
    omega (arith, room (goal.at.put_header-requires c).Start, c.put_segments-at.ensures.value, c.put_domains-end.ensures.value)

pub returns : goal.returns
returns c =
    let a = c.args in
    let l = a.layout in
    let fits = room (goal.at.returns c).Start in
    let h : Head = record { start = l.start; segments = l.segments; domains = l.domains } in
    let z = head-size h in
    let at = c.put_segments-at.ensures.value in
    let end = c.put_domains-end.ensures.value in
    let y = length-append (head_bytes h) (segments_part (goal.at.returns c).Start) in
    let x = length-append (head_bytes h ++ segments_part (goal.at.returns c).Start) (domains_part (goal.at.returns c).Start) in
    let e2 = then-bytes _ _ _ _ c.put_head.ensures (segments_part (goal.at.returns c).Start) 12 c.put_segments-at.ensures.output_after (omega arith) (omega arith) in
    let e3 = then-bytes _ _ _ _ e2 (domains_part (goal.at.returns c).Start) _ c.put_domains-end.ensures.output_after (omega arith) (omega arith) in
    then-bytes _ _ _ _ e3 (pair_bytes 0 ++ pair_bytes 4) _ c.put_header.ensures (omega arith) (omega arith) ∙
    ap (written a.output.now 0) (bytes-are l a.words.now) ∙ written_start a.output.now (bytes_of (image_from l a.words.now))
