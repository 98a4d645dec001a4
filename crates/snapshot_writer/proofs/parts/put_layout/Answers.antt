-- `snapshot_writer::parts::put_layout` meets its contract.
use native.Mathlib.Omega.{arith}
use Prim.Native.Nat.{ℕ}
use mathlib.Core.List.{List, [], ◌∷◌, ◌++◌}
use mathlib.Core.Path.{◌≡◌, refl, sym}
use lib.ListN.{length, set}
use lib.Seq.{sets}
use Rattle.snapshot_format.specs.Format.{byte_form, pair_form}
use Rattle.image_format.specs.Bytes.{joined}
use Rattle.snapshot_format.specs.RecordForm.{start_form, layout_form}
use Rattle.snapshot_writer.proofs.Laws.{follows, same-room, rows-follow}
use borrow.Author.Rules.{rules}
use Rattle.snapshot_writer.proofs.parts.put_layout.Goals as goal
use Rattle.snapshot_writer.proofs.parts.put_layout.Goals.{After-put_bytes, After-put_bytes-2, After-put_bytes-3, After-put_pairs, After-put_pairs-2, After-put_start, Start}

lengths : (s : Start) → length s.args.l.lengths ≡ 16
lengths s = s.well_formed.1.0.1.1.0.1.0.1

gates : (s : Start) → length s.args.l.gates ≡ 16
gates s = s.well_formed.1.0.1.1.1.0.1.0.1

gatedomains : (s : Start) → length s.args.l.gatedomains ≡ 16
gatedomains s = s.well_formed.1.0.1.1.1.1.1.0.1.0.1

stacks : (s : Start) → length s.args.l.stacks ≡ 8
stacks s = s.well_formed.1.0.1.1.1.1.1.1.0.1.0.1

rights : (s : Start) → length s.args.l.rights ≡ 128
rights s = s.well_formed.1.0.1.1.1.1.1.1.1.0.1.0.1

-- from the place after each part to the start
abbrev start1 : After-put_pairs → Start
start1 p = (goal.at.After-put_pairs p).Start

abbrev start2 : After-put_pairs-2 → Start
start2 p = start1 (goal.at.After-put_pairs-2 p).After-put_pairs

abbrev start3 : After-put_start → Start
start3 p = start2 (goal.at.After-put_start p).After-put_pairs-2

abbrev start4 : After-put_bytes → Start
start4 p = start3 (goal.at.After-put_bytes p).After-put_start

abbrev start5 : After-put_bytes-2 → Start
start5 p = start4 (goal.at.After-put_bytes-2 p).After-put_bytes

abbrev start : After-put_bytes-3 → Start
start c = start5 (goal.at.After-put_bytes-3 c).After-put_bytes-2

-- the bytes that are written
all : (c : After-put_bytes-3) → let s = start c in
    set (set c.put_bytes-3.new.output 220 s.args.l.segments) 221 s.args.l.domains ≡ sets s.args.output.now 0 (layout_form.bytes s.args.l)
all c =
    let s = start c in
    let l = s.args.l in
    let t6 : List ℕ = l.segments ∷ l.domains ∷ [] in
    let t5 = joined byte_form.bytes l.rights ++ t6 in
    let t4 = joined byte_form.bytes l.stacks ++ t5 in
    let t3 = joined byte_form.bytes l.gatedomains ++ t4 in
    let t2 = start_form.bytes l.start ++ t3 in
    let t1 = joined pair_form.bytes l.gates ++ t2 in
    rows-follow pair_form 0 s.args.output.now 0 l.lengths t1 16 (λ k h. refl) (lengths s) c.put_pairs.ensures
    (rows-follow pair_form 0 c.put_pairs.new.output 32 l.gates t2 16 (λ k h. refl) (gates s) c.put_pairs-2.ensures
    (follows c.put_pairs-2.new.output 64 (start_form.bytes l.start) t3 68 c.put_start.ensures refl
    (rows-follow byte_form 0 c.put_start.new.output 68 l.gatedomains t4 16 (λ k h. refl) (gatedomains s) c.put_bytes.ensures
    (rows-follow byte_form 0 c.put_bytes.new.output 84 l.stacks t5 8 (λ k h. refl) (stacks s) c.put_bytes-2.ensures
    (rows-follow byte_form 0 c.put_bytes-2.new.output 92 l.rights t6 128 (λ k h. refl) (rights s) c.put_bytes-3.ensures refl)))))

pub put_pairs-requires : goal.put_pairs-requires
put_pairs-requires c = omega (arith, lengths (goal.at.put_pairs-requires c).Start)

pub put_pairs-requires-2 : goal.put_pairs-requires-2
put_pairs-requires-2 c = let h = gates (start1 (goal.at.put_pairs-requires-2 c).After-put_pairs) in search rules

pub put_bytes-requires : goal.put_bytes-requires
put_bytes-requires c = let h = gatedomains (start3 (goal.at.put_bytes-requires c).After-put_start) in search rules

pub slice_bounds-put_bytes-end-2 : goal.slice_bounds-put_bytes-end-2
slice_bounds-put_bytes-end-2 c = sym (stacks (start4 (goal.at.slice_bounds-put_bytes-end-2 c).After-put_bytes))

pub put_bytes-requires-2 : goal.put_bytes-requires-2
put_bytes-requires-2 c = let h = stacks (start4 (goal.at.put_bytes-requires-2 c).After-put_bytes) in search rules

pub slice_bounds-put_bytes-end-3 : goal.slice_bounds-put_bytes-end-3
slice_bounds-put_bytes-end-3 c = sym (rights (start5 (goal.at.slice_bounds-put_bytes-end-3 c).After-put_bytes-2))

pub put_bytes-requires-3 : goal.put_bytes-requires-3
put_bytes-requires-3 c = let h = rights (start5 (goal.at.put_bytes-requires-3 c).After-put_bytes-2) in search rules

pub shape_of-output : goal.shape_of-output
shape_of-output c = let s = start (goal.at.shape_of-output c).After-put_bytes-3 in same-room s.args.output.now 0 (layout_form.bytes s.args.l) (all (goal.at.shape_of-output c).After-put_bytes-3)

pub returns : goal.returns
returns c = all (goal.at.returns c).After-put_bytes-3
