-- `image_writer::chunk_output::put_domains` meets its contract.
use Prim.Native.Nat.{ℕ, ◌+◌, ◌-◌, ◌*◌, ◌≤◌, ◌<◌}
use native.Mathlib.Omega.{arith}
use mathlib.Core.Path.{◌≡◌, sym, ap, ◌∙◌}
use borrow.Author.Rules.{rules}
use lib.ListN.{length}
use Rattle.soundness.proofs.Facts.{LayoutSound, layout-facts}
use Rattle.image_format.specs.Domain.{domain_bytes}
use Rattle.image_format.specs.Image.{domain_at}
use Rattle.image_format.proofs.Written.{put-none, put-length, put-done, put-room, put_next}
use Rattle.image_format.proofs.Sizes.{domain-size, domain-rights}
use Rattle.image_writer.proofs.chunk_output.put_domains.Goals as goal
use Rattle.image_writer.proofs.chunk_output.put_domains.Goals.{At-loop-i, In-loop-i, Start}

abbrev first : At-loop-i → Start
first l = (goal.at.At-loop-i l).Start

sound : (s : Start) → LayoutSound s.args.layout
sound s = layout-facts s.args.layout s.requires.layout_value

wide : (s : Start) → length s.args.layout.rights ≡ 128
wide s = s.well_formed.1.1.0.1.1.1.1.1.1.1.0.1.0.1

-- what is known of the domain that comes next
module _ (c : In-loop-i) where
  abbrev l : At-loop-i
  l = (goal.at.In-loop-i c).At-loop-i

  abbrev s : Start
  s = first l

  few : l.loop-i.i < 8
  few = omega (arith, (sound s).domains, c.loop-i-test.true)

  size : length (domain_bytes (domain_at s.args.layout.segments s.args.layout.stacks s.args.layout.rights l.loop-i.i)) ≡ 5 + s.args.layout.segments
  size = domain-size _ ∙ ap (λ (n : ℕ). 5 + n) (domain-rights s.args.layout (sound s) (wide s) l.loop-i.i few)

  room : l.loop-i.at + 5 + s.args.layout.segments ≤ length s.args.output.now
  room = omega (arith, size, put-room l.loop-i.invariant c.loop-i-test.true)

pub loop-i-init : goal.loop-i-init
loop-i-init c = put-none c.requires.layout_in_bounds

pub bounds-layout-i : goal.bounds-layout-i
bounds-layout-i c = let h = few (goal.at.bounds-layout-i c).In-loop-i in search rules

pub slice_bounds-put_domain-end : goal.slice_bounds-put_domain-end
slice_bounds-put_domain-end c = omega (arith, few (goal.at.slice_bounds-put_domain-end c).In-loop-i, (sound (first (goal.at.slice_bounds-put_domain-end c).At-loop-i)).segments)

pub put_domain-requires : goal.put_domain-requires
put_domain-requires c = (omega (arith, room (goal.at.put_domain-requires c).In-loop-i, put-length c.loop-i.invariant), omega (arith, few (goal.at.put_domain-requires c).In-loop-i, (sound (first (goal.at.put_domain-requires c).At-loop-i)).segments))

pub overflow_add-at-in-loop-i : goal.overflow_add-at-in-loop-i
overflow_add-at-in-loop-i c = let h = room (goal.at.overflow_add-at-in-loop-i c).In-loop-i in search rules

pub loop-i-preserved : goal.loop-i-preserved
loop-i-preserved c =
    let l = c.loop-i in
    let n = c.args.layout.segments in
    let e : 16 * l.i + n - 16 * l.i ≡ n = omega arith in
    put_next l.invariant c.loop-i-test.true (rw e at c.put_domain.ensures) (ap (λ (j : ℕ). l.at + j) (sym (size (goal.at.loop-i-preserved c).In-loop-i)))

pub returns : goal.returns
returns c = let p = put-done c.loop-i.invariant c.loop-i-test.false in
    record { value = p.0; output_after = p.1 }
