-- `image_reader::domain::domain_chunks` meets its contract.
use Prim.Native.Nat.{◌+◌, ◌-◌, ◌*◌}
use native.Mathlib.Omega.{arith}
use borrow.Author.Rules.{rules}
use lib.ListN.{drop}
use Rattle.image_format.proofs.Padded.{padded-none}
use Rattle.words.proofs.Results.{handed_on}
use Rattle.image_reader.proofs.DomainRows.{domains-none, domains-done, domains-refused, domain-fits, domains-next, row_put}
use Rattle.image_reader.proofs.domain.domain_chunks.Goals as goal

pub loop-i-init : goal.loop-i-init
loop-i-init c = domains-none (padded-none 8) (padded-none 128)

pub returns-in_err-stacks : goal.returns-in_err-stacks
returns-in_err-stacks c = simp (handed_on c.from_residual.result _ c.from_residual.ensures.1) (domains-refused c.loop-i.invariant c.loop-i-test.true (simp c.in_err-stacks.was at c.domain_chunk.ensures))

pub overflow_add-at : goal.overflow_add-at
overflow_add-at c = let h = domain-fits c.loop-i.invariant c.loop-i-test.true c.requires (simp c.in_ok-stacks.was at c.domain_chunk.ensures) in search rules

pub overflow_add-from : goal.overflow_add-from
overflow_add-from c = let h = domain-fits c.loop-i.invariant c.loop-i-test.true c.requires (simp c.in_ok-stacks.was at c.domain_chunk.ensures) in search rules

pub slice_bounds-copy_from_slice-end : goal.slice_bounds-copy_from_slice-end
slice_bounds-copy_from_slice-end c = let h = domain-fits c.loop-i.invariant c.loop-i-test.true c.requires (simp c.in_ok-stacks.was at c.domain_chunk.ensures) in search rules

pub loop-i-preserved : goal.loop-i-preserved
loop-i-preserved c =
    let l = c.loop-i in
    let n = c.args.segments in
    rw (row_put l.rights (drop (l.at + 5) c.args.image.now) c.copy_from_slice.new.self (16 * l.i) (16 * l.i + n - 16 * l.i) (l.at + 5 + n - (l.at + 5)) n (omega arith) (omega arith) c.copy_from_slice.ensures.after)
    (domains-next l.invariant c.loop-i-test.true c.requires (simp c.in_ok-stacks.was at c.domain_chunk.ensures))

pub returns : goal.returns
returns c = domains-done c.loop-i.invariant c.loop-i-test.false
