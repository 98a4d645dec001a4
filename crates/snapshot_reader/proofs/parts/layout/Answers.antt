-- `snapshot_reader::parts::layout` meets its contract.
use Prim.Native.Nat.{ℕ, ◌+◌, ◌*◌}
use borrow.Author.Rules.{rules}
use lib.ListN.{get_or}
use Rattle.snapshot_format.specs.Format.{pair_form}
use Rattle.snapshot_reader.proofs.Laws.{made}
use Rattle.snapshot_reader.proofs.parts.layout.Goals as goal

pub returns : goal.returns
returns c =
    let b = c.args.bytes.now in
    let pairs : ℕ → ℕ → ℕ = λ i k. pair_form.value b (i + k * 2) in
    λ j.
    record {
      lengths = made _ _ (pairs 0) 0 _ (λ k y q h. search rules) 16 c.from_fn.ensures.items j;
      gates = made _ _ (pairs 32) 0 _ (λ k y q h. search rules) 16 c.from_fn-2.ensures.items j;
      start = c.start.ensures j;
      gatedomains = c.row.ensures j;
      stacks = c.row-2.ensures j;
      rights = c.row-3.ensures j;
      segments = get_or b 220 0;
      domains = get_or b 221 0;
    }
