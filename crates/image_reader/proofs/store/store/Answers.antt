-- `image_reader::store::store` meets its contract.
use Prim.Native.Nat.{ℕ, ◌+◌, ◌*◌, ◌≤◌}
use native.Mathlib.Omega.{arith}
use mathlib.Core.Path.{refl}
use borrow.Author.Rules.{rules}
use lib.ListN.{length, get_or}
use Rattle.image_reader.proofs.Stores.{stored-none, stored-length, stored-done, place-fits, base-fits, stored_next}
use Rattle.image_reader.proofs.store.store.Goals as goal
use Rattle.image_reader.proofs.store.store.Goals.{In-loop-i}

pub loop-i-init : goal.loop-i-init
loop-i-init c =
    let a = c.args in
    stored-none a.image.now a.words.now a.layout.now c.requires.0 c.requires.1

-- the segment's words are in the image, and there is room for them
module _ (c : In-loop-i) where
  abbrev n : ℕ
  n = get_or c.args.layout.now.lengths c.loop-i.i 0

  place : c.loop-i.at + 8 + 4 * n ≤ length c.args.image.now
  place = place-fits _ _ _ _ _ _ _ _ c.loop-i.invariant c.loop-i-test.true n refl

  room : (c.loop-i.base + n ≤ 8192) × (8192 ≤ length c.loop-i.words)
  room =
      let i = c.loop-i.invariant in
      (base-fits _ _ _ _ _ _ _ _ i c.loop-i-test.true n refl, omega (arith, stored-length _ _ _ _ _ _ _ _ i, i.enough))

pub overflow_add-at : goal.overflow_add-at
overflow_add-at c = let h = place (goal.at.overflow_add-at c).In-loop-i in search rules

pub overflow_add-at-in-loop-i-2 : goal.overflow_add-at-in-loop-i-2
overflow_add-at-in-loop-i-2 c = let h = place (goal.at.overflow_add-at-in-loop-i-2 c).In-loop-i in search rules

pub segment_words-requires : goal.segment_words-requires
segment_words-requires c = let d = (goal.at.segment_words-requires c).In-loop-i in (place d, omega (arith, (room d).0, (room d).1))

pub loop-i-preserved : goal.loop-i-preserved
loop-i-preserved c =
    rw c.segment_words.ensures (stored_next _ _ _ _ _ _ _ _ c.loop-i.invariant c.loop-i-test.true _ refl)

pub returns : goal.returns
returns c = stored-done _ _ _ _ _ _ _ _ c.loop-i.invariant c.loop-i-test.false
