-- `layout_soundness::rights_sound` meets its contract.
use Rattle.layout_soundness.proofs.All.{begun, joined, ended}
use Rattle.layout_soundness.proofs.rights_sound.Goals as goal

pub loop-i-init : goal.loop-i-init
loop-i-init c = begun

pub loop-i-preserved : goal.loop-i-preserved
loop-i-preserved c = joined c.loop-i.invariant c.loop-i-test.true c.right_sound-all.ensures

pub returns : goal.returns
returns c = ended c.loop-i.invariant c.loop-i-test.false
