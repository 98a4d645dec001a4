-- `held_runs::running::frames_sound` meets its contract.
use Prim.Native.Nat.{ℕ}
use mathlib.Core.Bool.{Bool}
use mathlib.Core.Path.{◌∙◌}
use borrow.Author.Rules.{rules}
use lib.ListN.{get_or}
use Rattle.state.specs.Record.{no_frame}
use Rattle.soundness.specs.Sound.{frame_test}
use Rattle.snapshot_reader.proofs.Laws.{tested}
use Rattle.held_runs.proofs.JudgeLaws.{frames-in-use}
use Rattle.held_runs.proofs.running.frames_sound.Goals as goal

pub returns : goal.returns
returns c =
    let m = c.args.m in
    let row : ℕ → Bool = λ k. frame_test m.layout.domains (get_or m.frames k no_frame) in
    tested _ _ row _ (λ k y q h. search rules) m.depth _ c.all.ensures.ran ∙ frames-in-use m _ c.requires
