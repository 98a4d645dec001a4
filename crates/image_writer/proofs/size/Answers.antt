-- `image_writer::size` meets its contract.
use Prim.Native.Nat.{ℕ, ◌+◌, ◌*◌, ◌≤◌}
use native.Mathlib.Omega.{arith}
use native.Mathlib.Nat.{mul-le-mul}
use mathlib.Core.Path.{◌≡◌, sym, ap, ◌∙◌}
use lib.ListN.{length}
use Rattle.soundness.proofs.Facts.{LayoutSound, layout-facts}
use Rattle.image_format.proofs.Sizes.{image-size}
use Rattle.image_writer.proofs.size.Goals as goal
use Rattle.image_writer.proofs.size.Goals.{Start}

sound : (s : Start) → LayoutSound s.args.layout
sound s = layout-facts s.args.layout s.requires.0

wide : (s : Start) → length s.args.layout.rights ≡ 128
wide s = s.well_formed.0.1.1.1.1.1.1.1.0.1.0.1

rows : (s : Start) → s.args.layout.domains * (5 + s.args.layout.segments) ≤ 8 * 21
rows s = let h : 5 + s.args.layout.segments ≤ 21 = omega (arith, (sound s).segments) in mul-le-mul (sound s).domains h

pub returns : goal.returns
returns c =
    ap (λ (n : ℕ). 16 + 8 * c.args.layout.segments + 4 * n + c.args.layout.domains * (5 + c.args.layout.segments)) c.words_in-count.ensures ∙
    sym (image-size c.args.layout c.args.words.now (sound (goal.at.returns c).Start) c.requires.1 (wide (goal.at.returns c).Start))
