-- `report::lines::put_end` meets its contract.
use Prim.Native.Nat.{ℕ, ◌≤◌}
use native.Mathlib.Omega.{arith}
use native.Mathlib.Nat.{zero-add}
use mathlib.Core.List.{List}
use mathlib.Core.Path.{◌≡◌, ◌∙◌}
use lib.ListN.{length}
use Rattle.words.specs.Refusal.{number}
use Rattle.image_format.specs.Output.{written}
use Rattle.text.specs.Text.{text, labelled, line}
use Rattle.text.proofs.Decimals.{line-most}
use Rattle.text.proofs.Puts.{PutsWithin, within-puts}
use Rattle.report.proofs.lines.put_end.Goals as goal

-- a text of at most 21 bytes at the start
at-start : (l m : List ℕ) (next : ℕ) (xs : List ℕ) → length xs ≤ 21 → 21 ≤ length l → PutsWithin l m 0 next xs → (next ≡ length xs) × ((m ≡ written l 0 xs) × (next ≤ 21))
at-start l m next xs h k q = let p = within-puts l m 0 next xs (omega arith) q in (p.0 ∙ zero-add (length xs), (p.1, omega (arith, p.0)))

pub returns-in-Halted : goal.returns-in-Halted
returns-in-Halted c =
    let p = at-start _ _ _ (line (text "end halted")) (omega arith) c.requires (c.put_text.ensures.value, c.put_text.ensures.output_after) in
    rw c.in-Halted.is (record { value = p.0; output_after = p.1.0; upper_bound = p.1.1 })

pub returns-in-Faulted : goal.returns-in-Faulted
returns-in-Faulted c =
    let n = number c.in-Faulted.refusal in
    let p = at-start _ _ _ (line (labelled (text "end fault ") n)) (omega (arith, line-most (text "end fault ") n (omega arith))) c.requires (rw c.number.ensures at c.put_line.ensures.value, rw c.number.ensures at c.put_line.ensures.output_after) in
    rw c.in-Faulted.is (record { value = p.0; output_after = p.1.0; upper_bound = p.1.1 })

pub returns-in-Spent : goal.returns-in-Spent
returns-in-Spent c =
    let p = at-start _ _ _ (line (text "end spent")) (omega arith) c.requires (c.put_text-in-Spent.ensures.value, c.put_text-in-Spent.ensures.output_after) in
    rw c.in-Spent.is (record { value = p.0; output_after = p.1.0; upper_bound = p.1.1 })

pub returns-in-Crossed : goal.returns-in-Crossed
returns-in-Crossed c =
    let p = at-start _ _ _ (line (text "end crossed")) (omega arith) c.requires (c.put_text-in-Crossed.ensures.value, c.put_text-in-Crossed.ensures.output_after) in
    rw c.in-Crossed.is (record { value = p.0; output_after = p.1.0; upper_bound = p.1.1 })

pub returns-in-Refused : goal.returns-in-Refused
returns-in-Refused c =
    let n = number c.in-Refused.refusal in
    let p = at-start _ _ _ (line (labelled (text "refused ") n)) (omega (arith, line-most (text "refused ") n (omega arith))) c.requires (rw c.number-in-Refused.ensures at c.put_line-in-Refused.ensures.value, rw c.number-in-Refused.ensures at c.put_line-in-Refused.ensures.output_after) in
    rw c.in-Refused.is (record { value = p.0; output_after = p.1.0; upper_bound = p.1.1 })
