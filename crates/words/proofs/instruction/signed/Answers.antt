-- `words::instruction::signed` meets its contract.
use Rattle.std.proofs.Common.{◌≡◌, ℕ, ◌+◌, ◌%◌, ◌^◌, ◌<◌, ◌≤◌, Bool, true, false, ltb, pos, negsuc, ◌-ℤ◌, sym, refl, ap, ◌∙◌, arith, w32, SFits, to_z, ltb-false, ltb-true}
use lib.IntN.{sub_ℕ}
use mir.ValLaws.{to_z-of_z, to_z_pos}
use Rattle.words.specs.Offset.{signed_of}
use Rattle.words.proofs.Integers.{sub-mag, sub-above, sub-below}
use Rattle.words.proofs.instruction.signed.Goals as goal

-- twelve bits turned by 2,048
abbrev turned : ℕ → ℕ
turned n = (n + 2048) % 4096

read : (n : ℕ) → to_z w32 (turned n) ≡ pos (turned n)
read n = to_z_pos w32 (turned n) (omega arith)

small : (n : ℕ) → SFits w32 (pos (turned n) -ℤ pos 2048)
small n = record { sfits = sub-mag (2 ^ 31) (turned n) 2048 (omega arith) (omega arith) }

value : (n : ℕ) → n < 4096 → pos (turned n) -ℤ pos 2048 ≡ signed_of n
unfolding signed_of
value n h = by (ltb n 2048) refl
  where
    by : (t : Bool) → ltb n 2048 ≡ t → sub_ℕ (turned n) 2048 ≡ signed_of n
    by true e =
        let l : n < 2048 = ltb-true n 2048 e in
        simp e (sub-above (turned n) 2048 (omega arith) ∙ ap pos (omega arith))
    by false e =
        let l : 2048 ≤ n = ltb-false n 2048 e in
        simp e (sub-below (turned n) 2048 (omega arith) ∙ ap negsuc (omega arith) ∙ sym (sub-below n 4096 h))

pub overflow_sub-result : goal.overflow_sub-result
overflow_sub-result c = rw (read c.args.offset) (small c.args.offset)

pub returns : goal.returns
returns c = simp (read c.args.offset) (to_z-of_z w32 _ (small c.args.offset) ∙ value c.args.offset c.requires)
