-- Runs of opcodes that have one mask in the table.
use Rattle.std.proofs.Common.{◌≡◌, ℕ, ◌+◌, ◌-◌, ◌<◌, ◌≤◌, List, length, get_or, take, drop, replicate, sym, ap, ◌∙◌, arith, length-drop, length-take, get_or-drop, get_or-take}
use lib.ListN.{get_or-replicate, length-replicate}
use Rattle.words.specs.Field.{field}
use Rattle.words.specs.InstructionWord.{masks}
use Rattle.words.specs.Private.{HasMask}

-- if the n masks of the table from first on are all one, which is computed, it is the mask of every word with one of these n opcodes
pub run-mask : (mask first n : ℕ) → take n (drop first masks) ≡ replicate n mask → (w : ℕ) → first ≤ field 24 8 w → field 24 8 w < first + n → HasMask w mask
run-mask mask first n e w a b =
    let i : ℕ = field 24 8 w - first in
    let at : first + i ≡ field 24 8 w = omega arith in
    let all : length (take n (drop first masks)) ≡ n = ap length e ∙ length-replicate n mask in
    record {
      known = omega (arith, all, length-take n (drop first masks), length-drop first masks);
      same = sym (get_or-replicate n i mask 0 (omega arith)) ∙ ap (λ (xs : List ℕ). get_or xs i 0) (sym e) ∙ get_or-take n (drop first masks) i 0 (omega arith) ∙ get_or-drop first masks i 0 ∙ ap (λ (j : ℕ). get_or masks j 0) at;
    }
