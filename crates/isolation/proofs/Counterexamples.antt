-- With less counted as visible, or with another domain's rights, the claim is false.
use Prim.Native.Nat.{ℕ, ◌≤◌}
use native.Mathlib.Omega.{arith}
use mathlib.Core.Bool.{Bool, true, false, ◌||◌}
use mathlib.Core.List.{List}
use mathlib.Core.Path.{◌≡◌, sym, ap, ◌∙◌}
use lib.ListN.{length, set, length-set}
use Rattle.state.specs.declared.record.Machine.{Machine}
use Rattle.state.specs.Bases.{base_of, bases_of}
use Rattle.soundness.specs.Sound.{sound_test}
use Rattle.references.specs.declared.flag.Flag.TheVariants as flag
use Rattle.references.specs.declared.flag.Access.TheVariants as access
use Rattle.runs.specs.Run.{Ran}
use Rattle.processor.specs.Calls.{stretch_of}
use Rattle.isolation.specs.Visible.{by_static, by_live, could_write, existing, place, word_at}
use Rattle.isolation.specs.Isolation.{Unchanged}
use Rattle.isolation.proofs.Or.{either}
use Rattle.isolation.proofs.Unseen.{static-there, read-there, differs}
use Rattle.isolation.proofs.Worked.{start, memory, called, computed, start-sound, called-sound, fits, zeros, enough}

-- the claim of equal records, with another test of what the domain may see
abbrev pub SameRecord : (Machine → ℕ → ℕ → Bool) → Type 0
SameRecord see =
    (m : Machine) → sound_test m ≡ true → (limit : ℕ) (w v : List ℕ) → 8192 ≤ length w → 8192 ≤ length v
    → ((s k : ℕ) → see m s k ≡ true → word_at m w s k ≡ word_at m v s k)
    → (stretch_of limit m w).machine ≡ (stretch_of limit m v).machine

-- without execute: the program itself may differ
pub without-execute : SameRecord (λ m s k. by_static m flag.Read s k || by_live m access.Read s k) → ⊥
unfolding start memory bases_of base_of called
without-execute claim =
    let c = computed 7 zeros in
    let e = claim start start-sound 100 (memory 5 7 zeros) (memory 6 7 zeros) (fits 5 7 zeros enough) (fits 6 7 zeros enough)
    (differs (λ s k. by_static start flag.Read s k || by_live start access.Read s k) start (read-there start) (memory 5 7 zeros) 0 0 0x0C000006 c.code.0 c.code.1) in
    let q : ◌≡◌ {A = ℕ} 5 6 = ap (λ (x : Ran). x.machine.registers.a) (sym c.five) ∙ ap (λ (m : Machine). m.registers.a) e ∙ ap (λ (x : Ran). x.machine.registers.a) c.six in
    omega arith

-- static rights only: what the called domain reads through the live frame may differ
pub static_only : SameRecord (λ m s k. by_static m flag.Execute s k || by_static m flag.Read s k) → ⊥
unfolding start memory bases_of base_of called
static_only claim =
    let c = computed 7 zeros in
    let w = memory 5 7 zeros in
    let e = claim (called 5) called-sound 1 w (set w (place start 1 6) 6) (fits 5 7 zeros enough) (rw length-set (fits 5 7 zeros enough))
    (differs (λ s k. by_static (called 5) flag.Execute s k || by_static (called 5) flag.Read s k) (called 5)
    (λ s k. either (by_static (called 5) flag.Execute s k) (by_static (called 5) flag.Read s k) (static-there (called 5) s k flag.Execute) (static-there (called 5) s k flag.Read))
    w 1 6 6 c.argument.0 c.argument.1) in
    let q : ◌≡◌ {A = ℕ} 0 6 = sym (c.loads 0) ∙ ap (λ (m : Machine). m.registers.a) e ∙ c.loads 6 in
    omega arith

-- the claim of unchanged words, with the rights of the domain that executes when the stretch has ended
abbrev pub UnwrittenAtEnd : Type 0
UnwrittenAtEnd =
    (m : Machine) → sound_test m ≡ true → (limit : ℕ) (w : List ℕ) → 8192 ≤ length w
    → (s k : ℕ) → existing m s k ≡ true → could_write (stretch_of limit m w).machine s k ≡ false → Unchanged m w (stretch_of limit m w) s k

-- the called domain could not write the word that the caller stored in
pub called-domain : UnwrittenAtEnd → ⊥
unfolding start memory bases_of base_of
called-domain claim =
    let c = computed 7 zeros in
    let u = claim start start-sound 100 (memory 5 7 zeros) (fits 5 7 zeros enough) 1 6 c.argument.0 (ap (λ (x : Ran). could_write x.machine 1 6) c.five ∙ c.unwritable) in
    let q : ◌≡◌ {A = ℕ} 5 0 = sym c.written ∙ ap (λ (x : Ran). word_at start x.words 1 6) (sym c.five) ∙ u in
    omega arith
