-- The arguments that are left, as a loop comes to them.
use Prim.Native.Nat.{ℕ, suc, ◌+◌, ◌-◌, ◌<◌, ◌≤◌}
use native.Mathlib.Omega.{arith}
use mathlib.Core.List.{List}
use mathlib.Core.Path.{◌≡◌, ap, ◌∙◌}
use lib.ListN.{set}
use Rattle.words.specs.Answer.{refuse, ok}
use Rattle.words.specs.declared.pointer.Pointer.{Pointer}
use Rattle.state.specs.declared.record.Capability.{Capability}
use Rattle.state.specs.declared.record.Frame.{Frame}
use Rattle.memory.specs.Reader.{Reader}
use Rattle.arguments.specs.ArgumentList.{argument_of, arguments_from}

module _ (read : Reader) (a : Pointer) (caller depth : ℕ) (live : Frame) (n i : ℕ) (less : i < n) (rows : List Capability) where
  next : n - i ≡ suc (n - (i + 1))
  next = omega arith

  pub refused-rest : (x : ℕ) → argument_of read a caller depth live i ≡ refuse x → arguments_from read a caller depth live (n - i) i rows ≡ refuse x
  unfolding arguments_from
  refused-rest x e = ap (λ (k : ℕ). arguments_from read a caller depth live k i rows) next ∙ rw e

  pub taken-rest : (c : Capability) (more : List Capability) → argument_of read a caller depth live i ≡ ok c → more ≡ set rows i c
      → arguments_from read a caller depth live (n - i) i rows ≡ arguments_from read a caller depth live (n - (i + 1)) (i + 1) more
  unfolding arguments_from
  taken-rest c more e m = ap (λ (k : ℕ). arguments_from read a caller depth live k i rows) next ∙ rw (e, m)

pub no-rest : (read : Reader) (a : Pointer) (caller depth : ℕ) (live : Frame) (n i : ℕ) → n ≤ i → (rows : List Capability) → arguments_from read a caller depth live (n - i) i rows ≡ ok rows
unfolding arguments_from
no-rest read a caller depth live n i h rows = ap (λ (k : ℕ). arguments_from read a caller depth live k i rows) (let z : n - i ≡ 0 = omega arith in z)

pub all_rest : (read : Reader) (a : Pointer) (caller depth : ℕ) (live : Frame) (n : ℕ) (rows : List Capability) → arguments_from read a caller depth live n 0 rows ≡ arguments_from read a caller depth live (n - 0) 0 rows
all_rest read a caller depth live n rows = ap (λ (k : ℕ). arguments_from read a caller depth live k 0 rows) (omega arith)
