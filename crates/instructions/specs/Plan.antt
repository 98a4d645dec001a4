-- What an instruction asks for once its effective pointer is formed and its reads are done.
use Rattle.std.specs.Prelude.{ℕ, List}
use Rattle.words.specs.declared.pointer.Pointer.{Pointer}

pub data Plan : Type 0 where
  -- the run ends, nothing changes
  halt : Plan
  -- go on with this A, at this segment and word, with these pointers
  move : ℕ → ℕ → ℕ → List Pointer → Plan
  -- store a word through a pointer, and go on at the next word
  store : Pointer → ℕ → Plan
  -- call through the gate at a pointer
  enter : Pointer → Plan
  -- return across domains to the place at a pointer
  leave : Pointer → Plan
