-- The stack segment of a domain, and register b, which points to it.
use Rattle.std.specs.Prelude.{ℕ, false, List, ltb, get_or, set, if◌then◌else◌}
use Rattle.words.specs.declared.pointer.Pointer.{Pointer}

-- pointer register b at word 0 of a stack segment
abbrev pub with_base : List Pointer → ℕ → List Pointer
with_base pointers stack = set pointers 2 (record { word = 0; segment = stack; tag = false })

-- the stack segment of a domain; 0 past the rows
abbrev pub stack_of : List ℕ → ℕ → ℕ
stack_of stacks domain = if ltb domain 8 then get_or stacks domain 0 else 0
