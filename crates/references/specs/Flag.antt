-- Rights flags.
use Rattle.std.specs.Prelude.{ℕ, ◌/◌, ◌%◌, Bool, true, false, eqb}
use Rattle.references.specs.declared.flag.Flag.{Flag}
use Rattle.references.specs.declared.flag.Flag.TheVariants as flag
use Rattle.references.specs.declared.flag.Access.{Access}
use Rattle.references.specs.declared.flag.Access.TheVariants as access

-- R = 1, W = 2, E = 4, G = 8
abbrev pub weight : Flag → ℕ
weight flag.Read = 1
weight flag.Write = 2
weight flag.Execute = 4
weight flag.Gate = 8

-- a rights byte has the flag
unfoldable pub has : ℕ → Flag → Bool
has rights flag = eqb (rights / weight flag % 2) 1

-- the flag that an access asks
abbrev pub flag_of : Access → Flag
flag_of access.Read = flag.Read
flag_of access.Write = flag.Write

abbrev pub is_read : Access → Bool
is_read access.Read = true
is_read access.Write = false
