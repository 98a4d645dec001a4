-- Laws of rights.
use mathlib.Core.Bool.{false}
use mathlib.Core.Path.{◌≡◌, refl}
use Rattle.references.specs.declared.flag.Flag.{Flag}
use Rattle.references.specs.declared.flag.Flag.TheVariants.{Read, Write, Execute, Gate}
use Rattle.references.specs.Flag.{has}

-- a rights byte of 0 has no flag
pub no-rights : (f : Flag) → has 0 f ≡ false
unfolding has
no-rights Read = refl
no-rights Write = refl
no-rights Execute = refl
no-rights Gate = refl
