-- The references that an instruction makes, and the registers after them.
use Rattle.std.specs.Prelude.{ℕ, List, [], ◌∷◌, if◌then◌else◌}
use Rattle.words.specs.declared.pointer.Pointer.{Pointer}
use Rattle.state.specs.declared.record.Frame.{Frame}
use Rattle.state.specs.declared.record.Register.{Register}
use Rattle.recent.specs.Found.{referred_to}
use Rattle.references.specs.declared.flag.Access.{Access}
use Rattle.references.specs.declared.flag.Access.TheVariants as access
use Rattle.references.specs.Flag.{is_read}

-- a reference through a pointer
pub record MadeReference : Type 0 where
  pub access : Access
  pub pointer : Pointer

abbrev pub made_read : Pointer → MadeReference
made_read p = record { access = access.Read; pointer = p }

abbrev pub made_write : Pointer → MadeReference
made_write p = record { access = access.Write; pointer = p }

-- the registers after a reference; an untagged one does not use them
unfoldable pub renewed : List Register → ℕ → Frame → MadeReference → List Register
renewed recent depth frame r =
    if r.pointer.tag then referred_to recent depth frame r.pointer.segment r.pointer.word (is_read r.access) else recent

-- after references, one after the other
unfoldable pub renewed_all : List Register → ℕ → Frame → List MadeReference → List Register
renewed_all recent depth frame [] = recent
renewed_all recent depth frame (r ∷ more) = renewed_all (renewed recent depth frame r) depth frame more
