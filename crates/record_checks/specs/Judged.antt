-- The checks of a machine's references where any record may be lent: 9 for one that is not sound.
use Rattle.std.specs.Prelude.{ℕ}
use Rattle.words.specs.Answer.{Answer, ◌>>◌, require}
use Rattle.words.specs.Numbers.{not_sound}
use Rattle.words.specs.declared.pointer.Pointer.{Pointer}
use Rattle.state.specs.declared.record.Machine.{Machine}
use Rattle.soundness.specs.Sound.{sound_test}
use Rattle.references.specs.declared.flag.Flag.{Flag}
use Rattle.references.specs.declared.flag.Access.{Access}
use Rattle.references.specs.Check.{static_check, check}

-- the static check of a domain
unfoldable pub judged_static : Machine → ℕ → Flag → ℕ → ℕ → Answer ℕ
judged_static m domain flag segment word = require (sound_test m) not_sound >> static_check m domain flag segment word

-- the check of a reference by the executing domain
unfoldable pub judged_check : Machine → Access → Pointer → Answer ℕ
judged_check m access p = require (sound_test m) not_sound >> check m access p
