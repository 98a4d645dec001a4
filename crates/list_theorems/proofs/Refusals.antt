-- The refusals of a list: too many arguments, not covered, past word 4,095.
use Rattle.std.specs.Prelude.{if◌then◌else◌}
use Prim.Native.Nat.{ℕ, ◌+◌, ◌*◌, ◌<◌, ◌≤◌}
use native.Mathlib.Omega.{arith}
use mathlib.Core.Bool.{Bool, true, false, ◌&&◌}
use mathlib.Core.Path.{◌≡◌, refl}
use borrow.Author.Tests.{le-leb, lt-leb, eqb-false}
use lib.Dec.{eqb, leb}
use lib.ListN.{get_or, take}
use Rattle.words.specs.Answer.{refuse}
use Rattle.state.specs.declared.record.Capability.{Capability}
use Rattle.state.specs.declared.record.Machine.{Machine}
use Rattle.state.specs.Record.{no_capability, in_use}
use Rattle.capabilities.specs.Search.{covers_of, first_of}
use Rattle.references.specs.Live.{live_match, passed_of}
use Rattle.memory.specs.Reader.{read_word}
use Rattle.arguments.specs.ArgumentList.{source_of, frame_of}
use Rattle.crossings.specs.Crossing.{enter_of}
use Rattle.runs.specs.Step.{decide, execute}
use Rattle.executions.proofs.Crossings.{live-held}
use Rattle.executions.proofs.Sound.{whole}
use Rattle.executions.specs.Statements.{SoundRecord}
use Rattle.list_theorems.proofs.Rows.{first-none}
use Rattle.list_theorems.specs.Statements.{list_at, live, covering, UncoveredRefused, FirstWordRefused, ManyRefused, LongRefused}

pub uncovered-refused : UncoveredRefused
unfolding enter_of frame_of source_of passed_of
uncovered-refused m read gate n t e few none = simp (e, le-leb n 8 (omega (arith, few)), t, none)

pub first-word-refused : FirstWordRefused
unfolding enter_of frame_of
first-word-refused m read gate number e = simp e

pub many-refused : ManyRefused
unfolding enter_of frame_of
many-refused m read gate n e many = simp (e, lt-leb n 8 (omega (arith, many)))

-- what ends at word 4,095 covers nothing that goes on past it
past : (segment word size : ℕ) (c : Capability) → c.word + c.length ≤ 4096 → 4096 < word + size → covers_of segment word size true false c ≡ false
unfolding covers_of
past segment word size c end long = simp (lt-leb (word + size) (c.word + c.length) (omega arith)) (by (eqb c.segment segment) (leb c.word word))
  where
    by : (x y : Bool) → (x && (y && false)) ≡ false
    by true true = refl
    by true false = refl
    by false y = refl

long-uncovered : (m : Machine) (n : ℕ) → SoundRecord m → 4096 < (list_at m).word + (3 + 2 * n) → covering m n ≡ refuse 24
unfolding live_match
long-uncovered m n s long = by (eqb (in_use m.depth) 0) refl
  where
    by : (t : Bool) → eqb (in_use m.depth) 0 ≡ t
        → (if t then refuse 24 else first_of (covers_of (list_at m).segment (list_at m).word (3 + 2 * n) true false) (take (live m).count (live m).capabilities)) ≡ refuse 24
    by true e = refl
    by false e =
        first-none (covers_of (list_at m).segment (list_at m).word (3 + 2 * n) true false) (live m).count (live m).capabilities
        (λ j l. past (list_at m).segment (list_at m).word (3 + 2 * n) (get_or (live m).capabilities j no_capability) (live-held m (whole m s) (eqb-false _ 0 e) j l).end long)

pub long-refused : LongRefused
unfolding execute decide
long-refused m words gate n s asked t e few long =
    simp (asked, uncovered-refused m (read_word m words) gate n t e (omega (arith, few)) (long-uncovered m n s (omega (arith, long))))
