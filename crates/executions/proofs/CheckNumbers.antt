-- What the checks and the words taken apart refuse with is the number of a fault.
use Prim.Native.Nat.{ℕ, ◌+◌}
use native.Mathlib.Omega.{arith}
use mathlib.Core.Bool.{Bool, true, false, not}
use mathlib.Core.List.{List, [], ◌∷◌}
use mathlib.Core.Path.{◌≡◌, refl}
use lib.Dec.{eqb, leb}
use lib.IntN.{ℤ, pos, negsuc, ◌+ℤ◌}
use lib.ListN.{get_or, take}
use Rattle.words.specs.Answer.{Answer, refuse, ok, ◌>>◌, require}
use Rattle.words.specs.Field.{field, common}
use Rattle.words.specs.Offset.{in_range, displaced_of}
use Rattle.words.specs.PointerWord.{pointer_of}
use Rattle.words.specs.InstructionWord.{instruction_of, masks}
use Rattle.words.specs.ModeWord.{mode_of}
use Rattle.words.specs.declared.pointer.Pointer.{Pointer}
use Rattle.state.specs.declared.record.Capability.{Capability}
use Rattle.state.specs.declared.record.Frame.{Frame}
use Rattle.state.specs.declared.record.Register.{Register}
use Rattle.state.specs.declared.record.Machine.{Machine}
use Rattle.state.specs.Record.{in_use}
use Rattle.state.specs.Bases.{bases_of}
use Rattle.references.specs.declared.flag.Flag.{Flag}
use Rattle.references.specs.declared.flag.Flag.TheVariants as flag
use Rattle.references.specs.declared.flag.Access.{Access}
use Rattle.references.specs.declared.flag.Access.TheVariants as access
use Rattle.references.specs.Flag.{has, flag_of, is_read}
use Rattle.references.specs.Static.{exists, rights_of, static_of}
use Rattle.capabilities.specs.Search.{first_of, covers_of}
use Rattle.references.specs.Live.{live_match, sourced, live_through}
use Rattle.references.specs.Reference.{accept, index_of, verdict_of, locate_of, reference_of}
use Rattle.references.specs.Check.{check}
use Rattle.references.proofs.Passes.{found-refuses}
use Rattle.memory.specs.Reader.{read_of, fetch_of, read_word, fetch}
use Rattle.addressing.specs.Effective.{displaced_by}
use Rattle.executions.proofs.Parts.{live}
use Rattle.executions.proofs.Fails.{Fails, Judged, passes, judged-if, fails-require, fails-if, fails-accept, fails-bind, fails-past}

-- the checks
pub static-judged : (lengths rights : List ℕ) (d : ℕ) (f : Flag) (s w : ℕ) → Judged (static_of lengths rights d f s w)
unfolding static_of
static-judged lengths rights d f s w =
    judged-if (exists lengths s w) _ 21 (judged-if (has (rights_of rights d s) f) 0 22 passes (λ _. (omega arith, omega arith))) (λ _. (omega arith, omega arith))

first-fails : (fits : Capability → Bool) (cs : List Capability) → Fails (first_of fits cs)
unfolding first_of
first-fails fits [] = (omega arith, omega arith)
first-fails fits (c ∷ cs) = fails-if (fits c) (ok c) (first_of fits cs) tt (first-fails fits cs)

pub match-fails : (depth : ℕ) (f : Frame) (fits : Capability → Bool) → Fails (live_match depth f fits)
unfolding live_match
match-fails depth f fits = fails-if (eqb depth 0) (refuse 24) _ (omega arith, omega arith) (first-fails fits (take f.count f.capabilities))

live-judged : (lengths rights : List ℕ) (rs : List Register) (depth : ℕ) (f : Frame) (a : Access) (s w : ℕ) → Judged (live_through lengths rights rs depth f a s w)
unfolding live_through
live-judged lengths rights rs depth f a s w = by _ (found-refuses rs depth f (covers_of s w 1 (is_read a) (not (is_read a))))
  where
    by : (x : Answer Capability) → ((n : ℕ) → x ≡ refuse n → n ≡ 24) → Judged (sourced lengths rights a s w x)
    by (refuse n) h = λ _. (omega (arith, h n refl), omega (arith, h n refl))
    by (ok c) h = judged-if (eqb (static_of lengths rights c.source (flag_of a) s w) 0) 0 25 passes (λ _. (omega arith, omega arith))

module _ (lengths rights : List ℕ) (d : ℕ) (rs : List Register) (depth : ℕ) (f : Frame) (a : Access) (p : Pointer) where
  verdict-judged : Judged (verdict_of lengths rights d rs depth f a p)
  unfolding verdict_of
  verdict-judged =
      judged-if p.tag _ _ (live-judged lengths rights rs depth f a p.segment p.word) (static-judged lengths rights d (flag_of a) p.segment p.word)

  reference-fails : (bases : List ℕ) → Fails (reference_of lengths rights bases d rs depth f a p)
  unfolding reference_of
  reference-fails bases = fails-accept (verdict_of lengths rights d rs depth f a p) _ verdict-judged

pub check-fails : (m : Machine) (a : Access) (p : Pointer) → Fails (check m a p)
unfolding check
check-fails m a p = reference-fails m.layout.lengths m.layout.rights m.registers.domain m.recent (in_use m.depth) (live m) a p (bases_of m.layout.lengths)

pub read-fails : (m : Machine) (words : List ℕ) (p : Pointer) → Fails (read_word m words p)
unfolding read_word read_of
read-fails m words p =
    fails-bind (reference_of m.layout.lengths m.layout.rights (bases_of m.layout.lengths) m.registers.domain m.recent (in_use m.depth) (live m) access.Read p) _
    (reference-fails m.layout.lengths m.layout.rights m.registers.domain m.recent (in_use m.depth) (live m) access.Read p (bases_of m.layout.lengths)) (λ i. tt)

pub fetch-fails : (m : Machine) (words : List ℕ) → Fails (fetch m words)
unfolding fetch fetch_of locate_of
fetch-fails m words =
    fails-bind (accept verdict (index_of (bases_of m.layout.lengths) m.registers.segment m.registers.word)) _
    (fails-accept verdict _ (static-judged m.layout.lengths m.layout.rights m.registers.domain flag.Execute m.registers.segment m.registers.word)) (λ i. tt)
  where
    verdict : ℕ
    verdict = static_of m.layout.lengths m.layout.rights m.registers.domain flag.Execute m.registers.segment m.registers.word

-- words taken apart
pub pointer-fails : (w : ℕ) → Fails (pointer_of w)
unfolding pointer_of
pointer-fails w = fails-past (require (eqb (field 16 15 w) 0) 26) _ (fails-require (eqb (field 16 15 w) 0) 26 (omega arith, omega arith)) tt

two-fail : {A : Type 0} (s t : Bool) (a : A) → Fails (require s 27 >> require t 27 >> ok a)
two-fail false t a = (omega arith, omega arith)
two-fail true false a = (omega arith, omega arith)
two-fail true true a = tt

pub instruction-fails : (w : ℕ) → Fails (instruction_of w)
unfolding instruction_of
instruction-fails w = two-fail (leb (field 24 8 w) 12) (eqb (common 32 w (get_or masks (field 24 8 w) 0)) 0) _

five-fail : {A : Type 0} (s t u v w : Bool) (a : A) → Fails (require s 30 >> require t 30 >> require u 30 >> require v 30 >> require w 30 >> ok a)
five-fail false t u v w a = (omega arith, omega arith)
five-fail true false u v w a = (omega arith, omega arith)
five-fail true true false v w a = (omega arith, omega arith)
five-fail true true true false w a = (omega arith, omega arith)
five-fail true true true true false a = (omega arith, omega arith)
five-fail true true true true true a = tt

pub mode-fails : (w start : ℕ) → Fails (mode_of w start)
unfolding mode_of
mode-fails w start = five-fail (leb 1 (field 0 13 w)) (leb (field 0 13 w) 4096) (eqb (field 13 17 w) 0) (leb 1 (field 30 2 w)) (leb (start + field 0 13 w) 4096) _

range-fails : (z : ℤ) → Fails (in_range z)
range-fails (pos n) = fails-if (leb n 4095) (ok n) (refuse 23) tt (omega arith, omega arith)
range-fails (negsuc n) = (omega arith, omega arith)

pub moved-fails : (p : Pointer) (z : ℤ) → Fails (displaced_by p z)
unfolding displaced_by displaced_of
moved-fails p z = fails-bind (in_range (pos p.word +ℤ z)) _ (range-fails (pos p.word +ℤ z)) (λ n. tt)
