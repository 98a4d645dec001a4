-- A reference through sound registers answers as with none, which is the plain check, and as through those that earlier references left.
use Rattle.std.specs.Prelude.{if◌then◌else◌}
use Prim.Native.Nat.{ℕ, ◌-◌, ◌≤◌}
use native.Mathlib.Omega.{arith}
use mathlib.Core.Bool.{true, not}
use mathlib.Core.List.{List, []}
use mathlib.Core.Path.{◌≡◌, refl, sym, ap, ◌∙◌, fun_ext}
use lib.ListN.{get_or}
use Rattle.words.specs.Answer.{Answer, ok, ◌>>=◌}
use Rattle.words.specs.declared.pointer.Pointer.{Pointer}
use Rattle.state.specs.declared.record.Register.{Register}
use Rattle.state.specs.declared.record.Frame.{Frame}
use Rattle.state.specs.declared.record.Machine.{Machine}
use Rattle.state.specs.Record.{no_frame, in_use, live_frame}
use Rattle.state.specs.Bases.{bases_of}
use Rattle.soundness.proofs.Facts.{sound-facts}
use Rattle.capabilities.specs.Search.{covers_of}
use Rattle.recent.specs.Found.{found_of}
use Rattle.recent.specs.SoundRegisters.{contents_test, recent_test}
use Rattle.recent.proofs.Clear.{covers-clear}
use Rattle.recent.proofs.Source.{found-source}
use Rattle.recent.proofs.Kept.{recent-contents}
use Rattle.references.specs.declared.flag.Access.{Access}
use Rattle.references.specs.declared.flag.Access.TheVariants as access
use Rattle.references.specs.Flag.{flag_of, is_read}
use Rattle.references.specs.Static.{static_of}
use Rattle.references.specs.Live.{live_through}
use Rattle.references.specs.Private.{found_source}
use Rattle.references.specs.Reference.{index_of, accept, verdict_of, reference_of}
use Rattle.references.specs.Check.{check}
use Rattle.references.proofs.Sources.{sourced_by, through-found}
use Rattle.memory.specs.Reader.{read_of, read_word}
use Rattle.instructions.specs.Instruction.{is_load, is_store}
use Rattle.instructions.specs.Made.{made_at}
use Rattle.recent_theorems.specs.Statements.{with_recent, bare, PlainCheck, SoundCheck, SameCheck, InOrder, Consulted, ReadsChecked, InstructionNotes}
use Rattle.executions.proofs.RecentKept.{in-use, all-recent}
use Rattle.executions.proofs.Through.{through-none}

module _ (lengths rights : List ℕ) (depth : ℕ) (fs : List Frame) (rs : List Register) (t : contents_test depth fs rs ≡ true) (a : Access) where
  abbrev live : Frame
  live = get_or fs (depth - 1) no_frame

  same_live : (segment word : ℕ) → live_through lengths rights rs depth live a segment word ≡ live_through lengths rights [] depth live a segment word
  unfolding found_source
  same_live segment word =
      let fits = covers_of segment word 1 (is_read a) (not (is_read a)) in
      through-found lengths rights rs depth live a segment word
      ∙ ap (sourced_by lengths rights a segment word) (found-source fits (covers-clear segment word 1 (omega arith) (is_read a) (not (is_read a))) depth fs rs t)
      ∙ sym (through-found lengths rights [] depth live a segment word)

  same-verdict : (domain : ℕ) (p : Pointer) → verdict_of lengths rights domain rs depth live a p ≡ verdict_of lengths rights domain [] depth live a p
  unfolding verdict_of
  same-verdict domain p = ap (λ (n : ℕ). if p.tag then n else static_of lengths rights domain (flag_of a) p.segment p.word) (same_live p.segment p.word)

module _ (m : Machine) (few : m.depth ≤ 8) where
  -- registers that are sound for a machine's frames
  module _ (rs : List Register) (t : recent_test m.depth m.frames rs ≡ true) where
    contents : contents_test (in_use m.depth) m.frames rs ≡ true
    contents = rw (in-use m.depth few) (recent-contents m.depth m.frames rs t)

    pub bare-check : (a : Access) (p : Pointer) → check (with_recent m rs) a p ≡ check (bare m) a p
    unfolding check reference_of
    bare-check a p =
        ap (λ (n : ℕ). accept n (index_of (bases_of m.layout.lengths) p.segment p.word))
        (same-verdict m.layout.lengths m.layout.rights (in_use m.depth) m.frames rs contents a m.registers.domain p)

  -- what is read, too
  pub bare-read : recent_test m.depth m.frames m.recent ≡ true → (words : List ℕ) → read_word m words ≡ read_word (bare m) words
  unfolding read_word read_of check
  bare-read t words = fun_ext (λ p. ap (λ (x : Answer ℕ). x >>= (λ i. ok (get_or words i 0))) (bare-check m.recent t access.Read p))

pub same_check : SameCheck
same_check m s a p = let f = sound-facts m s in bare-check m f.frames.most m.recent f.recent a p

-- with no registers it is the plain check
pub plain-check : PlainCheck
unfolding check reference_of verdict_of
plain-check m a p =
    ap
    (λ (n : ℕ).
    accept (if p.tag then n else static_of m.layout.lengths m.layout.rights m.registers.domain (flag_of a) p.segment p.word)
    (index_of (bases_of m.layout.lengths) p.segment p.word))
    (through-none m.layout.lengths m.layout.rights (in_use m.depth) (live_frame m.depth m.frames) a p.segment p.word)

pub sound-check : SoundCheck
sound-check m s a p = same_check m s a p ∙ plain-check m a p

pub in_order : InOrder
in_order m s before a p =
    let f = sound-facts m s in
    let few = f.frames.most in
    let t = all-recent m.depth m.frames few m.recent f.recent before in
    bare-check m few _ t a p ∙ sym (bare-check m few m.recent f.recent a p)

-- the lowest registered match decides
pub consulted : Consulted
unfolding check reference_of verdict_of live_through found_of
consulted m access p r t d h = simp (t, d, h)

-- an instruction's reads go through the check
pub reads-checked : ReadsChecked
unfolding read_word read_of check
reads-checked m words p = refl

-- what is noted, opcode by opcode
pub instruction-notes : InstructionNotes
unfolding made_at is_load is_store
instruction-notes pointers i p = (refl, refl, refl, refl)
