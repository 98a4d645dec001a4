-- A completed call: the frame that it made, and its list.
use Rattle.std.specs.Prelude.{if◌then◌else◌}
use Prim.Native.Nat.{ℕ, ◌+◌, ◌-◌, ◌<◌}
use native.Mathlib.Omega.{arith}
use mathlib.Core.Bool.{Bool, true, false}
use mathlib.Core.List.{List}
use mathlib.Core.Path.{◌≡◌, refl, sym, ap, ◌∙◌, subst}
use borrow.Author.Tests.{le-leb}
use lib.ListN.{length, get_or}
use lib.Seq.{get_or-set_same}
use Rattle.words.specs.Answer.{Answer, refuse, ok}
use Rattle.words.specs.declared.pointer.Pointer.{Pointer}
use Rattle.state.specs.declared.record.Frame.{Frame}
use Rattle.state.specs.declared.record.Machine.{Machine}
use Rattle.state.specs.Record.{no_pointer, no_capability, no_frame, in_use}
use Rattle.references.specs.Live.{passed_of}
use Rattle.memory.specs.Reader.{read_word}
use Rattle.arguments.specs.ArgumentList.{source_of, argument_of, list_mode, list_capability, frame_of}
use Rattle.crossings.specs.Crossing.{entered, enter_of}
use Rattle.executions.specs.Statements.{SoundRecord, CalledTo}
use Rattle.executions.proofs.Says.{Says, said, says-bind}
use Rattle.executions.proofs.Gates.{gated}
use Rattle.executions.proofs.FrameParts.{Parts, frame-parts, parts_held}
use Rattle.list_theorems.specs.Statements.{list_at, live, ListSource, CallListed}

-- the frame that a call pushes is the live one after it
pushed : (m : Machine) (p : Pointer) (f : Frame) → m.depth < 8 → length m.frames ≡ 8 → live (entered m p f) ≡ f
unfolding entered
pushed m p f free room =
    let deep : in_use (m.depth + 1) - 1 ≡ m.depth = simp (le-leb (m.depth + 1) 8 (omega arith)) (omega arith) in
    rw deep (get_or-set_same m.frames m.depth f no_frame (rw room free))

module _ (m : Machine) (words : List ℕ) where
  abbrev pub PartsOf : Frame → Type 0
  PartsOf = Parts (read_word m words) (list_at m) (get_or m.pointers 1 no_pointer) m.registers.domain (in_use m.depth) (live m)

  -- the parts of the frame that a call entered its gate with
  pub record Entered (gate : Pointer) (n : Machine) : Type 0 where
    pub frame : Frame
    pub parts : PartsOf frame
    pub is : n ≡ entered m gate frame

  call-entered : (n : Machine) (gate : Pointer) → enter_of m (read_word m words) gate ≡ ok n → Entered gate n
  unfolding enter_of
  call-entered n gate e =
      said (Entered gate) _ n
      (says-bind PartsOf (Entered gate) (frame_of (read_word m words) (list_at m) (get_or m.pointers 1 no_pointer) m.registers.domain (in_use m.depth) (live m)) _
      (frame-parts (read_word m words) (list_at m) (get_or m.pointers 1 no_pointer) m.registers.domain (in_use m.depth) (live m))
      (λ f p. record { frame = f; parts = p; is = refl })) e

  -- they are those of its live frame
  pub call-parts : (n : Machine) → SoundRecord m → CalledTo m words n → PartsOf (live n)
  call-parts n s c =
      let e = call-entered n c.gate c.made in
      subst PartsOf (sym (ap live e.is ∙ pushed m c.gate e.frame (gated m n words s c).free s.1)) e.parts

-- whose the list is, by a's tag
whose : (m : Machine) (n source : ℕ) → source_of m.registers.domain (in_use m.depth) (live m) (list_at m) (list_mode n) ≡ ok source → ListSource m n (list_at m).tag source
unfolding source_of passed_of
whose m n source e = by (list_at m).tag e
  where
    by : (t : Bool) → (if t then passed_of (in_use m.depth) (live m) (list_at m).segment (list_at m).word (list_mode n).length true false else ok m.registers.domain) ≡ ok source → ListSource m n t source
    by true q = q
    by false q = cc

nine : (m : Machine) (words : List ℕ) (f : Frame) (p : PartsOf m words f) → length p.rows ≡ 9
nine m words f p =
    (parts_held (read_word m words) (list_at m) (get_or m.pointers 1 no_pointer) m.registers.domain (in_use m.depth) (live m) (λ j c. Unit {0})
    (λ i. any (argument_of (read_word m words) (list_at m) m.registers.domain (in_use m.depth) (live m) i)) f p).room
  where
    any : {A : Type 0} (x : Answer A) → Says (λ (a : A). Unit {0}) x
    any (refuse k) = tt
    any (ok a) = tt

pub call-listed : CallListed
call-listed m n words s c =
    let p = call-parts m words n s c in
    record {
      arguments = p.arguments;
      counted = p.counted;
      few = p.few;
      source = p.source;
      whose = whose m p.arguments p.source p.sourced;
      count = ap (λ (f : Frame). f.count) p.made;
      last = ap (λ (f : Frame). get_or f.capabilities p.arguments no_capability) p.made
          ∙ get_or-set_same p.rows p.arguments (list_capability (list_at m) p.source p.arguments) no_capability (rw (nine m words (live n) p) (omega (arith, p.few)));
    }
