-- A call through a gate and a return across domains leave a sound machine sound.
use Rattle.std.specs.Prelude.{if◌then◌else◌}
use Prim.Native.Nat.{ℕ, ◌-◌, ◌<◌, ◌≤◌}
use native.Mathlib.Omega.{arith}
use mathlib.Core.Bool.{Bool, true, false, ◌&&◌}
use mathlib.Core.List.{List}
use mathlib.Core.Path.{◌≡◌, refl, ◌∙◌}
use borrow.Author.Tests.{ltb-true, leb-true}
use lib.Dec.{ltb, leb}
use lib.ListN.{length, get_or, set, length-set}
use Rattle.words.specs.declared.pointer.Pointer.{Pointer}
use Rattle.state.specs.declared.record.Layout.{Layout}
use Rattle.state.specs.declared.record.Frame.{Frame}
use Rattle.state.specs.declared.record.Machine.{Machine}
use Rattle.state.specs.Record.{no_pointer, in_use, free_frame, of_segment}
use Rattle.soundness.proofs.Facts.{PointerSound, PointersSound, FrameSound, LayoutSound, Sound}
use Rattle.soundness.proofs.FreshSound.{free-frame}
use Rattle.soundness.proofs.Kept.{pointer-set, frame_pushed, frame-popped}
use Rattle.references.specs.declared.flag.Flag.TheVariants as flag
use Rattle.references.specs.Static.{exists, static_of}
use Rattle.references.proofs.Passes.{both, static-exists}
use Rattle.memory.specs.Reader.{Reader}
use Rattle.pointer_registers.specs.Stack.{stack_of}
use Rattle.crossings.specs.Crossing.{tagged, with_tag, entered, left, same_place, leave_check, enter_of, leave_of}
use Rattle.executions.proofs.Says.{Says, says-bind, says-accept}
use Rattle.executions.proofs.Plans.{base-sound, exists-sound}
use Rattle.executions.proofs.Arguments.{LiveSound}
use Rattle.executions.proofs.Frames.{Framed, frame-sound}
use Rattle.executions.proofs.RecentKept.{in-use, called-recent, left-recent}
use Rattle.executions.proofs.Parts.{live, frame_for, leave_number}

-- a sound machine with its eight rows of frames
pub record Whole (m : Machine) : Type 0 where
  pub sound : Sound m
  pub room : length m.frames ≡ 8

-- the stack segment of any domain, and the gate domain of any segment
pub stack-most : (l : Layout) → LayoutSound l → (d : ℕ) → stack_of l.stacks d ≤ 15
stack-most l s d = by (ltb d 8) refl
  where
    by : (t : Bool) → ltb d 8 ≡ t → (if t then get_or l.stacks d 0 else 0) ≤ 15
    by true e = omega (arith, s.stacks d (ltb-true d 8 e), s.segments)
    by false e = omega arith

gate-domain : (l : Layout) → LayoutSound l → (segment : ℕ) → of_segment l.gatedomains segment < l.domains
gate-domain l s segment = by (ltb segment 16) refl
  where
    by : (t : Bool) → ltb segment 16 ≡ t → (if t then get_or l.gatedomains segment 0 else 0) < l.domains
    by true e = s.gatedomains segment (ltb-true segment 16 e)
    by false e = omega (arith, s.some-domains)

-- a return that passes its checks has a frame, and goes to a word that exists
pub leave-facts : (lengths rights : List ℕ) (depth : ℕ) (f : Frame) (s p : Pointer) → leave_check lengths rights depth f s p ≡ 0 → (1 ≤ depth) × (exists lengths p.segment p.word ≡ true)
unfolding leave_check
leave-facts lengths rights depth f s p e = by (leb 1 depth && same) refl e
  where
    same : Bool
    same = same_place p f.back && same_place s f.s

    by : (t : Bool) → (leb 1 depth && same) ≡ t → ◌≡◌ {A = ℕ} (if t then static_of lengths rights f.domain flag.Execute p.segment p.word else 32) 0 → (1 ≤ depth) × (exists lengths p.segment p.word ≡ true)
    by true q e = (leb-true 1 depth (both (leb 1 depth) same q).0, static-exists lengths rights f.domain flag.Execute p.segment p.word e)
    by false q e = absurd (omega arith)

module _ (m : Machine) (w : Whole m) where
  abbrev domains : ℕ
  domains = m.layout.domains

  abbrev s : Sound m
  s = w.sound

  live-sound : (1 ≤ m.depth) → FrameSound domains (live m)
  live-sound some = rw (in-use m.depth s.frames.most) (s.frames.used (m.depth - 1) (omega arith))

  pub live-held : LiveSound domains (in_use m.depth) (live m)
  live-held n = (live-sound (omega (arith, n, in-use m.depth s.frames.most))).used

  entered-whole : (p : Pointer) (f : Frame) → PointerSound p → m.depth < 8 → Framed domains f → Whole (entered m p f)
  unfolding entered
  entered-whole p f sp less sf =
      let d = of_segment m.layout.gatedomains p.segment in
      let a = s.pointers 0 (omega arith) in
      let on : PointersSound (with_tag m.pointers) =
      pointer-set m.pointers 0 (tagged (get_or m.pointers 0 no_pointer)) s.pointers (record { segment = a.segment; word = a.word }) in
      record {
        sound = record {
          layout = s.layout;
          gates = s.gates;
          registers = record { domain = gate-domain m.layout s.layout p.segment; segment = sp.segment; word = omega (arith, sp.word) };
          pointers = base-sound (with_tag m.pointers) _ on (stack-most m.layout s.layout d);
          frames = frame_pushed domains m.depth m.frames w.room s.frames f less sf.sound;
          recent = called-recent m.depth m.frames s.frames.most m.recent s.recent (rw w.room less) (get_or m.pointers 0 no_pointer) f
              sf.sound.some (rw sf.room sf.sound.count);
        };
        room = length-set m.frames m.depth f ∙ w.room;
      }

  left-whole : (q p : Pointer) → PointerSound p → 1 ≤ m.depth → Whole (left m q p (live m))
  unfolding left
  left-whole q p sp some =
      let f = live m in
      let sf = live-sound some in
      record {
        sound = record {
          layout = s.layout;
          gates = s.gates;
          registers = record { domain = sf.domain; segment = sp.segment; word = omega (arith, sp.word) };
          pointers = base-sound (set m.pointers 1 f.s) _ (pointer-set m.pointers 1 f.s s.pointers sf.s) (stack-most m.layout s.layout f.domain);
          frames = frame-popped domains m.depth m.frames w.room s.frames free_frame some free-frame;
          recent = left-recent m.depth m.frames s.frames.most m.recent s.recent some free_frame q;
        };
        room = length-set m.frames (m.depth - 1) free_frame ∙ w.room;
      }

  pub enter-whole : (read : Reader) (p : Pointer) → PointerSound p → m.depth < 8 → Says Whole (enter_of m read p)
  unfolding enter_of
  enter-whole read p sp less =
      says-bind (Framed domains) Whole (frame_for m read) _
      (frame-sound read (get_or m.pointers 0 no_pointer) domains m.registers.domain (in_use m.depth) (live m) s.registers.domain live-held
      (get_or m.pointers 1 no_pointer) (s.pointers 1 (omega arith)) (s.pointers 0 (omega arith)).segment)
      (λ f sf. entered-whole p f sp less sf)

  pub leave-whole : (q p : Pointer) → Says Whole (leave_of m q p)
  unfolding leave_of
  leave-whole q p = says-accept Whole (leave_number m p) (left m q p (live m)) back
    where
      back : leave_number m p ≡ 0 → Whole (left m q p (live m))
      back e =
          let f = leave-facts m.layout.lengths m.layout.rights (in_use m.depth) (live m) (get_or m.pointers 1 no_pointer) p e in
          let some : 1 ≤ m.depth = omega (arith, f.0, in-use m.depth s.frames.most) in
          left-whole q p (exists-sound m.layout.lengths p s.layout.lengths f.1) some
