-- A sound machine record as facts, and the facts as the test.
use Rattle.std.specs.Prelude.{if◌then◌else◌}
use Prim.Native.Nat.{ℕ, ◌+◌, ◌<◌, ◌≤◌, ◌/◌, ◌%◌}
use native.Mathlib.Omega.{arith}
use mathlib.Core.Path.{◌≡◌, refl, ap}
use mathlib.Core.Bool.{Bool, true, false, not, ◌&&◌, ◌||◌}
use mathlib.Core.List.{List}
use borrow.Author.Tests.{ltb-true, ltb-false, leb-true, eqb-true, lt-ltb, le-ltb, le-leb, not-true}
use lib.Dec.{ltb, leb, eqb}
use lib.ListN.{get_or}
use Rattle.words.specs.declared.pointer.Pointer.{Pointer}
use Rattle.state.specs.declared.record.Layout.{Layout}
use Rattle.state.specs.declared.record.Capability.{Capability}
use Rattle.state.specs.declared.record.Frame.{Frame}
use Rattle.state.specs.declared.record.Registers.{Registers}
use Rattle.state.specs.declared.record.Machine.{Machine}
use Rattle.state.specs.Bases.{words_in}
use Rattle.state.specs.Record.{no_pointer, no_capability, no_frame}
use Rattle.recent.specs.SoundRegisters.{recent_test}
use Rattle.layout_soundness.specs.SoundLayout.{all_from, between, layout_test, ranges_test, segment_test, stack_test, rights_test, start_test}
use Rattle.soundness.specs.Sound.{registers_test, pointer_test, pointers_test, capability_test, empty_capability, empty_frame, frame_test, frames_test, sound_test}
use Rattle.layout_soundness.proofs.Tests.{both, join, bounds, inside, then-part, else-part, either-part}
use Rattle.layout_soundness.proofs.All.{each, all}
use Rattle.layout_soundness.proofs.Gates.{GatesSound, gates-facts, facts-gates}

pub record RegistersSound (domains : ℕ) (r : Registers) : Type 0 where
  pub domain : r.domain < domains
  pub segment : r.segment ≤ 15
  pub word : r.word ≤ 4096

pub registers-facts : (domains : ℕ) (r : Registers) → registers_test domains r ≡ true → RegistersSound domains r
unfolding registers_test
registers-facts domains r e =
    let t = both (ltb r.domain domains) _ e in
    let u = both (leb r.segment 15) _ t.1 in
    record { domain = ltb-true _ _ t.0; segment = leb-true _ _ u.0; word = leb-true _ _ u.1 }

pub facts-registers : (domains : ℕ) (r : Registers) → RegistersSound domains r → registers_test domains r ≡ true
unfolding registers_test
facts-registers domains r f = join (lt-ltb _ _ f.domain) (join (le-leb _ _ f.segment) (le-leb _ _ f.word))

pub record PointerSound (p : Pointer) : Type 0 where
  pub segment : p.segment ≤ 15
  pub word : p.word ≤ 4095

pub pointer-facts : (p : Pointer) → pointer_test p ≡ true → PointerSound p
unfolding pointer_test
pointer-facts p e = let t = both (leb p.segment 15) _ e in record { segment = leb-true _ _ t.0; word = leb-true _ _ t.1 }

pub facts-pointer : (p : Pointer) → PointerSound p → pointer_test p ≡ true
unfolding pointer_test
facts-pointer p f = join (le-leb _ _ f.segment) (le-leb _ _ f.word)

abbrev pub PointersSound : List Pointer → Type 0
PointersSound ps = (i : ℕ) → i < 8 → PointerSound (get_or ps i no_pointer)

pub pointers-facts : (ps : List Pointer) → pointers_test ps ≡ true → PointersSound ps
unfolding pointers_test
pointers-facts ps e i h = pointer-facts _ (each 8 (λ i. pointer_test (get_or ps i no_pointer)) e i h)

pub facts-pointers : (ps : List Pointer) → PointersSound ps → pointers_test ps ≡ true
unfolding pointers_test
facts-pointers ps f = all 8 (λ i. pointer_test (get_or ps i no_pointer)) (λ i h. facts-pointer _ (f i h))

pub record CapabilitySound (domains : ℕ) (c : Capability) : Type 0 where
  pub segment : c.segment ≤ 15
  pub some : 1 ≤ c.length
  pub most : c.length ≤ 4096
  pub end : c.word + c.length ≤ 4096
  pub source : c.source < domains
  pub flags : (c.read || c.write) ≡ true

pub capability-facts : (domains : ℕ) (c : Capability) → capability_test domains c ≡ true → CapabilitySound domains c
unfolding capability_test
capability-facts domains c e =
    let t = both (leb c.segment 15) _ e in
    let u = both (between 1 4096 c.length) _ t.1 in
    let v = both (leb (c.word + c.length) 4096) _ u.1 in
    let w = both (ltb c.source domains) _ v.1 in
    let b = bounds 1 4096 c.length u.0 in
    record { segment = leb-true _ _ t.0; some = b.0; most = b.1; end = leb-true _ _ v.0; source = ltb-true _ _ w.0; flags = w.1 }

pub facts-capability : (domains : ℕ) (c : Capability) → CapabilitySound domains c → capability_test domains c ≡ true
unfolding capability_test
facts-capability domains c f =
    join (le-leb _ _ f.segment) (join (inside f.some f.most) (join (le-leb _ _ f.end) (join (lt-ltb _ _ f.source) f.flags)))

pub record FrameSound (domains : ℕ) (f : Frame) : Type 0 where
  pub some : 1 ≤ f.count
  pub count : f.count ≤ 9
  pub domain : f.domain < domains
  pub s : PointerSound f.s
  pub back : PointerSound f.back
  pub untagged : f.back.tag ≡ false
  pub used : (j : ℕ) → j < f.count → CapabilitySound domains (get_or f.capabilities j no_capability)
  pub unused : (j : ℕ) → f.count ≤ j → j < 9 → empty_capability (get_or f.capabilities j no_capability) ≡ true

abbrev row_test : ℕ → ℕ → List Capability → ℕ → Bool
row_test domains count cs j = if ltb j count then capability_test domains (get_or cs j no_capability) else empty_capability (get_or cs j no_capability)

pub frame-facts : (domains : ℕ) (f : Frame) → frame_test domains f ≡ true → FrameSound domains f
unfolding frame_test
frame-facts domains f e =
    let t = both (between 1 9 f.count) _ e in
    let u = both (ltb f.domain domains) _ t.1 in
    let v = both (pointer_test f.s) _ u.1 in
    let w = both (pointer_test f.back) _ v.1 in
    let x = both (not f.back.tag) _ w.1 in
    let b = bounds 1 9 f.count t.0 in
    let rows = each 9 (row_test domains f.count f.capabilities) x.1 in
    record {
      some = b.0;
      count = b.1;
      domain = ltb-true _ _ u.0;
      s = pointer-facts _ v.0;
      back = pointer-facts _ w.0;
      untagged = not-true _ x.0;
      used = λ j h. capability-facts _ _ (then-part _ (lt-ltb _ _ h) (rows j (omega arith)));
      unused = λ j h l. else-part _ (le-ltb _ _ h) (rows j l);
    }

pub facts-frame : (domains : ℕ) (f : Frame) → FrameSound domains f → frame_test domains f ≡ true
unfolding frame_test
facts-frame domains f s =
    join (inside s.some s.count) (join (lt-ltb _ _ s.domain) (join (facts-pointer _ s.s) (join (facts-pointer _ s.back) (join (ap not s.untagged)
    (all 9 (row_test domains f.count f.capabilities) (λ j h. either-part (ltb j f.count) (λ t. facts-capability _ _ (s.used j (ltb-true _ _ t))) (λ t. s.unused j (ltb-false _ _ t) h)))))))

pub record FramesSound (domains depth : ℕ) (fs : List Frame) : Type 0 where
  pub most : depth ≤ 8
  pub used : (i : ℕ) → i < depth → FrameSound domains (get_or fs i no_frame)
  pub unused : (i : ℕ) → depth ≤ i → i < 8 → empty_frame (get_or fs i no_frame) ≡ true

abbrev place_test : ℕ → ℕ → List Frame → ℕ → Bool
place_test domains depth fs i = if ltb i depth then frame_test domains (get_or fs i no_frame) else empty_frame (get_or fs i no_frame)

pub frames-facts : (domains depth : ℕ) (fs : List Frame) → frames_test domains depth fs ≡ true → FramesSound domains depth fs
unfolding frames_test
frames-facts domains depth fs e =
    let t = both (leb depth 8) _ e in
    let most = leb-true _ _ t.0 in
    let places = each 8 (place_test domains depth fs) t.1 in
    record {
      most = most;
      used = λ i h. frame-facts _ _ (then-part _ (lt-ltb _ _ h) (places i (omega arith)));
      unused = λ i h l. else-part _ (le-ltb _ _ h) (places i l);
    }

pub facts-frames : (domains depth : ℕ) (fs : List Frame) → FramesSound domains depth fs → frames_test domains depth fs ≡ true
unfolding frames_test
facts-frames domains depth fs s =
    join (le-leb _ _ s.most) (all 8 (place_test domains depth fs) (λ i h. either-part (ltb i depth) (λ t. facts-frame _ _ (s.used i (ltb-true _ _ t))) (λ t. s.unused i (ltb-false _ _ t) h)))

-- rows past the counts are zero, so most bounds hold of every row
pub record LayoutSound (l : Layout) : Type 0 where
  pub tested : ranges_test l ≡ true
  pub some-segments : 1 ≤ l.segments
  pub segments : l.segments ≤ 16
  pub some-domains : 1 ≤ l.domains
  pub domains : l.domains ≤ 8
  pub words : words_in l.lengths ≤ 8192
  pub lengths : (i : ℕ) → i < 16 → get_or l.lengths i 0 ≤ 4096
  pub used : (i : ℕ) → i < l.segments → 1 ≤ get_or l.lengths i 0
  pub unused : (i : ℕ) → l.segments ≤ i → i < 16 → get_or l.lengths i 0 ≡ 0
  pub gates : (i : ℕ) → i < 16 → get_or l.gates i 0 ≤ get_or l.lengths i 0
  pub gatedomains : (i : ℕ) → i < 16 → get_or l.gatedomains i 0 < l.domains
  pub stacks : (d : ℕ) → d < 8 → get_or l.stacks d 0 < l.segments
  pub rights : (i : ℕ) → i < 128 → get_or l.rights i 0 ≤ 15
  pub start-domain : l.start.domain < l.domains
  pub start-segment : l.start.segment < l.segments
  pub start_word : l.start.word ≤ 4095

-- a segment's row: its length n with g gates into domain d
record RowSound (segments domains i n g d : ℕ) : Type 0 where
  length : n ≤ 4096
  used : i < segments → 1 ≤ n
  unused : segments ≤ i → n ≡ 0
  gates : g ≤ n
  domain : d < domains

segment-facts : (segments domains i n g d : ℕ) → 1 ≤ domains → segment_test segments domains i n g d ≡ true → RowSound segments domains i n g d
unfolding segment_test
segment-facts segments domains i n g d some e = by (ltb i segments) refl
  where
    by : (t : Bool) → ltb i segments ≡ t → RowSound segments domains i n g d
    by true p =
        let t = both (between 1 4096 n) _ (then-part _ p e) in
        let u = both (leb g n) _ t.1 in
        let b = bounds 1 4096 n t.0 in
        let h = ltb-true i segments p in
        record { length = b.1; used = λ _. b.0; unused = λ l. absurd (omega arith); gates = leb-true _ _ u.0; domain = ltb-true _ _ u.1 }
    by false p =
        let t = both (eqb n 0) _ (else-part _ p e) in
        let u = both (eqb g 0) _ t.1 in
        let z = eqb-true n 0 t.0 in
        let y = eqb-true g 0 u.0 in
        let x = eqb-true d 0 u.1 in
        let h = ltb-false i segments p in
        record { length = omega arith; used = λ l. absurd (omega arith); unused = λ _. z; gates = omega arith; domain = omega arith }

stack-facts : (segments domains i stack : ℕ) → 1 ≤ segments → stack_test segments domains i stack ≡ true → stack < segments
unfolding stack_test
stack-facts segments domains i stack some e = by (ltb i domains) refl
  where
    by : (t : Bool) → ltb i domains ≡ t → stack < segments
    by true p = ltb-true _ _ (then-part _ p e)
    by false p = let z = eqb-true stack 0 (else-part _ p e) in omega arith

rights-facts : (segments domains i rights : ℕ) → rights_test segments domains i rights ≡ true → rights ≤ 15
unfolding rights_test
rights-facts segments domains i rights e = by (ltb (i / 16) domains && ltb (i % 16) segments) refl
  where
    by : (t : Bool) → (ltb (i / 16) domains && ltb (i % 16) segments) ≡ t → rights ≤ 15
    by true p = leb-true _ _ (then-part _ p e)
    by false p = let z = eqb-true rights 0 (else-part _ p e) in omega arith

abbrev segment_at : Layout → ℕ → Bool
segment_at l i = segment_test l.segments l.domains i (get_or l.lengths i 0) (get_or l.gates i 0) (get_or l.gatedomains i 0)

abbrev stack_at : Layout → ℕ → Bool
stack_at l i = stack_test l.segments l.domains i (get_or l.stacks i 0)

abbrev rights_at : Layout → ℕ → Bool
rights_at l i = rights_test l.segments l.domains i (get_or l.rights i 0)

abbrev RowAt : Layout → ℕ → Type 0
RowAt l i = RowSound l.segments l.domains i (get_or l.lengths i 0) (get_or l.gates i 0) (get_or l.gatedomains i 0)

pub layout-facts : (l : Layout) → ranges_test l ≡ true → LayoutSound l
unfolding ranges_test start_test
layout-facts l e =
    let t = both (between 1 16 l.segments) _ e in
    let u = both (between 1 8 l.domains) _ t.1 in
    let v = both (all_from 16 0 (segment_at l)) _ u.1 in
    let w = both (leb (words_in l.lengths) 8192) _ v.1 in
    let x = both (all_from 8 0 (stack_at l)) _ w.1 in
    let y = both (all_from 128 0 (rights_at l)) _ x.1 in
    let d = both (ltb l.start.domain l.domains) _ y.1 in
    let s = both (ltb l.start.segment l.segments) _ d.1 in
    let segments = bounds 1 16 l.segments t.0 in
    let domains = bounds 1 8 l.domains u.0 in
    let row : (i : ℕ) → i < 16 → RowAt l i = λ i h. segment-facts _ _ _ _ _ _ domains.0 (each 16 (segment_at l) v.0 i h) in
    record {
      tested = e;
      some-segments = segments.0;
      segments = segments.1;
      some-domains = domains.0;
      domains = domains.1;
      words = leb-true _ _ w.0;
      lengths = λ i h. (row i h).length;
      used = λ i h. (row i (omega arith)).used h;
      unused = λ i n h. (row i h).unused n;
      gates = λ i h. (row i h).gates;
      gatedomains = λ i h. (row i h).domain;
      stacks = λ i h. stack-facts _ l.domains i _ segments.0 (each 8 (stack_at l) x.0 i h);
      rights = λ i h. rights-facts l.segments l.domains i _ (each 128 (rights_at l) y.0 i h);
      start-domain = ltb-true _ _ d.0;
      start-segment = ltb-true _ _ s.0;
      start_word = leb-true _ _ s.1;
    }

pub record Sound (m : Machine) : Type 0 where
  pub layout : LayoutSound m.layout
  pub gates : GatesSound m.layout.gates m.layout.gatedomains m.layout.rights
  pub registers : RegistersSound m.layout.domains m.registers
  pub pointers : PointersSound m.pointers
  pub frames : FramesSound m.layout.domains m.depth m.frames
  pub recent : recent_test m.depth m.frames m.recent ≡ true

pub sound-facts : (m : Machine) → sound_test m ≡ true → Sound m
unfolding sound_test layout_test
sound-facts m e =
    let t = both (layout_test m.layout) _ e in
    let l = both (ranges_test m.layout) _ t.0 in
    let u = both (registers_test m.layout.domains m.registers) _ t.1 in
    let v = both (pointers_test m.pointers) _ u.1 in
    let w = both (frames_test m.layout.domains m.depth m.frames) _ v.1 in
    record {
      layout = layout-facts _ l.0;
      gates = gates-facts _ _ _ l.1;
      registers = registers-facts _ _ u.0;
      pointers = pointers-facts _ v.0;
      frames = frames-facts _ _ _ w.0;
      recent = w.1;
    }

pub facts-sound : (m : Machine) → Sound m → sound_test m ≡ true
unfolding sound_test layout_test
facts-sound m s =
    join (join s.layout.tested (facts-gates _ _ _ s.gates))
    (join (facts-registers _ _ s.registers) (join (facts-pointers _ s.pointers) (join (facts-frames _ _ _ s.frames) s.recent)))
