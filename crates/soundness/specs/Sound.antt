-- When a machine record is sound (well-formed): every number is in its range, whatever is named exists, no gate is dead, unused rows are zero, and the registers of recent capabilities fit the frames.
use Rattle.std.specs.Prelude.{ℕ, ◌+◌, Bool, not, ◌&&◌, ◌||◌, List, ltb, leb, eqb, get_or, if◌then◌else◌}
use Rattle.words.specs.declared.pointer.Pointer.{Pointer}
use Rattle.state.specs.declared.record.Capability.{Capability}
use Rattle.state.specs.declared.record.Frame.{Frame}
use Rattle.state.specs.declared.record.Registers.{Registers}
use Rattle.state.specs.declared.record.Machine.{Machine}
use Rattle.state.specs.Record.{no_pointer, no_capability, no_frame}
use Rattle.recent.specs.SoundRegisters.{recent_test}
use Rattle.layout_soundness.specs.SoundLayout.{all_from, between, layout_test}

-- the executing domain exists; the location's segment need not, and its word is 0-4,096
unfoldable pub registers_test : ℕ → Registers → Bool
registers_test domains r = ltb r.domain domains && (leb r.segment 15 && leb r.word 4096)

unfoldable pub pointer_test : Pointer → Bool
pointer_test p = leb p.segment 15 && leb p.word 4095

unfoldable pub pointers_test : List Pointer → Bool
pointers_test ps = all_from 8 0 (λ i. pointer_test (get_or ps i no_pointer))

-- a capability that a mode word could have asked, with a source that exists
unfoldable pub capability_test : ℕ → Capability → Bool
capability_test domains c =
    leb c.segment 15 && (between 1 4096 c.length && (leb (c.word + c.length) 4096 && (ltb c.source domains && (c.read || c.write))))

-- rows of zeros
unfoldable pub empty_capability : Capability → Bool
empty_capability c =
    eqb c.word 0 && (eqb c.length 0 && (eqb c.segment 0 && (eqb c.source 0 && (not c.read && not c.write))))

unfoldable pub empty_pointer : Pointer → Bool
empty_pointer p = eqb p.word 0 && (eqb p.segment 0 && not p.tag)

unfoldable pub empty_frame : Frame → Bool
empty_frame f =
    eqb f.count 0 && (eqb f.domain 0 && (empty_pointer f.s && (empty_pointer f.back &&
    all_from 9 0 (λ j. empty_capability (get_or f.capabilities j no_capability)))))

-- a frame in use holds 1-9 capabilities, an untagged return location, and a calling domain that exists
unfoldable pub frame_test : ℕ → Frame → Bool
frame_test domains f =
    between 1 9 f.count && (ltb f.domain domains && (pointer_test f.s && (pointer_test f.back && (not f.back.tag &&
    all_from 9 0 (λ j. if ltb j f.count then capability_test domains (get_or f.capabilities j no_capability) else empty_capability (get_or f.capabilities j no_capability))))))

-- the first depth frames are in use
unfoldable pub frames_test : ℕ → ℕ → List Frame → Bool
frames_test domains depth fs =
    leb depth 8 && all_from 8 0 (λ i. if ltb i depth then frame_test domains (get_or fs i no_frame) else empty_frame (get_or fs i no_frame))

unfoldable pub sound_test : Machine → Bool
sound_test m =
    layout_test m.layout && (registers_test m.layout.domains m.registers && (pointers_test m.pointers &&
    (frames_test m.layout.domains m.depth m.frames && recent_test m.depth m.frames m.recent)))
