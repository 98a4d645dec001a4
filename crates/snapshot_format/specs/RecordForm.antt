-- The machine record as 1,079 bytes: the fields of its structs in their order, the frames and a frame's capabilities after their number.
use Rattle.std.specs.Prelude.{ℕ, Bool, ◌&&◌, List, ◌++◌, leb, ltb, length, drop, if◌then◌else◌}
use Rattle.words.specs.Answer.{Answer, ok, ◌>>◌, require}
use Rattle.words.specs.Numbers.{output_too_short, not_sound}
use Rattle.words.specs.declared.pointer.Pointer.{Pointer}
use Rattle.state.specs.declared.record.Capability.{Capability}
use Rattle.state.specs.declared.record.Frame.{Frame}
use Rattle.state.specs.declared.record.Start.{Start}
use Rattle.state.specs.declared.record.Layout.{Layout}
use Rattle.state.specs.declared.record.Registers.{Registers}
use Rattle.state.specs.declared.record.Register.{Register}
use Rattle.state.specs.declared.record.Machine.{Machine}
use Rattle.state.specs.Record.{no_capability, free_frame}
use Rattle.soundness.specs.Sound.{sound_test}
use Rattle.snapshot_format.specs.Format.{Format, Shape, byte_form, pair_form, quad_form, flag_form, ◌then◌, rows_of, counted, seen_as}

-- word, segment, tag
abbrev pub pointer_shape : Shape (ℕ × (ℕ × Bool)) Pointer
pointer_shape = record { whole = λ p. record { word = p.0; segment = p.1.0; tag = p.1.1 }; parts = λ p. (p.word, (p.segment, p.tag)) }

abbrev pub pointer_form : Format Pointer
pointer_form = seen_as pointer_shape (pair_form then byte_form then flag_form)

-- word, length, segment, source, read, write
abbrev pub capability_shape : Shape (ℕ × (ℕ × (ℕ × (ℕ × (Bool × Bool))))) Capability
capability_shape = record { whole = λ p. record { word = p.0; length = p.1.0; segment = p.1.1.0; source = p.1.1.1.0; read = p.1.1.1.1.0; write = p.1.1.1.1.1 }; parts = λ c. (c.word, (c.length, (c.segment, (c.source, (c.read, c.write))))) }

abbrev pub capability_form : Format Capability
capability_form = seen_as capability_shape (pair_form then pair_form then byte_form then byte_form then flag_form then flag_form)

-- number of capabilities, nine capabilities, s, return location, calling domain
abbrev pub frame_shape : Shape ((ℕ × List Capability) × (Pointer × (Pointer × ℕ))) Frame
frame_shape = record { whole = λ p. record { capabilities = p.0.1; s = p.1.0; back = p.1.1.0; count = p.0.0; domain = p.1.1.1 }; parts = λ f. ((f.count, f.capabilities), (f.s, (f.back, f.domain))) }

abbrev pub frame_form : Format Frame
frame_form = seen_as frame_shape (counted 9 no_capability capability_form then pointer_form then pointer_form then byte_form)

-- word, segment, domain
abbrev pub start_shape : Shape (ℕ × (ℕ × ℕ)) Start
start_shape = record { whole = λ p. record { word = p.0; segment = p.1.0; domain = p.1.1 }; parts = λ s. (s.word, (s.segment, s.domain)) }

abbrev pub start_form : Format Start
start_form = seen_as start_shape (pair_form then byte_form then byte_form)

-- for each segment its length, for each its gates; the start; gate domains; stack segments; rights; numbers of segments and domains
abbrev pub layout_shape : Shape (List ℕ × (List ℕ × (Start × (List ℕ × (List ℕ × (List ℕ × (ℕ × ℕ))))))) Layout
layout_shape = record {
  whole = λ p. record {
    lengths = p.0;
    gates = p.1.0;
    start = p.1.1.0;
    gatedomains = p.1.1.1.0;
    stacks = p.1.1.1.1.0;
    rights = p.1.1.1.1.1.0;
    segments = p.1.1.1.1.1.1.0;
    domains = p.1.1.1.1.1.1.1;
  };
  parts = λ l. (l.lengths, (l.gates, (l.start, (l.gatedomains, (l.stacks, (l.rights, (l.segments, l.domains)))))));
}

abbrev pub layout_form : Format Layout
layout_form = seen_as layout_shape (rows_of 16 pair_form then rows_of 16 pair_form then start_form then rows_of 16 byte_form then rows_of 8 byte_form then rows_of 128 byte_form then byte_form then byte_form)

-- A, location (word, segment), executing domain
abbrev pub registers_shape : Shape (ℕ × (ℕ × (ℕ × ℕ))) Registers
registers_shape = record { whole = λ p. record { a = p.0; word = p.1.0; segment = p.1.1.0; domain = p.1.1.1 }; parts = λ r. (r.a, (r.word, (r.segment, r.domain))) }

abbrev pub registers_form : Format Registers
registers_form = seen_as registers_shape (quad_form then pair_form then byte_form then byte_form)

-- capability, frame number, recency
abbrev pub register_shape : Shape (Capability × (ℕ × ℕ)) Register
register_shape = record { whole = λ p. record { capability = p.0; frame = p.1.0; recency = p.1.1 }; parts = λ r. (r.capability, (r.frame, r.recency)) }

abbrev pub register_form : Format Register
register_form = seen_as register_shape (capability_form then byte_form then byte_form)

-- layout, registers, eight pointers, number of frames in use, eight frames, sixteen recent capabilities
abbrev pub record_shape : Shape (Layout × (Registers × (List Pointer × ((ℕ × List Frame) × List Register)))) Machine
record_shape = record {
  whole = λ p. record { layout = p.0; registers = p.1.0; pointers = p.1.1.0; frames = p.1.1.1.0.1; recent = p.1.1.1.1; depth = p.1.1.1.0.0 };
  parts = λ m. (m.layout, (m.registers, (m.pointers, ((m.depth, m.frames), m.recent))));
}

abbrev pub record_form : Format Machine
record_form = seen_as record_shape (layout_form then registers_form then rows_of 8 pointer_form then counted 8 free_frame frame_form then rows_of 16 register_form)

-- the record in some bytes, in each part of its format
unfoldable pub record_in : List ℕ → Machine
record_in bytes = record_form.value bytes 0

-- the sound record that bytes hold: 8 where they are fewer than 1,079, 9 where no sound record has these bytes
unfoldable pub held : List ℕ → Answer Machine
held bytes =
    require (leb 1079 (length bytes)) output_too_short >> require (record_form.proper bytes 0 && sound_test (record_in bytes)) not_sound >>
    ok (record_in bytes)

unfoldable pub record_bytes : Machine → List ℕ
record_bytes m = record_form.bytes m

-- bytes with a record in place of the first 1,079; those that are fewer stay
unfoldable pub with_record : List ℕ → Machine → List ℕ
with_record bytes m = if ltb (length bytes) 1079 then bytes else record_bytes m ++ drop 1079 bytes
