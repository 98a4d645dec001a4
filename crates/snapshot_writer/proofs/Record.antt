-- The numbers of bytes of a record's parts, and the record put part by part.
use Prim.Native.Nat.{ℕ, zero, suc, ◌+◌, ◌<◌, ◌≤◌}
use native.Mathlib.Omega.{arith}
use native.Mathlib.Nat.{le_of_suc-le-suc}
use mathlib.Core.Path.{◌≡◌, refl, sym, ap, ◌∙◌}
use mathlib.Core.List.{List, [], ◌∷◌, ◌++◌}
use lib.ListN.{length, get_or, drop, length-append}
use lib.Seq.{sets, sets-eq}
use mir.Val.{Val}
use base.Fml.{Fml}
use denote.Array.{each}
use denote.Shadow.{shadow}
use denote.Struct.Declared.{row}
use Rattle.state.specs.declared.record.Frame.{Frame}
use Rattle.state.specs.declared.record.Machine.{Machine}
use Rattle.state.specs.contracts.record.Frame.{the_type, the_row}
use Rattle.state.specs.Record.{no_capability, no_pointer, no_frame, free_frame, no_register}
use Rattle.snapshot_format.specs.Format.{byte_form, pair_form, counted}
use Rattle.image_format.specs.Bytes.{joined}
use Rattle.snapshot_format.specs.RecordForm.{pointer_form, capability_form, frame_form, layout_form, registers_form, register_form, record_form, record_bytes}
use Rattle.snapshot_format.specs.Statements.{FullArrays}
use Rattle.snapshot_writer.proofs.Laws.{Sized, follows, rows-size, rows-follow, counted-size}

-- each frame of an array has nine rows, where owning a frame tells that it has
module _ (own : Frame → List Val → Fml) (nine : (f : Frame) (u : Val) → shadow (own f (u ∷ [])) → length f.capabilities ≡ 9) where
  rows_at : (xs : List Frame) (us : List Val) → shadow (each Frame own xs us) → (k : ℕ) → k < length xs → length (get_or xs k no_frame).capabilities ≡ 9
  rows_at [] us g k h = absurd (omega arith)
  rows_at (x ∷ xs) [] g k h = absurd g
  rows_at (x ∷ xs) (u ∷ us) g zero h = nine x u g.0
  rows_at (x ∷ xs) (u ∷ us) g (suc k) h = rows_at xs us g.1 k (le_of_suc-le-suc h)

-- of a field, and of a parameter
module _ (xs : List Frame) (us : List Val) where
  pub field-rows : shadow (each the_row.Denot the_row.own_val xs us) → (k : ℕ) → k < length xs → length (get_or xs k no_frame).capabilities ≡ 9
  field-rows g = rows_at the_row.own_val (λ f u o. o.1.1.0.1.0.1) xs us g

  pub value-rows : shadow (each Frame (row the_type).own_val xs us) → (k : ℕ) → k < length xs → length (get_or xs k no_frame).capabilities ≡ 9
  value-rows g = rows_at (row the_type).own_val (λ f u o. o.1.1.0.1.0.1) xs us g

pub frame-size : (f : Frame) → length f.capabilities ≡ 9 → length (frame_form.bytes f) ≡ 82
frame-size f h =
    let rows = (counted 9 no_capability capability_form).bytes (f.count, f.capabilities) in
    let rest = pointer_form.bytes f.s ++ (pointer_form.bytes f.back ++ (f.domain ∷ [])) in
    length-append rows rest ∙
    ap (λ (k : ℕ). k + length rest) (counted-size 9 no_capability capability_form no_capability f.capabilities (λ k b. refl) h f.count)

module _ (m : Machine) (a : FullArrays m) where
  layout-size : length (layout_form.bytes m.layout) ≡ 222
  layout-size =
      let l = m.layout in
      simp length-append
      (omega (arith, rows-size pair_form 0 l.lengths 16 (λ k h. refl) a.lengths, rows-size pair_form 0 l.gates 16 (λ k h. refl) a.gates, rows-size byte_form 0 l.gatedomains 16 (λ k h. refl) a.gatedomains, rows-size byte_form 0 l.stacks 8 (λ k h. refl) a.stacks, rows-size byte_form 0 l.rights 128 (λ k h. refl) a.rights))

  frames-sized : Sized frame_form no_frame m.frames
  frames-sized k h = frame-size (get_or m.frames k no_frame) (a.capabilities k (omega (arith, a.frames)))

  frames-size : length ((counted 8 free_frame frame_form).bytes (m.depth, m.frames)) ≡ 657
  frames-size = counted-size 8 free_frame frame_form no_frame m.frames frames-sized a.frames m.depth

  -- what stands after the pointers, and after the registers
  abbrev last : List ℕ
  last = (counted 8 free_frame frame_form).bytes (m.depth, m.frames) ++ joined register_form.bytes m.recent

  abbrev rest : List ℕ
  rest = joined pointer_form.bytes m.pointers ++ last

  last-size : length last ≡ 817
  last-size =
      length-append ((counted 8 free_frame frame_form).bytes (m.depth, m.frames)) (joined register_form.bytes m.recent) ∙
      (λ j. frames-size j + rows-size register_form no_register m.recent 16 (λ k h. refl) a.recent j)

  record-size : length (record_form.bytes m) ≡ 1079
  record-size =
      length-append (layout_form.bytes m.layout) (registers_form.bytes m.registers ++ rest) ∙
      (let p = length-append (joined pointer_form.bytes m.pointers) last in
      let e : length (layout_form.bytes m.layout) + length (registers_form.bytes m.registers ++ rest) ≡ 1079 = omega (arith, layout-size, p, rows-size pointer_form no_pointer m.pointers 8 (λ k h. refl) a.pointers, last-size) in e)

  pub record-put : (o : List ℕ) {o1 o2 o3 o4 o5 : List ℕ} → 1079 ≤ length o → o1 ≡ sets o 0 (layout_form.bytes m.layout) → o2 ≡ sets o1 222 (registers_form.bytes m.registers)
      → o3 ≡ sets o2 230 (joined pointer_form.bytes m.pointers) → o4 ≡ sets o3 262 ((counted 8 free_frame frame_form).bytes (m.depth, m.frames))
      → o5 ≡ sets o4 919 (joined register_form.bytes m.recent) → o5 ≡ record_bytes m ++ drop 1079 o
  unfolding record_bytes
  record-put o {o1} {o2} {o3} {o4} {o5} h e1 e2 e3 e4 e5 =
      let frames = (counted 8 free_frame frame_form).bytes (m.depth, m.frames) in
      let all : o5 ≡ sets o 0 (record_form.bytes m) =
      follows o 0 (layout_form.bytes m.layout) (registers_form.bytes m.registers ++ rest) 222 e1 (sym (ap (λ (k : ℕ). 0 + k) layout-size))
      (follows o1 222 (registers_form.bytes m.registers) rest 230 e2 refl
      (rows-follow pointer_form no_pointer o2 230 m.pointers last 8 (λ k b. refl) a.pointers e3
      (follows o3 262 frames (joined register_form.bytes m.recent) 919 e4 (sym (ap (λ (k : ℕ). 262 + k) frames-size)) e5))) in
      all ∙ sets-eq (record_form.bytes m) o 0 (omega (arith, record-size)) ∙ ap (λ (k : ℕ). record_form.bytes m ++ drop (0 + k) o) record-size
