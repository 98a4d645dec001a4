-- What is judged before a run of a record whose unused frames are zeros.
use Prim.Native.Nat.{ℕ, ◌<◌, ◌≤◌}
use native.Mathlib.Omega.{arith}
use mathlib.Core.Bool.{Bool, true, false}
use mathlib.Core.List.{List}
use mathlib.Core.Path.{◌≡◌, refl, sym, ◌∙◌}
use borrow.Author.Tests.{leb-true, le-leb, le-ltb}
use lib.Dec.{leb}
use lib.ListN.{length, get_or}
use Rattle.words.specs.Answer.{◌>>◌, require, number_of}
use Rattle.words.specs.Refusal.{number}
use Rattle.words.specs.declared.refusal.Refusal.{Refusal}
use Rattle.words.proofs.Results.{number-ne_0}
use Rattle.state.specs.declared.record.Machine.{Machine}
use Rattle.state.specs.Record.{no_frame, free_frame}
use Rattle.layout_soundness.specs.SoundLayout.{all_from}
use Rattle.layout_soundness.proofs.All.{each, all}
use Rattle.layout_soundness.proofs.Tests.{both}
use Rattle.soundness.specs.Sound.{empty_pointer, empty_capability, empty_frame, frame_test, frames_test}
use Rattle.soundness.proofs.Facts.{frame-facts, facts-frame, frames-facts, facts-frames}
use Rattle.snapshot_format.specs.Format.{Format, counted, rows_of}
use Rattle.snapshot_format.specs.RecordForm.{record_form, layout_form, registers_form, pointer_form, frame_form, record_in}
use Rattle.snapshot_format.proofs.Fill.{tabulate-at}
use Rattle.snapshot_reader.specs.Formed.{formed, record_or}
use Rattle.runs.specs.Run.{Ran, ran, refused, judged, called_of, judged_run}
use Rattle.held_runs.specs.Private.{UnusedFree}

-- of rows in the bytes of a value, those not in use hold none
counted-facts : {A : Type 0} (n : ℕ) (none d : A) (f : Format A) (b : List ℕ) (i : ℕ) → (counted n none f).proper b i ≡ true
    → (get_or b i 0 ≤ n) × ((k : ℕ) → get_or b i 0 ≤ k → k < n → get_or ((counted n none f).value b i).1 k d ≡ none)
counted-facts n none d f b i e =
    (leb-true _ _ (both (leb (get_or b i 0) n) _ e).0, λ k l h. tabulate-at _ d n k h ∙ simp (le-ltb _ _ l))

free_in : (bytes : List ℕ) → record_form.proper bytes 0 ≡ true → UnusedFree (record_in bytes)
unfolding record_in
free_in bytes e =
    let l = both (layout_form.proper bytes 0) _ e in
    let r = both (registers_form.proper bytes 222) _ l.1 in
    let p = both ((rows_of 8 pointer_form).proper bytes _) _ r.1 in
    let c = both ((counted 8 free_frame frame_form).proper bytes _) _ p.1 in
    let t = counted-facts 8 free_frame no_frame frame_form bytes _ c.0 in
    record { most = t.0; free = t.1 }

passed : (long proper : Bool) → 0 ≡ number_of (require long 8 >> require proper 9) → (long ≡ true) × (proper ≡ true)
passed true true q = (refl, refl)
passed true false q = absurd (omega arith)
passed false proper q = absurd (omega arith)

pub unused-free : (bytes : List ℕ) (m : Machine) → 0 ≡ number_of (formed bytes) → m ≡ record_or bytes → UnusedFree m
unfolding formed record_or
unused-free bytes m q is =
    let t = passed (leb 1079 (length bytes)) (record_form.proper bytes 0) q in
    rw (is, t.0) (free_in bytes t.1)

same : (a b : Bool) → (a ≡ true → b ≡ true) → (b ≡ true → a ≡ true) → a ≡ b
same true b f g = sym (f refl)
same false true f g = g refl
same false false f g = refl

empty-free : empty_frame free_frame ≡ true
unfolding empty_frame empty_pointer empty_capability all_from
empty-free = refl

-- the frames in use alone are to be tested
pub frames-in-use : (m : Machine) (domains : ℕ) → UnusedFree m → all_from m.depth 0 (λ i. frame_test domains (get_or m.frames i no_frame)) ≡ frames_test domains m.depth m.frames
frames-in-use m domains u =
    same _ _
    (λ e. facts-frames _ _ _ (record { most = u.most; used = λ i h. frame-facts _ _ (each _ (λ i. frame_test domains (get_or m.frames i no_frame)) e i h); unused = λ i l h. rw (u.free i l h) empty-free }))
    (λ e. all _ (λ i. frame_test domains (get_or m.frames i no_frame)) (λ i h. facts-frame _ _ ((frames-facts _ _ _ e).used i h)))

-- a call is refused, or is the run of what was judged
module _ (run : Machine → List ℕ → Ran) (m : Machine) (words : List ℕ) where
  pub called-refused : (e : Refusal) → number e ≡ judged m words → ran m words 0 (refused (number e)) ≡ called_of run m words
  unfolding called_of
  called-refused e q = simp (← q, number-ne_0 e) refl

  pub called-judged : 0 ≡ judged m words → m.depth ≤ 8 → judged_run run m words ≡ called_of run m words
  unfolding called_of judged_run
  called-judged q d = simp (← q, le-leb _ _ d) refl
