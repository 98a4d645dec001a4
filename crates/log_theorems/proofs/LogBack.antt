-- The bytes of a log give its crossings back.
use Prim.Native.Nat.{ℕ, zero, suc, ◌+◌, ◌*◌, ◌<◌}
use native.Mathlib.Omega.{arith}
use native.Mathlib.Nat.{add-zero}
use mathlib.Core.List.{List, [], ◌∷◌, ◌++◌, append_assoc}
use mathlib.Core.Path.{◌≡◌, refl, sym, ap, ◌∙◌}
use lib.ListN.{length, get_or, drop}
use lib.Seq.{get_or-drop, drop-drop}
use Rattle.words.specs.Answer.{Answer, refuse, ok}
use Rattle.state.specs.declared.record.Machine.{Machine}
use Rattle.soundness.proofs.Facts.{sound-facts}
use Rattle.runs.specs.Step.{Completion, stopped, proceeded, crossing, Done, execute}
use Rattle.executions.specs.Statements.{SoundRecord}
use Rattle.executions.proofs.Sound.{step-sound}
use Rattle.image_format.specs.Bytes.{pair_bytes, joined}
use Rattle.image_format.specs.Image.{rows_from}
use Rattle.image_format.specs.Output.{written}
use Rattle.image_format.proofs.Written.{written_start}
use Rattle.roundtrips.proofs.Good.{All}
use Rattle.crossing_log.specs.Crossings.{Kind, call, return, Crossing, then_crossings, crossings_after, crossings_of}
use Rattle.crossing_log.specs.Log.{kind_byte, crossing_bytes, of_kind, logged_of, log_judged, log_call}
use Rattle.crossing_log.proofs.JudgeLaws.{judged-fit}
use Rattle.log_theorems.proofs.Crossings.{log-totals}
use Rattle.log_theorems.specs.ReadBack.{byte_kind, crossing_at, records_in}
use Rattle.log_theorems.specs.Statements.{LogReadBack, LogCounted}

-- a word that two bytes hold
abbrev pub Small : Crossing → Type 0
Small c = c.word < 65536

kind-back : (k : Kind) → byte_kind (kind_byte k) ≡ k
kind-back call = refl
kind-back return = refl

module _ (log : List ℕ) where
  -- one record
  record-back : (at : ℕ) (c : Crossing) (rest : List ℕ) → drop at log ≡ crossing_bytes c ++ rest → Small c → crossing_at log at ≡ c
  unfolding pair_bytes
  record-back at c rest e h =
      let there : (j : ℕ) → get_or log (at + j) 0 ≡ get_or (crossing_bytes c ++ rest) j 0 = λ j. sym (get_or-drop at log j 0) ∙ ap (λ (l : List ℕ). get_or l j 0) e in
      let zeroth : get_or log at 0 ≡ kind_byte c.kind = ap (λ (k : ℕ). get_or log k 0) (sym (add-zero at)) ∙ there 0 in
      let word : get_or log (at + 4) 0 + get_or log (at + 5) 0 * 256 ≡ c.word = omega (arith, there 4, there 5, h) in
      λ i. record { kind = (ap byte_kind zeroth ∙ kind-back c.kind) i; left = there 1 i; entered = there 2 i; segment = there 3 i; word = word i }

  -- those from row i on
  rows_back : (i : ℕ) (cs : List Crossing) (rest : List ℕ) → drop (i * 6) log ≡ joined crossing_bytes cs ++ rest → All Small cs
      → rows_from (λ i. crossing_at log (i * 6)) i (length cs) ≡ cs
  unfolding rows_from joined pair_bytes
  rows_back i [] rest e h = refl
  rows_back i (c ∷ cs) rest e h =
      let one = record-back (i * 6) c (joined crossing_bytes cs ++ rest) (e ∙ append_assoc (crossing_bytes c) (joined crossing_bytes cs) rest) h.0 in
      let next : drop ((i + 1) * 6) log ≡ joined crossing_bytes cs ++ rest =
      ap (λ (k : ℕ). drop k log) (let z : (i + 1) * 6 ≡ i * 6 + 6 = omega arith in z) ∙ sym (drop-drop 6 (i * 6) log) ∙ ap (drop 6) e in
      let more = rows_back (i + 1) cs rest next h.1 in
      λ j. one j ∷ more j

-- the crossings that are written into a log
pub records-back : (log : List ℕ) (cs : List Crossing) → All Small cs → records_in (length cs) (written log 0 (joined crossing_bytes cs)) ≡ cs
records-back log cs h = rows_back (written log 0 (joined crossing_bytes cs)) 0 cs _ (written_start log (joined crossing_bytes cs)) h

-- a sound record's word is small, so those of a run's crossings are
module _ (k : ℕ) (more : (m : Machine) (words : List ℕ) → SoundRecord m → All Small (crossings_of k m words)) where
  small-event : (m n : Machine) (words : List ℕ) → SoundRecord n → (e : Completion) → All Small (then_crossings (crossings_of k) m n words e)
  small-event m n words s stopped = tt
  small-event m n words s proceeded = more n words s
  small-event m n words s crossing = (omega (arith, (sound-facts n s.0).registers.word), more n words s)

  small-after : (m : Machine) (words : List ℕ) → SoundRecord m → (e : Answer Done) → execute m words ≡ e → All Small (crossings_after (crossings_of k) m e)
  small-after m words s (refuse f) q = tt
  small-after m words s (ok d) q = small-event m d.machine d.words (step-sound m words s d q) d.completion

pub crossings-small : (k : ℕ) (m : Machine) (words : List ℕ) → SoundRecord m → All Small (crossings_of k m words)
unfolding crossings_of
crossings-small zero m words s = tt
crossings-small (suc k) m words s = small-after k (crossings-small k) m words s (execute m words) refl

-- so the log of a call that is not refused gives back the crossings of its run
pub log-read-back : LogReadBack
unfolding log_call logged_of
log-read-back m words log fit rows =
    let s = judged-fit m words log fit in
    let cs = crossings_of 1000 m words in
    rw fit (ap (λ (n : ℕ). records_in n (written log 0 (joined crossing_bytes cs))) (log-totals cs) ∙ records-back log cs (crossings-small 1000 m words (s.0, rows)))

totals-are : (m : Machine) (words log : List ℕ) → log_judged m words log ≡ 0
    → (of_kind call (crossings_of 1000 m words) ≡ (log_call m words log).calls) × (of_kind return (crossings_of 1000 m words) ≡ (log_call m words log).returns)
unfolding log_call logged_of
totals-are m words log fit = rw fit (refl, refl)

pub log-counted : LogCounted
log-counted m words log fit rows =
    let back = log-read-back m words log fit rows in
    let t = totals-are m words log fit in
    (ap (of_kind call) back ∙ t.0, ap (of_kind return) back ∙ t.1)
