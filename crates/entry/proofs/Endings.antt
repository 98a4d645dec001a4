-- A run of an image ends as halted, faulted or spent.
use Prim.Native.Nat.{ℕ, zero, suc, ◌+◌, ◌≤◌}
use native.Mathlib.Omega.{arith}
use mathlib.Core.Bool.{false}
use mathlib.Core.List.{List}
use mathlib.Core.Path.{◌≡◌, subst}
use Rattle.words.specs.Answer.{Answer, refuse, ok, ◌>>=◌}
use Rattle.state.specs.declared.record.Machine.{Machine}
use Rattle.runs.specs.Step.{Completion, stopped, proceeded, crossing, Done, execute}
use Rattle.runs.specs.Run.{Ending, halted, spent, crossed, faulted, refused, after_completion, after, run_from}
use Rattle.image_format.specs.Image.{Image, image_of}
use Rattle.entry.specs.ImageRun.{Final, final_of, machine_run, image_run}
use Rattle.entry.specs.Entry.{ending_byte}
use Rattle.entry.specs.Statements.{EndingListed}

abbrev pub Listed : Ending → Type 0
Listed halted = Unit {0}
Listed spent = Unit {0}
Listed crossed = ⊥
Listed (faulted n) = Unit {0}
Listed (refused n) = ⊥

module _ (k n : ℕ) where
  by-event : (m : Machine) (words : List ℕ) (e : Completion) → Listed (run_from false k (n + 1) m words).ending
      → Listed (after_completion false (run_from false k (n + 1)) n m words e).ending
  by-event m words stopped h = tt
  by-event m words proceeded h = h
  by-event m words crossing h = h

  by_answer : (m : Machine) (words : List ℕ) (d : Answer Done) → ((m : Machine) (words : List ℕ) → Listed (run_from false k (n + 1) m words).ending)
      → Listed (after false (run_from false k (n + 1)) n m words d).ending
  by_answer m words (refuse f) h = tt
  by_answer m words (ok d) h = by-event d.machine d.words d.completion (h d.machine d.words)

run_ends : (k n : ℕ) (m : Machine) (words : List ℕ) → Listed (run_from false k n m words).ending
unfolding run_from
run_ends zero n m words = tt
run_ends (suc k) n m words = by_answer k n m words (execute m words) (run_ends k (n + 1))

ends_by : (limit : ℕ) (a : Answer Image) (r : Final) → (a >>= (λ i. ok (final_of (machine_run limit i)))) ≡ ok r → Listed r.ending
ends_by limit (refuse n) r e = absurd (let z : ◌≡◌ {A = ℕ} 0 1 = cc in omega arith)
ends_by limit (ok i) r e = subst (λ (x : Final). Listed x.ending) (let q : final_of (machine_run limit i) ≡ r = cc in q) (run_ends limit 0 _ _)

pub image-ends : (limit : ℕ) (bytes : List ℕ) (r : Final) → image_run limit bytes ≡ ok r → Listed r.ending
unfolding image_run
image-ends limit bytes r e = ends_by limit (image_of bytes) r e

byte-most : (e : Ending) → Listed e → ending_byte e ≤ 2
byte-most halted h = omega arith
byte-most spent h = omega arith
byte-most crossed h = absurd h
byte-most (faulted n) h = omega arith
byte-most (refused n) h = absurd h

-- the ending's byte is one of the three listed
pub ending-listed : EndingListed
ending-listed limit bytes r e = byte-most r.ending (image-ends limit bytes r e)
