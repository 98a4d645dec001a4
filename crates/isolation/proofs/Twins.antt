-- Twins: one instruction of one record over two memories that agree on what the executing domain may see.
use Prim.Native.Nat.{ℕ}
use mathlib.Core.List.{List, [], ◌∷◌}
use mathlib.Core.Path.{◌≡◌, refl}
use lib.ListN.{set}
use Rattle.words.specs.Answer.{Answer, refuse, ok, ◌>>=◌}
use Rattle.words.specs.declared.pointer.Pointer.{Pointer}
use Rattle.state.specs.declared.record.Register.{Register}
use Rattle.state.specs.declared.record.Machine.{Machine}
use Rattle.references.specs.declared.flag.Access.TheVariants as access
use Rattle.references.specs.Check.{check}
use Rattle.memory.specs.Reader.{Reader, read_word, fetch}
use Rattle.runs.specs.Step.{Act, stop, proceed, put, cross, Done, done, stopped, proceeded, crossing, moved_to, commit}
use Rattle.executions.proofs.Says.{Says}
use Rattle.executions.proofs.Fit.{Fits, Fit, GoesFit}
use Rattle.isolation.specs.Stores.{Store, stores_through, stores_by, stored_all, Each}
use Rattle.isolation.specs.Isolation.{Agree, Writable}
use Rattle.isolation.proofs.Unseen.{written-there}
use Rattle.isolation.proofs.Sees.{same-reader, same-fetch, target}
use Rattle.isolation.proofs.Stretch.{GoesOn, execute_with, made_with}

-- P is told what each of the two instructions stored and how it ended. What holds of two equal faults, halts and crossings, and of two
-- moves that made the same stores in words that the domain could write, holds of the two instructions;
-- decide may be any function of the record, the fetched word and the reader that goes on with registers that fit
module _ (decide : Machine → Answer ℕ → Reader → Answer Act) (goes : GoesOn decide) (m : Machine) (f : Fit m) (w v : List ℕ)
    (P : List Store → List Store → Answer Done → Answer Done → Type 0) where
  pub record Cases : Type 0 where
    pub faults : (f : ℕ) → P [] [] (refuse f) (refuse f)
    pub stops : P [] [] (ok (done m w stopped)) (ok (done m v stopped))
    pub moves : (a s o : ℕ) (ps : List Pointer) (rs : List Register) → Fits m rs → (made : List Store) → Each (Writable m) made
        → P made made (ok (done (moved_to m a s o ps rs) (stored_all m.layout.lengths w made) proceeded))
        (ok (done (moved_to m a s o ps rs) (stored_all m.layout.lengths v made) proceeded))
    pub crosses : (fetched : Answer ℕ) (read : Reader) (n : Machine) → decide m fetched read ≡ ok (cross n)
        → P [] [] (ok (done n w crossing)) (ok (done n v crossing))

  module _ (cases : Cases) where
    puts : (a s o : ℕ) (ps : List Pointer) (rs : List Register) → Fits m rs → (p : Pointer) (z : ℕ) (x : Answer ℕ) → check m access.Write p ≡ x
        → P (stores_through p z x) (stores_through p z x)
        (x >>= (λ i. ok (done (moved_to m a s o ps rs) (set w i z) proceeded))) (x >>= (λ i. ok (done (moved_to m a s o ps rs) (set v i z) proceeded)))
    unfolding stored_all Each
    puts a s o ps rs h p z (refuse n) e = cases.faults n
    puts a s o ps rs h p z (ok i) e =
        let t = target m f p i e in
        rw t.0 (cases.moves a s o ps rs h (record { segment = p.segment; word = p.word; value = z } ∷ [])
        ((written-there m p.segment p.word t.1, t.1), tt))

    acts : (fetched : Answer ℕ) (read : Reader) (d : Answer Act) → decide m fetched read ≡ d → Says (GoesFit m) d
        → P (stores_by m d) (stores_by m d) (d >>= commit m w) (d >>= commit m v)
    unfolding commit stored_all Each
    acts fetched read (refuse n) e h = cases.faults n
    acts fetched read (ok stop) e h = cases.stops
    acts fetched read (ok (proceed a s o ps rs)) e h = cases.moves a s o ps rs h [] tt
    acts fetched read (ok (put p z rs)) e h = puts _ _ _ _ rs h p z (check m access.Write p) refl
    acts fetched read (ok (cross n)) e h = cases.crosses fetched read n e

    pub twins : Agree m w v → P (made_with decide m w) (made_with decide m v) (execute_with decide m w) (execute_with decide m v)
    twins h =
        rw (same-fetch m f w v h, same-reader m f w v h)
        (acts (fetch m v) (read_word m v) (decide m (fetch m v) (read_word m v)) refl (goes m f (fetch m v) (read_word m v)))
