-- The loop that runs a machine, against the run that the definition gives.
use Prim.Native.Nat.{ℕ, ◌-◌, ◌<◌, ◌≤◌}
use native.Mathlib.Omega.{arith}
use mathlib.Core.Bool.{Bool, true, false}
use mathlib.Core.List.{List}
use mathlib.Core.Path.{◌≡◌, refl, ap, ◌∙◌}
use borrow.Author.Tests.{le-leb}
use lib.ListN.{length}
use Rattle.state.specs.declared.record.Frame.{Frame}
use Rattle.state.specs.declared.record.Register.{Register}
use Rattle.state.specs.declared.record.Machine.{Machine}
use Rattle.state.specs.Record.{live_frame}
use Rattle.state.specs.Bases.{bases_of}
use Rattle.state.specs.declared.record.Registers.{Registers}
use Rattle.words.specs.declared.pointer.Pointer.{Pointer}
use Rattle.runs.specs.Run.{Ending, ran, crossed, run_from}
use Rattle.local_runs.specs.LocalRun.{Stop, Paused, local_from}
use Rattle.runs.specs.Private.{Resumed, ends, goes, resume_of, crossed_recent, Countable}
use Rattle.runs.proofs.Cycling.{with_parts, crossed_to, continued, run-resumes}
use Rattle.runs.proofs.Bounds.{Fine, fine-countable, local-fine, local-length, Room, resume-room}
use Rattle.crossings.specs.Parts.{Changes}

-- a run has come to a machine and its words after n instructions
pub record Runs (stretch : Bool) (limit : ℕ) (m₀ : Machine) (words₀ : List ℕ) (m : Machine) (words : List ℕ) (n : ℕ) : Type 0 where
  pub within : n ≤ limit
  pub most : m.depth ≤ 8
  pub same : length words ≡ length words₀
  pub rest : run_from stretch limit 0 m₀ words₀ ≡ run_from stretch (limit - n) n m words

pub starts : (stretch : Bool) (limit : ℕ) (m : Machine) (words : List ℕ) → m.depth ≤ 8 → Runs stretch limit m words m words 0
starts stretch limit m words h = record { within = omega arith; most = h; same = refl; rest = ap (λ (k : ℕ). run_from stretch k 0 m words) (let z : limit ≡ limit - 0 = omega arith in z) }

-- its local run has been made: it paused at t, with the words w
pub record Pauses (limit : ℕ) (m : Machine) (n : ℕ) (words₀ : List ℕ) (t : Stop) (w : List ℕ) : Type 0 where
  pub fine : Fine m.depth n limit t.count t.stage
  pub same : length w ≡ length words₀

module _ (stretch : Bool) (limit : ℕ) (m₀ : Machine) (words₀ : List ℕ) (m : Machine) (words : List ℕ) (n : ℕ) (l : Runs stretch limit m₀ words₀ m words n)
    (places : List ℕ) (here : places ≡ bases_of m.layout.lengths) (frame : Frame) (live : frame ≡ live_frame m.depth m.frames) where
  abbrev paused : Paused
  paused = local_from m.layout.lengths m.layout.gates m.layout.rights m.layout.stacks places m.depth frame (limit - n) n m.registers m.pointers words m.recent

  module _ (t : Stop) (w : List ℕ) (rs : List Register) (et : t ≡ paused.stop) (ew : w ≡ paused.words) (er : rs ≡ paused.recent) where
    pub pauses : Pauses limit m n words₀ t w
    pauses =
        record {
          fine = rw et (local-fine m.layout.lengths m.layout.gates m.layout.rights m.layout.stacks places m.depth frame n limit (limit - n) n (omega arith) (omega (arith, l.within)) m.registers m.pointers words m.recent);
          same = ap length ew ∙ local-length m.layout.lengths m.layout.gates m.layout.rights m.layout.stacks places m.depth frame (limit - n) n m.registers m.pointers words m.recent ∙ l.same;
        }

    pub countable : limit ≤ 65535 → Countable t.count t.stage
    countable h = fine-countable m.depth n limit t.count h t.stage pauses.fine

    module _ (c : Resumed) (ec : c ≡ resume_of m.layout.lengths m.layout.rights places m.layout.gatedomains m.layout.stacks w rs m.depth frame t.registers t.pointers t.count t.stage) where
      -- the whole run goes on from the crossing's answer
      pub rested : run_from stretch limit 0 m₀ words₀ ≡ continued stretch limit (with_parts m t.registers t.pointers rs) w t.stage c
      rested = l.rest ∙ run-resumes stretch limit (limit - n) n (omega (arith, l.within)) m (simp (le-leb _ _ l.most) refl) words ∙ rw (ec, et, ew, er, live, here) refl

      pub room : Room n limit c
      room = rw ec (resume-room _ _ _ _ _ _ _ _ _ _ _ n limit t.count l.most t.stage pauses.fine)

      pub ends_so : (r : Registers) (ps : List Pointer) (k : ℕ) (e : Ending) → c ≡ ends r ps k e → run_from stretch limit 0 m₀ words₀ ≡ ran (with_parts m r ps rs) w k e
      ends_so r ps k e ee = rested ∙ rw ee refl

      module _ (k row depth : ℕ) (d : Changes) (eg : c ≡ goes k row depth d) where
        pub bounds : (row < 8) × ((depth ≤ 8) × ((n < k) × (k ≤ limit)))
        bounds = rw eg at room

        -- with the registers after the crossing
        module _ (new : List Register) (en : new ≡ crossed_recent rs m.depth frame t.pointers d.frame t.stage) where
          abbrev next : Machine
          next = crossed_to m row depth new d

          pub crossed-so : stretch ≡ true → run_from stretch limit 0 m₀ words₀ ≡ ran next w k crossed
          crossed-so s = rested ∙ rw (eg, s, en, live) refl

          pub goes_on : stretch ≡ false → Runs stretch limit m₀ words₀ next w k
          goes_on s = record { within = bounds.1.1.1; most = bounds.1.0; same = pauses.same; rest = rested ∙ rw (eg, s, en, live) refl }
