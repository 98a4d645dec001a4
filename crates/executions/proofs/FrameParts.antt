-- What the frame of a call through a gate is made of.
use Prim.Native.Nat.{ℕ, zero, suc, ◌+◌, ◌<◌, ◌≤◌}
use native.Mathlib.Omega.{arith}
use native.Mathlib.Decide.{ℕ_discrete}
use mathlib.Core.Bool.{true, false, not}
use mathlib.Core.List.{List}
use mathlib.Core.Path.{◌≡◌, refl, ap, ◌∙◌, subst}
use borrow.Author.Tests.{leb-true, not-true}
use lib.Dec.{leb}
use lib.IntN.{pos}
use lib.ListN.{length, get_or, set, replicate, length-set, length-replicate, get_or-replicate}
use lib.Seq.{get_or-set_same, get_or-set_other}
use Rattle.words.specs.Answer.{ok}
use Rattle.words.specs.declared.pointer.Pointer.{Pointer}
use Rattle.state.specs.declared.record.Capability.{Capability}
use Rattle.state.specs.declared.record.Frame.{Frame}
use Rattle.state.specs.Record.{no_capability}
use Rattle.soundness.specs.Sound.{empty_capability}
use Rattle.memory.specs.Reader.{Reader}
use Rattle.addressing.specs.Effective.{displaced_by}
use Rattle.arguments.specs.ArgumentList.{list_word, list_pointer, source_of, argument_of, arguments_from, list_mode, list_capability, filled_of, frame_after, frame_of}
use Rattle.executions.proofs.Says.{Says, said, itself, says-bind, says_past, says-require}

-- nine rows: row j below n holds what P says of it, and the others are zero
pub record Rows (P : ℕ → Capability → Type 0) (n : ℕ) (rows : List Capability) : Type 0 where
  pub room : length rows ≡ 9
  pub used : (j : ℕ) → j < n → P j (get_or rows j no_capability)
  pub unused : (j : ℕ) → n ≤ j → j < 9 → empty_capability (get_or rows j no_capability) ≡ true

no-capability : empty_capability no_capability ≡ true
unfolding empty_capability
no-capability = refl

module _ (P : ℕ → Capability → Type 0) where
  no_rows : Rows P 0 (replicate 9 no_capability)
  no_rows = record {
    room = length-replicate 9 no_capability;
    used = λ j h. absurd (omega arith);
    unused = λ j h l. ap empty_capability (get_or-replicate 9 j no_capability no_capability l) ∙ no-capability;
  }

  pub row-added : (n : ℕ) (rows : List Capability) (c : Capability) → n < 9 → P n c → Rows P n rows → Rows P (n + 1) (set rows n c)
  row-added n rows c less new s = record {
    room = length-set rows n c ∙ s.room;
    used = λ j h. at j h (ℕ_discrete j n);
    unused = λ j h l. ap empty_capability (get_or-set_other rows n j c no_capability (λ e. omega arith)) ∙ s.unused j (omega arith) l;
  }
    where
      at : (j : ℕ) → j < n + 1 → Dec (j ≡ n) → P j (get_or (set rows n c) j no_capability)
      at j h (yes e) = rw (e, get_or-set_same rows n c no_capability (rw s.room less)) new
      at j h (no ne) = rw (get_or-set_other rows n j c no_capability ne) (s.used j (omega (arith, ne)))

module _ (read : Reader) (a s : Pointer) (caller depth : ℕ) (live : Frame) where
  -- what was read and judged in turn: the number of arguments, the list's source, the return location, the place of word 2, the arguments
  pub record Parts (f : Frame) : Type 0 where
    pub arguments : ℕ
    pub counted : list_word read a 0 ≡ ok arguments
    pub few : arguments ≤ 8
    pub source : ℕ
    pub sourced : source_of caller depth live a (list_mode arguments) ≡ ok source
    pub back : Pointer
    pub recorded : list_pointer read a 1 ≡ ok back
    pub untagged : back.tag ≡ false
    pub third : Pointer
    pub placed : displaced_by a (pos 2) ≡ ok third
    pub rows : List Capability
    pub taken : arguments_from read a caller depth live arguments 0 (replicate 9 no_capability) ≡ ok rows
    pub made : f ≡ filled_of rows (list_capability a source arguments) s back caller arguments

  pub frame-parts : Says Parts (frame_of read a s caller depth live)
  unfolding frame_of frame_after
  frame-parts =
      says-bind (λ n. list_word read a 0 ≡ ok n) Parts (list_word read a 0) _ (itself (list_word read a 0)) (λ n counted.
      says-require Parts (leb n 8) 30 _ (λ few.
      says-bind (λ d. source_of caller depth live a (list_mode n) ≡ ok d) Parts (source_of caller depth live a (list_mode n)) _ (itself (source_of caller depth live a (list_mode n))) (λ source sourced.
      says-bind (λ q. list_pointer read a 1 ≡ ok q) Parts (list_pointer read a 1) _ (itself (list_pointer read a 1)) (λ back recorded.
      says-require Parts (not back.tag) 30 _ (λ untagged.
      says_past (λ q. displaced_by a (pos 2) ≡ ok q) Parts (displaced_by a (pos 2)) _ (itself (displaced_by a (pos 2))) (λ third placed.
      says-bind (λ rows. arguments_from read a caller depth live n 0 (replicate 9 no_capability) ≡ ok rows) Parts (arguments_from read a caller depth live n 0 (replicate 9 no_capability)) _
      (itself (arguments_from read a caller depth live n 0 (replicate 9 no_capability))) (λ rows taken.
      record {
        arguments = n;
        counted = counted;
        few = leb-true n 8 few;
        source = source;
        sourced = sourced;
        back = back;
        recorded = recorded;
        untagged = not-true _ untagged;
        third = third;
        placed = placed;
        rows = rows;
        taken = taken;
        made = refl;
      })))))))

  -- where P holds of each argument, it holds of the rows
  module _ (P : ℕ → Capability → Type 0) (each : (i : ℕ) → Says (P i) (argument_of read a caller depth live i)) where
    arguments-held : (k i : ℕ) (rows : List Capability) → i + k ≤ 8 → Rows P i rows → Says (Rows P (i + k)) (arguments_from read a caller depth live k i rows)
    unfolding arguments_from
    arguments-held zero i rows few h = subst (λ (n : ℕ). Rows P n rows) (omega arith) h
    arguments-held (suc k) i rows few h =
        says-bind (P i) (Rows P (i + suc k)) (argument_of read a caller depth live i) _ (each i) (λ c p.
        subst (λ (n : ℕ). Says (Rows P n) (arguments_from read a caller depth live k (i + 1) (set rows i c))) (omega arith)
        (arguments-held k (i + 1) (set rows i c) (omega arith) (row-added P i rows c (omega arith) p h)))

    pub parts_held : (f : Frame) (p : Parts f) → Rows P p.arguments p.rows
    parts_held f p =
        subst (λ (n : ℕ). Rows P n p.rows) (omega arith)
        (said (Rows P (0 + p.arguments)) _ p.rows (arguments-held p.arguments 0 (replicate 9 no_capability) (omega (arith, p.few)) (no_rows P)) p.taken)
