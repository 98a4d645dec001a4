-- The frame that a call makes is sound.
use Prim.Native.Nat.{ℕ, zero, suc, ◌+◌, ◌*◌, ◌<◌, ◌≤◌}
use native.Mathlib.Omega.{arith}
use mathlib.Core.List.{List}
use mathlib.Core.Path.{◌≡◌, refl, sym, subst}
use lib.IntN.{pos}
use lib.ListN.{length}
use Rattle.words.specs.Answer.{Answer, refuse, ok}
use Rattle.words.specs.PointerWord.{pointer_of}
use Rattle.words.specs.declared.pointer.Pointer.{Pointer}
use Rattle.state.specs.declared.record.Capability.{Capability}
use Rattle.state.specs.declared.record.Frame.{Frame}
use Rattle.soundness.proofs.Facts.{PointerSound, CapabilitySound, FrameSound}
use Rattle.memory.specs.Reader.{Reader}
use Rattle.addressing.specs.Effective.{displaced_by}
use Rattle.arguments.specs.ArgumentList.{list_word, list_pointer, capability_of, argument_of, list_mode, list_capability, frame_of}
use Rattle.executions.proofs.Says.{Says, said, says-bind, says_then, says-weaker}
use Rattle.executions.proofs.Pointers.{word-pointer, moved-most}
use Rattle.executions.proofs.Arguments.{LiveSound, source_sound, capability-sound}
use Rattle.executions.proofs.FrameParts.{Rows, row-added, Parts, frame-parts, parts_held}

-- a sound frame with its nine rows
pub record Framed (domains : ℕ) (f : Frame) : Type 0 where
  pub sound : FrameSound domains f
  pub room : length f.capabilities ≡ 9

module _ (read : Reader) (a : Pointer) where
  -- word k of the list is word 4,095 at the latest
  word-most : (k : ℕ) → Says (λ w. a.word + k ≤ 4095) (list_word read a k)
  unfolding list_word
  word-most k = says-bind (λ q. a.word + k ≤ 4095) (λ w. a.word + k ≤ 4095) (displaced_by a (pos k)) read (moved-most a k) (λ q h. kept h (read q))
    where
      kept : {A : Type 0} {B : Type 0} → B → (x : Answer A) → Says (λ w. B) x
      kept b (refuse n) = tt
      kept b (ok w) = b

  list-pointer : (k : ℕ) → Says PointerSound (list_pointer read a k)
  unfolding list_pointer
  list-pointer k = says_then PointerSound (list_word read a k) pointer_of word-pointer

  module _ (domains caller depth : ℕ) (live : Frame) (known : caller < domains) (held : LiveSound domains depth live) where
    -- argument i, whose words are words of the list
    record Argument (i : ℕ) (c : Capability) : Type 0 where
      sound : CapabilitySound domains c
      within : a.word + (3 + 2 * i + 1) ≤ 4095

    argument-sound : (i : ℕ) → Says (Argument i) (argument_of read a caller depth live i)
    unfolding argument_of
    argument-sound i =
        says-bind PointerSound (Argument i) (list_pointer read a (3 + 2 * i)) _ (list-pointer (3 + 2 * i)) (λ p sp.
        says-bind (λ v. a.word + (3 + 2 * i + 1) ≤ 4095) (Argument i) (list_word read a (3 + 2 * i + 1)) _ (word-most (3 + 2 * i + 1)) (λ v h.
        both h (capability_of caller depth live p v) (capability-sound domains caller depth live known held p v sp)))
      where
        both : a.word + (3 + 2 * i + 1) ≤ 4095 → (x : Answer Capability) → Says (CapabilitySound domains) x → Says (Argument i) x
        both h (refuse n) s = tt
        both h (ok c) s = record { sound = s; within = h }

    -- the last word of a list of n arguments is word 4,095 at the latest
    within : (n : ℕ) (rows : List Capability) → a.word + 2 ≤ 4095 → Rows Argument n rows → a.word + (3 + 2 * n) ≤ 4096
    within zero rows three r = omega arith
    within (suc n) rows three r = omega (arith, (r.used n (omega arith)).within)

    module _ (s : Pointer) (ss : PointerSound s) (on : a.segment ≤ 15) where
      parts-sound : (f : Frame) → Parts read a s caller depth live f → Framed domains f
      parts-sound f p =
          let n = p.arguments in
          let each = parts_held read a s caller depth live Argument argument-sound f p in
          let end = within n p.rows (said (λ q. a.word + 2 ≤ 4095) _ p.third (moved-most a 2) p.placed) each in
          let known-source : p.source < domains = said (λ d. d < domains) _ p.source (source_sound domains caller depth live known held a (list_mode n)) p.sourced in
          let list : CapabilitySound domains (list_capability a p.source n) =
          record { segment = on; some = omega arith; most = omega arith; end = end; source = known-source; flags = refl } in
          let arguments : Rows (λ j c. CapabilitySound domains c) n p.rows =
          record { room = each.room; used = λ j h. (each.used j h).sound; unused = each.unused } in
          let all = row-added (λ j c. CapabilitySound domains c) n p.rows (list_capability a p.source n) (omega (arith, p.few)) list arguments in
          subst (Framed domains) (sym p.made)
          (record {
            sound = record {
              some = omega arith;
              count = omega (arith, p.few);
              domain = known;
              s = ss;
              back = said PointerSound _ p.back (list-pointer 1) p.recorded;
              untagged = p.untagged;
              used = all.used;
              unused = all.unused;
            };
            room = all.room;
          })

      pub frame-sound : Says (Framed domains) (frame_of read a s caller depth live)
      frame-sound =
          says-weaker (Parts read a s caller depth live) (Framed domains) (frame_of read a s caller depth live) (frame-parts read a s caller depth live) parts-sound
