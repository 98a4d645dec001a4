-- The references to a call's list, one after the other.
use Rattle.std.specs.Prelude.{if◌then◌else◌}
use Prim.Native.Nat.{ℕ, zero, suc, ◌+◌, ◌-◌, ◌<◌, ◌≤◌}
use native.Mathlib.Omega.{arith}
use mathlib.Core.Bool.{Bool, true, false}
use mathlib.Core.List.{List, [], ◌∷◌}
use mathlib.Core.Path.{◌≡◌, refl, sym, ap, ◌∙◌}
use lib.Dec.{eqb}
use lib.IntN.{pos}
use Rattle.words.specs.Answer.{Answer, refuse, ok, ◌>>=◌}
use Rattle.words.specs.Offset.{displaced_of}
use Rattle.words.specs.declared.pointer.Pointer.{Pointer}
use Rattle.state.specs.declared.record.Frame.{Frame}
use Rattle.state.specs.declared.record.Register.{Register}
use Rattle.state.specs.Record.{no_pointer}
use Rattle.references.specs.Made.{made_read, renewed, renewed_all}
use Rattle.addressing.specs.Effective.{at_word, displaced_by, placed}
use Rattle.arguments.specs.ArgumentList.{list_made}
use Rattle.runs.specs.Private.{word_made}

module _ (depth : ℕ) (f : Frame) where
  -- a word's reference first, then those to the words after it
  pub list-next : (a : Pointer) (k i : ℕ) (rs : List Register)
      → renewed_all rs depth f (list_made a (suc k) i) ≡ renewed_all (renewed_all rs depth f (word_made a i)) depth f (list_made a k (i + 1))
  unfolding renewed_all
  list-next a k i rs = by (eqb i 2)
    where
      by : (t : Bool)
          → renewed_all rs depth f (if t then list_made a k (i + 1) else (made_read (placed (displaced_by a (pos i))) ∷ list_made a k (i + 1)))
          ≡ renewed_all (renewed_all rs depth f (if t then [] else (made_read (placed (displaced_by a (pos i))) ∷ []))) depth f (list_made a k (i + 1))
      by true = refl
      by false = refl

  -- the loop has made the references to the first i words
  pub record Listing (a : Pointer) (k : ℕ) (rs₀ : List Register) (i : ℕ) (rs : List Register) : Type 0 where
    pub within : i ≤ k
    pub rest : renewed_all rs₀ depth f (list_made a k 0) ≡ renewed_all rs depth f (list_made a (k - i) i)

  pub lists-none : (a : Pointer) (k : ℕ) (rs : List Register) → Listing a k rs 0 rs
  lists-none a k rs =
      record { within = omega arith; rest = ap (λ (n : ℕ). renewed_all rs depth f (list_made a n 0)) (let z : k ≡ k - 0 = omega arith in z) }

  module _ (a : Pointer) (k : ℕ) (rs₀ : List Register) (i : ℕ) (rs : List Register) (l : Listing a k rs₀ i rs) where
    pub lists-next : i < k → (next : List Register) → next ≡ renewed_all rs depth f (word_made a i) → Listing a k rs₀ (i + 1) next
    lists-next h next e =
        record {
          within = omega (arith, h);
          rest =
              l.rest ∙ ap (λ (n : ℕ). renewed_all rs depth f (list_made a n i)) (let z : k - i ≡ suc (k - (i + 1)) = omega (arith, h) in z) ∙
              list-next a (k - (i + 1)) i rs ∙ ap (λ (x : List Register). renewed_all x depth f (list_made a (k - (i + 1)) (i + 1))) (sym e);
        }

    pub lists-all : k ≤ i → rs ≡ renewed_all rs₀ depth f (list_made a k 0)
    unfolding renewed_all
    lists-all h = sym (l.rest ∙ ap (λ (n : ℕ). renewed_all rs depth f (list_made a n i)) (let z : k - i ≡ 0 = omega (arith, h) in z))

  -- through an untagged pointer they leave the registers
  untagged : (a : Pointer) → a.tag ≡ false → (i : ℕ) → (placed (displaced_by a (pos i))).tag ≡ false
  unfolding displaced_by
  untagged a e i = by (displaced_of a.word (pos i))
    where
      by : (x : Answer ℕ) → (placed (x >>= (λ word. ok (at_word a word)))).tag ≡ false
      by (refuse n) = refl
      by (ok w) = e

  pub list-untagged : (a : Pointer) → a.tag ≡ false → (k i : ℕ) (rs : List Register) → renewed_all rs depth f (list_made a k i) ≡ rs
  unfolding renewed_all renewed
  list-untagged a e zero i rs = refl
  list-untagged a e (suc k) i rs = by (eqb i 2) (list-untagged a e k (i + 1) rs)
    where
      by : (t : Bool) → renewed_all rs depth f (list_made a k (i + 1)) ≡ rs
          → renewed_all rs depth f (if t then list_made a k (i + 1) else (made_read (placed (displaced_by a (pos i))) ∷ list_made a k (i + 1))) ≡ rs
      by true more = more
      by false more = ap (λ (x : List Register). renewed_all x depth f (list_made a k (i + 1))) (leaves (placed (displaced_by a (pos i))) (untagged a e i)) ∙ more
        where
          leaves : (p : Pointer) → p.tag ≡ false → renewed rs depth f (made_read p) ≡ rs
          leaves p h = rw h

  -- one word
  pub word_two : (a : Pointer) (i : ℕ) (rs : List Register) → eqb i 2 ≡ true → rs ≡ renewed_all rs depth f (word_made a i)
  unfolding renewed_all
  word_two a i rs e = rw e refl

  pub word-made : (a : Pointer) (i : ℕ) (rs next : List Register) (x : Answer ℕ) → eqb i 2 ≡ false → displaced_of a.word (pos i) ≡ x
      → next ≡ renewed rs depth f (made_read (placed (x >>= (λ word. ok (at_word a word))))) → next ≡ renewed_all rs depth f (word_made a i)
  unfolding renewed_all displaced_by
  word-made a i rs next x e q n = rw (e, q) n

  pub nothing-renewed : (rs : List Register) → rs ≡ renewed rs depth f (made_read no_pointer)
  unfolding renewed
  nothing-renewed rs = refl
