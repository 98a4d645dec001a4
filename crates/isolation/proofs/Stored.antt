-- What stores leave in a memory: its length, and what each word holds after stores that the domain could make.
use Rattle.std.specs.Prelude.{if◌then◌else◌}
use Prim.Native.Nat.{ℕ, ◌≤◌}
use native.Mathlib.Omega.{arith}
use mathlib.Core.Bool.{Bool, true, false, ◌&&◌}
use mathlib.Core.List.{List, [], ◌∷◌, ◌++◌}
use mathlib.Core.Option.{Option, none, some, get_or}
use mathlib.Core.Path.{◌≡◌, refl, sym, ap, ◌∙◌}
use borrow.Author.Tests.{eqb-true, eq-eqb}
use lib.Dec.{eqb}
use lib.ListN.{length, set, length-set}
use lib.Seq.{get_or-set_same, get_or-set_other}
use Rattle.state.specs.declared.record.Machine.{Machine}
use Rattle.state.specs.Bases.{words_in, bases_of}
use Rattle.references.specs.Reference.{index_of}
use Rattle.references.proofs.Passes.{never, both}
use Rattle.references.proofs.Places.{index-lt, index-apart}
use Rattle.isolation.specs.Visible.{could_write, existing, place, word_at}
use Rattle.isolation.specs.Stores.{Store, stored_all, is_in, later, received, Each}
use Rattle.isolation.specs.Isolation.{Writable}

pub stored-length : (lengths w : List ℕ) (xs : List Store) → length (stored_all lengths w xs) ≡ length w
unfolding stored_all
stored-length lengths w [] = refl
stored-length lengths w (a ∷ more) = stored-length lengths (set w (index_of (bases_of lengths) a.segment a.word) a.value) more ∙ length-set w _ a.value

-- stores after stores
pub stored_on : (lengths w : List ℕ) (xs ys : List Store) → stored_all lengths w (xs ++ ys) ≡ stored_all lengths (stored_all lengths w xs) ys
unfolding stored_all
stored_on lengths w [] ys = refl
stored_on lengths w (a ∷ more) ys = stored_on lengths (set w (index_of (bases_of lengths) a.segment a.word) a.value) more ys

pub each_on : (P : Store → Type 0) (xs ys : List Store) → Each P xs → Each P ys → Each P (xs ++ ys)
unfolding Each
each_on P [] ys h g = g
each_on P (a ∷ more) ys h g = (h.0, each_on P more ys h.1 g)

-- the word that a store is in
is-in : (s k : ℕ) (a : Store) → is_in s k a ≡ true → (s ≡ a.segment) × (k ≡ a.word)
is-in s k a q =
    let same = both (eqb a.segment s) (eqb a.word k) q in
    (sym (eqb-true a.segment s same.0), sym (eqb-true a.word k same.1))

-- a word that the domain could not write receives nothing
receives-none : (m : Machine) (s k : ℕ) → could_write m s k ≡ false → (xs : List Store) → Each (Writable m) xs → received s k xs ≡ none
unfolding received Each
receives-none m s k not [] all = refl
receives-none m s k not (a ∷ more) all = rw (receives-none m s k not more all.1) (by (is_in s k a) refl)
  where
    by : (t : Bool) → is_in s k a ≡ t → (if t then some a.value else none) ≡ none
    by true q =
        let same = is-in s k a q in
        never (sym not ∙ (λ i. could_write m (same.0 i) (same.1 i)) ∙ all.0.1)
    by false q = refl

module _ (m : Machine) (s k : ℕ) (e : existing m s k ≡ true) where
  abbrev stored_one : List ℕ → Store → List ℕ
  stored_one w a = set w (place m a.segment a.word) a.value

  -- what an existing word holds after one store
  after_store : (a : Store) → Writable m a → (w : List ℕ) → words_in m.layout.lengths ≤ length w
      → word_at m (stored_one w a) s k ≡ (if is_in s k a then a.value else word_at m w s k)
  after_store a writable w h = by (is_in s k a) refl
    where
      by : (t : Bool) → is_in s k a ≡ t → word_at m (stored_one w a) s k ≡ (if t then a.value else word_at m w s k)
      by true q =
          let same = is-in s k a q in
          (λ i. word_at m (stored_one w a) (same.0 i) (same.1 i)) ∙
          get_or-set_same w (place m a.segment a.word) a.value 0 (omega (arith, h, index-lt m.layout.lengths a.segment a.word writable.0))
      by false q = get_or-set_other w (place m a.segment a.word) (place m s k) a.value 0 apart
        where
          apart : place m s k ≡ place m a.segment a.word → ⊥
          apart p =
              let same = index-apart m.layout.lengths a.segment a.word s k writable.0 e (sym p) in
              never (sym q ∙ (λ i. eq-eqb a.segment s same.0 i && eq-eqb a.word k same.1 i))

  -- after all: the number that it received last, or what it held
  pub after-stores : (xs : List Store) → Each (Writable m) xs → (w : List ℕ) → words_in m.layout.lengths ≤ length w
      → word_at m (stored_all m.layout.lengths w xs) s k ≡ get_or (received s k xs) (word_at m w s k)
  unfolding stored_all received Each
  after-stores [] all w h = refl
  after-stores (a ∷ more) all w h = after-stores more all.1 (stored_one w a) (rw length-set h) ∙ by (is_in s k a) (received s k more) (after_store a all.0 w h)
    where
      by : (t : Bool) (o : Option ℕ) → word_at m (stored_one w a) s k ≡ (if t then a.value else word_at m w s k)
          → get_or o (word_at m (stored_one w a) s k) ≡ get_or (later (if t then some a.value else none) o) (word_at m w s k)
      by true none q = q
      by false none q = q
      by true (some z) q = refl
      by false (some z) q = refl

  module _ (xs : List Store) (all : Each (Writable m) xs) where
    -- the same stores in two memories that hold the same number there
    pub same_after : (w v : List ℕ) → words_in m.layout.lengths ≤ length w → words_in m.layout.lengths ≤ length v → word_at m w s k ≡ word_at m v s k
        → word_at m (stored_all m.layout.lengths w xs) s k ≡ word_at m (stored_all m.layout.lengths v xs) s k
    same_after w v hw hv q = after-stores xs all w hw ∙ ap (get_or (received s k xs)) q ∙ sym (after-stores xs all v hv)

    -- a word that the domain could not write
    pub kept-after : (w : List ℕ) → words_in m.layout.lengths ≤ length w → could_write m s k ≡ false → word_at m (stored_all m.layout.lengths w xs) s k ≡ word_at m w s k
    kept-after w h not = after-stores xs all w h ∙ ap (λ (o : Option ℕ). get_or o (word_at m w s k)) (receives-none m s k not xs all)
