-- What a check that passes says of the word.
use Rattle.std.specs.Prelude.{if◌then◌else◌}
use Prim.Native.Nat.{ℕ, ◌<◌}
use native.Mathlib.Omega.{arith}
use mathlib.Core.Bool.{Bool, true, false, not, ◌&&◌}
use mathlib.Core.List.{List, [], ◌∷◌}
use mathlib.Core.Path.{◌≡◌, refl, ◌∙◌}
use borrow.Author.Tests.{eqb-true, ltb-true}
use lib.Dec.{eqb, ltb}
use lib.ListN.{get_or, take}
use Rattle.words.specs.Answer.{Answer, refuse, ok, ◌>>=◌}
use Rattle.words.specs.declared.pointer.Pointer.{Pointer}
use Rattle.state.specs.declared.record.Capability.{Capability}
use Rattle.state.specs.declared.record.Frame.{Frame}
use Rattle.state.specs.declared.record.Register.{Register}
use Rattle.references.specs.declared.flag.Flag.{Flag}
use Rattle.references.specs.declared.flag.Access.{Access}
use Rattle.references.specs.Flag.{has, flag_of, is_read}
use Rattle.references.specs.Static.{static_of, exists, rights_of}
use Rattle.capabilities.specs.Search.{first_of, covers_of}
use Rattle.recent.specs.Entering.{capabilities_of}
use Rattle.recent.specs.Found.{Found, held_of, noted, by_held, found_of}
use Rattle.references.specs.Live.{live_match, sourced, live_of, live_through}
use Rattle.references.specs.Reference.{verdict_of}

pub never : {A : Type 0} → false ≡ true → A
never e = absurd (let z : ◌≡◌ {A = ℕ} 0 1 = cc in omega arith)

pub both : (a b : Bool) → (a && b) ≡ true → (a ≡ true) × (b ≡ true)
both true b e = (refl, e)
both false b e = never e

-- a word that passes a static check exists
pub static-exists : (lengths rights : List ℕ) (d : ℕ) (f : Flag) (s w : ℕ) → static_of lengths rights d f s w ≡ 0 → exists lengths s w ≡ true
unfolding static_of
static-exists lengths rights d f s w e = by (exists lengths s w) e
  where
    by : (t : Bool) → ◌≡◌ {A = ℕ} (if t then (if has (rights_of rights d s) f then 0 else 22) else 21) 0 → t ≡ true
    by true e = refl
    by false e = absurd (omega arith)

-- a word that exists is in one of the sixteen segments, below its length
pub exists-facts : (lengths : List ℕ) (s w : ℕ) → exists lengths s w ≡ true → (s < 16) × (w < get_or lengths s 0)
unfolding exists
exists-facts lengths s w e = let t = both (ltb s 16) (ltb w (get_or lengths s 0)) e in (ltb-true _ _ t.0, ltb-true _ _ t.1)

-- a search that finds nothing gives 24
first-refuses : (fits : Capability → Bool) (cs : List Capability) (n : ℕ) → first_of fits cs ≡ refuse n → n ≡ 24
unfolding first_of
first-refuses fits [] n e = cc
first-refuses fits (c ∷ cs) n e = by (fits c) (first-refuses fits cs n) e
  where
    by : (t : Bool) → (first_of fits cs ≡ refuse n → n ≡ 24) → (if t then ok c else first_of fits cs) ≡ refuse n → n ≡ 24
    by true rest e = absurd (let z : ◌≡◌ {A = ℕ} 0 1 = cc in omega arith)
    by false rest e = rest e

pub match-refuses : (depth : ℕ) (f : Frame) (fits : Capability → Bool) (n : ℕ) → live_match depth f fits ≡ refuse n → n ≡ 24
unfolding live_match
match-refuses depth f fits n e = by (eqb depth 0) e
  where
    by : (t : Bool) → (if t then refuse 24 else first_of fits (take f.count f.capabilities)) ≡ refuse n → n ≡ 24
    by true e = cc
    by false e = first-refuses fits (take f.count f.capabilities) n e

-- a word whose match passes its source's check exists, where a search that finds nothing gives 24
sourced-exists : (lengths rights : List ℕ) (a : Access) (s w : ℕ) (m : Answer Capability) → ((n : ℕ) → m ≡ refuse n → n ≡ 24) → sourced lengths rights a s w m ≡ 0 → exists lengths s w ≡ true
sourced-exists lengths rights a s w (refuse n) none e = absurd (omega (arith, none n refl, e))
sourced-exists lengths rights a s w (ok c) none e = passed c.source (eqb (static_of lengths rights c.source (flag_of a) s w) 0) refl e
  where
    passed : (d : ℕ) (t : Bool) → eqb (static_of lengths rights d (flag_of a) s w) 0 ≡ t → ◌≡◌ {A = ℕ} (if t then 0 else 25) 0 → exists lengths s w ≡ true
    passed d true q e = static-exists lengths rights d (flag_of a) s w (eqb-true _ _ q)
    passed d false q e = absurd (omega arith)

-- a word that passes a live check exists, with no registers and through them
pub live-exists : (lengths rights : List ℕ) (depth : ℕ) (f : Frame) (a : Access) (s w : ℕ) → live_of lengths rights depth f a s w ≡ 0 → exists lengths s w ≡ true
unfolding live_of
live-exists lengths rights depth f a s w e = sourced-exists lengths rights a s w _ (match-refuses depth f (covers_of s w 1 (is_read a) (not (is_read a)))) e

pub found-refuses : (rs : List Register) (depth : ℕ) (f : Frame) (fits : Capability → Bool) (n : ℕ) → (found_of rs depth f fits >>= (λ x. ok x.capability)) ≡ refuse n → n ≡ 24
unfolding found_of
found-refuses rs depth f fits n e = by (eqb depth 0) (held_of depth fits rs) e
  where
    by : (t : Bool) (h : Answer Register) → ((if t then refuse 24 else by_held depth fits (capabilities_of f) rs h) >>= (λ (x : Found). ok x.capability)) ≡ refuse n → n ≡ 24
    by true h e = cc
    by false (ok r) e = absurd (let z : ◌≡◌ {A = ℕ} 0 1 = cc in omega arith)
    by false (refuse k) e = to (first_of fits (capabilities_of f)) refl e
      where
        to : (m : Answer Capability) → first_of fits (capabilities_of f) ≡ m
            → ((m >>= (λ c. ok (record { capability = c; registers = noted depth (capabilities_of f) rs c }))) >>= (λ (x : Found). ok x.capability)) ≡ refuse n → n ≡ 24
        to (refuse j) q e = first-refuses fits (capabilities_of f) n (q ∙ (let z : ◌≡◌ {A = Answer Capability} (refuse j) (refuse n) = cc in z))
        to (ok c) q e = absurd (let z : ◌≡◌ {A = ℕ} 0 1 = cc in omega arith)

pub through-exists : (lengths rights : List ℕ) (rs : List Register) (depth : ℕ) (f : Frame) (a : Access) (s w : ℕ) → live_through lengths rights rs depth f a s w ≡ 0 → exists lengths s w ≡ true
unfolding live_through
through-exists lengths rights rs depth f a s w e = sourced-exists lengths rights a s w _ (found-refuses rs depth f (covers_of s w 1 (is_read a) (not (is_read a)))) e

-- a word that passes the check of a reference exists
pub verdict-exists : (lengths rights : List ℕ) (d : ℕ) (rs : List Register) (depth : ℕ) (f : Frame) (a : Access) (p : Pointer)
    → verdict_of lengths rights d rs depth f a p ≡ 0 → exists lengths p.segment p.word ≡ true
unfolding verdict_of
verdict-exists lengths rights d rs depth f a p e = by p.tag e
  where
    by : (t : Bool) → (if t then live_through lengths rights rs depth f a p.segment p.word else static_of lengths rights d (flag_of a) p.segment p.word) ≡ 0 → exists lengths p.segment p.word ≡ true
    by true e = through-exists lengths rights rs depth f a p.segment p.word e
    by false e = static-exists lengths rights d (flag_of a) p.segment p.word e
