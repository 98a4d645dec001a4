-- A match that a register holds has the source of the live frame's first match.
use Rattle.std.specs.Prelude.{if◌then◌else◌}
use Prim.Native.Nat.{ℕ}
use native.Mathlib.Omega.{arith}
use mathlib.Core.Bool.{Bool, true, false, not, ◌&&◌, ◌||◌}
use mathlib.Core.List.{List, [], ◌∷◌}
use mathlib.Core.Path.{◌≡◌, refl, sym, ap, ◌∙◌}
use borrow.Author.Tests.{eqb-true}
use lib.Dec.{eqb}
use Rattle.words.specs.Answer.{ok}
use Rattle.state.specs.declared.record.Capability.{Capability}
use Rattle.state.specs.declared.record.Register.{Register}
use Rattle.capabilities.specs.Search.{first_of}
use Rattle.recent.specs.Entering.{shares, yields, same, may_enter}
use Rattle.recent.specs.Found.{held_of}
use Rattle.recent.proofs.Logic.{never, both}
use Rattle.recent.proofs.Same.{same-is}
use Rattle.recent.proofs.Clear.{Clear}

-- what is known of a capability that may be entered: it is the first row, or the first row yields to it
data First (x : Capability) (xs : List Capability) (c : Capability) : Type 0 where
  here : x ≡ c → First x xs c
  later : yields x c ≡ true → may_enter xs c ≡ true → First x xs c

first : (x : Capability) (xs : List Capability) (c : Capability) → may_enter (x ∷ xs) c ≡ true → First x xs c
unfolding may_enter
first x xs c m = by (same x c) refl m
  where
    by : (t : Bool) → same x c ≡ t → (if t then true else (yields x c && may_enter xs c)) ≡ true → First x xs c
    by true e m = here (same-is x c e)
    by false e m = let b = both (yields x c) (may_enter xs c) m in later b.0 b.1

-- every register of the live frame holds a capability that the frame has and that may be entered
abbrev pub Held : ℕ → List Capability → List Register → Type 0
Held depth cs [] = Unit {0}
Held depth cs (r ∷ rs) = (r.frame ≡ depth → may_enter cs r.capability ≡ true) × Held depth cs rs

module _ (fits : Capability → Bool) where
  -- a search has this source's capability as its first match
  abbrev pub FirstFrom : List Capability → ℕ → Type 0
  FirstFrom cs source = (d : Capability) × (first_of fits cs ≡ ok d) × (d.source ≡ source)

  module _ (k : Clear fits) (c : Capability) (fc : fits c ≡ true) where
    -- an earlier match that yields to c has the source of c, since they share a word
    one-source : (x : Capability) → yields x c ≡ true → fits x ≡ true → x.source ≡ c.source
    unfolding yields
    one-source x y fx = by (eqb x.source c.source) refl y
      where
        by : (t : Bool) → eqb x.source c.source ≡ t → (t || not (shares x c)) ≡ true → x.source ≡ c.source
        by true e y = eqb-true _ _ e
        by false e y = never (sym (ap not (k x c fx fc)) ∙ y)

    -- a frame that has c, and where c may be entered: its first match has the source of c
    pub first-match : (cs : List Capability) → may_enter cs c ≡ true → FirstFrom cs c.source
    unfolding first_of may_enter
    first-match [] m = never m
    first-match (x ∷ xs) m = by (first x xs c m) (fits x) refl (first-match xs)
      where
        by : First x xs c → (t : Bool) → fits x ≡ t → (may_enter xs c ≡ true → FirstFrom xs c.source)
            → (d : Capability) × ((if t then ok x else first_of fits xs) ≡ ok d) × (d.source ≡ c.source)
        by (here e) true f rest = (x, refl, ap (λ (d : Capability). d.source) e)
        by (here e) false f rest = never (sym f ∙ ap fits e ∙ fc)
        by (later y m) true f rest = (x, refl, one-source x y f)
        by (later y m) false f rest = rest m

  -- what a lookup gives matches, and may be entered
  pub held-there : (depth : ℕ) (cs : List Capability) (rs : List Register) → Held depth cs rs → (r : Register) → held_of depth fits rs ≡ ok r
      → (fits r.capability ≡ true) × (may_enter cs r.capability ≡ true)
  unfolding held_of
  held-there depth cs [] h r e = absurd (let z : ◌≡◌ {A = ℕ} 0 1 = cc in omega arith)
  held-there depth cs (x ∷ rs) h r e = by (eqb x.frame depth) refl (fits x.capability) refl (held-there depth cs rs h.1 r) e
    where
      by : (t : Bool) → eqb x.frame depth ≡ t → (u : Bool) → fits x.capability ≡ u
          → (held_of depth fits rs ≡ ok r → (fits r.capability ≡ true) × (may_enter cs r.capability ≡ true))
          → (if t && u then ok x else held_of depth fits rs) ≡ ok r
          → (fits r.capability ≡ true) × (may_enter cs r.capability ≡ true)
      by true f true g rest e =
          let s : x ≡ r = cc in
          (ap (λ (y : Register). fits y.capability) (sym s) ∙ g, ap (λ (y : Register). may_enter cs y.capability) (sym s) ∙ h.0 (eqb-true _ _ f))
      by true f false g rest e = rest e
      by false f u g rest e = rest e

  -- a registered match has the source of the first match that a full search finds
  pub held_first : Clear fits → (depth : ℕ) (cs : List Capability) (rs : List Register) → Held depth cs rs → (r : Register) → held_of depth fits rs ≡ ok r
      → (d : Capability) × (first_of fits cs ≡ ok d) × (d.source ≡ r.capability.source)
  held_first k depth cs rs h r e = let t = held-there depth cs rs h r e in first-match k r.capability t.0 cs t.1
