-- The registers after a reference and after a call, case by case.
use Rattle.std.specs.Prelude.{if◌then◌else◌}
use Prim.Native.Nat.{ℕ, ◌-◌}
use mathlib.Core.Bool.{Bool, not}
use mathlib.Core.List.{List}
use mathlib.Core.Path.{◌≡◌, sym, ap, ◌∙◌}
use borrow.Author.Tests.{eq-eqb, ne_eqb}
use lib.ListN.{get_or, take}
use Rattle.words.specs.Answer.{Answer, refuse, ok, ◌>>=◌}
use Rattle.state.specs.declared.record.Capability.{Capability}
use Rattle.state.specs.declared.record.Frame.{Frame}
use Rattle.state.specs.declared.record.Register.{Register}
use Rattle.state.specs.Record.{no_capability}
use Rattle.capabilities.specs.Search.{covers_of, first_of}
use Rattle.recent.specs.Entering.{all_yield, may_enter, capabilities_of}
use Rattle.recent.specs.Registers.{touched, with_entry, listed}
use Rattle.recent.specs.Found.{held_of, noted, searched, by_held, found_of, registers_after, referred_to}

-- the full search
module _ (depth : ℕ) (fits : Capability → Bool) (cs : List Capability) (rs : List Register) where
  pub search-none : (n : ℕ) → first_of fits cs ≡ refuse n → registers_after rs (searched depth fits cs rs) ≡ rs
  search-none n e = ap (λ (a : Answer Capability). registers_after rs (a >>= (λ c. ok (record { capability = c; registers = noted depth cs rs c })))) e

  pub search-found : (c : Capability) (t : Bool) → first_of fits cs ≡ ok c → may_enter cs c ≡ t
      → registers_after rs (searched depth fits cs rs) ≡ (if t then with_entry c depth rs else rs)
  search-found c t e m =
      ap (λ (a : Answer Capability). registers_after rs (a >>= (λ c. ok (record { capability = c; registers = noted depth cs rs c })))) e ∙
      ap (λ (b : Bool). if b then with_entry c depth rs else rs) m

-- a reference
module _ (rs : List Register) (depth : ℕ) (frame : Frame) (segment word : ℕ) (read : Bool) where
  abbrev fits : Capability → Bool
  fits = covers_of segment word 1 read (not read)

  pub refer-none : depth ≡ 0 → referred_to rs depth frame segment word read ≡ rs
  unfolding referred_to found_of
  refer-none e = rw (eq-eqb depth 0 e)

  pub refer-held : (r : Register) → (depth ≡ 0 → ⊥) → held_of depth fits rs ≡ ok r → referred_to rs depth frame segment word read ≡ touched r.recency rs
  unfolding referred_to found_of
  refer-held r ne e = rw (ne_eqb depth 0 ne) (ap (λ (a : Answer Register). registers_after rs (by_held depth fits (capabilities_of frame) rs a)) e)

  pub refer-searched : (n : ℕ) → (depth ≡ 0 → ⊥) → held_of depth fits rs ≡ refuse n
      → referred_to rs depth frame segment word read ≡ registers_after rs (searched depth fits (capabilities_of frame) rs)
  unfolding referred_to found_of
  refer-searched n ne e = rw (ne_eqb depth 0 ne) (ap (λ (a : Answer Register). registers_after rs (by_held depth fits (capabilities_of frame) rs a)) e)

-- a call
pub listed-is : (depth : ℕ) (f : Frame) (rs : List Register) (n : ℕ) (c : Capability) (t : Bool) → n ≡ f.count - 1 → c ≡ get_or f.capabilities n no_capability
    → all_yield (take n f.capabilities) c ≡ t → listed depth f rs ≡ (if t then with_entry c depth rs else rs)
unfolding listed
listed-is depth f rs n c t e q y =
    ap (λ (k : ℕ). by (all_yield (take k f.capabilities) (get_or f.capabilities k no_capability)) (get_or f.capabilities k no_capability)) (sym e) ∙
    ap (λ (d : Capability). by (all_yield (take n f.capabilities) d) d) (sym q) ∙
    ap (λ (b : Bool). by b c) y
  where
    by : Bool → Capability → List Register
    by b d = if b then with_entry d depth rs else rs
