-- The loops that lay the registers out in columns, and take them from there.
use Rattle.std.specs.Prelude.{if◌then◌else◌}
use Prim.Native.Nat.{ℕ, ◌+◌, ◌<◌, ◌≤◌}
use native.Mathlib.Omega.{arith}
use mathlib.Core.Bool.{Bool, true, false}
use mathlib.Core.List.{List}
use mathlib.Core.Path.{◌≡◌, refl, sym, ap, ◌∙◌}
use borrow.Author.Tests.{eqb-true, eqb-false}
use lib.Dec.{eqb}
use lib.ListN.{length, get_or, set, length-set}
use lib.Seq.{get_or-set_same, get_or-set_other}
use Rattle.state.specs.declared.record.Register.{Register}
use Rattle.state.specs.Record.{no_register}
use Rattle.lent_registers.specs.Columns.{register_at, registers_of}
use Rattle.lent_registers.specs.Private.{put_at, Ranks}
use Rattle.recent.specs.Registers.{order_of, before}
use Rattle.lent_registers.proofs.Changed.{only-put}
use Rattle.lent_registers.proofs.Mapped.{strict, registers-are}
use Rattle.lent_registers.proofs.Loops.{put-room}

-- the first i registers are laid out
pub record Spreading (rs : List Register) (i : ℕ) (ys : List ℕ) : Type 0 where
  pub within : i ≤ 16
  pub room : length ys ≡ 160
  pub laid : (k : ℕ) → k < i → register_at ys k ≡ get_or rs k no_register

pub spreads-on : (rs : List Register) (i : ℕ) (ys zs : List ℕ) → i < 16 → Spreading rs i ys → zs ≡ put_at ys i (get_or rs i no_register) → Spreading rs (i + 1) zs
spreads-on rs i ys zs h s z = rw z (record { within = omega (arith, h); room = put-room ys i (get_or rs i no_register) ∙ s.room; laid = at })
  where
    at : (k : ℕ) → k < i + 1 → register_at (put_at ys i (get_or rs i no_register)) k ≡ get_or rs k no_register
    at k l = only-put ys s.room i h (get_or rs i no_register) k (omega (arith, h, l)) ∙ by (eqb k i) refl
      where
        by : (t : Bool) → eqb k i ≡ t → (if t then get_or rs i no_register else register_at ys k) ≡ get_or rs k no_register
        by true e = ap (λ (j : ℕ). get_or rs j no_register) (sym (eqb-true k i e))
        by false e = s.laid k (strict k i (omega (arith, l)) (eqb-false k i e))

pub spread-all : (rs : List Register) (i : ℕ) (ys : List ℕ) → length rs ≡ 16 → 16 ≤ i → Spreading rs i ys → registers_of ys ≡ rs
spread-all rs i ys room h s = sym (registers-are ys rs room (λ k l. sym (s.laid k (omega (arith, h, l)))))

-- the first i registers are taken
pub record Gathering (xs : List ℕ) (i : ℕ) (rs : List Register) : Type 0 where
  pub within : i ≤ 16
  pub room : length rs ≡ 16
  pub taken : (k : ℕ) → k < i → get_or rs k no_register ≡ register_at xs k

pub gathers-on : (xs : List ℕ) (i : ℕ) (rs : List Register) (r : Register) → i < 16 → Gathering xs i rs → r ≡ register_at xs i → Gathering xs (i + 1) (set rs i r)
gathers-on xs i rs r h g e = record { within = omega (arith, h); room = length-set rs i r ∙ g.room; taken = at }
  where
    at : (k : ℕ) → k < i + 1 → get_or (set rs i r) k no_register ≡ register_at xs k
    at k l = by (eqb k i) refl
      where
        by : (t : Bool) → eqb k i ≡ t → get_or (set rs i r) k no_register ≡ register_at xs k
        by true q =
            let s = eqb-true k i q in
            ap (λ (j : ℕ). get_or (set rs i r) j no_register) s ∙ get_or-set_same rs i r no_register (omega (arith, h, g.room)) ∙ e ∙ ap (register_at xs) (sym s)
        by false q = get_or-set_other rs i k r no_register (eqb-false k i q) ∙ g.taken k (strict k i (omega (arith, l)) (eqb-false k i q))

pub gathered-all : (xs : List ℕ) (i : ℕ) (rs : List Register) → 16 ≤ i → Gathering xs i rs → rs ≡ registers_of xs
gathered-all xs i rs h g = registers-are xs rs g.room (λ k l. g.taken k (omega (arith, h, l)))

-- the first i numbers after a return are there
pub record Ranked (frame : ℕ) (xs : List ℕ) (i : ℕ) (ns : List ℕ) : Type 0 where
  pub within : i ≤ 16
  pub room : length ns ≡ 16
  pub there : (k : ℕ) → k < i → get_or ns k 0 ≡ before frame (order_of frame (register_at xs k)) (registers_of xs)

pub ranked-on : (frame : ℕ) (xs : List ℕ) (i : ℕ) (ns : List ℕ) (n : ℕ) {place : ℕ} → i < 16 → Ranked frame xs i ns → place ≡ order_of frame (register_at xs i)
    → n ≡ before frame place (registers_of xs) → Ranked frame xs (i + 1) (set ns i n)
ranked-on frame xs i ns n h g p e = record { within = omega (arith, h); room = length-set ns i n ∙ g.room; there = at }
  where
    at : (k : ℕ) → k < i + 1 → get_or (set ns i n) k 0 ≡ before frame (order_of frame (register_at xs k)) (registers_of xs)
    at k l = by (eqb k i) refl
      where
        by : (t : Bool) → eqb k i ≡ t → get_or (set ns i n) k 0 ≡ before frame (order_of frame (register_at xs k)) (registers_of xs)
        by true q =
            let s = eqb-true k i q in
            ap (λ (j : ℕ). get_or (set ns i n) j 0) s ∙ get_or-set_same ns i n 0 (omega (arith, h, g.room)) ∙ e ∙
            ap (λ (x : ℕ). before frame x (registers_of xs)) (p ∙ ap (λ (j : ℕ). order_of frame (register_at xs j)) (sym s))
        by false q = get_or-set_other ns i k n 0 (eqb-false k i q) ∙ g.there k (strict k i (omega (arith, l)) (eqb-false k i q))

pub ranked-all : (frame : ℕ) (xs : List ℕ) (i : ℕ) (ns : List ℕ) → 16 ≤ i → Ranked frame xs i ns → Ranks frame xs ns
ranked-all frame xs i ns h g k l = g.there k (omega (arith, h, l))
