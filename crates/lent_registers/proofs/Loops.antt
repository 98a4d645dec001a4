-- The loops of a match, an entry and a return: each changes one register more.
use Rattle.std.specs.Prelude.{if◌then◌else◌}
use Prim.Native.Nat.{ℕ, ◌+◌, ◌-◌, ◌<◌, ◌≤◌}
use native.Mathlib.Omega.{arith}
use mathlib.Core.Bool.{Bool, true, false}
use mathlib.Core.List.{List, map}
use mathlib.Core.Path.{◌≡◌, refl, sym, ap, ◌∙◌}
use lib.Dec.{eqb, ltb}
use lib.ListN.{length, get_or, set, length-set}
use Rattle.words.specs.Answer.{refuse, ok}
use Rattle.words.specs.Bit.{bit}
use Rattle.state.specs.declared.record.Capability.{Capability}
use Rattle.state.specs.declared.record.Register.{Register}
use Rattle.state.specs.Record.{no_capability}
use Rattle.recent.specs.Registers.{register, numbered, risen, entered_in, order_of, before, cleared_in}
use Rattle.recent.specs.Found.{holds, held_of}
use Rattle.lent_registers.specs.Columns.{register_at, registers_from, registers_of}
use Rattle.lent_registers.specs.Private.{row_of, put_at, entered_at, cleared_at}
use Rattle.lent_registers.proofs.Rows.{put-length}
use Rattle.lent_registers.proofs.Changed.{only-number, only-put}
use Rattle.lent_registers.proofs.Mapped.{Mapped, mapped-none, mapped_at, mapped_next, mapped-all, from_next}

pub put-room : (xs : List ℕ) (i : ℕ) (r : Register) → length (put_at xs i r) ≡ length xs
unfolding put_at
put-room xs i r = put-length (set xs i r.recency) i 1 (row_of r) ∙ length-set xs i r.recency

-- the columns ys of a loop that has changed the first i registers of xs by f
pub record Changing (f : Register → Register) (i : ℕ) (xs ys : List ℕ) : Type 0 where
  pub within : i ≤ 16
  pub room : length ys ≡ 160
  pub mapped : Mapped f i xs ys

pub begins : (f : Register → Register) (xs : List ℕ) → length xs ≡ 160 → Changing f 0 xs xs
begins f xs room = record { within = omega arith; room = room; mapped = mapped-none f xs }

pub changed-all : (f : Register → Register) (i : ℕ) (xs ys : List ℕ) → 16 ≤ i → Changing f i xs ys → registers_of ys ≡ map f (registers_of xs)
changed-all f i xs ys h c = mapped-all f xs ys (rw (sixteen i h c.within) at c.mapped)
  where
    sixteen : (i : ℕ) → 16 ≤ i → i ≤ 16 → i ≡ 16
    sixteen i h l = omega (arith, h, l)

abbrev pub risen_in : ℕ → Register → Register
risen_in old r = numbered r (risen old r.recency)

module _ (xs ys zs : List ℕ) (i : ℕ) (h : i < 16) where
  pub rises-on : (old n : ℕ) → Changing (risen_in old) i xs ys → n ≡ risen old (get_or ys i 0) → zs ≡ set ys i n → Changing (risen_in old) (i + 1) xs zs
  unfolding register_at
  rises-on old n c e z =
      rw z
      (record { within = omega (arith, h); room = length-set ys i n ∙ c.room; mapped = mapped_next (risen_in old) xs i ys (set ys i n) (λ r. numbered r n) c.mapped h (only-number ys c.room i h n) (ap (numbered (register_at ys i)) e) })

  pub enters_on : (d : Capability) (frame : ℕ) → Changing (entered_in d frame) i xs ys → zs ≡ entered_at ys i (register d frame 15) → Changing (entered_in d frame) (i + 1) xs zs
  unfolding register_at
  enters_on d frame c z = rw z (by (eqb (get_or ys i 0) 0) refl)
    where
      entry : Register
      entry = register d frame 15

      by : (t : Bool) → eqb (get_or ys i 0) 0 ≡ t → Changing (entered_in d frame) (i + 1) xs (if t then put_at ys i entry else set ys i (get_or ys i 0 - 1))
      by true e =
          (record { within = omega (arith, h); room = put-room ys i entry ∙ c.room; mapped = mapped_next (entered_in d frame) xs i ys (put_at ys i entry) (λ r. entry) c.mapped h (only-put ys c.room i h entry) (rw e refl) })
      by false e =
          (record {
            within = omega (arith, h);
            room = length-set ys i (get_or ys i 0 - 1) ∙ c.room;
            mapped = mapped_next (entered_in d frame) xs i ys (set ys i (get_or ys i 0 - 1)) (λ r. numbered r (get_or ys i 0 - 1)) c.mapped h
                (only-number ys c.room i h (get_or ys i 0 - 1)) (rw e refl);
          })

  abbrev goes : ℕ → Register → Register
  goes frame = cleared_in frame (registers_of xs)

  pub clears-on : (frame n : ℕ) → Changing (goes frame) i xs ys → n ≡ before frame (order_of frame (register_at xs i)) (registers_of xs)
      → zs ≡ cleared_at ys i frame n → Changing (goes frame) (i + 1) xs zs
  unfolding register_at
  clears-on frame n c e z = rw z (by (eqb (get_or ys (16 + i) 0) frame) refl)
    where
      same : n ≡ before frame (order_of frame (register_at ys i)) (registers_of xs)
      same = e ∙ ap (λ (r : Register). before frame (order_of frame r) (registers_of xs)) (sym (mapped_at (goes frame) xs i ys c.mapped h))

      by : (t : Bool) → eqb (get_or ys (16 + i) 0) frame ≡ t → Changing (goes frame) (i + 1) xs (if t then put_at ys i (register no_capability 0 n) else set ys i n)
      by true q =
          (record {
            within = omega (arith, h);
            room = put-room ys i (register no_capability 0 n) ∙ c.room;
            mapped = mapped_next (goes frame) xs i ys (put_at ys i (register no_capability 0 n)) (λ r. register no_capability 0 n) c.mapped h
                (only-put ys c.room i h (register no_capability 0 n)) (rw q (ap (register no_capability 0) same));
          })
      by false q =
          (record { within = omega (arith, h); room = length-set ys i n ∙ c.room; mapped = mapped_next (goes frame) xs i ys (set ys i n) (λ r. numbered r n) c.mapped h (only-number ys c.room i h n) (rw q (ap (numbered (register_at ys i)) same)) })

-- the loop of a rank: n of the first i registers come before the place
pub record Ranking (frame place : ℕ) (xs : List ℕ) (i n : ℕ) : Type 0 where
  pub within : i ≤ 16
  pub most : n ≤ i
  pub rest : before frame place (registers_of xs) ≡ n + before frame place (registers_from xs (16 - i) i)

module _ (frame place : ℕ) (xs : List ℕ) where
  pub ranks-none : Ranking frame place xs 0 0
  unfolding registers_of
  ranks-none = record { within = omega arith; most = omega arith; rest = omega arith }

  pub ranks-next : (i n b : ℕ) → i < 16 → Ranking frame place xs i n → b ≡ bit (ltb (order_of frame (register_at xs i)) place) → b ≤ 1 → Ranking frame place xs (i + 1) (n + b)
  unfolding before
  ranks-next i n b h r e l =
      let q : before frame place (registers_from xs (16 - i) i) ≡ b + before frame place (registers_from xs (16 - (i + 1)) (i + 1)) =
      ap (before frame place) (from_next xs i h) ∙ ap (λ (x : ℕ). x + before frame place (registers_from xs (16 - (i + 1)) (i + 1))) (sym e) in
      record { within = omega (arith, h); most = omega (arith, r.most, l); rest = omega (arith, r.rest, q) }

  pub ranks-all : (i n : ℕ) → 16 ≤ i → Ranking frame place xs i n → n ≡ before frame place (registers_of xs)
  unfolding before
  ranks-all i n h r =
      let z : 16 - i ≡ 0 = omega (arith, h) in
      let q : before frame place (registers_from xs (16 - i) i) ≡ 0 = ap (λ (k : ℕ). before frame place (registers_from xs k i)) z in
      omega (arith, r.rest, q)

-- the loop of a lookup: none of the first i registers holds a match
pub record Looking (depth : ℕ) (fits : Capability → Bool) (xs : List ℕ) (i : ℕ) : Type 0 where
  pub within : i ≤ 16
  pub rest : held_of depth fits (registers_of xs) ≡ held_of depth fits (registers_from xs (16 - i) i)

module _ (depth : ℕ) (fits : Capability → Bool) (xs : List ℕ) (i : ℕ) where
  pub looks-none : Looking depth fits xs 0
  unfolding registers_of
  looks-none = record { within = omega arith; rest = refl }

  module _ (h : i < 16) (l : Looking depth fits xs i) where
    pub looks-hit : holds depth fits (register_at xs i) ≡ true → held_of depth fits (registers_of xs) ≡ ok (register_at xs i)
    unfolding held_of
    looks-hit t = l.rest ∙ ap (held_of depth fits) (from_next xs i h) ∙ ap (λ (b : Bool). if b then ok (register_at xs i) else held_of depth fits (registers_from xs (16 - (i + 1)) (i + 1))) t

    pub looks_on : holds depth fits (register_at xs i) ≡ false → Looking depth fits xs (i + 1)
    unfolding held_of
    looks_on t =
        record {
          within = omega (arith, h);
          rest = l.rest ∙ ap (held_of depth fits) (from_next xs i h) ∙ ap (λ (b : Bool). if b then ok (register_at xs i) else held_of depth fits (registers_from xs (16 - (i + 1)) (i + 1))) t;
        }

  pub looks-all : 16 ≤ i → Looking depth fits xs i → held_of depth fits (registers_of xs) ≡ refuse 24
  unfolding held_of
  looks-all h l = l.rest ∙ ap (λ (k : ℕ). held_of depth fits (registers_from xs k i)) (zero_is i h)
    where
      zero_is : (i : ℕ) → 16 ≤ i → 16 - i ≡ 0
      zero_is i h = omega (arith, h)
