-- The registers' contents stay sound: by a match, by an entry, by a call, by a return.
use Rattle.std.specs.Prelude.{if◌then◌else◌}
use Prim.Native.Nat.{ℕ, ◌+◌, ◌-◌, ◌≤◌}
use native.Mathlib.Omega.{arith}
use mathlib.Core.Bool.{Bool, true, false}
use mathlib.Core.List.{List, map}
use mathlib.Core.Path.{◌≡◌, refl}
use borrow.Author.Tests.{eqb-false}
use lib.Dec.{eqb}
use lib.ListN.{get_or, set}
use lib.Seq.{get_or-set_other}
use Rattle.state.specs.declared.record.Capability.{Capability}
use Rattle.state.specs.declared.record.Frame.{Frame}
use Rattle.state.specs.declared.record.Register.{Register}
use Rattle.state.specs.Record.{no_capability, no_frame}
use Rattle.recent.specs.Entering.{may_enter, capabilities_of}
use Rattle.recent.specs.Registers.{register, numbered, risen, touched, entered_in, with_entry, order_of, before, cleared_in, cleared}
use Rattle.recent.specs.SoundRegisters.{contents_test}
use Rattle.recent.proofs.Logic.{strict}
use Rattle.recent.proofs.Contents.{RegisterSound, Holds, empty, full, holds, held, renamed, contents-map, contents-each}

module _ (d : ℕ) (fs : List Frame) (rs : List Register) (t : contents_test d fs rs ≡ true) where
  pub touched-contents : (old : ℕ) → contents_test d fs (touched old rs) ≡ true
  unfolding touched
  touched-contents old = by (eqb old 15)
    where
      by : (u : Bool) → contents_test d fs (if u then rs else map (λ r. numbered r (risen old r.recency)) rs) ≡ true
      by true = t
      by false = contents-map d d fs fs (λ r. numbered r (risen old r.recency)) (λ r h. renamed d fs r (risen old r.recency) h) rs t

  pub entered-contents : (c : Capability) → 1 ≤ d → may_enter (capabilities_of (get_or fs (d - 1) no_frame)) c ≡ true → contents_test d fs (with_entry c d rs) ≡ true
  unfolding with_entry
  entered-contents c l m = contents-map d d fs fs (entered_in c d) (λ r h. by r (eqb r.recency 0) h) rs t
    where
      by : (r : Register) (u : Bool) → RegisterSound d fs r → RegisterSound d fs (if u then register c d 15 else numbered r (r.recency - 1))
      by r true h = held d fs (register c d 15) (full l (omega arith) m)
      by r false h = renamed d fs r (r.recency - 1) h

  pub called-contents : (f : Frame) → contents_test (d + 1) (set fs d f) rs ≡ true
  called-contents f = contents-each d (d + 1) fs (set fs d f) (λ r h. by r (holds d fs r h)) rs t
    where
      by : (r : Register) → Holds d fs r → RegisterSound (d + 1) (set fs d f) r
      by r (empty e c) = held (d + 1) (set fs d f) r (empty e c)
      by r (full ne l m) =
          held (d + 1) (set fs d f) r (full ne (omega (arith, l))
          (rw (get_or-set_other fs d (r.frame - 1) f no_frame (λ q. omega (arith, q, l, ne))) m))

  pub cleared-contents : (f : Frame) → 1 ≤ d → contents_test (d - 1) (set fs (d - 1) f) (cleared d rs) ≡ true
  unfolding cleared
  cleared-contents f l = contents-map d (d - 1) fs (set fs (d - 1) f) (cleared_in d rs) (λ r h. by r (holds d fs r h) (eqb r.frame d) refl) rs t
    where
      n : Register → ℕ
      n r = before d (order_of d r) rs

      by : (r : Register) → Holds d fs r → (u : Bool) → eqb r.frame d ≡ u
          → RegisterSound (d - 1) (set fs (d - 1) f) (if u then register no_capability 0 (n r) else numbered r (n r))
      by r h true e = held (d - 1) (set fs (d - 1) f) (register no_capability 0 (n r)) (empty refl refl)
      by r (empty z c) false e = held (d - 1) (set fs (d - 1) f) (numbered r (n r)) (empty z c)
      by r (full ne k m) false e =
          let less = strict r.frame d k (eqb-false r.frame d e) in
          held (d - 1) (set fs (d - 1) f) (numbered r (n r)) (full ne (omega (arith, less))
          (rw (get_or-set_other fs (d - 1) (r.frame - 1) f no_frame (λ q. omega (arith, q, ne, less))) m))
