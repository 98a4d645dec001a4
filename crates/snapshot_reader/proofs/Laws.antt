-- What calls with each number below n make of an array or of a test, zeros, and which bytes of a record are looked at.
use Prim.Native.Nat.{ℕ, zero, suc, ◌+◌, ◌*◌, ◌<◌, ◌≤◌, ◌-◌, max}
use native.Mathlib.Omega.{arith}
use native.Mathlib.Decide.{ℕ_discrete}
use native.Mathlib.Numerals.{add-one}
use mathlib.Core.Path.{◌≡◌, refl, sym, ap, ◌∙◌, subst}
use mathlib.Core.Bool.{Bool, true, false, ◌&&◌}
use mathlib.Core.List.{List}
use borrow.Author.Tests.{le-leb, eq-eqb, ne_eqb}
use lib.Dec.{eqb}
use lib.ListN.{length, get_or, take, drop}
use Rattle.std.proofs.iter.Yields.{nat_range_steps}
use Rattle.std.proofs.lemmas.Iterator.{cases_from_all, YieldsList-from_range}
use Rattle.std.proofs.lemmas.List.FromFn.{length-range_with_len, get_or-range_with_len}
use Rattle.std.specs.Bool.{MatchBool}
use Rattle.std.specs.Iterator.{YieldsThen}
use Rattle.std.specs.List.{range_with_len, FoldsTo, AllWithin, HoldsAt}
use Rattle.std.specs.Option.{MatchOption}
use Rattle.std.specs.Prelude.{Option}
use Rattle.std.specs.declared.ops.Range.{Range}
use Rattle.std.specs.Array.{IsFromFnResult, IsFromFnResultFrom}
use denote.Param.Members.{Mut, Called}
use lib.Seq.{ext_get_or, get_or-take}
use Rattle.std.proofs.lemmas.List.{get_or-drop, length-drop, length-take-le}
use Rattle.words.specs.Answer.{require, number_of}
use Rattle.words.specs.Numbers.{not_sound}
use Rattle.layout_soundness.specs.SoundLayout.{all_from}
use Rattle.layout_soundness.proofs.All.{one_more, each, all}
use Rattle.state.specs.Record.{free_frame}
use Rattle.snapshot_format.specs.Tabulate.{tabulate}
use Rattle.snapshot_format.specs.Format.{byte_form, rows_of, counted, zeros}
use Rattle.snapshot_format.specs.RecordForm.{pointer_form, frame_form, register_form, record_form}
use Rattle.snapshot_format.proofs.Fill.{tabulate-length, tabulate-at}
use Rattle.snapshot_reader.specs.Formed.{formed}

-- the number that enough bytes get: those of the pointers, of the frames and of the recent capabilities decide it
module _ (b : List ℕ) where
  abbrev flags-proper : Bool
  flags-proper = (rows_of 8 pointer_form).proper b 230 && ((counted 8 free_frame frame_form).proper b 262 && (rows_of 16 register_form).proper b 919)

  record-proper : record_form.proper b 0 ≡ flags-proper
  unfolding all_from
  record-proper = refl

  pub formed-as : (r : Bool) → 1079 ≤ length b → r ≡ flags-proper → number_of (require r not_sound) ≡ number_of (formed b)
  unfolding formed
  formed-as r h e = simp (le-leb _ _ h) (ap (λ (t : Bool). number_of (require t not_sound)) (e ∙ sym record-proper))

-- a test of one number more
all-next : (p : ℕ → Bool) (k i : ℕ) → all_from (k + 1) i p ≡ (all_from k i p && p (i + k))
all-next p k i = ap (λ (n : ℕ). all_from n i p) (add-one k) ∙ one_more k i p

-- the highest of some bytes is zero if and only if each is
zero-both : (a x h : ℕ) → a ≤ h → x ≤ h → h ≤ a + x → eqb h 0 ≡ (eqb a 0 && eqb x 0)
zero-both a x h p q r = by (ℕ_discrete a 0) (ℕ_discrete x 0)
  where
    by : Dec (a ≡ 0) → Dec (x ≡ 0) → eqb h 0 ≡ (eqb a 0 && eqb x 0)
    by (yes e) (yes f) = simp (eq-eqb a 0 e, eq-eqb x 0 f, eq-eqb h 0 (omega arith))
    by (yes e) (no f) = simp (eq-eqb a 0 e, ne_eqb x 0 f, ne_eqb h 0 (λ z. f (omega arith)))
    by (no e) f = simp (ne_eqb a 0 e, ne_eqb h 0 (λ z. e (omega arith)))

pub zeros-next : (b : List ℕ) (i n k a : ℕ) → i + n ≤ length b → k < n → eqb a 0 ≡ zeros b i k → eqb (max a (get_or (take (i + n - i) (drop i b)) k 0)) 0 ≡ zeros b i (k + 1)
zeros-next b i n k a l m e =
    let x : get_or (take (i + n - i) (drop i b)) k 0 ≡ get_or b (i + k) 0 = get_or-take (i + n - i) (drop i b) k 0 (omega arith) ∙ get_or-drop i b k 0 in
    rw x
    (zero-both a (get_or b (i + k) 0) (max a (get_or b (i + k) 0)) (omega arith) (omega arith) (omega arith) ∙ ap (λ (t : Bool). t && eqb (get_or b (i + k) 0) 0) e ∙ sym (all-next (λ j. eqb (get_or b j 0) 0) k i))

-- an array made by calls that change nothing
module _ {F A : Type 0} (g : Mut F (ℕ × Unit {0}) A) (f : F) (h : ℕ → A) (d : A) (ys : List A) (same : (k : ℕ) (y : A) (q : F) → Called g f (k, tt) y q → (q ≡ f) × (y ≡ h k)) where
  made-from : (n i : ℕ) (p : F) → p ≡ f → IsFromFnResultFrom g p ys i n → (k : ℕ) → i ≤ k → k < i + n → get_or ys k d ≡ h k
  made-from zero i p e m k a b = absurd (omega arith)
  made-from (suc n) i p e m k a b =
      let s = same i m.1 m.0 (subst (λ (r : F). Called g r (i, tt) m.1 m.0) e m.3) in
      by (ℕ_discrete i k) (m.2.1 d ∙ s.1) (λ l. made-from n (i + 1) m.0 s.0 m.4 k l (omega arith))
    where
      by : Dec (i ≡ k) → get_or ys i d ≡ h i → (i + 1 ≤ k → get_or ys k d ≡ h k) → get_or ys k d ≡ h k
      by (yes q) t r = subst (λ (j : ℕ). get_or ys j d ≡ h j) q t
      by (no q) t r = r (omega (arith, q))

  pub made : (n : ℕ) → IsFromFnResult g f ys n → ys ≡ tabulate n h
  made n m =
      ext_get_or d ys (tabulate n h) (m.long ∙ sym (tabulate-length h n))
      (λ k l. made-from n 0 f refl m.each k (omega arith) (omega (arith, m.long)) ∙ sym (tabulate-at h d n k (omega (arith, m.long))))

-- the n bytes from a place on are a row of bytes
pub row-taken : (b : List ℕ) (i n : ℕ) → i + n ≤ length b → take (i + n - i) (drop i b) ≡ (rows_of n byte_form).value b i
row-taken b i n h =
    let long : length (take (i + n - i) (drop i b)) ≡ n = length-take-le (i + n - i) (drop i b) (omega (arith, h, length-drop i b)) ∙ omega arith in
    ext_get_or 0 (take (i + n - i) (drop i b)) (tabulate n (λ k. get_or b (i + k * 1) 0)) (long ∙ sym (tabulate-length _ n))
    (λ k l. get_or-take (i + n - i) (drop i b) k 0 (omega (arith, long)) ∙ get_or-drop i b k 0 ∙ ap (λ (j : ℕ). get_or b (i + j) 0) (let e : k ≡ k * 1 = omega arith in e) ∙ sym (tabulate-at (λ (j : ℕ). get_or b (i + j * 1) 0) 0 n k (omega (arith, long))))

one-fails : (n : ℕ) (p : ℕ → Bool) (k : ℕ) → k < n → p k ≡ false → false ≡ all_from n 0 p
one-fails n p k h e = by (all_from n 0 p) refl
  where
    by : (t : Bool) → all_from n 0 p ≡ t → false ≡ t
    by true q = sym e ∙ each n p q k h
    by false q = refl

-- a test of each number below n by calls that change nothing
module _ {F : Type 0} (g : Mut F (ℕ × Unit {0}) Bool) (f : F) (p : ℕ → Bool) (r : Bool) (same : (k : ℕ) (y : Bool) (q : F) → Called g f (k, tt) y q → (q ≡ f) × (y ≡ p k)) where
  pub tested : (n : ℕ) (u : Range ℕ) → (xs : List ℕ) × (o : Option ℕ) × (j : F) × YieldsThen nat_range_steps (record { start = 0; end = n }) xs o u × FoldsTo (λ q x s. Called g q (x, tt) true s) f xs j × MatchOption o (r ≡ true) (λ x. (r ≡ false) × ((h : F) × Called g j (x, tt) false h)) → r ≡ all_from n 0 p
  tested n u ran =
      by r
      (cases_from_all u f r (λ k. p k ≡ true) (λ k. p k ≡ false) ran (YieldsList-from_range 0 n n refl (omega arith)) (λ x q c. let s = same x true q c in (s.0, sym s.1)) (λ x q c. sym (same x false q c).1))
    where
      there : (k : ℕ) → k < n → get_or (range_with_len 0 n) k 0 ≡ k
      there k h = get_or-range_with_len 0 n k 0 h ∙ omega arith

      by : (t : Bool) → MatchBool t (AllWithin (λ k. p k ≡ true) (range_with_len 0 n) 0 (length (range_with_len 0 n))) ((k : ℕ) × (k < length (range_with_len 0 n)) × HoldsAt (λ k. p k ≡ false) (range_with_len 0 n) k) → t ≡ all_from n 0 p
      by true w = sym (all n p (λ k h. subst (λ j. p j ≡ true) (there k h) (w k 0 (omega arith) (omega (arith, length-range_with_len 0 n)))))
      by false w =
          let h : w.0 < n = omega (arith, w.1, length-range_with_len 0 n) in
          one-fails n p w.0 h (subst (λ j. p j ≡ false) (there w.0 h) (w.2 0))
