-- Two runs of one machine that store alike are isolated.
use Prim.Native.Nat.{ℕ, ◌≤◌}
use mathlib.Core.List.{List, [], ◌++◌}
use mathlib.Core.Logic.{◌⊎◌, inl, inr}
use mathlib.Core.Option.{Option, none, some, get_or}
use mathlib.Core.Path.{◌≡◌, refl, sym, ap, ◌∙◌}
use lib.ListN.{length}
use Rattle.words.specs.declared.pointer.Pointer.{Pointer}
use Rattle.state.specs.declared.record.Register.{Register}
use Rattle.state.specs.declared.record.Machine.{Machine}
use Rattle.state.specs.Bases.{words_in}
use Rattle.runs.specs.Step.{moved_to}
use Rattle.runs.specs.Run.{Ran, ran, Ending}
use Rattle.executions.proofs.Fit.{Fits, Fit}
use Rattle.isolation.specs.Visible.{may_see, could_write, word_at}
use Rattle.isolation.specs.Stores.{Store, stored_all, received, Each}
use Rattle.isolation.specs.Isolation.{Agree, Unchanged, Received, Writable, Isolated}
use Rattle.isolation.proofs.Unseen.{seen-there}
use Rattle.isolation.proofs.Stored.{stored-length, stored_on, each_on, after-stores, same_after, kept-after}

-- two memories that hold all words, and agree on those that the domain may see; the registers fit
pub record Ready (m : Machine) (w v : List ℕ) : Type 0 where
  pub first : words_in m.layout.lengths ≤ length w
  pub second : words_in m.layout.lengths ≤ length v
  pub agree : Agree m w v
  pub fit : Fit m

-- two runs end alike, and each memory is the one at the start with the same stores made
pub record Alike (m : Machine) (w v : List ℕ) (x y : Ran) (xs ys : List Store) : Type 0 where
  pub machine : x.machine ≡ y.machine
  pub count : x.count ≡ y.count
  pub ending : x.ending ≡ y.ending
  pub stores : xs ≡ ys
  pub allowed : Each (Writable m) xs
  pub first : x.words ≡ stored_all m.layout.lengths w xs
  pub second : y.words ≡ stored_all m.layout.lengths v xs

-- they end here
pub ends : (m : Machine) (w v : List ℕ) (n : Machine) (c : ℕ) (e : Ending) → Alike m w v (ran n w c e) (ran n v c e) [] []
unfolding stored_all Each
ends m w v n c e = record { machine = refl; count = refl; ending = refl; stores = refl; allowed = tt; first = refl; second = refl }

-- they move on, with stores made in both: nothing changes of what the domain may see and could write
module _ (m : Machine) (a s o : ℕ) (ps : List Pointer) (rs : List Register) (h : Fits m rs) (made : List Store) (all : Each (Writable m) made) (w v : List ℕ) where
  pub ready_on : Ready m w v → Ready (moved_to m a s o ps rs) (stored_all m.layout.lengths w made) (stored_all m.layout.lengths v made)
  unfolding may_see
  ready_on r = record {
    first = rw stored-length r.first;
    second = rw stored-length r.second;
    agree = λ s k e. same_after m s k (seen-there m s k e) made all w v r.first r.second (r.agree s k e);
    fit = record { few = r.fit.few; recent = h };
  }

  pub alike-on : (x y : Ran) (xs ys : List Store)
      → Alike (moved_to m a s o ps rs) (stored_all m.layout.lengths w made) (stored_all m.layout.lengths v made) x y xs ys
      → Alike m w v x y (made ++ xs) (made ++ ys)
  unfolding could_write
  alike-on x y xs ys h = record {
    machine = h.machine;
    count = h.count;
    ending = h.ending;
    stores = ap (λ (more : List Store). made ++ more) h.stores;
    allowed = each_on (Writable m) made xs all h.allowed;
    first = h.first ∙ sym (stored_on m.layout.lengths w made xs);
    second = h.second ∙ sym (stored_on m.layout.lengths v made xs);
  }

pub isolated : (m : Machine) (w v : List ℕ) → Ready m w v → (x y : Ran) (xs ys : List Store) → Alike m w v x y xs ys → Isolated m w v x y xs ys
isolated m w v r x y xs ys h = record {
  machine = h.machine;
  count = h.count;
  ending = h.ending;
  seen = λ s k e. rw (h.first, h.second) (same_after m s k (seen-there m s k e) xs h.allowed w v r.first r.second (r.agree s k e));
  kept = λ s k e.
      kept s k (received s k xs) refl
      (rw h.first (after-stores m s k e xs h.allowed w r.first)) (rw h.second (after-stores m s k e xs h.allowed v r.second));
  unwritten = λ s k e c.
      rw (h.first, h.second) (kept-after m s k e xs h.allowed w r.first c, kept-after m s k e xs h.allowed v r.second c);
  stores = h.stores;
  allowed = h.allowed;
  made = (h.first, h.second ∙ ap (stored_all m.layout.lengths v) h.stores);
}
  where
    -- a word received one number last, the same in both, or none
    kept : (s k : ℕ) (o : Option ℕ) → received s k xs ≡ o
        → word_at m x.words s k ≡ get_or o (word_at m w s k) → word_at m y.words s k ≡ get_or o (word_at m v s k)
        → (Unchanged m w x s k × Unchanged m v y s k) ⊎ ((z : ℕ) × Received m x xs s k z × Received m y ys s k z)
    kept s k none e p q = inl (p, q)
    kept s k (some z) e p q = inr (z, (e, p), (ap (received s k) (sym h.stores) ∙ e, q))
