-- How a loop comes to the rows of all domains.
use Prim.Native.Nat.{ℕ, zero, suc, ◌+◌, ◌-◌, ◌*◌, ◌<◌, ◌≤◌}
use native.Mathlib.Omega.{arith}
use mathlib.Core.Path.{◌≡◌, refl, sym, ap, ◌∙◌}
use mathlib.Core.List.{List, [], ◌∷◌, ◌++◌, append_assoc}
use lib.ListN.{length, take, drop, set, replicate, length-append, length-drop, length-replicate, replicate-append-replicate}
use lib.Seq.{paste, take_at, drop-append-add, drop-drop, length-take-le}
use borrow.Rule.Slice.PartMut.{put_mid}
use Rattle.words.specs.Answer.{refuse, ok}
use Rattle.image_format.specs.Bytes.{joined}
use Rattle.image_format.specs.Chunk.{Read, chunk_of, exactly}
use Rattle.image_format.specs.Domain.{Domain, domain_read, domain_of, domains_of, stacks_of}
use Rattle.image_format.specs.Image.{padded, all_rows}
use Rattle.image_format.proofs.Answers.{bound}
use Rattle.image_format.proofs.Chunks.{exact-room}
use Rattle.image_format.proofs.Joined.{joined_snoc}
use Rattle.image_format.proofs.Padded.{padded-length, column-next}
use Rattle.image_reader.proofs.Runs.{SoFar, so-far-none, so-far-done, so-far-refused, so-far-next}
use Rattle.image_reader.specs.Private.{domain_rows}

domain-room : (segments : ℕ) (bytes : List ℕ) {d : Read Domain} → domain_of segments bytes ≡ ok d → 4 + (1 + segments) ≤ length bytes
unfolding domain_of
domain-room segments bytes e = exact-room 3 (1 + segments) bytes (bound (chunk_of 3 (exactly (1 + segments)) bytes) (domain_read segments) e).is

-- a domain of the code, as it is read
abbrev pub domain_in : List ℕ → ℕ → ℕ → ℕ → Read Domain
domain_in image at segments stack =
    record { value = record { stack = stack; rights = take segments (drop (at + 5) image) }; rest = drop (at + 5 + segments) image }

abbrev rights_row : Domain → List ℕ
rights_row d = padded 16 d.rights

abbrev zeros : ℕ → List ℕ
zeros n = replicate n 0

drop-zeros : (n k : ℕ) → n ≤ k → drop n (zeros k) ≡ zeros (k - n)
drop-zeros zero k h = ap (λ (m : ℕ). zeros m) (let e : k ≡ k - 0 = omega arith in e)
drop-zeros (suc n) zero h = absurd (omega arith)
drop-zeros (suc n) (suc k) h = drop-zeros n k (omega arith) ∙ ap (λ (m : ℕ). zeros m) (let e : k - n ≡ suc k - suc n = omega arith in e)

-- one row of 16 more
padded-row : (xs ys row : List ℕ) (i n : ℕ) → length xs ≡ 16 * i → i < 8 → n ≤ 16 → take n ys ≡ row → length row ≡ n
    → paste (padded 128 xs) (16 * i) ys n ≡ padded 128 (xs ++ padded 16 row)
unfolding padded
padded-row xs ys row i n e h l t w =
    let z = zeros (128 - length xs) in
    let a : take (16 * i) (xs ++ z) ≡ xs = take_at xs z (16 * i) e in
    let b : drop (16 * i + n) (xs ++ z) ≡ zeros (128 - length xs - n) =
    ap (λ (k : ℕ). drop (k + n) (xs ++ z)) (sym e) ∙ drop-append-add xs z n ∙ drop-zeros n (128 - length xs) (omega arith) in
    let q : length (row ++ zeros (16 - length row)) ≡ 16 = length-append row (zeros (16 - length row)) ∙ ap (λ (k : ℕ). length row + k) (length-replicate (16 - length row) 0) ∙ (let y : length row + (16 - length row) ≡ 16 = omega arith in y) in
    let r : length (xs ++ (row ++ zeros (16 - length row))) ≡ length xs + 16 = length-append xs _ ∙ ap (λ (k : ℕ). length xs + k) q in
    let s : (16 - length row) + (128 - (length xs + 16)) ≡ 128 - length xs - n = omega arith in
    (λ j. a j ++ t j ++ b j) ∙
    ap (λ (k : ℕ). (xs ++ row) ++ zeros k) (sym s) ∙
    ap (λ (m : List ℕ). (xs ++ row) ++ m) (sym (replicate-append-replicate (16 - length row) (128 - (length xs + 16)) 0)) ∙
    sym (append_assoc (xs ++ row) (zeros (16 - length row)) (zeros (128 - (length xs + 16)))) ∙
    ap (λ (m : List ℕ). m ++ zeros (128 - (length xs + 16))) (append_assoc xs row (zeros (16 - length row))) ∙
    ap (λ (k : ℕ). (xs ++ (row ++ zeros (16 - length row))) ++ zeros (128 - k)) (sym r)

-- a row that is copied over a part
pub row_put : (rs xs ys : List ℕ) (a k m n : ℕ) → k ≡ n → m ≡ n → ys ≡ take m xs → put_mid a k rs ys ≡ paste rs a xs n
row_put rs xs ys a k m n e f h =
    rw (h, e, f) ((λ j. take a rs ++ (take n xs ++ drop-drop n a rs j)) ∙ sym (append_assoc (take a rs) (take n xs) (drop (a + n) rs)))

pub record DomainsSoFar (image : List ℕ) (start count segments : ℕ) (ss rs : List ℕ) (at i : ℕ) : Type 0 where
  pub rows : List Domain
  pub read : SoFar rows count i (domains_of count segments (drop start image)) (λ n. domains_of n segments (drop at image))
  pub stacks : ss ≡ padded 8 (stacks_of rows)
  pub rights : rs ≡ padded 128 (all_rows rows)
  pub full : length (all_rows rows) ≡ 16 * i

pub domains-none : {image : List ℕ} {start count segments : ℕ} {ss rs : List ℕ} → ss ≡ padded 8 [] → rs ≡ padded 128 [] → DomainsSoFar image start count segments ss rs start 0
unfolding joined
domains-none {image} {start} {count} {segments} a b =
    record { rows = []; read = so-far-none count (λ n. domains_of n segments (drop start image)); stacks = a; rights = b; full = refl }

module _ {image : List ℕ} {start count segments : ℕ} {ss rs : List ℕ} {at i : ℕ} (f : DomainsSoFar image start count segments ss rs at i) where
  pub domains-done : count ≤ i → ok (record { stacks = ss; rights = rs; rest = drop at image }) ≡ domain_rows (domains_of count segments (drop start image))
  unfolding domain_rows domains_of
  domains-done h = (λ j. ok (record { stacks = f.stacks j; rights = f.rights j; rest = drop at image })) ∙ sym (ap domain_rows (so-far-done f.read (drop at image) h refl))

  module _ (less : i < count) where
    pub domains-refused : {n : ℕ} → refuse n ≡ domain_of segments (drop at image) → refuse n ≡ domain_rows (domains_of count segments (drop start image))
    unfolding domain_rows domains_of
    domains-refused {n} e = sym (ap domain_rows (so-far-refused f.read less n (rw (← e))))

    module _ (few : (count ≤ 8) × (segments ≤ 16)) {stack : ℕ} (e : ok (domain_in image at segments stack) ≡ domain_of segments (drop at image)) where
      pub domain-fits : at + 5 + segments ≤ length image
      domain-fits = omega (arith, domain-room segments (drop at image) (sym e), length-drop at image)

      abbrev d : Domain
      d = (domain_in image at segments stack).value

      size : length d.rights ≡ segments
      size = length-take-le segments (drop (at + 5) image) (omega (arith, domain-fits, length-drop (at + 5) image))

      pub domains-next : DomainsSoFar image start count segments (set ss i stack) (paste rs (16 * i) (drop (at + 5) image) segments) (at + 5 + segments) (i + 1)
      unfolding domains_of
      domains-next =
          record {
            rows = f.rows ++ (d ∷ []);
            read = so-far-next f.read less d (λ n. domains_of n segments (drop (at + 5 + segments) image)) (rw (← e));
            stacks = column-next 8 (λ d. d.stack) f.rows d f.stacks f.read.counted (omega arith) refl;
            rights =
                ap (λ (l : List ℕ). paste l (16 * i) (drop (at + 5) image) segments) f.rights ∙
                padded-row (all_rows f.rows) (drop (at + 5) image) d.rights i segments f.full (omega arith) few.1 refl size ∙
                ap (padded 128) (sym (joined_snoc rights_row f.rows d));
            full =
                ap length (joined_snoc rights_row f.rows d) ∙ length-append (all_rows f.rows) (padded 16 d.rights) ∙
                (let p : length (padded 16 d.rights) ≡ 16 = padded-length 16 d.rights (omega (arith, size)) in omega (arith, f.full, p));
          }
