-- The layout of an image, as the code comes to it: row by row.
use Prim.Native.Nat.{ℕ}
use mathlib.Core.Path.{◌≡◌, refl, ap, ◌∙◌}
use mathlib.Core.Bool.{Bool, true, false}
use mathlib.Core.List.{List}
use lib.Dec.{eqb}
use lib.ListN.{length}
use Rattle.words.specs.Answer.{Answer, refuse, ok, ◌>>=◌, ◌>>◌, require}
use Rattle.state.specs.declared.record.Layout.{Layout}
use Rattle.layout_soundness.specs.SoundLayout.{gates_test}
use Rattle.image_format.specs.Chunk.{Read, chunk_of, exactly}
use Rattle.image_format.specs.Head.{head_of}
use Rattle.image_format.specs.Segment.{Segment, segments_of, lengths_of, gates_of, gatedomains_of}
use Rattle.image_format.specs.Domain.{Domain, domains_of, stacks_of}
use Rattle.image_format.specs.Image.{Image, chunks_of, image_of, layout_of, gates_pass, padded, all_rows}
use Rattle.image_reader.specs.Reader.{mapped}
use Rattle.image_format.specs.declared.Head.{Head}
use Rattle.image_format.proofs.Images.{segments-count, domains-count}
use Rattle.image_reader.specs.Private.{segment_rows, domain_rows, rows_layout, end_of, after_segments}

-- what is judged of the chunks that were read
abbrev judged_of : Read Image → Answer Image
judged_of i = require (gates_pass i.value) 10 >> require (eqb (length i.rest) 0) 6 >> ok i.value

module _ (h : Head) where
  -- the image, where its head, segments and domains are read
  abbrev image_with : Read (List Segment) → Read (List Domain) → Image
  image_with s d = record { start = h.start; segments = s.value; domains = d.value }

  abbrev after_domains : Read (List Segment) → Read (List Domain) → Answer (Read Image)
  after_domains s d = chunk_of 4 (exactly 0) d.rest >>= (λ e. ok (record { value = image_with s d; rest = e.rest }))

  ends : (k : Answer (Read (List ℕ))) (i : Image) (l : Layout) → layout_of i ≡ l
      → mapped layout_of ((k >>= (λ e. ok (record { value = i; rest = e.rest }))) >>= judged_of) ≡
      ((k >>= (λ c. require (gates_test l.gates l.gatedomains l.rights) 10 >> require (eqb (length c.rest) 0) 6)) >> ok l)
  ends (refuse n) i l q = refl
  ends (ok c) i l q = by (gates_pass i) (eqb (length c.rest) 0) ∙ ap (λ (x : Layout). (require (gates_test x.gates x.gatedomains x.rights) 10 >> require (eqb (length c.rest) 0) 6) >> ok l) q
    where
      by : (p z : Bool) → mapped layout_of (require p 10 >> require z 6 >> ok i) ≡ ((require p 10 >> require z 6) >> ok l)
      by false z = refl
      by true false = refl
      by true true = ap ok q

  same : (s : Read (List Segment)) (d : Read (List Domain)) → length s.value ≡ h.segments → length d.value ≡ h.domains
      → layout_of (image_with s d) ≡
      record {
        lengths = padded 16 (lengths_of s.value);
        gates = padded 16 (gates_of s.value);
        start = h.start;
        gatedomains = padded 16 (gatedomains_of s.value);
        stacks = padded 8 (stacks_of d.value);
        rights = padded 128 (all_rows d.value);
        segments = h.segments;
        domains = h.domains;
      }
  unfolding layout_of
  same s d m k = rw (m, k)

  with-domains : (s : Read (List Segment)) (b : Answer (Read (List Domain))) → length s.value ≡ h.segments → domains_of h.domains h.segments s.rest ≡ b
      → mapped layout_of ((b >>= after_domains s) >>= judged_of) ≡
      (segment_rows (ok s) >>= (λ r. domain_rows b >>= (λ d. end_of (gates_test r.gates r.gatedomains d.rights) d.rest >> ok (rows_layout h r d))))
  unfolding segment_rows domain_rows end_of
  with-domains s (refuse n) m e = refl
  with-domains s (ok d) m e = ends (chunk_of 4 (exactly 0) d.rest) (image_with s d) _ (same s d m (domains-count _ _ _ e))

  with-segments : (bytes : List ℕ) (a : Answer (Read (List Segment))) → segments_of h.segments h.domains 8192 bytes ≡ a
      → mapped layout_of ((a >>= (λ s. domains_of h.domains h.segments s.rest >>= after_domains s)) >>= judged_of) ≡
      (segment_rows a >>= after_segments h)
  unfolding segment_rows after_segments
  with-segments bytes (refuse n) e = refl
  with-segments bytes (ok s) e = with-domains s _ (segments-count _ _ _ _ e) refl

pub judged-is : (bytes : List ℕ) → mapped layout_of (image_of bytes) ≡ (head_of bytes >>= (λ h. segment_rows (segments_of h.value.segments h.value.domains 8192 h.rest) >>= after_segments h.value))
unfolding image_of chunks_of
judged-is bytes = by (head_of bytes)
  where
    by : (a : Answer (Read Head)) → mapped layout_of ((a >>= (λ h.
        segments_of h.value.segments h.value.domains 8192 h.rest >>= (λ s.
        domains_of h.value.domains h.value.segments s.rest >>= after_domains h.value s))) >>= judged_of) ≡
        (a >>= (λ h. segment_rows (segments_of h.value.segments h.value.domains 8192 h.rest) >>= after_segments h.value))
    by (refuse n) = refl
    by (ok h) = with-segments h.value h.rest _ refl
