-- An image of 33,080 bytes that is accepted: 16 segments of 512 words, and 8 domains.
use Prim.Native.Nat.{ℕ, zero, suc, ◌^◌, ◌<◌, ◌≤◌}
use native.Mathlib.Omega.{arith}
use mathlib.Core.Path.{◌≡◌, refl, ◌∙◌}
use mathlib.Core.Bool.{true}
use mathlib.Core.List.{List}
use lib.ListN.{length, get_or, replicate, length-replicate}
use Rattle.words.specs.Answer.{ok}
use Rattle.state.specs.declared.record.Layout.{Layout}
use Rattle.state.specs.Bases.{base_of}
use Rattle.layout_soundness.specs.SoundLayout.{all_from, segment_test, stack_test, rights_test, start_test, gate_test, gates_test, ranges_test}
use Rattle.soundness.proofs.Facts.{LayoutSound, layout-facts}
use Rattle.image_format.specs.Image.{image_of, image_from, bytes_of}
use Rattle.image_format.proofs.Sizes.{image-size}
use Rattle.roundtrips.proofs.ReadBack.{image-back}
use Rattle.roundtrips.proofs.LayoutBack.{good-image, wide-image, gates-back}
use Rattle.roundtrips.specs.Statements.{Arrays}

abbrev pub largest : Layout
largest =
    record {
      lengths = replicate 16 512;
      gates = replicate 16 0;
      start = record { word = 0; segment = 0; domain = 0 };
      gatedomains = replicate 16 0;
      stacks = replicate 8 0;
      rights = replicate 128 0;
      segments = 16;
      domains = 8;
    }

abbrev pub zero_words : ℕ → List ℕ
zero_words n = replicate n 0

tested : ranges_test largest ≡ true
unfolding ranges_test all_from segment_test stack_test rights_test start_test base_of
tested = refl

passes : gates_test largest.gates largest.gatedomains largest.rights ≡ true
unfolding gates_test gate_test all_from
passes = refl

sound : LayoutSound largest
sound = layout-facts largest tested

arrays : Arrays largest
arrays = record { lengths = refl; gates = refl; gatedomains = refl; stacks = refl; rights = refl }

zeros-below : (n k : ℕ) → get_or (zero_words n) k 0 < 2 ^ 32
zeros-below zero k = omega arith
zeros-below (suc n) zero = omega arith
zeros-below (suc n) (suc k) = zeros-below n k

zeros-length : (n : ℕ) → length (zero_words n) ≡ n
zeros-length n = let z : ℕ = 0 in length-replicate n z

enough : 8192 ≤ length (zero_words 8192)
enough = let e = zeros-length 8192 in omega arith

pub longest-accepted : image_of (bytes_of (image_from largest (zero_words 8192))) ≡ ok (image_from largest (zero_words 8192))
longest-accepted =
    image-back (image_from largest (zero_words 8192)) (good-image largest (zero_words 8192) sound arrays enough)
    (wide-image largest (zero_words 8192) sound arrays enough (zeros-below 8192))
    (gates-back largest (zero_words 8192) sound arrays enough ∙ passes)

pub longest-size : length (bytes_of (image_from largest (zero_words 8192))) ≡ 33080
unfolding base_of
longest-size = image-size largest (zero_words 8192) sound enough refl
