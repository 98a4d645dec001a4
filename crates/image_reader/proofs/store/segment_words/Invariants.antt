-- `image_reader::store::segment_words` meets its contract.
use lib.ListN.{drop}
use Rattle.image_format.specs.Bytes.{words_of}
use Rattle.image_format.proofs.Copied.{Copied}
use Rattle.image_reader.proofs.store.segment_words.Given as goal

abbrev pub invariant-loop-j : goal.invariant-loop-j
invariant-loop-j l = Copied l.initial.words l.base (words_of l.n (drop l.at l.image)) l.n l.words l.j
