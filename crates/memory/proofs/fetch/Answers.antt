-- `memory::fetch` meets its contract.
use native.Mathlib.Omega.{arith}
use mathlib.Core.Path.{sym, ap, ◌∙◌}
use Rattle.words.specs.Refusal.{answer_of}
use Rattle.words.proofs.Results.{handed_on}
use Rattle.memory.specs.Reader.{fetch_of}
use Rattle.memory.proofs.Answers.{refuse-ok}
use Rattle.memory.proofs.Accesses.{fetch-absent}
use Rattle.memory.proofs.fetch.Goals as goal

pub returns-then-of_segment-word : goal.returns-then-of_segment-word
unfolding fetch_of
returns-then-of_segment-word c =
    let s = c.args in
    record {
      result_value = sym (fetch-absent s.view.now.layout.lengths s.view.now.layout.rights s.view.now.bases s.words.now s.domain s.segment s.word (rw c.of_segment.ensures at c.if-of_segment-word.true));
      by_index = λ w e. refuse-ok (ap answer_of e);
    }

pub returns-in_err-i : goal.returns-in_err-i
unfolding fetch_of
returns-in_err-i c =
    let r = ap answer_of (handed_on c.from_residual.result _ c.from_residual.ensures.1) in
    record { result_value = r ∙ simp (← c.in_err-i.ensures); by_index = λ w e. refuse-ok (sym r ∙ ap answer_of e) }

pub returns : goal.returns
unfolding fetch_of
returns c =
    record { result_value = simp (← c.in_ok-i.ensures, c.word_at.ensures); by_index = λ w e. omega (arith, c.if-of_segment-word.false, c.of_segment.type_inv) }
