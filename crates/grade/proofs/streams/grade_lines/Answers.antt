-- What is left behind the last line feed is answered at the end.
use Rattle.std.proofs.Common.{Ok, subst}
use Rattle.std.proofs.lemmas.Result.{err_from_is_err_and}
use Rattle.grade.specs.Inputs.{ReadsMore}
use Rattle.grade.proofs.Steps.{any_source_graded}
use Rattle.grade.proofs.streams.grade_lines.Goals as goal

pub returns-in_err-answer_next : goal.returns-in_err-answer_next
returns-in_err-answer_next g c =
    let is = err_from_is_err_and c.from_residual.result c.from_residual.ensures.1 in
    rw (is.1, is.2) (c.in_err-answer_next.ensures _ _ c.loop.invariant)

pub returns-then-not-branch : goal.returns-then-not-branch
returns-then-not-branch g c =
    let known = g.S.Source.remaining c.args.source.now in
    let left = g.S.Source.remaining c.answer_next.new.source in
    let first = g.T.Sink.contents c.args.sink.now in
    let at_end = subst (λ more. ReadsMore g.S.Source.fails_with g.T.Sink.fails_with known left first (g.T.Sink.contents c.answer_next.new.sink) c.answer_next.new.input (Ok more)) c.if-not-branch.true (c.in_ok-answer_next.ensures known first c.loop.invariant) in
    any_source_graded g.S.Source.fails_with g.T.Sink.fails_with known left first _ c.answer_last.result (c.answer_last.ensures known left first at_end.0 at_end.1)
