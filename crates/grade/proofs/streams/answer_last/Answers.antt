-- The page holds the answer of the last line.
use Rattle.std.proofs.Common.{sym, ◌∙◌, subst}
use Rattle.std.proofs.lemmas.Result.{err_from_is_err_and}
use Rattle.byte_streams.specs.Streams.{WritesAll}
use Rattle.grade.proofs.Steps.{last_left, all_answered, last_answered}
use Rattle.grade.proofs.streams.answer_last.Goals as goal

pub returns-then-not-is_in_line : goal.returns-then-not-is_in_line
returns-then-not-is_in_line g c = λ source source' first a end. all_answered source source' first _ c.args.input.now a end (sym c.is_in_line.ensures ∙ c.if-not-is_in_line.true)

pub returns-in_err-print_last : goal.returns-in_err-print_last
returns-in_err-print_last g c = λ source source' first a end.
    let is = err_from_is_err_and c.from_residual.result c.from_residual.ensures.1 in
    rw (is.1, is.2) (last_left source source' first _ c.args.input.now a (sym c.is_in_line.ensures ∙ c.if-not-is_in_line.false))

pub returns : goal.returns
returns g c = λ source source' first a end.
    last_answered source source' first _ c.args.input.now a g.T.Sink.fails_with _ c.print_last.new.page.items c.write_all.result end
    (λ before read k. c.in_ok-print_last.ensures before read k (sym c.is_in_line.ensures ∙ c.if-not-is_in_line.false) c.new-page.ensures.items)
    (subst (λ xs. WritesAll g.T.Sink.fails_with (g.T.Sink.contents c.args.sink.now) (g.T.Sink.contents c.write_all.new.sink) xs c.write_all.result) c.deref.ensures.value c.write_all.ensures)
