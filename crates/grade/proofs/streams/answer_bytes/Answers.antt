-- The page holds the answers of the lines that end among the bytes.
use Rattle.std.proofs.Common.{◌++◌, sym, subst}
use Rattle.std.proofs.lemmas.Result.{err_from_is_err_and}
use Rattle.byte_streams.specs.Streams.{WritesAll}
use Rattle.grade.specs.Inputs.{IsInputAfter}
use Rattle.grade.proofs.Steps.{left_over, bytes_answered}
use Rattle.grade.proofs.streams.answer_bytes.Goals as goal

pub returns-in_err-take_all : goal.returns-in_err-take_all
returns-in_err-take_all g c = λ source middle source' first a consumed some.
    let is = err_from_is_err_and c.from_residual.result c.from_residual.ensures.1 in
    rw (is.1, is.2) (left_over source middle first _ c.args.input.now a source' c.args.bytes.now consumed some)

pub returns : goal.returns
returns g c = λ source middle source' first a consumed some.
    bytes_answered source middle first _ c.args.input.now a g.T.Sink.fails_with source' _ c.take_all.new.self c.args.bytes.now c.take_all.new.page.items c.write_all.result consumed
    (λ before read k. c.in_ok-take_all.ensures before read (subst (λ xs. IsInputAfter c.args.input.now read (before ++ xs)) (sym c.new-page.ensures.items) k))
    (subst (λ xs. WritesAll g.T.Sink.fails_with (g.T.Sink.contents c.args.sink.now) (g.T.Sink.contents c.write_all.new.sink) xs c.write_all.result) c.deref.ensures.value c.write_all.ensures)
