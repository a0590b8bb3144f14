-- An error in answering is none of the source.
use Rattle.std.proofs.lemmas.Result.{err_from_is_err_and}
use Rattle.grade.proofs.Steps.{any_source, some_read}
use Rattle.grade.proofs.streams.answer_next.Goals as goal

pub returns-in_err-answer_bytes-in-Ok : goal.returns-in_err-answer_bytes-in-Ok
returns-in_err-answer_bytes-in-Ok g c = λ known first a.
    let is = err_from_is_err_and c.from_residual.result c.from_residual.ensures.1 in
    rw (is.1, is.2) (any_source g.S.Source.fails_with g.T.Sink.fails_with known _ first _ c.in_err-answer_bytes-in-Ok.field-0.0
    (c.in_err-answer_bytes-in-Ok.ensures known _ _ first a c.in-Ok.ensures.bytes.0 (some_read c.in-Ok.count c.read_some.new.buffer c.in-Ok.ensures.bound.0 c.in-Ok.count-test.1)))

pub returns-in_ok-answer_bytes-in-Ok : goal.returns-in_ok-answer_bytes-in-Ok
returns-in_ok-answer_bytes-in-Ok g c = λ known first a. c.in_ok-answer_bytes-in-Ok.ensures known _ _ first a c.in-Ok.ensures.bytes.0 (some_read c.in-Ok.count c.read_some.new.buffer c.in-Ok.ensures.bound.0 c.in-Ok.count-test.1)
