-- A read of no byte is made at the end only.
use Rattle.std.proofs.Common.{take, arith}
use Rattle.grade.proofs.Steps.{any_source_graded, still, keeps_none, left_over, some_read}
use Rattle.grade.proofs.streams.end.Goals as goal

pub returns-in-Ok-eq0 : goal.returns-in-Ok-eq0
returns-in-Ok-eq0 g c = λ known first a.
    any_source_graded g.S.Source.fails_with g.T.Sink.fails_with known _ first _ c.answer_last.result
    (c.answer_last.ensures known _ first (still known _ first _ c.args.input.now a _ (keeps_none _ _ c.in-Ok-eq0.field-0 c.read_some.new.buffer c.in-Ok-eq0.field-0-test c.in-Ok-eq0.ensures.bytes.0)) (c.in-Ok-eq0.ensures.bytes.1 c.in-Ok-eq0.field-0-test (omega (arith, c.read_some.auto.buffer))))

pub returns-in-Ok : goal.returns-in-Ok
returns-in-Ok g c = λ known first a. left_over known _ first _ c.args.input.now a _ (take c.in-Ok.field-0 c.read_some.new.buffer) c.in-Ok.ensures.bytes.0 (some_read c.in-Ok.field-0 c.read_some.new.buffer c.in-Ok.ensures.bound.0 c.in-Ok.field-0-test.1)
