-- What was read is answered.
use Rattle.grade.specs.Inputs.{Answering}
use Rattle.grade.proofs.streams.grade_lines.Given as goal

abbrev pub invariant-loop : goal.invariant-loop
invariant-loop g l = Answering (g.S.Source.remaining l.initial.source) (g.S.Source.remaining l.source) (g.T.Sink.contents l.initial.sink) (g.T.Sink.contents l.sink) l.input
