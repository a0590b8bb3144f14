use Rattle.std.proofs.Common.{refl}
use Rattle.grade.proofs.LineStates.{none_typed}
use Rattle.grade.proofs.line.Line.new.Goals as goal

pub returns : goal.returns
returns c = (refl, none_typed c.new.result c.new.ensures)
