-- The laws of the rules, which are proved apart from the code.
use Rattle.poker.proofs.StudLemmas.{stud_laws}
use Rattle.poker.proofs.stud.posted.Stud.hand_return.Goals as goal

pub returns-clause-laws : goal.returns-clause-laws
returns-clause-laws c = stud_laws c.args.self.now.cap
