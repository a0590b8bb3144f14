-- The laws of the rules, which are proved apart from the code.
use Rattle.poker.proofs.FortuneLemmas.{fortune_laws}
use Rattle.poker.proofs.fortune.posted.Fortune.hand_return.Goals as goal

pub returns-clause-laws : goal.returns-clause-laws
returns-clause-laws g c = fortune_laws c.args.self.now.odds
