-- The number called for is that of the one front part that is a deal.
use Rattle.std.proofs.Common.{arith}
use Rattle.makccarat.proofs.Fronts.{one_front_of}
use Rattle.makccarat.proofs.front.front.Goals as goal

pub returns-clause-alone : goal.returns-clause-alone
returns-clause-alone c = one_front_of c.args.way c.args.row.now c.called.result c.called.ensures.number (omega arith) c.if-not-all_cards.ensures
