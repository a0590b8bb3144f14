-- That a stake on the side with the lower total brings nothing.
use Rattle.makccarat.proofs.Lower.{lower_brings_nothing}
use Rattle.makccarat.proofs.posted.Makccarat.seat_return.Goals as goal

pub returns-clause-lower : goal.returns-clause-lower
returns-clause-lower c = lower_brings_nothing c.args.self.now
