-- The deals of the poker games by computing; Makccarat's is its own fact.
use Rattle.games.proofs.Deals.{checked}
use Rattle.games.proofs.checked.checked_deals.Goals as goal

pub returns-clause-stands : goal.returns-clause-stands
returns-clause-stands c = checked c.checked_deals-first.ensures.stands
