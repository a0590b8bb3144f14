-- The fact; the answers the check finds by computing.
use Rattle.makccarat.proofs.Parted.{checked}
use Rattle.makccarat.proofs.checked.checked_deals.Goals as goal

pub returns-clause-stands : goal.returns-clause-stands
returns-clause-stands c = checked
