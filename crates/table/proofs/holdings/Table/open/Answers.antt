-- The tray and the bounds are good, so the table is newly opened.
use Rattle.std.proofs.Common.{◌≡◌, ◌≤◌, false, None, sym, refl, subst}
use Rattle.std.proofs.lemmas.Bool.{le-ltb}
use Rattle.table.specs.Holdings.{limit}
use Rattle.refusals.specs.Refusals.{first_cause, Answers}
use Rattle.table.specs.Opening.{bad_bounds, open_causes}
use Rattle.table.proofs.Opened.{opened_sound, opened_reached, open_least}
use Rattle.table.proofs.holdings.Table.open.Goals as goal

pub returns : goal.returns
returns g c =
    let o = c.args.opening in
    let fits : o.tray ≤ limit = c.if-opening-gt-LIMIT.false in
    let good : bad_bounds o.minimum o.maximum ≡ false = sym c.if-are_bad_bounds.ensures in
    let facts = g.met.G.Game.facts c.args.game in
    let none : first_cause (open_causes o) ≡ None = rw (le-ltb limit o.tray fits, good) refl in
    record {
      opened = (none, refl, refl, opened_sound _ facts o fits good, opened_reached _ facts o fits good);
      least = subst (Answers (open_causes o)) none (open_least o);
    }
