use Rattle.std.proofs.Common.{◌≡◌, false}
use Rattle.std.specs.BTreeMap.{is_at}
use Rattle.std.specs.List.{list_any}
use Rattle.census.specs.Counts.{count_of, tallied}
use Rattle.census.proofs.tally.Tally.census.Given as goal

abbrev pub invariant-loop-class : goal.invariant-loop-class
invariant-loop-class g l = (k : g.row.K.Denot) → list_any (is_at (g.K.Ord.cmp k)) l.class-iterator ≡ false → count_of g.K.Ord.cmp l.census k ≡ tallied g.K.HandClass.lower l.self-inside.counts k
