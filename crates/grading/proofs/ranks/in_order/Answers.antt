use Rattle.std.proofs.lemmas.List.Sorted.{IsNonDecreasingBy-from_sort}
use Rattle.grading.proofs.ranks.in_order.Goals as goal

pub returns-clause-up : goal.returns-clause-up
returns-clause-up g c = IsNonDecreasingBy-from_sort (λ x. x) c.sort_unstable.new.self c.sort_unstable.ensures.sorted
