use Rattle.std.proofs.Common.{◌≡◌, ◌≤◌, take}
use Rattle.grading.specs.Cards.{copies_of}
use Rattle.grading.proofs.cards.copies.Given as goal

abbrev pub invariant-loop-other : goal.invariant-loop-other
invariant-loop-other l = (l.count ≤ l.other-index) × (l.count ≡ copies_of l.card (take l.other-index l.cards))
