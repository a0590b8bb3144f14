use Rattle.std.proofs.Common.{not, sym, ap, ◌∙◌}
use Rattle.grade.proofs.HandStates.{not_true, some_at_fault}
use Rattle.grade.proofs.hand.TypedHand.is_empty.Goals as goal

pub returns-else-not-self : goal.returns-else-not-self
returns-else-not-self c =
    λ cards k. ap not c.if-not-self.false ∙ sym (some_at_fault cards (not_true _ (sym k.faulty ∙ c.if-not-self.false)))
