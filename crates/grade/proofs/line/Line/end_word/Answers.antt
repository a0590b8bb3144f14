use Rattle.std.proofs.Common.{◌++◌, ◌∷◌, [], sym, ◌∙◌, subst}
use Rattle.grade.specs.States.{IsHandAfter, IsHandAfterText}
use Rattle.grade.proofs.LineStates.{ended_nothing, ended_word}
use Rattle.grade.proofs.line.Line.end_word.Goals as goal
use Rattle.grade.proofs.line.Line.end_word.Goals.{then-not-is_empty, else-not-is_empty}

pub returns-clause-hand : goal.returns-clause-hand
returns-clause-hand c = λ text t.
    let old = c.args.self.now in
    elim c.if-not-is_empty.branch [
      | then-not-is_empty w ↦
          subst (λ s. IsHandAfterText s.hand text) (sym w.self-is)
          (ended_word old.hand w.add.new.self old.word text w.card.result
          (λ bytes e. sym w.if-not-is_empty.true ∙ c.is_empty.ensures bytes e)
          w.card.ensures
          (λ cards k. subst (λ card. IsHandAfter w.add.new.self (cards ++ card ∷ [])) w.unwrap_or.ensures (w.add.ensures cards k))
          t)
      | else-not-is_empty w ↦
          subst (λ s. IsHandAfterText s.hand text) (sym w.self-is)
          (ended_nothing old.hand old.word text (λ bytes e. sym w.if-not-is_empty.false ∙ c.is_empty.ensures bytes e) t)
    ]
