use Rattle.std.proofs.Common.{[], sym, ap, subst, ◌++◌, ◌∷◌, ◌∙◌}
use Rattle.grade.specs.Inputs.{head_with, IsInputAfter, IsTypedAfter}
use Rattle.grade.specs.Streams.{without_mark}
use Rattle.grade.specs.declared.input.Input.{Input}
use Rattle.grade.proofs.Answered.{byte_taken, mark_taken}
use Rattle.grade.proofs.input.Input.take.Goals.{then-is_marked_by, else-is_marked_by+in_ok-take}
use Rattle.grade.proofs.input.Input.take.Goals as goal

pub returns : goal.returns
returns c = λ before read k.
    let old = c.args.self.now in
    let b = c.args.byte in
    let new : Input = record { head = c.with-self.result; typed = c.if-is_marked_by.self.typed } in
    elim c.if-is_marked_by.branch [
      | then-is_marked_by w ↦
          subst (λ p. IsInputAfter new (read ++ b ∷ []) (before ++ p.items)) (sym w.page-is)
          (mark_taken old new read (before ++ c.args.page.now.items) b (sym c.is_marked_by.ensures ∙ w.if-is_marked_by.true) (c.with-self.ensures ∙ ap (λ s. head_with s.head b) w.self-is)
          (subst (λ s. IsTypedAfter s.typed [] []) (sym w.self-is) w.new-self.ensures) k)
      | else-is_marked_by+in_ok-take w ↦
          subst (λ p. IsInputAfter new (read ++ b ∷ []) (before ++ p.items)) (sym w.page-is)
          (byte_taken old new read (before ++ c.args.page.now.items) (before ++ w.take.new.page.items) b (sym c.is_marked_by.ensures ∙ w.if-is_marked_by.false) (c.with-self.ensures ∙ ap (λ s. head_with s.head b) w.self-is)
          (λ t. subst (λ s. IsTypedAfter s.typed (without_mark read ++ b ∷ []) (before ++ w.take.new.page.items)) (sym w.self-is) (w.in_ok-take.ensures before (without_mark read) t)) k)
    ]
