use Rattle.grade.specs.Faults.{as_refusal}
use Rattle.std.proofs.Common.{◌∙◌, ◌∷◌, [], ◌++◌, ap}
use Rattle.grade.proofs.Answered.{last_printed, on_ok}
use Rattle.grade.specs.Streams.{answer_text}
use Rattle.grade.proofs.input.Input.print_last.Goals as goal

pub returns : goal.returns
returns c = on_ok c.print_answer.result (λ printed before read kept begun empty. last_printed c.args.self.now read before c.print_answer.new.page.items (as_refusal c.answer.result) c.answer.ensures (printed ∙ ap (λ xs. xs ++ (answer_text (as_refusal c.answer.result) ++ 10 ∷ [])) empty) kept begun) c.print_answer.ensures
