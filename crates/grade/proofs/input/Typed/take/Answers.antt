use Rattle.std.proofs.Common.{refl}
use Rattle.std.proofs.lemmas.Bool.{eq-eqb, ne_eqb}
use Rattle.grade.specs.Faults.{as_refusal}
use Rattle.grade.proofs.Answered.{byte_typed, line_typed}
use Rattle.grade.proofs.input.Typed.take.Goals as goal

pub returns-in_ok-print_answer : goal.returns-in_ok-print_answer
returns-in_ok-print_answer c = λ before bytes t. line_typed c.args.self.now _ bytes before c.args.page.now.items c.print_answer.new.page.items c.args.byte (as_refusal c.answer.result) (eq-eqb c.args.byte 10 c.if-byte-eq10.true) c.answer.ensures c.in_ok-print_answer.ensures c.new-self.ensures refl t

pub returns-else-byte-eq10 : goal.returns-else-byte-eq10
returns-else-byte-eq10 c = λ before bytes t. byte_typed c.args.self.now _ bytes _ c.args.byte (ne_eqb c.args.byte 10 c.if-byte-eq10.false) c.take.ensures refl t
