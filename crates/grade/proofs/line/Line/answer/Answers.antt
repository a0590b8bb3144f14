use Rattle.std.proofs.Common.{Some, None, Ok, Err, subst, sym, ◌∙◌}
use Rattle.std.proofs.lemmas.Result.{err_from_is_err_and}
use Rattle.grade.specs.Faults.{as_refusal}
use Rattle.grade.specs.States.{IsLineWith}
use Rattle.grade.proofs.LineStates.{answer_of_two, answer_of_one, answer_of_none}
use Rattle.grade.proofs.line.Line.answer.Goals as goal

pub returns-in_err-answer_beside-in-Some : goal.returns-in_err-answer_beside-in-Some
returns-in_err-answer_beside-in-Some c = λ bytes l.
    let old = c.args.self in
    let p = err_from_is_err_and c.from_residual.result c.from_residual.ensures.1 in
    let at : IsLineWith (Some c.in-Some.first) old.hand old.word bytes = subst (λ b. IsLineWith b old.hand old.word bytes) (sym c.end_word.ensures.before ∙ c.in-Some.is) l in
    rw (p.1, p.2) (answer_of_two c.in-Some.first old.hand c.end_word.new.self.hand old.word bytes (as_refusal (Err c.in_err-answer_beside-in-Some.field-0.0)) c.end_word.ensures.hand c.in_err-answer_beside-in-Some.ensures at)

pub returns-in_ok-answer_beside-in-Some : goal.returns-in_ok-answer_beside-in-Some
returns-in_ok-answer_beside-in-Some c = λ bytes l.
    let old = c.args.self in
    let at : IsLineWith (Some c.in-Some.first) old.hand old.word bytes = subst (λ b. IsLineWith b old.hand old.word bytes) (sym c.end_word.ensures.before ∙ c.in-Some.is) l in
    answer_of_two c.in-Some.first old.hand c.end_word.new.self.hand old.word bytes (as_refusal (Ok c.in_ok-answer_beside-in-Some.field-0)) c.end_word.ensures.hand c.in_ok-answer_beside-in-Some.ensures at

pub returns-in-None : goal.returns-in-None
returns-in-None c = λ bytes l.
    let old = c.args.self in
    let at : IsLineWith None old.hand old.word bytes = subst (λ b. IsLineWith b old.hand old.word bytes) (sym c.end_word.ensures.before ∙ c.in-None.is) l in
    answer_of_none old.hand c.end_word.new.self.hand old.word bytes c.end_word.ensures.hand (λ cards k. sym c.if-is_empty.true ∙ c.is_empty.ensures cards k) at

pub returns-in_err-answer-in-None-2 : goal.returns-in_err-answer-in-None-2
returns-in_err-answer-in-None-2 c = λ bytes l.
    let old = c.args.self in
    let p = err_from_is_err_and c.from_residual-in_err-answer-in-None-2.result c.from_residual-in_err-answer-in-None-2.ensures.1 in
    let at : IsLineWith None old.hand old.word bytes = subst (λ b. IsLineWith b old.hand old.word bytes) (sym c.end_word.ensures.before ∙ c.in-None.is) l in
    rw (p.1, p.2) (answer_of_one old.hand c.end_word.new.self.hand old.word bytes (as_refusal (Err c.in_err-answer-in-None-2.field-0.0)) c.end_word.ensures.hand (λ cards k. sym c.if-is_empty.false ∙ c.is_empty.ensures cards k) c.in_err-answer-in-None-2.ensures at)

pub returns-in_ok-answer-in-None-2 : goal.returns-in_ok-answer-in-None-2
returns-in_ok-answer-in-None-2 c = λ bytes l.
    let old = c.args.self in
    let at : IsLineWith None old.hand old.word bytes = subst (λ b. IsLineWith b old.hand old.word bytes) (sym c.end_word.ensures.before ∙ c.in-None.is) l in
    answer_of_one old.hand c.end_word.new.self.hand old.word bytes (as_refusal (Ok c.in_ok-answer-in-None-2.field-0)) c.end_word.ensures.hand (λ cards k. sym c.if-is_empty.false ∙ c.is_empty.ensures cards k) c.in_ok-answer-in-None-2.ensures at
