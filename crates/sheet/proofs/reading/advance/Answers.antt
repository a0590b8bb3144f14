-- The first byte is taken, then the operands.
use Rattle.std.proofs.Common.{◌≡◌, ◌-◌, length, get_or, take, drop, sym, ap, ◌∙◌, subst, arith}
use borrow.Author.Tests.{eqb-false}
use Rattle.std.proofs.lemmas.Result.{err_from_is_err_and}
use Rattle.commands.specs.Calls.{call_of}
use Rattle.refusals.proofs.Causes.{none_holds}
use Rattle.sheet.specs.Format.{width, width_of}
use Rattle.sheet.specs.Reading.{faults, SameBytes}
use Rattle.sheet.proofs.Places.{refused_at, called_at}
use Rattle.sheet.proofs.ReadWritten.{same_bytes}
use Rattle.sheet.proofs.Widths.{width_in}
use Rattle.sheet.proofs.reading.advance.Goals as goal

pub returns-in_err-command-clause-answer : goal.returns-in_err-command-clause-answer
returns-in_err-command-clause-answer c =
    let p = err_from_is_err_and c.from_residual.result c.from_residual.ensures.1 in
    rw (p.1, p.2) (refused_at c.args.sheet.now c.bytes_from.result.now c.args.place.now.at c.bytes_from.ensures (omega arith) c.in-len1-up.len_at_least c.in_err-command.field-0.0 c.in_err-command.ensures)

pub returns-clause-answer : goal.returns-clause-answer
returns-clause-answer c =
    called_at c.args.sheet.now c.bytes_from.result.now c.args.place.now.at c.bytes_from.ensures (omega arith) c.in-len1-up.len_at_least (call_of c.in_ok-command.command) c.in_ok-command.ensures.0 c.in_ok-command.ensures.1

pub returns-clause-place : goal.returns-clause-place
returns-clause-place c =
    let s = c.bytes_from.result.now in
    let first = get_or s 0 0 in
    let bytes = take (length s - 1) (drop 1 s) in
    let taken = c.in_ok-command.ensures in
    let known = (none_holds (faults first bytes) taken.0).1.0 in
    let wide : width_of (call_of c.in_ok-command.command) ≡ width first = ap width_of taken.1 ∙ width_in first bytes known in
    omega (arith, wide, taken.2, eqb-false (width first) 0 known)

pub returns-clause-bytes : goal.returns-clause-bytes
returns-clause-bytes c =
    let sheet = c.args.sheet.now in
    let p = c.args.place.now.at in
    subst (SameBytes sheet p) (sym (returns-clause-answer c)) (same_bytes sheet p (λ i. omega (arith, c.type_inv.sheet i)))
