-- What was put reads back, in its buffer and alone.
use Rattle.commands.specs.Calls.{call_of}
use Rattle.sheet.proofs.WrittenRead.{reads_back, reads_alone}
use Rattle.sheet.proofs.LeastCause.{least_at_writing}
use Rattle.std.proofs.Common.{sym, subst}
use Rattle.refusals.specs.Refusals.{Answers}
use Rattle.sheet.specs.Reading.{cause_of}
use Rattle.sheet.specs.Writing.{write_faults}
use Rattle.sheet.proofs.writing.write.Goals as goal

pub returns-clause-back : goal.returns-clause-back
returns-clause-back c =
    let e = c.put_command.ensures in
    reads_back (call_of c.args.command.now) e.fits c.args.out.now _ c.args.at c.put_command.result e.answer e.buffer

pub returns-clause-alone : goal.returns-clause-alone
returns-clause-alone c =
    let e = c.put_command.ensures in
    reads_alone (call_of c.args.command.now) e.fits c.args.out.now _ c.args.at c.put_command.result e.answer e.buffer

pub returns-clause-least : goal.returns-clause-least
returns-clause-least c =
    let call = call_of c.args.command.now in
    subst (λ r. Answers (write_faults c.args.out.now c.args.at call) (cause_of r)) (sym c.put_command.ensures.answer) (least_at_writing c.args.out.now c.args.at call)
