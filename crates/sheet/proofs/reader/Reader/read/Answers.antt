-- What is read at a place is written wherever there is room, and its cause goes before all others.
use Rattle.std.proofs.Common.{sym, subst}
use Rattle.refusals.specs.Refusals.{Answers}
use Rattle.sheet.specs.Reading.{sheet_faults, cause_of}
use Rattle.sheet.specs.Writing.{IsWritable}
use Rattle.sheet.proofs.LeastCause.{least_at_reading}
use Rattle.sheet.proofs.Writable.{writable}
use Rattle.sheet.proofs.reader.Reader.read.Goals as goal

pub returns-clause-writable : goal.returns-clause-writable
returns-clause-writable c = subst IsWritable (sym c.read.ensures.answer) (writable c.args.self.now.sheet.now c.args.self.now.place.at)

pub returns-clause-least : goal.returns-clause-least
returns-clause-least c =
    let sheet = c.args.self.now.sheet.now in
    let at = c.args.self.now.place.at in
    subst (λ r. Answers (sheet_faults sheet at) (cause_of r)) (sym c.read.ensures.answer) (least_at_reading sheet at)
