-- What was read there found room for a note.
use Rattle.std.proofs.Common.{Ok, ap, sym, ◌∙◌}
use Rattle.commands.specs.Calls.{call_of}
use Rattle.ledger.specs.Rolls.{free}
use Rattle.sheet.specs.Reading.{calls}
use Rattle.run.proofs.Stopping.{room_here, room_command, room_fault}
use Rattle.run.proofs.running.step.Goals as goal

pub note-requires : goal.note-requires
note-requires g c =
    let entries = free c.args.rolls.now.ledger in
    let notes = free c.args.rolls.now.notes in
    let reads = ap calls (sym (c.in-Ok-Some.is ∙ ap Ok c.in-Ok-Some.field-0-is)) ∙ c.read.ensures.answer in
    let room = room_command c.args.reader.now.sheet.now c.requires c.args.reader.now.place.at entries notes (sym c.stops_here.ensures ∙ c.if-stops_here.false) (call_of c.in-Ok-Some.command) reads in
    record { room = (room_here entries notes room).one }

pub note-requires-in-Err : goal.note-requires-in-Err
note-requires-in-Err g c =
    let entries = free c.args.rolls.now.ledger in
    let notes = free c.args.rolls.now.notes in
    let room = room_fault c.args.reader.now.sheet.now c.requires c.args.reader.now.place.at entries notes (sym c.stops_here.ensures ∙ c.if-stops_here.false) c.in-Err.refusal (ap calls (sym c.in-Err.is) ∙ c.read.ensures.answer) in
    record { room = (room_here entries notes room).one }
