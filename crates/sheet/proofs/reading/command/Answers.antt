-- The tray of an Open stands behind the conditions.
use Rattle.std.proofs.Common.{◌≡◌, ◌+◌, ◌≤◌, length, refl, ap, ◌∙◌, arith}
use Rattle.std.proofs.lemmas.Bool.{le-ltb}
use Rattle.commands.specs.Calls.{Open}
use Rattle.sheet.specs.Opcodes.{first_byte}
use Rattle.sheet.specs.Reading.{operand}
use Rattle.sheet.proofs.Numbers.{operand_behind}
use Rattle.sheet.proofs.reading.command.Goals as goal

pub returns-in_ok-tray-in-Open : goal.returns-in_ok-tray-in-Open
returns-in_ok-tray-in-Open c =
    let s = c.args.bytes.now in
    let first : c.args.first ≡ 0x54 = c.in_ok-try_from.ensures ∙ ap first_byte c.in-Open.is in
    let conditions = c.in_ok-conditions-in-Open.ensures in
    let tray = c.in_ok-tray-in-Open.ensures in
    let long : 36 ≤ length s + 1 = omega (arith, conditions, tray) in
    let behind : c.in_ok-tray-in-Open.tray ≡ operand s 27 8 = tray.0 ∙ operand_behind 8 27 0 s c.in_ok-conditions-in-Open.rest.now conditions.2 in
    rw (first, le-ltb (length s + 1) 36 long) (refl, (λ i. Open (conditions.0 i) (behind i)), omega (arith, conditions, tray))
