use Rattle.std.proofs.Common.{◌≡◌, ◌+◌, length, take}
use Rattle.sheet.specs.Writing.{joined, with_bytes}
use Rattle.sheet.proofs.writing.put.Given as goal

-- the parts so far stand behind one another from the place on
abbrev pub invariant-loop-part : goal.invariant-loop-part
invariant-loop-part l =
    let done = joined (take l.part-index l.parts) in
    (l.end ≡ l.at + length done) × (l.out ≡ with_bytes l.fn.out l.at done)
