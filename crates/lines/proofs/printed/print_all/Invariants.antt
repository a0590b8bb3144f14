use Rattle.std.proofs.Common.{◌≡◌, ◌++◌, drop, vec_items}
use Rattle.lines.specs.Lines.{lines_of}
use Rattle.lines.proofs.printed.print_all.Given as goal

-- what is printed, and then what is left to print, is all of it
abbrev pub invariant-loop-record : goal.invariant-loop-record
invariant-loop-record g l =
    vec_items l.page ++ lines_of g.R.Printed.line_of (drop l.record-index l.records) ≡ vec_items l.initial.page ++ lines_of g.R.Printed.line_of l.records
