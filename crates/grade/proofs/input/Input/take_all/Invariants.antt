-- The bytes before the present one were taken.
use Rattle.std.proofs.Common.{List, ℕ, ◌++◌, take, vec_items}
use Rattle.grade.specs.Inputs.{IsInputAfter}
use Rattle.grade.proofs.input.Input.take_all.Given as goal

abbrev pub invariant-loop-byte : goal.invariant-loop-byte
invariant-loop-byte l = (before read : List ℕ) → IsInputAfter l.initial.self read (before ++ vec_items l.initial.page) → IsInputAfter l.self (read ++ take l.byte-index l.bytes) (before ++ vec_items l.page)
