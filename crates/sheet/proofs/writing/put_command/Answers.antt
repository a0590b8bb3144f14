-- The numbers of an Open are each written in their bytes.
use Rattle.std.proofs.Common.{[], ◌∷◌, ◌++◌, ap, ◌∙◌}
use Rattle.commands.specs.Calls.{call_of}
use Rattle.sheet.specs.Writing.{buffer_after}
use Rattle.sheet.proofs.writing.put_command.Goals as goal

pub returns-in-Open-clause-buffer : goal.returns-in-Open-clause-buffer
returns-in-Open-clause-buffer c =
    rw (ap call_of c.in-Open.is) (c.put.ensures.buffer ∙ (λ i. buffer_after c.put.result c.args.out.now c.args.at (84 ∷ c.in-Open.conditions.game ∷ (c.to_be_bytes.ensures i ++ (c.to_be_bytes-in-Open.ensures i ++ (c.to_be_bytes-in-Open-2.ensures i
    ++ (c.to_be_bytes-in-Open-3.ensures i ++ (c.to_be_bytes-in-Open-4.ensures i ++ (c.to_be_bytes-in-Open-5.ensures i ++ (c.to_be_bytes-in-Open-6.ensures i ++ (c.to_be_bytes-in-Open-7.ensures i
    ++ (c.to_be_bytes-in-Open-8.ensures i ++ []))))))))))))
