-- Where the line of the name was not written, a part of it was.
use Rattle.worked.proofs.Naming.{line_wanting}
use Rattle.worked.proofs.settle_named.Goals as goal

pub returns-in_err-write_name : goal.returns-in_err-write_name
returns-in_err-write_name g c =
    line_wanting g.T.Sink.fails_with c.args.name.now g.S.Source.fails_with (g.S.Source.remaining c.args.source.now) _ _ c.in_err-write_name.field-0.0 c.from_residual.result c.from_residual.ensures.1 c.in_err-write_name.ensures
