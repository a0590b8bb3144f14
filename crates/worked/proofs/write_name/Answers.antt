-- Where writing failed, a part of the line was written.
use Rattle.std.proofs.Common.{[], ◌∷◌, ◌++◌, codes, Err, subst}
use Rattle.byte_streams.specs.Streams.{WritesAll}
use Rattle.worked.proofs.Naming.{writes_first, writes_then}
use Rattle.worked.proofs.write_name.Goals as goal

pub returns-in_err-write_all : goal.returns-in_err-write_all
returns-in_err-write_all g c =
    writes_first g.T.Sink.fails_with _ _ (codes "== ") (c.args.name.now ++ 10 ∷ []) c.in_err-write_all.field-0.0 c.from_residual.result c.from_residual.ensures.1 c.in_err-write_all.ensures

pub returns-in_err-write_all-2 : goal.returns-in_err-write_all-2
returns-in_err-write_all-2 g c =
    let name = subst (λ bytes. WritesAll g.T.Sink.fails_with (g.T.Sink.contents c.write_all.new.sink) (g.T.Sink.contents c.write_all-2.new.sink) bytes (Err c.in_err-write_all-2.field-0.0)) c.as_bytes.ensures.value c.in_err-write_all-2.ensures in
    writes_then g.T.Sink.fails_with _ _ _ (codes "== ") (c.args.name.now ++ 10 ∷ []) c.from_residual-in_err-write_all-2.result c.in_ok-write_all.ensures
    (writes_first g.T.Sink.fails_with _ _ c.args.name.now (10 ∷ []) c.in_err-write_all-2.field-0.0 c.from_residual-in_err-write_all-2.result c.from_residual-in_err-write_all-2.ensures.1 name)
