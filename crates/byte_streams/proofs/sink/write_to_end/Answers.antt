-- Each write moves its bytes from the rest to what was written; one that fails writes none.
use Rattle.std.proofs.Common.{◌<◌, ◌++◌, length, take, rules}
use Rattle.std.proofs.KnownBytes.{Appends-trans}
use Rattle.std.proofs.lemmas.Result.{err_from_is_err_and}
use Rattle.byte_streams.proofs.KnownBytes.{moves_front, part_written}
use Rattle.byte_streams.proofs.sink.write_to_end.Goals as goal

pub returns-in_err-written-clause-part : goal.returns-in_err-written-clause-part
returns-in_err-written-clause-part g c =
    let (done, split, appended) = c.loop-rest.invariant in
    let some : 0 < length c.loop-rest.rest.now = search rules in
    let is = err_from_is_err_and c.from_residual.result c.from_residual.ensures.1 in
    rw is.1 (part_written _ _ _ c.args.bytes.now done c.loop-rest.rest.now split some appended c.in_err-written.ensures.bytes)

pub loop-rest-preserved : goal.loop-rest-preserved
loop-rest-preserved g c =
    let (done, split, appended) = c.loop-rest.invariant in
    let rest = c.loop-rest.rest.now in
    let n = c.in_ok-written.written in
    (done ++ take n rest, moves_front _ done rest n split, Appends-trans _ _ _ _ _ appended c.in_ok-written.ensures.bytes)
