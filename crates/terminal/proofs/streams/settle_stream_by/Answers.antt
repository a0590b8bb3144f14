-- What was read is all bytes, or one byte more than a sheet may have.
use Rattle.std.proofs.Common.{◌≡◌, ◌+◌, length, take, IfSome, subst, arith}
use Rattle.sheet.specs.Reading.{longest}
use Rattle.byte_streams.proofs.Cutting.{read_all}
use Rattle.terminal.specs.Printed.{PrintedOf}
use Rattle.terminal.proofs.Cutting.{both_long}
use Rattle.terminal.proofs.streams.settle_stream_by.Goals as goal

pub returns : goal.returns
returns g c =
    let known = g.S.Source.remaining c.args.source.now in
    let bytes = take c.in_ok-read.read c.fill.new.buffer in
    let room : length c.fill.new.buffer ≡ longest + 1 = omega (arith, c.fill.auto.buffer) in
    read_all PrintedOf longest both_long g.S.Source.fails_with g.T.Sink.fails_with known bytes
    (subst (λ n. IfSome known (λ xs. bytes ≡ take n xs)) room c.in_ok-read.ensures.bytes)
    (g.T.Sink.contents c.args.sink.now) (g.T.Sink.contents c.settle_read.new.sink) c.settle_read.result c.settle_read.ensures
