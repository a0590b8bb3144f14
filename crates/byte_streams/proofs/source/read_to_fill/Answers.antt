-- Each read puts its bytes behind those that were read.
use Rattle.std.proofs.Common.{◌≡◌, ◌-◌, length, drop, ◌∙◌, arith, length-drop, length-take-le}
use borrow.Rule.Slice.PartMut.{same_len_mid}
use Rattle.byte_streams.proofs.KnownBytes.{filled_more}
use Rattle.byte_streams.proofs.source.read_to_fill.Goals as goal

pub loop-filled-preserved : goal.loop-filled-preserved
loop-filled-preserved g c =
    let before = c.loop-filled.invariant in
    let read = c.in_ok-read.ensures in
    let buffer = c.loop-filled.buffer in
    let i = c.loop-filled.filled in
    let room = length buffer - i in
    let same = same_len_mid i room buffer c.read_uninterrupted.new.buffer c.read_uninterrupted.auto.buffer in
    let part : length c.read_uninterrupted.new.buffer ≡ room = c.read_uninterrupted.auto.buffer ∙ length-take-le room (drop i buffer) (omega (arith, length-drop i buffer)) in (
      omega (arith, same, part, read.bound.0, before.0),
      same ∙ before.1,
      filled_more _ _ _ i _ c.in_ok-read.read buffer c.read_uninterrupted.new.buffer before.0 read.bound.0 before.2 read.bytes.0,
    )
