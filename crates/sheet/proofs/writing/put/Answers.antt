-- Each part fits behind those before it, since all of them fit.
use Rattle.std.proofs.Common.{◌≡◌, ℕ, ◌+◌, ◌-◌, ◌<◌, List, [], ◌++◌, length, get_or, take, drop, Bor, Err, sym, ap, ◌∙◌, arith, length-append}
use Rattle.std.proofs.lemmas.Bool.{leb-false, lt-ltb}
use Rattle.sheet.specs.Writing.{joined, with_bytes}
use Rattle.sheet.proofs.Parts.{joined_width, joined_more, part_fits, with_more}
use Rattle.sheet.proofs.writing.put.Goals as goal

pub returns-then-not-has_room-clause-answer : goal.returns-then-not-has_room-clause-answer
returns-then-not-has_room-clause-answer c =
    let all : length (joined c.args.parts.now) ≡ c.width.result = joined_width c.args.parts.now ∙ sym c.width.ensures in
    let short : length c.args.out.now < c.args.at + c.width.result = leb-false (c.args.at + c.width.result) (length c.args.out.now) (sym c.if-not-has_room.ensures) in
    rw (all, lt-ltb (length c.args.out.now) (c.args.at + c.width.result) short) (ap Err c.new.ensures)

-- no bytes
none : Bor (List ℕ)
none = record { ref_ptr = (0, 0); now = [] }

pub slice_bounds-copy_from_slice-end : goal.slice_bounds-copy_from_slice-end
unfolding none
slice_bounds-copy_from_slice-end c =
    let fits = part_fits c.args.parts.now c.loop-part.part-index none c.loop-part-test.true c.args.out.now c.args.at c.width.result c.width.ensures c.if-not-has_room.ensures in
    omega arith

pub loop-part-preserved : goal.loop-part-preserved
unfolding none
loop-part-preserved c =
    let out = c.args.out.now in
    let at = c.args.at in
    let done = joined (take c.loop-part.part-index c.args.parts.now) in
    let part = (get_or c.args.parts.now c.loop-part.part-index none).now in
    let fits = part_fits c.args.parts.now c.loop-part.part-index none c.loop-part-test.true out at c.width.result c.width.ensures c.if-not-has_room.ensures in
    let more = joined_more c.args.parts.now c.loop-part.part-index none c.loop-part-test.true in
    let end = c.loop-part.invariant.0 in
    let bytes = c.loop-part.invariant.1 in
    let count : c.loop-part.end + length part - c.loop-part.end ≡ length part = omega arith in (
      omega (arith, ap length more, length-append done part),
      (λ i. take (end i) (bytes i) ++ (c.copy_from_slice.ensures.after i ++ drop (count i) (drop (end i) (bytes i))))
          ∙ with_more out at done part (omega arith)
          ∙ ap (with_bytes out at) (sym more),
    )
