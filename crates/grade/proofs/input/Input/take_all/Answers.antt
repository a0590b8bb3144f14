use Rattle.std.proofs.Common.{◌++◌, [], ◌∷◌, take, sym, ap, subst, ◌∙◌, append_assoc, arith, vec_items, get_or}
use Rattle.std.proofs.lemmas.List.{take_more, take_all}
use Rattle.grade.specs.Inputs.{IsInputAfter}
use Rattle.grade.proofs.input.Input.take_all.Goals as goal

pub loop-byte-preserved : goal.loop-byte-preserved
loop-byte-preserved c = λ before read k.
    let i = c.loop-byte.byte-index in
    let bytes = c.args.bytes.now in
    subst (λ xs. IsInputAfter c.take.new.self xs (before ++ vec_items c.take.new.page))
    (append_assoc read (take i bytes) (get_or bytes i _ ∷ []) ∙ ap (λ xs. read ++ xs) (sym (take_more bytes i _ c.loop-byte-test.true)))
    (c.in_ok-take.ensures before (read ++ take i bytes) (c.loop-byte.invariant before read k))

pub returns : goal.returns
returns c = λ before read k.
    subst (λ xs. IsInputAfter c.loop-byte.self (read ++ xs) (before ++ vec_items c.loop-byte.page)) (take_all c.loop-byte.byte-index c.args.bytes.now (omega (arith, c.loop-byte-test.false))) (c.loop-byte.invariant before read k)
