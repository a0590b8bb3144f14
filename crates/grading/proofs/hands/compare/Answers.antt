use Rattle.std.proofs.Common.{Ok, sym, refl, ap, ◌∙◌}
use Rattle.std.proofs.lemmas.Result.{err_from_is_err_and}
use Rattle.std.proofs.lemmas.List.Sorted.{IsPermutation-refl}
use Rattle.grading.specs.Admission.{hands_causes}
use Rattle.grading.specs.Laws.{InAnyOrders, swapped}
use Rattle.grading.proofs.Admitted.{both_admitted}
use Rattle.grading.proofs.Laws.{compared_in_any_orders, refused_in_any_orders, compared_swapped, higher_class_wins}
use Rattle.grading.proofs.LeastCause.{least_refused}
use Rattle.grading.proofs.hands.compare.Goals as goal

pub returns-in_err-admit_both : goal.returns-in_err-admit_both
returns-in_err-admit_both g c =
    let cs = c.args.first.now in
    let ds = c.args.second.now in
    let o = g.H.OfCards in
    let order = g.H.Order.order in
    let h = g.H.Hand in
    let m = g.met.H.Hand in
    let refused = rw c.SIZE.ensures at c.in_err-admit_both.ensures in
    let p = err_from_is_err_and c.from_residual.result c.from_residual.ensures.1 in
    let any_order : InAnyOrders h.compared cs ds c.from_residual.result =
    rw (p.1, p.2) (refused_in_any_orders o.SIZE o.hand order h.compared m.compares cs ds tt c.in_err-admit_both.field-0.0 refused) in
    let answer = sym (any_order cs ds (IsPermutation-refl cs) (IsPermutation-refl ds)) in
    record {
      answer = answer;
      any_order = any_order;
      swapped = compared_swapped o.SIZE o.hand order h.compared m.compares g.met.H.Order.turned cs ds ∙ ap swapped (sym answer);
      classes = higher_class_wins o.SIZE o.hand order h.compared m.compares o.class_of g.H.Class.HandClass.lower h.classed m.classes m.by_class cs ds c.from_residual.result answer;
      least = least_refused (hands_causes o.SIZE cs ds) refl (order (o.hand cs) (o.hand ds)) c.from_residual.result (answer ∙ m.compares cs ds);
    }

pub returns : goal.returns
returns g c =
    let cs = c.args.first.now in
    let ds = c.args.second.now in
    let o = g.H.OfCards in
    let order = g.H.Order.order in
    let h = g.H.Hand in
    let m = g.met.H.Hand in
    let good = both_admitted o.SIZE cs ds tt c.in_ok-admit_both.field-0 (sym (rw c.SIZE.ensures at c.in_ok-admit_both.ensures)) in
    let any_order : InAnyOrders h.compared cs ds (Ok c.compare.result) =
    rw c.compare.ensures
    (compared_in_any_orders o.SIZE o.hand order h.compared m.compares cs ds c.of_cards.result c.of_cards-2.result good.0 good.1 c.of_cards.ensures.any_order c.of_cards-2.ensures.any_order) in
    let answer = sym (any_order cs ds (IsPermutation-refl cs) (IsPermutation-refl ds)) in
    record {
      answer = answer;
      any_order = any_order;
      swapped = compared_swapped o.SIZE o.hand order h.compared m.compares g.met.H.Order.turned cs ds ∙ ap swapped (sym answer);
      classes = higher_class_wins o.SIZE o.hand order h.compared m.compares o.class_of g.H.Class.HandClass.lower h.classed m.classes m.by_class cs ds (Ok c.compare.result) answer;
      least = least_refused (hands_causes o.SIZE cs ds) refl (order (o.hand cs) (o.hand ds)) (Ok c.compare.result) (answer ∙ m.compares cs ds);
    }
