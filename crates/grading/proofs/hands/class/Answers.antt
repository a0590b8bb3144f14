use Rattle.std.proofs.Common.{◌≡◌, true, Ok, sym, refl, ◌∙◌}
use Rattle.std.proofs.lemmas.Result.{err_from_is_err_and}
use Rattle.std.proofs.lemmas.List.Sorted.{IsPermutation-refl}
use Rattle.grading.specs.Admission.{is_hand, hand_causes}
use Rattle.grading.specs.Laws.{InAnyOrder}
use Rattle.grading.proofs.Admitted.{admitted, not_admitted}
use Rattle.grading.proofs.Laws.{class_in_any_order, refused_in_any_order}
use Rattle.grading.proofs.LeastCause.{least_refused}
use Rattle.grading.proofs.hands.class.Goals as goal

pub returns-in_err-admit : goal.returns-in_err-admit
returns-in_err-admit g c =
    let cs = c.args.cards.now in
    let o = g.H.OfCards in
    let refused = rw c.SIZE.ensures at c.in_err-admit.ensures in
    let p = err_from_is_err_and c.from_residual.result c.from_residual.ensures.1 in
    let any_order : InAnyOrder g.H.Hand.classed cs c.from_residual.result =
    rw (p.1, p.2) (refused_in_any_order o.SIZE o.hand o.class_of g.H.Hand.classed g.met.H.Hand.classes cs tt c.in_err-admit.field-0.0 refused) in
    let class = sym (any_order cs (IsPermutation-refl cs)) in
    record {
      class = class;
      any_order = any_order;
      least = least_refused (hand_causes o.SIZE cs) refl (o.class_of (o.hand cs)) c.from_residual.result (class ∙ g.met.H.Hand.classes cs);
      one_class = rw p.1 (not_admitted o.SIZE cs tt c.in_err-admit.field-0.0 (sym refused));
    }

pub returns : goal.returns
returns g c =
    let cs = c.args.cards.now in
    let o = g.H.OfCards in
    let good : is_hand o.SIZE cs ≡ true = (admitted o.SIZE cs tt c.in_ok-admit.field-0 (sym (rw c.SIZE.ensures at c.in_ok-admit.ensures))).0 in
    let any_order : InAnyOrder g.H.Hand.classed cs (Ok c.class.result) =
    rw c.class.ensures (class_in_any_order o.SIZE o.hand o.class_of g.H.Hand.classed g.met.H.Hand.classes cs c.of_cards.result good c.of_cards.ensures.any_order) in
    let class = sym (any_order cs (IsPermutation-refl cs)) in
    record {
      class = class;
      any_order = any_order;
      least = least_refused (hand_causes o.SIZE cs) refl (o.class_of (o.hand cs)) (Ok c.class.result) (class ∙ g.met.H.Hand.classes cs);
      one_class = (good, rw c.class.ensures c.of_cards.ensures.only);
    }
