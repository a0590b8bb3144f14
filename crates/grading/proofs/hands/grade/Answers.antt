use Rattle.std.proofs.Common.{◌≡◌, Ok, sym, refl, ap, ◌∙◌}
use Rattle.std.proofs.lemmas.Result.{err_from_is_err_and}
use Rattle.refusals.specs.Refusals.{first_cause}
use Rattle.grading.specs.Admission.{hand_causes}
use Rattle.grading.proofs.Admitted.{refused_too, given_too}
use Rattle.grading.proofs.LeastCause.{least_refused}
use Rattle.grading.proofs.hands.grade.Goals as goal

pub returns-in_err-admit : goal.returns-in_err-admit
returns-in_err-admit g c =
    let cs = c.args.cards.now in
    let o = g.H.OfCards in
    let refused = rw c.SIZE.ensures at c.in_err-admit.ensures in
    let p = err_from_is_err_and c.from_residual.result c.from_residual.ensures.1 in
    let graded : c.from_residual.result ≡ g.H.Hand.graded cs =
    rw (p.1, p.2) (refused_too (first_cause (hand_causes o.SIZE cs)) tt (o.hand cs) c.in_err-admit.field-0.0 refused ∙ sym (g.met.H.Hand.grades cs)) in
    record {
      graded = graded;
      least = least_refused (hand_causes o.SIZE cs) refl (o.hand cs) c.from_residual.result (graded ∙ g.met.H.Hand.grades cs);
    }

pub returns : goal.returns
returns g c =
    let cs = c.args.cards.now in
    let o = g.H.OfCards in
    let admitted = rw c.SIZE.ensures at c.in_ok-admit.ensures in
    let graded =
    ap Ok c.of_cards.ensures.hand
    ∙ given_too (first_cause (hand_causes o.SIZE cs)) tt c.in_ok-admit.field-0 (o.hand cs) admitted
    ∙ sym (g.met.H.Hand.grades cs) in
    record {
      graded = graded;
      least = least_refused (hand_causes o.SIZE cs) refl (o.hand cs) (Ok c.of_cards.result) (graded ∙ g.met.H.Hand.grades cs);
    }
