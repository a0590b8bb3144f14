use Rattle.std.proofs.Common.{◌≡◌, ap, ◌∙◌}
use Rattle.std.specs.Cmp.Lexicographic.{slice_cmp}
use Rattle.std.specs.Ordering.{ordering_then, nat_cmp}
use Rattle.grading.specs.Order.{as_comparison}
use Rattle.grading.specs.Three.{three_order}
use Rattle.grading.specs.ThreeClasses.{three_below}
use Rattle.grading.specs.Parts.{two_steps}
use Rattle.grading.specs.contracts.three_classes.ThreeClassOrd.TheImpl as of_class
use Rattle.grading.specs.contracts.three_classes.ThreeClassHandClass.TheImpl.Laws as of_class_rank
use Rattle.grading.proofs.three.ThreeHandOrder.compare.Goals as goal

pub returns : goal.returns
unfolding three_order
returns c =
    let a = c.args.self.now in
    let b = c.args.other.now in
    let h : c.cmp.result ≡ ordering_then (of_class.ghosts.cmp a.class b.class) (slice_cmp nat_cmp a.ranks b.ranks) = c.cmp.ensures in
    c.from.ensures
    ∙ ap as_comparison (h ∙ ap (λ o. ordering_then o (slice_cmp nat_cmp a.ranks b.ranks)) (of_class_rank.upward-law a.class b.class) ∙ two_steps (nat_cmp (three_below a.class) (three_below b.class)) (slice_cmp nat_cmp a.ranks b.ranks))
