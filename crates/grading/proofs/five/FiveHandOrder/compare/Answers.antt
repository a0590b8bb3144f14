use Rattle.std.proofs.Common.{◌≡◌, ap, ◌∙◌}
use Rattle.std.specs.Cmp.Lexicographic.{slice_cmp}
use Rattle.std.specs.Ordering.{ordering_then, nat_cmp}
use Rattle.grading.specs.Order.{as_comparison}
use Rattle.grading.specs.Five.{five_order}
use Rattle.grading.specs.FiveClasses.{five_below}
use Rattle.grading.specs.contracts.five_classes.FiveClassOrd.TheImpl as of_class
use Rattle.grading.specs.contracts.five_classes.FiveClassHandClass.TheImpl.Laws as of_class_rank
use Rattle.grading.proofs.Fields.{three_fields}
use Rattle.grading.proofs.five.FiveHandOrder.compare.Goals as goal

pub returns : goal.returns
unfolding five_order
returns c =
    let a = c.args.self.now in
    let b = c.args.other.now in
    let ranks = slice_cmp nat_cmp a.ranks b.ranks in
    let suits = nat_cmp a.suit b.suit in
    let h : c.cmp.result ≡ ordering_then (of_class.ghosts.cmp a.class b.class) (ordering_then ranks suits) = c.cmp.ensures in
    c.from.ensures ∙ ap as_comparison (h ∙ ap (λ o. ordering_then o (ordering_then ranks suits)) (of_class_rank.upward-law a.class b.class) ∙ three_fields (nat_cmp (five_below a.class) (five_below b.class)) ranks suits)
