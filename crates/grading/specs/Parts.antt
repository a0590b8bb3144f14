-- Laws of the comparison part by part, and the same comparison as the code makes it.
use Rattle.std.specs.Prelude.{◌≡◌, ℕ, ◌<◌, List, [], ◌∷◌, refl}
use Rattle.std.specs.declared.cmp.Ordering.TheVariants.{Less, Equal, Greater}
use Rattle.std.specs.declared.cmp.Ordering.{Ordering}
use Rattle.std.proofs.Common.{sym, ap, ◌∙◌, arith}
use Rattle.std.proofs.lemmas.Bool.Decides.{nat_tests}
use Rattle.std.specs.Cmp.{nat_cmp_total}
use Rattle.std.specs.Cmp.Lexicographic.{slice_cmp, lists_total}
use Rattle.std.specs.Ordering.{ordering_reverse, ordering_then, nat_cmp}
use Rattle.grading.specs.Order.{turned_about, as_comparison, by_parts}
use Rattle.grading.specs.declared.comparisons.Comparison.{Comparison}
use Rattle.grading.specs.declared.comparisons.Comparison.TheVariants.{Lower, Alike, Higher}

as_turned : (o : Ordering) → as_comparison (ordering_reverse o) ≡ turned_about (as_comparison o)
as_turned Less = refl
as_turned Equal = refl
as_turned Greater = refl

abbrev as_ordering : Comparison → Ordering
as_ordering Lower = Less
as_ordering Alike = Equal
as_ordering Higher = Greater

back : (o : Ordering) → as_ordering (as_comparison o) ≡ o
back Less = refl
back Equal = refl
back Greater = refl

-- the answer for numbers, from the answer for hands
ordering_from : (o : Ordering) (a : Comparison) → as_comparison o ≡ a → o ≡ as_ordering a
ordering_from o a e = sym (back o) ∙ ap as_ordering e

pub by_parts_turned : (ms ns : List (List ℕ)) → by_parts ms ns ≡ turned_about (by_parts ns ms)
by_parts_turned ms ns = ap as_comparison ((lists_total (lists_total nat_cmp_total)).antisymm ms ns) ∙ as_turned (slice_cmp (slice_cmp nat_cmp) ns ms)

pub by_parts_chained : (ms ns ls : List (List ℕ)) → by_parts ms ns ≡ Lower → by_parts ns ls ≡ Lower → by_parts ms ls ≡ Lower
by_parts_chained ms ns ls p q =
    ap as_comparison ((lists_total (lists_total nat_cmp_total)).trans ms ns ls (ordering_from _ Lower p) (ordering_from _ Lower q))

pub by_parts_alike : (ms ns ls : List (List ℕ)) → by_parts ms ns ≡ Alike → by_parts ms ls ≡ by_parts ns ls
by_parts_alike ms ns ls p = ap as_comparison ((lists_total (lists_total nat_cmp_total)).congr ms ns ls (ordering_from _ Alike p))

above : (m n : ℕ) → n < m → nat_cmp m n ≡ Greater
above m n h = grind (arith, nat_tests)

-- where the first parts are single numbers that differ, they decide
pub by_parts_first : (m n : ℕ) (ms ns : List (List ℕ)) → n < m → by_parts ((m ∷ []) ∷ ms) ((n ∷ []) ∷ ns) ≡ Higher
by_parts_first m n ms ns h = ap (λ o. as_comparison (ordering_then (ordering_then o Equal) (slice_cmp (slice_cmp nat_cmp) ms ns))) (above m n h)

-- class and then ranks
pub two_steps : (class ranks : Ordering) → ordering_then class ranks ≡ ordering_then (ordering_then class Equal) (ordering_then ranks Equal)
two_steps Less ranks = refl
two_steps Equal Less = refl
two_steps Equal Equal = refl
two_steps Equal Greater = refl
two_steps Greater ranks = refl

-- class, then ranks, and then suit
pub three_steps : (class ranks suit : Ordering) → ordering_then (ordering_then class ranks) suit ≡ ordering_then (ordering_then class Equal) (ordering_then ranks (ordering_then (ordering_then suit Equal) Equal))
three_steps Less ranks suit = refl
three_steps Equal Less suit = refl
three_steps Equal Equal Less = refl
three_steps Equal Equal Equal = refl
three_steps Equal Equal Greater = refl
three_steps Equal Greater suit = refl
three_steps Greater ranks suit = refl
