-- The answer of a comparison, and hands compared part by part.
use Rattle.std.specs.Prelude.{ℕ, List}
use Rattle.std.specs.declared.cmp.Ordering.TheVariants.{Less, Equal, Greater}
use Rattle.std.specs.declared.cmp.Ordering.{Ordering}
use Rattle.std.specs.Cmp.Lexicographic.{slice_cmp}
use Rattle.grading.specs.declared.comparisons.Comparison.{Comparison}
use Rattle.grading.specs.declared.comparisons.Comparison.TheVariants.{Lower, Alike, Higher}
use Rattle.std.specs.Ordering.{nat_cmp}

-- the answer with the two hands swapped
abbrev pub turned_about : Comparison → Comparison
turned_about Lower = Higher
turned_about Alike = Alike
turned_about Higher = Lower

-- the answer for hands, from the answer for the numbers that stand for them: the larger number is the higher hand
abbrev pub as_comparison : Ordering → Comparison
as_comparison Less = Lower
as_comparison Equal = Alike
as_comparison Greater = Higher

-- hands told part by part, each a list of numbers: the first part that differs decides, and in it the first number that differs
abbrev pub by_parts : List (List ℕ) → List (List ℕ) → Comparison
by_parts ms ns = as_comparison (slice_cmp (slice_cmp nat_cmp) ms ns)
