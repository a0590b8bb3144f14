-- The derived order of hands, field by field, is that part by part.
use Rattle.std.proofs.Common.{◌≡◌, Ordering, Less, Equal, Greater, refl, ◌∙◌}
use Rattle.std.specs.Ordering.{ordering_then}
use Rattle.grading.specs.Parts.{three_steps}

then_assoc : (a b c : Ordering) → ordering_then a (ordering_then b c) ≡ ordering_then (ordering_then a b) c
then_assoc Less b c = refl
then_assoc Equal b c = refl
then_assoc Greater b c = refl

-- class, then ranks, and then suit
pub three_fields : (class ranks suit : Ordering) → ordering_then class (ordering_then ranks suit) ≡ ordering_then (ordering_then class Equal) (ordering_then ranks (ordering_then (ordering_then suit Equal) Equal))
three_fields class ranks suit = then_assoc class ranks suit ∙ three_steps class ranks suit
