-- The two ways compared: they differ only where a side equals the other by the card that it adds.
use Rattle.std.proofs.Common.{if◌then◌else◌, ◌≡◌, ◌≢◌, ℕ, ◌<◌, ◌≤◌, true, false, List, [], ◌∷◌, ◌++◌, Some, None, Option, refl, ap, ◌∙◌, arith}
use Rattle.std.proofs.lemmas.Bool.Decides.{nat_tests}
use Rattle.makccarat.specs.declared.side.Side.{Side}
use Rattle.makccarat.specs.declared.side.Side.TheVariants.{Player, Banker}
use Rattle.makccarat.specs.declared.way.Way.TheVariants.{First, Second}
use Rattle.makccarat.specs.Sides.{other, same}
use Rattle.makccarat.specs.Round.{total, first_two, first_total, fifth, sixth, first_adder, adder, answers, answered, called_after, added_after}
use Rattle.makccarat.specs.Laws.{EqualsByAdding, WaysCompared}

player_adds : (player banker : ℕ) → first_adder player banker ≡ Some Player → player ≤ banker
player_adds player banker h = grind (arith, nat_tests)

banker_adds : (player banker : ℕ) → first_adder player banker ≡ Some Banker → banker < player
banker_adds player banker h = grind (arith, nat_tests)

-- a side that adds first is not the higher
not_higher : (cs : List ℕ) (s : Side) → adder cs ≡ Some s → first_total cs s ≤ first_total cs (other s)
not_higher cs Player h = player_adds (first_total cs Player) (first_total cs Banker) h
not_higher cs Banker h = omega (arith, banker_adds (first_total cs Player) (first_total cs Banker) h)

-- both ways answer alike, unless the adder was lower and is equal now
answers_alike : (before after across : ℕ) → before ≤ across → (before < across → after ≢ across) → answers First before after across ≡ answers Second before after across
answers_alike before after across h unequal = grind (arith, nat_tests)

-- there the first way answers, and the second does not
answers_apart : (before after across : ℕ) → before < across → after ≡ across → (answers First before after across ≡ true) × (answers Second before after across ≡ false)
answers_apart before after across lower equal = (grind (arith, nat_tests), grind (arith, nat_tests))

module _ (cs : List ℕ) where
  answered_alike : ((s : Side) → ¬ EqualsByAdding cs s) → (s : Side) → adder cs ≡ Some s → answered First cs s ≡ answered Second cs s
  answered_alike none s adds =
      answers_alike (first_total cs s) (total (first_two cs s ++ fifth cs ∷ [])) (first_total cs (other s)) (not_higher cs s adds)
      (λ lower equal. none s (record { adds = adds; lower = lower; equals = equal }))

  called_alike : (o : Option Side) → ((s : Side) → o ≡ Some s → answered First cs s ≡ answered Second cs s) → called_after First cs o ≡ called_after Second cs o
  called_alike None alike = refl
  called_alike (Some s) alike = ap (λ b. if b then 6 else 5) (alike s refl)

  added_alike : (t : Side) (o : Option Side) → ((s : Side) → o ≡ Some s → answered First cs s ≡ answered Second cs s) → added_after First cs t o ≡ added_after Second cs t o
  added_alike t None alike = refl
  added_alike t (Some s) alike = ap (λ b. if same t s then fifth cs ∷ [] else (if b then sixth cs ∷ [] else [])) (alike s refl)

  pub ways_compared : WaysCompared cs
  ways_compared = record {
    alike = λ none. called_alike (adder cs) (answered_alike none);
    totals = λ none t. ap (λ more. total (first_two cs t ++ more)) (added_alike t (adder cs) (answered_alike none));
    apart = λ s e.
        let p = answers_apart (first_total cs s) (total (first_two cs s ++ fifth cs ∷ [])) (first_total cs (other s)) e.lower e.equals in (
          ap (called_after First cs) e.adds ∙ ap (λ b. if b then 6 else 5) p.0,
          ap (called_after Second cs) e.adds ∙ ap (λ b. if b then 6 else 5) p.1,
        );
  }
