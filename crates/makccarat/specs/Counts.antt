-- How many cards a round calls for, and what a lawful deal holds.
use Rattle.std.specs.Prelude.{◌≡◌, ℕ, ◌≤◌, Bool, true, false, cond, List, length, Some, None, Ok, Err, Option, ◌≢◌, refl}
use Rattle.std.proofs.Common.{arith, lit≤}
use Rattle.std.proofs.lemmas.Bool.{eq-eqb, ne_eqb}
use Rattle.game.proofs.Judged.{judged_lawful}
use Rattle.game.specs.declared.dealing.Misdeal.TheVariants.{WrongCount}
use Rattle.makccarat.specs.declared.side.Side.{Side}
use Rattle.makccarat.specs.declared.way.Way.{Way}
use Rattle.makccarat.specs.Cards.{are_cards}
use Rattle.makccarat.specs.Round.{adder, answered, called, called_after, dealing}

-- a round calls for four to six cards
pub four_to_six : (w : Way) (cs : List ℕ) → (4 ≤ called w cs) × (called w cs ≤ 6)
four_to_six w cs = after (adder cs)
  where
    five_or_six : (b : Bool) → (4 ≤ cond b 6 5) × (cond b 6 5 ≤ 6)
    five_or_six true = (lit≤ tt, lit≤ tt)
    five_or_six false = (lit≤ tt, lit≤ tt)

    after : (o : Option Side) → (4 ≤ called_after w cs o) × (called_after w cs o ≤ 6)
    after None = (lit≤ tt, lit≤ tt)
    after (Some s) = five_or_six (answered w cs s)

-- where four cards are enough no one adds
pub four_adds_none : (w : Way) (cs : List ℕ) (o : Option Side) → called_after w cs o ≤ 4 → o ≡ None
four_adds_none w cs None h = refl
four_adds_none w cs (Some s) h = absurd (more (answered w cs s) h)
  where
    more : (b : Bool) → cond b 6 5 ≤ 4 → ⊥
    more true l = omega arith
    more false l = omega arith

-- a lawful deal is all cards, and as many as are called for
pub lawful_deal : (w : Way) (cs : List ℕ) → dealing w cs ≡ Ok tt → (are_cards cs ≡ true) × (length cs ≡ called w cs)
lawful_deal w cs h = judged_lawful (are_cards cs) (length cs) (called w cs) h

-- cards as many as are called for are a lawful deal
pub deal_lawful : (w : Way) (cs : List ℕ) → are_cards cs ≡ true → length cs ≡ called w cs → dealing w cs ≡ Ok tt
deal_lawful w cs all n = rw (all, eq-eqb (length cs) (called w cs) n)

-- cards that are not as many as are called for are the wrong count
pub deal_wrong_count : (w : Way) (cs : List ℕ) → are_cards cs ≡ true → (length cs ≢ called w cs) → dealing w cs ≡ Err WrongCount
deal_wrong_count w cs all n = rw (all, ne_eqb (length cs) (called w cs) n)
