-- What holds of every round: which part of a row is the deal, who wins, where the two ways differ, on what a return depends; and a deal worked by hand.
use Rattle.std.specs.Prelude.{◌≡◌, ℕ, ◌+◌, ◌*◌, ◌<◌, ◌≤◌, ◌↔◌, ◌&&◌, List, [], ◌∷◌, ◌++◌, length, take, set, Some, None, Ok, Err, Option, nat_le, if◌then◌else◌}
use Rattle.game.specs.Rules.{Rules, Deal}
use Rattle.game.specs.declared.choice.Choice.{Choice}
use Rattle.game.specs.declared.dealing.Misdeal.TheVariants.{WrongCount}
use Rattle.makccarat.specs.declared.side.Side.{Side}
use Rattle.makccarat.specs.declared.side.Side.TheVariants.{Player, Banker}
use Rattle.makccarat.specs.declared.way.Way.{Way}
use Rattle.makccarat.specs.declared.way.Way.TheVariants.{First, Second}
use Rattle.makccarat.specs.Cards.{are_cards}
use Rattle.makccarat.specs.Sides.{other}
use Rattle.makccarat.specs.Round.{total, first_two, first_total, fifth, adder, called, final_total, winner, dealing}

-- exactly one front part of the row is a lawful deal, that of n cards
pub record OneFront (w : Way) (row : List ℕ) (n : ℕ) : Type 0 where
  pub within : n ≤ length row
  pub lawful : dealing w (take n row) ≡ Ok tt
  pub alone : (m : ℕ) → m ≤ length row → dealing w (take m row) ≡ Ok tt → m ≡ n

-- how many cards at the front of a row are its deal: those that its round calls for; none of a row that is shorter than six, or not all cards
abbrev pub front : Way → List ℕ → Option ℕ
front w row = if nat_le 6 (length row) && are_cards row then Some (called w row) else None

-- every round with these two final totals, in either way and from whatever cards, has this winner
abbrev pub Decided : Way → List ℕ → Option Side → Type 0
Decided w cs o =
    (v : Way) (ds : List ℕ) → final_total v ds Player ≡ final_total w cs Player → final_total v ds Banker ≡ final_total w cs Banker → winner v ds ≡ o

-- a side wins exactly where its final total is the higher; so the lower total never wins
abbrev pub HigherWins : Way → List ℕ → Option Side → Type 0
HigherWins w cs o = (s : Side) → (o ≡ Some s) ↔ (final_total w cs (other s) < final_total w cs s)

-- a side adds the fifth card, had the lower total before, and has the other side's total with it
pub record EqualsByAdding (cs : List ℕ) (s : Side) : Type 0 where
  pub adds : adder cs ≡ Some s
  pub lower : first_total cs s < first_total cs (other s)
  pub equals : total (first_two cs s ++ fifth cs ∷ []) ≡ first_total cs (other s)

-- the two ways differ only where a side equals the other by adding: there the first way calls for six cards, and the second for five; elsewhere they call for equally many, and the final totals are the same
pub record WaysCompared (cs : List ℕ) : Type 0 where
  pub alike : ((s : Side) → ¬ EqualsByAdding cs s) → called First cs ≡ called Second cs
  pub totals : ((s : Side) → ¬ EqualsByAdding cs s) → (t : Side) → final_total First cs t ≡ final_total Second cs t
  pub apart : (s : Side) → EqualsByAdding cs s → (called First cs ≡ 6) × (called Second cs ≡ 5)

-- with these stakes every seat, in every deal of these cards, gets back r: neither the seat's number nor who else stakes counts
abbrev pub CardsDecide : Rules → List ℕ → List ℕ → ℕ → Type 0
CardsDecide R stakes cards r = (seat : ℕ) (c : Choice) (d : Deal) → d.cards ≡ cards → R.returns seat stakes c d ≡ r

-- the stakes without that on a side
abbrev pub without : Side → List ℕ → List ℕ
without Player stakes = set stakes 0 0
without Banker stakes = set stakes 1 0

-- a stake on the side with the lower final total brings nothing: the seat gets back what it would without it
abbrev pub LowerBringsNothing : Way → Rules → Type 0
LowerBringsNothing w R =
    (s : Side) (seat : ℕ) (stakes : List ℕ) (c : Choice) (d : Deal)
    → final_total w d.cards s < final_total w d.cards (other s)
    → R.returns seat stakes c d ≡ R.returns seat (without s stakes) c d

-- the card of a rank and a suit
abbrev pub card : ℕ → ℕ → ℕ
card rank suit = 16 * rank + suit

-- six cards that are a deal in the first way, where the banker wins 7 to 6, and one card too many in the second
pub record Parted (cs : List ℕ) : Type 0 where
  pub first : dealing First cs ≡ Ok tt
  pub player : final_total First cs Player ≡ 6
  pub banker : final_total First cs Banker ≡ 7
  pub wins : winner First cs ≡ Some Banker
  pub second : dealing Second cs ≡ Err WrongCount

-- the ranks 4, 2, 3, 3, 2, 9, of whatever suits, part the two ways
abbrev pub CheckedDeals : Type 0
CheckedDeals =
    (a b c d e f : ℕ) → a ≤ 3 → b ≤ 3 → c ≤ 3 → d ≤ 3 → e ≤ 3 → f ≤ 3
    → Parted (card 4 a ∷ card 2 b ∷ card 3 c ∷ card 3 d ∷ card 2 e ∷ card 9 f ∷ [])
