-- What makes a game: what it tells, and what it promises for the seven seats, any stakes up to a million a space, any choice it allows and any lawful deal.
use Rattle.std.specs.Prelude.{◌≡◌, ℕ, ◌+◌, ◌-◌, ◌<◌, ◌≤◌, Bool, true, false, List, length, sum, slice_index, slice_set, Ok, Err, Result}
use Rattle.game.specs.declared.choice.Choice.{Choice}
use Rattle.game.specs.declared.choice.Choice.TheVariants.{Open, Raised, Left}
use Rattle.game.specs.declared.taking.Barred.{Barred}
use Rattle.game.specs.declared.taking.Barred.TheVariants.{NoBets}
use Rattle.game.specs.declared.dealing.Misdeal.{Misdeal}
use Rattle.game.specs.declared.deal.Deal.{Deal as GivenDeal}

-- a deal: which seats staked, from seat 1 on, and the cards as handed in
pub record Deal : Type 0 where
  pub staking : List Bool
  pub cards : List ℕ

-- the deal of these cards to these seats
abbrev pub deal : List Bool → List ℕ → Deal
deal staking cards = record { staking = staking; cards = cards }

-- the deal that a game is asked about, wherever its cards lie
abbrev pub deal_of : GivenDeal → Deal
deal_of d = deal d.staking d.cards.now

-- the five tellings; a seat's stakes are those it laid before the deal, the stake of space s at place s - 1
pub record Rules : Type 0 where
  -- which of spaces 1 to 5 take a stake, given the seat's other stakes; it is defined for other numbers too
  pub takes : List ℕ → ℕ → Result (Unit {0}) Barred
  -- whether the cards are a lawful deal for the staking seats
  pub deals : Deal → Result (Unit {0}) Misdeal
  -- whether a seat has a choice, whether it may leave, and its raise
  pub chooses : List ℕ → Bool
  pub leaves : List ℕ → Bool
  pub raise : List ℕ → ℕ
  -- what a seat, counted from 0, gets back from its stakes, its choice and the deal
  pub returns : ℕ → List ℕ → Choice → Deal → ℕ
  -- the most that the bank may have to add to what the seat laid
  pub ceiling : List ℕ → ℕ

-- a seat's other stakes, where a space is asked about: its stakes without the one on that space
abbrev pub other_stakes : List ℕ → ℕ → List ℕ
other_stakes stakes space = slice_set stakes (space - 1) 0

-- five stakes, each at most a million
pub record Small (stakes : List ℕ) : Type 0 where
  pub five : length stakes ≡ 5
  pub each : (i : ℕ) → slice_index stakes i ≤ 1000000

-- the choices that a game allows: none where it tells no choice, to raise where it tells one, to leave where it also lets the seat leave
abbrev pub Allowed : Rules → List ℕ → Choice → Type 0
Allowed R stakes Open = R.chooses stakes ≡ false
Allowed R stakes Raised = R.chooses stakes ≡ true
Allowed R stakes Left = (R.chooses stakes ≡ true) × (R.leaves stakes ≡ true)

-- a deal to seven seats that the game tells to be lawful
pub record Fair (R : Rules) (d : Deal) : Type 0 where
  pub seven : length d.staking ≡ 7
  pub lawful : R.deals d ≡ Ok tt

-- what a choice adds to the stakes: the raise, if the seat raised
abbrev pub added : Rules → List ℕ → Choice → ℕ
added R stakes Open = 0
added R stakes Raised = R.raise stakes
added R stakes Left = 0

-- the five facts
pub record Facts (R : Rules) : Type 0 where
  -- the return is at most the seat's stakes, with the raise if it raised, plus the ceiling
  pub pays : (seat : ℕ) (stakes : List ℕ) (c : Choice) (d : Deal) → seat < 7 → Small stakes → Allowed R stakes c → Fair R d
      → R.returns seat stakes c d ≤ sum stakes + added R stakes c + R.ceiling stakes
  -- a seat without stakes has return, raise and ceiling 0
  pub idle_return : (seat : ℕ) (stakes : List ℕ) (c : Choice) (d : Deal) → seat < 7 → Small stakes → Allowed R stakes c → Fair R d → sum stakes ≡ 0 → R.returns seat stakes c d ≡ 0
  pub idle_raise : (stakes : List ℕ) → Small stakes → sum stakes ≡ 0 → R.raise stakes ≡ 0
  pub idle_ceiling : (stakes : List ℕ) → Small stakes → sum stakes ≡ 0 → R.ceiling stakes ≡ 0
  -- no ceiling passes 10,000,000,000
  pub ceilings : (stakes : List ℕ) → Small stakes → R.ceiling stakes ≤ 10000000000
  -- no lawful deal passes 40 cards
  pub cards : (d : Deal) → Fair R d → length d.cards ≤ 40
  -- the raise is at most 2,000,000
  pub raises : (stakes : List ℕ) → Small stakes → R.raise stakes ≤ 2000000

-- in a game that ever tells a choice, space 2 is the raise's and takes no stake
abbrev pub RaiseSpace : Rules → Type 0
RaiseSpace R = (stakes others : List ℕ) → Small stakes → R.chooses stakes ≡ true → Small others → R.takes (other_stakes others 2) 2 ≡ Err NoBets
