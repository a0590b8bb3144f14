-- Dealing hands of n cards: n to each staking seat in seat order, and then n to the bank.
use Rattle.std.specs.Prelude.{ℕ, ◌+◌, ◌*◌, Bool, List, length, take, drop, count_by, Result}
use Rattle.grading.specs.Cards.{different_cards}
use Rattle.game.specs.Rules.{Deal}
use Rattle.game.specs.declared.dealing.Misdeal.{Misdeal}
use Rattle.game.specs.Dealing.{judged}
use Rattle.poker.specs.declared.dealing.HandSize.{HandSize}
use Rattle.poker.specs.declared.dealing.HandSize.TheVariants.{Three, Five}

-- how many cards a hand of this size has
abbrev pub cards_of : HandSize → ℕ
cards_of Three = 3
cards_of Five = 5

-- how many of the seats stake
abbrev pub stakers : List Bool → ℕ
stakers staking = count_by (λ b. b) staking

-- how many staking seats stand before seat k, counted from 0
abbrev pub stakers_before : ℕ → List Bool → ℕ
stakers_before k staking = stakers (take k staking)

-- the hand of n cards at a place among the hands, counted from 0; cut short where the cards run out
abbrev pub hand_at : ℕ → ℕ → List ℕ → List ℕ
hand_at n place cards = take n (drop (n * place) cards)

-- the hand of seat k, behind those of the staking seats before it
abbrev pub seat_hand : ℕ → ℕ → Deal → List ℕ
seat_hand n k d = hand_at n (stakers_before k d.staking) d.cards

-- the hand of the bank, behind those of all staking seats
abbrev pub bank_hand : ℕ → Deal → List ℕ
bank_hand n d = hand_at n (stakers d.staking) d.cards

-- whether the cards are a lawful deal: different cards, all of them, and a hand for each staking seat and the bank
abbrev pub dealing : ℕ → Deal → Result (Unit {0}) Misdeal
dealing n d = judged (different_cards d.cards) (length d.cards) (n * (stakers d.staking + 1))
