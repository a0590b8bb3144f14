-- The tally of a history: fed the calls, their arguments and whether each was accepted, it reads nothing from the table.
use Rattle.std.specs.Prelude.{ℕ, ◌+◌, ◌-◌, Bool, true, false, cond, not, ◌&&◌, List, [], ◌∷◌, map, ℤ, pos, ◌+ℤ◌, ◌-ℤ◌, is_ok, Some, None, fold, sum_by, sum, Option, Result, filter, ◌==◌, nat_lt, slice_set}
use Rattle.refusals.specs.declared.Refusal.{Refusal}
use Rattle.commands.specs.Calls.{Call, Open, Buy, Cash, Fill, Draw, Bet, Deal, Raise, Leave, Settle, Void}
use Rattle.game.specs.declared.choice.Choice.{Choice}
use Rattle.game.specs.declared.choice.Choice.TheVariants.{Open as open_choice, Raised, Left}
use Rattle.game.specs.Rules as game
use Rattle.game.specs.Rules.{Rules, added}
use Rattle.ledger.specs.declared.entries.Entry.{Entry}
use Rattle.ledger.specs.Entries.{entered}

-- one call of a history: the call, the free places of the ledger it was handed, its answer, and the entries that it wrote to that ledger
pub record Turn : Type 0 where
  pub call : Call
  pub free : ℕ
  pub answer : Result (Unit {0}) Refusal
  pub entries : List Entry

-- a call that was not refused was accepted; of a turn the tally reads this and the call, and nothing else
abbrev pub is_accepted : Turn → Bool
is_accepted u = is_ok u.answer

-- one seat of the tally: a balance, which is a whole number with sign, its stakes, and its choice
pub record Slip : Type 0 where
  pub balance : ℤ
  pub stakes : List ℕ
  pub choice : Choice

-- the slips of the seats, counted from 0, and the deal
pub record Tally : Type 0 where
  pub slip : ℕ → Slip
  pub deal : Option game.Deal

-- five spaces without a stake
abbrev pub none_staked : List ℕ
none_staked = 0 ∷ 0 ∷ 0 ∷ 0 ∷ 0 ∷ []

abbrev pub start : Tally
start = record { slip = λ k. record { balance = pos 0; stakes = none_staked; choice = open_choice }; deal = None }

-- another slip at one seat
abbrev pub at : (ℕ → Slip) → ℕ → Slip → ℕ → Slip
at f i s k = cond (k == i) s (f k)

abbrev pub with_balance : Slip → ℤ → Slip
with_balance s z = record { balance = z; stakes = s.stakes; choice = s.choice }

abbrev pub with_stake : Slip → ℕ → ℕ → Slip
with_stake s j n = record { balance = s.balance; stakes = slice_set s.stakes (j - 1) n; choice = s.choice }

abbrev pub with_choice : Slip → Choice → Slip
with_choice s c = record { balance = s.balance; stakes = s.stakes; choice = c }

-- a slip whose stakes and choice are cleared
abbrev pub cleared_slip : ℤ → Slip
cleared_slip z = record { balance = z; stakes = none_staked; choice = open_choice }

-- the seven seats, counted from 0
abbrev pub seats : List ℕ
seats = 0 ∷ 1 ∷ 2 ∷ 3 ∷ 4 ∷ 5 ∷ 6 ∷ []

-- whether a seat has a stake noted
abbrev pub is_staked : (ℕ → Slip) → ℕ → Bool
is_staked f k = nat_lt 0 (sum (f k).stakes)

-- the told return, less the stakes, and less the raise if raised
abbrev pub gain : Rules → game.Deal → ℕ → Slip → ℤ
gain R d k s = pos (R.returns k s.stakes s.choice d) -ℤ pos (sum s.stakes + added R s.stakes s.choice)

abbrev pub settled_by : Rules → Tally → Option game.Deal → Tally
settled_by R t None = t
settled_by R t (Some d) = record { slip = λ k. cleared_slip ((t.slip k).balance +ℤ gain R d k (t.slip k)); deal = None }

-- the tally after an accepted call
abbrev pub counted : Rules → Tally → Call → Tally
counted R t (Open conditions tray) = t
counted R t (Buy s n) = record { slip = at t.slip (s - 1) (with_balance (t.slip (s - 1)) ((t.slip (s - 1)).balance +ℤ pos n)); deal = t.deal }
counted R t (Cash s n) = record { slip = at t.slip (s - 1) (with_balance (t.slip (s - 1)) ((t.slip (s - 1)).balance -ℤ pos n)); deal = t.deal }
counted R t (Fill n) = t
counted R t (Draw n) = t
counted R t (Bet s j n) = record { slip = at t.slip (s - 1) (with_stake (t.slip (s - 1)) j n); deal = t.deal }
counted R t (Deal cards) = record { slip = t.slip; deal = Some (game.deal (map (is_staked t.slip) seats) cards) }
counted R t (Raise s) = record { slip = at t.slip (s - 1) (with_choice (t.slip (s - 1)) Raised); deal = t.deal }
counted R t (Leave s) = record { slip = at t.slip (s - 1) (with_choice (t.slip (s - 1)) Left); deal = t.deal }
counted R t Settle = settled_by R t t.deal
counted R t Void = record { slip = λ k. cleared_slip (t.slip k).balance; deal = None }

-- a refused call changes nothing
abbrev pub noted : Rules → Tally → Turn → Tally
noted R t u = cond (is_accepted u) (counted R t u.call) t

abbrev pub tally : Rules → List Turn → Tally
tally R us = fold (noted R) start us

-- the chips that an accepted call brings to the table, and those that it takes away
abbrev pub brings : Call → ℕ
brings (Open conditions tray) = 0
brings (Buy s n) = n
brings (Cash s n) = 0
brings (Fill n) = n
brings (Draw n) = 0
brings (Bet s j n) = 0
brings (Deal cards) = 0
brings (Raise s) = 0
brings (Leave s) = 0
brings Settle = 0
brings Void = 0

abbrev pub takes_away : Call → ℕ
takes_away (Open conditions tray) = 0
takes_away (Buy s n) = 0
takes_away (Cash s n) = n
takes_away (Fill n) = 0
takes_away (Draw n) = n
takes_away (Bet s j n) = 0
takes_away (Deal cards) = 0
takes_away (Raise s) = 0
takes_away (Leave s) = 0
takes_away Settle = 0
takes_away Void = 0

-- accepted buys and fills, and accepted cash-outs and draws
abbrev pub brought : List Turn → ℕ
brought us = sum_by (λ u. cond (is_accepted u) (brings u.call) 0) us

abbrev pub taken : List Turn → ℕ
taken us = sum_by (λ u. cond (is_accepted u) (takes_away u.call) 0) us

-- no choice is made yet
abbrev pub is_unmade : Choice → Bool
is_unmade open_choice = true
is_unmade Raised = false
is_unmade Left = false

-- a choice is due at a seat and not made: the game tells one, on the stakes that the tally has noted
abbrev pub is_awaited : Rules → Slip → Bool
is_awaited R s = is_unmade s.choice && R.chooses s.stakes

abbrev pub is_dealt : Option game.Deal → Bool
is_dealt None = false
is_dealt (Some d) = true

abbrev pub none_of : List Bool → Bool
none_of [] = true
none_of (b ∷ bs) = not b && none_of bs

-- dealt, and all due choices are made
abbrev pub is_ready : Rules → Tally → Bool
is_ready R t = is_dealt t.deal && none_of (map (λ k. is_awaited R (t.slip k)) seats)

-- the entries of the round: one for each seat with a stake
abbrev pub entries : Tally → ℕ
entries t = sum (map (λ k. cond (is_staked t.slip k) 1 0) seats)

-- how many rounds a call begins: a deal begins one
abbrev pub begins : Call → ℕ
begins (Open conditions tray) = 0
begins (Buy s n) = 0
begins (Cash s n) = 0
begins (Fill n) = 0
begins (Draw n) = 0
begins (Bet s j n) = 0
begins (Deal cards) = 1
begins (Raise s) = 0
begins (Leave s) = 0
begins Settle = 0
begins Void = 0

-- the number of the round: the accepted deals
abbrev pub rounds : List Turn → ℕ
rounds us = sum_by (λ u. cond (is_accepted u) (begins u.call) 0) us

-- the entry of a seat by its slip: the round, the seat's number, the stakes with the raise if raised, and the told return
abbrev pub entry_by : Rules → ℕ → game.Deal → ℕ → Slip → Entry
entry_by R round d k s = entered round (k + 1) (sum s.stakes + added R s.stakes s.choice) (R.returns k s.stakes s.choice d)

-- the entries of a round by the tally: one for each seat with a noted stake, in the order of the seats
abbrev pub entries_by : Rules → ℕ → (ℕ → Slip) → Option game.Deal → List Entry
entries_by R round slip None = []
entries_by R round slip (Some d) = map (λ k. entry_by R round d k (slip k)) (filter (is_staked slip) seats)

-- the entries that an accepted call has to write, by the history before it: a settlement those of the round, any other call none
abbrev pub accepted_writes : Rules → List Turn → Call → List Entry
accepted_writes R before (Open conditions tray) = []
accepted_writes R before (Buy s n) = []
accepted_writes R before (Cash s n) = []
accepted_writes R before (Fill n) = []
accepted_writes R before (Draw n) = []
accepted_writes R before (Bet s j n) = []
accepted_writes R before (Deal cards) = []
accepted_writes R before (Raise s) = []
accepted_writes R before (Leave s) = []
accepted_writes R before Settle = let t = tally R before in entries_by R (rounds before) t.slip t.deal
accepted_writes R before Void = []

-- the entries that a turn has to have written, by the history before it
abbrev pub entries_due : Rules → List Turn → Turn → List Entry
entries_due R before u = cond (is_accepted u) (accepted_writes R before u.call) []
