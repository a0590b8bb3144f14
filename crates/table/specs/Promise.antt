-- The promise over any list of calls: what holds of a table that a history of calls has led to.
use Rattle.std.specs.Prelude.{◌≡◌, ℕ, ◌+◌, ◌<◌, ◌≤◌, true, List, [], map, length, take, fold, pos, is_ok, Result, nat_le, slice_index_or}
use Rattle.refusals.specs.declared.Refusal.{Refusal}
use Rattle.commands.specs.Calls.{Call, Settle}
use Rattle.game.specs.declared.choice.Choice.TheVariants.{Open as open_choice}
use Rattle.game.specs.Rules.{Rules}
use Rattle.books.specs.declared.seat.Seat.{Seat}
use Rattle.books.specs.declared.stage.Stage.TheVariants.{Betting}
use Rattle.books.specs.declared.table_books.Books.{Books}
use Rattle.books.specs.Books.{empty, seat_at, chips, deal_on}
use Rattle.table.specs.declared.opening.Opening.{Opening}
use Rattle.table.specs.Calls.{either}
use Rattle.table.specs.Causes.{verdict}
use Rattle.table.specs.Effects.{after}
use Rattle.table.specs.Entries.{writes}
use Rattle.table.specs.Holdings.{limit, total, every}
use Rattle.table.specs.Tally.{Turn, is_accepted, Slip, Tally, tally, brought, taken, rounds, entries_due, is_ready, entries}

-- the conditions that an opening has to meet
pub record MeetsConditions (o : Opening) : Type 0 where
  pub tray : o.tray ≤ limit
  pub least : 1 ≤ o.minimum
  pub bounds : o.minimum ≤ o.maximum
  pub most : o.maximum ≤ 1000000

-- an empty seat
abbrev pub empty_seat : Seat
empty_seat = record { rack = 0; stakes = empty; raised = 0; choice = open_choice }

-- a newly opened table: a tray, empty racks and spaces, and the bounds of a stake
abbrev pub opened : Opening → Books
opened o = record { tray = o.tray; seats = map (λ k. empty_seat) every; stage = Betting; rounds = 0; minimum = o.minimum; maximum = o.maximum }

-- the turn of a call that was made on this table with so many free places, by its answer: accepted, it wrote what the call writes there
abbrev pub turn_of : Rules → Books → Call → ℕ → Result (Unit {0}) Refusal → Turn
turn_of R b c free r = record { call = c; free = free; answer = r; entries = either r (writes R b c) [] }

-- the table that a history makes of another: one accepted call after another has its effect, and nothing else changes the table
abbrev pub led : Rules → Books → List Turn → Books
led R b us = fold (λ x u. either u.answer (after R x u.call) x) b us

-- what holds of each turn of a history, given the history before it
abbrev pub Each : (List Turn → Turn → Type 0) → List Turn → Type 0
Each P us = (n : ℕ) (u : Turn) → n < length us → u ≡ slice_index_or us n u → P (take n us) u

-- a turn on this table: refused exactly where a cause is named, with the least one, and what it wrote is what the call writes
pub record Exact (R : Rules) (b : Books) (u : Turn) : Type 0 where
  pub answer : u.answer ≡ verdict R b u.call u.free
  pub entries : u.entries ≡ either u.answer (writes R b u.call) []

-- a seat and its slip agree: the chips are the balance, and stakes and choice are those noted
pub record Agree (s : Seat) (u : Slip) : Type 0 where
  pub balance : pos (chips s) ≡ u.balance
  pub stakes : u.stakes ≡ s.stakes
  pub choice : u.choice ≡ s.choice

pub record Tallied (b : Books) (t : Tally) : Type 0 where
  pub seats : (k : ℕ) → k < 7 → Agree (seat_at b k) (t.slip k)
  pub deal : t.deal ≡ deal_on b.stage

-- once all due choices of a deal are made, a settlement is accepted exactly when the ledger has a free place for each entry of the round, however many are free
abbrev pub Settles : Rules → Tally → Books → Type 0
Settles R t b = (free : ℕ) → is_ready R t ≡ true → is_ok (verdict R b Settle free) ≡ nat_le (entries t) free

-- the same of a settlement of the history, whatever the table is
abbrev pub SettledSo : Rules → Tally → Turn → Type 0
SettledSo R t u = u.call ≡ Settle → is_ready R t ≡ true → is_accepted u ≡ nat_le (entries t) u.free

-- what holds of a table to which a history led from an opening
pub record Reached (R : Rules) (o : Opening) (us : List Turn) (b : Books) : Type 0 where
  -- the opening met its conditions
  pub opening : MeetsConditions o
  -- tray, racks and spaces are the opening tray with accepted buys and fills, less accepted cash-outs and draws
  pub chips_add_up : total b + taken us ≡ o.tray + brought us
  -- each seat's chips are its balance in the tally
  pub tallied : Tallied b (tally R us)
  -- the rounds counted are the accepted deals
  pub counted : b.rounds ≡ rounds us
  -- each turn wrote the entries that the tally of the history before it says, and no other
  pub written : Each (λ before u. u.entries ≡ entries_due R before u) us
  -- a settlement would be accepted now exactly when its entries fit, and each of the history was
  pub settles : Settles R (tally R us) b
  pub settled : Each (λ before u. SettledSo R (tally R before) u) us
  -- each call of the history was refused exactly where a cause was named, and was otherwise done
  pub exact : Each (λ before u. Exact R (led R (opened o) before) u) us
  -- and that made this table, with nothing else
  pub leads : b ≡ led R (opened o) us
