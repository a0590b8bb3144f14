-- What holds of a table that a history led to has one proof at most, so that a table can carry it.
use Rattle.std.specs.Prelude.{◌≡◌, List, take}
use Rattle.std.specs.Coded.{Coded-set, coded_ℕ, coded_ℤ, coded_bool, coded_list, coded_option, coded_result, le_prop}
use base.Stored.{coded_unit}
use Rattle.refusals.specs.contracts.Refusal.{the_row as refusals}
use Rattle.ledger.specs.contracts.entries.Entry.{the_row as entries}
use Rattle.game.specs.contracts.choice.Choice.{the_row as choices}
use Rattle.game.specs.Rules.{Rules}
use Rattle.books.specs.contracts.stage.Round.{the_row as rounds}
use Rattle.books.specs.contracts.table_books.Books.{the_row as books}
use Rattle.books.specs.declared.seat.Seat.{Seat}
use Rattle.books.specs.declared.table_books.Books.{Books}
use Rattle.table.specs.declared.opening.Opening.{Opening}
use Rattle.table.specs.Promise.{MeetsConditions, opened, led, Each, Exact, Agree, Tallied, SettledSo, Reached}
use Rattle.table.specs.Tally.{Turn, Slip, Tally, tally, entries_due}

met_one : (o : Opening) → IsProp (MeetsConditions o)
met_one o p q = λ i. record { tray = le_prop p.tray q.tray i; least = le_prop p.least q.least i; bounds = le_prop p.bounds q.bounds i; most = le_prop p.most q.most i }

each_one : (P : List Turn → Turn → Type 0) → ((before : List Turn) (u : Turn) → IsProp (P before u)) → (us : List Turn) → IsProp (Each P us)
each_one P h us p q = λ i n u lt e. h (take n us) u (p n u lt e) (q n u lt e) i

agree_one : (s : Seat) (u : Slip) → IsProp (Agree s u)
agree_one s u p q = λ i. record {
  balance = Coded-set coded_ℤ _ _ p.balance q.balance i;
  stakes = Coded-set (coded_list coded_ℕ) _ _ p.stakes q.stakes i;
  choice = Coded-set choices.coded _ _ p.choice q.choice i;
}

tallied_one : (b : Books) (t : Tally) → IsProp (Tallied b t)
tallied_one b t p q = λ i. record {
  seats = λ k lt. agree_one _ _ (p.seats k lt) (q.seats k lt) i;
  deal = Coded-set (coded_option rounds.coded) _ _ p.deal q.deal i;
}

exact_one : (R : Rules) (b : Books) (u : Turn) → IsProp (Exact R b u)
exact_one R b u p q = λ i. record {
  answer = Coded-set (coded_result coded_unit refusals.coded) _ _ p.answer q.answer i;
  entries = Coded-set (coded_list entries.coded) _ _ p.entries q.entries i;
}

pub reached_one : (R : Rules) (o : Opening) (us : List Turn) (b : Books) → IsProp (Reached R o us b)
reached_one R o us b p q = λ i. record {
  opening = met_one o p.opening q.opening i;
  chips_add_up = Coded-set coded_ℕ _ _ p.chips_add_up q.chips_add_up i;
  tallied = tallied_one _ _ p.tallied q.tallied i;
  counted = Coded-set coded_ℕ _ _ p.counted q.counted i;
  written = each_one (λ before u. u.entries ≡ entries_due R before u) (λ before u. Coded-set (coded_list entries.coded) u.entries (entries_due R before u)) us p.written q.written i;
  settles = λ free ready. Coded-set coded_bool _ _ (p.settles free ready) (q.settles free ready) i;
  settled = each_one (λ before u. SettledSo R (tally R before) u) (λ before u v w. λ j is_settle ready. Coded-set coded_bool _ _ (v is_settle ready) (w is_settle ready) j) us p.settled q.settled i;
  exact = each_one (λ before u. Exact R (led R (opened o) before) u) (λ before u. exact_one R (led R (opened o) before) u) us p.exact q.exact i;
  leads = Coded-set books.coded _ _ p.leads q.leads i;
}
