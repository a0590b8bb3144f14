-- What an entry of the ledger says, and when one is made.
use Rattle.std.specs.Prelude.{ℕ, cond, ◌&&◌, pos, ◌-ℤ◌, Ok, Err, Result, nat_le}
use Rattle.refusals.specs.Refusals.{refused}
use Rattle.refusals.specs.declared.Cause.TheVariants.{TotalTooLarge}
use Rattle.refusals.specs.declared.Refusal.{Refusal}
use Rattle.ledger.specs.Sums.{most_amount}
use Rattle.ledger.specs.declared.entries.Entry.{Entry}

-- the entry of a seat in a round: what it staked, what was returned, and the return less the stake
abbrev pub entered : ℕ → ℕ → ℕ → ℕ → Entry
entered round seat staked returned = record { round = round; seat = seat; staked = staked; returned = returned; net = pos returned -ℤ pos staked }

-- an entry is made where both amounts are within the limit; else it is refused, naming its seat
abbrev pub entry_answer : ℕ → ℕ → ℕ → ℕ → Result Entry Refusal
entry_answer round seat staked returned = cond (nat_le staked most_amount && nat_le returned most_amount) (Ok (entered round seat staked returned)) (Err (refused TotalTooLarge seat))
