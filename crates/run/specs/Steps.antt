-- One step of a run, as the code goes; public contracts say it of the whole run.
use Rattle.std.specs.Prelude.{◌≡◌, ℕ, ◌+◌, ◌<◌, true, false, ◌&&◌, List, [], ◌∷◌, length, Some, None, Ok, Err, Option, Result, nat_lt}
use Rattle.refusals.specs.declared.Refusal.{Refusal}
use Rattle.commands.specs.Calls.{Call}
use Rattle.game.specs.Rules.{Rules}
use Rattle.ledger.specs.declared.entries.Entry.{Entry}
use Rattle.ledger.specs.declared.notes.Note.{Note}
use Rattle.ledger.specs.declared.rolls.Roll.{Roll}
use Rattle.ledger.specs.Rolls.{free, Written}
use Rattle.books.specs.declared.table_books.Books.{Books}
use Rattle.sheet.specs.Format.{width_of}
use Rattle.sheet.specs.Reading.{read_at}
use Rattle.table.specs.Performing.{Performed}
use Rattle.run.specs.declared.ended.Ended.{Ended}
use Rattle.run.specs.declared.ended.Ended.TheVariants.{SheetEnd, Unreadable, NoRoom}
use Rattle.run.specs.Meaning.{note_of, noted}
use Rattle.run.specs.Runs.{no_room, Still}

module _ (R : Rules) (sheet : List ℕ) (b : Books) (p : ℕ) (l : Roll Entry) (n : Roll Note) where
  -- the command at the place was performed
  pub record Moved (b' : Books) (p' : ℕ) (l' : Roll Entry) (n' : Roll Note) : Type 0 where
    pub call : Call
    pub answer : Result (Unit {0}) Refusal
    pub reads : read_at sheet p ≡ Ok (Some call)
    pub goes_on : (nat_lt p (length sheet) && no_room (free l) (free n)) ≡ false
    pub performs : Performed R b l call answer b' l'
    pub place : p' ≡ p + width_of call
    pub notes : Written n n' (noted p answer)

  -- no command could be read at the place, by this refusal
  pub record Stuck (refusal : Refusal) (b' : Books) (p' : ℕ) (l' : Roll Entry) (n' : Roll Note) : Type 0 where
    pub reads : read_at sheet p ≡ Err refusal
    pub goes_on : (nat_lt p (length sheet) && no_room (free l) (free n)) ≡ false
    pub books : b' ≡ b
    pub place : p' ≡ p
    pub ledger : Written l l' []
    pub notes : Written n n' (note_of p refusal ∷ [])

  abbrev pub Stepped : Option Ended → Books → ℕ → Roll Entry → Roll Note → Type 0
  Stepped None b' p' l' n' = Moved b' p' l' n'
  Stepped (Some SheetEnd) b' p' l' n' = (read_at sheet p ≡ Ok None) × Still b p l n b' p' l' n'
  Stepped (Some (Unreadable e)) b' p' l' n' = Stuck e b' p' l' n'
  Stepped (Some NoRoom) b' p' l' n' = (p < length sheet) × (no_room (free l) (free n) ≡ true) × Still b p l n b' p' l' n'
