-- What a run leaves, exactly, and the laws above it.
use Rattle.std.specs.Prelude.{◌≡◌, ℕ, ◌+◌, ◌-◌, ◌<◌, ◌≤◌, Bool, cond, ◌||◌, List, [], ◌∷◌, ◌++◌, map, length, Ok, Err, Result, ◌==◌, nat_lt}
use Rattle.refusals.specs.declared.Cause.TheVariants.{SheetTooLong}
use Rattle.refusals.specs.declared.Refusal.{Refusal}
use Rattle.refusals.specs.Refusals.{refused}
use Rattle.commands.specs.Calls.{Call}
use Rattle.game.specs.Rules.{Rules}
use Rattle.ledger.specs.declared.entries.Entry.{Entry}
use Rattle.ledger.specs.declared.notes.Note.{Note}
use Rattle.ledger.specs.declared.rolls.Roll.{Roll}
use Rattle.ledger.specs.Rolls.{free, Written}
use Rattle.books.specs.declared.table_books.Books.{Books}
use Rattle.sheet.specs.Format.{width_of}
use Rattle.sheet.specs.Items.{Item, command, fault, items_of, calls_in}
use Rattle.sheet.specs.Reading.{longest}
use Rattle.table.specs.Calls.{either}
use Rattle.table.specs.Causes.{verdict}
use Rattle.table.specs.Effects.{after}
use Rattle.table.specs.Entries.{writes}
use Rattle.table.specs.declared.opening.Opening.{Opening}
use Rattle.table.specs.Promise.{turn_of, Reached}
use Rattle.table.specs.Soundness.{Sound}
use Rattle.table.specs.Tally.{Turn}
use Rattle.run.specs.declared.ended.Ended.{Ended}
use Rattle.run.specs.declared.ended.Ended.TheVariants.{SheetEnd, Unreadable, NoRoom}
use Rattle.run.specs.Meaning.{note_of, noted, most_entries, Told, quiet, and_then, told}
use Rattle.run.specs.StopRule.{entries_in, StopRule}

-- how far a run has come: the table, what it wrote and noted, the calls it performed with whether each was accepted, and its place
pub record State : Type 0 where
  pub books : Books
  pub entries : List Entry
  pub notes : List Note
  pub turns : List Turn
  pub place : ℕ

abbrev pub start : Books → ℕ → State
start b p = record { books = b; entries = []; notes = []; turns = []; place = p }

-- too few places are free: fewer than seven for entries, or none for a note
abbrev pub no_room : ℕ → ℕ → Bool
no_room entries notes = nat_lt entries most_entries || notes == 0

-- a command performed at a place, with so many places free for entries, and its answer
abbrev pub performed : Rules → ℕ → State → ℕ → Call → Result (Unit {0}) Refusal → State
performed R free s p c r = record {
  books = either r (after R s.books c) s.books;
  entries = s.entries ++ either r (writes R s.books c) [];
  notes = s.notes ++ noted p r;
  turns = s.turns ++ turn_of R s.books c free r ∷ [];
  place = p + width_of c;
}

-- a command that cannot be read is noted, and the place stays at its first byte
abbrev pub unread : State → ℕ → Refusal → State
unread s p e = record { books = s.books; entries = s.entries; notes = s.notes ++ note_of p e ∷ []; turns = s.turns; place = s.place }

-- the run over items, with so many places free for entries and for notes: where it comes to, and how it ends
abbrev pub runs : Rules → ℕ → ℕ → State → List Item → State × Ended
runs R entries notes s [] = (s, SheetEnd)
runs R entries notes s (command p c ∷ is) =
    let r = verdict R s.books c entries in
    cond (no_room entries notes) (s, NoRoom) (runs R (entries - length (either r (writes R s.books c) [])) (notes - length (noted p r)) (performed R entries s p c r) is)
runs R entries notes s (fault p e ∷ is) = cond (no_room entries notes) (s, NoRoom) (unread s p e, Unreadable e)

-- the run of a sheet from a place on
abbrev pub run_of : Rules → List ℕ → Books → ℕ → ℕ → ℕ → State × Ended
run_of R sheet b p entries notes = runs R entries notes (start b p) (items_of sheet p)

-- what is still to come after a run: all that the sheet means from its place on, where there was no room; else nothing
abbrev pub to_come : Rules → List ℕ → Ended → Books → ℕ → Told
to_come R sheet NoRoom b p = told R b (items_of sheet p)
to_come R sheet _ b p = quiet b

-- the table, the place and both rolls are as they were
pub record Still (b : Books) (p : ℕ) (l : Roll Entry) (n : Roll Note) (b' : Books) (p' : ℕ) (l' : Roll Entry) (n' : Roll Note) : Type 0 where
  pub books : b' ≡ b
  pub place : p' ≡ p
  pub ledger : Written l l' []
  pub notes : Written n n' []

pub record Ran (R : Rules) (sheet : List ℕ) (b : Books) (p : ℕ) (l : Roll Entry) (n : Roll Note) (ended : Ended) (b' : Books) (p' : ℕ) (l' : Roll Entry) (n' : Roll Note) : Type 0 where
  -- how it ended, and what table, place and rolls hold
  pub ends : ended ≡ (run_of R sheet b p (free l) (free n)).1
  pub books : b' ≡ (run_of R sheet b p (free l) (free n)).0.books
  pub place : p' ≡ (run_of R sheet b p (free l) (free n)).0.place
  pub ledger : Written l l' (run_of R sheet b p (free l) (free n)).0.entries
  pub notes : Written n n' (run_of R sheet b p (free l) (free n)).0.notes
  -- the entries are those that the calls performed wrote, in order
  pub by_turns : (run_of R sheet b p (free l) (free n)).0.entries ≡ entries_in (run_of R sheet b p (free l) (free n)).0.turns
  -- the calls performed, and then those that stand from the new place on, are the calls of the sheet: each once, in order
  pub each_once : calls_in (items_of sheet p) ≡ map (λ u. u.call) (run_of R sheet b p (free l) (free n)).0.turns ++ calls_in (items_of sheet p')
  -- stopping early and going on comes to the same table, entries and notes as the whole sheet does
  pub parts : told R b (items_of sheet p) ≡ and_then (run_of R sheet b p (free l) (free n)).0.entries (run_of R sheet b p (free l) (free n)).0.notes (to_come R sheet ended b' p')
  -- each command was performed with room for it, and the run ended where the stop rule says
  pub stops : StopRule sheet (free l) (free n) (run_of R sheet b p (free l) (free n)).0.turns ended p'
  pub sound : Sound R b'
  -- whatever history led here from a newly opened table, with the calls performed and whether each was accepted leads there
  pub leads : (o : Opening) (us : List Turn) → Reached R o us b → Reached R o (us ++ (run_of R sheet b p (free l) (free n)).0.turns) b'

-- what a run answers: a sheet that is too long is refused and nothing changes; else it ran
abbrev pub Answered : Rules → List ℕ → Books → ℕ → Roll Entry → Roll Note → Result Ended Refusal → Books → ℕ → Roll Entry → Roll Note → Type 0
Answered R sheet b p l n (Ok ended) b' p' l' n' = (length sheet ≤ longest) × Ran R sheet b p l n ended b' p' l' n'
Answered R sheet b p l n (Err e) b' p' l' n' = (longest < length sheet) × (e ≡ refused SheetTooLong 0) × Still b p l n b' p' l' n'
