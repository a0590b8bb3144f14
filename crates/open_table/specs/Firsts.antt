-- What the first command of a sheet comes to: it has to open a table.
use Rattle.std.specs.Prelude.{◌≡◌, ℕ, ◌+◌, List, Some, None, Ok, Err, Option, Result}
use Rattle.refusals.specs.declared.Cause.TheVariants.{WrongStage}
use Rattle.refusals.specs.declared.Refusal.{Refusal}
use Rattle.refusals.specs.declared.Cause.{Cause}
use Rattle.refusals.specs.Refusals.{first_cause, refused, Answers}
use Rattle.commands.specs.declared.Conditions.{Conditions}
use Rattle.commands.specs.Calls.{Call, Open, Buy, Cash, Fill, Draw, Bet, Deal, Raise, Leave, Settle, Void}
use Rattle.sheet.specs.Format.{width_of}
use Rattle.sheet.specs.Reading.{read_at}
use Rattle.table.specs.Opening.{refused_by}
use Rattle.ledger.specs.declared.notes.Note.{Note}
use Rattle.open_table.specs.declared.open_table.OpenTable.{OpenTable}
use Rattle.open_table.specs.Tables.{opening_causes, Opened}

-- why a call opens no table, if it does not: only an Open opens one, and it may be refused
abbrev pub opens_not : Call → Option Refusal
opens_not (Open conditions tray) = refused_by (first_cause (opening_causes conditions tray))
opens_not (Buy s n) = Some (refused WrongStage s)
opens_not (Cash s n) = Some (refused WrongStage s)
opens_not (Fill n) = Some (refused WrongStage 0)
opens_not (Draw n) = Some (refused WrongStage 0)
opens_not (Bet s j n) = Some (refused WrongStage s)
opens_not (Deal cards) = Some (refused WrongStage 0)
opens_not (Raise s) = Some (refused WrongStage s)
opens_not (Leave s) = Some (refused WrongStage s)
opens_not Settle = Some (refused WrongStage 0)
opens_not Void = Some (refused WrongStage 0)

-- why what was read first opens no table
abbrev pub first_refusal : Result (Option Call) Refusal → Option Refusal
first_refusal (Ok None) = None
first_refusal (Ok (Some c)) = opens_not c
first_refusal (Err e) = Some e

-- the cause that is noted of a first command, if it opened no table
abbrev pub cause_noted : {A : Type 0} → Result A Note → Option Cause
cause_noted (Ok x) = None
cause_noted (Err note) = Some note.refusal.cause

-- where an Open is read, the least of the causes that hold is noted, and a table is opened where none holds
abbrev pub LeastNoted : {A : Type 0} → List ℕ → ℕ → Result A Note → Type 0
LeastNoted sheet p r = (c : Conditions) (tray : ℕ) → read_at sheet p ≡ Ok (Some (Open c tray)) → Answers (opening_causes c tray) (cause_noted r)

-- a table opened by the command at a place
pub record OpenedAt (sheet : List ℕ) (p : ℕ) (t : OpenTable) (p' : ℕ) : Type 0 where
  pub conditions : Conditions
  pub tray : ℕ
  pub reads : read_at sheet p ≡ Ok (Some (Open conditions tray))
  pub opens : Opened conditions tray (Ok t)
  pub place : p' ≡ p + width_of (Open conditions tray)

-- a table that was opened, no command, or the note of why no table was opened; the place moves only behind an Open that is accepted
abbrev pub FirstCommand : List ℕ → ℕ → Result (Option OpenTable) Note → ℕ → Type 0
FirstCommand sheet p (Ok (Some t)) p' = OpenedAt sheet p t p'
FirstCommand sheet p (Ok None) p' = (read_at sheet p ≡ Ok None) × (p' ≡ p)
FirstCommand sheet p (Err note) p' = (note.place ≡ p) × (Some note.refusal ≡ first_refusal (read_at sheet p)) × (p' ≡ p)
