-- The stop rule, said of the calls that a run performed and of the place at which it ended.
use Rattle.std.specs.Prelude.{◌≡◌, ℕ, ◌-◌, ◌<◌, ◌≤◌, cond, ◌⊎◌, ◌↔◌, List, length, Err, sum_by}
use Rattle.std.specs.List.{flat_map}
use Rattle.refusals.specs.declared.Refusal.{Refusal}
use Rattle.sheet.specs.Reading.{read_at}
use Rattle.ledger.specs.declared.entries.Entry.{Entry}
use Rattle.table.specs.Promise.{Each}
use Rattle.table.specs.Tally.{Turn, is_accepted}
use Rattle.run.specs.declared.ended.Ended.{Ended}
use Rattle.run.specs.declared.ended.Ended.TheVariants.{SheetEnd, Unreadable, NoRoom}
use Rattle.run.specs.Meaning.{most_entries}

-- how many calls of a history were refused: each left one note
abbrev pub refusals_in : List Turn → ℕ
refusals_in us = sum_by (λ u. cond (is_accepted u) 0 1) us

-- all entries that the calls of a history wrote, in order
abbrev pub entries_in : List Turn → List Entry
entries_in us = flat_map (λ u. u.entries) us

-- with so many places free for entries and for notes any command can be performed: seven entries, one a seat, and a note
pub record HasRoom (entries notes : ℕ) : Type 0 where
  pub seven : most_entries ≤ entries
  pub one : 1 ≤ notes

-- fewer than seven places of the ledger are free, or none for a note
abbrev pub LacksRoom : ℕ → ℕ → Type 0
LacksRoom entries notes = (entries < most_entries) ⊎ (notes ≡ 0)

-- a run ends at a place, with so many places free for entries and for notes before what stands there
pub record EndsAt (sheet : List ℕ) (p entries notes : ℕ) (ended : Ended) : Type 0 where
  -- for want of room exactly where bytes remain and room is lacking
  pub no_room : (ended ≡ NoRoom) ↔ ((p < length sheet) × LacksRoom entries notes)
  -- as unreadable, by this refusal, exactly where there is room and reading there is refused so
  pub unreadable : (e : Refusal) → (ended ≡ Unreadable e) ↔ (HasRoom entries notes × (read_at sheet p ≡ Err e))
  -- and at the end exactly where no bytes remain
  pub at_end : (ended ≡ SheetEnd) ↔ (length sheet ≤ p)

-- a run that began with so many places free for entries and for notes performed these calls, and ended at this place
pub record StopRule (sheet : List ℕ) (entries notes : ℕ) (us : List Turn) (ended : Ended) (p : ℕ) : Type 0 where
  -- each call was handed what the calls before it left of the ledger
  pub handed : Each (λ before u. u.free ≡ entries - length (entries_in before)) us
  -- and had room there, and for its note
  pub room : Each (λ before u. HasRoom u.free (notes - refusals_in before)) us
  -- and the run ended where it had to
  pub ends : EndsAt sheet p (entries - length (entries_in us)) (notes - refusals_in us) ended
