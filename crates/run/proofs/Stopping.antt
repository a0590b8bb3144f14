-- Where a run ends, by the stop rule, and that each call before was performed with room.
use Rattle.std.proofs.Common.{◌≡◌, ℕ, ◌+◌, ◌<◌, ◌≤◌, ◌&&◌, true, false, cond, eqb, ltb, List, [], ◌∷◌, ◌++◌, length, Some, None, Ok, Err, Option, Result, sym, refl, ap, ◌∙◌, ⊎_elim, arith}
use Rattle.std.proofs.lemmas.List.{append-nil}
use Rattle.std.proofs.lemmas.Grind.{flat_map-append}
use Rattle.std.proofs.lemmas.List.Sums.{sum_by_push}
use Rattle.std.proofs.lemmas.Bool.{cases_lt, ltb-false, lt-ltb, or_parts, or_cases}
use Rattle.std.proofs.lemmas.Bool.Decides.{nat_tests}
use Rattle.refusals.specs.declared.Refusal.{Refusal}
use Rattle.commands.specs.Calls.{Call}
use Rattle.sheet.specs.Reading.{longest, read_at}
use Rattle.sheet.proofs.Items.{read_past, read_here}
use Rattle.game.specs.Rules.{Rules}
use Rattle.books.specs.declared.table_books.Books.{Books}
use Rattle.table.specs.Promise.{turn_of}
use Rattle.table.specs.Tally.{Turn, is_accepted}
use Rattle.run.specs.declared.ended.Ended.TheVariants.{SheetEnd, Unreadable, NoRoom}
use Rattle.run.specs.Meaning.{most_entries, noted}
use Rattle.run.specs.Runs.{no_room}
use Rattle.run.specs.StopRule.{refusals_in, entries_in, HasRoom, LacksRoom, EndsAt}

-- the tests for room, and what they mean
pub room_here : (entries notes : ℕ) → no_room entries notes ≡ false → HasRoom entries notes
room_here entries notes e =
    let p = or_parts (ltb entries most_entries) (eqb notes 0) e in
    record { seven = ltb-false entries most_entries p.0; one = grind (arith, nat_tests, p.1) }

pub room_lacking : (entries notes : ℕ) → no_room entries notes ≡ true → LacksRoom entries notes
room_lacking entries notes e = grind (arith, nat_tests, or_cases (ltb entries most_entries) (eqb notes 0) e)

not_both : (entries notes : ℕ) → HasRoom entries notes → LacksRoom entries notes → ⊥
not_both entries notes h = λ l. ⊎_elim (λ (x : entries < most_entries). absurd (omega (arith, h.seven))) (λ (x : notes ≡ 0). absurd (omega (arith, h.one))) l

-- where the run does not stop for want of room, there is room for what is read
module _ (sheet : List ℕ) (short : length sheet ≤ longest) (p entries notes : ℕ) (on : (ltb p (length sheet) && no_room entries notes) ≡ false) where
  room_read : (r : Result (Option Call) Refusal) → r ≡ read_at sheet p → (r ≡ Ok None → ⊥) → no_room entries notes ≡ false
  room_read r reads some =
      ⊎_elim
      (λ (lt : p < length sheet). sym (ap (λ t. t && no_room entries notes) (lt-ltb p (length sheet) lt)) ∙ on)
      (λ (past : length sheet ≤ p). absurd (some (reads ∙ read_past sheet short p past)))
      (cases_lt p (length sheet))

  pub room_command : (c : Call) → Ok (Some c) ≡ read_at sheet p → no_room entries notes ≡ false
  room_command c reads = room_read (Ok (Some c)) reads (λ e. cc)

  pub room_fault : (e : Refusal) → Err e ≡ read_at sheet p → no_room entries notes ≡ false
  room_fault e reads = room_read (Err e) reads (λ i. cc)

-- a refusal leaves one note, and an accepted call none
pub refusals_more : (us : List Turn) (R : Rules) (b : Books) (c : Call) (free p : ℕ) (v : Result (Unit {0}) Refusal) → refusals_in (us ++ turn_of R b c free v ∷ []) ≡ refusals_in us + length (noted p v)
refusals_more us R b c free p (Ok x) = sum_by_push (λ u. cond (is_accepted u) 0 1) us (turn_of R b c free (Ok x))
refusals_more us R b c free p (Err e) = sum_by_push (λ u. cond (is_accepted u) 0 1) us (turn_of R b c free (Err e))

-- the entries of one more turn
pub entries_more : (us : List Turn) (x : Turn) → entries_in (us ++ x ∷ []) ≡ entries_in us ++ x.entries
entries_more us x = flat_map-append (λ u. u.entries) us (x ∷ []) ∙ ap (λ es. entries_in us ++ es) (append-nil x.entries)

-- where a run ends, by how it ended
module _ (sheet : List ℕ) (short : length sheet ≤ longest) (p entries notes : ℕ) where
  pub ends_at_end : read_at sheet p ≡ Ok None → EndsAt sheet p entries notes SheetEnd
  ends_at_end none =
      let past : length sheet ≤ p = ⊎_elim (λ (lt : p < length sheet). absurd (read_here sheet short p lt none)) (λ (ge : length sheet ≤ p). ge) (cases_lt p (length sheet)) in
      record {
        no_room = (λ e. absurd cc, λ h. absurd (omega (arith, h.0, past)));
        unreadable = λ e. (λ i. absurd cc, λ h. let x = sym none ∙ h.1 in absurd cc);
        at_end = (λ e. past, λ h. refl);
      }

  pub ends_lacking : p < length sheet → LacksRoom entries notes → EndsAt sheet p entries notes NoRoom
  ends_lacking lt lacks = record {
    no_room = (λ e. (lt, lacks), λ h. refl);
    unreadable = λ e. (λ i. absurd cc, λ h. absurd (not_both entries notes h.0 lacks));
    at_end = (λ e. absurd cc, λ h. absurd (omega (arith, h, lt)));
  }

  pub ends_unread : (e : Refusal) → read_at sheet p ≡ Err e → HasRoom entries notes → EndsAt sheet p entries notes (Unreadable e)
  ends_unread e reads room = record {
    no_room = (λ i. absurd cc, λ h. absurd (not_both entries notes room h.1));
    unreadable = λ e'. (λ i. (room, reads ∙ cc), λ h. let x = sym reads ∙ h.1 in cc);
    at_end = (λ i. absurd cc, λ past. let x = sym reads ∙ read_past sheet short p past in absurd cc);
  }
