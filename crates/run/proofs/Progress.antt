-- A run that has room for its first command and stops for want of room has moved its place.
use Rattle.std.proofs.Common.{◌≡◌, ℕ, zero, suc, ◌+◌, ◌-◌, ◌<◌, ◌≤◌, Bool, true, false, cond, List, [], length, Some, None, Ok, Err, Option, Result, sym, refl, ap, ◌∙◌, arith}
use Rattle.refusals.specs.declared.Refusal.{Refusal}
use Rattle.commands.specs.Calls.{Call}
use Rattle.game.specs.Rules.{Rules}
use Rattle.books.specs.declared.table_books.Books.{Books}
use Rattle.sheet.specs.Format.{width_of}
use Rattle.sheet.specs.Items.{item_and, items, items_of}
use Rattle.sheet.specs.Reading.{longest, read_at}
use Rattle.sheet.proofs.Items.{items_step, read_within, width_some}
use Rattle.table.specs.Calls.{either}
use Rattle.table.specs.Causes.{verdict}
use Rattle.table.specs.Entries.{writes}
use Rattle.run.specs.declared.ended.Ended.{Ended}
use Rattle.run.specs.declared.ended.Ended.TheVariants.{SheetEnd, Unreadable, NoRoom}
use Rattle.run.specs.Meaning.{noted}
use Rattle.run.specs.Runs.{State, start, no_room, performed, unread, runs, run_of}

-- a place that is at least p, whichever of two states it is of
either_place : (p : ℕ) (t : Bool) (x y : State × Ended) → p ≤ x.0.place → p ≤ y.0.place → p ≤ (cond t x y).0.place
either_place p true x y a b = a
either_place p false x y a b = b

module _ (R : Rules) (sheet : List ℕ) where
  -- a run never moves its place back
  never_back : (n lf nf : ℕ) (s : State) (p : ℕ) → p ≤ s.place → s.place ≤ p → p ≤ (runs R lf nf s (items n sheet p)).0.place
  never_back zero lf nf s p le ge = le
  never_back (suc n) lf nf s p le ge = go (read_at sheet p) (λ lf' nf' s' p' a b. never_back n lf' nf' s' p' a b)
    where
      go : (r : Result (Option Call) Refusal) → ((lf' nf' : ℕ) (s' : State) (p' : ℕ) → p' ≤ s'.place → s'.place ≤ p' → p' ≤ (runs R lf' nf' s' (items n sheet p')).0.place)
          → p ≤ (runs R lf nf s (item_and (items n sheet) p r)).0.place
      go (Ok None) back = le
      go (Ok (Some c)) back =
          let v = verdict R s.books c lf in
          let on : p + width_of c ≤ (runs R (lf - length (either v (writes R s.books c) [])) (nf - length (noted p v)) (performed R lf s p c v) (items n sheet (p + width_of c))).0.place =
          back (lf - length (either v (writes R s.books c) [])) (nf - length (noted p v)) (performed R lf s p c v) (p + width_of c) (omega arith) (omega arith) in
          either_place p (no_room lf nf) _ _ le (omega (arith, on))
      go (Err e) back = either_place p (no_room lf nf) _ _ le le

  pub moves_on : length sheet ≤ longest → (b : Books) (p lf nf : ℕ) → no_room lf nf ≡ false → (run_of R sheet b p lf nf).1 ≡ NoRoom → (p < length sheet) × (p < (run_of R sheet b p lf nf).0.place)
  moves_on short b p lf nf room stopped =
      let s = start b p in
      let step = items_step sheet short p in
      go (read_at sheet p) refl (ap (λ is. runs R lf nf s is) step)
    where
      go : (r : Result (Option Call) Refusal) → read_at sheet p ≡ r → run_of R sheet b p lf nf ≡ runs R lf nf (start b p) (item_and (items_of sheet) p (read_at sheet p)) → (p < length sheet) × (p < (run_of R sheet b p lf nf).0.place)
      go (Ok None) e is =
          let ends : SheetEnd ≡ NoRoom = sym (ap (λ x. x.1) (is ∙ ap (λ r. runs R lf nf (start b p) (item_and (items_of sheet) p r)) e)) ∙ stopped in
          absurd (cc)
      go (Err x) e is =
          let ends : Unreadable x ≡ NoRoom = sym (ap (λ y. y.1) (is ∙ ap (λ r. runs R lf nf (start b p) (item_and (items_of sheet) p r)) e ∙ ap (λ t. cond t (start b p, NoRoom) (unread (start b p) p x, Unreadable x)) room)) ∙ stopped in
          absurd (cc)
      go (Ok (Some c)) e is =
          let v = verdict R b c lf in
          let s' = performed R lf (start b p) p c v in
          let lf' = lf - length (either v (writes R b c) []) in
          let nf' = nf - length (noted p v) in
          let on : p + width_of c ≤ (runs R lf' nf' s' (items_of sheet (p + width_of c))).0.place = never_back (length sheet) lf' nf' s' (p + width_of c) (omega arith) (omega arith) in
          let same : (run_of R sheet b p lf nf).0.place ≡ (runs R lf' nf' s' (items_of sheet (p + width_of c))).0.place =
          ap (λ y. y.0.place) (is ∙ ap (λ r. runs R lf nf (start b p) (item_and (items_of sheet) p r)) e ∙ ap (λ t. cond t (start b p, NoRoom) (runs R lf' nf' s' (items_of sheet (p + width_of c)))) room) in
          (read_within sheet short p c e, omega (arith, same, on, width_some c))
