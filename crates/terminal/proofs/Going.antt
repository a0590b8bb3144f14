-- What is printed from run to run.
use Rattle.std.proofs.Common.{◌≡◌, ◌≢◌, ℕ, zero, suc, ◌+◌, ◌-◌, ◌<◌, ◌≤◌, List, [], ◌∷◌, ◌++◌, length, get_or, Ok, Err, Result, All, OnOk, OnErr, is_ok, if◌then◌else◌, sym, refl, ap, ◌∙◌, subst, append_assoc, flat_map, arith}
use Rattle.std.proofs.lemmas.List.{append-nil, map-append}
use Rattle.std.proofs.lemmas.List.Concat.{flat_map-cons}
use Rattle.std.proofs.lemmas.List.Elements.{All-append}
use Rattle.std.proofs.lemmas.Grind.{flat_map-append}
use Rattle.std.specs.Borrow.{Bor}
use Rattle.std.specs.List.{concat}
use Rattle.game.specs.Rules.{Rules}
use Rattle.games.specs.Rules.{rules_of}
use Rattle.ledger.specs.declared.entries.Entry.{Entry}
use Rattle.ledger.specs.declared.notes.Note.{Note}
use Rattle.ledger.specs.declared.rolls.Roll.{Roll}
use Rattle.ledger.specs.Rolls.{kept, places, free}
use Rattle.lines.specs.Lines.{printed_closing}
use Rattle.books.specs.declared.table_books.Books.{Books}
use Rattle.sheet.specs.Items.{items_of, calls_in}
use Rattle.sheet.specs.Reading.{longest}
use Rattle.table.specs.declared.opening.Opening.{Opening}
use Rattle.table.specs.Promise.{Reached}
use Rattle.table.specs.Tally.{Turn}
use Rattle.run.specs.declared.ended.Ended.{Ended}
use Rattle.run.specs.declared.ended.Ended.TheVariants.{SheetEnd, Unreadable, NoRoom}
use Rattle.run.specs.Meaning.{most_entries, Told, and_then, told}
use Rattle.run.specs.Runs.{State, run_of, to_come, Ran}
use Rattle.run.specs.StopRule.{entries_in}
use Rattle.run.proofs.Progress.{moves_on}
use Rattle.open_table.specs.declared.open_table.OpenTable.{OpenTable}
use Rattle.open_table.specs.Sums.{closing_of}
use Rattle.open_table.specs.Tables.{rules_at, books_at, SheetRun}
use Rattle.terminal.specs.SheetLines.{roll_places, run_at, with_later_runs, runs_up_to, all_runs, state_after, run_lines, lines_of_runs}
use Rattle.terminal.specs.Promised.{turns_in}
use Rattle.terminal.specs.Pages.{Emptied, Ready, runs_after, calls_after, lines_after, LedOn, PrintedInPart}
use Rattle.terminal.proofs.AllCalls.{calls_of, once_with}
use Rattle.terminal.proofs.Parts.{one_line, concat_then, part_behind, part_more, none_in_part}

-- how many runs may still come: none but where room was wanting
abbrev pub turns_left : List ℕ → ℕ → Ended → ℕ
turns_left sheet p NoRoom = length sheet - p + 1
turns_left sheet p _ = 0

-- the lines of one run
abbrev pub lines_of : State → List (List ℕ)
lines_of s = run_lines s.entries s.notes

state_after_more : (b : Books) (rs rs' : List State) → state_after b (rs ++ rs') ≡ state_after (state_after b rs) rs'
state_after_more b [] rs' = refl
state_after_more b (s ∷ rs) rs' = state_after_more s.books rs rs'

lines_then : (b : Books) (rs rs' : List State) → lines_of_runs b (rs ++ rs') ≡ flat_map lines_of rs ++ lines_of_runs (state_after b rs) rs'
lines_then b rs rs' =
    ap (λ x. flat_map lines_of (rs ++ rs') ++ printed_closing (closing_of x) ∷ []) (state_after_more b rs rs')
    ∙ ap (λ x. x ++ printed_closing (closing_of (state_after (state_after b rs) rs')) ∷ []) (flat_map-append lines_of rs rs')
    ∙ append_assoc (flat_map lines_of rs) (flat_map lines_of rs') (printed_closing (closing_of (state_after (state_after b rs) rs')) ∷ [])

-- the runs of a sheet are one run and then those that are to come after it
module _ (R : Rules) (sheet : List ℕ) (short : length sheet ≤ longest) where
  moved : (b : Books) (p : ℕ) → (run_at R sheet b p).1 ≡ NoRoom → (p < length sheet) × (p < (run_at R sheet b p).0.place)
  moved b p stopped = moves_on R sheet short b p roll_places roll_places refl stopped

  enough : (n : ℕ) (b : Books) (p : ℕ) → length sheet ≤ n + p → runs_up_to n R sheet b p ≡ runs_up_to (suc n) R sheet b p
  enough zero b p few = go (run_at R sheet b p) (moved b p)
    where
      go : (x : State × Ended) → (x.1 ≡ NoRoom → (p < length sheet) × (p < x.0.place)) → x.0 ∷ [] ≡ with_later_runs (runs_up_to zero R sheet) x
      go (s, SheetEnd) on = refl
      go (s, Unreadable e) on = refl
      go (s, NoRoom) on = absurd (omega (arith, few, (on refl).0))
  enough (suc n) b p few = go (λ b' p' few'. enough n b' p' few') (run_at R sheet b p) (moved b p)
    where
      go : ((b' : Books) (p' : ℕ) → length sheet ≤ n + p' → runs_up_to n R sheet b' p' ≡ runs_up_to (suc n) R sheet b' p')
          → (x : State × Ended) → (x.1 ≡ NoRoom → (p < length sheet) × (p < x.0.place)) → with_later_runs (runs_up_to n R sheet) x ≡ with_later_runs (runs_up_to (suc n) R sheet) x
      go more (s, SheetEnd) on = refl
      go more (s, Unreadable e) on = refl
      go more (s, NoRoom) on = ap (λ rs. s ∷ rs) (more s.books s.place (omega (arith, few, (on refl).1)))

  pub runs_step : (b : Books) (p : ℕ) → all_runs R sheet b p ≡ with_later_runs (all_runs R sheet) (run_at R sheet b p)
  runs_step b p = enough (length sheet) b p (omega arith)

later_runs_are : (R : Rules) (sheet : List ℕ) (x : State × Ended) → with_later_runs (all_runs R sheet) x ≡ x.0 ∷ runs_after R sheet x.1 x.0.books x.0.place
later_runs_are R sheet (s, SheetEnd) = refl
later_runs_are R sheet (s, Unreadable e) = refl
later_runs_are R sheet (s, NoRoom) = refl

-- what one run with empty rolls left, and what is promised of it
pub record NextRun (R : Rules) (sheet : List ℕ) (b : Books) (p : ℕ) (ended : Ended) (b' : Books) (p' : ℕ) : Type 0 where
  pub ends : ended ≡ (run_at R sheet b p).1
  pub books : b' ≡ (run_at R sheet b p).0.books
  pub place : p' ≡ (run_at R sheet b p).0.place
  pub once : calls_in (items_of sheet p) ≡ calls_of (run_at R sheet b p).0.turns ++ calls_after sheet ended p'
  pub parts : told R b (items_of sheet p) ≡ and_then (run_at R sheet b p).0.entries (run_at R sheet b p).0.notes (to_come R sheet ended b' p')
  pub room : All (λ u. most_entries ≤ u.free) (run_at R sheet b p).0.turns
  pub by_turns : (run_at R sheet b p).0.entries ≡ entries_in (run_at R sheet b p).0.turns
  pub leads : (o : Opening) (us : List Turn) → Reached R o us b → Reached R o (us ++ (run_at R sheet b p).0.turns) b'

module _ (R : Rules) (sheet : List ℕ) (short : length sheet ≤ longest) (b : Books) (p : ℕ) (ended : Ended) (b' : Books) (p' : ℕ) (m : NextRun R sheet b p ended b' p') where
  pub runs_are : all_runs R sheet b p ≡ (run_at R sheet b p).0 ∷ runs_after R sheet ended b' p'
  runs_are =
      let s : State = (run_at R sheet b p).0 in
      runs_step R sheet short b p ∙ later_runs_are R sheet (run_at R sheet b p)
      ∙ ap (λ e. s ∷ runs_after R sheet e s.books s.place) (sym m.ends) ∙ ap (λ k. s ∷ runs_after R sheet ended k s.place) (sym m.books) ∙ ap (λ k. s ∷ runs_after R sheet ended b' k) (sym m.place)

  -- the lines of a run, and then those to come
  pub lines_are : lines_after R sheet NoRoom b p ≡ lines_of (run_at R sheet b p).0 ++ lines_after R sheet ended b' p'
  lines_are =
      let s : State = (run_at R sheet b p).0 in
      ap (lines_of_runs b) runs_are ∙ lines_then b (s ∷ []) (runs_after R sheet ended b' p')
      ∙ ap (λ x. x ++ lines_of_runs s.books (runs_after R sheet ended b' p')) (flat_map-cons lines_of s [] ∙ append-nil (lines_of s))
      ∙ ap (λ k. lines_of s ++ lines_of_runs k (runs_after R sheet ended b' p')) (sym m.books)

  -- a run, and what is promised of those after it
  pub led_then : (rs : List State) → LedOn R sheet b' p' ended rs → LedOn R sheet b p NoRoom ((run_at R sheet b p).0 ∷ rs)
  led_then rs h =
      let s : State = (run_at R sheet b p).0 in
      let turns : turns_in (s ∷ rs) ≡ s.turns ++ turns_in rs = flat_map-cons (λ x. x.turns) s rs in
      let entries : flat_map (λ x. x.entries) (s ∷ rs) ≡ s.entries ++ flat_map (λ x. x.entries) rs = flat_map-cons (λ x. x.entries) s rs in
      let notes : flat_map (λ x. x.notes) (s ∷ rs) ≡ s.notes ++ flat_map (λ x. x.notes) rs = flat_map-cons (λ x. x.notes) s rs in
      record {
        calls = ap calls_of turns ∙ map-append (λ u. u.call) s.turns (turns_in rs) ∙ ap (λ x. calls_of s.turns ++ x) h.calls ∙ sym m.once;
        room = subst (All (λ u. most_entries ≤ u.free)) (sym turns) (All-append (λ u. most_entries ≤ u.free) s.turns (turns_in rs) m.room h.room);
        leads = λ o us r.
            subst (λ x. Reached R o (us ++ x) (state_after s.books rs)) (sym turns)
            (subst (λ x. Reached R o (us ++ (s.turns ++ turns_in rs)) (state_after x rs)) m.books
            (subst (λ x. Reached R o x (state_after b' rs)) (append_assoc us s.turns (turns_in rs)) (h.leads o (us ++ s.turns) (m.leads o us r))));
        meant = ap (λ x. let u : Told = record { books = state_after x rs; entries = flat_map (λ z. z.entries) (s ∷ rs); notes = flat_map (λ z. z.notes) (s ∷ rs) } in u) (sym m.books)
            ∙ ap (λ x. let u : Told = record { books = state_after b' rs; entries = x; notes = flat_map (λ z. z.notes) (s ∷ rs) } in u) entries
            ∙ ap (λ x. let u : Told = record { books = state_after b' rs; entries = s.entries ++ flat_map (λ z. z.entries) rs; notes = x } in u) notes
            ∙ ap (and_then s.entries s.notes) h.meant ∙ sym m.parts;
        written = entries ∙ ap (λ x. x ++ flat_map (λ z. z.entries) rs) m.by_turns ∙ ap (λ x. entries_in s.turns ++ x) h.written
            ∙ sym (flat_map-append (λ u. u.entries) s.turns (turns_in rs)) ∙ ap entries_in (sym turns);
      }

-- after a run that did not stop for want of room none is to come
none_after : (R : Rules) (sheet : List ℕ) (b : Books) (p : ℕ) (ended : Ended) → (ended ≢ NoRoom) → runs_after R sheet ended b p ≡ []
none_after R sheet b p SheetEnd over = refl
none_after R sheet b p (Unreadable e) over = refl
none_after R sheet b p NoRoom over = absurd (over refl)

none_led : (R : Rules) (sheet : List ℕ) (b : Books) (p : ℕ) (ended : Ended) → (ended ≢ NoRoom) → LedOn R sheet b p ended []
none_led R sheet b p SheetEnd over = record { calls = refl; room = λ k d lt. absurd (omega arith); leads = λ o us r. subst (λ x. Reached R o x b) (sym (append-nil us)) r; meant = refl; written = refl }
none_led R sheet b p (Unreadable e) over = record { calls = refl; room = λ k d lt. absurd (omega arith); leads = λ o us r. subst (λ x. Reached R o x b) (sym (append-nil us)) r; meant = refl; written = refl }
none_led R sheet b p NoRoom over = absurd (over refl)

-- how far printing has come: the runs that are printed, and what is still to come
pub record Going (sheet : List ℕ) (t : OpenTable) (p : ℕ) (first : Ended) (page : List ℕ) (t' : OpenTable) (p' : ℕ) (ended : Ended) (page' : List ℕ) : Type 0 where
  pub done : List State
  pub printed : page' ≡ page ++ concat (flat_map lines_of done)
  pub runs : runs_after (rules_at t) sheet first (books_at t) p ≡ done ++ runs_after (rules_at t) sheet ended (books_at t') p'
  pub left : books_at t' ≡ state_after (books_at t) done
  pub led : LedOn (rules_at t) sheet (books_at t') p' ended (runs_after (rules_at t) sheet ended (books_at t') p') → LedOn (rules_at t) sheet (books_at t) p first (runs_after (rules_at t) sheet first (books_at t) p)
  pub game : t'.table.game ≡ t.table.game

module _ (sheet : List ℕ) (t : OpenTable) (p : ℕ) (first : Ended) (page : List ℕ) where
  pub going_starts : Going sheet t p first page t p first page
  going_starts = record { done = []; printed = sym (append-nil page); runs = refl; left = refl; led = λ h. h; game = refl }

  -- the lines are those printed and those to come
  pub lines_parted : (t' : OpenTable) (p' : ℕ) (ended : Ended) (page' : List ℕ) → (h : Going sheet t p first page t' p' ended page')
      → lines_after (rules_at t) sheet first (books_at t) p ≡ flat_map lines_of h.done ++ lines_after (rules_at t) sheet ended (books_at t') p'
  lines_parted t' p' ended page' h =
      let rest = runs_after (rules_at t) sheet ended (books_at t') p' in
      ap (lines_of_runs (books_at t)) h.runs ∙ lines_then (books_at t) h.done rest ∙ ap (λ k. flat_map lines_of h.done ++ lines_of_runs k rest) (sym h.left)

  -- what is printed in part of what is to come is so of all
  pub going_part : (t' : OpenTable) (p' : ℕ) (ended : Ended) (page' page'' : List ℕ) → Going sheet t p first page t' p' ended page'
      → PrintedInPart (lines_after (rules_at t) sheet ended (books_at t') p') page' page'' → PrintedInPart (lines_after (rules_at t) sheet first (books_at t) p) page page''
  going_part t' p' ended page' page'' h part =
      subst (λ ls. PrintedInPart ls page page'') (sym (lines_parted t' p' ended page' h)) (part_behind (flat_map lines_of h.done) (lines_after (rules_at t) sheet ended (books_at t') p') page page' page'' h.printed part)

  pub going_on : length sheet ≤ longest → (t' : OpenTable) (p' : ℕ) (page' : List ℕ) (ended : Ended) (t'' : OpenTable) (p'' : ℕ) (page'' : List ℕ)
      → Going sheet t p first page t' p' NoRoom page' → t''.table.game ≡ t'.table.game → NextRun (rules_at t) sheet (books_at t') p' ended (books_at t'') p''
      → page'' ≡ page' ++ concat (lines_of (run_at (rules_at t) sheet (books_at t') p').0) → Going sheet t p first page t'' p'' ended page''
  going_on short t' p' page' ended t'' p'' page'' h game m printed =
      let R = rules_at t in
      let s : State = (run_at R sheet (books_at t') p').0 in
      let is = runs_are R sheet short (books_at t') p' ended (books_at t'') p'' m in
      record {
        done = h.done ++ s ∷ [];
        printed = printed ∙ ap (λ x. x ++ concat (lines_of s)) h.printed ∙ concat_then page (flat_map lines_of h.done) (lines_of s)
            ∙ ap (λ x. page ++ concat x) (ap (λ x. flat_map lines_of h.done ++ x) (sym (flat_map-cons lines_of s [] ∙ append-nil (lines_of s))) ∙ sym (flat_map-append lines_of h.done (s ∷ [])));
        runs = h.runs ∙ ap (λ x. h.done ++ x) is ∙ sym (append_assoc h.done (s ∷ []) (runs_after R sheet ended (books_at t'') p''));
        left = m.books ∙ sym (state_after_more (books_at t) h.done (s ∷ []));
        led = λ a. h.led (subst (LedOn R sheet (books_at t') p' NoRoom) (sym is) (led_then R sheet short (books_at t') p' ended (books_at t'') p'' m (runs_after R sheet ended (books_at t'') p'') a));
        game = game ∙ h.game;
      }

  -- the closing line, printed or not, where no more runs come
  module _ (t' : OpenTable) (p' : ℕ) (ended : Ended) (page' page'' : List ℕ) (h : Going sheet t p first page t' p' ended page') (over : ended ≢ NoRoom) where
    last_line : lines_after (rules_at t) sheet ended (books_at t') p' ≡ printed_closing (closing_of (books_at t')) ∷ []
    last_line = ap (lines_of_runs (books_at t')) (none_after (rules_at t) sheet (books_at t') p' ended over)

    pub all_gone : page'' ≡ page' ++ printed_closing (closing_of (books_at t')) → page'' ≡ page ++ concat (lines_after (rules_at t) sheet first (books_at t) p)
    all_gone printed =
        let line = printed_closing (closing_of (books_at t')) in
        printed ∙ ap (λ x. page' ++ x) (sym (one_line line)) ∙ ap (λ x. x ++ concat (line ∷ [])) h.printed ∙ concat_then page (flat_map lines_of h.done) (line ∷ [])
        ∙ ap (λ x. page ++ concat (flat_map lines_of h.done ++ x)) (sym last_line) ∙ ap (λ x. page ++ concat x) (sym (lines_parted t' p' ended page' h))

    pub all_led : LedOn (rules_at t) sheet (books_at t) p first (runs_after (rules_at t) sheet first (books_at t) p)
    all_led = h.led (subst (LedOn (rules_at t) sheet (books_at t') p' ended) (sym (none_after (rules_at t) sheet (books_at t') p' ended over)) (none_led (rules_at t) sheet (books_at t') p' ended over))

    pub last_wanting : page'' ≡ page' → PrintedInPart (lines_after (rules_at t) sheet first (books_at t) p) page page''
    last_wanting same = going_part t' p' ended page' page'' h (subst (λ ls. PrintedInPart ls page' page'') (sym last_line) (none_in_part (printed_closing (closing_of (books_at t'))) [] page' page'' same))

-- each run that stops for want of room has moved the place
pub fewer : (R : Rules) (sheet : List ℕ) → length sheet ≤ longest → (b : Books) (p : ℕ) (ended : Ended) (b' : Books) (p' : ℕ) → NextRun R sheet b p ended b' p' → turns_left sheet p' ended < turns_left sheet p NoRoom
fewer R sheet short b p SheetEnd b' p' m = omega arith
fewer R sheet short b p (Unreadable e) b' p' m = omega arith
fewer R sheet short b p NoRoom b' p' m =
    let on = moved R sheet short b p (sym m.ends) in
    omega (arith, on.0, on.1, m.place)

-- what is free in a roll that keeps nothing
free_all : {X : Type 0} (r : Roll X) (k : ℕ) → kept r ≡ [] → places r ≡ k → free r ≡ k
free_all r k none long = omega (arith, ap length none, long)

-- what holds of each element by its place holds of all
all_each : {X : Type 0} (P : X → Type 0) (xs : List X) → ((k : ℕ) (x : X) → k < length xs → x ≡ get_or xs k x → P x) → All P xs
all_each P [] h k d lt = absurd (omega arith)
all_each P (x ∷ xs) h zero d lt = h 0 x (omega arith) refl
all_each P (x ∷ xs) h (suc k) d lt = all_each P xs (λ j y less e. h (suc j) y (omega (arith, less)) e) k d (omega (arith, lt))

-- a run with empty rolls
module _ (R : Rules) (sheet : List ℕ) (b : Books) (p : ℕ) (l : Roll Entry) (n : Roll Note) (ended : Ended) (b' : Books) (p' : ℕ) (l' : Roll Entry) (n' : Roll Note) (ready : Ready l n) (ran : Ran R sheet b p l n ended b' p' l' n') where
  pub by_places : run_of R sheet b p (free l) (free n) ≡ run_at R sheet b p
  by_places = ap (λ k. run_of R sheet b p k (free n)) (free_all l roll_places ready.no_entries ready.entries) ∙ ap (run_of R sheet b p roll_places) (free_all n roll_places ready.no_notes ready.notes)

  pub lines_so : run_lines (kept l') (kept n') ≡ lines_of (run_at R sheet b p).0
  lines_so =
      ap (λ x. run_lines x (kept n')) (ran.ledger.kept_then ∙ ap (λ x. x ++ (run_of R sheet b p (free l) (free n)).0.entries) ready.no_entries)
      ∙ ap (λ x. run_lines (run_of R sheet b p (free l) (free n)).0.entries x) (ran.notes.kept_then ∙ ap (λ x. x ++ (run_of R sheet b p (free l) (free n)).0.notes) ready.no_notes)
      ∙ ap (λ x. lines_of x.0) by_places

  pub one_run : NextRun R sheet b p ended b' p'
  one_run =
      let ends : ended ≡ (run_at R sheet b p).1 = ran.ends ∙ ap (λ x. x.1) by_places in
      record {
        ends = ends;
        books = ran.books ∙ ap (λ x. x.0.books) by_places;
        place = ran.place ∙ ap (λ x. x.0.place) by_places;
        once = once_with R sheet b p roll_places roll_places ended p' ends (ran.each_once ∙ ap (λ x. calls_of x.0.turns ++ calls_in (items_of sheet p')) by_places);
        parts = ran.parts ∙ ap (λ x. and_then x.0.entries x.0.notes (to_come R sheet ended b' p')) by_places;
        room = subst (λ x. All (λ u. most_entries ≤ u.free) x.0.turns) by_places
            (all_each (λ u. most_entries ≤ u.free) (run_of R sheet b p (free l) (free n)).0.turns (λ k u lt e. (ran.stops.room k u lt e).seven));
        by_turns = subst (λ x. x.0.entries ≡ entries_in x.0.turns) by_places ran.by_turns;
        leads = λ o us r. subst (λ x. Reached R o (us ++ x.0.turns) b') by_places (ran.leads o us r);
      }

  pub emptied : (l₁ : Roll Entry) (n₁ : Roll Note) → Emptied l' l₁ → Emptied n' n₁ → Ready l₁ n₁
  emptied l₁ n₁ le ne = record {
    no_entries = le.none;
    no_notes = ne.none;
    entries = le.as_many ∙ ran.ledger.as_many ∙ ready.entries;
    notes = ne.as_many ∙ ran.notes.as_many ∙ ready.notes;
  }

-- one more run from where a loop has come to, as the code has it
module _ (s s' : Bor (List ℕ)) (still : s' ≡ s) (short : length s.now ≤ longest) (t : OpenTable) (p : ℕ) (first : Ended) (page : List ℕ)
    (t' : OpenTable) (p' : ℕ) (e : Ended) (page' : List ℕ) (stopped : e ≡ NoRoom) (h : Going s.now t p first page t' p' e page') (l : Roll Entry) (n : Roll Note) (ready : Ready l n)
    (ended : Ended) (t'' : OpenTable) (p'' : ℕ) (l₁ : Roll Entry) (n₁ : Roll Note) (run : SheetRun t' s'.now p' l n (Ok ended) t'' p'' l₁ n₁) where
  ran : Ran (rules_at t) s.now (books_at t') p' l n ended (books_at t'') p'' l₁ n₁
  ran =
      let here : SheetRun t' s.now p' l n (Ok ended) t'' p'' l₁ n₁ = subst (λ x. SheetRun t' x.now p' l n (Ok ended) t'' p'' l₁ n₁) still run in
      subst (λ g. Ran (rules_of g) s.now (books_at t') p' l n ended (books_at t'') p'' l₁ n₁) h.game here.answered.1

  game_same : t''.table.game ≡ t'.table.game
  game_same = run.game

  next : NextRun (rules_at t) s.now (books_at t') p' ended (books_at t'') p''
  next = one_run (rules_at t) s.now (books_at t') p' l n ended (books_at t'') p'' l₁ n₁ ready ran

  lines_here : run_lines (kept l₁) (kept n₁) ≡ lines_of (run_at (rules_at t) s.now (books_at t') p').0
  lines_here = lines_so (rules_at t) s.now (books_at t') p' l n ended (books_at t'') p'' l₁ n₁ ready ran

  stopped_there : Going s.now t p first page t' p' NoRoom page'
  stopped_there = subst (λ x. Going s.now t p first page t' p' x page') stopped h

  -- where its lines were printed
  pub one_more : (l' : Roll Entry) (n' : Roll Note) (page'' : List ℕ) → page'' ≡ page' ++ concat (run_lines (kept l₁) (kept n₁)) → Emptied l₁ l' → Emptied n₁ n'
      → record { nearer : turns_left s.now p'' ended < turns_left s.now p' e; ready : Ready l' n'; going : Going s.now t p first page t'' p'' ended page'' }
  one_more l' n' page'' printed le ne = record {
    nearer = subst (λ x. turns_left s.now p'' ended < turns_left s.now p' x) (sym stopped) (fewer (rules_at t) s.now short (books_at t') p' ended (books_at t'') p'' next);
    ready = emptied (rules_at t) s.now (books_at t') p' l n ended (books_at t'') p'' l₁ n₁ ready ran l' n' le ne;
    going = going_on s.now t p first page short t' p' page' ended t'' p'' page'' stopped_there game_same next (printed ∙ ap (λ x. page' ++ concat x) lines_here);
  }

  -- and where they were printed in part
  pub one_wanting : (page'' : List ℕ) → PrintedInPart (run_lines (kept l₁) (kept n₁)) page' page'' → PrintedInPart (lines_after (rules_at t) s.now first (books_at t) p) page page''
  one_wanting page'' part =
      going_part s.now t p first page t' p' NoRoom page' page'' stopped_there
      (subst (λ ls. PrintedInPart ls page' page'') (sym (lines_are (rules_at t) s.now short (books_at t') p' ended (books_at t'') p'' next))
      (part_more (lines_of (run_at (rules_at t) s.now (books_at t') p').0) (lines_after (rules_at t) s.now ended (books_at t'') p'') page' page'' (subst (λ ls. PrintedInPart ls page' page'') lines_here part)))

-- what follows from a printed line holds where the printing was answered to be right, and else what follows from a page left as it was
pub where_printed : {E Q : Type 0} (r : Result (Unit {0}) E) (page page' line : List ℕ) → page' ≡ (if is_ok r then page ++ line else page) → (page' ≡ page ++ line → Q) → OnOk r Q
where_printed (Ok x) page page' line is then_q = then_q is
where_printed (Err e) page page' line is then_q = tt

pub where_wanting : {E Q : Type 0} (r : Result (Unit {0}) E) (page page' line : List ℕ) → page' ≡ (if is_ok r then page ++ line else page) → (page' ≡ page → Q) → OnErr r Q
where_wanting (Ok x) page page' line is then_q = tt
where_wanting (Err e) page page' line is then_q = then_q is

pub on_any_ok : {T E P : Type 0} (r : Result T E) → P → OnOk r P
on_any_ok (Ok x) p = p
on_any_ok (Err e) p = tt
