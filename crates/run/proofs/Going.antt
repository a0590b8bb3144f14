-- A run as it goes on from command to command.
use Rattle.std.proofs.Common.{◌≡◌, ℕ, ◌+◌, ◌-◌, ◌≤◌, true, false, cond, eqb, ltb, List, [], ◌∷◌, ◌++◌, map, length, Some, None, Ok, Err, Option, Result, sym, refl, ap, ◌∙◌, subst, append_assoc, arith, length-append}
use Rattle.std.proofs.lemmas.List.{append-nil, map-append}
use Rattle.std.proofs.lemmas.Bool.{ltb-false, or_parts}
use Rattle.std.specs.Borrow.{Bor}
use Rattle.refusals.specs.declared.Refusal.{Refusal}
use Rattle.commands.specs.Calls.{Call}
use Rattle.game.specs.Rules.{Rules}
use Rattle.ledger.specs.declared.entries.Entry.{Entry}
use Rattle.ledger.specs.declared.notes.Note.{Note}
use Rattle.ledger.specs.declared.rolls.Roll.{Roll}
use Rattle.ledger.specs.Rolls.{kept, free, Written}
use Rattle.ledger.proofs.Writing.{written_none, written_then}
use Rattle.books.specs.declared.table_books.Books.{Books}
use Rattle.sheet.specs.Format.{width_of}
use Rattle.sheet.specs.Items.{Item, command, fault, item_and, items_of, calls_in}
use Rattle.sheet.specs.Reading.{longest, read_at}
use Rattle.sheet.proofs.Items.{items_step, read_here}
use Rattle.table.specs.Calls.{either}
use Rattle.table.specs.Causes.{verdict}
use Rattle.table.specs.Effects.{after}
use Rattle.table.specs.Entries.{writes}
use Rattle.table.specs.declared.opening.Opening.{Opening}
use Rattle.table.specs.Promise.{turn_of, Each, Reached}
use Rattle.table.proofs.Trace.{each_more}
use Rattle.table.specs.Soundness.{Sound}
use Rattle.table.specs.Tally.{Turn}
use Rattle.run.specs.declared.ended.Ended.{Ended}
use Rattle.run.specs.declared.ended.Ended.TheVariants.{SheetEnd, Unreadable, NoRoom}
use Rattle.run.specs.Meaning.{note_of, noted, most_entries, Told, quiet, and_then, told}
use Rattle.run.specs.Runs.{State, no_room, performed, unread, runs, run_of, to_come, Still, Ran}
use Rattle.run.specs.Steps.{Moved, Stepped}
use Rattle.run.specs.StopRule.{refusals_in, entries_in, HasRoom, EndsAt, StopRule}
use Rattle.run.proofs.Enough.{verdict_enough}
use Rattle.run.proofs.Stopping.{room_here, room_command, room_fault, room_lacking, refusals_more, entries_more, ends_at_end, ends_lacking, ends_unread}

-- what is free once records were written
free_then : {X : Type 0} (r r' : Roll X) (xs : List X) → Written r r' xs → free r - length xs ≡ free r'
free_then r r' xs w = omega (arith, w.as_many, ap length w.kept_then, length-append (kept r) xs)

-- the state of a run, by its parts
abbrev state : Books → List Entry → List Note → List Turn → ℕ → State
state b es ns us p = record { books = b; entries = es; notes = ns; turns = us; place = p }

-- some entries and notes after others
then_then : (es es' : List Entry) (ns ns' : List Note) (t : Told) → and_then es ns (and_then es' ns' t) ≡ and_then (es ++ es') (ns ++ ns') t
then_then es es' ns ns' t =
    ap (λ x. let u : Told = record { books = t.books; entries = x; notes = ns ++ (ns' ++ t.notes) } in u) (sym (append_assoc es es' t.entries))
    ∙ ap (λ x. let u : Told = record { books = t.books; entries = (es ++ es') ++ t.entries; notes = x } in u) (sym (append_assoc ns ns' t.notes))

module _ (R : Rules) (sheet : List ℕ) (b : Books) (p : ℕ) (l : Roll Entry) (n : Roll Note) where
  -- how far the run has come, and that going on from there comes to the same
  pub record Going (b' : Books) (p' : ℕ) (l' : Roll Entry) (n' : Roll Note) : Type 0 where
    pub entries : List Entry
    pub notes : List Note
    pub turns : List Turn
    pub same : runs R (free l') (free n') (state b' entries notes turns p') (items_of sheet p') ≡ run_of R sheet b p (free l) (free n)
    pub wrote : Written l l' entries
    pub noting : Written n n' notes
    pub once : calls_in (items_of sheet p) ≡ map (λ u. u.call) turns ++ calls_in (items_of sheet p')
    pub parts : told R b (items_of sheet p) ≡ and_then entries notes (told R b' (items_of sheet p'))
    -- each call was performed with room, and each refusal left one note
    pub handed : Each (λ before u. u.free ≡ free l - length (entries_in before)) turns
    pub room : Each (λ before u. HasRoom u.free (free n - refusals_in before)) turns
    pub by_turns : entries ≡ entries_in turns
    pub left : free n' ≡ free n - refusals_in turns
    pub sound : Sound R b'
    pub leads : (o : Opening) (us : List Turn) → Reached R o us b → Reached R o (us ++ turns) b'

module _ (R : Rules) (sheet : List ℕ) (short : length sheet ≤ longest) (b : Books) (p : ℕ) (l : Roll Entry) (n : Roll Note) where
  pub going_starts : Sound R b → Going R sheet b p l n b p l n
  going_starts s = record {
    entries = [];
    notes = [];
    turns = [];
    same = refl;
    wrote = written_none l;
    noting = written_none n;
    once = refl;
    parts = refl;
    handed = λ k u lt e. absurd (omega arith);
    room = λ k u lt e. absurd (omega arith);
    by_turns = refl;
    left = omega arith;
    sound = s;
    leads = λ o us h. subst (λ x. Reached R o x b) (sym (append-nil us)) h;
  }

  -- the items at a place where a command was read
  items_here : (p' : ℕ) (r : Result (Option Call) Refusal) → read_at sheet p' ≡ r → items_of sheet p' ≡ item_and (items_of sheet) p' r
  items_here p' r e = items_step sheet short p' ∙ ap (item_and (items_of sheet) p') e

  -- a command that there is room for goes on
  unrolled : (s : State) (lf nf p' : ℕ) (c : Call) (v : Result (Unit {0}) Refusal) (is : List Item) → v ≡ verdict R s.books c lf → no_room lf nf ≡ false
      → runs R lf nf s (command p' c ∷ is) ≡ runs R (lf - length (either v (writes R s.books c) [])) (nf - length (noted p' v)) (performed R lf s p' c v) is
  unrolled s lf nf p' c v is e room =
      let on : Result (Unit {0}) Refusal → State × Ended = λ x. runs R (lf - length (either x (writes R s.books c) [])) (nf - length (noted p' x)) (performed R lf s p' c x) is in
      ap (λ t. cond t (s, NoRoom) (on (verdict R s.books c lf))) room ∙ ap on (sym e)

  pub going_on : (b' : Books) (p' : ℕ) (l' : Roll Entry) (n' : Roll Note) (b'' : Books) (p'' : ℕ) (l'' : Roll Entry) (n'' : Roll Note)
      → Going R sheet b p l n b' p' l' n' → Moved R sheet b' p' l' n' b'' p'' l'' n'' → Going R sheet b p l n b'' p'' l'' n''
  going_on b' p' l' n' b'' p'' l'' n'' h m =
      let c = m.call in
      let v = m.answer in
      let did = m.performs.did in
      let room = room_command sheet short p' (free l') (free n') m.goes_on c (sym m.reads) in
      let es : List Entry = either v (writes R b' c) [] in
      let ns : List Note = noted p' v in
      let x : Turn = turn_of R b' c (free l') v in
      let here : items_of sheet p' ≡ command p' c ∷ items_of sheet (p' + width_of c) = items_here p' _ m.reads in
      let enough : most_entries ≤ free l' = ltb-false (free l') most_entries (or_parts (ltb (free l') most_entries) (eqb (free n') 0) room).0 in
      let seven : v ≡ verdict R b' c most_entries = did.answer ∙ verdict_enough R b' c (free l') enough in
      let on : ℕ → ℕ → Books → ℕ → State × Ended = λ lf nf bb pp. runs R lf nf (state bb (h.entries ++ es) (h.notes ++ ns) (h.turns ++ x ∷ []) pp) (items_of sheet pp) in
      let after_v : Result (Unit {0}) Refusal → Told = λ y. and_then (either y (writes R b' c) []) (noted p' y) (told R (either y (after R b' c) b') (items_of sheet (p' + width_of c))) in
      record {
        entries = h.entries ++ es;
        notes = h.notes ++ ns;
        turns = h.turns ++ x ∷ [];
        same = ap (λ k. on k (free n'') b'' p'') (sym (free_then l' l'' es m.performs.ledger))
            ∙ ap (λ k. on (free l' - length es) k b'' p'') (sym (free_then n' n'' ns m.notes))
            ∙ ap (λ k. on (free l' - length es) (free n' - length ns) k p'') did.books
            ∙ ap (λ k. on (free l' - length es) (free n' - length ns) (either v (after R b' c) b') k) m.place
            ∙ sym (unrolled (state b' h.entries h.notes h.turns p') (free l') (free n') p' c v (items_of sheet (p' + width_of c)) did.answer room)
            ∙ ap (runs R (free l') (free n') (state b' h.entries h.notes h.turns p')) (sym here)
            ∙ h.same;
        wrote = written_then l l' l'' h.entries es h.wrote m.performs.ledger;
        noting = written_then n n' n'' h.notes ns h.noting m.notes;
        once = h.once
            ∙ ap (λ is. map (λ u. u.call) h.turns ++ calls_in is) here
            ∙ sym (append_assoc (map (λ u. u.call) h.turns) (c ∷ []) (calls_in (items_of sheet (p' + width_of c))))
            ∙ ap (λ cs. cs ++ calls_in (items_of sheet (p' + width_of c))) (sym (map-append (λ u. u.call) h.turns (x ∷ [])))
            ∙ ap (λ k. map (λ u. u.call) (h.turns ++ x ∷ []) ++ calls_in (items_of sheet k)) (sym m.place);
        parts = h.parts
            ∙ ap (λ is. and_then h.entries h.notes (told R b' is)) here
            ∙ ap (λ y. and_then h.entries h.notes (after_v y)) (sym seven)
            ∙ ap (λ k. and_then h.entries h.notes (and_then es ns (told R k (items_of sheet (p' + width_of c))))) (sym did.books)
            ∙ ap (λ k. and_then h.entries h.notes (and_then es ns (told R b'' (items_of sheet k)))) (sym m.place)
            ∙ then_then h.entries es h.notes ns (told R b'' (items_of sheet p''));
        handed = each_more (λ before u. u.free ≡ free l - length (entries_in before)) h.turns x (sym (free_then l l' h.entries h.wrote) ∙ ap (λ k. free l - length k) h.by_turns) h.handed;
        room = each_more (λ before u. HasRoom u.free (free n - refusals_in before)) h.turns x (subst (HasRoom (free l')) h.left (room_here (free l') (free n') room)) h.room;
        by_turns = ap (λ k. k ++ es) h.by_turns ∙ sym (entries_more h.turns x);
        left = omega (arith, free_then n' n'' ns m.notes, h.left, refusals_more h.turns R b' c (free l') p' v);
        sound = m.performs.sound;
        leads = λ o us r.
            subst (λ y. Reached R o y b'') (append_assoc us h.turns (x ∷ [])) (m.performs.leads o (us ++ h.turns) (h.leads o us r));
      }

  -- what a run left, by the parts of its last state
  finished : (es : List Entry) (ns : List Note) (us : List Turn) (ended : Ended) (b' : Books) (p' : ℕ) (l' : Roll Entry) (n' : Roll Note)
      → run_of R sheet b p (free l) (free n) ≡ (state b' es ns us p', ended) → Written l l' es → Written n n' ns
      → calls_in (items_of sheet p) ≡ map (λ u. u.call) us ++ calls_in (items_of sheet p')
      → told R b (items_of sheet p) ≡ and_then es ns (to_come R sheet ended b' p')
      → es ≡ entries_in us → StopRule sheet (free l) (free n) us ended p'
      → Sound R b'
      → ((o : Opening) (vs : List Turn) → Reached R o vs b → Reached R o (vs ++ us) b')
      → Ran R sheet b p l n ended b' p' l' n'
  finished es ns us ended b' p' l' n' e wrote noting once parts by_turns stops sound leads =
      let es_is : es ≡ (run_of R sheet b p (free l) (free n)).0.entries = sym (ap (λ x. x.0.entries) e) in
      let ns_is : ns ≡ (run_of R sheet b p (free l) (free n)).0.notes = sym (ap (λ x. x.0.notes) e) in
      let us_is : us ≡ (run_of R sheet b p (free l) (free n)).0.turns = sym (ap (λ x. x.0.turns) e) in
      record {
        ends = sym (ap (λ x. x.1) e);
        books = sym (ap (λ x. x.0.books) e);
        place = sym (ap (λ x. x.0.place) e);
        ledger = subst (Written l l') es_is wrote;
        notes = subst (Written n n') ns_is noting;
        each_once = once ∙ ap (λ x. map (λ u. u.call) x ++ calls_in (items_of sheet p')) us_is;
        parts = parts ∙ ap (λ x. and_then x ns (to_come R sheet ended b' p')) es_is ∙ ap (λ x. and_then (run_of R sheet b p (free l) (free n)).0.entries x (to_come R sheet ended b' p')) ns_is;
        by_turns = sym es_is ∙ by_turns ∙ ap entries_in us_is;
        stops = subst (λ x. StopRule sheet (free l) (free n) x ended p') us_is stops;
        sound = sound;
        leads = λ o vs r. subst (λ x. Reached R o (vs ++ x) b') us_is (leads o vs r);
      }

  -- the stop rule, from where the last step began
  stops_so : (ended : Ended) (b' : Books) (p' p'' : ℕ) (l' : Roll Entry) (n' : Roll Note) → (h : Going R sheet b p l n b' p' l' n') → p'' ≡ p' → EndsAt sheet p' (free l') (free n') ended → StopRule sheet (free l) (free n) h.turns ended p''
  stops_so ended b' p' p'' l' n' h place ends =
      let entries_left : free l' ≡ free l - length (entries_in h.turns) = sym (free_then l l' h.entries h.wrote) ∙ ap (λ k. free l - length k) h.by_turns in
      record {
        handed = h.handed;
        room = h.room;
        ends = subst (λ k. EndsAt sheet k (free l - length (entries_in h.turns)) (free n - refusals_in h.turns) ended) (sym place)
            (subst (λ k. EndsAt sheet p' k (free n - refusals_in h.turns) ended) entries_left (subst (λ k. EndsAt sheet p' (free l') k ended) h.left ends));
      }

  -- a last step that changed nothing
  stopped : (ended : Ended) (b' : Books) (p' : ℕ) (l' : Roll Entry) (n' : Roll Note) (b'' : Books) (p'' : ℕ) (l'' : Roll Entry) (n'' : Roll Note)
      → (h : Going R sheet b p l n b' p' l' n')
      → runs R (free l') (free n') (state b' h.entries h.notes h.turns p') (items_of sheet p') ≡ (state b' h.entries h.notes h.turns p', ended)
      → told R b' (items_of sheet p') ≡ to_come R sheet ended b' p'
      → EndsAt sheet p' (free l') (free n') ended
      → Still b' p' l' n' b'' p'' l'' n'' → Ran R sheet b p l n ended b'' p'' l'' n''
  stopped ended b' p' l' n' b'' p'' l'' n'' h e rest ends s =
      let es = h.entries in
      let ns = h.notes in
      let us = h.turns in
      finished es ns us ended b'' p'' l'' n''
      (sym h.same ∙ e ∙ ap (λ k. (state k es ns us p', ended)) (sym s.books) ∙ ap (λ k. (state b'' es ns us k, ended)) (sym s.place))
      (subst (Written l l'') (append-nil es) (written_then l l' l'' es [] h.wrote s.ledger))
      (subst (Written n n'') (append-nil ns) (written_then n n' n'' ns [] h.noting s.notes))
      (h.once ∙ ap (λ k. map (λ u. u.call) us ++ calls_in (items_of sheet k)) (sym s.place))
      (h.parts ∙ ap (and_then es ns) (rest ∙ ap (λ k. to_come R sheet ended k p') (sym s.books) ∙ ap (λ k. to_come R sheet ended b'' k) (sym s.place)))
      h.by_turns (stops_so ended b' p' p'' l' n' h s.place ends)
      (subst (Sound R) (sym s.books) h.sound)
      (λ o vs r. subst (Reached R o (vs ++ us)) (sym s.books) (h.leads o vs r))

  -- without room a run stops at whatever item stands next
  full_stop : (s : State) (lf nf p' : ℕ) (r : Result (Option Call) Refusal) → (r ≡ Ok None → ⊥) → no_room lf nf ≡ true → runs R lf nf s (item_and (items_of sheet) p' r) ≡ (s, NoRoom)
  full_stop s lf nf p' (Ok None) some full = absurd (some refl)
  full_stop s lf nf p' (Ok (Some c)) some full = rw full refl
  full_stop s lf nf p' (Err e) some full = rw full refl

  pub going_ends : (b' : Books) (p' : ℕ) (l' : Roll Entry) (n' : Roll Note) (b'' : Books) (p'' : ℕ) (l'' : Roll Entry) (n'' : Roll Note) (ended : Ended)
      → Going R sheet b p l n b' p' l' n' → Stepped R sheet b' p' l' n' (Some ended) b'' p'' l'' n'' → Ran R sheet b p l n ended b'' p'' l'' n''
  going_ends b' p' l' n' b'' p'' l'' n'' SheetEnd h s =
      let here : items_of sheet p' ≡ [] = items_here p' _ s.0 in
      stopped SheetEnd b' p' l' n' b'' p'' l'' n'' h (ap (runs R (free l') (free n') (state b' h.entries h.notes h.turns p')) here) (ap (told R b') here) (ends_at_end sheet short p' (free l') (free n') s.0) s.1
  going_ends b' p' l' n' b'' p'' l'' n'' NoRoom h s =
      let st = state b' h.entries h.notes h.turns p' in
      stopped NoRoom b' p' l' n' b'' p'' l'' n'' h
      (ap (runs R (free l') (free n') st) (items_here p' (read_at sheet p') refl) ∙ full_stop st (free l') (free n') p' (read_at sheet p') (read_here sheet short p' s.0) s.1)
      refl (ends_lacking sheet short p' (free l') (free n') s.0 (room_lacking (free l') (free n') s.1)) s.2
  going_ends b' p' l' n' b'' p'' l'' n'' (Unreadable e) h m =
      let es = h.entries in
      let ns = h.notes in
      let us = h.turns in
      let note : List Note = note_of p' e ∷ [] in
      let st = state b' es ns us p' in
      let room = room_fault sheet short p' (free l') (free n') m.goes_on e (sym m.reads) in
      let here : items_of sheet p' ≡ fault p' e ∷ [] = items_here p' _ m.reads in
      finished es (ns ++ note) us (Unreadable e) b'' p'' l'' n''
      (sym h.same ∙ ap (runs R (free l') (free n') st) here ∙ ap (λ t. cond t (st, NoRoom) (unread st p' e, Unreadable e)) room
      ∙ ap (λ k. (state k es (ns ++ note) us p', Unreadable e)) (sym m.books) ∙ ap (λ k. (state b'' es (ns ++ note) us k, Unreadable e)) (sym m.place))
      (subst (Written l l'') (append-nil es) (written_then l l' l'' es [] h.wrote m.ledger))
      (written_then n n' n'' ns note h.noting m.notes)
      (h.once ∙ ap (λ k. map (λ u. u.call) us ++ calls_in (items_of sheet k)) (sym m.place))
      (h.parts ∙ ap (λ is. and_then es ns (told R b' is)) here ∙ then_then es [] ns note (quiet b') ∙ ap (λ x. and_then x (ns ++ note) (quiet b')) (append-nil es) ∙ ap (λ k. and_then es (ns ++ note) (quiet k)) (sym m.books))
      h.by_turns (stops_so (Unreadable e) b' p' p'' l' n' h m.place (ends_unread sheet short p' (free l') (free n') e m.reads (room_here (free l') (free n') room)))
      (subst (Sound R) (sym m.books) h.sound)
      (λ o vs r. subst (Reached R o (vs ++ us)) (sym m.books) (h.leads o vs r))

-- the same for a table at a game and for a reader of a sheet, which no step changes
module _ {G : Type 0} (rules : G → Rules) (g : G) (s : Bor (List ℕ)) (short : length s.now ≤ longest) (b : Books) (p : ℕ) (l : Roll Entry) (n : Roll Note) (g' : G) (same : g' ≡ g) (s' : Bor (List ℕ)) (still : s' ≡ s)
    (b' : Books) (p' : ℕ) (l' : Roll Entry) (n' : Roll Note) (b'' : Books) (p'' : ℕ) (l'' : Roll Entry) (n'' : Roll Note) (h : Going (rules g) s.now b p l n b' p' l' n') where
  pub on_again : Moved (rules g') s'.now b' p' l' n' b'' p'' l'' n'' → Going (rules g) s.now b p l n b'' p'' l'' n''
  on_again m = going_on (rules g) s.now short b p l n b' p' l' n' b'' p'' l'' n'' h (subst (λ x. Moved (rules g) x.now b' p' l' n' b'' p'' l'' n'') still (subst (λ x. Moved (rules x) s'.now b' p' l' n' b'' p'' l'' n'') same m))

  pub at_last : (ended : Ended) → Stepped (rules g') s'.now b' p' l' n' (Some ended) b'' p'' l'' n'' → Ran (rules g) s.now b p l n ended b'' p'' l'' n''
  at_last ended m = going_ends (rules g) s.now short b p l n b' p' l' n' b'' p'' l'' n'' ended h (subst (λ x. Stepped (rules g) x.now b' p' l' n' (Some ended) b'' p'' l'' n'') still (subst (λ x. Stepped (rules x) s'.now b' p' l' n' (Some ended) b'' p'' l'' n'') same m))
