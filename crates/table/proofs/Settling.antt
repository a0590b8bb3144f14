-- A round as it is settled seat by seat: the books, and the ledger.
use Rattle.std.proofs.Common.{◌≡◌, ℕ, ◌+◌, ◌<◌, ◌≤◌, Bool, true, false, cond, ltb, List, [], ◌∷◌, ◌++◌, map, length, get_or, take, drop, Ok, Some, None, is_some, unwrap_or, Option, sum_by, filter, sym, refl, ap, ◌∙◌, subst, add-one, arith, length-append}
use Rattle.std.proofs.lemmas.List.{map-append}
use Rattle.std.proofs.lemmas.List.Elements.{filter_more}
use Rattle.std.proofs.lemmas.List.Sums.{sum_by-drop_more}
use Rattle.std.proofs.lemmas.Bool.{le-ltb}
use Rattle.std.proofs.lemmas.Option.{none-some}
use Rattle.refusals.specs.declared.Cause.TheVariants.{WrongStage, ChoiceMissing, NoPlaceFree}
use Rattle.refusals.specs.Refusals.{first_cause}
use Rattle.commands.specs.Calls.{Settle}
use Rattle.game.specs.Rules as game
use Rattle.game.specs.Rules.{Rules, Facts}
use Rattle.ledger.specs.declared.entries.Entry.{Entry}
use Rattle.ledger.specs.declared.rolls.Roll.{Roll}
use Rattle.ledger.specs.Rolls.{kept, places, free, Written}
use Rattle.ledger.proofs.Writing.{written_then}
use Rattle.books.specs.declared.stage.Round.{Round}
use Rattle.books.specs.declared.stage.Stage.{Stage}
use Rattle.books.specs.declared.stage.Stage.TheVariants.{Betting, Dealt}
use Rattle.books.specs.declared.table_books.Books.{Books}
use Rattle.books.specs.Books.{seat_at, deal_on, with_stage}
use Rattle.table.specs.Calls.{Did}
use Rattle.table.specs.Causes.{refusal, judged}
use Rattle.table.specs.Effects.{settled_in}
use Rattle.table.specs.Entries.{entry_of, entries_of, entries_in}
use Rattle.table.specs.Holdings.{every, one_if, does_stake, stakers, missing, is_betting}
use Rattle.table.specs.Soundness.{Sound}
use Rattle.table.specs.Steps.{settle_seat, settle_to, entry_at, May}
use Rattle.table.proofs.Ended.{settled_is}
use Rattle.table.proofs.Keep.{settle_all, may_all}
use Rattle.table.proofs.Seats.{every_at}

-- a stage with a deal on the table is dealt
pub dealt_stage : (g : Stage) (d : game.Deal) → Some d ≡ deal_on g → g ≡ Dealt d
dealt_stage Betting d e = absurd (none-some d (sym e))
dealt_stage (Dealt r) d e = ap Dealt (sym (ap (λ o. unwrap_or o d) e))

-- how many of some seats stake
abbrev pub stakers_in : Books → List ℕ → ℕ
stakers_in b ks = sum_by (λ k. one_if (does_stake (seat_at b k))) ks

-- after the first k seats
pub record Settling (R : Rules) (d : game.Deal) (b : Books) (l : Roll Entry) (k : ℕ) (b' : Books) (l' : Roll Entry) : Type 0 where
  pub books : b' ≡ settle_to R d k b
  pub wrote : Written l l' (entries_of R b d (take k every))
  pub room : length (kept l') + stakers_in b (drop k every) ≤ places l

-- a test on one more element, and what is made of it
map_if : {X Y : Type 0} (f : X → Y) (t : Bool) (x : X) → map f (cond t (x ∷ []) []) ≡ cond t (f x ∷ []) []
map_if f true x = refl
map_if f false x = refl

length_if : {X : Type 0} (t : Bool) (x : X) → length (cond t (x ∷ []) []) ≡ one_if t
length_if true x = refl
length_if false x = refl

-- the entries of one more seat
entries_more : (R : Rules) (b : Books) (d : game.Deal) (k : ℕ) → k < 7 → entries_of R b d (take (k + 1) every) ≡ entries_of R b d (take k every) ++ entry_at R b.rounds d k (seat_at b k)
entries_more R b d k lt =
    let p : ℕ → Bool = λ j. does_stake (seat_at b j) in
    let f : ℕ → Entry = λ j. entry_of R b.rounds d j (seat_at b j) in
    ap (map f) (filter_more p every k 0 lt)
    ∙ map-append f (filter p (take k every)) (cond (p (get_or every k 0)) (get_or every k 0 ∷ []) [])
    ∙ ap (λ ys. map f (filter p (take k every)) ++ ys) (map_if f (p (get_or every k 0)) (get_or every k 0) ∙ ap (λ j. cond (p j) (f j ∷ []) []) (every_at k lt))

module _ {G : Type 0} (rules : G → Rules) (facts : (g : G) → Facts (rules g)) (g : G) (r : Round) (b : Books) (l : Roll Entry) (s : Sound (rules g) b) (dealt : b.stage ≡ Dealt r) (none : missing (rules g) b ≡ None) where
  -- what settling the seat k asks
  pub asks : (g' : G) (k : ℕ) (b' : Books) (l' : Roll Entry) → k < 7 → g' ≡ g → Settling (rules g) r b l k b' l'
      → record {
        seat : k < 7;
        dealt : b'.stage ≡ Dealt r;
        may : May (rules g') (seat_at b' k);
        room : one_if (does_stake (seat_at b' k)) ≤ free l';
      }
  asks g' k b' l' lt same h =
      let R = rules g in
      let may = may_all R b s none in
      let p = settle_all R (facts g) b r s dealt may k (omega arith) in
      let at_k : seat_at b' k ≡ seat_at b k = ap (λ x. seat_at x k) h.books ∙ p.later k (omega arith) in
      let f : ℕ → ℕ = λ j. one_if (does_stake (seat_at b j)) in
      let more : stakers_in b (drop k every) ≡ f k + stakers_in b (drop (k + 1) every) = sum_by-drop_more f every k 0 lt ∙ ap (λ j. f j + stakers_in b (drop (k + 1) every)) (every_at k lt) in
      record {
        seat = lt;
        dealt = ap (λ x. x.stage) h.books ∙ p.stage;
        may = subst (λ x. May (rules x) (seat_at b' k)) (sym same) (subst (May R) (sym at_k) (may k lt));
        room = omega (arith, more, h.room, h.wrote.as_many, ap (λ x. one_if (does_stake x)) at_k);
      }

  -- the seat k is settled
  pub goes_on : (g' : G) (k : ℕ) (b' b'' : Books) (l' l'' : Roll Entry) → k < 7 → g' ≡ g → Settling (rules g) r b l k b' l'
      → b'' ≡ settle_seat (rules g') r b' k → Written l' l'' (entry_at (rules g') b'.rounds r k (seat_at b' k))
      → Settling (rules g) r b l (k + 1) b'' l''
  goes_on g' k b' b'' l' l'' lt same h did wrote =
      let R = rules g in
      let d = r in
      let p = settle_all R (facts g) b r s dealt (may_all R b s none) k (omega arith) in
      let at_k : seat_at b' k ≡ seat_at b k = ap (λ x. seat_at x k) h.books ∙ p.later k (omega arith) in
      let rounds : b'.rounds ≡ b.rounds = ap (λ x. x.rounds) h.books ∙ p.same_rounds in
      let f : ℕ → ℕ = λ j. one_if (does_stake (seat_at b j)) in
      let more : stakers_in b (drop k every) ≡ f k + stakers_in b (drop (k + 1) every) = sum_by-drop_more f every k 0 lt ∙ ap (λ j. f j + stakers_in b (drop (k + 1) every)) (every_at k lt) in
      let new : List Entry = entry_at R b.rounds d k (seat_at b k) in
      let entry : entry_at (rules g') b'.rounds d k (seat_at b' k) ≡ new =
      ap (λ x. entry_at (rules x) b'.rounds d k (seat_at b' k)) same ∙ ap (λ n. entry_at R n d k (seat_at b' k)) rounds ∙ ap (λ v. entry_at R b.rounds d k v) at_k in
      let wrote' : Written l' l'' new = subst (Written l' l'') entry wrote in
      let long : length (kept l'') ≡ length (kept l') + f k =
      ap length wrote'.kept_then ∙ length-append (kept l') new ∙ ap (λ n. length (kept l') + n) (length_if (does_stake (seat_at b k)) (entry_of R b.rounds d k (seat_at b k))) in
      record {
        books = did ∙ ap (λ x. settle_seat (rules x) d b' k) same ∙ ap (λ x. settle_seat R d x k) h.books ∙ sym (ap (λ n. settle_to R d n b) (add-one k));
        wrote = subst (Written l l'') (sym (entries_more R b d k lt)) (written_then l l' l'' (entries_of R b d (take k every)) new h.wrote wrote');
        room = omega (arith, long, more, h.room);
      }

  -- all seats are settled
  pub ends : (k : ℕ) (b' : Books) (l' : Roll Entry) (n : ℕ) → stakers b ≤ n → k ≡ 7 → Settling (rules g) r b l k b' l'
      → Did (rules g) b Settle n (Ok tt) (with_stage b' Betting) × Written l l' (entries_in (rules g) b b.stage)
  ends k b' l' n few is_7 h =
      let R = rules g in
      let d = r in
      let enough : ltb n (stakers b) ≡ false = le-ltb n (stakers b) few in (
        record {
          answer = ap (λ o. judged o (refusal R b Settle)) (sym (clear (is_betting b.stage) (missing R b) (ltb n (stakers b)) (ap is_betting dealt) none enough));
          books = ap (λ x. with_stage x Betting) h.books ∙ ap (λ j. with_stage (settle_to R d j b) Betting) is_7 ∙ settled_is R (facts g) b r s dealt (may_all R b s none) ∙ ap (settled_in R b) (sym dealt);
        },
        subst (Written l l') (ap (λ j. entries_of R b d (take j every)) is_7 ∙ ap (entries_in R b) (sym dealt)) h.wrote,
      )
    where
      clear : (t : Bool) (o : Option ℕ) (f : Bool) → t ≡ false → o ≡ None → f ≡ false → first_cause ((t, WrongStage) ∷ (is_some o, ChoiceMissing) ∷ (f, NoPlaceFree) ∷ []) ≡ None
      clear t o f p q r = rw (p, q, r) refl
