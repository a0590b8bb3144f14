-- What an accepted call has shown, and that it keeps the table sound.
use Rattle.std.proofs.Common.{◌≡◌, ℕ, ◌+◌, ◌-◌, ◌<◌, ◌≤◌, true, false, eqb, ltb, List, length, get_or, set, Some, None, is_some, Ok, Err, sum, Option, Result, sym, refl, ap, ◌∙◌, subst, ⊎_elim, arith, length-set}
use Rattle.std.proofs.lemmas.List.{get_or-set_same, get_or-set_other}
use Rattle.std.proofs.lemmas.List.Sums.{sum_by-set}
use Rattle.std.proofs.lemmas.Bool.{cases_eq, true≢false, false≢true, leb-false, ltb-false, eqb-true, eqb-false, or_parts, and_parts, and_cases, not-false, both_ways}
use Rattle.refusals.specs.declared.Cause.{Cause}
use Rattle.refusals.specs.declared.Refusal.{Refusal}
use Rattle.refusals.specs.Refusals.{first_cause}
use Rattle.refusals.proofs.Causes.{NoneHolds, none_holds}
use Rattle.commands.specs.Calls.{Call, Open, Buy, Cash, Fill, Draw, Bet, Deal, Raise, Leave, Settle, Void}
use Rattle.game.specs.declared.choice.Choice.{Choice}
use Rattle.game.specs.declared.choice.Choice.TheVariants.{Open as open_choice, Raised, Left}
use Rattle.game.specs.declared.dealing.Misdeal.{Misdeal}
use Rattle.game.specs.declared.dealing.Misdeal.TheVariants.{NoCard, WrongCount}
use Rattle.game.specs.Rules.{Rules, Facts, Small, Fair, added, deal}
use Rattle.books.specs.declared.seat.Seat.{Seat}
use Rattle.books.specs.declared.stage.Stage.{Stage}
use Rattle.books.specs.declared.stage.Stage.TheVariants.{Betting, Dealt}
use Rattle.books.specs.declared.table_books.Books.{Books}
use Rattle.books.specs.Books.{nobody, seat_at, with_seat, with_tray, with_rack, with_stage}
use Rattle.table.specs.Causes.{with_bet, causes, refusal, judged, verdict, is_strange, is_miscounted}
use Rattle.table.specs.Effects.{with_raise, with_leave, settled_in, after}
use Rattle.table.specs.Calls.{Did}
use Rattle.table.specs.Holdings.{limit, most_rounds, total, ceilings, staking, is_open, due, missing, is_betting, bad_seat, bad_space}
use Rattle.table.specs.Soundness.{Chosen, SeatSound, StageSound, Sound}
use Rattle.table.proofs.Ended.{settled_is}
use Rattle.table.proofs.Keep.{each_set, may_all, settle_all}
use Rattle.table.proofs.Totals.{total_set, ceilings_set}
use Rattle.table.proofs.Voiding.{voided_sound}

-- where a call is accepted, none of its causes holds
ok_none : (o : Option Cause) (f : Cause → Refusal) → Ok tt ≡ judged o f → o ≡ None
ok_none None f e = refl
ok_none (Some x) f e = let z : ◌≡◌ {A = ℕ} 0 1 = cc in absurd (omega arith)

pub passed : (R : Rules) (b : Books) (c : Call) (free : ℕ) → Ok tt ≡ verdict R b c free → NoneHolds (causes R b c free)
passed R b c free e = none_holds (causes R b c free) (ok_none (first_cause (causes R b c free)) (refusal R b c) e)

-- a seat that the table has
pub seat_here : (s : ℕ) → bad_seat s ≡ false → (1 ≤ s) × (s - 1 < 7)
seat_here s h =
    let p = or_parts (eqb s 0) (ltb 7 s) h in
    let some : s ≡ 0 → ⊥ = eqb-false s 0 p.0 in
    let few = ltb-false 7 s p.1 in
    (omega arith, omega arith)

space_here : (j : ℕ) → bad_space j ≡ false → j - 1 < 5
space_here j h =
    let p = or_parts (eqb j 0) (ltb 5 j) h in
    let some : j ≡ 0 → ⊥ = eqb-false j 0 p.0 in
    let few = ltb-false 5 j p.1 in
    omega arith

none_added : (R : Rules) (xs : List ℕ) (c : Choice) → c ≡ open_choice → added R xs c ≡ 0
none_added R xs c e = ap (added R xs) e

open_is : (c : Choice) → is_open c ≡ true → c ≡ open_choice
open_is open_choice e = refl
open_is Raised e = absurd (false≢true e)
open_is Left e = absurd (false≢true e)

lawful_is : (v : Result (Unit {0}) Misdeal) → is_strange v ≡ false → is_miscounted v ≡ false → v ≡ Ok tt
lawful_is (Ok lawful) p q = refl
lawful_is (Err NoCard) p q = absurd (true≢false p)
lawful_is (Err WrongCount) p q = absurd (true≢false q)

pub none_missing : (o : Option ℕ) → is_some o ≡ false → o ≡ None
none_missing None e = refl
none_missing (Some k) e = absurd (true≢false e)

-- stakes with one space written stay small
small_set : (xs : List ℕ) (j n : ℕ) → Small xs → j < 5 → n ≤ 1000000 → Small (set xs j n)
small_set xs j n small lt few = record {
  five = length-set xs j n ∙ small.five;
  each = λ i. ⊎_elim
      (λ (same : i ≡ j). let h : j < length xs = omega (arith, small.five) in subst (λ x. x ≤ 1000000) (sym (ap (λ m. get_or (set xs j n) m 0) same ∙ get_or-set_same xs j n 0 h)) few)
      (λ other. subst (λ x. x ≤ 1000000) (sym (get_or-set_other xs j i n 0 other)) (small.each i))
      (cases_eq i j);
}

module _ (R : Rules) (facts : Facts R) where
  -- what an accepted bet has shown
  pub record BetShown (b : Books) (s j n : ℕ) : Type 0 where
    pub seat : s - 1 < 7
    pub space : j - 1 < 5
    pub bare : get_or (seat_at b (s - 1)).stakes (j - 1) 0 ≡ 0
    pub few : n ≤ b.maximum
    pub rack : n ≤ (seat_at b (s - 1)).rack
    pub tray : ceilings R (set b.seats (s - 1) (with_bet (seat_at b (s - 1)) j n)) ≤ b.tray
    pub stage : is_betting b.stage ≡ true
    pub sums : sum (set (seat_at b (s - 1)).stakes (j - 1) n) ≡ sum (seat_at b (s - 1)).stakes + n

  pub bet_shown : (b : Books) (s j n free : ℕ) → Sound R b → NoneHolds (causes R b (Bet s j n) free) → BetShown b s j n
  bet_shown b s j n free sound p =
      let seat : s - 1 < 7 = (seat_here s p.1.0).1 in
      let space : j - 1 < 5 = space_here j (or_parts _ _ p.1.1.0).0 in
      let v = seat_at b (s - 1) in
      let bare : get_or v.stakes (j - 1) 0 ≡ 0 = eqb-true _ _ (not-false _ p.1.1.1.1.0) in
      let h : j - 1 < length v.stakes = omega (arith, (sound.seats (s - 1) seat).small.five) in
      record {
        seat = seat;
        space = space;
        bare = bare;
        few = ltb-false b.maximum n (or_parts (ltb n b.minimum) _ (or_parts (eqb n 0) _ p.1.1.1.0).1).1;
        rack = ltb-false v.rack n p.1.1.1.1.1.1.0;
        tray = ltb-false b.tray _ p.1.1.1.1.1.1.1.0;
        stage = not-false _ p.0;
        sums = omega (arith, sum_by-set (λ x. x) v.stakes (j - 1) n 0 h);
      }

  -- what an accepted raise has shown, and an accepted leave
  pub record ChoiceShown (b : Books) (s : ℕ) : Type 0 where
    pub seat : s - 1 < 7
    pub stage : is_betting b.stage ≡ false
    pub unraised : (seat_at b (s - 1)).raised ≡ 0
    pub told : R.chooses (seat_at b (s - 1)).stakes ≡ true
    pub unmade : (seat_at b (s - 1)).choice ≡ open_choice

  choice_shown : (b : Books) (s : ℕ) → Sound R b → is_betting b.stage ≡ false → bad_seat s ≡ false → due R (seat_at b (s - 1)) ≡ true → ChoiceShown b s
  choice_shown b s sound stage here due_now =
      let seat : s - 1 < 7 = (seat_here s here).1 in
      let v = seat_at b (s - 1) in
      let unmade : v.choice ≡ open_choice = open_is _ (and_parts _ _ due_now).0 in
      record {
        seat = seat;
        stage = stage;
        unraised = (sound.seats (s - 1) seat).raise ∙ none_added R v.stakes v.choice unmade;
        told = (and_parts _ _ due_now).1;
        unmade = unmade;
      }

  pub raise_shown : (b : Books) (s free : ℕ) → Sound R b → NoneHolds (causes R b (Raise s) free) → ChoiceShown b s × (R.raise (seat_at b (s - 1)).stakes ≤ (seat_at b (s - 1)).rack)
  raise_shown b s free sound p =
      let due_now : due R (seat_at b (s - 1)) ≡ true = not-false _ p.1.1.1.0 in (
        choice_shown b s sound p.0 p.1.0 due_now,
        ltb-false _ _ (⊎_elim (λ f. absurd (both_ways _ f due_now)) (λ h. h) (and_cases _ _ p.1.1.0)),
      )

  pub leave_shown : (b : Books) (s free : ℕ) → Sound R b → NoneHolds (causes R b (Leave s) free) → ChoiceShown b s × (R.leaves (seat_at b (s - 1)).stakes ≡ true)
  leave_shown b s free sound p = (choice_shown b s sound p.0 p.1.0 (not-false _ p.1.1.0), not-false _ p.1.1.1.0)

  pub total_after_settle : (b : Books) → Sound R b → missing R b ≡ None → (g : Stage) → b.stage ≡ g → total (settled_in R b g) ≡ total b
  total_after_settle b s m Betting e = refl
  total_after_settle b s m (Dealt r) e = ap total (sym (settled_is R facts b r s e (may_all R b s m))) ∙ (settle_all R facts b r s e (may_all R b s m) 7 (omega arith)).same_total

  -- one seat is written, and the stage still stands
  sound_seat : (b : Books) (k : ℕ) (v : Seat) → Sound R b → SeatSound R v → total (with_seat b k v) ≤ limit → ceilings R (set b.seats k v) ≤ b.tray → StageSound R (with_seat b k v) b.stage → Sound R (with_seat b k v)
  sound_seat b k v s kept within covered stands = record {
    seven = length-set b.seats k v ∙ s.seven;
    seats = each_set (SeatSound R) b.seats k v nobody 7 s.seven kept s.seats;
    within = within;
    covered = covered;
    counted = s.counted;
    least = s.least;
    bounds = s.bounds;
    most = s.most;
    stands = stands;
  }

  stands_same : (b : Books) (k : ℕ) (v : Seat) → Sound R b → k < 7 → v.choice ≡ (seat_at b k).choice → (g : Stage) → StageSound R b g → StageSound R (with_seat b k v) g
  stands_same b k v s lt e Betting a = each_set (λ x. x.choice ≡ open_choice) b.seats k v nobody 7 s.seven (e ∙ a k lt) a
  stands_same b k v s lt e (Dealt r) a = a

  stands_dealt : (b b' : Books) (g : Stage) → is_betting g ≡ false → StageSound R b g → StageSound R b' g
  stands_dealt b b' Betting h a = absurd (true≢false h)
  stands_dealt b b' (Dealt r) h a = a

  stands_tray : (b : Books) (n : ℕ) (g : Stage) → StageSound R b g → StageSound R (with_tray b n) g
  stands_tray b n Betting a = a
  stands_tray b n (Dealt r) a = a

  open_at : (b : Books) (g : Stage) → is_betting g ≡ true → StageSound R b g → (k : ℕ) → k < 7 → (seat_at b k).choice ≡ open_choice
  open_at b Betting h a = a
  open_at b (Dealt r) h a = absurd (false≢true h)

  -- betting again, with every choice ended
  sound_again : (b : Books) → Sound R b → ((k : ℕ) → k < 7 → (seat_at b k).choice ≡ open_choice) → Sound R (with_stage b Betting)
  sound_again b s e = record { seven = s.seven; seats = s.seats; within = s.within; covered = s.covered; counted = s.counted; least = s.least; bounds = s.bounds; most = s.most; stands = e }

  sound_settled : (b : Books) → Sound R b → missing R b ≡ None → (g : Stage) → b.stage ≡ g → Sound R (settled_in R b g)
  sound_settled b s m Betting e = s
  sound_settled b s m (Dealt r) e =
      let may = may_all R b s m in
      let p = settle_all R facts b r s e may 7 (omega arith) in
      subst (Sound R) (settled_is R facts b r s e may) (sound_again _ p.sound (λ k lt. ap (λ x. x.choice) (p.done k lt)))

  -- a seat with another rack
  rack_sound : (v : Seat) (n : ℕ) → SeatSound R v → SeatSound R (with_rack v n)
  rack_sound v n h = record { small = h.small; raise = h.raise; chosen = h.chosen }

  pub sound_after : (b : Books) (c : Call) (free : ℕ) → Sound R b → NoneHolds (causes R b c free) → Sound R (after R b c)
  sound_after b (Open conditions tray) free s p = s
  sound_after b (Buy i n) free s p =
      let lt = (seat_here i p.0).1 in
      let v = with_rack (seat_at b (i - 1)) ((seat_at b (i - 1)).rack + n) in
      sound_seat b (i - 1) v s (rack_sound _ _ (s.seats (i - 1) lt))
      (omega (arith, total_set b (i - 1) v s.seven lt, ltb-false limit (total b + n) p.1.1.0))
      (omega (arith, ceilings_set R b (i - 1) v s.seven lt, s.covered))
      (stands_same b (i - 1) v s lt refl b.stage s.stands)
  sound_after b (Cash i n) free s p =
      let lt = (seat_here i p.0).1 in
      let v = with_rack (seat_at b (i - 1)) ((seat_at b (i - 1)).rack - n) in
      sound_seat b (i - 1) v s (rack_sound _ _ (s.seats (i - 1) lt))
      (omega (arith, total_set b (i - 1) v s.seven lt, s.within))
      (omega (arith, ceilings_set R b (i - 1) v s.seven lt, s.covered))
      (stands_same b (i - 1) v s lt refl b.stage s.stands)
  sound_after b (Fill n) free s p = record {
    seven = s.seven;
    seats = s.seats;
    within = omega (arith, ltb-false limit (total b + n) p.1.0);
    covered = omega (arith, s.covered);
    counted = s.counted;
    least = s.least;
    bounds = s.bounds;
    most = s.most;
    stands = stands_tray b (b.tray + n) b.stage s.stands;
  }
  sound_after b (Draw n) free s p = record {
    seven = s.seven;
    seats = s.seats;
    within = omega (arith, s.within);
    covered = omega (arith, ltb-false b.tray (ceilings R b.seats + n) p.1.0);
    counted = s.counted;
    least = s.least;
    bounds = s.bounds;
    most = s.most;
    stands = stands_tray b (b.tray - n) b.stage s.stands;
  }
  sound_after b (Bet i j n) free s p =
      let o = bet_shown b i j n free s p in
      let h = s.seats (i - 1) o.seat in
      let v = with_bet (seat_at b (i - 1)) j n in
      let shut : (seat_at b (i - 1)).choice ≡ open_choice = open_at b b.stage o.stage s.stands (i - 1) o.seat in
      sound_seat b (i - 1) v s
      (record {
        small = small_set (seat_at b (i - 1)).stakes (j - 1) n h.small o.space (omega (arith, o.few, s.most));
        raise = h.raise ∙ none_added R (seat_at b (i - 1)).stakes (seat_at b (i - 1)).choice shut ∙ sym (none_added R v.stakes v.choice shut);
        chosen = subst (Chosen R v) (sym shut) tt;
      })
      (omega (arith, total_set b (i - 1) v s.seven o.seat, s.within, o.rack, o.sums))
      o.tray
      (stands_same b (i - 1) v s o.seat refl b.stage s.stands)
  sound_after b (Deal cards) free s p =
      let d = deal (staking b) cards in
      let fair : Fair R d = record { seven = refl; lawful = lawful_is (R.deals d) p.1.1.1.0 p.1.1.1.1.0 } in
      record {
        seven = s.seven;
        seats = s.seats;
        within = s.within;
        covered = s.covered;
        counted = omega (arith, leb-false most_rounds b.rounds p.1.1.0);
        least = s.least;
        bounds = s.bounds;
        most = s.most;
        stands = fair;
      }
  sound_after b (Raise i) free s p =
      let o = raise_shown b i free s p in
      let h = s.seats (i - 1) o.0.seat in
      let v = with_raise (seat_at b (i - 1)) (R.raise (seat_at b (i - 1)).stakes) in
      sound_seat b (i - 1) v s (record { small = h.small; raise = refl; chosen = o.0.told })
      (omega (arith, total_set b (i - 1) v s.seven o.0.seat, s.within, o.1, o.0.unraised))
      (omega (arith, ceilings_set R b (i - 1) v s.seven o.0.seat, s.covered))
      (stands_dealt b (with_seat b (i - 1) v) b.stage o.0.stage s.stands)
  sound_after b (Leave i) free s p =
      let o = leave_shown b i free s p in
      let h = s.seats (i - 1) o.0.seat in
      let v = with_leave (seat_at b (i - 1)) in
      sound_seat b (i - 1) v s (record { small = h.small; raise = o.0.unraised; chosen = (o.0.told, o.1) })
      (omega (arith, total_set b (i - 1) v s.seven o.0.seat, s.within))
      (omega (arith, ceilings_set R b (i - 1) v s.seven o.0.seat, s.covered))
      (stands_dealt b (with_seat b (i - 1) v) b.stage o.0.stage s.stands)
  sound_after b Settle free s p = sound_settled b s (none_missing _ p.1.0) b.stage refl
  sound_after b Void free s p = voided_sound R facts b s

  pub did_sound : (b b' : Books) (c : Call) (free : ℕ) (r : Result (Unit {0}) Refusal) → Sound R b → Did R b c free r b' → Sound R b'
  did_sound b b' c free (Ok x) s d = subst (Sound R) (sym d.books) (sound_after b c free s (passed R b c free d.answer))
  did_sound b b' c free (Err x) s d = subst (Sound R) (sym d.books) s
