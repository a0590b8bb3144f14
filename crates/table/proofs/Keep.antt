-- Sound books stay sound while a round is settled seat by seat, and what that makes of them.
use Rattle.std.proofs.Common.{◌≡◌, ℕ, zero, suc, ◌+◌, ◌-◌, ◌<◌, ◌≤◌, Bool, true, false, cond, ◌&&◌, List, [], ◌∷◌, Some, None, length, get_or, set, replicate, sum, sym, refl, ap, ◌∙◌, subst, ⊎_elim, arith, length-set}
use Rattle.std.proofs.lemmas.List.{get_or-set_same, get_or-set_other}
use Rattle.std.proofs.lemmas.List.Sums.{sum_by-set, sum_by-cons, get_or-le-sum_by}
use Rattle.std.proofs.lemmas.Bool.{cases_eq, ltb-false}
use Rattle.std.proofs.lemmas.Option.{none-some}
use Rattle.game.specs.declared.choice.Choice.{Choice}
use Rattle.game.specs.declared.choice.Choice.TheVariants.{Open, Raised, Left}
use Rattle.game.specs.Rules.{Rules, Facts, Small, Allowed, Fair, added}
use Rattle.books.specs.declared.seat.Seat.{Seat}
use Rattle.books.specs.declared.stage.Round.{Round}
use Rattle.books.specs.declared.stage.Stage.{Stage}
use Rattle.books.specs.declared.stage.Stage.TheVariants.{Betting, Dealt}
use Rattle.books.specs.declared.table_books.Books.{Books}
use Rattle.books.specs.Books.{empty, nobody, seat_at, laid, chips, cleared, unchosen, with_tray, with_seat}
use Rattle.table.specs.Effects.{return_to}
use Rattle.table.specs.Holdings.{limit, total, every, does_stake, is_open, due, first_seat, missing}
use Rattle.table.specs.Soundness.{Chosen, SeatSound, StageSound, Sound}
use Rattle.table.specs.Steps.{settle_seat, settle_to, May}
use Rattle.table.proofs.Seats.{seven}
use Rattle.table.proofs.Totals.{ceil, ceilings_set, ceil_within}

-- a list of sum 0 is all zeros
zeros : (xs : List ℕ) → sum xs ≡ 0 → xs ≡ replicate (length xs) 0
zeros [] z = refl
zeros (x ∷ xs) z =
    let first : x ≡ 0 = omega (arith, sum_by-cons (λ y. y) x xs) in
    let rest : sum xs ≡ 0 = omega (arith, sum_by-cons (λ y. y) x xs) in
    ap (λ y. y ∷ xs) first ∙ ap (λ ys. 0 ∷ ys) (zeros xs rest)

pub all_zero : (xs : List ℕ) → length xs ≡ 5 → sum xs ≡ 0 → xs ≡ empty
all_zero xs e z = zeros xs z ∙ ap (λ n. replicate n 0) e

-- what holds at each place still holds where one of them is written
pub each_set : {X : Type 0} (P : X → Type 0) (xs : List X) (i : ℕ) (y d : X) (n : ℕ) → length xs ≡ n → P y → ((k : ℕ) → k < n → P (get_or xs k d)) → (k : ℕ) → k < n → P (get_or (set xs i y) k d)
each_set P xs i y d n e py all k lt =
    ⊎_elim
    (λ (same : k ≡ i). let h : i < length xs = omega arith in subst (λ j. P (get_or (set xs i y) j d)) (sym same) (subst P (sym (get_or-set_same xs i y d h)) py))
    (λ other. subst P (sym (get_or-set_other xs i k y d other)) (all k lt))
    (cases_eq k i)

-- five empty spaces are small stakes
pub empty_small : Small empty
empty_small = record { five = refl; each = λ i. zero_at i }
  where
    zero_at : (i : ℕ) → get_or empty i 0 ≤ 1000000
    zero_at zero = omega arith
    zero_at (suc zero) = omega arith
    zero_at (suc (suc zero)) = omega arith
    zero_at (suc (suc (suc zero))) = omega arith
    zero_at (suc (suc (suc (suc zero)))) = omega arith
    zero_at (suc (suc (suc (suc (suc i))))) = omega arith

-- a cleared seat is sound at any game
pub cleared_sound : (R : Rules) (n : ℕ) → SeatSound R (cleared n)
cleared_sound R n = record { small = empty_small; raise = refl; chosen = tt }

-- where the first seat that a test picks is none, it picks no seat
none_picked : (p : ℕ → Bool) (ks : List ℕ) → first_seat p ks ≡ None → (i : ℕ) → i < length ks → p (get_or ks i 0) ≡ false
none_picked p [] e i lt = absurd (omega arith)
none_picked p (k ∷ ks) e i lt = go (λ h j below. none_picked p ks h j below) (p k) refl i lt
  where
    go : (first_seat p ks ≡ None → (j : ℕ) → j < length ks → p (get_or ks j 0) ≡ false) → (t : Bool) → p k ≡ t → (i : ℕ) → i < length (k ∷ ks) → p (get_or (k ∷ ks) i 0) ≡ false
    go rest true h i lt = absurd (none-some (k + 1) (sym (sym (ap (λ t. cond t (Some (k + 1)) (first_seat p ks)) h) ∙ e)))
    go rest false h zero lt = h
    go rest false h (suc i) lt = rest (sym (ap (λ t. cond t (Some (k + 1)) (first_seat p ks)) h) ∙ e) i (omega arith)

module _ (R : Rules) where
  may_seat : (s : Seat) (c : Choice) → (is_open c && R.chooses s.stakes) ≡ false → Chosen R s c → Allowed R s.stakes c
  may_seat s Open e h = e
  may_seat s Raised e h = h
  may_seat s Left e h = h

  -- where no choice is missing, each seat's choice is one that the game allows
  pub may_all : (b : Books) → Sound R b → missing R b ≡ None → (k : ℕ) → k < 7 → May R (seat_at b k)
  may_all b s e k lt =
      let p : ℕ → Bool = λ j. due R (seat_at b j) in
      let none : p k ≡ false = seven (λ j. p j ≡ false) (none_picked p every e 0 (omega arith), none_picked p every e 1 (omega arith), none_picked p every e 2 (omega arith), none_picked p every e 3 (omega arith), none_picked p every e 4 (omega arith), none_picked p every e 5 (omega arith), none_picked p every e 6 (omega arith)) k lt in
      may_seat (seat_at b k) (seat_at b k).choice none (s.seats k lt).chosen

  pub dealt_sound : (b : Books) (r : Round) → Sound R b → b.stage ≡ Dealt r → Fair R r
  dealt_sound b r s e = subst (StageSound R b) e s.stands

  module _ (facts : Facts R) where
    idle_added : (stakes : List ℕ) (c : Choice) → Small stakes → sum stakes ≡ 0 → added R stakes c ≡ 0
    idle_added stakes Open small z = refl
    idle_added stakes Raised small z = facts.idle_raise stakes small z
    idle_added stakes Left small z = refl

    -- a seat that does not stake has nothing on its spaces
    pub idle_laid : (s : Seat) → SeatSound R s → does_stake s ≡ false → (s.stakes ≡ empty) × (s.raised ≡ 0)
    idle_laid s h idle =
        let none : sum s.stakes ≡ 0 = omega (arith, ltb-false 0 (sum s.stakes) idle) in
        (all_zero s.stakes h.small.five none, h.raise ∙ idle_added s.stakes s.choice h.small none)

    -- a seat that does not stake, with its choice ended, is a cleared seat
    pub idle_cleared : (s : Seat) → SeatSound R s → does_stake s ≡ false → (n : ℕ) → s.rack ≡ n → unchosen s ≡ cleared n
    idle_cleared s h idle n e =
        let p = idle_laid s h idle in
        λ i. record { rack = e i; stakes = p.0 i; raised = p.1 i; choice = Open }

    module _ (b : Books) (r : Round) (k : ℕ) (s : Sound R b) (dealt : b.stage ≡ Dealt r) (lt : k < 7) where
      -- a return is covered by what the seat laid and its ceiling
      pub return_covered : May R (seat_at b k) → return_to R r k (seat_at b k) ≤ laid (seat_at b k) + ceil R (seat_at b k)
      return_covered may =
          let v = seat_at b k in
          let h = s.seats k lt in
          omega (arith, facts.pays k v.stakes v.choice r lt h.small may (dealt_sound b r s dealt), h.raise)

      -- a seat without stakes gets nothing back
      pub idle_nothing : May R (seat_at b k) → does_stake (seat_at b k) ≡ false → return_to R r k (seat_at b k) ≡ 0
      idle_nothing may idle =
          let v = seat_at b k in
          facts.idle_return k v.stakes v.choice r lt (s.seats k lt).small may (dealt_sound b r s dealt) (omega (arith, ltb-false 0 (sum v.stakes) idle))

    -- clearing a seat ends its choice, so the stage still stands
    stands_cleared : (b : Books) (k n tray : ℕ) → length b.seats ≡ 7 → (g : Stage) → StageSound R b g → StageSound R (with_tray (with_seat b k (cleared n)) tray) g
    stands_cleared b k n tray e Betting a = each_set (λ x. x.choice ≡ Open) b.seats k (cleared n) nobody 7 e refl a
    stands_cleared b k n tray e (Dealt r) a = a

    -- one seat of sound books is cleared, and the tray changes so that it still covers the ceilings and the total stays
    pub cleared_at_sound : (b : Books) (k n tray : ℕ) → Sound R b → k < 7 → let s = seat_at b k in let b' = with_tray (with_seat b k (cleared n)) tray in
        total b' ≡ total b → b.tray ≤ tray + ceil R s → Sound R b'
    cleared_at_sound b k n tray s lt same tray_fits =
        let v = seat_at b k in
        record {
          seven = length-set b.seats k (cleared n) ∙ s.seven;
          seats = each_set (SeatSound R) b.seats k (cleared n) nobody 7 s.seven (cleared_sound R n) s.seats;
          within = subst (λ t. t ≤ limit) (sym same) s.within;
          covered = omega (arith, ceilings_set R b k (cleared n) s.seven lt, s.covered, facts.idle_ceiling empty empty_small refl);
          counted = s.counted;
          least = s.least;
          bounds = s.bounds;
          most = s.most;
          stands = stands_cleared b k n tray s.seven b.stage s.stands;
        }

    -- what ending a round has done to the first n seats, where each seat becomes what f makes of it
    pub record Ended (r : Round) (f : ℕ → Seat → Seat) (b b' : Books) (n : ℕ) : Type 0 where
      pub sound : Sound R b'
      pub stage : b'.stage ≡ Dealt r
      pub same_rounds : b'.rounds ≡ b.rounds
      pub same_minimum : b'.minimum ≡ b.minimum
      pub same_maximum : b'.maximum ≡ b.maximum
      pub same_total : total b' ≡ total b
      pub done : (k : ℕ) → k < n → seat_at b' k ≡ f k (seat_at b k)
      pub later : (k : ℕ) → n ≤ k → seat_at b' k ≡ seat_at b k

    pub ended_none : (r : Round) (f : ℕ → Seat → Seat) (b : Books) → Sound R b → b.stage ≡ Dealt r → Ended r f b b 0
    ended_none r f b s e = record {
      sound = s;
      stage = e;
      same_rounds = refl;
      same_minimum = refl;
      same_maximum = refl;
      same_total = refl;
      done = λ k h. absurd (omega arith);
      later = λ k h. refl;
    }

    -- one seat more
    pub ended_more : (r : Round) (f : ℕ → Seat → Seat) (b b' : Books) (n tray : ℕ) → n < 7 → Ended r f b b' n → let b'' = with_tray (with_seat b' n (f n (seat_at b' n))) tray in
        Sound R b'' → total b'' ≡ total b' → Ended r f b b'' (suc n)
    ended_more r f b b' n tray lt p sound same =
        let within : n < length b'.seats = omega (arith, p.sound.seven) in
        record {
          sound = sound;
          stage = p.stage;
          same_rounds = p.same_rounds;
          same_minimum = p.same_minimum;
          same_maximum = p.same_maximum;
          same_total = same ∙ p.same_total;
          done = λ k below. ⊎_elim
              (λ (eq : k ≡ n). subst (λ j. get_or (set b'.seats n (f n (seat_at b' n))) j nobody ≡ f j (seat_at b j)) (sym eq)
              (get_or-set_same b'.seats n (f n (seat_at b' n)) nobody within ∙ ap (f n) (p.later n (omega arith))))
              (λ ne. get_or-set_other b'.seats n k (f n (seat_at b' n)) nobody ne ∙ p.done k (omega arith))
              (cases_eq k n);
          later = λ k above. let ne : k ≡ n → ⊥ = omega arith in get_or-set_other b'.seats n k (f n (seat_at b' n)) nobody ne ∙ p.later k (omega arith);
        }

    module _ (b : Books) (r : Round) (s : Sound R b) (dealt : b.stage ≡ Dealt r) where
      -- what a settled seat becomes
      abbrev pub settled_seat : ℕ → Seat → Seat
      settled_seat k v = cleared (v.rack + return_to R r k v)

      pub settle_total : (k : ℕ) → k < 7 → May R (seat_at b k) → total (settle_seat R r b k) ≡ total b
      settle_total k lt may =
          let h : k < length b.seats = omega (arith, s.seven) in
          omega (arith, sum_by-set chips b.seats k (settled_seat k (seat_at b k)) nobody h, return_covered b r k s dealt lt may, ceil_within R b k s.seven lt, s.covered, get_or-le-sum_by chips b.seats k nobody h)

      pub settle_sound : (k : ℕ) → k < 7 → May R (seat_at b k) → Sound R (settle_seat R r b k)
      settle_sound k lt may =
          let v = seat_at b k in
          cleared_at_sound b k (v.rack + return_to R r k v) (b.tray + laid v - return_to R r k v) s lt (settle_total k lt may) (omega (arith, return_covered b r k s dealt lt may))

    -- the first n seats settled
    pub settle_all : (b : Books) (r : Round) (s : Sound R b) (dealt : b.stage ≡ Dealt r) → ((k : ℕ) → k < 7 → May R (seat_at b k)) → (n : ℕ) → n ≤ 7 → Ended r (settled_seat b r s dealt) b (settle_to R r n b) n
    settle_all b r s dealt may zero le = ended_none r (settled_seat b r s dealt) b s dealt
    settle_all b r s dealt may (suc n) le =
        let p = settle_all b r s dealt may n (omega arith) in
        let m = settle_to R r n b in
        let lt : n < 7 = omega arith in
        let may_n : May R (seat_at m n) = subst (May R) (sym (p.later n (omega arith))) (may n lt) in
        ended_more r (settled_seat b r s dealt) b m n _ lt p (settle_sound m r p.sound p.stage n lt may_n) (settle_total m r p.sound p.stage n lt may_n)
