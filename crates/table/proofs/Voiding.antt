-- A voided round: all seats at once.
use Rattle.std.proofs.Common.{◌≡◌, ℕ, ◌<◌, List, map, length, get_or, sum_by, refl, ap, ◌∙◌, arith}
use Rattle.game.specs.Rules.{Rules, Facts}
use Rattle.books.specs.declared.seat.Seat.{Seat}
use Rattle.books.specs.declared.stage.Stage.TheVariants.{Betting}
use Rattle.books.specs.declared.table_books.Books.{Books}
use Rattle.books.specs.Books.{empty, nobody, seat_at, chips, with_stage}
use Rattle.table.specs.Effects.{voided, voided_seat}
use Rattle.table.specs.Holdings.{total, every}
use Rattle.table.specs.Soundness.{SeatSound, Sound}
use Rattle.table.proofs.Keep.{empty_small, cleared_sound}
use Rattle.table.proofs.Seats.{seven, every_agree, seven_places}

-- where each of seven seats is voided, and the table is betting again, the round is voided
pub all_voided : (b : Books) (seats : List Seat) → length seats ≡ 7 → ((k : ℕ) → k < 7 → get_or seats k nobody ≡ voided_seat (seat_at b k))
    → with_stage (record { tray = b.tray; seats = seats; stage = b.stage; rounds = b.rounds; minimum = b.minimum; maximum = b.maximum }) Betting ≡ voided b
all_voided b seats long each =
    let same : seats ≡ map (λ k. voided_seat (seat_at b k)) every = seven_places seats nobody long ∙ every_agree (λ k. get_or seats k nobody) (λ k. voided_seat (seat_at b k)) each in
    λ i. record { tray = b.tray; seats = same i; stage = Betting; rounds = b.rounds; minimum = b.minimum; maximum = b.maximum }

pub voided_at : (b : Books) (k : ℕ) → k < 7 → seat_at (voided b) k ≡ voided_seat (seat_at b k)
voided_at b = seven (λ k. seat_at (voided b) k ≡ voided_seat (seat_at b k)) (refl, refl, refl, refl, refl, refl, refl)

module _ (R : Rules) (facts : Facts R) (b : Books) (s : Sound R b) where
  pub voided_total : total (voided b) ≡ total b
  voided_total = omega (arith, ap (sum_by chips) (seven_places b.seats nobody s.seven))

  pub voided_sound : Sound R (voided b)
  voided_sound =
      let clear = λ (k : ℕ). cleared_sound R ((voided_seat (seat_at b k)).rack) in
      record {
        seven = refl;
        seats = seven (λ k. SeatSound R (seat_at (voided b) k)) (clear 0, clear 1, clear 2, clear 3, clear 4, clear 5, clear 6);
        within = omega (arith, voided_total, s.within);
        covered = omega (arith, facts.idle_ceiling empty empty_small refl);
        counted = s.counted;
        least = s.least;
        bounds = s.bounds;
        most = s.most;
        stands = seven (λ k. (seat_at (voided b) k).choice ≡ (voided_seat (seat_at b k)).choice) (refl, refl, refl, refl, refl, refl, refl);
      }
