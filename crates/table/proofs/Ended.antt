-- Seven seats settled one by one are all seats settled at once.
use Rattle.std.proofs.Common.{◌≡◌, ℕ, ◌+◌, ◌-◌, ◌<◌, map, sum_by, sum, ap, ◌∙◌, arith}
use Rattle.game.specs.Rules.{Rules, Facts}
use Rattle.books.specs.declared.seat.Seat.{Seat}
use Rattle.books.specs.declared.stage.Round.{Round}
use Rattle.books.specs.declared.stage.Stage.TheVariants.{Betting, Dealt}
use Rattle.books.specs.declared.table_books.Books.{Books}
use Rattle.books.specs.Books.{nobody, seat_at, laid, chips, with_stage}
use Rattle.table.specs.Effects.{return_to, settled}
use Rattle.table.specs.Holdings.{every}
use Rattle.table.specs.Soundness.{Sound}
use Rattle.table.specs.Steps.{settle_to, May}
use Rattle.table.proofs.Seats.{seven_places, every_agree}
use Rattle.table.proofs.Keep.{Ended, settle_all}

module _ (R : Rules) (facts : Facts R) (b : Books) (r : Round) (s : Sound R b) (dealt : b.stage ≡ Dealt r) where
  -- the seats and the tray once all seven are ended
  module _ (f : ℕ → Seat → Seat) (b' : Books) (p : Ended R facts r f b b' 7) where
    ended_seats : b'.seats ≡ map (λ k. f k (seat_at b k)) every
    ended_seats = seven_places b'.seats nobody p.sound.seven ∙ every_agree (λ k. seat_at b' k) (λ k. f k (seat_at b k)) p.done

    -- the tray makes up for what the seats gained or lost
    ended_tray : b'.tray + sum (map (λ k. chips (f k (seat_at b k))) every) ≡ b.tray + sum (map (λ k. chips (seat_at b k)) every)
    ended_tray =
        let old : sum_by chips b.seats ≡ sum (map (λ k. chips (seat_at b k)) every) = ap (sum_by chips) (seven_places b.seats nobody s.seven) in
        let new : sum_by chips b'.seats ≡ sum (map (λ k. chips (f k (seat_at b k))) every) = ap (sum_by chips) ended_seats in
        omega (arith, p.same_total, old, new)

  pub settled_is : ((k : ℕ) → k < 7 → May R (seat_at b k)) → with_stage (settle_to R r 7 b) Betting ≡ settled R b r
  settled_is may =
      let p = settle_all R facts b r s dealt may 7 (omega arith) in
      let m = settle_to R r 7 b in
      let tray : m.tray ≡ b.tray + sum (map (λ k. laid (seat_at b k)) every) - sum (map (λ k. return_to R r k (seat_at b k)) every) = omega (arith, ended_tray _ m p) in
      λ i. record { tray = tray i; seats = ended_seats _ m p i; stage = Betting; rounds = p.same_rounds i; minimum = p.same_minimum i; maximum = p.same_maximum i }
