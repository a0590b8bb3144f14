-- What is printed of one command of a sheet.
use Rattle.std.specs.Prelude.{ℕ, List, [], ◌∷◌, ◌++◌, codes, decimal, Ok, Err, Result, slice_index}
use Rattle.refusals.specs.declared.Refusal.{Refusal}
use Rattle.refusals.specs.Refusals.{number_of, layer_of, word_of}
use Rattle.ledger.specs.Lines.{spaced}
use Rattle.lines.specs.Lines.{with_feed}
use Rattle.trace.specs.declared.steps.Step.{Step}
use Rattle.history.specs.declared.positions.Position.{Position}
use Rattle.trace.specs.declared.steps.Piles.{Piles}
use Rattle.trace.specs.declared.steps.Seats.{Seats}
use Rattle.trace.specs.declared.steps.Sums.{Sums}

-- an answer in words: accepted, or refused with the number, the seat and the layer
abbrev pub answer_words : Result (Unit {0}) Refusal → List (List ℕ)
answer_words (Ok done) = codes "accepted" ∷ []
answer_words (Err e) = codes "refused" ∷ decimal (number_of e.cause) ∷ decimal e.seat ∷ word_of (layer_of e.cause) ∷ []

-- a command: its place, its name and its answer
abbrev pub answered_line : ℕ → List ℕ → Result (Unit {0}) Refusal → List ℕ
answered_line place name answer = spaced (decimal place ∷ name ∷ answer_words answer)

abbrev pub step_line : Step → List ℕ
step_line s = answered_line s.place s.name.now s.answer

-- the tray, all racks and all spaces
abbrev pub piles_line : Position → List ℕ
piles_line p = spaced (codes "tray" ∷ decimal p.tray ∷ codes "racks" ∷ decimal p.racks ∷ codes "spaces" ∷ decimal p.spaces ∷ [])

-- the chips of each seat
abbrev pub seats_line : Seats → List ℕ
seats_line s = spaced (codes "seats" ∷ decimal s.seat_1 ∷ decimal s.seat_2 ∷ decimal s.seat_3 ∷ decimal s.seat_4 ∷ decimal s.seat_5 ∷ decimal s.seat_6 ∷ decimal s.seat_7 ∷ [])

abbrev pub seats_in : Position → Seats
seats_in p = record {
  seat_1 = slice_index p.seats 0;
  seat_2 = slice_index p.seats 1;
  seat_3 = slice_index p.seats 2;
  seat_4 = slice_index p.seats 3;
  seat_5 = slice_index p.seats 4;
  seat_6 = slice_index p.seats 5;
  seat_7 = slice_index p.seats 6;
}

-- the opening tray and what was brought, beside tray, racks and spaces with what was taken away: the two sides are one number
abbrev pub sums_line : Position → List ℕ
sums_line p =
    spaced
    (codes "sum" ∷ decimal p.opening_tray ∷ codes "+" ∷ decimal p.deposited
    ∷ codes "=" ∷ decimal p.tray ∷ codes "+" ∷ decimal p.racks ∷ codes "+" ∷ decimal p.spaces ∷ codes "+" ∷ decimal p.withdrawn ∷ [])

-- each with its line feed
abbrev pub printed_step : Step → List ℕ
printed_step s = with_feed (step_line s)

abbrev pub printed_piles : Piles → List ℕ
printed_piles p = with_feed (piles_line p.position)

abbrev pub printed_seats : Seats → List ℕ
printed_seats s = with_feed (seats_line s)

abbrev pub printed_sums : Sums → List ℕ
printed_sums p = with_feed (sums_line p.position)

-- where the chips lie: three lines
abbrev pub position_text : Position → List ℕ
position_text p = with_feed (piles_line p) ++ (with_feed (seats_line (seats_in p)) ++ with_feed (sums_line p))
