-- With seven places free no settlement lacks one, so more places change no answer.
use Rattle.std.proofs.Common.{◌≡◌, ℕ, ◌≤◌, Bool, true, false, refl, arith}
use Rattle.std.proofs.lemmas.Bool.{le-ltb}
use Rattle.commands.specs.Calls.{Call, Open, Buy, Cash, Fill, Draw, Bet, Deal, Raise, Leave, Settle, Void}
use Rattle.game.specs.Rules.{Rules}
use Rattle.books.specs.declared.table_books.Books.{Books}
use Rattle.books.specs.Books.{seat_at}
use Rattle.table.specs.Causes.{verdict}
use Rattle.table.specs.Holdings.{one_if, does_stake, stakers}

at_most_one : (t : Bool) → one_if t ≤ 1
at_most_one true = omega arith
at_most_one false = omega arith

stakers_most : (b : Books) → stakers b ≤ 7
stakers_most b =
    let one = λ (k : ℕ). at_most_one (does_stake (seat_at b k)) in
    omega (arith, one 0, one 1, one 2, one 3, one 4, one 5, one 6)

pub verdict_enough : (R : Rules) (b : Books) (c : Call) (free : ℕ) → 7 ≤ free → verdict R b c free ≡ verdict R b c 7
verdict_enough R b (Open conditions tray) free h = refl
verdict_enough R b (Buy s n) free h = refl
verdict_enough R b (Cash s n) free h = refl
verdict_enough R b (Fill n) free h = refl
verdict_enough R b (Draw n) free h = refl
verdict_enough R b (Bet s j n) free h = refl
verdict_enough R b (Deal cards) free h = refl
verdict_enough R b (Raise s) free h = refl
verdict_enough R b (Leave s) free h = refl
verdict_enough R b Settle free h =
    let most = stakers_most b in
    rw (le-ltb free (stakers b) (omega (arith, most, h)), le-ltb 7 (stakers b) most) refl
verdict_enough R b Void free h = refl
