-- The first seat that is due, by its place among the seven.
use Rattle.std.proofs.Common.{◌≡◌, ℕ, zero, suc, ◌+◌, Bool, true, false, cond, List, map, length, get_or, Some, Option, position, option_map, sym, refl, ap, ◌∙◌, rules}
use Rattle.std.specs.List.{position_from, range_with_len}
use Rattle.std.proofs.lemmas.Iterator.{YieldsList-from_slice}
use Rattle.std.proofs.lemmas.Iterator.Adapters.{position_from-zero}
use Rattle.std.proofs.lemmas.Iterator.Search.{position_from_yields_List}
use Rattle.books.specs.declared.seat.Seat.{Seat}
use Rattle.books.specs.Books.{nobody}
use Rattle.table.specs.Holdings.{every, due, first_seat}
use Rattle.table.proofs.Seats.{seven_places}
use Rattle.table.proofs.holdings.Table.missing.Goals as goal

-- the first place that a test picks, counted from 1
first_from : (p : Seat → Bool) (f : ℕ → Seat) (i n : ℕ) → option_map (λ k. k + 1) (position_from p i (map f (range_with_len i n))) ≡ first_seat (λ k. p (f k)) (range_with_len i n)
first_from p f i zero = refl
first_from p f i (suc n) = go (p (f i)) _ _ (first_from p f (i + 1) n)
  where
    go : (t : Bool) (x y : Option ℕ) → option_map (λ k. k + 1) x ≡ y → option_map (λ k. k + 1) (cond t (Some i) x) ≡ cond t (Some (i + 1)) y
    go true x y e = refl
    go false x y e = e

first_of_seven : (p : Seat → Bool) (xs : List Seat) → length xs ≡ 7 → option_map (λ k. k + 1) (position p xs) ≡ first_seat (λ k. p (get_or xs k nobody)) every
first_of_seven p xs e = ap (option_map (λ k. k + 1)) (position_from-zero p xs ∙ ap (position_from p 0) (seven_places xs nobody e)) ∙ first_from p (λ k. get_or xs k nobody) 0 7

pub returns : goal.returns
returns g c =
    let t = c.args.self.now in
    let p = due (g.G.Game.rules t.game) in
    let picked : c.position.result ≡ position p t.books.seats = position_from_yields_List p _ _ _ c.position.ensures.ran (YieldsList-from_slice t.books.seats cc) (λ x b q k. search rules) in
    let found : c.position.result ≡ Some c.in_ok-place.place = search rules in
    ap (option_map (λ k. k + 1)) (sym found ∙ picked) ∙ first_of_seven p t.books.seats t.sound.seven
