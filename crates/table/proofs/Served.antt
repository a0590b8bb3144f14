-- A seat served is a seat settled, and so is one that does not stake once its choice is ended.
use Rattle.std.proofs.Common.{◌≡◌, ℕ, ◌+◌, ◌-◌, ◌<◌, false, set, sum, sym, ap, subst, arith}
use Rattle.game.specs.Rules.{Rules, Facts}
use Rattle.books.specs.declared.stage.Round.{Round}
use Rattle.books.specs.declared.stage.Stage.TheVariants.{Dealt}
use Rattle.books.specs.declared.table_books.Books.{Books}
use Rattle.books.specs.Books.{seat_at, laid, unchosen, with_seat}
use Rattle.table.specs.Effects.{return_to}
use Rattle.table.specs.Holdings.{does_stake}
use Rattle.table.specs.Soundness.{Sound}
use Rattle.table.specs.Steps.{settle_seat, May}
use Rattle.table.proofs.Keep.{settle_sound, idle_nothing, idle_laid, idle_cleared}

module _ (R : Rules) (facts : Facts R) (b : Books) (k : ℕ) (s : Sound R b) (lt : k < 7) (r : Round) (dealt : b.stage ≡ Dealt r) where
  pub settled_sound : May R (seat_at b k) → (b' : Books) → b' ≡ settle_seat R r b k → Sound R b'
  settled_sound may b' e = subst (Sound R) (sym e) (settle_sound R facts b r s dealt k lt may)

  -- a seat that does not stake is settled by ending its choice
  pub idle_settled : May R (seat_at b k) → does_stake (seat_at b k) ≡ false → with_seat b k (unchosen (seat_at b k)) ≡ settle_seat R r b k
  idle_settled may idle =
      let v = seat_at b k in
      let nothing = idle_nothing R facts b r k s dealt lt may idle in
      let none = idle_laid R facts v (s.seats k lt) idle in
      let same_tray : b.tray ≡ b.tray + laid v - return_to R r k v = omega (arith, nothing, none.1, ap sum none.0) in
      let same_rack : v.rack ≡ v.rack + return_to R r k v = omega (arith, nothing) in
      λ i. record { tray = same_tray i; seats = set b.seats k (idle_cleared R facts v (s.seats k lt) idle (v.rack + return_to R r k v) same_rack i); stage = b.stage; rounds = b.rounds; minimum = b.minimum; maximum = b.maximum }
