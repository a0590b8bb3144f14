-- The two sides.
use Rattle.std.specs.Prelude.{Bool, true, false}
use Rattle.makccarat.specs.declared.side.Side.{Side}
use Rattle.makccarat.specs.declared.side.Side.TheVariants.{Player, Banker}

-- the side across
abbrev pub other : Side → Side
other Player = Banker
other Banker = Player

-- whether two sides are one
abbrev pub same : Side → Side → Bool
same Player Player = true
same Player Banker = false
same Banker Player = false
same Banker Banker = true
