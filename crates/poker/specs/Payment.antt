-- What a stake brings by the seat's choice.
use Rattle.std.specs.Prelude.{ℕ}
use Rattle.game.specs.declared.choice.Choice.{Choice}
use Rattle.game.specs.declared.choice.Choice.TheVariants.{Open, Raised, Left}

-- what is brought only to a seat that raised
abbrev pub if_raised : Choice → ℕ → ℕ
if_raised Open amount = 0
if_raised Raised amount = amount
if_raised Left amount = 0

-- what is brought to every seat but one that left
abbrev pub unless_left : Choice → ℕ → ℕ
unless_left Open amount = amount
unless_left Raised amount = amount
unless_left Left amount = 0
