-- The kinds of command, by the byte with which each begins.
use Rattle.std.specs.Prelude.{◌≡◌, ℕ, Ok, Err, Result}
use Rattle.refusals.specs.declared.Cause.{Cause}
use Rattle.refusals.specs.declared.Cause.TheVariants.{UnknownByte}
use Rattle.sheet.specs.declared.opcode.Opcode.{Opcode}
use Rattle.sheet.specs.declared.opcode.Opcode.TheVariants.{Open, Buy, Cash, Fill, Draw, Bet, Deal, Raise, Leave, Settle, Void}
use Rattle.sheet.specs.Format.{width}

-- the byte with which a command of this kind begins
abbrev pub first_byte : Opcode → ℕ
first_byte Open = 0x54
first_byte Buy = 0x49
first_byte Cash = 0x43
first_byte Fill = 0x46
first_byte Draw = 0x57
first_byte Bet = 0x42
first_byte Deal = 0x44
first_byte Raise = 0x52
first_byte Leave = 0x4C
first_byte Settle = 0x53
first_byte Void = 0x56

-- the kind of the commands that begin with a byte; no command begins with another
abbrev pub Decodes : ℕ → Result Opcode Cause → Type 0
Decodes first (Ok opcode) = first ≡ first_byte opcode
Decodes first (Err e) = (width first ≡ 0) × (e ≡ UnknownByte)
