-- The call that a command makes, with its arguments as plain values: of a deal the cards themselves, wherever they were read.
use Rattle.std.specs.Prelude.{List, ℕ, codes}
use Rattle.commands.specs.declared.Conditions.{Conditions}
use Rattle.commands.specs.declared.Command.{Command}
use Rattle.commands.specs.declared.Command.TheVariants.{Open as open_command, Buy as buy_command, Cash as cash_command, Fill as fill_command, Draw as draw_command, Bet as bet_command, Deal as deal_command, Raise as raise_command, Leave as leave_command, Settle as settle_command, Void as void_command}

pub data Call : Type 0 where
  Open : Conditions → ℕ → Call
  Buy : ℕ → ℕ → Call
  Cash : ℕ → ℕ → Call
  Fill : ℕ → Call
  Draw : ℕ → Call
  Bet : ℕ → ℕ → ℕ → Call
  Deal : List ℕ → Call
  Raise : ℕ → Call
  Leave : ℕ → Call
  Settle : Call
  Void : Call

abbrev pub call_of : Command → Call
call_of (open_command conditions tray) = Open conditions tray
call_of (buy_command seat amount) = Buy seat amount
call_of (cash_command seat amount) = Cash seat amount
call_of (fill_command amount) = Fill amount
call_of (draw_command amount) = Draw amount
call_of (bet_command seat space amount) = Bet seat space amount
call_of (deal_command cards) = Deal cards.now
call_of (raise_command seat) = Raise seat
call_of (leave_command seat) = Leave seat
call_of settle_command = Settle
call_of void_command = Void

-- the seat that a call names, as handed in; 0 where it names none
abbrev pub seat_named : Call → ℕ
seat_named (Open conditions tray) = 0
seat_named (Buy seat amount) = seat
seat_named (Cash seat amount) = seat
seat_named (Fill amount) = 0
seat_named (Draw amount) = 0
seat_named (Bet seat space amount) = seat
seat_named (Deal cards) = 0
seat_named (Raise seat) = seat
seat_named (Leave seat) = seat
seat_named Settle = 0
seat_named Void = 0

-- the word for a call
abbrev pub name_of : Call → List ℕ
name_of (Open conditions tray) = codes "Open"
name_of (Buy seat amount) = codes "Buy"
name_of (Cash seat amount) = codes "Cash"
name_of (Fill amount) = codes "Fill"
name_of (Draw amount) = codes "Draw"
name_of (Bet seat space amount) = codes "Bet"
name_of (Deal cards) = codes "Deal"
name_of (Raise seat) = codes "Raise"
name_of (Leave seat) = codes "Leave"
name_of Settle = codes "Settle"
name_of Void = codes "Void"
