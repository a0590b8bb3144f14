-- The side with the lower final total: what is staked on it brings nothing.
use Rattle.std.proofs.Common.{slice_index, ◌≡◌, ◌≢◌, ℕ, ◌<◌, set, Some, arith}
use Rattle.std.proofs.lemmas.List.{get_or-set_other}
use Rattle.makccarat.specs.declared.posted.Makccarat.{Makccarat}
use Rattle.makccarat.specs.declared.side.Side.TheVariants.{Player, Banker}
use Rattle.makccarat.specs.Round.{higher, winner, final_total}
use Rattle.makccarat.specs.Payment.{rules_of}
use Rattle.makccarat.specs.Laws.{LowerBringsNothing}

banker_wins : (player banker : ℕ) → player < banker → higher player banker ≡ Some Banker
banker_wins player banker h = grind arith

player_wins : (player banker : ℕ) → banker < player → higher player banker ≡ Some Player
player_wins player banker h = grind arith

pub lower_brings_nothing : (g : Makccarat) → LowerBringsNothing g.way (rules_of g)
lower_brings_nothing g Player seat stakes c d lower =
    let wins : winner g.way d.cards ≡ Some Banker = banker_wins (final_total g.way d.cards Player) (final_total g.way d.cards Banker) lower in
    let others : (i : ℕ) → i ≢ 0 → slice_index (set stakes 0 0) i ≡ slice_index stakes i = λ i h. get_or-set_other stakes 0 i 0 0 h in
    rw (wins, others 1 (omega arith), others 3 (omega arith), others 4 (omega arith))
lower_brings_nothing g Banker seat stakes c d lower =
    let wins : winner g.way d.cards ≡ Some Player = player_wins (final_total g.way d.cards Player) (final_total g.way d.cards Banker) lower in
    let others : (i : ℕ) → i ≢ 1 → slice_index (set stakes 1 0) i ≡ slice_index stakes i = λ i h. get_or-set_other stakes 1 i 0 0 h in
    rw (wins, others 0 (omega arith), others 3 (omega arith), others 4 (omega arith))
