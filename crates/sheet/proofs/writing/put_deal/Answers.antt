-- The filler is what is left of forty zeros.
use Rattle.std.proofs.Common.{◌≡◌, ℕ, ◌-◌, List, [], ◌∷◌, ◌++◌, length, take, drop, replicate, ap, ◌∙◌, append-nil}
use Rattle.std.proofs.lemmas.List.{drop-replicate, take_rest}
use Rattle.sheet.specs.Writing.{buffer_after}
use Rattle.sheet.proofs.writing.put_deal.Goals as goal

pub returns-clause-buffer : goal.returns-clause-buffer
returns-clause-buffer c =
    let b = c.put.ensures.buffer in
    let cards = c.args.cards.now in
    let n = length cards in
    let zeros : List ℕ = replicate 40 0 in
    let filler : take (40 - n) (drop n zeros) ++ [] ≡ replicate (40 - n) 0 = append-nil (take (40 - n) (drop n zeros)) ∙ take_rest zeros n ∙ drop-replicate n 40 0 in
    c.put.ensures.buffer ∙ ap (λ t. buffer_after c.put.result c.args.out.now c.args.at (68 ∷ n ∷ (cards ++ t))) filler
