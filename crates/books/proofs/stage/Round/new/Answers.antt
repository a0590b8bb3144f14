-- The cards are copied over the first of forty zeros.
use Rattle.std.proofs.Common.{◌≡◌, ℕ, ◌-◌, ◌≤◌, List, ◌++◌, length, drop, replicate, refl, ap, ◌∙◌, sym, subst, arith, length-append, take_at}
use Rattle.std.proofs.lemmas.List.{drop-replicate}
use Rattle.game.specs.Rules.{Deal, deal_of}
use Rattle.books.specs.Rounds.{kept, IsKept}
use Rattle.books.proofs.stage.Round.new.Goals as goal

-- where forty bytes keep a deal of at most forty cards, they hold it
kept_whole : (d : Deal) → length d.cards ≤ 40 → IsKept (kept d)
kept_whole d few =
    let zeros : List ℕ = replicate (40 - length d.cards) 0 in
    record { fits = omega (arith, length-append d.cards zeros); zeros = ap (λ cards. cards ++ zeros) (take_at d.cards zeros (length d.cards) refl) }

pub invariant_of-result : goal.invariant_of-result
invariant_of-result c =
    let d = deal_of c.args.deal.now in
    let n = length d.cards in
    let zeros : List ℕ = replicate 40 0 in
    let count : n - 0 ≡ n = omega arith in
    let rest : drop (n - 0) zeros ≡ replicate (40 - n) 0 = ap (λ k. drop k zeros) count ∙ drop-replicate n 40 0 in
    subst IsKept (λ i. record { staking = d.staking; bytes = sym c.copy_from_slice.ensures.after i ++ sym rest i; count = n }) (kept_whole d c.requires.few)
