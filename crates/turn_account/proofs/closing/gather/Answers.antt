use Rattle.std.proofs.Common.{◌≡◌, ◌∷◌, ◌++◌, [], List, length, map, ap, arith, subst, true, rules}
use Rattle.std.proofs.lemmas.List.{length-map}
use Rattle.account_core.specs.Seats.{are_numbered}
use Rattle.turn_account.specs.TurnViews.{TurnSeatView}
use Rattle.turn_account.specs.declared.board.View.{View}
use Rattle.turn_account.proofs.Ending.{numbered_last}
use Rattle.turn_account.proofs.closing.gather.Goals as goal

pub take_in_all-requires-clause-numbers : goal.take_in_all-requires-clause-numbers
take_in_all-requires-clause-numbers c =
    let all : c.args.seats.items ≡ c.pop.new.self.items ++ c.in-Some.last ∷ [] = search rules in
    (numbered_last (λ (s : TurnSeatView). s.number) c.pop.new.self.items c.in-Some.last
    (subst (λ (seats : List TurnSeatView). are_numbered 0 (map (λ (s : TurnSeatView). s.number) seats) ≡ true) all c.requires.numbers)).0

pub returns-clause-number : goal.returns-clause-number
returns-clause-number c =
    let all : c.args.seats.items ≡ c.pop.new.self.items ++ c.in-Some.last ∷ [] = search rules in
    let last : c.in-Some.last.number ≡ length c.pop.new.self.items =
    (numbered_last (λ (s : TurnSeatView). s.number) c.pop.new.self.items c.in-Some.last
    (subst (λ (seats : List TurnSeatView). are_numbered 0 (map (λ (s : TurnSeatView). s.number) seats) ≡ true) all c.requires.numbers)).1 in
    let inside : c.last.inside.number ≡ c.in-Some.last.number = ap (λ (s : TurnSeatView). s.number) c.last.view_is in
    let number = ap (λ (v : View). v.number) c.take_in_all.ensures.taken in
    let ended = ap (λ (v : View). length v.ended) c.take_in_all.ensures.taken in
    omega (arith, number, ended, c.last.invariant.number, inside, last, length-map c.pop.new.self.items (λ (s : TurnSeatView). s.view))
