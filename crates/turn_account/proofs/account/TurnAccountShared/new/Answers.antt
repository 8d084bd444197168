use Rattle.std.proofs.Common.{◌≡◌, [], List, map, refl, sym, subst, true}
use Rattle.std.proofs.lemmas.List.Elements.{All-same}
use Rattle.std.proofs.lemmas.Result.{IfOk-weaker}
use Rattle.account_core.specs.Seats.{are_all}
use Rattle.turn_account.specs.TurnViews.{TurnSeatView, own_of, unused}
use Rattle.turn_account.proofs.Seated.{sights_are_all, sights_each}
use Rattle.turn_account.proofs.account.TurnAccountShared.new.Goals as goal

pub returns-clause-keys : goal.returns-clause-keys
returns-clause-keys c =
    IfOk-weaker c.new.result _ _
    (λ made items. All-same (λ (s : TurnSeatView). s.table ≡ made.0.table) made.1.items _ items
    (sights_each made.0.table (unused made.0.terms) (λ s. s.table ≡ made.0.table) (λ seat. refl) c.args.seats)) c.new.ensures.seats

pub returns-clause-numbers : goal.returns-clause-numbers
returns-clause-numbers c =
    let P : List TurnSeatView → Type 0 = λ seats. are_all c.args.seats (map (λ (s : TurnSeatView). s.number) seats) ≡ true in
    IfOk-weaker c.new.result _ _ (λ made items. subst P (sym items) (sights_are_all made.0.table (unused made.0.terms) c.args.seats)) c.new.ensures.seats

pub returns-clause-empty : goal.returns-clause-empty
returns-clause-empty c =
    IfOk-weaker c.new.result _ _
    (λ made items. All-same (λ (s : TurnSeatView). own_of s ≡ []) made.1.items _ items
    (sights_each made.0.table (unused made.0.terms) (λ s. own_of s ≡ []) (λ seat. refl) c.args.seats)) c.new.ensures.seats
