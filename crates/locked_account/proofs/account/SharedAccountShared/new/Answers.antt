use Rattle.std.proofs.Common.{◌≡◌, [], List, map, true, refl, sym, ap, subst}
use Rattle.std.proofs.lemmas.List.Elements.{All-same}
use Rattle.std.proofs.lemmas.Result.{IfOk-weaker}
use Rattle.account_core.specs.Seats.{are_all}
use Rattle.locked_account.specs.Seats.{SeatView}
use Rattle.locked_account.proofs.Numbering.{both_ok, fresh_are_all, fresh_each}
use Rattle.locked_account.proofs.account.SharedAccountShared.new.Goals as goal

pub returns-clause-keys : goal.returns-clause-keys
returns-clause-keys c =
    both_ok c.new.result _ _ _
    (λ made is items. All-same (λ seat. seat.account ≡ made.0.number) made.1.items _ items
    (fresh_each (λ seat. seat.account ≡ made.0.number) c.args.number (λ seat. sym (ap (λ t. t.number) is)) c.args.seats))
    c.new.ensures.terms c.new.ensures.seats

pub returns-clause-numbers : goal.returns-clause-numbers
returns-clause-numbers c =
    let P : List SeatView → Type 0 = λ places. are_all c.args.seats (map (λ place. place.number) places) ≡ true in
    IfOk-weaker c.new.result _ _ (λ made items. subst P (sym items) (fresh_are_all c.args.number c.args.seats)) c.new.ensures.seats

pub returns-clause-empty : goal.returns-clause-empty
returns-clause-empty c =
    IfOk-weaker c.new.result _ _
    (λ made items. All-same (λ seat. seat.mine ≡ []) made.1.items _ items (fresh_each (λ seat. seat.mine ≡ []) c.args.number (λ seat. refl) c.args.seats))
    c.new.ensures.seats
