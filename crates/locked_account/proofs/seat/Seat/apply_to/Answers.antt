use Rattle.std.proofs.Common.{◌≡◌, reverse, rules}
use Rattle.std.proofs.lemmas.Result.{IfOk-weaker}
use Rattle.std.specs.Prelude.{IfErr, IfOk, IsOk}
use Rattle.account_core.specs.Entries.{asked_of}
use Rattle.account_core.specs.Ledger.{IsRefusal, answer_of}
use Rattle.account_core.specs.Places.{IsOwed}
use Rattle.account_core.proofs.Owning.{owed_alike}
use Rattle.locked_account.proofs.Returning.{fits_of, returning_of}
use Rattle.locked_account.proofs.seat.Seat.apply_to.Goals as goal

pub returns-in-Credit-clause-kind : goal.returns-in-Credit-clause-kind
returns-in-Credit-clause-kind c =
    let answered : IfOk c.apply_credit.result (λ reply. reply ≡ answer_of c.args.account.now (asked_of c.args.op)) = search rules in
    IfOk-weaker c.apply_credit.result _ _ (fits_of c.args.account.now (asked_of c.args.op)) answered

pub returns-in-Reserve-clause-kind : goal.returns-in-Reserve-clause-kind
returns-in-Reserve-clause-kind c =
    let answered : IfOk c.apply_of_call.result (λ reply. reply ≡ answer_of c.args.account.now (asked_of c.args.op)) = search rules in
    IfOk-weaker c.apply_of_call.result _ _ (fits_of c.args.account.now (asked_of c.args.op)) answered

pub returns-in-Reserve-clause-returning : goal.returns-in-Reserve-clause-returning
returns-in-Reserve-clause-returning c =
    let refused : IfErr c.apply_of_call.result (IsRefusal c.args.account.now (asked_of c.args.op)) = search rules in
    let is_owed : IsOwed (reverse c.args.account.now.history) (asked_of c.args.op) → IsOwed (reverse c.args.self.now.mine) (asked_of c.args.op)
    → IsOk c.apply_of_call.result = search rules in
    returning_of c.args.account.now c.args.self.now.mine (asked_of c.args.op) c.apply_of_call.result refused is_owed

pub returns-in-Reserve-clause-own : goal.returns-in-Reserve-clause-own
returns-in-Reserve-clause-own c is_owed same =
    let both : IsOwed (reverse c.args.account.now.history) (asked_of c.args.op) → IsOwed (reverse c.args.self.now.mine) (asked_of c.args.op)
    → IsOk c.apply_of_call.result = search rules in
    both is_owed (owed_alike c.args.account.now.history c.args.self.now.mine (asked_of c.args.op) is_owed same)
