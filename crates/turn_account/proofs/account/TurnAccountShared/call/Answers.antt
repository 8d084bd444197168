use Rattle.std.proofs.Common.{sym, ◌∙◌}
use Rattle.account_core.proofs.Beginnings.{begins_further}
use Rattle.account_core.specs.Entries.{asked_of}
use Rattle.turn_account.proofs.Calls.{ends_kindly}
use Rattle.account_core.specs.Ledger.{entry_by}
use Rattle.turn_account.specs.TurnViews.{own_of}
use Rattle.turn_account.proofs.Seeing.{owed_alone}
use Rattle.turn_account.proofs.Returning.{returned_by}
use Rattle.turn_account.proofs.account.TurnAccountShared.call.Goals as goal

pub returns-clause-kind : goal.returns-clause-kind
returns-clause-kind g c = ends_kindly _ _ _ _ _ (asked_of c.args.op) c.call.result c.call.ensures.legal c.call.ensures.ends

pub returns-clause-returning : goal.returns-clause-returning
returns-clause-returning g c return is_owed = returned_by c.call.new.seat.view (asked_of c.args.op) c.call.result c.call.ensures.refused c.call.ensures.owed return

pub returns-clause-owed : goal.returns-clause-owed
returns-clause-owed g c alone closes =
    owed_alone c.call.new.seat (own_of c.args.seat.now) (entry_by c.args.seat.now.number (asked_of c.args.op)) (asked_of c.args.op) c.call.result c.call.ensures.own c.call.ensures.owed alone closes

pub returns-clause-was : goal.returns-clause-was
returns-clause-was g c mine refusal was =
    let same = c.call.ensures.same in
    record {
      opening = was.opening ∙ sym same.opening;
      until = was.until ∙ sym same.until;
      limit = was.limit ∙ sym same.limit;
      begins = begins_further refusal.account.history c.args.seat.now.view.history c.call.new.seat.view.history was.begins c.call.ensures.begins;
      own = rw same.number was.own;
    }
