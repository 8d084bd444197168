use Rattle.std.proofs.Common.{◌≡◌, [], Err, Ok, Result, ap, append-nil, sym, ◌∙◌}
use Rattle.std.proofs.lemmas.Result.{IfOk-weaker}
use Rattle.std.specs.Prelude.{OnErr}
use Rattle.script_player.specs.Networks.{Grows, Shown}
use Rattle.script_player.specs.Posts.{recharges_in}
use Rattle.script_player.proofs.DueRows.{row_met}
use Rattle.script_player.proofs.player.take_row.Goals as goal

-- where a call fails that gives nothing, what was given doesn't change
grows_not : {T E : Type 0} (result : Result T E) (before after : Shown) → after.config ≡ before.config → after.given ≡ before.given → OnErr result (Grows before after)
grows_not (Ok value) before after config given = tt
grows_not (Err error) before after config given = record {
  same_config = config;
  added = [];
  grown = given ∙ sym (append-nil before.given);
  same_recharges = ap recharges_in given;
  none_begins = λ call none. rw given none;
}

pub returns-in-Meets-clause-plays : goal.returns-in-Meets-clause-plays
returns-in-Meets-clause-plays c =
    IfOk-weaker c.give.result _ _ (λ fault gives. row_met c.args.network.now c.give.new.self c.args.row c.in-Meets.call c.in-Meets.event fault c.in-Meets.is gives) c.give.ensures.gives

pub returns-in_err-start-in-Start-clause-failed : goal.returns-in_err-start-in-Start-clause-failed
returns-in_err-start-in-Start-clause-failed c =
    grows_not c.from_residual.result c.args.network.now c.start.new.self c.in_err-start-in-Start.ensures.config c.in_err-start-in-Start.ensures.unchanged

pub returns-in_err-recharge-in-Recharge-clause-failed : goal.returns-in_err-recharge-in-Recharge-clause-failed
returns-in_err-recharge-in-Recharge-clause-failed c =
    grows_not c.from_residual-in_err-recharge-in-Recharge.result c.args.network.now c.recharge.new.self c.in_err-recharge-in-Recharge.ensures.config (ap (λ (shown : Shown). shown.given) c.in_err-recharge-in-Recharge.ensures.unchanged)
