use Rattle.std.proofs.Common.{◌≡◌, Some, ap, reverse, sym, ◌∙◌}
use Rattle.account_core.specs.Entries.{asked_of}
use Rattle.account_core.specs.Kept.{known_of}
use Rattle.account_core.specs.declared.fault.AccountFault.TheVariants as fault
use Rattle.account_core.proofs.Entering.{never_gated, refusal_response}
use Rattle.account_core.proofs.teller.Teller.admit.Goals as goal

pub returns-in-Some-clause-refused : goal.returns-in-Some-clause-refused
returns-in-Some-clause-refused c = λ ledger is.
    let value = refusal_response ledger c.args.self.now is (asked_of c.args.op) (known_of c.asked_state-call.result) (c.asked_state-call.ensures ledger is) in
    sym value ∙ (sym c.judge.ensures ∙ c.in-Some.is)

pub returns-in-Some-clause-ungated : goal.returns-in-Some-clause-ungated
returns-in-Some-clause-ungated c = λ gated.
    let why : c.in-Some.fault ≡ fault.GateClosed = cc in
    let (ledger, is) = c.requires in
    let value = refusal_response ledger c.args.self.now is (asked_of c.args.op) (known_of c.asked_state-call.result) (c.asked_state-call.ensures ledger is) in
    never_gated ledger.limit (reverse ledger.history) (asked_of c.args.op) (sym value ∙ (sym c.judge.ensures ∙ (c.in-Some.is ∙ ap Some why)))

pub returns-in-None-clause-admitted : goal.returns-in-None-clause-admitted
returns-in-None-clause-admitted c = λ ledger is.
    let known_is = c.asked_state-call.ensures ledger is in
    let value = refusal_response ledger c.args.self.now is (asked_of c.args.op) (known_of c.asked_state-call.result) known_is in
    record { allowed = sym value ∙ (sym c.judge.ensures ∙ c.in-None.is); known_is = known_is }
