use Rattle.std.proofs.Common.{arith, ◌+◌, reverse, subst, sym}
use Rattle.account_core.specs.Entries.{asked_of, entry_data}
use Rattle.account_core.specs.Tellers.{IsTellerOf, entered}
use Rattle.account_core.specs.declared.tally.Tally.{Tally}
use Rattle.account_core.proofs.Entering.{answered_by, credit_entered, funds_fit, teller_entered}
use Rattle.account_core.proofs.teller.Teller.keep_credit.Goals as goal

pub count-requires : goal.count-requires
count-requires c =
    let (ledger, is) = c.requires.of in
    let tallied = is.teller_is.tallied in
    let past = reverse ledger.history in
    omega (
      arith,
      tallied.funds_are,
      funds_fit ledger.opening ledger.until past (entry_data c.args.entry.now) (c.legal_pasts_are_sound.ensures.sound ledger.opening ledger.until past tallied.small tallied.legal)
          (answered_by ledger (asked_of c.args.entry.now.op) c.args.entry.now.reply c.args.entry.now.seat is.allowed is.answered),
    )

pub returns : goal.returns
returns c = λ ledger is.
    let P : Tally → Type 0 = λ tally. IsTellerOf (entered ledger (entry_data c.args.entry.now)) (record c.args.self.now { tally = tally; entries = c.args.self.now.entries + 1 }) in
    subst P (sym c.count.ensures)
    (teller_entered ledger c.args.self.now _ c.args.entry.now is
    (credit_entered (reverse ledger.history) (entry_data c.args.entry.now) c.args.self.now c.requires.credit is.teller_is.tallied.tells is.teller_is.owed_are))
