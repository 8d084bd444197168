use Rattle.std.proofs.Common.{arith, refl, reverse, sym}
use Rattle.account_core.specs.Entries.{entry_data}
use Rattle.account_core.specs.Kept.{known_of}
use Rattle.account_core.proofs.Entering.{call_entered, owed_enough, placed_known, room_known, teller_entered}
use Rattle.account_core.proofs.teller.Teller.keep_call.Goals as goal

pub after-after-requires-clause-room : goal.after-after-requires-clause-room
after-after-requires-clause-room c =
    let (ledger, is, known_is) = c.requires.of in
    let tallied = is.teller_is.tallied in
    let past = reverse ledger.history in
    let sound = c.legal_pasts_are_sound.ensures.sound ledger.opening ledger.until past tallied.small tallied.legal in
    room_known ledger.opening ledger.until ledger.limit past c.args.call (entry_data c.args.entry) c.requires.of_call
    (known_of c.args.before) known_is is.allowed is.answered (c.legal_pasts_are_sound.ensures.fitting ledger.opening ledger.until past sound)

pub after-after-requires-clause-placed : goal.after-after-requires-clause-placed
after-after-requires-clause-placed c =
    let (ledger, is, known_is) = c.requires.of in
    placed_known ledger.opening ledger.until ledger.limit (reverse ledger.history) c.args.call (entry_data c.args.entry) c.requires.of_call
    (known_of c.args.before) known_is is.allowed is.answered

pub overflow_sub-self : goal.overflow_sub-self
overflow_sub-self c =
    let (ledger, is, known_is) = c.requires.of in
    omega (
      arith,
      c.owed-2.ensures.value (known_of c.args.before) (sym c.stage-2.ensures),
      owed_enough ledger.opening ledger.until ledger.limit (reverse ledger.history) c.args.call (entry_data c.args.entry) c.requires.of_call
          (known_of c.args.before) known_is is.allowed is.answered c.args.self.now.owed is.teller_is.owed_are,
    )

pub returns-clause-ok : goal.returns-clause-ok
returns-clause-ok c = λ ledger is known_is.
    teller_entered ledger c.args.self.now _ c.args.entry is
    (call_entered ledger.opening ledger.until ledger.limit (reverse ledger.history) c.args.call (entry_data c.args.entry) c.requires.of_call
    (known_of c.args.before) known_is is.allowed is.answered
    c.args.self.now _ c.after-after.result c.owed-2.result c.owed.result is.teller_is.tallied.tells c.in_ok-renew.ensures.renewed c.after-after.ensures is.teller_is.owed_are
    (c.owed-2.ensures.value (known_of c.args.before) (sym c.stage-2.ensures)) (c.owed.ensures.value (known_of c.after-after.result) (sym c.stage.ensures)) refl refl c.available-self.ensures refl refl refl)
