use Rattle.std.proofs.Common.{refl, reverse, ◌∙◌}
use Rattle.account_core.specs.Asked.{call_of}
use Rattle.account_core.specs.Entries.{asked_of}
use Rattle.account_core.specs.Kept.{known_of}
use Rattle.account_core.specs.Known.{known}
use Rattle.account_core.proofs.Answering.{funds_kept, reply_is_answer}
use Rattle.account_core.proofs.Asking.{money_asked, replied_asked, sound_asked}
use Rattle.account_core.proofs.Entering.{admitted}
use Rattle.account_core.proofs.Verdicts.{in_place}
use Rattle.account_core.proofs.teller.Teller.reply_to.Goals as goal

pub reply-requires : goal.reply-requires
reply-requires c =
    let (ledger, admits) = c.requires in
    let tallied = admits.teller_is.tallied in
    let past = reverse ledger.history in
    let asked = asked_of c.args.admitted.now.op in
    let sound = c.legal_pasts_are_sound.ensures.sound ledger.opening ledger.until past tallied.small tallied.legal in
    record {
      sound = sound_asked past asked (known_of c.args.admitted.now.call) admits.admitted_is.known_is ledger.opening sound;
      money = money_asked past asked (known_of c.args.admitted.now.call) admits.admitted_is.known_is ledger.opening c.args.self.now.tally.available sound tallied.credit_is;
      capped = funds_kept ledger.opening past sound c.args.self.now.tally.funds tallied.funds_are;
      ranged = (in_place past asked (admitted ledger.limit past asked admits.admitted_is.allowed).0).0;
    }

pub returns : goal.returns
returns c = λ ledger admits.
    let tallied = admits.teller_is.tallied in
    let past = reverse ledger.history in
    let asked = asked_of c.args.admitted.now.op in
    let tally = c.args.self.now.tally in
    let sound = c.legal_pasts_are_sound.ensures.sound ledger.opening ledger.until past tallied.small tallied.legal in
    reply_is_answer ledger.opening ledger.until past sound (c.legal_pasts_are_sound.ensures.fitting ledger.opening ledger.until past sound) asked
    (known (call_of asked) past) refl tally.available tally.funds tally.last_moment tallied.credit_is tallied.funds_are tallied.last_is
    (admitted ledger.limit past asked admits.admitted_is.allowed).0 c.reply.result
    (c.reply.ensures ∙ replied_asked past asked (known_of c.args.admitted.now.call) admits.admitted_is.known_is tally.available tally.funds tally.last_moment)
