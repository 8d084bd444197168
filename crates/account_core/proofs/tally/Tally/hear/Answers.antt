use Rattle.std.proofs.Common.{◌≡◌, ◌≢◌, ◌∙◌, ◌∷◌, false, not, rules, subst, sym, true}
use Rattle.account_core.specs.contracts.entry.ReplyPartialEq.TheImpl as compared
use Rattle.account_core.specs.declared.entry.Reply.{Reply}
use Rattle.account_core.specs.declared.tally.Tally.{Tally}
use Rattle.account_core.specs.Entries.{entry_data}
use Rattle.account_core.specs.Tallied.{IsTallied}
use Rattle.account_core.proofs.Tallying.{funds_more, refused_response, replied_response, response_legal, response_money, response_room, state_sound, tallied_more, tells_after}
use Rattle.account_core.proofs.tally.Tally.hear.Goals as goal

-- what comparing two replies says of them

same_reply : (right reply : Reply) → not (compared.ghosts.eq right reply) ≡ false → right ≡ reply
same_reply right reply same = search rules

other_reply : (right reply : Reply) → not (compared.ghosts.eq right reply) ≡ true → right ≢ reply
other_reply right reply other = search rules

pub reply-right-requires-clause-sound : goal.reply-right-requires-clause-sound
reply-right-requires-clause-sound c =
    let (opening, until, h, tallied) = c.requires in
    state_sound opening until h c.args.self.now (entry_data c.args.entry) c.call-call.result c.call-call.ensures c.state-state.result c.state-state.ensures tallied
    c.legal_pasts_are_sound.ensures.sound

pub reply-right-requires-clause-money : goal.reply-right-requires-clause-money
reply-right-requires-clause-money c =
    let (opening, until, h, tallied) = c.requires in
    response_money opening until h c.args.self.now (entry_data c.args.entry) c.call-call.result c.call-call.ensures c.state-state.result c.state-state.ensures tallied
    c.legal_pasts_are_sound.ensures.sound

pub returns-in-Some-clause-wrong : goal.returns-in-Some-clause-wrong
returns-in-Some-clause-wrong c = λ opening until h tallied.
    refused_response opening until h c.args.self.now (entry_data c.args.entry) c.call-call.result c.call-call.ensures c.state-state.result c.state-state.ensures tallied
    c.in-Some.fault (sym c.inadmissible.ensures ∙ c.in-Some.is)

pub returns-then-ne-clause-wrong : goal.returns-then-ne-clause-wrong
returns-then-ne-clause-wrong c = λ opening until h tallied.
    let none = sym c.inadmissible.ensures ∙ c.in_default.is in
    let other = other_reply c.reply-right.result c.args.entry.reply (sym c.ne.ensures ∙ c.if-ne.true) in
    replied_response opening until h c.args.self.now (entry_data c.args.entry) c.call-call.result c.call-call.ensures c.state-state.result c.state-state.ensures tallied
    c.legal_pasts_are_sound.ensures.sound c.legal_pasts_are_sound.ensures.fitting none c.reply-right.result c.reply-right.ensures other

pub after-requires-clause-room : goal.after-requires-clause-room
after-requires-clause-room c =
    let (opening, until, h, tallied) = c.requires in
    let none = sym c.inadmissible.ensures ∙ c.in_default.is in
    let same = same_reply c.reply-right.result c.args.entry.reply (sym c.ne.ensures ∙ c.if-ne.false) in
    rw same
    (response_room opening until h c.args.self.now (entry_data c.args.entry) c.call-call.result c.call-call.ensures c.state-state.result c.state-state.ensures tallied
    c.legal_pasts_are_sound.ensures.sound c.legal_pasts_are_sound.ensures.fitting
    (response_legal opening until h c.args.self.now (entry_data c.args.entry) c.call-call.result c.call-call.ensures c.state-state.result c.state-state.ensures tallied
    c.legal_pasts_are_sound.ensures.sound c.legal_pasts_are_sound.ensures.fitting none c.reply-right.result c.reply-right.ensures same))

pub count-requires : goal.count-requires
count-requires c =
    let (opening, until, h, tallied) = c.requires in
    let none = sym c.inadmissible.ensures ∙ c.in_default.is in
    let same = same_reply c.reply-right.result c.args.entry.reply (sym c.ne.ensures ∙ c.if-ne.false) in
    funds_more opening until h c.args.self.now (entry_data c.args.entry) tallied
    (response_legal opening until h c.args.self.now (entry_data c.args.entry) c.call-call.result c.call-call.ensures c.state-state.result c.state-state.ensures tallied
    c.legal_pasts_are_sound.ensures.sound c.legal_pasts_are_sound.ensures.fitting none c.reply-right.result c.reply-right.ensures same)
    c.legal_pasts_are_sound.ensures.sound

pub returns-clause-legal : goal.returns-clause-legal
returns-clause-legal c = λ none opening until h tallied.
    let none = sym c.inadmissible.ensures ∙ c.in_default.is in
    let same = same_reply c.reply-right.result c.args.entry.reply (sym c.ne.ensures ∙ c.if-ne.false) in
    let answered =
    response_legal opening until h c.args.self.now (entry_data c.args.entry) c.call-call.result c.call-call.ensures c.state-state.result c.state-state.ensures tallied
    c.legal_pasts_are_sound.ensures.sound c.legal_pasts_are_sound.ensures.fitting none c.reply-right.result c.reply-right.ensures same in
    let tells =
    tells_after opening until h c.args.self.now (entry_data c.args.entry) c.call-call.result c.call-call.ensures c.state-state.result c.state-state.ensures tallied
    c.renew.new.self c.after.result c.in_ok-renew.ensures.renewed (rw same at c.after.ensures) in
    let P : Tally → Type 0 = IsTallied opening until (entry_data c.args.entry ∷ h) in
    subst P (sym c.count.ensures) (tallied_more opening until h c.args.self.now (entry_data c.args.entry) tallied answered c.renew.new.self tells)
