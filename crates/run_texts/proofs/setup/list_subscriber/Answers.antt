use Rattle.std.proofs.Common.{◌∙◌, ap, sym}
use Rattle.run_texts.specs.Setups.{account_in_field, party_in_field}
use Rattle.run_texts.proofs.EntryLemmas.{subscriber_listed}
use Rattle.run_texts.proofs.setup.list_subscriber.Goals as goal

pub returns-clause-means : goal.returns-clause-means
returns-clause-means c =
    let digits = c.in_ok-number.ensures ∙ ap party_in_field c.field.ensures in
    let account = c.in_ok-account.ensures ∙ ap account_in_field c.field-2.ensures in
    let subscriber = c.subscriber.ensures in
    rw (c.listed.ensures, ← digits, ← account, sym c.is_blank.ensures ∙ c.if-not-is_blank.false)
    (subscriber_listed c.args.directory.now c.subscriber.new.self c.in_ok-number.number c.in_ok-account.account c.subscriber.result subscriber.made subscriber.listed subscriber.fault)
