use Rattle.std.proofs.Common.{sym, ap, ◌∙◌, Option, ℕ}
use Rattle.std.specs.Option.{option_or}
use Rattle.run_outputs.proofs.ListedAccounts.{payer_next}
use Rattle.run_outputs.specs.Parts.{payer_by}
use Rattle.run_texts.specs.Views.{row_data, with_digits}
use Rattle.run_outputs.proofs.payers.payers_in.Goals as goal

pub loop-row-preserved : goal.loop-row-preserved
loop-row-preserved c =
    let subscribers = with_digits c.args.setup.now.subscribers in
    λ call.
    c.in_ok-note.ensures call
    ∙ ap (λ (known : Option ℕ). option_or known (payer_by subscribers call (row_data c.row-item.result).what)) (c.loop-row.invariant call)
    ∙ sym (payer_next subscribers c.args.script.now c.loop-row.row-index c.row-item.result call c.loop-row-test.true c.row-item.is)
