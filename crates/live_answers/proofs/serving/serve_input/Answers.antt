use Rattle.std.proofs.Common.{[], refl, ap, ◌∙◌}
use Rattle.std.specs.Prelude.{option_map}
use Rattle.run_values.specs.Logs.{log_wish_of}
use Rattle.run_values.specs.Options.{live_ask_of}
use Rattle.table_core.proofs.Known.{at_known, if_known}
use Rattle.live_answers.proofs.ServeLemmas.{log_refused, serves}
use Rattle.live_answers.specs.Inputs.{live_input_of}
use Rattle.live_answers.proofs.serving.serve_input.Goals as goal

pub returns-in_default-clause-serves : goal.returns-in_default-clause-serves
returns-in_default-clause-serves g c = if_known (g.I.Read.remaining c.args.input) _ (λ text known.
    let from = ap g.I.Read.remaining c.new-input.ensures ∙ known in
    let (said, left, is, of) = at_known _ _ text from c.in_ok-setup.ensures.reads in
    let behind = ap g.I.Read.remaining c.into_parts-input.ensures ∙ left in
    serves (live_ask_of c.args.options.now) (option_map log_wish_of c.args.log) (live_input_of text) said
    c.in_ok-setup.setup [] (record { messages = 0; quiet = 0 }) _ _ c.serve_rows.result is of
    (rw c.in_default.is (refl, refl))
    (at_known _ _ _ behind c.serve_rows.ensures.ends))

pub returns-in_err-file-clause-serves : goal.returns-in_err-file-clause-serves
returns-in_err-file-clause-serves g c = if_known (g.I.Read.remaining c.args.input) _ (λ text known.
    let from = ap g.I.Read.remaining c.new-input.ensures ∙ known in
    let (said, left, is, of) = at_known _ _ text from c.in_ok-setup.ensures.reads in
    log_refused _ _ _ _ said
    c.from_residual-in_err-file.result c.in_err-file.field-0.0 c.from_residual-in_err-file.ensures.1 c.in_err-file.ensures.fault is (rw c.in-Some.is refl))

pub returns-clause-serves : goal.returns-clause-serves
returns-clause-serves g c = if_known (g.I.Read.remaining c.args.input) _ (λ text known.
    let from = ap g.I.Read.remaining c.new-input.ensures ∙ known in
    let (said, left, is, of) = at_known _ _ text from c.in_ok-setup.ensures.reads in
    let behind = ap g.I.Read.remaining c.into_parts-input.ensures ∙ left in
    let chained = rw behind at c.chain.ensures.bytes in
    serves (live_ask_of c.args.options.now) (option_map log_wish_of c.args.log) (live_input_of text) said
    c.in_ok-setup.setup c.as_slice-lines.result.now c.in_ok-file.replay _ _ c.serve_rows-2.result is of
    (rw (c.in-Some.is, c.as_slice-lines.ensures.value) c.in_ok-file.ensures.hears)
    (at_known _ _ _ chained c.serve_rows-2.ensures.ends))
