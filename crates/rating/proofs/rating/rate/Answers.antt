use Rattle.std.proofs.Common.{inl, refl}
use Rattle.std.proofs.lemmas.Result.{IfOk-from_err}
use Rattle.std.specs.Io.Buffered.{reader_remaining}
use Rattle.std.proofs.KnownBytes.{Keeps-refl}
use Rattle.run_texts.specs.FirstSections.{first_section}
use Rattle.run_texts.specs.Inputs.{tariff_in}
use Rattle.table_core.proofs.Known.{at_known, if_known}
use Rattle.rating.specs.SaidOf.{wished_names}
use Rattle.rating.specs.Texts.{rate_input_of}
use Rattle.rating.proofs.RateLemmas.{ends_silent, refused_ends}
use Rattle.rating.proofs.rating.rate.Goals as goal

pub returns-in_default-clause-ends : goal.returns-in_default-clause-ends
returns-in_default-clause-ends g c = if_known (g.I.Read.remaining c.args.input) _ (λ text known. inl (Keeps-refl (g.O.Write.contents c.args.output.now)))

pub returns-in_err-text-clause-ends : goal.returns-in_err-text-clause-ends
returns-in_err-text-clause-ends g c = if_known (g.I.Read.remaining c.args.input) _ (λ text known.
    let new = c.in-Ok.ensures in
    let refused = at_known (reader_remaining g.I.Read.remaining c.in-Ok.input) _ text (rw (new.capacity, new.empty, new.inner, known) refl) c.in_err-text.ensures in
    refused_ends c.args.ask.now.differing (rate_input_of (wished_names c.args.ask.now.names) text) (first_section text) (g.O.Write.contents c.args.output.now)
    c.from_residual.result c.in_err-text.field-0.0 c.from_residual.ensures.1 refused (λ is. rw is refl))

pub returns-in_err-tariff-clause-ends : goal.returns-in_err-tariff-clause-ends
returns-in_err-tariff-clause-ends g c = if_known (g.I.Read.remaining c.args.input) _ (λ text known.
    let new = c.in-Ok.ensures in
    let first = at_known (reader_remaining g.I.Read.remaining c.in-Ok.input) _ text (rw (new.capacity, new.empty, new.inner, known) refl) c.in_ok-text.ensures in
    refused_ends c.args.ask.now.differing (rate_input_of (wished_names c.args.ask.now.names) text) (tariff_in c.as_slice.result.now) (g.O.Write.contents c.args.output.now)
    c.from_residual-in_err-tariff.result c.in_err-tariff.field-0.0 c.from_residual-in_err-tariff.ensures.1 c.in_err-tariff.ensures
    (λ is. rw (first.2, rw c.as_slice.ensures.value at is) refl))

pub returns-in_err-text-clause-silent : goal.returns-in_err-text-clause-silent
returns-in_err-text-clause-silent g c = ends_silent (g.O.Write.contents c.args.output.now) c.from_residual.result

pub returns-in_err-text-clause-bounded : goal.returns-in_err-text-clause-bounded
returns-in_err-text-clause-bounded g c = IfOk-from_err c.from_residual.result _ c.from_residual.ensures.0

pub returns-in_err-tariff-clause-silent : goal.returns-in_err-tariff-clause-silent
returns-in_err-tariff-clause-silent g c = ends_silent (g.O.Write.contents c.args.output.now) c.from_residual-in_err-tariff.result

pub returns-in_err-tariff-clause-bounded : goal.returns-in_err-tariff-clause-bounded
returns-in_err-tariff-clause-bounded g c = IfOk-from_err c.from_residual-in_err-tariff.result _ c.from_residual-in_err-tariff.ensures.0
