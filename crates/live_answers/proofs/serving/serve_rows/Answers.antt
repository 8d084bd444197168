use Rattle.std.proofs.Common.{sym, ◌∙◌}
use Rattle.table_core.proofs.Known.{if_known}
use Rattle.live_answers.proofs.ServeLemmas.{all_printed, cut_of_run, end_cut, ends_at, ends_whole, header_cut, rows_cut, served_by}
use Rattle.live_answers.proofs.serving.serve_rows.Goals as goal

pub returns-in_err-send-clause-ends : goal.returns-in_err-send-clause-ends
returns-in_err-send-clause-ends g c = if_known (g.I.Read.remaining c.args.rows.input) _ (λ text known.
    header_cut _ _ _ _ _ _ c.from_residual.result c.in_err-send.field-0.0 c.from_residual.ensures.1 (rw c.as_slice.ensures at c.in_err-send.ensures.cut))

pub returns-then-is_cut_off-clause-ends : goal.returns-then-is_cut_off-clause-ends
returns-then-is_cut_off-clause-ends g c = if_known (g.I.Read.remaining c.args.rows.input) _ (λ text known.
    rows_cut _ _ _ text _ _ _ _ _ _ (sym c.is_cut_off.ensures ∙ c.if-is_cut_off.true) (rw c.as_slice.ensures at c.in_ok-send.ensures.wrote)
    (served_by _ _ text _ _ _ _ _ _ _ _ known c.in_ok-answered.ensures.answered))

pub returns-in_err-print_end : goal.returns-in_err-print_end
returns-in_err-print_end g c = record {
  ends = if_known (g.I.Read.remaining c.args.rows.input) _ (λ text known.
      end_cut _ _ _ text _ _ _ _ _ _ _ (sym c.is_cut_off.ensures ∙ c.if-is_cut_off.false) (rw c.as_slice.ensures at c.in_ok-send.ensures.wrote)
      (served_by _ _ text _ _ _ _ _ _ _ _ known c.in_ok-answered.ensures.answered)
      _ c.in_err-print_end.field-0.0 c.from_residual-in_err-print_end.ensures.1 c.in_err-print_end.ensures.cut);
  fault = cut_of_run _ _ _ _ _ c.in_err-print_end.field-0.0 c.from_residual-in_err-print_end.ensures.1 c.in_err-print_end.ensures.cut;
}

pub returns-in-Some-clause-ends : goal.returns-in-Some-clause-ends
returns-in-Some-clause-ends g c = if_known (g.I.Read.remaining c.args.rows.input) _ (λ text known.
    let isnt = sym c.is_cut_off.ensures ∙ c.if-is_cut_off.false in
    ends_at _ _ _ _ _ c.in-Some.fault _ _ c.in-Some.is isnt
    (all_printed _ _ _ text _ _ _ _ _ _ _ isnt (rw c.as_slice.ensures at c.in_ok-send.ensures.wrote)
    (served_by _ _ text _ _ _ _ _ _ _ _ known c.in_ok-answered.ensures.answered) c.in_ok-print_end.ensures.prints))

pub returns-clause-ends : goal.returns-clause-ends
returns-clause-ends g c = if_known (g.I.Read.remaining c.args.rows.input) _ (λ text known.
    let isnt = sym c.is_cut_off.ensures ∙ c.if-is_cut_off.false in
    ends_whole _ _ _ _ _ _ _ _ c.in-None.is
    (all_printed _ _ _ text _ _ _ _ _ _ _ isnt (rw c.as_slice.ensures at c.in_ok-send.ensures.wrote)
    (served_by _ _ text _ _ _ _ _ _ _ _ known c.in_ok-answered.ensures.answered) c.in_ok-print_end.ensures.prints))
