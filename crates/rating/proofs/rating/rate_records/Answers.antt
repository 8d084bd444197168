use Rattle.std.proofs.Common.{◌≡◌, ◌≤◌, ◌<◌, ◌∙◌, ℕ, List, Option, Some, inl, length, ap, sym, refl, arith}
use Rattle.std.proofs.lemmas.Result.{IfOk-from_err}
use Rattle.std.specs.Prelude.{option_map}
use Rattle.std.proofs.KnownBytes.{Keeps-refl}
use Rattle.csv.specs.Records.{fields_of}
use Rattle.table_core.specs.Rows.{rows_of}
use Rattle.table_core.proofs.Known.{at_known, if_known}
use Rattle.rating.specs.Cuts.{cut_start, passed_text, cut_cursor, reader_of}
use Rattle.rating.specs.SaidOf.{wished_names}
use Rattle.rating.specs.Texts.{headed, rated_below}
use Rattle.rating.specs.declared.call.TheConstants.{MAX_SHOWN}
use Rattle.rating.proofs.StopLemmas.{stopped_silent}
use Rattle.rating.proofs.RateLemmas.{ends_same, ends_silent, header_ends, long_header, no_header, opened, over_printed, rows_may, stopped_ends, within_printed}
use Rattle.rating.proofs.rating.rate_records.Goals as goal

no_more : (long many most : ℕ) → long ≤ most → long ≡ many → many ≤ most
no_more long many most within is = omega (arith, within, is)

any_more : (long many most : ℕ) → most < long → long ≡ many → most < many
any_more long many most over is = omega (arith, over, is)

passed_known : {C R : Type 0} (passed : C → List ℕ → List ℕ) (remaining : R → Option (List ℕ)) (cursor start : C) (reader whole : R) (text : List ℕ)
    → cursor ≡ start → reader ≡ whole → remaining whole ≡ Some text → option_map (passed cursor) (remaining reader) ≡ Some (passed start text)
passed_known passed remaining cursor start reader whole text begins reads known = rw (begins, reads, known) refl

pub returns-clause-ends : goal.returns-clause-ends
returns-clause-ends g c = if_known (g.I.Read.remaining c.args.records) _ (λ text known.
    let has = at_known (option_map (passed_text (cut_cursor c.new.result)) (g.I.Read.remaining (reader_of c.new.result))) _ (cut_start MAX_SHOWN text)
    (passed_known passed_text g.I.Read.remaining _ _ _ _ text c.new.ensures.cursor c.new.ensures.reader known) c.new-rows.ensures in
    let printed = rw (c.new-text.ensures.items, c.row.ensures) at c.in_ok-push_fields.ensures in
    let small = within_printed _ _ printed (no_more _ _ _ c.if-len-gt-MAX_SHOWN.false (c.len.ensures ∙ c.push_fields.new.text.ok.0)) in
    let (below, is, left) = opened _ (wished_names c.args.ask.now.names) c.args.tariff.now text c.next_row.new.self
    (rw c.if-not-branch.false at c.in_ok-next_row.ensures.takes (rows_of (cut_start MAX_SHOWN text)) has) small in
    let found = rw c.row-2.ensures at c.in_ok-columns.ensures in
    ends_same c.args.ask.now.differing (headed (wished_names c.args.ask.now.names) c.args.tariff.now (rows_of text)) _ _ _ _
    (is ∙ ap (rated_below c.args.tariff.now (fields_of c.next_row.new.self.row) below) (sym found))
    (c.rate_rows.ensures.ends (fields_of c.next_row.new.self.row) below left
    (c.in_ok-push_names.ensures (fields_of c.next_row.new.self.row) printed)
    (sym (c.len-2.ensures ∙ ap (λ row. length (fields_of row)) c.row-3.ensures))))

pub returns-then-not-branch-clause-ends : goal.returns-then-not-branch-clause-ends
returns-then-not-branch-clause-ends g c = if_known (g.I.Read.remaining c.args.records) _ (λ text known.
    let has = at_known (option_map (passed_text (cut_cursor c.new.result)) (g.I.Read.remaining (reader_of c.new.result))) _ (cut_start MAX_SHOWN text)
    (passed_known passed_text g.I.Read.remaining _ _ _ _ text c.new.ensures.cursor c.new.ensures.reader known) c.new-rows.ensures in (
      no_header (wished_names c.args.ask.now.names) c.args.tariff.now text
          (rw c.if-not-branch.true at c.in_ok-next_row.ensures.takes (rows_of (cut_start MAX_SHOWN text)) has),
      Keeps-refl (g.O.Write.contents c.args.output.now),
    ))

pub returns-then-len-gt-MAX_SHOWN-clause-ends : goal.returns-then-len-gt-MAX_SHOWN-clause-ends
returns-then-len-gt-MAX_SHOWN-clause-ends g c = if_known (g.I.Read.remaining c.args.records) _ (λ text known.
    let has = at_known (option_map (passed_text (cut_cursor c.new.result)) (g.I.Read.remaining (reader_of c.new.result))) _ (cut_start MAX_SHOWN text)
    (passed_known passed_text g.I.Read.remaining _ _ _ _ text c.new.ensures.cursor c.new.ensures.reader known) c.new-rows.ensures in
    let printed = rw (c.new-text.ensures.items, c.row.ensures) at c.in_ok-push_fields.ensures in (
      long_header _ (wished_names c.args.ask.now.names) c.args.tariff.now text c.next_row.new.self
          (rw c.if-not-branch.false at c.in_ok-next_row.ensures.takes (rows_of (cut_start MAX_SHOWN text)) has)
          (over_printed _ _ printed (any_more _ _ _ c.if-len-gt-MAX_SHOWN.true (c.len.ensures ∙ c.push_fields.new.text.ok.0))),
      Keeps-refl (g.O.Write.contents c.args.output.now),
    ))

pub returns-in_err-next_row : goal.returns-in_err-next_row
returns-in_err-next_row g c =
    let held = g.O.Write.contents c.args.output.now in
    let stop = c.from_residual in
    record {
      ends = if_known (g.I.Read.remaining c.args.records) _ (λ text known. stopped_ends c.args.ask.now.differing _ held held stop.result _ stop.ensures.1 (rows_may c.in_err-next_row.field-0.0) (inl (Keeps-refl held)));
      silent = ends_silent held stop.result;
      bounded = IfOk-from_err stop.result _ stop.ensures.0;
    }

pub returns-in_err-push_fields : goal.returns-in_err-push_fields
returns-in_err-push_fields g c =
    let held = g.O.Write.contents c.args.output.now in
    let stop = c.from_residual-in_err-push_fields in
    record {
      ends = if_known (g.I.Read.remaining c.args.records) _ (λ text known. stopped_ends c.args.ask.now.differing _ held held stop.result _ stop.ensures.1 tt (inl (Keeps-refl held)));
      silent = ends_silent held stop.result;
      bounded = IfOk-from_err stop.result _ stop.ensures.0;
    }

pub returns-in_err-columns : goal.returns-in_err-columns
returns-in_err-columns g c =
    let held = g.O.Write.contents c.args.output.now in
    let stop = c.from_residual-in_err-columns in
    record {
      ends = if_known (g.I.Read.remaining c.args.records) _ (λ text known.
          let has = at_known (option_map (passed_text (cut_cursor c.new.result)) (g.I.Read.remaining (reader_of c.new.result))) _ (cut_start MAX_SHOWN text)
          (passed_known passed_text g.I.Read.remaining _ _ _ _ text c.new.ensures.cursor c.new.ensures.reader known) c.new-rows.ensures in
          let printed = rw (c.new-text.ensures.items, c.row.ensures) at c.in_ok-push_fields.ensures in
          let small = within_printed _ _ printed (no_more _ _ _ c.if-len-gt-MAX_SHOWN.false (c.len.ensures ∙ c.push_fields.new.text.ok.0)) in
          let (below, is, left) = opened _ (wished_names c.args.ask.now.names) c.args.tariff.now text c.next_row.new.self
          (rw c.if-not-branch.false at c.in_ok-next_row.ensures.takes (rows_of (cut_start MAX_SHOWN text)) has) small in
          let found = rw c.row-2.ensures at c.in_err-columns.ensures in
          header_ends c.args.ask.now.differing (headed (wished_names c.args.ask.now.names) c.args.tariff.now (rows_of text)) held stop.result _ stop.ensures.1
          (is ∙ ap (rated_below c.args.tariff.now (fields_of c.next_row.new.self.row) below) (sym found)));
      silent = ends_silent held stop.result;
      bounded = IfOk-from_err stop.result _ stop.ensures.0;
    }

pub returns-in_err-push_names : goal.returns-in_err-push_names
returns-in_err-push_names g c =
    let held = g.O.Write.contents c.args.output.now in
    let stop = c.from_residual-in_err-push_names in
    record {
      ends = if_known (g.I.Read.remaining c.args.records) _ (λ text known. stopped_ends c.args.ask.now.differing _ held held stop.result _ stop.ensures.1 tt (inl (Keeps-refl held)));
      silent = ends_silent held stop.result;
      bounded = IfOk-from_err stop.result _ stop.ensures.0;
    }

pub returns-clause-silent : goal.returns-clause-silent
returns-clause-silent g c = stopped_silent _ _ c.rate_rows.result c.rate_rows.ensures.stopped

pub returns-clause-bounded : goal.returns-clause-bounded
returns-clause-bounded g c = c.rate_rows.ensures.bounded

pub returns-then-not-branch-clause-silent : goal.returns-then-not-branch-clause-silent
returns-then-not-branch-clause-silent g c = Keeps-refl (g.O.Write.contents c.args.output.now)

pub returns-then-not-branch-clause-bounded : goal.returns-then-not-branch-clause-bounded
returns-then-not-branch-clause-bounded g c = tt

pub returns-then-len-gt-MAX_SHOWN-clause-silent : goal.returns-then-len-gt-MAX_SHOWN-clause-silent
returns-then-len-gt-MAX_SHOWN-clause-silent g c = Keeps-refl (g.O.Write.contents c.args.output.now)

pub returns-then-len-gt-MAX_SHOWN-clause-bounded : goal.returns-then-len-gt-MAX_SHOWN-clause-bounded
returns-then-len-gt-MAX_SHOWN-clause-bounded g c = tt
