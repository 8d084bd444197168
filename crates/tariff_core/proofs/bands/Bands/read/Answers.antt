use Rattle.std.proofs.Common.{◌≡◌, ◌∙◌, ℕ, Bool, List, Err, refl, sym, ap, subst, arith}
use Rattle.std.specs.Prelude.{nat_le}
use Rattle.std.specs.BTreeMap.{BTreeMap}
use Rattle.csv.specs.Records.{fields_of}
use Rattle.table_core.specs.Reading.{header_of, row_of_table}
use Rattle.table_core.specs.Rows.{rows_of}
use Rattle.table_core.proofs.TableLemmas.{ended, not_opened, opened, refused, stopped, taken}
use Rattle.tariff_core.specs.Bands.{Band}
use Rattle.tariff_core.specs.Tariff.{Indexes, band_of}
use Rattle.tariff_core.specs.declared.band_key.BandKey.{BandKey}
use Rattle.tariff_core.specs.declared.row.Row.{Row}
use Rattle.tariff_core.specs.TariffTable.{GivesBands, bands_of, tariff_form}
use Rattle.tariff_core.specs.declared.tariff_fault.TariffKind.TheVariants as kind
use Rattle.tariff_core.proofs.IndexLemmas.{count_more, indexes_none, keeps_indexed, rows_more}
use Rattle.table_core.proofs.Known.{at_known, if_known}
use Rattle.tariff_core.proofs.TableLemmas.{bands_not_before, given_up, none_before, refused_at, taken_band, without_days}
use Rattle.tariff_core.proofs.bands.Bands.read.Goals as goal

pub returns-in-Err : goal.returns-in-Err
returns-in-Err g c = if_known (g.R.Read.remaining c.args.reader) (λ text. GivesBands (Err c.at.result) (bands_of (rows_of text))) (λ text known.
    rw c.at.ensures (given_up 1 c.in-Err.fault (bands_of (rows_of text)) (bands_not_before (rows_of text))
    (at_known _ _ text known (not_opened tariff_form g.R.Read.remaining _ c.in-Err.fault c.in-Err.ensures.opens))))

pub loop-found-init : goal.loop-found-init
loop-found-init g c = record {
  counted = rw (c.new-rows.ensures.items, c.in-Ok.ensures.first.number) refl;
  within = omega (arith, c.in-Ok.ensures.first.number);
  has_days = ap (λ header. nat_le 3 header) c.header-by_days.ensures;
  indexed = indexes_none _ c.new-index.result c.new-rows.result.items c.new-index.ensures.empty c.new-rows.ensures.items;
  so_far = rw c.new-rows.ensures.items (opened tariff_form g.R.Read.remaining _ c.in-Ok.table c.in-Ok.ensures.first c.in-Ok.ensures.opens);
}

pub returns-in-Err-next_row : goal.returns-in-Err-next_row
returns-in-Err-next_row g c = if_known (g.R.Read.remaining c.args.reader) (λ text. GivesBands (Err c.at-in-Err-next_row.result) (bands_of (rows_of text))) (λ text known.
    let so_far = c.loop-found.invariant.so_far in
    rw (c.at-in-Err-next_row.ensures, c.number.ensures, c.in-Err-next_row.ensures.moves.1)
    (given_up _ c.in-Err-next_row.fault (bands_of (rows_of text)) (none_before g.R.Read.remaining _ _ _ text known so_far)
    (at_known _ _ text known (stopped tariff_form g.R.Read.remaining _ c.loop-found.table c.next_row.new.self _ so_far c.in-Err-next_row.fault c.in-Err-next_row.ensures.steps))))

pub returns-then-not-found : goal.returns-then-not-found
returns-then-not-found g c =
    ended tariff_form g.R.Read.remaining _ c.loop-found.table c.next_row.new.self _ c.loop-found.invariant.so_far
    (rw c.if-not-found.true at c.in-Ok-next_row.ensures.steps)

-- the index, by the header of the row
by_header : (by_days : Bool) (kept row header : ℕ) (index : BTreeMap BandKey Row) (bands : List Band) → by_days ≡ nat_le 3 kept → row ≡ kept → header ≡ row
    → Indexes by_days index bands → Indexes (nat_le 3 header) index bands
by_header by_days kept row header index bands has_days same is indexed =
    let days = has_days ∙ ap (λ h. nat_le 3 h) (sym (is ∙ same)) in subst (λ by_days. Indexes by_days index bands) days indexed

pub returns-in-Err-judge : goal.returns-in-Err-judge
returns-in-Err-judge g c = if_known (g.R.Read.remaining c.args.reader) (λ text. GivesBands (Err (record { row = c.number-in-Err-judge.result; kind = c.in-Err-judge.kind })) (bands_of (rows_of text))) (λ text known.
    let next = rw c.if-not-found.false at c.in-Ok-next_row.ensures.moves in
    let why = rw (c.row.ensures, c.header.ensures, next.same.header) at (c.in-Err-judge.ensures _
    (by_header _ _ _ _ c.loop-found.index _ c.loop-found.invariant.has_days next.same.header c.header.ensures c.loop-found.invariant.indexed)) in
    rw c.number-in-Err-judge.ensures (refused_at c.in-Err-judge.kind _ (bands_of (rows_of text))
    (at_known _ _ text known (refused tariff_form g.R.Read.remaining _ c.loop-found.table c.next_row.new.self _ c.loop-found.invariant.so_far c.in-Err-judge.kind
    next (rw c.if-not-found.false at c.in-Ok-next_row.ensures.steps) (rw why refl)))))

pub keep-requires : goal.keep-requires
keep-requires g c none =
    let next = rw c.if-not-found.false at c.in-Ok-next_row.ensures.moves in
    let read = rw (c.row.ensures, c.header.ensures, next.same.header) at (c.in-Ok-judge.ensures _
    (by_header _ _ _ _ c.loop-found.index _ c.loop-found.invariant.has_days next.same.header c.header.ensures c.loop-found.invariant.indexed)) in
    without_days (header_of c.loop-found.table) (fields_of (row_of_table c.next_row.new.self)) (band_of c.in-Ok-judge.row) (sym c.loop-found.invariant.has_days ∙ none)
    (taken_band (header_of c.loop-found.table) _ (fields_of (row_of_table c.next_row.new.self)) (band_of c.in-Ok-judge.row) read).0

pub returns-in-Err-keep : goal.returns-in-Err-keep
returns-in-Err-keep g c = if_known (g.R.Read.remaining c.args.reader) (λ text. GivesBands (Err (record { row = c.number-in-Err-keep.result; kind = kind.OutOfMemory })) (bands_of (rows_of text))) (λ text known.
    let next = rw c.if-not-found.false at c.in-Ok-next_row.ensures.moves in
    rw (c.number-in-Err-keep.ensures, next.number) (none_before g.R.Read.remaining _ _ _ text known c.loop-found.invariant.so_far))

pub loop-found-preserved : goal.loop-found-preserved
loop-found-preserved g c =
    let kept = c.in-Ok-keep.ensures in
    let next = rw c.if-not-found.false at c.in-Ok-next_row.ensures.moves in
    let read = rw (c.row.ensures, c.header.ensures, next.same.header) at (c.in-Ok-judge.ensures _
    (by_header _ _ _ _ c.loop-found.index _ c.loop-found.invariant.has_days next.same.header c.header.ensures c.loop-found.invariant.indexed)) in
    record {
      counted = omega (arith, next.number, c.loop-found.invariant.counted, count_more _ _ c.in-Ok-judge.row kept.rows);
      within = omega (arith, next.within, next.same.most_rows, c.loop-found.invariant.so_far.most_rows);
      has_days = c.loop-found.invariant.has_days ∙ ap (λ header. nat_le 3 header) (sym next.same.header);
      indexed = keeps_indexed _ _ _ _ _ c.in-Ok-judge.row c.loop-found.invariant.indexed kept
          (taken_band (header_of c.loop-found.table) _ (fields_of (row_of_table c.next_row.new.self)) (band_of c.in-Ok-judge.row) read).1;
      so_far = rw (rows_more _ _ c.in-Ok-judge.row kept.rows)
          (taken tariff_form g.R.Read.remaining _ c.loop-found.table c.next_row.new.self _ c.loop-found.invariant.so_far _
          next (rw c.if-not-found.false at c.in-Ok-next_row.ensures.steps) (rw read refl));
    }
