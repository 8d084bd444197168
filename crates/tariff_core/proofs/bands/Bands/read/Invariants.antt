use Rattle.std.proofs.Common.{◌≡◌, ◌+◌, ◌≤◌, length}
use Rattle.std.specs.Prelude.{map, nat_le}
use Rattle.table_core.specs.Reading.{header_of, row_number_of, room_of}
use Rattle.table_core.proofs.TableLemmas.{IsRead}
use Rattle.tariff_core.specs.Tariff.{Indexes, band_of}
use Rattle.tariff_core.specs.TariffTable.{tariff_form}
use Rattle.tariff_core.proofs.bands.Bands.read.Given as goal

-- the rows so far
abbrev pub invariant-loop-found : goal.invariant-loop-found
invariant-loop-found g l = record {
  counted : row_number_of l.table ≡ length l.rows.items + 1;
  within : row_number_of l.table ≤ 10001;
  has_days : l.by_days ≡ nat_le 3 (header_of l.table);
  indexed : Indexes l.by_days l.index (map band_of l.rows.items);
  so_far : IsRead tariff_form g.R.Read.remaining (g.R.Read.remaining l.fn.reader) l.table (map band_of l.rows.items);
}

-- a row past the last one that a table may have is refused
abbrev pub decreases-loop-found : goal.decreases-loop-found
decreases-loop-found g l = room_of l.table
