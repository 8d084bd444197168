use Rattle.std.proofs.Common.{inr, refl, ◌∙◌}
use Rattle.table_core.proofs.RowLemmas.{has_all}
use Rattle.table_core.proofs.table.Rows.new.Goals as goal

pub returns : goal.returns
returns g c =
    let reader = c.from_reader-reader.ensures in
    let built = c.flexible.ensures in
    let headers = c.has_headers.ensures in
    has_all g.R.Read.remaining _ (g.R.Read.remaining c.args.reader)
    (reader.trim ∙ rw (built, headers) c.new.ensures.trim)
    (inr (inr (reader.has_headers ∙ rw (built, headers) refl, reader.headers)))
    (reader.config ∙ rw (built, headers) c.new.ensures.config)
    reader.source reader.state
