use Rattle.std.proofs.Common.{None, [], Ok, ap, refl, string_bytes}
use Rattle.table_core.proofs.TakingLemmas.{refused_gives, taken_gives}
use Rattle.book_texts.specs.Replays.{replayed_lines}
use Rattle.book_texts.proofs.ReplayLemmas.{none_replayed}
use Rattle.book_texts.proofs.replaying.replay.Goals as goal

pub take_table-requires-clause-has : goal.take_table-requires-clause-has
take_table-requires-clause-has g c = ((c.args.opening, c.args.limit), [], none_replayed c.args.opening None c.args.limit _ _ c.new.ensures c.new-2.ensures.bytes)

pub returns-in_err-take_table : goal.returns-in_err-take_table
returns-in_err-take_table g c =
    refused_gives (g.I.Read.remaining c.args.reader) _ (c.args.opening, c.args.limit) [] _ (replayed_lines c.args.opening None c.args.limit []) string_bytes
    (none_replayed c.args.opening None c.args.limit _ _ c.new.ensures c.new-2.ensures.bytes)
    (λ why. refl) _ c.in_err-take_table.field-0.0 c.from_residual.ensures.1 c.in_err-take_table.ensures.taken

pub returns : goal.returns
returns g c =
    taken_gives (g.I.Read.remaining c.args.reader) _ (c.args.opening, c.args.limit) [] _ (replayed_lines c.args.opening None c.args.limit []) string_bytes
    (none_replayed c.args.opening None c.args.limit _ _ c.new.ensures c.new-2.ensures.bytes)
    c.take_table.new.taker.text _ (λ text asks (ledger, is, replay). ap Ok replay.lines) c.in_ok-take_table.ensures.taken
