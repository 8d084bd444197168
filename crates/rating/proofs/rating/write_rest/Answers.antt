use Rattle.std.proofs.Common.{refl}
use Rattle.table_core.proofs.FrontLemmas.{some_written}
use Rattle.std.proofs.Common.{true}
use Rattle.std.proofs.KnownBytes.{Appends-kept}
use Rattle.rating.proofs.rating.write_rest.Goals as goal

pub returns-in-Err-clause-fault : goal.returns-in-Err-clause-fault
returns-in-Err-clause-fault g c = record {
  why_is = refl;
  front = some_written _ _ c.args.text.now true (Appends-kept (g.O.Write.contents c.args.output.now) _ _ c.args.text.now c.in_ok-write_all.ensures.wrote c.in-Err.ensures.bytes);
}
