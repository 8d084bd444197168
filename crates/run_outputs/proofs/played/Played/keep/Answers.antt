use Rattle.std.proofs.Common.{refl}
use Rattle.run_outputs.proofs.played.Played.keep.Goals as goal

pub returns : goal.returns
returns c = record {
  books = rw c.keep_own.ensures at c.in_ok-lines.ensures;
  calls = rw (c.as_slice.ensures.value, c.as_slice-2.ensures.value) at c.in_ok-calls.ensures;
  refusals = refl;
  unplaced = rw c.as_slice-3.ensures.value at c.in_ok-unplaced.ensures;
}
