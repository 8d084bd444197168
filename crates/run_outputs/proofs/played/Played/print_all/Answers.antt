use Rattle.std.proofs.Common.{refl}
use Rattle.std.proofs.lemmas.Result.{err_from_is_err_and}
use Rattle.run_outputs.proofs.played.Played.print_all.Goals as goal

pub returns-in_err-text : goal.returns-in_err-text
returns-in_err-text c =
    let failed = err_from_is_err_and c.from_residual.result c.from_residual.ensures.1 in
    rw failed.1 (record { texts = tt; refusals = tt; unplaced = tt; typed = tt })

pub returns-in_err-text-2 : goal.returns-in_err-text-2
returns-in_err-text-2 c =
    let failed = err_from_is_err_and c.from_residual-in_err-text-2.result c.from_residual-in_err-text-2.ensures.1 in
    rw failed.1 (record { texts = tt; refusals = tt; unplaced = tt; typed = tt })

pub returns-in_err-text-3 : goal.returns-in_err-text-3
returns-in_err-text-3 c =
    let failed = err_from_is_err_and c.from_residual-in_err-text-3.result c.from_residual-in_err-text-3.ensures.1 in
    rw failed.1 (record { texts = tt; refusals = tt; unplaced = tt; typed = tt })

pub returns-in_err-text-4 : goal.returns-in_err-text-4
returns-in_err-text-4 c =
    let failed = err_from_is_err_and c.from_residual-in_err-text-4.result c.from_residual-in_err-text-4.ensures.1 in
    rw failed.1 (record { texts = tt; refusals = tt; unplaced = tt; typed = tt })

pub returns-in_err-events_by_call : goal.returns-in_err-events_by_call
returns-in_err-events_by_call c =
    let failed = err_from_is_err_and c.from_residual-in_err-events_by_call.result c.from_residual-in_err-events_by_call.ensures.1 in
    rw failed.1 (record { texts = tt; refusals = tt; unplaced = tt; typed = tt })

pub returns : goal.returns
returns c = record {
  texts = record {
    lines = c.in_ok-text.ensures.text;
    book = c.in_ok-text-2.ensures.text;
    calls = c.in_ok-text-3.ensures.text;
    trace = c.in_ok-text-4.ensures.text;
  };
  refusals = refl;
  unplaced = rw c.as_slice.ensures.value at c.in_ok-events_by_call.ensures;
  typed = c.in_ok-text-2.ensures.typed refl;
}
