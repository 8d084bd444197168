use Rattle.std.proofs.Common.{◌≡◌, Some}
use Rattle.runs_core.proofs.worker.home_of.Goals as goal

pub returns : goal.returns
returns c =
    let was : c.account_of.result ≡ Some c.in_ok-account_of.field-0 = c.in_ok-account_of.was in
    rw (← c.account_of.ensures, was) c.place_of.ensures.place
