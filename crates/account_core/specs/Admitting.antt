-- Operations that an account admits.
use Rattle.std.specs.Prelude.{◌≡◌, None, reverse}
use Rattle.account_core.specs.Entries.{asked_of}
use Rattle.account_core.specs.Kept.{known_of}
use Rattle.account_core.specs.Known.{known_asked}
use Rattle.account_core.specs.Ledger.{Ledger, refusal_of}
use Rattle.account_core.specs.declared.admitted.Admitted.{Admitted}

-- the account doesn't refuse the operation, and this is what its history says of the call that is asked for
pub record IsAdmitted (ledger : Ledger) (admitted : Admitted) : Type 0 where
  pub allowed : refusal_of ledger (asked_of admitted.op) ≡ None
  pub known_is : known_of admitted.call ≡ known_asked (asked_of admitted.op) (reverse ledger.history)
