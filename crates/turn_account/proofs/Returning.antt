-- What refuses a Return where the account is seen, and its gate may have refused too.
use Rattle.std.proofs.Common.{◌≡◌, ℕ, Bool, true, false, inl, inr, Result, Ok, Err, refl}
use Rattle.std.specs.Prelude.{◌⊎◌, reverse, IfErr}
use Rattle.account_core.specs.Asked.{Asked, Credits, Reserves, Returns, Settles}
use Rattle.account_core.specs.Known.{is_open, known}
use Rattle.account_core.specs.Ledger.{IsRefusal, Ledger}
use Rattle.account_core.specs.Places.{IsOwed}
use Rattle.account_core.specs.declared.entry.Reply.{Reply}
use Rattle.account_core.specs.declared.fault.AccountFault.{AccountFault}
use Rattle.account_core.specs.declared.fault.AccountFault.TheVariants as fault
use Rattle.account_core.specs.Kinds.{IsReturn}
use Rattle.account_core.proofs.Refusing.{return_closed}

open_or_not : (open_yet : Bool) (account : Ledger) (call : ℕ) (why : AccountFault) → is_open (known call (reverse account.history)) ≡ open_yet
    → (is_open (known call (reverse account.history)) ≡ true → why ≡ fault.GateClosed) → (why ≡ fault.GateClosed) ⊎ IsRefusal account (Returns call) why
    → (why ≡ fault.NotOpen) ⊎ (why ≡ fault.GateClosed)
open_or_not true account call why is is_owed refused = inr (is_owed is)
open_or_not false account call why is is_owed (inl gate) = inr gate
open_or_not false account call why is is_owed (inr refused) = inl (return_closed false account call why is (λ e. cc e) refused)

pub returned_by : (account : Ledger) (asked : Asked) (response : Result Reply AccountFault) → IfErr response (λ why. (why ≡ fault.GateClosed) ⊎ IsRefusal account asked why)
    → (IsOwed (reverse account.history) asked → IfErr response (λ why. why ≡ fault.GateClosed)) → IsReturn asked
    → IfErr response (λ why. (why ≡ fault.NotOpen) ⊎ (why ≡ fault.GateClosed))
returned_by account asked (Ok answered) refused is_owed return = tt
returned_by account (Credits amount moment) (Err why) refused is_owed return = absurd return
returned_by account (Reserves call plan wanted least at) (Err why) refused is_owed return = absurd return
returned_by account (Settles call number info) (Err why) refused is_owed return = absurd return
returned_by account (Returns call) (Err why) refused is_owed return =
    open_or_not (is_open (known call (reverse account.history))) account call why refl is_owed refused
