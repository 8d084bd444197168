-- What a held account replies, and refuses a Return with, for a caller who can't see it.
use Rattle.std.proofs.Common.{◌≡◌, List, Result, Ok, Err, refl, sym, subst}
use Rattle.std.specs.Prelude.{reverse, IfErr, IsOk}
use Rattle.account_core.specs.Asked.{Asked, Credits, Reserves, Returns, Settles}
use Rattle.account_core.specs.Entries.{EntryData}
use Rattle.account_core.specs.Known.{is_open, known}
use Rattle.account_core.specs.Ledger.{IsRefusal, Ledger, answer_of}
use Rattle.account_core.specs.Places.{IsOwed}
use Rattle.account_core.specs.declared.entry.Reply.{Reply}
use Rattle.account_core.specs.declared.fault.AccountFault.{AccountFault}
use Rattle.account_core.specs.declared.fault.AccountFault.TheVariants as fault
use Rattle.account_core.specs.Kinds.{IsReplyTo, IsReturn}
use Rattle.account_core.proofs.ReplyKinds.{answer_fits}
use Rattle.account_core.proofs.Refusing.{return_closed}

pub fits_of : (account : Ledger) (asked : Asked) (response : Reply) → response ≡ answer_of account asked → IsReplyTo asked response
fits_of account asked response is =
    let R : Reply → Type 0 = IsReplyTo asked in
    subst R (sym is) (answer_fits account.opening account.until (reverse account.history) asked)

-- a Return of a call that is open by the seat's own entries
fails : (why : AccountFault) → IsOk {T = Reply} {E = AccountFault} (Err why) → ⊥
fails why is = cc

pub returning_of : (account : Ledger) (mine : List EntryData) (asked : Asked) (response : Result Reply AccountFault) → IfErr response (IsRefusal account asked)
    → (IsOwed (reverse account.history) asked → IsOwed (reverse mine) asked → IsOk response) → IsReturn asked → IsOwed (reverse mine) asked
    → IfErr response (λ why. why ≡ fault.NotOpen)
returning_of account mine asked (Ok answered) refused is_owed return own = tt
returning_of account mine (Credits amount moment) (Err why) refused is_owed return own = absurd return
returning_of account mine (Reserves call plan wanted least at) (Err why) refused is_owed return own = absurd return
returning_of account mine (Settles call number info) (Err why) refused is_owed return own = absurd return
returning_of account mine (Returns call) (Err why) refused is_owed return own =
    return_closed (is_open (known call (reverse account.history))) account call why refl (λ is. fails why (is_owed is own)) refused
