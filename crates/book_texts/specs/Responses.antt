-- What an account is asked and what it answers, in words.
use Rattle.std.specs.Prelude.{ℕ, Bool, true, false, List, ◌++◌, Result, Ok, Err, codes}
use Rattle.std.specs.Fmt.{decimal}
use Rattle.account_core.specs.Asked.{Asked, Credits, Reserves, Returns, Settles}
use Rattle.account_core.specs.Faults.{account_fault_name}
use Rattle.account_core.specs.declared.entry.Reply.{Reply}
use Rattle.account_core.specs.declared.entry.Reply.TheVariants as reply
use Rattle.account_core.specs.declared.fault.AccountFault.{AccountFault}

-- what is available
abbrev pub available_text : ℕ → List ℕ
available_text available = codes " available " ++ decimal available

-- what was paid, and what is available
abbrev pub paid_text : ℕ → ℕ → List ℕ
paid_text paid available = codes " paid " ++ (decimal paid ++ available_text available)

-- whether a grant is the last one
abbrev pub last_word : Bool → List ℕ
last_word true = codes "last"
last_word false = codes "more"

-- a grant
abbrev pub granted_text : ℕ → Bool → ℕ → List ℕ
granted_text units last available = codes "granted " ++ (decimal units ++ (codes " " ++ (last_word last ++ available_text available)))

-- a reply
abbrev pub reply_text : Reply → List ℕ
reply_text (reply.Credited available) = codes "credited" ++ available_text available
reply_text (reply.CreditOver available) = codes "over" ++ available_text available
reply_text (reply.Granted units last available) = granted_text units last available
reply_text (reply.Denied available) = codes "denied" ++ available_text available
reply_text (reply.Settled paid available) = codes "settled" ++ paid_text paid available
reply_text (reply.Forfeit paid available) = codes "forfeit" ++ paid_text paid available
reply_text (reply.Returned paid available) = codes "returned" ++ paid_text paid available

-- a reply, or `refused` and the fault in its place
abbrev pub response_text : Result Reply AccountFault → List ℕ
response_text (Ok reply) = reply_text reply
response_text (Err why) = codes "refused " ++ account_fault_name why

-- the word of an operation
abbrev pub operation_word : Asked → List ℕ
operation_word (Credits amount until) = codes "credit"
operation_word (Reserves call plan wanted least at) = codes "reserve"
operation_word (Settles call number info) = codes "settle"
operation_word (Returns call) = codes "return"
