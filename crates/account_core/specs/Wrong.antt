-- An entry that an account would not have answered so.
use Rattle.std.specs.Prelude.{◌≡◌, ◌≢◌, ℕ, Option, Some, None, List, Result, Ok, Err}
use Rattle.account_core.specs.Answers.{answer, inadmissible}
use Rattle.account_core.specs.Asked.{Asked}
use Rattle.account_core.specs.Entries.{EntryData}
use Rattle.account_core.specs.declared.entry.Reply.{Reply}
use Rattle.account_core.specs.declared.fault.AccountFault.{AccountFault}

-- why an operation is refused, or else the reply to it
abbrev pub reply_or_fault : Option AccountFault → Reply → Result Reply AccountFault
reply_or_fault (Some why) reply = Err why
reply_or_fault None reply = Ok reply

-- what an account answers an operation after a history, whatever room there is
abbrev pub response : ℕ → Option ℕ → List EntryData → Asked → Result Reply AccountFault
response opening until h asked = reply_or_fault (inadmissible h asked) (answer opening until h asked)

-- this is what an account answers the operation of an entry, and it isn't the entry's reply
pub record IsWrong (opening : ℕ) (until : Option ℕ) (h : List EntryData) (entry : EntryData) (right : Result Reply AccountFault) : Type 0 where
  pub is_response : right ≡ response opening until h entry.asked
  pub differs : right ≢ Ok entry.reply
