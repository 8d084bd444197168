-- What a teller stands for: each account that it answers for.
use Rattle.std.specs.Prelude.{◌≡◌, ◌+◌, ◌≤◌, ◌++◌, ◌∷◌, [], ℕ, None, length, reverse}
use Rattle.account_core.specs.Admitting.{IsAdmitted}
use Rattle.account_core.specs.Entries.{EntryData, asked_of}
use Rattle.account_core.specs.Ledger.{Ledger, answer_of, refusal_of}
use Rattle.account_core.specs.Places.{owed}
use Rattle.account_core.specs.Tallied.{IsTallied}
use Rattle.account_core.specs.declared.admitted.Admitted.{Admitted}
use Rattle.account_core.specs.declared.entry.Entry.{Entry}
use Rattle.account_core.specs.declared.teller.Teller.{Teller}

-- a ledger with one entry more
abbrev pub entered : Ledger → EntryData → Ledger
entered ledger entry = record ledger { history = ledger.history ++ entry ∷ [] }

-- the teller has the tally of the ledger's history, its limit, the number of its entries, and the places owed for closing its calls, which are within the limit
pub record IsTellerOf (ledger : Ledger) (teller : Teller) : Type 0 where
  pub tallied : IsTallied ledger.opening ledger.until (reverse ledger.history) teller.tally
  pub limit_is : teller.limit ≡ ledger.limit
  pub counted : teller.entries ≡ length ledger.history
  pub owed_are : teller.owed ≡ owed (reverse ledger.history)
  pub within_limit : teller.entries + teller.owed ≤ teller.limit

-- the teller stands for this ledger, which admits the operation
pub record Admits (ledger : Ledger) (teller : Teller) (admitted : Admitted) : Type 0 where
  pub teller_is : IsTellerOf ledger teller
  pub admitted_is : IsAdmitted ledger admitted

-- the teller stands for this ledger, which admits the operation of the entry and answers it so
pub record IsAnsweredByTeller (ledger : Ledger) (teller : Teller) (entry : Entry) : Type 0 where
  pub teller_is : IsTellerOf ledger teller
  pub allowed : refusal_of ledger (asked_of entry.op) ≡ None
  pub answered : entry.reply ≡ answer_of ledger (asked_of entry.op)

-- the teller stands for this ledger, and there is room in memory for the entries and for the places that are owed
pub record IsKeptTeller (ledger : Ledger) (teller : Teller) (capacity : ℕ) : Type 0 where
  pub teller_is : IsTellerOf ledger teller
  pub room : teller.entries + teller.owed ≤ capacity
