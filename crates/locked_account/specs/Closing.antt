-- When an account under its lock is closed with a book.
use Rattle.std.specs.Prelude.{◌≡◌, ◌≤◌, ℕ, Option, List, length}
use Rattle.account_core.specs.Entries.{EntryData}
use Rattle.account_core.specs.Ledger.{Ledger}
use Rattle.account_core.specs.Own.{IsMerged}

-- an account is closed with a book where it is what it was opened as, keeps within its limit, and its history merges the lists of its seats
pub record IsClosable (opening : ℕ) (until : Option ℕ) (limit : ℕ) (account : Ledger) (lists : List (List EntryData)) : Type 0 where
  pub opening_is : account.opening ≡ opening
  pub until_is : account.until ≡ until
  pub limit_is : account.limit ≡ limit
  pub within_limit : length account.history ≤ limit
  pub merged : IsMerged account.history lists
