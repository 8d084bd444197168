-- Seats that have ended, and what their account was closed as.
use Rattle.std.specs.Prelude.{◌≡◌, ◌≤◌, ◌<◌, ◌+◌, ℕ, List, [], ◌∷◌, length, All}
use Rattle.account_core.specs.Answers.{IsLegal}
use Rattle.account_core.specs.Ledger.{Ledger}
use Rattle.account_core.specs.Own.{own}
use Rattle.account_core.specs.Prefixes.{IsPrefix}
use Rattle.turn_account.specs.declared.board.Start.{Start}

-- a seat that has ended has seen the account as it was opened, and all entries of its own
pub record HasEnded (account : Ledger) (number : ℕ) (last : Ledger) : Type 0 where
  pub opening : last.opening ≡ account.opening
  pub until : last.until ≡ account.until
  pub limit : last.limit ≡ account.limit
  pub seen : IsPrefix last.history account.history
  pub own : own number last.history ≡ own number account.history

-- seats from this number on have ended, each with the account as it has last seen it
abbrev pub HaveEnded : Ledger → ℕ → List Ledger → Type 0
HaveEnded account first [] = Unit {0}
HaveEnded account first (last ∷ lasts) = HasEnded account first last × HaveEnded account (first + 1) lasts

-- what an account was closed as, where these are the accounts as its seats have last seen them, in order
pub record IsClosedAs (start : Start) (lasts : List Ledger) (account : Ledger) : Type 0 where
  pub opening : account.opening ≡ start.opening
  pub until : account.until ≡ start.until
  pub limit : account.limit ≡ start.limit
  pub legal : IsLegal account.opening account.until account.history
  pub short : length account.history ≤ account.limit
  pub each : HaveEnded account 0 lasts
  pub no_others : All (λ entry. entry.seat < length lasts) account.history
