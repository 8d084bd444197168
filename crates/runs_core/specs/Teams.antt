-- The seats of the accounts of a run: a team of each worker's, a row of each account's.
use Rattle.std.specs.Prelude.{◌≡◌, ◌+◌, ◌&&◌, ℕ, Bool, nat_le, true, List, [], ◌∷◌, map, All, ⊤}
use Rattle.account_core.specs.Refusals.{Knowing}
use Rattle.account_core.specs.Seats.{Reads, are_all}
use Rattle.account_core.specs.Terms.{Terms}
use Rattle.runs_core.specs.Chains.{AnswersItsPosts}
use Rattle.runs_core.specs.Handled.{AnswerView}
use Rattle.runs_core.specs.Refusals.{RefusesAt}
use Rattle.run_values.specs.Setups.{Setup}
use Rattle.run_values.specs.declared.directory.OpeningCredit.{OpeningCredit}
use Rattle.run_values.specs.declared.post.Post.{Post}

-- there can be so many workers: 1 to 16
abbrev pub are_workers : ℕ → Bool
are_workers workers = nat_le 1 workers && nat_le workers 16

-- what the accounts of a run are made with
abbrev pub terms_with : ℕ → ℕ → ℕ × OpeningCredit → Terms
terms_with limit seats account = record { number = account.0; opening = account.1.amount; until = account.1.until; limit = limit; seats = seats }

-- the terms of each account
abbrev pub terms_of : ℕ → ℕ → List (ℕ × OpeningCredit) → List Terms
terms_of limit seats accounts = map (terms_with limit seats) accounts

-- all seats of an account, in order and without entries
pub record IsNew {K T : Type 0} (read : Reads K T) (key : K) (seats : ℕ) (row : List T) : Type 0 where
  pub of_account : All (λ seat. read.key seat ≡ key) row
  pub numbers : are_all seats (map read.number row) ≡ true
  pub empty : All (λ seat. read.mine seat ≡ []) row

-- a worker's seats: one of each account, in order, all of its number and without entries
pub record IsFresh {K T : Type 0} (read : Reads K T) (keys : List K) (number : ℕ) (team : List T) : Type 0 where
  pub of_accounts : map read.key team ≡ keys
  pub numbered : All (λ seat. read.number seat ≡ number) team
  pub empty : All (λ seat. read.mine seat ≡ []) team

-- the teams of the workers from this number on
abbrev pub AreFresh : {K T : Type 0} → Reads K T → List K → ℕ → List (List T) → Type 0
AreFresh read keys number [] = ⊤
AreFresh read keys number (team ∷ teams) = IsFresh read keys number team × AreFresh read keys (number + 1) teams

-- what a worker leaves after its posts, with its answers: its seats, one of each account, in order, all of its number, with the entries that
-- handling the posts made, and knowing what shows each refusal
pub record IsLeft {K T : Type 0} (read : Reads K T) (Was : T → Knowing) (keys : List K) (setup : Setup) (number : ℕ) (posts : List Post) (answers : List AnswerView) (team : List T) : Type 0 where
  pub of_accounts : map read.key team ≡ keys
  pub numbered : All (λ seat. read.number seat ≡ number) team
  pub answered : AnswersItsPosts (RefusesAt Was team) setup number posts answers (map read.mine team)
