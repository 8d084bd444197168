-- The books of a run have no more rows than the accounts and the limit of its setup allow.
use Rattle.std.proofs.Common.{◌≡◌, ◌≤◌, ◌+◌, ◌*◌, ℕ, List, [], ◌∷◌, length, map, refl, arith, All}
use Rattle.std.proofs.lemmas.List.Elements.{All-head, All-map, All-same, All-tail}
use Rattle.run_laws.specs.Printable.{row_count}
use Rattle.held_calls.proofs.Listed.{all_unmapped}
use Rattle.run_values.specs.Setups.{Setup}
use Rattle.runs_core.specs.Closing.{terms_shown}
use Rattle.runs_core.specs.Teams.{terms_of, terms_with}
use Rattle.account_core.specs.Closed.{Closed}
use Rattle.account_core.specs.Terms.{Terms}

-- a history has at most so many entries
abbrev pub IsWithin : ℕ → Closed → Type 0
IsWithin limit book = length book.history ≤ limit

pub counted : (limit : ℕ) (books : List Closed) → All (IsWithin limit) books → row_count books ≤ length books * (1 + limit)
counted limit [] within = omega arith
counted limit (book ∷ books) within =
    let first : length book.history ≤ limit = All-head (IsWithin limit) book books within in
    let rest : row_count books ≤ length books * (1 + limit) = counted limit books (All-tail (IsWithin limit) book books within) in
    grind arith

-- each book has the limit of the setup
pub limits_are : (setup : Setup) (workers : ℕ) (books : List Closed) → map (terms_shown workers) books ≡ terms_of setup.limit workers setup.accounts → All (λ (book : Closed). book.limit ≡ setup.limit) books
limits_are setup workers books opened =
    let Is : Terms → Type 0 = λ terms. terms.limit ≡ setup.limit in
    let made : All Is (terms_of setup.limit workers setup.accounts) = All-map Is (terms_with setup.limit workers) setup.accounts (λ k d within. refl) in
    all_unmapped Is (terms_shown workers) books (All-same Is (map (terms_shown workers) books) (terms_of setup.limit workers setup.accounts) opened made)
