-- The seats of a worker that has handled nothing.
use Rattle.std.proofs.Common.{◌≡◌, ℕ, Option, None, List, [], ◌∷◌, length, map, refl, ap, sym, ◌∙◌, arith}
use Rattle.std.specs.Prelude.{All}
use Rattle.std.specs.Map.{keys_of}
use Rattle.std.proofs.lemmas.List.Elements.{All-cons, All-head, All-nil, All-tail}
use Rattle.std.proofs.lemmas.List.{length-map}
use Rattle.account_core.specs.Entries.{EntryData}
use Rattle.runs_core.specs.Chains.{at_first, seat_numbers}
use Rattle.run_values.specs.Setups.{Setup}
use Rattle.runs_core.specs.Verdicts.{DialogueAt}
use Rattle.run_values.specs.declared.directory.OpeningCredit.{OpeningCredit}
use Rattle.account_core.specs.Seats.{Reads}
use Rattle.runs_core.specs.Teams.{IsFresh}

pub numbered_each : {T : Type 0} (number_of : T → ℕ) (n number : ℕ) (team : List T) → n ≡ number → All (λ m. m ≡ n) (map number_of team) → All (λ seat. number_of seat ≡ number) team
numbered_each number_of n number [] same all = All-nil (λ seat. number_of seat ≡ number)
numbered_each number_of n number (seat ∷ team) same all =
    All-cons (λ seat. number_of seat ≡ number) seat team (All-head (λ m. m ≡ n) (number_of seat) (map number_of team) all ∙ same)
    (numbered_each number_of n number team same (All-tail (λ m. m ≡ n) (number_of seat) (map number_of team) all))

all_one : {T X : Type 0} (number_of : T → ℕ) (number : ℕ) (team : List T) (accounts : List X) → All (λ seat. number_of seat ≡ number) team → length team ≡ length accounts
    → map number_of team ≡ map (λ account. number) accounts
all_one number_of number [] [] all many = refl
all_one number_of number [] (account ∷ accounts) all many = absurd (omega (arith, many))
all_one number_of number (seat ∷ team) [] all many = absurd (omega (arith, many))
all_one number_of number (seat ∷ team) (account ∷ accounts) all many =
    rw (All-head (λ s. number_of s ≡ number) seat team all, all_one number_of number team accounts (All-tail (λ s. number_of s ≡ number) seat team all) (omega (arith, many))) refl

all_empty : {T X : Type 0} (mine_of : T → List EntryData) (team : List T) (accounts : List X) → All (λ seat. mine_of seat ≡ []) team → length team ≡ length accounts
    → map mine_of team ≡ map (λ account. []) accounts
all_empty mine_of [] [] all many = refl
all_empty mine_of [] (account ∷ accounts) all many = absurd (omega (arith, many))
all_empty mine_of (seat ∷ team) [] all many = absurd (omega (arith, many))
all_empty mine_of (seat ∷ team) (account ∷ accounts) all many =
    rw (All-head (λ s. mine_of s ≡ []) seat team all, all_empty mine_of team accounts (All-tail (λ s. mine_of s ≡ []) seat team all) (omega (arith, many))) refl

-- a worker with fresh seats, without dialogues
pub fresh_worker : {K S T : Type 0} (read : Reads K T) (key : S → K) (number_of : S → ℕ) (setup : Setup) (accounts : List S) (number : ℕ) (team : List T) (talks : ℕ → Option DialogueAt)
    → map number_of accounts ≡ keys_of setup.accounts → IsFresh read (map key accounts) number team → ((call : ℕ) → talks call ≡ None)
    → (map read.number team ≡ seat_numbers number setup) × (record { lists = map read.mine team; talks = talks } ≡ at_first setup)
fresh_worker read key number_of setup accounts number team talks numbered fresh none =
    let many : length team ≡ length setup.accounts =
    sym (length-map team read.key) ∙ ap length fresh.of_accounts ∙ length-map accounts key ∙ sym (length-map accounts number_of) ∙ ap length numbered
    ∙ length-map setup.accounts (λ (e : ℕ × OpeningCredit). e.0) in
    let empty = all_empty read.mine team setup.accounts fresh.empty many in
    (all_one read.number number team setup.accounts fresh.numbered many, λ i. record { lists = empty i; talks = λ call. none call i })
