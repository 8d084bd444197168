-- The rows of seats that workers leave are those of all seats of their accounts.
use Rattle.std.proofs.Common.{◌≡◌, ◌<◌, ◌+◌, ℕ, zero, suc, true, List, [], ◌∷◌, length, map, refl, ap, sym, subst, ◌∙◌, arith}
use Rattle.std.specs.Prelude.{◌==◌, All, replicate, slice_index_or}
use Rattle.std.proofs.lemmas.Bool.Decides.{nat_tests}
use Rattle.std.proofs.lemmas.List.{length-append, length-map, length-replicate}
use Rattle.std.proofs.lemmas.List.Elements.{All-cons, All-head, All-map, All-nil, All-push, All-tail}
use Rattle.runs_core.proofs.CaseLemmas.{as_many}
use Rattle.account_core.proofs.Numbering.{numbered_push}
use Rattle.runs_core.proofs.LayingOut.{laid_out_length}
use Rattle.runs_core.proofs.Columns.{AreEven, laid, map_laid_out}
use Rattle.runs_core.specs.Closing.{AreAllThere, AreNumberedFrom, AreSeatsOf}
use Rattle.runs_core.specs.LaidOut.{laid_out}
use Rattle.runs_core.specs.Teams.{terms_of, terms_with}
use Rattle.account_core.specs.Seats.{Reads, are_numbered}
use Rattle.account_core.specs.Terms.{Terms}
use Rattle.run_values.specs.declared.directory.OpeningCredit.{OpeningCredit}

-- each row has the numbers from 0 up to this one
abbrev pub AreRising : ℕ → List (List ℕ) → Type 0
AreRising number [] = Unit {0}
AreRising number (row ∷ rows) = (length row ≡ number) × (are_numbered 0 row ≡ true) × AreRising number rows

is_itself : (n m : ℕ) → n ≡ m → (n == m) ≡ true
is_itself n m same = grind (arith, nat_tests, same)

pub rising_more : (number : ℕ) (rows : List (List ℕ)) (team : List ℕ) → AreRising number rows → All (λ n. n ≡ number) team → length team ≡ length rows → AreRising (number + 1) (laid_out rows team)
rising_more number [] team rising numbered many = tt
rising_more number (row ∷ rows) [] rising numbered many = absurd (omega (arith, many))
rising_more number (row ∷ rows) (seat ∷ team) rising numbered many =
    let its : seat ≡ number = All-head (λ n. n ≡ number) seat team numbered in (
      length-append row (seat ∷ []) ∙ ap (λ n. n + 1) rising.0,
      rw (its) (numbered_push 0 row number rising.1 (omega (arith, rising.0))),
      rising_more number rows team rising.2 (All-tail (λ n. n ≡ number) seat team numbered) (omega (arith, many)),
    )

-- no seats as yet
none_rising : {T : Type 0} (number_of : T → ℕ) (many : ℕ) → AreRising 0 (map (map number_of) (replicate many []))
none_rising number_of zero = tt
none_rising number_of (suc many) = (refl, refl, none_rising number_of many)

pub more_rising : {T : Type 0} (number_of : T → ℕ) (number : ℕ) (rows : List (List T)) (team : List T) → AreRising number (map (map number_of) rows) → All (λ seat. number_of seat ≡ number) team
    → length team ≡ length rows → AreRising (number + 1) (map (map number_of) (laid_out rows team))
more_rising number_of number rows team rising numbered many =
    rw (map_laid_out number_of rows team)
    (rising_more number (map (map number_of) rows) (map number_of team) rising (All-map (λ n. n ≡ number) number_of team numbered)
    (length-map team number_of ∙ many ∙ sym (length-map rows (map number_of))))

-- all seats of accounts that have so many
pub all_there : {S : Type 0} (seats_of : S → ℕ) (number : ℕ) (accounts : List S) (rows : List (List ℕ)) → All (λ account. seats_of account ≡ number) accounts → AreRising number rows
    → length rows ≡ length accounts → AreAllThere (map seats_of accounts) rows
all_there seats_of number [] [] all rising many = tt
all_there seats_of number [] (row ∷ rows) all rising many = absurd (omega (arith, many))
all_there seats_of number (account ∷ accounts) [] all rising many = absurd (omega (arith, many))
all_there seats_of number (account ∷ accounts) (row ∷ rows) all rising many =
    let its : seats_of account ≡ number = All-head (λ a. seats_of a ≡ number) account accounts all in (
      rw (its, is_itself (length row) number rising.0, rising.1) refl,
      all_there seats_of number accounts rows (All-tail (λ a. seats_of a ≡ number) account accounts all) rising.2 (omega (arith, many)),
    )

-- ---- from what the workers of a run leave

rising_laid : {K T : Type 0} (read : Reads K T) (number : ℕ) (rows teams : List (List T)) → AreRising number (map (map read.number) rows) → AreNumberedFrom read number teams → AreEven (length rows) teams
    → AreRising (number + length teams) (map (map read.number) (laid rows teams))
rising_laid read number rows [] rising numbered even =
    let here : number ≡ number + 0 = omega arith in subst (λ n. AreRising n (map (map read.number) rows)) here rising
rising_laid read number rows (team ∷ teams) rising numbered even =
    let here : number + 1 + length teams ≡ number + suc (length teams) = omega arith in
    let still = let P : ℕ → Type 0 = λ n. AreEven n teams in subst P (sym (laid_out_length rows team)) even.1 in
    subst (λ n. AreRising n (map (map read.number) (laid (laid_out rows team) teams))) here
    (rising_laid read (number + 1) (laid_out rows team) teams (more_rising read.number number rows team rising numbered.0 even.0) numbered.1 still)

-- the rows of all seats
pub rows_rise : {K T : Type 0} (read : Reads K T) (many : ℕ) (teams : List (List T)) → AreNumberedFrom read 0 teams → AreEven many teams
    → AreRising (length teams) (map (map read.number) (laid (replicate many []) teams))
rows_rise {T = T} read many teams numbered even =
    let here : 0 + length teams ≡ length teams = omega arith in
    let long = let P : ℕ → Type 0 = λ n. AreEven n teams in let same : length (replicate {A = List T} many []) ≡ many = length-replicate many [] in subst P (sym same) even in
    subst (λ n. AreRising n (map (map read.number) (laid (replicate many []) teams))) here
    (rising_laid read 0 (replicate many []) teams (none_rising read.number many) numbered long)

of_laid_out : {K T : Type 0} (key_of : T → K) (keys : List K) (rows : List (List T)) (team : List T) → AreSeatsOf key_of keys rows → map key_of team ≡ keys → AreSeatsOf key_of keys (laid_out rows team)
of_laid_out key_of [] [] team are same = tt
of_laid_out key_of [] (row ∷ rows) team are same = absurd are
of_laid_out key_of (key ∷ keys) [] team are same = absurd are
of_laid_out key_of (key ∷ keys) (row ∷ rows) [] are same = absurd (cc)
of_laid_out key_of (key ∷ keys) (row ∷ rows) (seat ∷ team) are same =
    let first : key_of seat ≡ key = cc in
    let rest : map key_of team ≡ keys = cc in
    (All-push (λ s. key_of s ≡ key) row seat are.0 first, of_laid_out key_of keys rows team are.1 rest)

of_laid : {K T : Type 0} (key_of : T → K) (keys : List K) (rows teams : List (List T)) → AreSeatsOf key_of keys rows → All (λ team. map key_of team ≡ keys) teams → AreSeatsOf key_of keys (laid rows teams)
of_laid key_of keys rows [] are all = are
of_laid key_of keys rows (team ∷ teams) are all =
    of_laid key_of keys (laid_out rows team) teams (of_laid_out key_of keys rows team are (All-head (λ t. map key_of t ≡ keys) team teams all)) (All-tail (λ t. map key_of t ≡ keys) team teams all)

of_none : {K S T : Type 0} (key_of : T → K) (key : S → K) (accounts : List S) → AreSeatsOf key_of (map key accounts) (replicate (length accounts) [])
of_none key_of key [] = tt
of_none key_of key (account ∷ accounts) = (All-nil (λ s. key_of s ≡ key account), of_none key_of key accounts)

-- each row is of its account
pub rows_of : {K S T : Type 0} (key_of : T → K) (key : S → K) (accounts : List S) (teams : List (List T)) → All (λ team. map key_of team ≡ map key accounts) teams
    → AreSeatsOf key_of (map key accounts) (laid (replicate (length accounts) []) teams)
rows_of key_of key accounts teams all = of_laid key_of (map key accounts) (replicate (length accounts) []) teams (of_none key_of key accounts) all

pub teams_even : {K S T : Type 0} (key_of : T → K) (key : S → K) (accounts : List S) (teams : List (List T)) → All (λ team. map key_of team ≡ map key accounts) teams → AreEven (length accounts) teams
teams_even key_of key accounts [] all = tt
teams_even key_of key accounts (team ∷ teams) all =
    (as_many key_of key team accounts (All-head (λ t. map key_of t ≡ map key accounts) team teams all), teams_even key_of key accounts teams (All-tail (λ t. map key_of t ≡ map key accounts) team teams all))

pub numbered_from : {K T : Type 0} (read : Reads K T) (first : ℕ) (teams : List (List T)) → ((worker : ℕ) → worker < length teams → All (λ seat. read.number seat ≡ first + worker) (slice_index_or teams worker []))
    → AreNumberedFrom read first teams
numbered_from read first [] each = tt
numbered_from read first (team ∷ teams) each =
    let here : first + 0 ≡ first = omega arith in (
      subst (λ n. All (λ seat. read.number seat ≡ n) team) here (each 0 (omega arith)),
      numbered_from read (first + 1) teams (λ worker below.
          let later : first + suc worker ≡ first + 1 + worker = omega arith in
          subst (λ n. All (λ seat. read.number seat ≡ n) (slice_index_or teams worker [])) later (each (suc worker) (omega (arith, below)))),
    )

pub numbered_at : {K T : Type 0} (read : Reads K T) (first : ℕ) (teams : List (List T)) (worker : ℕ) → AreNumberedFrom read first teams → worker < length teams
    → All (λ seat. read.number seat ≡ first + worker) (slice_index_or teams worker [])
numbered_at read first [] worker numbered below = absurd (omega (arith, below))
numbered_at read first (team ∷ teams) zero numbered below = let here : first ≡ first + 0 = omega arith in subst (λ n. All (λ seat. read.number seat ≡ n) team) here numbered.0
numbered_at read first (team ∷ teams) (suc worker) numbered below =
    let later : first + 1 + worker ≡ first + suc worker = omega arith in
    subst (λ n. All (λ seat. read.number seat ≡ n) (slice_index_or teams worker [])) later (numbered_at read (first + 1) teams worker numbered.1 (omega (arith, below)))

pub seats_each : {S : Type 0} (terms : S → Terms) (limit workers count : ℕ) (setup : List (ℕ × OpeningCredit)) (accounts : List S) → map terms accounts ≡ terms_of limit workers setup → workers ≡ count
    → All (λ account. (terms account).seats ≡ count) accounts
seats_each terms limit workers count setup [] same many = All-nil (λ account. (terms account).seats ≡ count)
seats_each terms limit workers count [] (account ∷ accounts) same many = absurd (cc)
seats_each terms limit workers count (first ∷ setup) (account ∷ accounts) same many =
    let its : terms account ≡ terms_with limit workers first = cc in
    let rest : map terms accounts ≡ terms_of limit workers setup = cc in
    All-cons (λ a. (terms a).seats ≡ count) account accounts (ap (λ (t : Terms). t.seats) its ∙ many) (seats_each terms limit workers count setup accounts rest many)
