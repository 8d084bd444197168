-- The seats of accounts that are opened go to the teams of the workers.
use Rattle.std.proofs.Common.{◌≡◌, ◌<◌, ◌≤◌, ℕ, ◌+◌, true, List, [], ◌∷◌, ◌++◌, length, map, refl, ap, subst, sym, ◌∙◌, arith, zero, suc, take}
use Rattle.std.specs.Prelude.{◌==◌, All, HoldsAt, replicate}
use Rattle.std.proofs.Math.ListN.{get_or}
use Rattle.std.proofs.lemmas.Bool.Decides.{nat_tests}
use Rattle.std.proofs.lemmas.List.{length-map, length-replicate, map-append, take_all, take_more}
use Rattle.std.proofs.lemmas.List.Elements.{All-head, All-nil, All-push, All-tail}
use Rattle.std.proofs.lemmas.Bool.{and_parts}
use Rattle.account_core.specs.Seats.{Reads, are_numbered}
use Rattle.account_core.specs.Terms.{Terms}
use Rattle.run_values.specs.Openings.{no_credit}
use Rattle.run_values.specs.declared.directory.OpeningCredit.{OpeningCredit}
use Rattle.runs_core.specs.LaidOut.{laid_out}
use Rattle.runs_core.specs.Teams.{AreFresh, IsFresh, IsNew, terms_of, terms_with}
use Rattle.runs_core.proofs.LayingOut.{laid_out_length}

same_number : (s t : ℕ) → (s == t) ≡ true → s ≡ t
same_number s t is = grind (arith, nat_tests, is)

pair : {X : Type 0} {s t : ℕ} {u v : X} → s ≡ t → u ≡ v → Path (ℕ × X) (s, u) (t, v)
pair one other = cc

-- ---- opening

fresh_team : {K T : Type 0} (read : Reads K T) (number : ℕ) → IsFresh read [] number []
fresh_team read number = record {
  of_accounts = refl;
  numbered = All-nil (λ seat. read.number seat ≡ number);
  empty = All-nil (λ seat. read.mine seat ≡ []);
}

fresh_teams : {K T : Type 0} (read : Reads K T) (number workers : ℕ) → AreFresh read [] number (replicate workers [])
fresh_teams read number zero = tt
fresh_teams read number (suc workers) = (fresh_team read number, fresh_teams read (number + 1) workers)

more_fresh : {K T : Type 0} (read : Reads K T) (keys : List K) (key : K) (number : ℕ) (team : List T) (seat : T) → IsFresh read keys number team
    → read.key seat ≡ key → read.number seat ≡ number → read.mine seat ≡ [] → IsFresh read (keys ++ key ∷ []) number (team ++ seat ∷ [])
more_fresh read keys key number team seat fresh of_account numbered empty = record {
  of_accounts = map-append read.key team (seat ∷ []) ∙ ap (λ keys. keys ++ read.key seat ∷ []) fresh.of_accounts ∙ ap (λ key. keys ++ key ∷ []) of_account;
  numbered = All-push (λ seat. read.number seat ≡ number) team seat fresh.numbered numbered;
  empty = All-push (λ seat. read.mine seat ≡ []) team seat fresh.empty empty;
}

laid_out_fresh : {K T : Type 0} (read : Reads K T) (keys : List K) (key : K) (number : ℕ) (teams : List (List T)) (seats : List T) → AreFresh read keys number teams
    → length seats ≡ length teams → are_numbered number (map read.number seats) ≡ true → All (λ seat. read.key seat ≡ key) seats → All (λ seat. read.mine seat ≡ []) seats
    → AreFresh read (keys ++ key ∷ []) number (laid_out teams seats)
laid_out_fresh read keys key number [] seats fresh enough numbered of_account empty = tt
laid_out_fresh read keys key number (team ∷ teams) [] fresh enough numbered of_account empty = absurd (omega (arith, enough))
laid_out_fresh read keys key number (team ∷ teams) (seat ∷ seats) fresh enough numbered of_account empty =
    let parts = and_parts (read.number seat == number) (are_numbered (number + 1) (map read.number seats)) numbered in (
      more_fresh read keys key number team seat fresh.0 (All-head (λ seat. read.key seat ≡ key) seat seats of_account) (same_number _ _ parts.0) (All-head (λ seat. read.mine seat ≡ []) seat seats empty),
      laid_out_fresh read keys key (number + 1) teams seats fresh.1 (omega (arith, enough)) parts.1 (All-tail (λ seat. read.key seat ≡ key) seat seats of_account) (All-tail (λ seat. read.mine seat ≡ []) seat seats empty),
    )

-- the accounts and the teams before any account is opened
pub none_opened : {K T S V : Type 0} (read : Reads K T) (terms : S → Terms) (key : S → K) (inside : V → List T) (limit workers : ℕ) (all : List (ℕ × OpeningCredit)) (accounts : List S) (teams : List V)
    → accounts ≡ [] → map inside teams ≡ replicate workers []
    → (map terms accounts ≡ terms_of limit workers (take 0 all)) × (length teams ≡ workers) × AreFresh read (map key accounts) 0 (map inside teams)
none_opened read terms key inside limit workers all accounts teams none are =
    rw (none, are)
    (refl, sym (length-map teams inside) ∙ ap length are ∙ length-replicate workers [], fresh_teams read 0 workers)

terms_more : (limit workers : ℕ) (all : List (ℕ × OpeningCredit)) (place number : ℕ) (opening : OpeningCredit) → place < length all
    → HoldsAt (λ account. account.0 ≡ number) all place → HoldsAt (λ account. account.1 ≡ opening) all place
    → terms_of limit workers (take (place + 1) all)
    ≡ terms_of limit workers (take place all) ++ record { number = number; opening = opening.amount; until = opening.until; limit = limit; seats = workers } ∷ []
terms_more limit workers all place number opening within numbered opened =
    let make = λ (account : ℕ × OpeningCredit). terms_with limit workers account in
    ap (map make) (take_more all place (0, no_credit) within) ∙ map-append make (take place all) (get_or all place (0, no_credit) ∷ [])
    ∙ ap (λ account. map make (take place all) ++ make account ∷ []) (pair (numbered (0, no_credit)) (opened (0, no_credit)))

-- a new account has a seat for each worker
pub seat_each : {K T : Type 0} (read : Reads K T) (key : K) (workers : ℕ) (seats : List T) → IsNew read key workers seats → length seats ≡ workers
seat_each read key workers seats new =
    let parts = and_parts (length (map read.number seats) == workers) (are_numbered 0 (map read.number seats)) new.numbers in
    sym (length-map seats read.number) ∙ same_number _ _ parts.0

-- all accounts are opened
pub all_opened : {S : Type 0} (terms : S → Terms) (limit workers : ℕ) (all : List (ℕ × OpeningCredit)) (place : ℕ) (accounts : List S) → length all ≤ place
    → map terms accounts ≡ terms_of limit workers (take place all) → map terms accounts ≡ terms_of limit workers all
all_opened terms limit workers all place accounts past before = before ∙ ap (terms_of limit workers) (take_all place all past)

-- one account more is opened
pub one_opened : {K T S V : Type 0} (read : Reads K T) (terms : S → Terms) (key : S → K) (inside : V → List T) (limit workers : ℕ) (all : List (ℕ × OpeningCredit)) (place number : ℕ) (opening : OpeningCredit)
    (accounts : List S) (teams laid_out_teams : List V) (account : S) (seats : List T)
    → place < length all → HoldsAt (λ account. account.0 ≡ number) all place → HoldsAt (λ account. account.1 ≡ opening) all place
    → (map terms accounts ≡ terms_of limit workers (take place all)) × (length teams ≡ workers) × AreFresh read (map key accounts) 0 (map inside teams)
    → terms account ≡ record { number = number; opening = opening.amount; until = opening.until; limit = limit; seats = workers } → IsNew read (key account) workers seats
    → map inside laid_out_teams ≡ laid_out (map inside teams) seats
    → (map terms (accounts ++ account ∷ []) ≡ terms_of limit workers (take (place + 1) all)) × (length laid_out_teams ≡ workers)
    × AreFresh read (map key (accounts ++ account ∷ [])) 0 (map inside laid_out_teams)
one_opened read terms key inside limit workers all place number opening accounts teams laid_out_teams account seats within numbered opened before is new deals =
    let parts = and_parts (length (map read.number seats) == workers) (are_numbered 0 (map read.number seats)) new.numbers in
    let enough : length seats ≡ length (map inside teams) =
    sym (length-map seats read.number) ∙ same_number _ _ parts.0 ∙ sym before.1 ∙ sym (length-map teams inside) in (
      map-append terms accounts (account ∷ []) ∙ ap (λ ts. ts ++ terms account ∷ []) before.0
          ∙ ap (λ t. terms_of limit workers (take place all) ++ t ∷ []) is ∙ sym (terms_more limit workers all place number opening within numbered opened),
      sym (length-map laid_out_teams inside) ∙ ap length deals ∙ laid_out_length (map inside teams) seats ∙ length-map teams inside ∙ before.1,
      rw (deals, map-append key accounts (account ∷ []))
          (laid_out_fresh read (map key accounts) (key account) 0 (map inside teams) seats before.2 enough parts.1 new.of_account new.empty),
    )

-- the first of fresh teams, and the others
pub first_fresh : {K T V : Type 0} (read : Reads K T) (keys : List K) (number : ℕ) (inside : V → List T) (teams : List V) (first : V) (rest : List V) → teams ≡ first ∷ rest
    → AreFresh read keys number (map inside teams) → IsFresh read keys number (inside first) × AreFresh read keys (number + 1) (map inside rest)
first_fresh read keys number inside teams first rest is fresh = subst (λ teams. AreFresh read keys number (map inside teams)) is fresh
