-- What is read of the lists of a worker, as they grow.
use Rattle.std.proofs.Common.{◌≡◌, ◌≢◌, ◌<◌, ◌++◌, ◌∙◌, ℕ, zero, suc, Bool, true, false, List, [], ◌∷◌, length, refl, sym, ap, arith, append-nil}
use Rattle.std.specs.Prelude.{◌==◌, flat_map, if◌then◌else◌, slice_index_or}
use Rattle.std.specs.Map.{keys_of}
use Rattle.std.proofs.lemmas.Bool.Decides.{nat_tests}
use Rattle.std.proofs.lemmas.Grind.{flat_map-append}
use Rattle.account_core.specs.Entries.{EntryData}
use Rattle.dialogue_core.specs.Phases.{Phase, Says}
use Rattle.runs_core.proofs.Handling.{same_number}
use Rattle.held_calls.proofs.Sound.{many_keys}
use Rattle.runs_core.specs.Handled.{AnswerView, Holding, IsTalked, grown}
use Rattle.runs_core.specs.Served.{AreServed}
use Rattle.run_values.specs.Setups.{Setup}
use Rattle.runs_core.specs.Talks.{entries_of}
use Rattle.held_calls.specs.Sound.{IsSoundHolding}
use Rattle.run_values.specs.declared.post.Post.{Post}

-- ---- a place of the setup has a list

served_many : (accounts : List ℕ) (posts : List Post) (lists : List (List EntryData)) → AreServed accounts posts lists → length lists ≡ length accounts
served_many [] posts [] are = refl
served_many [] posts (mine ∷ lists) are = absurd are
served_many (account ∷ accounts) posts [] are = absurd are
served_many (account ∷ accounts) posts (mine ∷ lists) are = ap suc (served_many accounts posts lists are.1)

pub place_within : (setup : Setup) (posts : List Post) (old : Holding) (place : ℕ) → IsSoundHolding (keys_of setup.accounts) posts old → place < length setup.accounts → place < length old.lists
place_within setup posts old place sound within = rw (served_many (keys_of setup.accounts) posts old.lists sound.served, many_keys setup) within

-- ---- what is read of one list

-- where another or this one has grown
pub read_grown : {A : Type 0} (f : EntryData → List A) (lists : List (List EntryData)) (at place : ℕ) (entries : List EntryData) (more : List A) → (at ≡ place → at < length lists)
    → (at ≡ place → flat_map f entries ≡ more) → (at ≢ place → more ≡ [])
    → flat_map f (slice_index_or (grown lists at entries) place []) ≡ flat_map f (slice_index_or lists place []) ++ more
read_grown f [] at place entries more within here elsewhere = sym (elsewhere (λ is. let never = within is in omega (arith, never)))
read_grown f (mine ∷ lists) zero zero entries more within here elsewhere = flat_map-append f mine entries ∙ ap (λ l. flat_map f mine ++ l) (here refl)
read_grown f (mine ∷ lists) zero (suc place) entries more within here elsewhere =
    sym (append-nil (flat_map f (slice_index_or lists place []))) ∙ ap (λ l. flat_map f (slice_index_or lists place []) ++ l) (sym (elsewhere (λ is. omega (arith, is))))
read_grown f (mine ∷ lists) (suc at) zero entries more within here elsewhere =
    sym (append-nil (flat_map f mine)) ∙ ap (λ l. flat_map f mine ++ l) (sym (elsewhere (λ is. omega (arith, is))))
read_grown f (mine ∷ lists) (suc at) (suc place) entries more within here elsewhere =
    read_grown f lists at place entries more (λ is. let enough = within (ap suc is) in omega (arith, enough)) (λ is. here (ap suc is)) (λ not. elsewhere (λ is. not (omega (arith, is))))

-- where it reads nothing of what has come
pub read_as_before : {A : Type 0} (f : EntryData → List A) (lists : List (List EntryData)) (at place : ℕ) (entries : List EntryData) → at < length lists → flat_map f entries ≡ []
    → flat_map f (slice_index_or (grown lists at entries) place []) ≡ flat_map f (slice_index_or lists place [])
read_as_before f lists at place entries within none =
    read_grown f lists at place entries [] (λ here. within) (λ here. none) (λ elsewhere. refl) ∙ append-nil (flat_map f (slice_index_or lists place []))

-- by whether this one has grown
read_by : {A : Type 0} (f : EntryData → List A) (lists : List (List EntryData)) (at place : ℕ) (entries : List EntryData) (b : Bool) → (place == at) ≡ b → at < length lists
    → flat_map f (slice_index_or (grown lists at entries) place []) ≡ flat_map f (slice_index_or lists place []) ++ (if b then flat_map f entries else [])
read_by f lists at place entries true is within =
    read_grown f lists at place entries (flat_map f entries) (λ here. within) (λ here. refl) (λ elsewhere. absurd (elsewhere (sym (same_number place at is))))
read_by f lists at place entries false is within =
    read_grown f lists at place entries [] (λ here. within) (λ here. let same : (place == at) ≡ true = grind (arith, nat_tests, here) in absurd (cc)) (λ elsewhere. refl)

-- where a dialogue has talked with the account at a place
pub read_talked : {A : Type 0} (f : EntryData → List A) (numbers : List ℕ) (call at place : ℕ) (first : Says × Phase) (old new : Holding) (t : AnswerView) → at < length old.lists
    → (is : IsTalked numbers call at first old new t)
    → flat_map f (slice_index_or new.lists place []) ≡ flat_map f (slice_index_or old.lists place []) ++ (if place == at then flat_map f (entries_of (slice_index_or numbers at 0) first is.gots) else [])
read_talked f numbers call at place first old new t within is =
    rw is.lists (read_by f old.lists at place (entries_of (slice_index_or numbers at 0) first is.gots) (place == at) refl within)
