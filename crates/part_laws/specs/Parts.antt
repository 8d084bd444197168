-- A run in parts, where each part is given the items of its accounts.
use Rattle.std.specs.Prelude.{◌≡◌, ◌<◌, ◌==◌, ◌+◌, ℕ, Option, Some, List, All, length, map, slice_index_or}
use Rattle.std.specs.List.{flat_map}
use Rattle.std.specs.List.Sorted.{IsStrictlySortedBy}
use Rattle.std.specs.Map.{keys_of}
use Rattle.std.specs.Option.{ForSome}
use Rattle.std.specs.Ordering.{nat_cmp}
use Rattle.book_texts.specs.RunTexts.{IsRunText}
use Rattle.cap_values.specs.declared.message.SsfMsg.{SsfMsg}
use Rattle.cap_values.specs.declared.message.SsfMsg.TheVariants.{InitialDp, EventReport, ChargingReport, Ended}
use Rattle.live_recovery.specs.Laws.{NoneIsRefused}
use Rattle.part_laws.specs.Chosen.{Choice, chosen}
use Rattle.part_laws.specs.Numbers.{unnumbered_book}
use Rattle.run_outputs.specs.Kept.{own_books}
use Rattle.run_outputs.specs.Parts.{part_by, part_of_account}
use Rattle.run_values.specs.Setups.{Setup, account_of}
use Rattle.run_values.specs.declared.post.Answer.{Answer}
use Rattle.run_values.specs.declared.post.Body.{Body}
use Rattle.run_values.specs.declared.post.Body.TheVariants.{Ssf, Recharge}
use Rattle.runs_core.specs.Runs.{IsRun}
use Rattle.account_core.specs.Closed.{Closed}
use Rattle.turn_account.specs.Seen.{StoodIn}
use Rattle.tariff_core.specs.Laws.{IsProper}

-- the accounts and the calls of a part, by the account of each call
abbrev pub choice_of : List ℕ → (ℕ → Option ℕ) → ℕ → Choice
choice_of firsts payer part = record { accounts = λ account. part_of_account firsts account == part; calls = λ call. part_by firsts (payer call) call == part }

-- a call that a subscriber begins has the subscriber's account
abbrev pub BeginsAtAccount : Setup → (ℕ → Option ℕ) → ℕ → SsfMsg → Type 0
BeginsAtAccount setup payer call (InitialDp other calling called) = ForSome (account_of calling setup.subscribers) (λ account. payer call ≡ Some account)
BeginsAtAccount setup payer call (EventReport event leg mode) = Unit {0}
BeginsAtAccount setup payer call (ChargingReport active info) = Unit {0}
BeginsAtAccount setup payer call Ended = Unit {0}

-- so it is of what is posted
abbrev pub IsPaidBy : Setup → (ℕ → Option ℕ) → Body → Type 0
IsPaidBy setup payer (Ssf call message) = BeginsAtAccount setup payer call message
IsPaidBy setup payer (Recharge account amount until) = Unit {0}

-- so it is of all items
abbrev pub ArePaidBy : Setup → (ℕ → Option ℕ) → List (ℕ × Body) → Type 0
ArePaidBy setup payer given = All (λ item. IsPaidBy setup payer item.1) given

-- one worker was given the items of a part alone, none of its asks was refused, and these are the books of the part's own accounts
pub record IsPlayedAlone (setup : Setup) (firsts : List ℕ) (payer : ℕ → Option ℕ) (given : List (ℕ × Body)) (part : ℕ) (kept : List Closed) : Type 0 where
  pub answers : List Answer
  pub books : List Closed
  pub run : IsRun StoodIn setup 1 (chosen (choice_of firsts payer part) given) answers books
  pub none : NoneIsRefused answers
  pub own : kept ≡ own_books firsts part books

-- so it is of each part
pub record ArePlayedAlone (setup : Setup) (firsts : List ℕ) (payer : ℕ → Option ℕ) (given : List (ℕ × Body)) (parts : List (List Closed)) : Type 0 where
  pub count : length parts ≡ 1 + length firsts
  pub each : (part : ℕ) (d : List Closed) → part < length parts → IsPlayedAlone setup firsts payer given part (slice_index_or parts part d)

-- books, one part's after another's, are those of one run, but for the numbers of settles, and have its lines
pub record AreAsOfOneRun (books all : List Closed) : Type 0 where
  pub same : map unnumbered_book all ≡ map unnumbered_book books
  pub lines : (one other : List ℕ) → IsRunText all one → IsRunText books other → one ≡ other

-- so they are where each part was played alone, by the books of one worker that was given all items
abbrev pub PartsAreAsOneRun : Type 0
PartsAreAsOneRun =
    (setup : Setup) (firsts : List ℕ) (payer : ℕ → Option ℕ) (given : List (ℕ × Body)) (answers : List Answer) (books : List Closed) (parts : List (List Closed))
    → IsProper setup.tariff → IsStrictlySortedBy nat_cmp (keys_of setup.accounts) → ArePaidBy setup payer given → IsRun StoodIn setup 1 given answers books → NoneIsRefused answers
    → ArePlayedAlone setup firsts payer given parts → AreAsOfOneRun books (flat_map (λ own. own) parts)
