-- What the check of a history stands for, after the entries so far.
use Rattle.std.specs.Prelude.{◌≡◌, ◌≤◌, ℕ, Option, Some, None, List, [], length, min}
use Rattle.account_core.specs.Answers.{IsLegalPast}
use Rattle.account_core.specs.Available.{available}
use Rattle.account_core.specs.Entries.{EntryData}
use Rattle.account_core.specs.Sums.{AreSums}
use Rattle.account_core.specs.Tallied.{IsTallied}
use Rattle.account_core.specs.declared.account_sum.AccountSum.{AccountSum}
use Rattle.account_core.specs.declared.history_check.Heard.{Heard}
use Rattle.account_core.specs.declared.history_check.Heard.TheVariants.{Illegal, Legal, Nothing}
use Rattle.account_core.specs.declared.history_check.HistoryCheck.{HistoryCheck}
use Rattle.price_core.specs.declared.plan.TheConstants.{MAX_MONEY}

-- what was heard of a history from this opening with its last moment: no entry yet, or a tally of the history while it is legal, or that it isn't legal
abbrev pub IsHeardOf : ℕ → Option ℕ → List EntryData → Heard → Type 0
IsHeardOf opening until h (Nothing alloc last) = (last ≡ until) × (opening ≤ MAX_MONEY) × (h ≡ [])
IsHeardOf opening until h (Legal tally) = IsTallied opening until h tally.value
IsHeardOf opening until h Illegal = IsLegalPast opening until h → ⊥

-- a count of entries in 64 bits
abbrev pub entries_counted : ℕ → ℕ
entries_counted entries = min entries 18446744073709551615

-- the check is that of this history, from this opening with its last moment
pub record IsCheckOf (opening : ℕ) (until : Option ℕ) (h : List EntryData) (check : HistoryCheck) : Type 0 where
  pub heard : IsHeardOf opening until h check.heard
  pub opening_is : check.opening ≡ opening
  pub entries_are : check.entries ≡ entries_counted (length h)

-- what an account of this opening has come to by this history
pub record IsSumOf (opening : ℕ) (h : List EntryData) (sum : AccountSum) : Type 0 where
  pub opening_is : sum.opening ≡ opening
  pub available_is : sum.available ≡ available opening h
  pub entries_are : sum.entries ≡ entries_counted (length h)
  pub calls_are : AreSums h sum.calls.items

-- the same where the history is legal, and none where it isn't
abbrev pub SumsUp : ℕ → Option ℕ → List EntryData → Option AccountSum → Type 0
SumsUp opening until h None = IsLegalPast opening until h → ⊥
SumsUp opening until h (Some sum) = IsLegalPast opening until h × IsSumOf opening h sum

-- there is a tally, or no need of one
abbrev pub HasTally : Heard → Type 0
HasTally (Nothing alloc last) = ⊥
HasTally other = Unit {0}

-- a check has heard its opening
abbrev pub HasOpening : HistoryCheck → Type 0
HasOpening check = HasTally check.heard
