-- What is kept of a legal history while its entries are judged one after another.
use Rattle.std.specs.Prelude.{◌≡◌, ◌+◌, ◌≤◌, ℕ, Option, List}
use Rattle.account_core.specs.Answers.{IsLegalPast}
use Rattle.account_core.specs.Available.{available, credits}
use Rattle.account_core.specs.Entries.{EntryData}
use Rattle.account_core.specs.Expiry.{last_moment}
use Rattle.account_core.specs.Kept.{KnowsEach}
use Rattle.account_core.specs.declared.call_states.CallStates.{CallStates}
use Rattle.account_core.specs.declared.tally.Tally.{Tally}
use Rattle.price_core.specs.declared.plan.TheConstants.{MAX_MONEY}

-- a tally with these parts
abbrev pub tally_of : CallStates → ℕ → ℕ → Option ℕ → Tally
tally_of calls funds available last = record { calls = calls; funds = funds; available = available; last_moment = last }

-- the history is legal from this opening, and the states, the totals and the last moment are those of the history
pub record IsTallied (opening : ℕ) (until : Option ℕ) (h : List EntryData) (tally : Tally) : Type 0 where
  pub small : opening ≤ MAX_MONEY
  pub legal : IsLegalPast opening until h
  pub tells : KnowsEach tally.calls h
  pub funds_are : tally.funds ≡ opening + credits h
  pub credit_is : tally.available ≡ available opening h
  pub last_is : tally.last_moment ≡ last_moment until h
