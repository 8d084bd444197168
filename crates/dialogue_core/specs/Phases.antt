-- Where a dialogue is and what it says, as plain data.
use Rattle.std.specs.Prelude.{ℕ, Bool, Option, List}
use Rattle.account_core.specs.Asked.{Asked}
use Rattle.cap_values.specs.Orders.{Order}
use Rattle.price_core.specs.Rates.{Rates}

-- the terms of a call: what it is charged by, how much is asked for, and the seconds from its beginning to the tariff switch
pub record Conditions : Type 0 where
  pub call : ℕ
  pub plan : Rates
  pub wanted : ℕ
  pub least : ℕ
  pub switch : Option ℕ

-- what follows a return: nothing, the call goes on, it is cleared as the credit is used up, or as a report was a forfeit or the account refused what was asked, or the dialogue is over
pub data Sequel : Type 0 where
  Nothing : Sequel
  Continues : Sequel
  Clears : Sequel
  Fails : Sequel
  Closes : Sequel

-- the states of the service. A report that is settled was taken at a moment
pub data Phase : Type 0 where
  FirstAsk : Conditions → Phase
  Running : Conditions → Phase
  Settling : Conditions → Bool → (at : ℕ) → Phase
  MoreAsk : Conditions → Phase
  Returning : Sequel → Phase
  Ending : Phase
  Closed : Phase

-- a turn: the account is asked, operations are sent, or the dialogue is over
pub data Says : Type 0 where
  Asks : Asked → Says
  Sends : List Order → Says
  Finished : Says
