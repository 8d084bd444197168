-- What `quote` is asked for, as plain data.
use Rattle.std.specs.Prelude.{ℕ, List, Option}
use Rattle.cap_values.specs.NumberDigits.{digits_of_number}
use Rattle.table_commands.specs.declared.request.QuoteAsk.{QuoteAsk}
use Rattle.tariff_core.specs.declared.clock.Clock.{Clock}

-- the digits of the called number, the moment of the answer, perhaps how long the call lasts and a credit, and how moments are printed
pub record QuoteWish : Type 0 where
  pub called : List ℕ
  pub at : ℕ
  pub talk : Option ℕ
  pub credit : Option ℕ
  pub clock : Clock

-- what the code asks for
abbrev pub quote_wish_of : QuoteAsk → QuoteWish
quote_wish_of ask = record { called = digits_of_number ask.called; at = ask.at; talk = ask.talk; credit = ask.credit; clock = ask.clock }
