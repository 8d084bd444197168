-- What a command is asked for, as plain data.
use Rattle.std.specs.Prelude.{ℕ, List, Option}
use Rattle.book_texts.specs.declared.size.AuditAsk.{AuditAsk}
use Rattle.run_values.specs.Logs.{LogWish}
use Rattle.run_values.specs.declared.live.LiveAsk.{LiveAsk}
use Rattle.run_values.specs.declared.options.RunAsk.{RunAsk}
use Rattle.price_core.specs.Rates.{Rates}
use Rattle.table_commands.specs.QuoteWishes.{QuoteWish}
use Rattle.rating.specs.Asks.{RateWish}

-- the price of reports under a plan, the replies of an account with an opening credit and a limit of entries, a run that is printed, one whose lines and tables go into a folder, the audit of a table of books, what a call to a number costs, what each record of a table should have cost, or the live service and the log that it keeps
pub data Wish : Type 0 where
  Prices : (plan : Rates) → Wish
  Replays : (opening limit : ℕ) → Wish
  Runs : (ask : RunAsk) → Wish
  RunsInto : (ask : RunAsk) (folder : List ℕ) → Wish
  Audits : (ask : AuditAsk) → Wish
  Quotes : (quote : QuoteWish) → Wish
  RatesRecords : (rate : RateWish) → Wish
  Serves : (ask : LiveAsk) (log : Option LogWish) → Wish
