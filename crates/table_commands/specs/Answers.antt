-- What the commands that print once their input is read make of it.
use Rattle.std.specs.Prelude.{◌≡◌, ℕ, List, [], MatchResult, Result, Ok, Err}
use Rattle.book_texts.specs.Audits.{Audited, IsAuditOf}
use Rattle.book_texts.specs.Books.{Books, books_of}
use Rattle.book_texts.specs.Sizes.{most_rows}
use Rattle.book_texts.specs.declared.size.AuditAsk.{AuditAsk}
use Rattle.table_commands.specs.QuoteWishes.{QuoteWish}
use Rattle.run_texts.specs.Inputs.{tariff_in}
use Rattle.table_core.specs.Judging.{and_then}
use Rattle.table_core.specs.Rows.{rows_of}
use Rattle.tariff_core.specs.Bands.{Band}
use Rattle.price_core.specs.Rates.{Rates}
use Rattle.table_commands.specs.Faults.{meaning_in, meaning_of_section}
use Rattle.table_commands.specs.Input.{sized, sized_as}
use Rattle.table_commands.specs.PriceLines.{price_lines}
use Rattle.table_commands.specs.Printouts.{Printout, plain}
use Rattle.table_commands.specs.Quotes.{IsQuoteText}
use Rattle.book_texts.specs.Replays.{replayed}
use Rattle.table_commands.specs.Reports.{table_reports_of}
use Rattle.table_commands.specs.declared.fault.Fault.{Fault}
use Rattle.table_commands.specs.declared.fault.TableName.TheVariants as table_name

-- what `price` makes of a table of reports: its lines, or the first fault
abbrev pub price_of_table : Rates → List ℕ → Result Printout Fault
price_of_table plan text =
    and_then (meaning_in table_name.Reports (table_reports_of plan (rows_of text))) (λ reports. Ok (plain (price_lines plan 0 reports)))

-- what `price` makes of an input, which is a table of reports: its lines, or the first fault
abbrev pub price_of_input : Rates → List ℕ → Result Printout Fault
price_of_input plan input = and_then (sized input) (price_of_table plan)

-- what `replay` makes of a table of operations
abbrev pub replay_of_table : ℕ → ℕ → List ℕ → Result Printout Fault
replay_of_table opening limit text = and_then (meaning_in table_name.Ops (replayed opening limit (rows_of text))) (λ lines. Ok (plain lines))

-- what `replay` makes of an input, which is a table of operations
abbrev pub replay_of_input : ℕ → ℕ → List ℕ → Result Printout Fault
replay_of_input opening limit input = and_then (sized input) (replay_of_table opening limit)

-- the text of an audit, which passes where each account's history is legal
abbrev pub printout_of_audit : Audited → Printout
printout_of_audit audit = record { text = audit.lines; passes = audit.passes; refused = []; unplaced = [] }

-- an audit of the books of a table is printed
pub record IsAuditPrinted (ask : AuditAsk) (text : List ℕ) (books : Books) (answer : Result Printout Fault) : Type 0 where
  pub audit : Audited
  pub is_audit : IsAuditOf (most_rows ask.size) ask.lines ask.rows (rows_of text) books audit
  pub printed : answer ≡ Ok (printout_of_audit audit)

-- what `audit` makes of a table of books, as it is asked
abbrev pub IsAuditOfTable : AuditAsk → List ℕ → Result Printout Fault → Type 0
IsAuditOfTable ask text answer =
    MatchResult (meaning_in table_name.Book (books_of (most_rows ask.size) (rows_of text))) (λ books. IsAuditPrinted ask text books answer) (λ why. answer ≡ Err why)

-- what `audit` makes of an input, which is a table of books, as it is asked
abbrev pub IsAuditOfInput : AuditAsk → List ℕ → Result Printout Fault → Type 0
IsAuditOfInput ask input answer = MatchResult (sized_as ask.size input) (λ text. IsAuditOfTable ask text answer) (λ why. answer ≡ Err why)

-- a quote of this tariff is printed
pub record IsQuotePrinted (bands : List Band) (wish : QuoteWish) (answer : Result Printout Fault) : Type 0 where
  pub text : List ℕ
  pub is_text : IsQuoteText bands wish text
  pub printed : answer ≡ Ok (plain text)

-- what `quote` makes of a tariff
abbrev pub IsQuoteOfTariff : QuoteWish → List ℕ → Result Printout Fault → Type 0
IsQuoteOfTariff wish text answer = MatchResult (meaning_of_section (tariff_in text)) (λ bands. IsQuotePrinted bands wish answer) (λ why. answer ≡ Err why)

-- what `quote` makes of an input, which is a tariff
abbrev pub IsQuoteOfInput : QuoteWish → List ℕ → Result Printout Fault → Type 0
IsQuoteOfInput wish input answer = MatchResult (sized input) (λ text. IsQuoteOfTariff wish text answer) (λ why. answer ≡ Err why)
