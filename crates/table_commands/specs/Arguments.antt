-- What words ask of the program.
use Rattle.std.specs.Prelude.{◌≡◌, ◌≢◌, ◌⊎◌, Bool, false, List, [], ◌∷◌, Option, Some, None, Result, Ok, Err, ⊤, codes, if◌then◌else◌, ok_or, option_map}
use Rattle.std.specs.Str.{bytes_eq}
use Rattle.clap.specs.Words.{IsAmong, Row, Text}
use Rattle.clap.specs.declared.error.kind.ErrorKind.{ErrorKind}
use Rattle.clap.specs.declared.error.kind.ErrorKind.TheVariants as kind
use Rattle.run_values.specs.Logs.{log_wish_of}
use Rattle.run_values.specs.Options.{ask_of, live_ask_of}
use Rattle.price_core.specs.RatesOf.{rates_of}
use Rattle.table_commands.specs.AuditWords.{audit_in}
use Rattle.table_commands.specs.CommandLine.{command_in, errors_in}
use Rattle.table_commands.specs.Options.{wished_account, wished_plan}
use Rattle.table_commands.specs.RunWords.{run_in}
use Rattle.table_commands.specs.ServeWords.{serve_in}
use Rattle.table_commands.specs.QuoteWishes.{quote_wish_of}
use Rattle.table_commands.specs.QuoteWords.{wished_quote}
use Rattle.table_commands.specs.RateWords.{wished_rate}
use Rattle.rating.specs.SaidOf.{rate_wish_of as rate_wish_of}
use Rattle.table_commands.specs.Wishes.{Wish, Audits, Prices, Quotes, RatesRecords, Replays, Runs, RunsInto, Serves}
use Rattle.table_commands.specs.declared.request.Request.{Request}
use Rattle.table_commands.specs.declared.request.Request.TheVariants as request
use Rattle.table_commands.specs.declared.words_fault.WordsFault.{WordsFault}
use Rattle.table_commands.specs.declared.words_fault.WordsFault.TheVariants as fault

-- what a command over a table is asked for, if its options say it
abbrev pub table_wish_in : Text → List Row → Option Wish
table_wish_in name options =
    if bytes_eq name (codes "price") then option_map (λ plan. Prices plan) (wished_plan options)
    else if bytes_eq name (codes "replay") then wished_account options
    else if bytes_eq name (codes "audit") then Some (Audits (audit_in options))
    else if bytes_eq name (codes "quote") then option_map (λ quote. Quotes quote) (wished_quote options)
    else if bytes_eq name (codes "rate") then option_map (λ rate. RatesRecords rate) (wished_rate options)
    else None

-- what a command is asked for, or why it isn't
abbrev pub wish_in : Option (Text × List Row) → Result Wish WordsFault
wish_in None = Err fault.Arguments
wish_in (Some command) =
    if bytes_eq command.0 (codes "run") then run_in command.1
    else if bytes_eq command.0 (codes "serve") then serve_in command.1
    else ok_or (table_wish_in command.0 command.1) fault.Arguments

-- the request is what was wished, or the fault is why nothing is
abbrev pub IsRequestOf : Result Wish WordsFault → Result Request WordsFault → Type 0
IsRequestOf wish (Ok (request.Price plan)) = wish ≡ Ok (Prices (rates_of plan))
IsRequestOf wish (Ok (request.Replay account)) = wish ≡ Ok (Replays account.opening account.limit)
IsRequestOf wish (Ok (request.Run options)) = wish ≡ Ok (Runs (ask_of options))
IsRequestOf wish (Ok (request.RunInto options folder)) = wish ≡ Ok (RunsInto (ask_of options) folder.now)
IsRequestOf wish (Ok (request.Audit ask)) = wish ≡ Ok (Audits ask)
IsRequestOf wish (Ok (request.Quote ask)) = wish ≡ Ok (Quotes (quote_wish_of ask))
IsRequestOf wish (Ok (request.Rate ask)) = wish ≡ Ok (RatesRecords (rate_wish_of ask))
IsRequestOf wish (Ok (request.Serve options log)) = wish ≡ Ok (Serves (live_ask_of options) (option_map log_wish_of log))
IsRequestOf wish (Err fault.Arguments) = wish ≡ Err fault.Arguments
IsRequestOf wish (Err fault.Config) = wish ≡ Err fault.Config
IsRequestOf wish _ = ⊥

-- the word `--explain` is in front of the others
abbrev pub explains : List Text → Bool
explains [] = false
explains (word ∷ words) = bytes_eq word (codes "--explain")

-- the words ask for help
abbrev pub AsksHelp : List Text → Type 0
AsksHelp words = IsAmong kind.DisplayHelp (errors_in words)

-- the words ask for the version
abbrev pub AsksVersion : List Text → Type 0
AsksVersion words = IsAmong kind.DisplayVersion (errors_in words)

-- an error of clap that answers no wish: it is neither help nor version
abbrev pub IsMistake : ErrorKind → Type 0
IsMistake error = (error ≢ kind.DisplayHelp) × (error ≢ kind.DisplayVersion)

-- the words ask for this
pub record AsksFor (words : List Text) (wish : Wish) : Type 0 where
  pub parsed : errors_in words ≡ []
  pub wish_is : wish_in (command_in words) ≡ Ok wish

-- the words name a command that is refused so
pub record AsksInVain (words : List Text) (why : WordsFault) : Type 0 where
  pub parsed : errors_in words ≡ []
  pub refused : wish_in (command_in words) ≡ Err why

-- the words ask for nothing that the program does: they don't parse, or an option has no number in its range
abbrev pub AsksNothing : List Text → Type 0
AsksNothing words = ((error : ErrorKind) × IsAmong error (errors_in words) × IsMistake error) ⊎ AsksInVain words fault.Arguments

-- what is read from the words is what they ask for; memory may run out at any
abbrev pub IsRead : List Text → Result Request WordsFault → Type 0
IsRead words (Ok (request.Text text)) = AsksHelp words ⊎ AsksVersion words
IsRead words (Ok (request.Price plan)) = AsksFor words (Prices (rates_of plan))
IsRead words (Ok (request.Replay account)) = AsksFor words (Replays account.opening account.limit)
IsRead words (Ok (request.Run options)) = AsksFor words (Runs (ask_of options))
IsRead words (Ok (request.RunInto options folder)) = AsksFor words (RunsInto (ask_of options) folder.now)
IsRead words (Ok (request.Audit ask)) = AsksFor words (Audits ask)
IsRead words (Ok (request.Quote ask)) = AsksFor words (Quotes (quote_wish_of ask))
IsRead words (Ok (request.Rate ask)) = AsksFor words (RatesRecords (rate_wish_of ask))
IsRead words (Ok (request.Serve options log)) = AsksFor words (Serves (live_ask_of options) (option_map log_wish_of log))
IsRead words (Err fault.Arguments) = AsksNothing words
IsRead words (Err fault.OutOfMemory) = ⊤
IsRead words (Err fault.Config) = AsksInVain words fault.Config

-- what is answered to an error of clap
abbrev pub IsClapRefusal : ErrorKind → Result Request WordsFault → Type 0
IsClapRefusal error (Ok (request.Text text)) = (error ≡ kind.DisplayHelp) ⊎ (error ≡ kind.DisplayVersion)
IsClapRefusal error (Ok _) = ⊥
IsClapRefusal error (Err fault.Arguments) = IsMistake error × (error ≢ kind.OutOfMemory)
IsClapRefusal error (Err fault.OutOfMemory) = ⊤
IsClapRefusal error (Err _) = ⊥
