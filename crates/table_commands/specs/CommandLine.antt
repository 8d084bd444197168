-- The command line, in clap's own words.
use Rattle.std.specs.Prelude.{List, ◌∷◌, [], Option, Some, true, codes, fold}
use Rattle.clap.specs.Simple.{on_top}
use Rattle.clap.specs.Words.{App, Row, Rule, Text, fault_of, new_app, new_rule, subcommand_of, with_rule, with_subcommand}
use Rattle.clap.specs.declared.builder.action.ArgAction.TheVariants.{Set, SetTrue}
use Rattle.clap.specs.declared.error.kind.ErrorKind.{ErrorKind}

-- `[--name N]`
abbrev pub option_rule : Text → Rule
option_rule name = record (new_rule name) { long = Some name; action = Some Set; value_names = 1 }

-- `--name N`
abbrev pub required_rule : Text → Rule
required_rule name = record (option_rule name) { required = true }

-- `[--name]`
abbrev pub flag_rule : Text → Rule
flag_rule name = record (new_rule name) { long = Some name; action = Some SetTrue }

-- a command with these options besides
abbrev pub with_rules : App → List Rule → App
with_rules app rules = fold with_rule app rules

-- `price --fee N --before N [--after N] [--free N] [--first N] [--step N]`
unfoldable pub price_app : App
price_app = with_rules (new_app (codes "price")) (required_rule (codes "fee") ∷ required_rule (codes "before") ∷ option_rule (codes "after")
    ∷ option_rule (codes "free") ∷ option_rule (codes "first") ∷ option_rule (codes "step") ∷ [])

-- `replay --opening N [--limit N]`
unfoldable pub replay_app : App
replay_app = with_rules (new_app (codes "replay")) (required_rule (codes "opening") ∷ option_rule (codes "limit") ∷ [])

-- `run [--wanted N] [--least N] [--tssf N] [--tccd N] [--delay N] [--workers N] [--parts N] [--threads N] [--default N] [--book] [--calls] [--trace] [--clock] [--into N]`
unfoldable pub run_app : App
run_app = with_rules (new_app (codes "run")) (option_rule (codes "wanted") ∷ option_rule (codes "least")
    ∷ option_rule (codes "tssf") ∷ option_rule (codes "tccd") ∷ option_rule (codes "delay")
    ∷ option_rule (codes "workers") ∷ option_rule (codes "parts") ∷ option_rule (codes "threads") ∷ option_rule (codes "default")
    ∷ flag_rule (codes "book") ∷ flag_rule (codes "calls") ∷ flag_rule (codes "trace") ∷ flag_rule (codes "clock") ∷ option_rule (codes "into") ∷ [])

-- `audit [--long] [--rows] [--lines]`
unfoldable pub audit_app : App
audit_app = with_rules (new_app (codes "audit")) (flag_rule (codes "long") ∷ flag_rule (codes "rows") ∷ flag_rule (codes "lines") ∷ [])

-- `quote --called N --at N [--for N] [--credit N] [--clock]`
unfoldable pub quote_app : App
quote_app = with_rules (new_app (codes "quote")) (required_rule (codes "called") ∷ required_rule (codes "at")
    ∷ option_rule (codes "for") ∷ option_rule (codes "credit") ∷ flag_rule (codes "clock") ∷ [])

-- `rate [--called NAME] [--answer NAME] [--paid NAME] [--time NAME] [--end NAME] [--before NAME] [--after NAME] [--differing] [--summary]`
unfoldable pub rate_app : App
rate_app = with_rules (new_app (codes "rate")) (option_rule (codes "called") ∷ option_rule (codes "answer") ∷ option_rule (codes "paid")
    ∷ option_rule (codes "time") ∷ option_rule (codes "end") ∷ option_rule (codes "before") ∷ option_rule (codes "after")
    ∷ flag_rule (codes "differing") ∷ flag_rule (codes "summary") ∷ [])

-- `serve [--wanted N] [--least N] [--tccd N] [--log N] [--again N] [--lines] [--book] [--calls]`
unfoldable pub serve_app : App
serve_app = with_rules (new_app (codes "serve")) (option_rule (codes "wanted") ∷ option_rule (codes "least") ∷ option_rule (codes "tccd")
    ∷ option_rule (codes "log") ∷ option_rule (codes "again") ∷ flag_rule (codes "lines") ∷ flag_rule (codes "book") ∷ flag_rule (codes "calls") ∷ [])

-- the program itself, `[--explain] [--plain]`, which has its version and commands besides
abbrev pub bare_app : App
bare_app =
    with_rules (on_top (λ top. record top { has_version = true; no_binary_name = true; subcommand_required = true }) (new_app (codes "prepaid")))
    (flag_rule (codes "explain") ∷ flag_rule (codes "plain") ∷ [])

-- the program, with its commands
unfoldable pub program_app : App
program_app = fold (λ (program command : App). with_subcommand program command.top) bare_app
    (price_app ∷ replay_app ∷ run_app ∷ audit_app ∷ quote_app ∷ rate_app ∷ serve_app ∷ [])

-- the kinds of error that clap has for the words; none where they parse
unfoldable pub errors_in : List Text → List ErrorKind
errors_in words = fault_of program_app words

-- the command that the words name, with its options
unfoldable pub command_in : List Text → Option (Text × List Row)
command_in words = subcommand_of program_app words
