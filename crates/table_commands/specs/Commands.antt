-- What clap makes of a command's words.
use Rattle.std.specs.Prelude.{List, fold}
use Rattle.clap.specs.Words.{App, Rule, new_app, with_rule, with_subcommand}
use Rattle.table_commands.specs.CommandLine.{flag_rule, option_rule}
use Rattle.table_commands.specs.declared.command_options.CommandOption.{CommandOption}
use Rattle.table_commands.specs.declared.command_options.CommandOption.TheVariants as option
use Rattle.table_commands.specs.declared.command_options.CommandWords.{CommandWords}

-- the rule of an option
abbrev pub rule_in : CommandOption → Rule
rule_in (option.Flag name help) = flag_rule name.now
rule_in (option.Value name value required help) = record (option_rule name.now) { required = required }

-- a command with these options besides
abbrev pub with_options : App → List CommandOption → App
with_options app options = fold (λ (before : App) (option : CommandOption). with_rule before (rule_in option)) app options

-- a command with its options
abbrev pub app_in : CommandWords → App
app_in words = with_options (new_app words.name.now) words.options.now

-- a program with these commands besides
abbrev pub with_commands : App → List CommandWords → App
with_commands app commands = fold (λ (before : App) (words : CommandWords). with_subcommand before (app_in words).top) app commands
