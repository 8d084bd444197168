-- A command line that has one option or one command more.
use Rattle.std.proofs.Common.{◌≡◌, ◌<◌, ◌+◌, ℕ, List, false, ap, sym, ◌∙◌, length, take, get_or}
use Rattle.std.proofs.lemmas.List.Sums.{fold_more}
use Rattle.clap.specs.Words.{AddsArg, AddsSubcommand, App, app_of, rule_of, shape_of, with_rule, with_subcommand}
use Rattle.clap.specs.declared.builder.arg.Arg.{Arg}
use Rattle.clap.specs.declared.builder.command.Command.{Command}
use Rattle.clap.specs.declared.builder.command.Command.TheViews.{out-Command as fields_of}
use Rattle.table_commands.specs.Commands.{app_in, rule_in, with_commands, with_options}
use Rattle.table_commands.specs.declared.command_options.CommandOption.{CommandOption}
use Rattle.table_commands.specs.declared.command_options.CommandWords.{CommandWords}

pub option_added : (old new : Command) (arg : Arg) (before : App) (options : List CommandOption) (i : ℕ) (other : CommandOption) → i < length options → AddsArg old arg new
    → arg.global ≡ false → rule_of arg ≡ rule_in (get_or options i other) → app_of old ≡ with_options before (take i options) → app_of new ≡ with_options before (take (i + 1) options)
option_added old new arg before options i other within adds local is was =
    adds.shape local ∙ ap (λ (app : App). with_rule app (rule_of arg)) was ∙ ap (with_rule (with_options before (take i options))) is
    ∙ sym (fold_more (λ (app : App) (option : CommandOption). with_rule app (rule_in option)) before options i other within)

pub command_added : (old sub new : Command) (before : App) (commands : List CommandWords) (i : ℕ) (other : CommandWords) → i < length commands → AddsSubcommand old sub new
    → (fields_of sub).has_globals ≡ false → app_of sub ≡ app_in (get_or commands i other) → app_of old ≡ with_commands before (take i commands) → app_of new ≡ with_commands before (take (i + 1) commands)
command_added old sub new before commands i other within adds local is was =
    adds.shape local ∙ ap (λ (app : App). with_subcommand app (shape_of sub)) was ∙ ap (λ (app : App). with_subcommand (with_commands before (take i commands)) app.top) is
    ∙ sym (fold_more (λ (app : App) (words : CommandWords). with_subcommand app (app_in words).top) before commands i other within)
