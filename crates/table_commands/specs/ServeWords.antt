-- What the options of `serve` say.
use Rattle.std.specs.Prelude.{ℕ, Bool, List, Option, Some, None, Result, Ok, Err, true, false, codes, if◌then◌else◌, option_and_then, option_map}
use Rattle.clap.specs.Words.{Row, Text, first_of}
use Rattle.run_values.specs.Configs.{is_live_config}
use Rattle.run_values.specs.Logs.{LogWish}
use Rattle.run_values.specs.declared.live.LiveAsk.{LiveAsk}
use Rattle.run_values.specs.declared.live.LiveOutput.{LiveOutput}
use Rattle.run_values.specs.declared.live.LiveOutput.TheVariants as output
use Rattle.table_commands.specs.Options.{has_flag, optional_number_in}
use Rattle.table_commands.specs.RunWords.{setting_in}
use Rattle.table_commands.specs.Wishes.{Wish, Serves}
use Rattle.table_commands.specs.declared.words_fault.WordsFault.{WordsFault}
use Rattle.table_commands.specs.declared.words_fault.WordsFault.TheVariants as fault

-- what is printed at the end: nothing, where none is asked for of the lines, the table of books and the table of calls. Only one of these may be
abbrev pub end_of : Bool → Bool → Bool → Option LiveOutput
end_of false false false = Some output.Nothing
end_of true false false = Some output.Lines
end_of false true false = Some output.Book
end_of false false true = Some output.Calls
end_of _ _ _ = None

-- what the options ask to print at the end
abbrev pub end_in : List Row → Option LiveOutput
end_in options = end_of (has_flag options (codes "lines")) (has_flag options (codes "book")) (has_flag options (codes "calls"))

-- what the options ask for, where each has a number of its own
unfoldable pub live_ask_in : List Row → Option LiveAsk
live_ask_in options =
    option_and_then (λ wanted. option_and_then (λ least. option_and_then (λ tccd. option_map (λ output. record {
      wanted = wanted;
      least = least;
      tccd = tccd;
      output = output;
    })
    (end_in options)) (setting_in options (codes "tccd") 50)) (setting_in options (codes "least") 50)) (setting_in options (codes "wanted") 600)

-- the log that is to be kept, if one is. Where there is none, none of its messages can be printed again
abbrev pub log_of : Option Text → Option ℕ → Option (Option LogWish)
log_of None None = Some None
log_of None (Some again) = None
log_of (Some path) again = Some (Some (record { path = path; again = again }))

-- the log that the options ask for; a message has a number of 64 bits
abbrev pub log_in : List Row → Option (Option LogWish)
log_in options = option_and_then (log_of (first_of (codes "log") options)) (optional_number_in options (codes "again") 18446744073709551615)

-- the service that is asked for, its times judged
abbrev pub judged_live : Option LiveAsk → Option (Option LogWish) → Result Wish WordsFault
judged_live None log = Err fault.Arguments
judged_live (Some ask) None = Err fault.Arguments
judged_live (Some ask) (Some log) = if is_live_config ask then Ok (Serves ask log) else Err fault.Config

-- what the service is asked for, judged
abbrev pub serve_in : List Row → Result Wish WordsFault
serve_in options = judged_live (live_ask_in options) (log_in options)
