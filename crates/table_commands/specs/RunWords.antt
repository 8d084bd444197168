-- What the options of `run` say.
use Rattle.std.specs.Prelude.{◌&&◌, ℕ, Bool, not, is_some, nat_le, List, Option, Some, None, Result, Ok, Err, true, false, codes, if◌then◌else◌, option_and_then, option_map, unwrap_or}
use Rattle.std.specs.Str.{bytes_eq}
use Rattle.std.specs.Str.Parse.{digits_value}
use Rattle.clap.specs.Words.{Row, Text, first_of}
use Rattle.run_values.specs.Configs.{is_config}
use Rattle.run_values.specs.Options.{is_trace}
use Rattle.run_values.specs.declared.options.PartsAsk.{PartsAsk}
use Rattle.run_values.specs.declared.options.RunAsk.{RunAsk}
use Rattle.run_values.specs.declared.options.RunOutput.{RunOutput}
use Rattle.run_values.specs.declared.options.RunOutput.TheVariants as output
use Rattle.ssf_core.specs.declared.config.DefaultHandling.{DefaultHandling}
use Rattle.ssf_core.specs.declared.config.DefaultHandling.TheVariants as handling
use Rattle.table_core.specs.Decimals.{is_decimal}
use Rattle.table_commands.specs.Options.{clock_by, has_flag, optional_number_in}
use Rattle.table_commands.specs.Wishes.{Wish, Runs, RunsInto}
use Rattle.table_commands.specs.declared.words_fault.WordsFault.{WordsFault}
use Rattle.table_commands.specs.declared.words_fault.WordsFault.TheVariants as fault

-- the number that 1 to 20 digits write, however large
abbrev pub number_written : Text → Option ℕ
number_written text = if is_decimal text then Some (digits_value 10 text) else None

-- the number of an option, this one where it is left out
abbrev pub number_or : ℕ → Option Text → Option ℕ
number_or default None = Some default
number_or default (Some text) = number_written text

-- the number of an option, or its default
abbrev pub setting_in : List Row → Text → ℕ → Option ℕ
setting_in options name default = number_or default (first_of name options)

-- how many workers there are to be: 0 to 99; where that is left out 2, but 1 in parts
abbrev pub workers_in : List Row → Option ℕ
workers_in options =
    option_map (λ workers. unwrap_or workers (if is_some (first_of (codes "parts") options) then 1 else 2)) (optional_number_in options (codes "workers") 99)

-- in how many parts a run is played, if it is: at least one, with one worker at most, and no trace; and by how many threads: at least one, which it is where that is left out. Without parts there are no threads
abbrev pub wished_parts : ℕ → RunOutput → Option ℕ → Option ℕ → Option (Option PartsAsk)
wished_parts workers output None None = Some None
wished_parts workers output None (Some threads) = None
wished_parts workers output (Some count) threads =
    if nat_le 1 count && nat_le workers 1 && not (is_trace output) && nat_le 1 (unwrap_or threads 1)
    then Some (Some (record { count = count; threads = unwrap_or threads 1 })) else None

-- what the options say of that: at most 64 threads
abbrev pub parts_in : List Row → ℕ → RunOutput → Option (Option PartsAsk)
parts_in options workers output =
    option_and_then (λ count. option_and_then (λ threads. wished_parts workers output count threads) (optional_number_in options (codes "threads") 64))
    (optional_number_in options (codes "parts") 4294967295)

-- what is to become of a call without instructions: `release`, which it is where that is left out, or `proceed`
abbrev pub handling_of : Option Text → Option DefaultHandling
handling_of None = Some handling.Release
handling_of (Some text) =
    if bytes_eq text (codes "release") then Some handling.Release else if bytes_eq text (codes "proceed") then Some handling.Proceed else None

-- what the switch does where no answer comes, as the options say
abbrev pub handling_in : List Row → Option DefaultHandling
handling_in options = handling_of (first_of (codes "default") options)

-- what is printed: the lines, where none is asked for of the table of books, the table of calls and the trace. Only one of these may be. Moments may be
-- printed as dates and times in the table of calls and in the trace alone. Where all of them go into a folder, none of them is asked for, and the run is that of a trace
abbrev pub output_of : Bool → Bool → Bool → Bool → Bool → Option RunOutput
output_of false false false false false = Some output.Lines
output_of false true false false false = Some output.Book
output_of false false true false dates = Some (output.Calls (clock_by dates))
output_of false false false true dates = Some (output.Trace (clock_by dates))
output_of true false false false dates = Some (output.Trace (clock_by dates))
output_of _ _ _ _ _ = None

-- what the options ask to print, and whether it goes into a folder
abbrev pub output_in : List Row → Option RunOutput
output_in options =
    output_of (is_some (first_of (codes "into") options)) (has_flag options (codes "book")) (has_flag options (codes "calls")) (has_flag options (codes "trace")) (has_flag options (codes "clock"))

-- a run that is asked for, where each of these is known: its workers, its times, what a switch does without instructions, what is printed, and its parts
abbrev pub asked_run : Option ℕ → Option ℕ → Option ℕ → Option ℕ → Option ℕ → Option ℕ → Option DefaultHandling → Option RunOutput → (ℕ → RunOutput → Option (Option PartsAsk)) → Option RunAsk
asked_run (Some workers) (Some wanted) (Some least) (Some tssf) (Some tccd) (Some delay) (Some default) (Some output) parts_by =
    option_map (λ parts. record {
      workers = workers;
      wanted = wanted;
      least = least;
      tssf = tssf;
      tccd = tccd;
      delay = delay;
      default_handling = default;
      output = output;
      parts = parts;
    })
    (parts_by workers output)
asked_run _ _ _ _ _ _ _ _ _ = None

-- what the options ask for, where each has a number or a word of its own
unfoldable pub ask_in : List Row → Option RunAsk
ask_in options =
    asked_run (workers_in options) (setting_in options (codes "wanted") 600) (setting_in options (codes "least") 50) (setting_in options (codes "tssf") 100)
    (setting_in options (codes "tccd") 50) (setting_in options (codes "delay") 2) (handling_in options) (output_in options) (parts_in options)

-- a run that is printed, or that goes into a folder
abbrev pub run_wish : RunAsk → Option Text → Wish
run_wish ask None = Runs ask
run_wish ask (Some folder) = RunsInto ask folder

-- the run that is asked for, its times judged
abbrev pub judged_run : Option RunAsk → Option Text → Result Wish WordsFault
judged_run None folder = Err fault.Arguments
judged_run (Some ask) folder = if is_config ask then Ok (run_wish ask folder) else Err fault.Config

-- what a run is asked for, judged
abbrev pub run_in : List Row → Result Wish WordsFault
run_in options = judged_run (ask_in options) (first_of (codes "into") options)
