-- What the input of `serve` says before its rows, or its first fault.
use Rattle.std.specs.Prelude.{◌||◌, ℕ, Bool, List, Result, Ok, Err, codes, if◌then◌else◌}
use Rattle.std.specs.Io.BufRead.{drop_through, take_through}
use Rattle.std.specs.Str.{bytes_eq}
use Rattle.run_texts.specs.FirstSections.{first_section}
use Rattle.run_texts.specs.Inputs.{tariff_in, as_input_fault}
use Rattle.run_texts.specs.Setups.{TableSetup, table_setup_of}
use Rattle.run_texts.specs.declared.input_fault.InputFault.{InputFault}
use Rattle.run_texts.specs.declared.input_fault.InputFault.TheVariants as input
use Rattle.table_core.specs.Judging.{and_then}
use Rattle.table_core.specs.Rows.{rows_of}
use Rattle.tariff_core.specs.Bands.{Band}
use Rattle.live_answers.specs.declared.error.ServeError.{ServeError}
use Rattle.live_answers.specs.declared.error.ServeError.TheVariants as error

-- the tariff, the accounts and subscribers, and the text of the rows
pub record LiveInput : Type 0 where
  pub tariff : List Band
  pub setup : TableSetup
  pub rows : List ℕ

-- whether a line is the header of message rows: exactly that, ended by LF, CR LF or the end of the text
abbrev pub is_message_header : List ℕ → Bool
is_message_header line =
    bytes_eq line (codes "moment,number,call,from,what,x1,x2,x3,x4\n") || bytes_eq line (codes "moment,number,call,from,what,x1,x2,x3,x4\r\n")
    || bytes_eq line (codes "moment,number,call,from,what,x1,x2,x3,x4")

-- the rows behind the header, with which a text begins
abbrev pub behind_header : List ℕ → Result (List ℕ) ServeError
behind_header text = if is_message_header (take_through 10 text) then Ok (drop_through 10 text) else Err error.Header

-- what a section says, its fault as one of `serve`
abbrev pub as_serve_fault : {X : Type 0} → Result X InputFault → Result X ServeError
as_serve_fault (Ok x) = Ok x
as_serve_fault (Err why) = Err (error.Input why)

-- what an input says before its rows: its dividers are judged first, then the tariff, the setup and the header
abbrev pub live_input_of : List ℕ → Result LiveInput ServeError
live_input_of text =
    and_then (as_serve_fault (first_section text)) (λ one.
    and_then (as_serve_fault (first_section one.rest)) (λ two.
    and_then (as_serve_fault (tariff_in one.section)) (λ tariff.
    and_then (as_serve_fault (as_input_fault input.Setup (table_setup_of (rows_of two.section)))) (λ setup.
    and_then (behind_header two.rest) (λ rows.
    Ok (record { tariff = tariff; setup = setup; rows = rows }))))))
