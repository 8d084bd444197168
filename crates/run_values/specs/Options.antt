-- What the options of a run say, and those of the live service.
use Rattle.std.specs.Prelude.{Bool, true, false, Option, None, if◌then◌else◌}
use Rattle.run_values.specs.declared.live.LiveAsk.{LiveAsk}
use Rattle.run_values.specs.declared.live.LiveOptions.{LiveOptions}
use Rattle.run_values.specs.declared.options.PartsAsk.{PartsAsk}
use Rattle.run_values.specs.declared.options.RunAsk.{RunAsk}
use Rattle.run_values.specs.declared.options.RunOptions.{RunOptions}
use Rattle.run_values.specs.declared.options.RunOutput.{RunOutput}
use Rattle.run_values.specs.declared.options.RunOutput.TheVariants as output

-- what was asked for
abbrev pub ask_of : RunOptions → RunAsk
ask_of options = record {
  workers = options.workers;
  wanted = options.service.wanted;
  least = options.service.least;
  tssf = options.ssf.tssf;
  tccd = options.ssf.tccd;
  delay = options.delay;
  default_handling = options.ssf.default_handling;
  output = options.output;
  parts = options.parts;
}

-- whether the trace is printed
abbrev pub is_trace : RunOutput → Bool
is_trace output.Lines = false
is_trace output.Book = false
is_trace (output.Calls clock) = false
is_trace (output.Trace clock) = true

-- in how many parts a run is played, if it is: a trace is of a run that isn't in parts
abbrev pub played_parts : RunAsk → Option PartsAsk
played_parts ask = if is_trace ask.output then None else ask.parts

-- what was asked of the live service
abbrev pub live_ask_of : LiveOptions → LiveAsk
live_ask_of options = record {
  wanted = options.service.wanted;
  least = options.service.least;
  tccd = options.service.tccd;
  output = options.output;
}
