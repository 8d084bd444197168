-- The faults of a run, of its files and of the service, as the program's.
use Rattle.std.specs.Prelude.{Option, Some, None, if◌then◌else◌}
use Rattle.std.specs.declared.io.ErrorKind.{ErrorKind}
use Rattle.live_answers.specs.declared.error.ServeError.{ServeError}
use Rattle.live_answers.specs.declared.error.ServeError.TheVariants as serve
use Rattle.live_answers.specs.declared.stage.LiveFault.TheVariants as live
use Rattle.run_values.specs.declared.log_fault.LogFault.{LogFault}
use Rattle.run_values.specs.declared.log_fault.LogFault.TheVariants as log
use Rattle.run_command.specs.declared.error.RunError.{RunError}
use Rattle.run_command.specs.declared.error.RunError.TheVariants as error
use Rattle.run_values.specs.declared.run_fault.RunFault.TheVariants as run
use Rattle.table_commands.specs.Faults.{no_header, of_run_input}
use Rattle.table_commands.specs.Input.{is_out_of_memory}
use Rattle.table_commands.specs.declared.fault.Fault.{Fault}
use Rattle.table_commands.specs.declared.fault.Fault.TheVariants as fault
use Rattle.table_commands.specs.declared.fault.TableName.TheVariants as table_name

-- the fault of a log; memory that runs out while it is opened is that of the run
abbrev pub of_log : LogFault → Fault
of_log log.Other = fault.Log log.Other
of_log log.Device = fault.Log log.Device
of_log log.OutOfMemory = fault.Run run.OutOfMemory

-- the fault of files that couldn't be written, with an error of this kind
abbrev pub of_files : ErrorKind → Fault
of_files why = if is_out_of_memory why then fault.Run run.OutOfMemory else fault.Into

-- the fault of an input that isn't served to its end
abbrev pub of_serve : ServeError → Option Fault
of_serve (serve.Input why) = Some (of_run_input why)
of_serve serve.Header = Some (no_header table_name.Messages)
of_serve (serve.Log why) = Some (of_log why)
of_serve (serve.LogRow row kind) = Some (fault.LogRow row kind)
of_serve (serve.Live live.Input) = Some fault.Device
of_serve (serve.Live live.Output) = None
of_serve (serve.Live live.Log) = Some (fault.Log log.Device)
of_serve (serve.Run why) = Some (fault.Run why)

-- the fault of a run that has no text
abbrev pub of_run : RunError → Fault
of_run (error.Input why) = of_run_input why
of_run (error.Run why) = fault.Run why
