use Rattle.std.proofs.Common.{◌≡◌, ◌≤◌, length, arith}
use Rattle.std.specs.IoError.{error_kind}
use Rattle.table_commands.proofs.InputLemmas.{failed_may_come, fits, same_bytes}
use Rattle.table_core.proofs.Known.{if_known}
use Rattle.table_commands.specs.Faults.{RefusesCommand}
use Rattle.table_commands.specs.Input.{sized}
use Rattle.table_commands.proofs.input.read_input.Goals as goal

pub returns-in-Ok-2 : goal.returns-in-Ok-2
returns-in-Ok-2 g c =
    let read = rw (c.take-input.ensures.limit, c.take-input.ensures.inner, c.new-bytes.ensures.items) at c.in-Ok-2.ensures.bytes in
    let count : c.in-Ok-2.field-0 ≡ c.in-Ok.count = cc in
    let few : length c.read_to_end.new.buf.items ≤ 16777216 = omega (arith, c.in-Ok-2.ensures.ok, c.read_to_end.new.buf.ok.0, c.new-bytes.ensures.len) in
    record {
      read = fits (g.I.Read.remaining c.args.input) c.read_to_end.new.buf.items read few;
      same = same_bytes (g.I.Read.remaining c.args.input) c.read_to_end.new.buf.items read few;
    }

pub returns-in-Err-clause-read : goal.returns-in-Err-clause-read
returns-in-Err-clause-read g c = if_known (g.I.Read.remaining c.args.input) (λ text. RefusesCommand c.fault_of.result (sized text)) (λ text known.
    failed_may_come (error_kind c.in-Err.error) c.fault_of.result (sized text) c.fault_of.ensures.exact)
