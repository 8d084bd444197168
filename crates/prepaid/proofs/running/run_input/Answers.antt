use Rattle.std.proofs.Common.{string_bytes}
use Rattle.run_values.specs.Options.{ask_of}
use Rattle.prepaid.proofs.RunLemmas.{read_behind, read_gives, read_said, unread_gives, unread_said}
use Rattle.prepaid.specs.Answers.{IsRunPrinted}
use Rattle.prepaid.specs.Printouts.{printout_of}
use Rattle.prepaid.proofs.running.run_input.Goals as goal

pub returns-in-Ok-clause-answer : goal.returns-in-Ok-clause-answer
returns-in-Ok-clause-answer g c =
    rw c.run_ending.ensures.answer
    (read_gives (IsRunPrinted (ask_of c.args.options.now)) (g.I.Read.remaining c.args.input) c.in-Ok.bytes.items _ c.in-Ok.ensures.read
    (rw c.as_slice.ensures.value at c.run_script-answer.ensures))

pub returns-in-Ok-clause-more : goal.returns-in-Ok-clause-more
returns-in-Ok-clause-more g c =
    rw c.run_ending.ensures.answer
    (read_said c.args.explains string_bytes (g.I.Read.remaining c.args.input) c.in-Ok.bytes.items c.run_ending.result.more c.run_script-answer.result
    c.run_ending.ensures.only c.in-Ok.ensures.same (rw c.as_slice-in-Ok.ensures.value at c.run_ending.ensures.said))

pub returns-in-Ok-clause-behind : goal.returns-in-Ok-clause-behind
returns-in-Ok-clause-behind g c =
    rw c.run_ending.ensures.answer
    (read_behind string_bytes (λ done. (printout_of done).unplaced) (g.I.Read.remaining c.args.input) c.in-Ok.bytes.items c.run_ending.result.more c.run_script-answer.result
    c.in-Ok.ensures.same (rw c.as_slice-in-Ok.ensures.value at c.run_ending.ensures.behind))

pub returns-in-Err-clause-answer : goal.returns-in-Err-clause-answer
returns-in-Err-clause-answer g c =
    rw c.unread.ensures.answer
    (unread_gives (IsRunPrinted (ask_of c.args.options.now)) (g.I.Read.remaining c.args.input) c.in-Err.why c.in-Err.ensures.read)

pub returns-in-Err-clause-more : goal.returns-in-Err-clause-more
returns-in-Err-clause-more g c =
    unread_said c.args.explains string_bytes (g.I.Read.remaining c.args.input) c.unread.result.more c.unread.result.answer c.in-Err.why
    c.unread.ensures.answer c.unread.ensures.only c.unread.ensures.length
