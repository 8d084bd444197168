use Rattle.run_texts.proofs.trace_rows.write_message.Goals as goal

pub returns-in-EventReport : goal.returns-in-EventReport
returns-in-EventReport c =
    let h = rw (c.event_word-event.ensures, c.leg_number-leg.ensures, c.mode_word-mode.ensures) at c.writeln-in-EventReport.ensures.bytes in
    rw c.in-EventReport.is h
