use Rattle.run_laws.specs.Answered.{run_of_answer}
use Rattle.rated_records.proofs.laws.runs_have_no_difference.Goals as goal

pub returns : goal.returns
returns c = λ ask input ran is clock text printable records input_is.
    let paid = c.answered_calls_have_paid.ensures.alone ask input ran is in
    c.tables_have_no_difference.ensures.rated (run_of_answer ask input ran is) clock ran.text records paid.served paid.starts text printable input_is
