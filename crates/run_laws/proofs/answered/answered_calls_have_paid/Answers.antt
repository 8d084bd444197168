use Rattle.run_laws.proofs.AnswerLemmas.{answers_paid, parts_paid, tables_paid}
use Rattle.run_laws.proofs.answered.answered_calls_have_paid.Goals as goal

pub returns : goal.returns
returns c = record {
  alone = answers_paid c.played_calls_have_paid.ensures;
  tables = tables_paid c.played_calls_have_paid.ensures;
  parts = parts_paid c.played_calls_have_paid.ensures;
}
