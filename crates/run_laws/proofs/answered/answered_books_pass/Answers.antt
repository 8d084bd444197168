use Rattle.run_laws.proofs.AnswerLemmas.{books_pass, parts_have_all, parts_pass, tables_pass}
use Rattle.run_laws.proofs.answered.answered_books_pass.Goals as goal

pub returns : goal.returns
returns c = record {
  alone = books_pass c.played_books_pass.ensures;
  tables = tables_pass c.played_books_pass.ensures;
  parts = parts_pass c.joined_books_pass.ensures.pass;
  accounts = parts_have_all c.joined_books_pass.ensures.accounts;
}
