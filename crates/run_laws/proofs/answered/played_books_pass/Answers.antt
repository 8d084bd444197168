use Rattle.run_laws.proofs.Passing.{played_pass}
use Rattle.run_laws.proofs.answered.played_books_pass.Goals as goal

pub returns : goal.returns
returns c =
    played_pass c.reports_are_in_range.ensures c.runs_pass_the_audit.ensures.auditable c.runs_pass_the_audit.ensures.accounts c.runs_pass_the_audit.ensures.pass_alone
    c.runs_pass_the_audit.ensures.few_alone
