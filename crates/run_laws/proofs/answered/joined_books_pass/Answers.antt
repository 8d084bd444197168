use Rattle.run_laws.proofs.Passing.{joined_accounts, joined_pass}
use Rattle.run_laws.proofs.answered.joined_books_pass.Goals as goal

pub returns : goal.returns
returns c =
    let law = c.runs_pass_the_audit.ensures in
    record {
      accounts = joined_accounts c.reports_are_in_range.ensures law.auditable law.accounts;
      pass = joined_pass c.reports_are_in_range.ensures law.auditable law.accounts law.pass_alone law.few_alone;
    }
