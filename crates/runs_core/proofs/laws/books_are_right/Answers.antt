use Rattle.std.proofs.Common.{subst}
use Rattle.account_core.specs.Answers.{IsLegal}
use Rattle.runs_core.proofs.laws.books_are_right.Goals as goal

pub returns : goal.returns
returns c = λ book small legal. record {
  solvent = λ history later same. c.no_balance_is_negative.ensures book.opening book.until history later small (subst (IsLegal book.opening book.until) same legal);
  paid = λ call plan closed. c.closed_calls_pay_the_tariff.ensures.paid book.opening book.until book.history call plan small legal closed;
  times = λ call lawful. c.closed_calls_pay_the_tariff.ensures.times book.opening book.until book.history call small legal lawful;
}
