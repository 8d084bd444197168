use Rattle.std.proofs.Common.{[]}
use Rattle.std.proofs.lemmas.Result.{IfOk-weaker}
use Rattle.book_texts.proofs.lines.run_lines.Goals as goal

pub returns : goal.returns
returns c = IfOk-weaker c.write.result _ _ (λ text is. is c.args.books.now (c.in_ok-add.ensures [] c.new-lines.ensures)) c.write.ensures
