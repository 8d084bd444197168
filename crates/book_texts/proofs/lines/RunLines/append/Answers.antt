use Rattle.std.proofs.Common.{rules}
use Rattle.book_texts.proofs.LineLemmas.{both_lines}
use Rattle.book_texts.proofs.lines.RunLines.append.Goals as goal

pub returns : goal.returns
returns c = λ books later are also. both_lines books later c.args.self.now c.args.more.now _ (search rules) (search rules) are also
