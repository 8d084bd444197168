use Rattle.rating.proofs.LineLemmas.{appended_names}
use Rattle.rating.proofs.line.push_names.Goals as goal

pub returns : goal.returns
returns c = appended_names c.extend_from_slice.result c.extend_from_slice.new.self.items c.args.text.now.items c.extend_from_slice.ensures.items
