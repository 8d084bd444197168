use Rattle.std.proofs.lemmas.Fmt.{contents_after_writes}
use Rattle.std.proofs.lemmas.Result.{on_ok_weaker}
use Rattle.table_commands.proofs.rating_rows.add_counts.Goals as goal

pub returns : goal.returns
returns c =
    on_ok_weaker c.write.result (λ wrote. contents_after_writes _ (λ line. line.bytes) (λ before text after is. is) _ _ _ wrote) c.write.ensures.writes
