use Rattle.std.proofs.Common.{sym, ◌∙◌}
use Rattle.run_outputs.proofs.KindLemmas.{first_kind, other_kind}
use Rattle.std.proofs.lemmas.Fmt.{contents_after_writes}
use Rattle.std.proofs.lemmas.Result.{on_ok_weaker}
use Rattle.run_outputs.proofs.refused_lines.add_kind.Goals as goal

pub returns-then-is_empty : goal.returns-then-is_empty
returns-then-is_empty c =
    on_ok_weaker c.write.result (λ wrote. first_kind c.args.line.now.bytes c.args.count c.args.fault _ c.if-count-eq0.false (sym c.is_empty.ensures ∙ c.if-is_empty.true)
    (contents_after_writes _ (λ line. line.bytes) (λ before text after is. is) _ _ _ wrote)) c.write.ensures.writes

pub returns-else-is_empty : goal.returns-else-is_empty
returns-else-is_empty c =
    on_ok_weaker c.write-else-is_empty.result (λ wrote. other_kind c.args.line.now.bytes c.args.count c.args.fault _ c.if-count-eq0.false (sym c.is_empty.ensures ∙ c.if-is_empty.false)
    (contents_after_writes _ (λ line. line.bytes) (λ before text after is. is) _ _ _ wrote)) c.write-else-is_empty.ensures.writes
