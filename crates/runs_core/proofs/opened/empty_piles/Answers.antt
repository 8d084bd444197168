use Rattle.std.proofs.Common.{◌∷◌, [], ap, map, ◌∙◌, ◌++◌}
use Rattle.std.specs.Prelude.{replicate}
use Rattle.std.proofs.lemmas.List.{map-append, replicate_more}
use Rattle.runs_core.proofs.opened.empty_piles.Goals as goal

pub loop-preserved : goal.loop-preserved
loop-preserved g c =
    ap (map (λ pile. pile.items)) c.in_ok-push.ensures.items ∙ map-append (λ pile. pile.items) c.loop.piles.items (c.new.result ∷ [])
    ∙ ap (λ piles. piles ++ c.new.result.items ∷ []) c.loop.invariant ∙ ap (λ pile. replicate c.loop.counter [] ++ pile ∷ []) c.new.ensures.items
    ∙ replicate_more c.loop.counter []
