use Rattle.std.proofs.Common.{◌∷◌, ap, map, ◌∙◌}
use Rattle.std.proofs.lemmas.List.{length-map}
use Rattle.runs_core.specs.Crews.{joined_lists}
use Rattle.runs_core.proofs.RoundLemmas.{same_count}
use Rattle.runs_core.proofs.crew.Crew.answer_round.Goals as goal

pub returns-in_err-own-clause-promises : goal.returns-in_err-own-clause-promises
returns-in_err-own-clause-promises g c = c.hear_all-heard.ensures.promises ∙ c.send_and_answer-own.ensures.promises

pub returns-in_err-heard-clause-promises : goal.returns-in_err-heard-clause-promises
returns-in_err-heard-clause-promises g c = c.hear_all-heard.ensures.promises ∙ c.send_and_answer-own.ensures.promises

pub returns-in_err-insert-clause-promises : goal.returns-in_err-insert-clause-promises
returns-in_err-insert-clause-promises g c = c.hear_all-heard.ensures.promises ∙ c.send_and_answer-own.ensures.promises

pub returns-clause-promises : goal.returns-clause-promises
returns-clause-promises g c = c.hear_all-heard.ensures.promises ∙ c.send_and_answer-own.ensures.promises

pub returns-clause-answers : goal.returns-clause-answers
returns-clause-answers g c =
    let heard = c.in_ok-heard.ensures in
    let queues = c.hear_all-heard.new.queues.items in (
      c.in_ok-own.own.items,
      map (λ queue. queue.items) queues,
      ap (map (λ queue. queue.items)) c.in_ok-insert.ensures.items ∙ ap (λ own. own ∷ map (λ queue. queue.items) queues) c.from_vec.ensures.items,
      c.in_ok-own.ensures.goes_on,
      heard.heard ∙ ap (λ before. joined_lists before (map (λ queue. queue.items) queues)) c.send_and_answer-own.ensures.heard,
      length-map queues (λ queue. queue.items) ∙ heard.queues ∙ same_count _ _ c.send_and_answer-own.ensures.promises,
    )
