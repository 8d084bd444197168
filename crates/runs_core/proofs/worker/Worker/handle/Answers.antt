use Rattle.std.proofs.Common.{◌≡◌, ◌∙◌, ℕ, List, All, length, map, ap, sym, subst}
use Rattle.std.proofs.lemmas.List.{length-map}
use Rattle.runs_core.specs.Handled.{answer_view}
use Rattle.runs_core.specs.Refusals.{RefusesAt}
use Rattle.runs_core.specs.Verdicts.{verdict}
use Rattle.runs_core.specs.Workers.{holding, number_by, standings_in}
use Rattle.runs_core.proofs.Calling.{called_by}
use Rattle.runs_core.proofs.Handling.{case_within, done_by, placed_after, recharged_so, rejected_so, stray_is, stray_lists}
use Rattle.run_values.specs.declared.directory.OpeningCredit.{OpeningCredit}
use Rattle.runs_core.proofs.worker.Worker.handle.Goals as goal

pub returns-clause-handled : goal.returns-clause-handled
returns-clause-handled g c =
    let so =
    done_by (RefusesAt g.S.Shared.was c.act.new.seats.items) c.args.self.now.setup.now (map g.S.Shared.reads.number c.args.self.now.seats.items) c.args.post.at
    (verdict c.args.self.now.setup.now (standings_in c.args.self.now.talks) c.args.post) c.judge-case.result (map g.S.Shared.reads.mine c.args.self.now.seats.items)
    (standings_in c.args.self.now.talks) (standings_in c.make_room.new.talks) _ (answer_view c.in_ok-answer.answer) c.judge-case.ensures c.in_ok-make_room.ensures.others
    c.in_ok-answer.ensures.acted in
    record { handled = record { number = c.in_ok-answer.ensures.number; done = so.0 }; right = so.1 }

pub act-requires-clause-within : goal.act-requires-clause-within
act-requires-clause-within g c κs within =
    let many : length c.args.self.now.accounts.now ≡ length c.args.self.now.setup.now.accounts =
    sym (length-map c.args.self.now.accounts.now (number_by g.S.Shared.terms)) ∙ ap length c.requires.ready.accounts
    ∙ length-map c.args.self.now.setup.now.accounts (λ (e : ℕ × OpeningCredit). e.0) in
    rw many
    (case_within c.args.self.now.setup.now (holding g.S.Shared.reads.mine c.args.self.now) c.args.post c.judge-case.result c.requires.ready.talks c.judge-case.ensures)

pub returns-clause-ready : goal.returns-clause-ready
returns-clause-ready g c = record {
  accounts = c.requires.ready.accounts;
  keys = c.in_ok-answer.ensures.same_keys ∙ c.requires.ready.keys;
  numbers =
      let P : List ℕ → Type 0 = λ numbers. All (λ number. number ≡ c.args.self.now.number) numbers in
      subst P (sym c.in_ok-answer.ensures.same_numbers) c.requires.ready.numbers;
  talks =
      placed_after c.args.self.now.setup.now (map g.S.Shared.reads.number c.args.self.now.seats.items) c.args.post (holding g.S.Shared.reads.mine c.args.self.now) _
      (answer_view c.in_ok-answer.answer) c.requires.ready.talks (returns-clause-handled g c).handled.done;
}

pub returns-clause-stray : goal.returns-clause-stray
returns-clause-stray g c = stray_is _ _ _ _ _ _ (answer_view c.in_ok-answer.answer) (returns-clause-handled g c).handled.done

pub returns-clause-stray_asks_nothing : goal.returns-clause-stray_asks_nothing
returns-clause-stray_asks_nothing g c = λ is. stray_lists _ _ _ _ _ _ (answer_view c.in_ok-answer.answer) (returns-clause-handled g c).handled.done is

pub returns-clause-rejected : goal.returns-clause-rejected
returns-clause-rejected g c = λ is. rejected_so _ _ _ _ _ _ (answer_view c.in_ok-answer.answer) (returns-clause-handled g c).handled.done is

pub returns-clause-recharged : goal.returns-clause-recharged
returns-clause-recharged g c = λ place amount until is. recharged_so _ _ _ _ _ _ (answer_view c.in_ok-answer.answer) place amount until (returns-clause-handled g c).handled.done is

pub returns-clause-called : goal.returns-clause-called
returns-clause-called g c =
    called_by g.S.Shared.calls c.args.self.now.setup.now c.args.post.at (verdict c.args.self.now.setup.now (standings_in c.args.self.now.talks) c.args.post) c.judge-case.result
    c.args.self.now.seats.items c.act.new.seats.items (answer_view c.in_ok-answer.answer) c.judge-case.ensures c.in_ok-answer.ensures.called
