use Rattle.std.proofs.Common.{◌≡◌, ◌∙◌, List, length, ap, refl, sym, subst, arith, All}
use Rattle.std.proofs.lemmas.Result.{IfOk-weaker}
use Rattle.std.specs.Prelude.{IfErr}
use Rattle.run_command.proofs.Jobbing.{all_in_order, all_played, written}
use Rattle.run_command.specs.Answers.{MayFail}
use Rattle.run_command.specs.declared.jobs.Job.{Job}
use Rattle.run_values.specs.Options.{ask_of}
use Rattle.run_command.proofs.jobs.play_all.Goals as goal

pub play_jobs-requires-after_bounds : goal.play_jobs-requires-after_bounds
play_jobs-requires-after_bounds g c κs within =
    rw (c.as_mut_slice-slots.ensures.value)
    (all_in_order (λ rows. rows.items) (λ job. job.script) (λ job. refl) c.in_ok-jobs.jobs.items c.args.scripts.items c.in_ok-jobs.ensures c.requires.in_range c.requires.in_order)

pub returns : goal.returns
returns g c =
    let before : List Job = c.in_ok-jobs.jobs.items in
    let after : List Job = c.play_jobs.new.jobs in
    let as_many : length after ≡ length before = c.play_jobs.auto.jobs ∙ ap length c.as_mut_slice-slots.ensures.value in
    let is = written c.in_ok-jobs.jobs.len before after c.in_ok-jobs.jobs.ok.0 as_many in
    let workers = c.args.options.now.workers in
    record {
      parts = IfOk-weaker c.played.result _ _ (λ parts kept.
          all_played (λ rows. rows.items) (λ job. job.script) (λ job. refl) (ask_of c.args.options.now) c.args.setup.now c.args.firsts.now c.args.scripts.items before c.in_ok-jobs.ensures
          after parts.items as_many (rw is at kept) (rw c.as_mut_slice-slots.ensures.value at c.play_jobs.ensures))
          c.played.ensures.parts;
      fault = c.played.ensures.fault workers (subst (λ (l : List Job). All (λ job. IfErr job.played (MayFail workers)) l) (sym is) (λ k d within.
          (c.play_jobs.ensures k d (let all = c.play_jobs.auto.jobs in omega (arith, all, within))).fault));
    }
