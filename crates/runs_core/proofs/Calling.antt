-- The calls of a case are those of its verdict.
use Rattle.std.proofs.Common.{ℕ, List, inl, inr, sym, subst}
use Rattle.dialogue_core.specs.Talks.{Asking}
use Rattle.run_values.specs.Setups.{Setup}
use Rattle.runs_core.specs.Calls.{AreCalled, AreCalledIn, IsTalkCalled}
use Rattle.runs_core.specs.Cases.{IsCase}
use Rattle.runs_core.specs.Handled.{AnswerView}
use Rattle.runs_core.specs.Verdicts.{Verdict}
use Rattle.runs_core.specs.declared.worker.Case.{Case}
use Rattle.runs_core.specs.declared.worker.Case.TheVariants as case

pub called_by : {T : Type 0} (Calls : Asking T) (setup : Setup) (at : ℕ) (verdict : Verdict) (case : Case) (old new : List T) (answer : AnswerView)
    → IsCase setup at verdict case → AreCalledIn Calls case old new answer → AreCalled Calls setup at verdict old new answer
called_by Calls setup at verdict case.Stray old new answer is so = rw is so
called_by Calls setup at verdict case.Rejected old new answer is so = rw is so
called_by Calls setup at verdict (case.Recharge place amount until) old new answer is so = rw is so
called_by Calls setup at verdict (case.Talk call talk turn) old new answer (inl is) so = rw is so
called_by {T} Calls setup at verdict (case.Talk call talk turn) old new answer (inr first) so =
    rw first.is
    (record {
      from = so.from;
      to = so.to;
      from_is = so.from_is;
      only = so.only;
      goes = record {
        route = first.route;
        routed = first.routed;
        talk = subst (λ begun. IsTalkCalled Calls begun answer so.from so.to) (sym first.begins) so.goes;
      };
    })
