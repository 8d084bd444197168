use Rattle.std.proofs.Common.{◌≡◌, ◌++◌, ◌∷◌, [], ℕ, ◌+◌, ap, arith, length, map, suc, sym, ◌∙◌}
use Rattle.runs_core.proofs.FirstFaults.{finished_well, gate_of, passed_on, ran_well}
use Rattle.runs_core.proofs.Teaming.{first_fresh}
use Rattle.runs_core.proofs.WorkerLemmas.{begins}
use Rattle.runs_core.proofs.RoundLemmas.{has_left}
use Rattle.std.specs.Vec.Iter.{into_iter_items}
use Rattle.runs_core.proofs.serving.run_in.Goals as goal
use Rattle.runs_core.specs.Workers.{number_by}

pub start_and_play-ran-requires-clause-first : goal.start_and_play-ran-requires-clause-first
start_and_play-ran-requires-clause-first g c = λ _ _.
    let made = c.new.ensures in
    let teams = sym c.into_iter-teams.ensures.rest ∙ c.in-Some.ensures.items in
    let fresh = first_fresh g.S.Shared.reads (map g.S.Shared.key c.args.accounts.now) 0 (λ team. team.items) c.args.teams.items c.in-Some.team
    (into_iter_items c.next.new.self) teams c.requires.fresh in
    begins (number_by g.S.Shared.terms) g.S.Shared.key g.S.Shared.reads g.S.Shared.was c.args.setup.now c.args.accounts.now 0 c.in-Some.team.items _
    c.requires.numbered fresh.0 made.ready made.setup made.accounts made.number made.seats made.talks

pub returns-in_err-first_fault-clause-fault : goal.returns-in_err-first_fault-clause-fault
returns-in_err-first_fault-clause-fault g c =
    let whole = gate_of g.G.Gate.may_shut c.start_and_play-ran.new.crew.failed c.finish_all-finished.result c.start_and_play-ran.result
    c.finish_all-finished.ensures.fault c.start_and_play-ran.ensures.fault c.start_and_play-ran.ensures.failed in
    passed_on g.G.Gate.may_shut _ c.in_err-first_fault.field-0.0 c.from_residual-in_err-first_fault.result
    (sym c.first_fault.ensures.exact ∙ c.in_err-first_fault.was) c.from_residual-in_err-first_fault.ensures.1 whole

counted : (many rest all : ℕ) → many ≡ rest → all ≡ suc rest → many + 1 ≡ all
counted many rest all same one = omega (arith, same, one)

pub returns-clause-left : goal.returns-clause-left
returns-clause-left g c =
    let is = sym c.first_fault.ensures.exact ∙ c.in_ok-first_fault.was in
    let ran = ran_well _ c.finish_all-finished.result c.start_and_play-ran.result _ is in
    let (_, finished) = finished_well _ c.finish_all-finished.result c.start_and_play-ran.result _ is in
    let by = rw finished at c.finish_all-finished.ensures.left in
    let first = c.push_reserved.ensures.items ∙ ap (λ before. before ++ c.finish.result ∷ []) c.in_ok-left.ensures.items in
    let all : map (λ team. team.items) c.finish_all-finished.new.left.items ≡ c.finish.result.items ∷ by.0 = by.1 ∙ ap (λ before. map (λ team. team.items) before ++ by.0) first in
    let teams = sym c.into_iter-teams.ensures.rest ∙ c.in-Some.ensures.items in
    let many = counted _ _ _ (rw ran at c.start_and_play-ran.ensures.count) (ap length teams) in
    rw (all)
    (has_left g.D.Driver.given g.D.Driver.ended g.D.Driver.hears (number_by g.S.Shared.terms) g.S.Shared.key g.S.Shared.reads g.S.Shared.was c.args.setup.now c.args.accounts.now
    _ _ _ c.finish.result.items by.0 _ (rw ran at c.start_and_play-ran.ensures.played) c.finish.ensures c.start_and_play-ran.ensures.promised by.2 many)

pub push_reserved-requires : goal.push_reserved-requires
push_reserved-requires g c = omega (arith, c.in_ok-left.ensures.len, c.in_ok-left.ensures.capacity, c.len.ensures, c.requires.some, c.args.teams.ok)
