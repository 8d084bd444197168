use Rattle.std.proofs.Common.{◌<◌, ◌∙◌, [], arith, length, refl, map, ap, sym}
use Rattle.std.proofs.lemmas.Result.{IfOk-weaker}
use Rattle.account_core.specs.Asked.{Credits}
use Rattle.cap_values.specs.Orders.{orders_in}
use Rattle.dialogue_core.specs.Phases.{Asks}
use Rattle.dialogue_core.specs.Views.{phase_of, says_of}
use Rattle.dialogue_core.specs.Talks.{is_ask, orders_sent_by}
use Rattle.runs_core.specs.Handled.{answer_view}
use Rattle.runs_core.specs.Workers.{standings_in}
use Rattle.runs_core.proofs.CaseLemmas.{as_many, grown_at, mine_at, numbered_at, on_ok, own_account, recharged_by, same_seats, stands_now, talked_by, was_at, was_there}
use Rattle.runs_core.proofs.Talking.{calls_for, fault_answer, right_known, rights_known, so_ended, spoken_out}
use Rattle.runs_core.specs.Refusals.{WasAt}
use Rattle.account_core.specs.Refusals.{IsRefusedAt}
use Rattle.std.specs.Prelude.{slice_index_or, slice_set}
use Rattle.runs_core.proofs.acting.act.Goals as goal

pub index_mut-requires : goal.index_mut-requires
index_mut-requires g c =
    let many = as_many g.S.Shared.reads.key g.S.Shared.key c.args.seats.now.items c.args.accounts.now c.requires.keys in
    omega (arith, many, rw c.in-Recharge.is at c.requires.within, c.args.seats.now.ok)

pub index_mut-requires-in-Talk : goal.index_mut-requires-in-Talk
index_mut-requires-in-Talk g c =
    let many = as_many g.S.Shared.reads.key g.S.Shared.key c.args.seats.now.items c.args.accounts.now c.requires.keys in
    omega (arith, many, rw c.in-Talk.is at c.requires.within, c.args.seats.now.ok)

pub recharge-requires-after_bounds : goal.recharge-requires-after_bounds
recharge-requires-after_bounds g c κs within =
    own_account g.S.Shared.reads.key g.S.Shared.key c.args.seats.now.items c.args.accounts.now c.in-Recharge.place c.index_mut.result.now c.index-accounts-place.result
    c.requires.keys (rw c.in-Recharge.is at c.requires.within) c.index_mut.ensures.value c.index-accounts-place.is

pub converse-requires : goal.converse-requires
converse-requires g c =
    own_account g.S.Shared.reads.key g.S.Shared.key c.args.seats.now.items c.args.accounts.now c.in-Talk.talk.place c.index_mut-in-Talk.result.now c.index-accounts-place-in-Talk.result
    c.requires.keys (rw c.in-Talk.is at c.requires.within) c.index_mut-in-Talk.ensures.value c.index-accounts-place-in-Talk.is

pub returns-in-Recharge-clause-same_keys : goal.returns-in-Recharge-clause-same_keys
returns-in-Recharge-clause-same_keys g c =
    on_ok c.recharge.result _
    (same_seats g.S.Shared.reads.key c.args.seats.now.items c.in-Recharge.place c.index_mut.result.now c.recharge.new.seat c.index_mut.ensures.value c.recharge.ensures.same_key)

pub returns-in-Recharge-clause-same_numbers : goal.returns-in-Recharge-clause-same_numbers
returns-in-Recharge-clause-same_numbers g c =
    on_ok c.recharge.result _
    (same_seats g.S.Shared.reads.number c.args.seats.now.items c.in-Recharge.place c.index_mut.result.now c.recharge.new.seat c.index_mut.ensures.value c.recharge.ensures.same_number)

pub returns-in-Recharge-clause-acted : goal.returns-in-Recharge-clause-acted
returns-in-Recharge-clause-acted g c =
    rw c.in-Recharge.is
    (IfOk-weaker c.recharge.result _ _ (λ answer is.
    let there : c.in-Recharge.place < length c.args.seats.now.items =
    rw (as_many g.S.Shared.reads.key g.S.Shared.key c.args.seats.now.items c.args.accounts.now c.requires.keys) (rw c.in-Recharge.is at c.requires.within) in
    let so =
    recharged_by (IsRefusedAt (g.S.Shared.was c.recharge.new.seat)) (map g.S.Shared.reads.number c.args.seats.now.items) c.in-Recharge.place c.in-Recharge.amount c.in-Recharge.until (g.S.Shared.reads.number c.index_mut.result.now) _ _ (standings_in c.args.talks.now)
    (g.S.Shared.reads.mine c.index_mut.result.now) (g.S.Shared.reads.mine c.recharge.new.seat) (answer_view answer) is
    (numbered_at g.S.Shared.reads.number c.args.seats.now.items c.in-Recharge.place c.index_mut.result.now there c.index_mut.ensures.value)
    (mine_at g.S.Shared.reads.mine c.args.seats.now.items c.in-Recharge.place c.index_mut.result.now there c.index_mut.ensures.value)
    (λ entries. grown_at g.S.Shared.reads.mine c.args.seats.now.items c.in-Recharge.place c.index_mut.result.now c.recharge.new.seat entries there c.index_mut.ensures.value) in
    record {
      acted = so.0;
      right =
          right_known (g.S.Shared.was c.recharge.new.seat) (WasAt g.S.Shared.was (slice_set c.args.seats.now.items c.in-Recharge.place c.recharge.new.seat) c.in-Recharge.place)
          (was_there g.S.Shared.was c.args.seats.now.items c.in-Recharge.place c.recharge.new.seat there)
          (slice_index_or (map g.S.Shared.reads.mine c.args.seats.now.items) c.in-Recharge.place []) (Asks (Credits c.in-Recharge.amount c.in-Recharge.until)) so.0.got so.1;
    })
    c.recharge.ensures.credited)

pub returns-in_ok-instructions-in-Talk-clause-same_keys : goal.returns-in_ok-instructions-in-Talk-clause-same_keys
returns-in_ok-instructions-in-Talk-clause-same_keys g c =
    same_seats g.S.Shared.reads.key c.args.seats.now.items c.in-Talk.talk.place c.index_mut-in-Talk.result.now c.converse.new.way c.index_mut-in-Talk.ensures.value (spoken_out _ g.S.Shared.reads g.S.Shared.was g.S.Shared.calls _ _ _ _ _ c.in_ok-instructions-in-Talk.ensures.talks refl).same_key

pub returns-in_ok-instructions-in-Talk-clause-same_numbers :
    goal.returns-in_ok-instructions-in-Talk-clause-same_numbers
returns-in_ok-instructions-in-Talk-clause-same_numbers g c =
    same_seats g.S.Shared.reads.number c.args.seats.now.items c.in-Talk.talk.place c.index_mut-in-Talk.result.now c.converse.new.way c.index_mut-in-Talk.ensures.value (spoken_out _ g.S.Shared.reads g.S.Shared.was g.S.Shared.calls _ _ _ _ _ c.in_ok-instructions-in-Talk.ensures.talks refl).same_number

pub returns-in_ok-instructions-in-Talk-clause-acted : goal.returns-in_ok-instructions-in-Talk-clause-acted
returns-in_ok-instructions-in-Talk-clause-acted g c =
    rw c.in-Talk.is
    (let talk = c.in_ok-instructions-in-Talk.ensures.talks in
    let there : c.in-Talk.talk.place < length c.args.seats.now.items =
    rw (as_many g.S.Shared.reads.key g.S.Shared.key c.args.seats.now.items c.args.accounts.now c.requires.keys) (rw c.in-Talk.is at c.requires.within) in
    let so =
    talked_by (IsRefusedAt (g.S.Shared.was c.converse.new.way)) (map g.S.Shared.reads.number c.args.seats.now.items) c.in-Talk.call c.in-Talk.talk.place (g.S.Shared.reads.number c.index_mut-in-Talk.result.now)
    (says_of c.in-Talk.turn, phase_of c.in-Talk.talk.dialogue) (phase_of c.converse.new.dialogue) _ _ (standings_in c.args.talks.now) (standings_in c.keep.new.talks)
    (g.S.Shared.reads.mine c.index_mut-in-Talk.result.now) (g.S.Shared.reads.mine c.converse.new.way) (orders_in c.in_ok-instructions-in-Talk.instructions) c.converse.new.asker.refused _
    (so_ended _ _ _ _ _ talk.last _ _ _ (spoken_out _ g.S.Shared.reads g.S.Shared.was g.S.Shared.calls _ _ _ _ _ talk refl).so_far talk.rests talk.sends)
    (numbered_at g.S.Shared.reads.number c.args.seats.now.items c.in-Talk.talk.place c.index_mut-in-Talk.result.now there c.index_mut-in-Talk.ensures.value)
    (mine_at g.S.Shared.reads.mine c.args.seats.now.items c.in-Talk.talk.place c.index_mut-in-Talk.result.now there c.index_mut-in-Talk.ensures.value)
    (λ entries. grown_at g.S.Shared.reads.mine c.args.seats.now.items c.in-Talk.talk.place c.index_mut-in-Talk.result.now c.converse.new.way entries there c.index_mut-in-Talk.ensures.value)
    (stands_now c.args.talks.now c.keep.new.talks c.in-Talk.call (record { dialogue = c.converse.new.dialogue; place = c.in-Talk.talk.place }) c.keep.ensures)
    refl refl refl in
    record {
      acted = so.0;
      right =
          rights_known (g.S.Shared.was c.converse.new.way) (WasAt g.S.Shared.was (slice_set c.args.seats.now.items c.in-Talk.talk.place c.converse.new.way) c.in-Talk.talk.place)
          (was_there g.S.Shared.was c.args.seats.now.items c.in-Talk.talk.place c.converse.new.way there) _ _ _ _ so.1;
    })

pub returns-in-Recharge-clause-was : goal.returns-in-Recharge-clause-was
returns-in-Recharge-clause-was g c =
    let there : c.in-Recharge.place < length c.args.seats.now.items =
    rw (as_many g.S.Shared.reads.key g.S.Shared.key c.args.seats.now.items c.args.accounts.now c.requires.keys) (rw c.in-Recharge.is at c.requires.within) in
    on_ok c.recharge.result _
    (was_at g.S.Shared.was c.args.seats.now.items c.in-Recharge.place c.index_mut.result.now c.recharge.new.seat there c.index_mut.ensures.value c.recharge.ensures.was)

pub returns-in_ok-instructions-in-Talk-clause-was : goal.returns-in_ok-instructions-in-Talk-clause-was
returns-in_ok-instructions-in-Talk-clause-was g c =
    let there : c.in-Talk.talk.place < length c.args.seats.now.items =
    rw (as_many g.S.Shared.reads.key g.S.Shared.key c.args.seats.now.items c.args.accounts.now c.requires.keys) (rw c.in-Talk.is at c.requires.within) in
    was_at g.S.Shared.was c.args.seats.now.items c.in-Talk.talk.place c.index_mut-in-Talk.result.now c.converse.new.way there c.index_mut-in-Talk.ensures.value (spoken_out _ g.S.Shared.reads g.S.Shared.was g.S.Shared.calls _ _ _ _ _ c.in_ok-instructions-in-Talk.ensures.talks refl).still

pub returns-in_err-instructions-in-Talk-clause-gate : goal.returns-in_err-instructions-in-Talk-clause-gate
returns-in_err-instructions-in-Talk-clause-gate g c = λ _. c.in_err-instructions-in-Talk.ensures.cut_off.ends

pub returns-in-Recharge-clause-called : goal.returns-in-Recharge-clause-called
returns-in-Recharge-clause-called g c =
    rw c.in-Recharge.is
    (IfOk-weaker c.recharge.result _ _ (λ answer is. record {
      from = c.index_mut.result.now;
      to = c.recharge.new.seat;
      from_is = c.index_mut.ensures.value;
      only = refl;
      goes = is;
    })
    c.recharge.ensures.called)

pub returns-in_ok-instructions-in-Talk-clause-called : goal.returns-in_ok-instructions-in-Talk-clause-called
returns-in_ok-instructions-in-Talk-clause-called g c =
    rw c.in-Talk.is
    (let talk = c.in_ok-instructions-in-Talk.ensures.talks in
    record {
      from = c.index_mut-in-Talk.result.now;
      to = c.converse.new.way;
      from_is = c.index_mut-in-Talk.ensures.value;
      only = refl;
      goes = record {
        gots = talk.gots;
        called = calls_for _ g.S.Shared.reads g.S.Shared.was g.S.Shared.calls _ _ talk.gots _ talk.are_got;
        rests = ap (λ said. is_ask said.0) talk.talks ∙ talk.rests;
        orders = talk.sends ∙ ap (λ said. orders_sent_by said.0) (sym talk.talks);
        refused = fault_answer _ g.S.Shared.reads g.S.Shared.was g.S.Shared.calls _ _ talk.gots _ talk.are_got refl;
      };
    })
