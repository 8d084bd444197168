use Rattle.std.proofs.Common.{◌≡◌, ◌≤◌, ◌+◌, ◌∷◌, [], ℕ, ap, arith, length, map, refl, suc, ◌∙◌}
use Rattle.std.specs.Vec.Iter.{into_iter_items}
use Rattle.std.proofs.lemmas.List.{length-append, length-map, map-append}
use Rattle.std.proofs.lemmas.List.Elements.{All-nil, All-push}
use Rattle.runs_core.proofs.Finishing.{promised_more}
use Rattle.runs_core.specs.Mails.{items_in}
use Rattle.runs_core.proofs.Teaming.{first_fresh}
use Rattle.runs_core.specs.Sending.{heard_by, promises_of, sent_by}
use Rattle.runs_core.proofs.threads.start_all.Goals as goal

-- facts on numbers alone, where `omega` has little to read

next_counted : (number left many all : ℕ) → number + left ≡ all → left ≡ suc many → number + 1 + many ≡ all
next_counted number left many all is one = omega (arith, is, one)

number_after : (many number promised : ℕ) → many + 1 ≡ number → promised ≡ many → number ≡ 1 + promised
number_after many number promised is same = omega (arith, is, same)

room_left : (long longer left many room still : ℕ) → long + left ≤ room → left ≡ suc many → longer ≡ long + 1 → still ≡ room → longer + many ≤ still
room_left long longer left many room still within one more same = omega (arith, within, one, more, same)

pub loop-team-init : goal.loop-team-init
loop-team-init g c =
    rw (c.in_ok-reserve_exact.ensures.items, c.requires.none)
    (refl, omega (arith), c.requires.fresh, All-nil (λ link. sent_by link ≡ []), tt, All-nil (λ link. heard_by link ≡ []), omega (arith, c.in_ok-reserve_exact.ensures.ok, c.len.ensures, c.args.teams.now.rest.ok))

pub start-requires-clause-fresh : goal.start-requires-clause-fresh
start-requires-clause-fresh g c = λ _ _.
    (first_fresh g.S.Shared.reads (map g.S.Shared.key c.args.accounts.now) c.loop-team.number (λ team. team.items) (into_iter_items c.loop-team.teams) c.in-Some.team (into_iter_items c.next.new.self)
    c.in-Some.ensures.items c.loop-team.invariant.2).0

pub returns-in_err-link-clause-silent : goal.returns-in_err-link-clause-silent
returns-in_err-link-clause-silent g c = c.loop-team.invariant.3

pub returns-in_err-link-clause-unheard : goal.returns-in_err-link-clause-unheard
returns-in_err-link-clause-unheard g c = c.loop-team.invariant.5

pub returns-in_err-link-clause-promised : goal.returns-in_err-link-clause-promised
returns-in_err-link-clause-promised g c = c.loop-team.invariant.4

pub overflow_add-number : goal.overflow_add-number
overflow_add-number g c = omega (arith, c.loop-team.invariant.1, c.requires.few)

pub loop-team-preserved : goal.loop-team-preserved
loop-team-preserved g c =
    let before = c.loop-team.invariant in
    let links = c.loop-team.links.items in
    let link = c.in_ok-link.link in
    let one = ap length c.in-Some.ensures.items in
    let promised = promises_of links in
    let fresh = first_fresh g.S.Shared.reads (map g.S.Shared.key c.args.accounts.now) c.loop-team.number (λ team. team.items) (into_iter_items c.loop-team.teams) c.in-Some.team
    (into_iter_items c.next.new.self) c.in-Some.ensures.items before.2 in
    rw (c.push_reserved.ensures.items) (
      ap (λ many. many + 1) (length-append links (link ∷ []) ∙ before.0),
      next_counted c.loop-team.number _ _ _ before.1 one,
      fresh.1,
      All-push (λ link. sent_by link ≡ []) links link before.3 (ap items_in c.in_ok-link.ensures.sent),
      rw (map-append (λ link. link.child.promise) links (link ∷ []))
          (promised_more c.args.setup.now c.args.accounts.now 1 promised link.child.promise before.4
          (record {
            setup_is = c.in_ok-link.ensures.setup;
            accounts_are = c.in_ok-link.ensures.accounts;
            number_is = c.in_ok-link.ensures.number ∙ number_after (length links) c.loop-team.number (length promised) before.0 (length-map links (λ link. link.child.promise));
          })),
      All-push (λ link. heard_by link ≡ []) links link before.5 (ap items_in c.in_ok-link.ensures.heard),
      room_left _ _ _ _ _ _ before.6 one c.push_reserved.ensures.len c.push_reserved.ensures.capacity,
    )

pub push_reserved-requires : goal.push_reserved-requires
push_reserved-requires g c = omega (arith, c.loop-team.invariant.6, ap length c.in-Some.ensures.items)

pub returns-clause-count : goal.returns-clause-count
returns-clause-count g c =
    omega (arith, c.loop-team.invariant.0, c.loop-team.invariant.1, c.in_default.ensures.cases.0, c.loop-team.teams.rest.ok)

pub returns-clause-promised : goal.returns-clause-promised
returns-clause-promised g c = c.loop-team.invariant.4
