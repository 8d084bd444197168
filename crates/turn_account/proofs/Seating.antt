-- The seats of a turn account, from its opening to its close.
use Rattle.std.specs.Prelude.{◌≢◌}
use Rattle.std.proofs.Common.{◌≡◌, ◌≤◌, ◌<◌, ◌+◌, ◌^◌, ℕ, Option, Some, None, List, [], ◌∷◌, ◌++◌, length, set, sym, ap, ◌∙◌, arith, subst, refl, ⊎_elim, length-append}
use Rattle.std.proofs.lemmas.List.{nil_from_length}
use mathlib.Core.Logic.{dite}
use mathlib.Core.Option.{some, some-injective, some-ne-none}
use native.Mathlib.Decide.{ℕ_discrete}
use lib.ListN.{get_elem?}
use Rattle.atomic_table.specs.Table.{Final, Joins, Seen, Splits, opening}
use Rattle.atomic_table.proofs.Lists.{at_set, set_else}
use Rattle.account_core.specs.Entries.{EntryData}
use Rattle.account_core.specs.Ledger.{Ledger}
use Rattle.turn_account.specs.Ended.{HasEnded, IsClosedAs}
use Rattle.account_core.specs.Own.{own}
use Rattle.account_core.specs.Prefixes.{IsPrefix}
use Rattle.turn_account.specs.Turns.{BoardState, AccountLiesAt, AreApart, IsNumbered, Kept, Knows}
use Rattle.turn_account.specs.Views.{IsSeat, first_view, next_seat, one_seat_more, seats_at, spent_note, taking_in, ticket_of, tickets_at}
use Rattle.turn_account.specs.declared.board.Stage.TheVariants.{Idles, Serves}
use Rattle.turn_account.specs.declared.board.Start.{Start}
use Rattle.turn_account.specs.declared.board.View.{View}
use Rattle.account_core.proofs.Beginnings.{begins_any, begins_within, own_begins}
use Rattle.turn_account.proofs.Ended.{all_below, one_ended}
use Rattle.turn_account.proofs.Rosters.{apart_alike, apart_end, apart_set, knows_again, lies_end, lies_set, note_apart, total_end, total_kept, total_set, views_grow, views_stay}
use Rattle.turn_account.proofs.Keeping.{Table}

module _ (start : Start) where
  -- ---- the opening

  pub starts : start.limit < 2 ^ 32 → 1 ≤ start.seats → start.seats ≤ 16
      → Kept start (opening (0 ∷ 0 ∷ 0 ∷ []) (Some (record { opening = start.opening; until = start.until; limit = start.limit; history = [] }) ∷ []) (first_view start.opening start.until start.limit))
  starts bounded one_seat few =
      let account : Ledger = record { opening = start.opening; until = start.until; limit = start.limit; history = [] } in
      let now : BoardState = record { account = account; made = 1; gone = 0; served = 0; out = 0; holder = None } in
      let first : View = first_view start.opening start.until start.limit in
      record {
        now = now;
        words = record { wide = refl; ticket = refl; serving = refl; count = refl };
        past = record { opening = refl; until = refl; limit = refl; bounded = bounded; legal = tt; short = omega arith; few = one_seat; sixteen = few; unmade = λ n made. refl };
        totals = record { seats = refl; tickets = refl };
        each = views_grow (Knows now) [] first (λ at. record {
          seen = begins_any [];
          heard = begins_any [];
          ended = tt;
          gone = omega arith;
          seated = λ _. record { opening = refl; until = refl; limit = refl; number = omega arith; gone = omega arith; first = λ _. refl; own = refl };
          ticket = λ t has. absurd (cc has);
          turn = λ t has. absurd (cc has);
        }) (λ at v here. absurd (some-ne-none v (sym here)));
        apart = apart_end [] first (λ at by v other differ here there. absurd (some-ne-none v (sym here))) (λ by other there. absurd (some-ne-none other (sym there)));
        lies = refl;
      }

  -- ---- the next seat is made

  own_none : (seat : ℕ) (earlier later : List EntryData) → IsPrefix earlier later → own seat later ≡ [] → own seat earlier ≡ []
  own_none seat earlier later begins without =
      nil_from_length (own seat earlier) (omega (arith, begins_within (own seat earlier) (own seat later) (own_begins seat earlier later begins), ap length without))

  pub numbers : (id : ℕ) (v : View) → v.stage ≡ Idles → v.number ≡ 0 → v.made < start.seats → Splits (Kept start) id v (one_seat_more v) (next_seat v)
  numbers id v idle is_first few s kept there =
      let now = kept.now in
      let after : BoardState = record now { made = now.made + 1 } in
      let w : View = one_seat_more v in
      let next : View = next_seat v in
      let mid : List View = set s.views id w in
      let knew = kept.each id v there in
      let seat : IsSeat v.stage = subst IsSeat (sym idle) tt in
      let seated = knew.seated seat in
      let made : v.made ≡ now.made = seated.first is_first in
      let none_yet : own v.made now.account.history ≡ [] = kept.past.unmade v.made (omega (arith, made)) in
      let below : (by : ℕ) (other : View) → get_elem? mid by ≡ some other → AreApart next other = views_stay (λ _ u. AreApart next u) s.views id w
      (record { numbers = λ _ _ same. omega (arith, same, seated.number, made); tickets = λ t has. absurd (cc has) })
      (λ by u other here. record {
        numbers = λ _ second same. omega (arith, same, ((kept.each by u here).seated second).number, made);
        tickets = λ t has. absurd (cc has);
      }) in
      record {
        now = after;
        words = record { wide = kept.words.wide; ticket = kept.words.ticket; serving = kept.words.serving; count = kept.words.count };
        past = record {
          opening = kept.past.opening;
          until = kept.past.until;
          limit = kept.past.limit;
          bounded = kept.past.bounded;
          legal = kept.past.legal;
          short = kept.past.short;
          few = omega (arith, few, made);
          sixteen = kept.past.sixteen;
          unmade = λ n more. kept.past.unmade n (omega (arith, more));
        };
        totals = record {
          seats = omega (arith, total_end seats_at mid next, total_kept seats_at s.views id v w there refl, kept.totals.seats);
          tickets = omega (arith, total_end tickets_at mid next, total_kept tickets_at s.views id v w there refl, kept.totals.tickets);
        };
        each = views_grow (Knows after) mid next (λ at. record {
          seen = knew.seen;
          heard = begins_any now.account.history;
          ended = tt;
          gone = omega arith;
          seated = λ _. record {
            opening = seated.opening;
            until = seated.until;
            limit = seated.limit;
            number = omega (arith, made);
            gone = omega (arith, made, seated.gone, seated.number);
            first = λ zero_made. omega (arith, zero_made, made, seated.number);
            own = own_none v.made v.seen.history now.account.history knew.seen none_yet ∙ sym none_yet;
          };
          ticket = λ t has. absurd (cc has);
          turn = λ t has. absurd (cc has);
        })
            (views_stay (Knows after) s.views id w (record {
              seen = knew.seen;
              heard = knew.heard;
              ended = knew.ended;
              gone = knew.gone;
              seated = λ _. record { opening = seated.opening; until = seated.until; limit = seated.limit; number = omega (arith, seated.number); gone = seated.gone; first = λ _. ap (λ n. n + 1) made; own = seated.own };
              ticket = λ t has. let out = knew.ticket t has in record { issued = out.issued; unserved = out.unserved };
              turn = λ t has. let old = knew.turn t has in record { served = old.served; holder = old.holder; seen = old.seen };
            })
            (λ at u other here. let know = kept.each at u here in knows_again now after at u know know.seen know.heard know.ended (omega arith)
            (λ second n. record {
              opening = n.opening;
              until = n.until;
              limit = n.limit;
              number = omega (arith, n.number);
              gone = n.gone;
              first = λ zero_too. absurd ((kept.apart id at v u (λ i. other (sym i)) there here).numbers seat second (is_first ∙ sym zero_too));
              own = n.own;
            })
            (λ t has out. record { issued = out.issued; unserved = out.unserved })
            (λ t has turn. record { served = turn.served; holder = turn.holder; seen = turn.seen })));
        apart = apart_end mid next (apart_set s.views id w kept.apart (λ by u other here. apart_alike v w u (λ _. refl) (λ x. x) (λ t has. has)
            (kept.apart id by v u (λ e. other (sym e)) there here))) below;
        lies = lies_end now.account s.homes mid next now.holder (lies_set now.account s.homes s.views id v w now.holder there (λ t has. has) kept.lies);
      }

  -- ---- a seat takes in the next one, which has ended

  pub takes_in : (id : ℕ) (v : View) (other : ℕ) (w : View) → v.stage ≡ Idles → w.stage ≡ Idles → w.number ≡ length v.ended
      → Joins (Kept start) id v other w (taking_in v w) spent_note
  takes_in id v other w idle ends is_next s kept there differs here =
      let now = kept.now in
      let after : BoardState = record now { gone = now.gone + 1 } in
      let both : View = taking_in v w in
      let mid : List View = set s.views id both in
      let before : get_elem? s.views other ≡ some w = sym (set_else s.views id other both differs) ∙ here in
      let knew = kept.each id v there in
      let seated = knew.seated (subst IsSeat (sym idle) tt) in
      let other_knew = kept.each other w before in
      let other_seat : IsSeat w.stage = subst IsSeat (sym ends) tt in
      let other_seated = other_knew.seated other_seat in
      let first : w.number ≡ now.gone = omega (arith, is_next, knew.gone, other_seated.gone) in
      let numbered : (u : View) → IsNumbered now u → w.number ≢ u.number → IsNumbered after u = λ u n apart. record {
        opening = n.opening;
        until = n.until;
        limit = n.limit;
        number = n.number;
        gone = omega (arith, n.gone, first, apart);
        first = n.first;
        own = n.own;
      } in
      let last : HasEnded now.account (length v.ended) w.seen = record {
        opening = other_seated.opening;
        until = other_seated.until;
        limit = other_seated.limit;
        seen = other_knew.seen;
        own = subst (λ (n : ℕ). own n w.seen.history ≡ own n now.account.history) is_next other_seated.own;
      } in
      let mine : Knows after id both = record {
        seen = knew.seen;
        heard = knew.heard;
        ended = one_ended now.account 0 v.ended w.seen knew.ended (subst (λ (n : ℕ). HasEnded now.account n w.seen) (omega arith) last);
        gone = omega (arith, length-append v.ended (w.seen ∷ []), knew.gone);
        seated = λ seat.
            let n = numbered v seated ((kept.apart other id w v differs before there).numbers other_seat seat) in
            record { opening = n.opening; until = n.until; limit = n.limit; number = n.number; gone = n.gone; first = n.first; own = n.own };
        ticket = λ t has. let never : None ≡ Some t = ap ticket_of (sym idle) ∙ has in absurd (cc never);
        turn = λ t has. let never : Idles ≡ Serves t = sym idle ∙ has in absurd (cc never);
      } in
      let others : (at : ℕ) (u : View) → at ≢ other → get_elem? s.views at ≡ some u → Knows after at u = λ at u ne is.
      let know = kept.each at u is in
      knows_again now after at u know know.seen know.heard know.ended (omega arith)
      (λ second n. numbered u n ((kept.apart other at w u (λ i. ne (sym i)) before is).numbers other_seat second))
      (λ t has out. record { issued = out.issued; unserved = out.unserved })
      (λ t has turn. record { served = turn.served; holder = turn.holder; seen = turn.seen }) in
      let idle_no_turn : (u : View) → u.stage ≡ Idles → (t : ℕ) → u.stage ≡ Serves t → ⊥ = λ u rests t has. let never : Idles ≡ Serves t = sym rests ∙ has in cc never in
      record {
        now = after;
        words = record { wide = kept.words.wide; ticket = kept.words.ticket; serving = kept.words.serving; count = kept.words.count };
        past = kept.past;
        totals = record {
          seats = omega (
            arith,
            total_set seats_at mid other w spent_note here,
            total_kept seats_at s.views id v both there refl,
            ap seats_at ends,
            kept.totals.seats,
          );
          tickets = omega (
            arith,
            total_set tickets_at mid other w spent_note here,
            total_kept tickets_at s.views id v both there refl,
            ap tickets_at ends,
            kept.totals.tickets,
          );
        };
        each = views_stay (Knows after) mid other spent_note (record {
          seen = begins_any now.account.history;
          heard = begins_any now.account.history;
          ended = tt;
          gone = omega arith;
          seated = λ seat. absurd seat;
          ticket = λ t has. absurd (cc has);
          turn = λ t has. absurd (cc has);
        })
            (λ at u ne is. ⊎_elim (λ (t : (at ≡ id) × (both ≡ u)). subst (λ (x : ℕ × View). Knows after x.0 x.1) (λ i. (sym t.0 i, t.1 i)) mine)
            (λ (t : (at ≢ id) × (get_elem? s.views at ≡ some u)). others at u ne t.1) (at_set s.views id at both u is));
        apart = apart_set mid other spent_note
            (apart_set s.views id both kept.apart (λ by u ne is. apart_alike v both u (λ _. refl) (λ x. x) (λ t has. has) (kept.apart id by v u (λ e. ne (sym e)) there is)))
            (λ by u ne is. note_apart spent_note u refl);
        lies = lies_set now.account s.homes mid other w spent_note now.holder here (λ t has. absurd (idle_no_turn w ends t has))
            (lies_set now.account s.homes s.views id v both now.holder there (λ t has. has) kept.lies);
      }

  -- ---- the close

  -- where all seats but this one have ended, nobody has the turn
  alone : (s : Table) (kept : Kept start s) (id : ℕ) (v : View) → get_elem? s.views id ≡ some v → v.stage ≡ Idles → v.number ≡ length v.ended
      → length v.ended + 1 ≡ start.seats → (holder : Option ℕ) → AccountLiesAt kept.now.account s.homes s.views holder
      → s.homes ≡ some (Some kept.now.account) ∷ []
  alone s kept id v there idle is_next is_last None lies = lies
  alone s kept id v there idle is_next is_last (Some at) lies =
      let seat : IsSeat v.stage = subst IsSeat (sym idle) tt in
      let holds : IsSeat lies.view.stage = subst IsSeat (sym lies.serves) tt in
      let mine = (kept.each id v there).seated seat in
      let its = (kept.each at lies.view lies.there).seated holds in
      let same : v.number ≡ lies.view.number = omega (arith, is_next, is_last, (kept.each id v there).gone, mine.gone, its.gone, its.number, kept.past.few) in
      absurd (dite (ℕ_discrete at id)
      (λ (e : at ≡ id).
      let view : get_elem? s.views id ≡ some lies.view = subst (λ (i : ℕ). get_elem? s.views i ≡ some lies.view) e lies.there in
      let alike : v ≡ lies.view = some-injective v lies.view (sym there ∙ view) in
      let never : Idles ≡ Serves lies.ticket = sym idle ∙ (ap (λ (u : View). u.stage) alike ∙ lies.serves) in
      cc never)
      (λ (ne : at ≢ id). (kept.apart id at v lies.view (λ e. ne (sym e)) there lies.there).numbers seat holds same))

  -- where all seats but one have ended, the account is in the slot, and is what they all have seen
  pub closes : (id : ℕ) (v : View) (words : List ℕ) (slots : List (Option Ledger)) (left : Option Ledger) → Final (Seen (Kept start) id v) words slots
      → get_elem? slots 0 ≡ some left → v.stage ≡ Idles → v.number ≡ length v.ended → length v.ended + 1 ≡ start.seats
      → (account : Ledger) × (left ≡ Some account) × IsClosedAs start (v.ended ++ v.seen ∷ []) account
  closes id v words slots left final left_is idle is_next is_last =
      let s = final.0 in
      let kept = final.1.0 in
      let there = final.1.1 in
      let now = kept.now in
      let knew = kept.each id v there in
      let seated = knew.seated (subst IsSeat (sym idle) tt) in
      let home : s.homes ≡ some (Some now.account) ∷ [] = alone s kept id v there idle is_next is_last now.holder kept.lies in
      let found : get_elem? slots 0 ≡ some (Some now.account) = final.4 0 (Some now.account) (ap (λ hs. get_elem? hs 0) home) in
      let last : HasEnded now.account (length v.ended) v.seen = record {
        opening = seated.opening;
        until = seated.until;
        limit = seated.limit;
        seen = knew.seen;
        own = subst (λ (n : ℕ). own n v.seen.history ≡ own n now.account.history) is_next seated.own;
      } in
      let count : length (v.ended ++ v.seen ∷ []) ≡ start.seats = omega (arith, length-append v.ended (v.seen ∷ []), is_last) in (
        now.account,
        some-injective left (Some now.account) (sym left_is ∙ found),
        record {
          opening = kept.past.opening;
          until = kept.past.until;
          limit = kept.past.limit;
          legal = kept.past.legal;
          short = kept.past.short;
          each = one_ended now.account 0 v.ended v.seen knew.ended (subst (λ (n : ℕ). HasEnded now.account n v.seen) (omega arith) last);
          no_others = all_below now.account.history (length (v.ended ++ v.seen ∷ [])) (λ n above. kept.past.unmade n (omega (arith, above, count, kept.past.few)));
        },
      )
