-- The steps of a turn keep its rule, and show what they are to show.
use Rattle.std.proofs.Common.{◌≡◌, ◌≢◌, ◌≤◌, ◌<◌, ◌+◌, ◌-◌, ◌%◌, ◌^◌, ℕ, Option, Some, None, List, [], ◌∷◌, length, get_or, set, refl, sym, ap, ◌∙◌, arith, subst, length-append}
use mathlib.Core.Logic.{dite}
use mathlib.Core.Option.{none, some, some-injective}
use mathlib.Core.Option as maybe
use native.Mathlib.Decide.{ℕ_discrete}
use lib.ListN.{get_elem?}
use lib.Seq.{set-get_or}
use Rattle.atomic_table.specs.Table.{Allows, gives, keeps, put_back, step, takes}
use Rattle.atomic_table.proofs.Lists.{one_turn, set_here}
use Rattle.account_core.specs.Answers.{IsLegal}
use Rattle.account_core.specs.Entries.{EntryData}
use Rattle.account_core.specs.Ledger.{Ledger, answer_of, refusal_of}
use Rattle.account_core.specs.SharingLaws.{EachIsOwedItsShare}
use Rattle.turn_account.specs.Ended.{HaveEnded}
use Rattle.account_core.specs.Own.{own}
use Rattle.turn_account.specs.Plays.{IsLater, Sitter, appended, issued, handed, looked, with_entry}
use Rattle.account_core.specs.Prefixes.{IsPrefix}
use Rattle.turn_account.specs.Turns.{BoardState, AllApart, AllKnow, AreWords, IsOut, IsTakenUp, Kept, Knows, AccountLiesAt}
use Rattle.turn_account.specs.Views.{IsSeat, IsServing, at_stage, its_ticket, seats_at, seeing, ticket_of, tickets_at}
use Rattle.turn_account.specs.declared.board.Stage.TheVariants.{Idles, Serves, Waits}
use Rattle.turn_account.specs.declared.board.Start.{Start}
use Rattle.turn_account.specs.declared.board.View.{View}
use Rattle.account_core.proofs.Beginnings.{begins_further, begins_itself, begins_longer, own_other}
use Rattle.turn_account.proofs.Ended.{ended_longer}
use Rattle.turn_account.proofs.Longer.{legal_with, short_with}
use Rattle.turn_account.proofs.Rosters.{apart_alike, apart_set, knows_again, lies_set, tickets_fewer, total_kept, total_set, views_stay, within_views}
use Rattle.turn_account.proofs.Keeping.{Table, numbered_so, serving_is, unchanged, words_count, words_draw, words_hand}

-- ---- nobody has the turn where a ticket that waits is served

home_if : (now : BoardState) (homes : List (maybe.Option (Option Ledger))) (views : List View) (id t : ℕ) (v : View) (holder : Option ℕ) → AllKnow now views → AllApart views
    → get_elem? views id ≡ some v → v.stage ≡ Waits t → t ≡ now.served → AccountLiesAt now.account homes views holder → holder ≡ None
home_if now homes views id t v None each apart there waits served lies = refl
home_if now homes views id t v (Some by) each apart there waits served lies =
    let turn = (each by lies.view lies.there).turn lies.ticket lies.serves in
    absurd (dite (ℕ_discrete by id)
    (λ (e : by ≡ id).
    let its : get_elem? views id ≡ some lies.view = subst (λ (i : ℕ). get_elem? views i ≡ some lies.view) e lies.there in
    let same : v ≡ lies.view = some-injective v lies.view (sym there ∙ its) in
    let never : Waits t ≡ Serves lies.ticket = sym waits ∙ (ap (λ (u : View). u.stage) same ∙ lies.serves) in
    cc never)
    (λ (ne : by ≢ id).
    (apart by id lies.view v ne lies.there there).tickets t (ap ticket_of lies.serves ∙ ap (λ (n : ℕ). Some n) (turn.served ∙ sym served)) (ap ticket_of waits)))

module _ (start : Start) where
  -- ---- a ticket is issued

  pub draws : (slots id : ℕ) (m : Sitter) → m.0.stage ≡ Idles → Allows (Kept start) slots id m 0 (λ n. (n + 1) % 2 ^ 64) (issued (step slots 0 1 0 none) m)
  draws slots id m idle s kept count there fits =
      let now = kept.now in
      let t : ℕ = now.served + now.out in
      let after : BoardState = record now { out = now.out + 1 } in
      let w : View = at_stage m.0 (Waits t) in
      let knew = kept.each id m.0 there in
      let seat : IsSeat m.0.stage = subst IsSeat (sym idle) tt in (
        w,
        keeps,
        tt,
        record {
          now = after;
          words = words_draw now s.words kept.words;
          past = kept.past;
          totals = record {
            seats = ap (λ (n : ℕ). n + now.gone) (total_kept seats_at s.views id m.0 w there (ap seats_at (sym idle))) ∙ kept.totals.seats;
            tickets = omega (arith, total_set tickets_at s.views id m.0 w there, ap tickets_at idle, kept.totals.tickets);
          };
          each = views_stay (Knows after) s.views id w (record {
            seen = knew.seen;
            heard = knew.heard;
            ended = knew.ended;
            gone = knew.gone;
            seated = λ _. numbered_so now now.served (now.out + 1) now.holder m.0 (Waits t) m.0.heard (knew.seated seat);
            ticket = λ t' is. let same : t ≡ t' = cc is in subst (IsOut after) same (record { issued = omega arith; unserved = omega arith });
            turn = λ t' is. absurd (cc is);
          })
              (λ at u other is. let know = kept.each at u is in knows_again now after at u know know.seen know.heard know.ended (omega arith)
              (λ _ n. numbered_so now now.served (now.out + 1) now.holder u u.stage u.heard n)
              (λ t' _ out. record { issued = out.issued; unserved = omega (arith, out.unserved) })
              (λ t' _ turn. record { served = turn.served; holder = turn.holder; seen = turn.seen }));
          apart = apart_set s.views id w kept.apart (λ by u other is. record {
            numbers = λ first second same. (kept.apart id by m.0 u (λ e. other (sym e)) there is).numbers seat second same;
            tickets = λ t' first second. let same : t ≡ t' = cc first in let out = (kept.each by u is).ticket t' second in omega (arith, same, out.unserved);
          });
          lies = lies_set now.account s.homes s.views id m.0 w now.holder there (λ t' is. let never : Idles ≡ Serves t' = sym idle ∙ is in absurd (cc never)) kept.lies;
        },
        (kept.words.ticket, refl, refl),
      )

  -- ---- the ticket that is served is looked at

  out_few : (s : Table) (kept : Kept start s) → kept.now.out ≤ 16
  out_few s kept = omega (arith, tickets_fewer s.views, kept.totals.seats, kept.totals.tickets, kept.past.few, kept.past.sixteen)

  served_is : (s : Table) (kept : Kept start s) (t : ℕ) → IsOut kept.now t → get_or s.words 1 0 ≡ t % 2 ^ 64 → t ≡ kept.now.served
  served_is s kept t out found =
      let near : t < kept.now.served + 2 ^ 64 = omega (arith, out.unserved, out_few s kept) in
      sym (one_turn kept.now.served t (2 ^ 64) out.issued near (sym kept.words.serving ∙ found))

  comes : (slots id : ℕ) (m : Sitter) (t : ℕ) → m.0.stage ≡ Waits t → (s : Table) (kept : Kept start s) → get_elem? s.views id ≡ some m.0 → t ≡ kept.now.served
      → kept.now.holder ≡ None → let w : View = record m.0 { stage = Serves t; seen = kept.now.account } in
      Kept start (record { words = set s.words 1 (get_or s.words 1 0); homes = set s.homes 0 none; views = set s.views id w })
  comes slots id m t waits s kept there served nobody =
      let now = kept.now in
      let after : BoardState = record now { holder = Some id } in
      let w : View = record m.0 { stage = Serves t; seen = now.account } in
      let knew = kept.each id m.0 there in
      let seat : IsSeat m.0.stage = subst IsSeat (sym waits) tt in
      let seated = knew.seated seat in
      let home : s.homes ≡ some (Some now.account) ∷ [] = subst (AccountLiesAt now.account s.homes s.views) nobody kept.lies in
      let out = knew.ticket t (ap ticket_of waits) in
      let words : AreWords after s.words = record { wide = kept.words.wide; ticket = kept.words.ticket; serving = kept.words.serving; count = kept.words.count } in
      record {
        now = after;
        words = subst (AreWords after) (sym (set-get_or s.words 1 0)) words;
        past = kept.past;
        totals = record {
          seats = ap (λ (n : ℕ). n + now.gone) (total_kept seats_at s.views id m.0 w there (ap seats_at (sym waits))) ∙ kept.totals.seats;
          tickets = total_kept tickets_at s.views id m.0 w there (ap tickets_at (sym waits)) ∙ kept.totals.tickets;
        };
        each = views_stay (Knows after) s.views id w (record {
          seen = begins_itself now.account.history;
          heard = knew.heard;
          ended = knew.ended;
          gone = knew.gone;
          seated = λ _. record { opening = refl; until = refl; limit = refl; number = seated.number; gone = seated.gone; first = seated.first; own = refl };
          ticket = λ t' is. let same : t ≡ t' = cc is in subst (IsOut after) same (record { issued = out.issued; unserved = out.unserved });
          turn = λ t' is. let same : t ≡ t' = cc is in record { served = sym same ∙ served; holder = refl; seen = refl };
        })
            (λ at u other is. let know = kept.each at u is in knows_again now after at u know know.seen know.heard know.ended (omega arith)
            (λ _ n. numbered_so now now.served now.out (Some id) u u.stage u.heard n)
            (λ t' _ o. record { issued = o.issued; unserved = o.unserved })
            (λ t' _ turn. let never : None ≡ Some at = sym nobody ∙ turn.holder in absurd (cc never)));
        apart = apart_set s.views id w kept.apart (λ by u other is. apart_alike m.0 w u (λ _. refl) (λ _. seat) (λ t' has. ap ticket_of waits ∙ has)
            (kept.apart id by m.0 u (λ e. other (sym e)) there is));
        lies = record {
          empty = ap (λ hs. set hs 0 none) home;
          view = w;
          ticket = t;
          there = set_here s.views id w (within_views s.views id m.0 there);
          serves = refl;
        };
      }

  pub looks : (slots id : ℕ) (m : Sitter) → m.0.stage ≡ Waits (its_ticket m.0.stage) → Allows (Kept start) slots id m 1 (λ n. n) (looked (step slots 1 0 0 none) m)
  looks slots id m waits s kept count there fits =
      let t : ℕ = its_ticket m.0.stage in
      let now = kept.now in
      let knew = kept.each id m.0 there in
      let seated = knew.seated (subst IsSeat (sym waits) tt) in
      dite (ℕ_discrete (get_or s.words 1 0) (t % 2 ^ 64))
      (λ (found : get_or s.words 1 0 ≡ t % 2 ^ 64).
      let served : t ≡ now.served = served_is s kept t (knew.ticket t (ap ticket_of waits)) found in
      let nobody : now.holder ≡ None = home_if now s.homes s.views id t m.0 now.holder kept.each kept.apart there waits served kept.lies in
      let home : s.homes ≡ some (Some now.account) ∷ [] = subst (AccountLiesAt now.account s.homes s.views) nobody kept.lies in
      let later : IsLater m.0 (record m.0 { stage = Serves t; seen = now.account }) = record {
        number = refl;
        opening = sym seated.opening;
        until = sym seated.until;
        limit = sym seated.limit;
        legal = kept.past.legal;
        begins = knew.seen;
        own = sym seated.own;
        ended = refl;
      } in (
        record m.0 { stage = Serves t; seen = now.account },
        takes 0 (Some now.account),
        ap (λ hs. get_elem? hs 0) home,
        comes slots id m t waits s kept there served nobody,
        ((λ _. record { later = later; stage = refl; taken = refl }), λ ne. absurd (ne found)),
      ))
      (λ (other : get_or s.words 1 0 ≢ t % 2 ^ 64).
      (m.0, keeps, tt, unchanged start s 1 id m.0 there kept, ((λ found. absurd (other found)), λ _. refl)))

  -- ---- an entry is counted

  pub appends : (slots id : ℕ) (m : Sitter) (entry : EntryData) → IsServing m.0.stage → entry.seat ≡ m.0.number → refusal_of m.0.seen entry.asked ≡ None
      → entry.reply ≡ answer_of m.0.seen entry.asked → EachIsOwedItsShare
      → Allows (Kept start) slots id m 2 (λ n. (n + 1) % 2 ^ 64) (appended entry (step slots 2 1 0 none) m)
  appends slots id m entry serving its admitted answered share s kept count there fits =
      let now = kept.now in
      let t : ℕ = its_ticket m.0.stage in
      let is : m.0.stage ≡ Serves t = serving_is m.0.stage serving in
      let account : Ledger = with_entry m.0.seen entry in
      let after : BoardState = record now { account = account } in
      let w : View = seeing m.0 account in
      let knew = kept.each id m.0 there in
      let seat : IsSeat m.0.stage = subst IsSeat (sym is) tt in
      let seated = knew.seated seat in
      let turn = knew.turn t is in
      let was : now.account ≡ m.0.seen = sym turn.seen in
      let longer : IsPrefix now.account.history account.history = subst (λ (a : Ledger). IsPrefix a.history account.history) turn.seen (begins_longer m.0.seen.history entry) in
      let sum : length account.history ≡ length m.0.seen.history + 1 = length-append m.0.seen.history (entry ∷ []) in
      let old_length : length now.account.history ≡ length m.0.seen.history = ap (λ (a : Ledger). length a.history) was in
      let same_limit : now.account.limit ≡ m.0.seen.limit = ap (λ (a : Ledger). a.limit) was in
      let short : length account.history ≤ m.0.seen.limit = omega (arith, short_with m.0.seen entry admitted share, sum) in
      let others_own : (n : ℕ) → entry.seat ≢ n → own n now.account.history ≡ own n account.history = λ n ne.
      ap (λ (a : Ledger). own n a.history) was ∙ sym (own_other n m.0.seen.history entry ne) in
      let ended_still : (at : ℕ) (u : View) → Knows now at u → HaveEnded account 0 u.ended = λ at u know.
      subst (λ (a : Ledger). HaveEnded (record a { history = account.history }) 0 u.ended) was
      (ended_longer now.account account.history 0 u.ended longer (λ n first last. others_own n (λ e. omega (arith, e, its, seated.gone, know.gone, last))) know.ended) in (
        w,
        keeps,
        tt,
        record {
          now = after;
          words = words_count now s.words account kept.words (omega (arith, sum, old_length)) (omega (arith, short, same_limit, kept.past.bounded));
          past = record {
            opening = ap (λ (a : Ledger). a.opening) turn.seen ∙ kept.past.opening;
            until = ap (λ (a : Ledger). a.until) turn.seen ∙ kept.past.until;
            limit = ap (λ (a : Ledger). a.limit) turn.seen ∙ kept.past.limit;
            bounded = omega (arith, same_limit, kept.past.bounded);
            legal = legal_with m.0.seen entry admitted (subst (λ (a : Ledger). IsLegal a.opening a.until a.history) was kept.past.legal) answered;
            short = short;
            few = kept.past.few;
            sixteen = kept.past.sixteen;
            unmade = λ n made. sym (others_own n (λ e. omega (arith, e, its, seated.number, made))) ∙ kept.past.unmade n made;
          };
          totals = record {
            seats = ap (λ (n : ℕ). n + now.gone) (total_kept seats_at s.views id m.0 w there refl) ∙ kept.totals.seats;
            tickets = total_kept tickets_at s.views id m.0 w there refl ∙ kept.totals.tickets;
          };
          each = views_stay (Knows after) s.views id w (record {
            seen = begins_itself account.history;
            heard = begins_further m.0.heard.history now.account.history account.history knew.heard longer;
            ended = ended_still id m.0 knew;
            gone = knew.gone;
            seated = λ _. record { opening = refl; until = refl; limit = refl; number = seated.number; gone = seated.gone; first = seated.first; own = refl };
            ticket = λ t' has. let out = knew.ticket t' has in record { issued = out.issued; unserved = out.unserved };
            turn = λ t' has. let old = knew.turn t' has in record { served = old.served; holder = old.holder; seen = refl };
          })
              (λ at u other here. let know = kept.each at u here in knows_again now after at u know
              (begins_further u.seen.history now.account.history account.history know.seen longer)
              (begins_further u.heard.history now.account.history account.history know.heard longer)
              (ended_still at u know) (omega arith)
              (λ second n. record {
                opening = n.opening ∙ ap (λ (a : Ledger). a.opening) was;
                until = n.until ∙ ap (λ (a : Ledger). a.until) was;
                limit = n.limit ∙ ap (λ (a : Ledger). a.limit) was;
                number = n.number;
                gone = n.gone;
                first = n.first;
                own = n.own ∙ others_own u.number (λ e. (kept.apart id at m.0 u (λ i. other (sym i)) there here).numbers seat second (sym its ∙ e));
              })
              (λ t' _ o. record { issued = o.issued; unserved = o.unserved })
              (λ t' _ its_turn. let same : Some id ≡ Some at = sym turn.holder ∙ its_turn.holder in let alike : at ≡ id = cc same in absurd (other alike)));
          apart = apart_set s.views id w kept.apart (λ by u other here. apart_alike m.0 w u (λ _. refl) (λ x. x) (λ t' has. has)
              (kept.apart id by m.0 u (λ e. other (sym e)) there here));
          lies =
              let there_still : AccountLiesAt now.account s.homes (set s.views id w) (Some id) = lies_set now.account s.homes s.views id m.0 w (Some id) there (λ t' has. has)
              (subst (AccountLiesAt now.account s.homes s.views) turn.holder kept.lies) in
              subst (AccountLiesAt account s.homes (set s.views id w)) (sym turn.holder) there_still;
        },
        (refl, refl),
      )

  -- the same of an entry under another name
  pub appends_as : (slots id : ℕ) (m : Sitter) (entry named : EntryData) → named ≡ entry → IsServing m.0.stage → entry.seat ≡ m.0.number → refusal_of m.0.seen entry.asked ≡ None
      → entry.reply ≡ answer_of m.0.seen entry.asked → EachIsOwedItsShare
      → Allows (Kept start) slots id m 2 (λ n. (n + 1) % 2 ^ 64) (appended named (step slots 2 1 0 none) m)
  appends_as slots id m entry named same serving its admitted answered share =
      subst (λ (e : EntryData). Allows (Kept start) slots id m 2 (λ n. (n + 1) % 2 ^ 64) (appended e (step slots 2 1 0 none) m)) (sym same)
      (appends slots id m entry serving its admitted answered share)

  -- ---- the turn is passed on

  pub hands : (slots id : ℕ) (m : Sitter) → IsServing m.0.stage → m.1 ≡ (0, Some m.0.seen) ∷ []
      → Allows (Kept start) slots id m 1 (λ n. (n + 1) % 2 ^ 64) (handed (step slots 1 1 0 none) m)
  hands slots id m serving hand s kept count there fits =
      let now = kept.now in
      let t : ℕ = its_ticket m.0.stage in
      let is : m.0.stage ≡ Serves t = serving_is m.0.stage serving in
      let after : BoardState = record now { served = now.served + 1; out = now.out - 1; holder = None } in
      let w : View = at_stage m.0 Idles in
      let knew = kept.each id m.0 there in
      let seat : IsSeat m.0.stage = subst IsSeat (sym is) tt in
      let turn = knew.turn t is in
      let out = knew.ticket t (ap ticket_of is) in
      let some_out : 1 ≤ now.out = omega (arith, out.unserved, turn.served) in
      let taken : IsTakenUp s.homes s.views id = subst (AccountLiesAt now.account s.homes s.views) turn.holder kept.lies in (
        w,
        gives,
        tt,
        record {
          now = after;
          words = words_hand now s.words kept.words some_out;
          past = kept.past;
          totals = record {
            seats = ap (λ (n : ℕ). n + now.gone) (total_kept seats_at s.views id m.0 w there (ap seats_at (sym is))) ∙ kept.totals.seats;
            tickets = omega (arith, total_set tickets_at s.views id m.0 w there, ap tickets_at is, kept.totals.tickets, some_out);
          };
          each = views_stay (Knows after) s.views id w (record {
            seen = knew.seen;
            heard = knew.heard;
            ended = knew.ended;
            gone = knew.gone;
            seated = λ _. numbered_so now (now.served + 1) (now.out - 1) None m.0 Idles m.0.heard (knew.seated seat);
            ticket = λ t' has. absurd (cc has);
            turn = λ t' has. absurd (cc has);
          })
              (λ at u other here. let know = kept.each at u here in knows_again now after at u know know.seen know.heard know.ended (omega arith)
              (λ _ n. numbered_so now (now.served + 1) (now.out - 1) None u u.stage u.heard n)
              (λ t' has o.
              let differs : t' ≢ now.served = λ e. (kept.apart id at m.0 u (λ i. other (sym i)) there here).tickets t' (ap ticket_of is ∙ ap (λ (n : ℕ). Some n) (turn.served ∙ sym e)) has in
              record { issued = omega (arith, o.issued, differs); unserved = omega (arith, o.unserved, some_out) })
              (λ t' _ its_turn. let same : Some id ≡ Some at = sym turn.holder ∙ its_turn.holder in let alike : at ≡ id = cc same in absurd (other alike)));
          apart = apart_set s.views id w kept.apart (λ by u other here. apart_alike m.0 w u (λ _. refl) (λ _. seat) (λ t' has. absurd (cc has))
              (kept.apart id by m.0 u (λ e. other (sym e)) there here));
          lies = ap (put_back s.homes) hand ∙ (ap (λ hs. set hs 0 (some (Some m.0.seen))) taken.empty ∙ ap (λ (a : Ledger). some (Some a) ∷ []) turn.seen);
        },
        (
          refl,
          refl,
          subst (λ (a : Ledger). IsLegal a.opening a.until a.history) (sym turn.seen) kept.past.legal,
        ),
      )
