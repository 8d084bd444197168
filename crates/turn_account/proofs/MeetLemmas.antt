-- Two seats meet.
use Rattle.std.proofs.Common.{◌≡◌, ◌≤◌, ℕ, List, [], ◌∷◌, ◌++◌, length, set, refl, sym, ◌∙◌, arith, subst, inl, inr, Option}
use mathlib.Core.Logic.{dite}
use mathlib.Core.Option.{none, some}
use native.Mathlib.Decide.{dec_le}
use lib.ListN.{get_elem?}
use lib.Seq.{set-get_or}
use Rattle.atomic_table.specs.Table.{Allows, Joins, Splits, keeps, step}
use Rattle.atomic_table.proofs.Lists.{set_again, set_else}
use Rattle.account_core.specs.Answers.{IsLegal}
use Rattle.account_core.specs.Entries.{EntryData}
use Rattle.account_core.specs.Own.{own}
use Rattle.turn_account.specs.Plays.{HasMet, Sitter, compared}
use Rattle.account_core.specs.Prefixes.{IsPrefix}
use Rattle.turn_account.specs.Turns.{Kept, Knows}
use Rattle.turn_account.specs.Views.{IsSeat, hearing, note_of, seats_at, seeing, spent_note, tickets_at}
use Rattle.turn_account.specs.declared.board.Stage.TheVariants.{Idles, Notes, Serves}
use Rattle.turn_account.specs.declared.board.Start.{Start}
use Rattle.turn_account.specs.declared.board.View.{View}
use Rattle.account_core.proofs.Beginnings.{begins_any, begins_itself, legal_begins, own_between, shorter_begins}
use Rattle.turn_account.proofs.Rosters.{apart_end, lies_end, note_apart, total_end, views_grow}
use Rattle.turn_account.proofs.Keeping.{Table, revises, unchanged}

module _ (start : Start) where
  -- ---- a note is made

  noted : (s : Table) (id : ℕ) (v : View) (kept : Kept start s) → get_elem? s.views id ≡ some v
      → Kept start (record { words = s.words; homes = s.homes; views = s.views ++ note_of v ∷ [] })
  noted s id v kept there =
      let now = kept.now in
      let note : View = note_of v in
      record {
        now = now;
        words = kept.words;
        past = kept.past;
        totals = record {
          seats = omega (arith, total_end seats_at s.views note, kept.totals.seats);
          tickets = omega (arith, total_end tickets_at s.views note, kept.totals.tickets);
        };
        each = views_grow (Knows now) s.views note (λ at. record {
          seen = (kept.each id v there).seen;
          heard = begins_any now.account.history;
          ended = tt;
          gone = omega arith;
          seated = λ seat. absurd seat;
          ticket = λ t has. absurd (cc has);
          turn = λ t has. absurd (cc has);
        }) kept.each;
        apart = apart_end s.views note kept.apart (λ by other here. note_apart note other refl);
        lies = lies_end now.account s.homes s.views note now.holder kept.lies;
      }

  pub notes : (id : ℕ) (v : View) → Splits (Kept start) id v v (note_of v)
  notes id v s kept there =
      subst (λ (vs : List View). Kept start (record { words = s.words; homes = s.homes; views = vs ++ note_of v ∷ [] })) (sym (set_again s.views id v there))
      (noted s id v kept there)

  -- ---- a note is heard

  pub hears : (id : ℕ) (v : View) (other : ℕ) (note : View) → note.stage ≡ Notes → Joins (Kept start) id v other note (hearing v note) spent_note
  hears id v other note is s kept there differs here =
      let before : get_elem? s.views other ≡ some note = sym (set_else s.views id other (hearing v note) differs) ∙ here in
      let knew = kept.each id v there in
      let mid = revises start s id v (hearing v note) kept there refl (λ _. refl) (record {
        seen = knew.seen;
        heard = (kept.each other note before).seen;
        ended = knew.ended;
        gone = knew.gone;
        seated = λ seat. let n = knew.seated seat in record { opening = n.opening; until = n.until; limit = n.limit; number = n.number; gone = n.gone; first = n.first; own = n.own };
        ticket = knew.ticket;
        turn = λ t has. let turn = knew.turn t has in record { served = turn.served; holder = turn.holder; seen = turn.seen };
      }) in
      revises start (record { words = s.words; homes = s.homes; views = set s.views id (hearing v note) }) other note spent_note mid here (sym is) (λ seat. absurd seat) (record {
        seen = begins_any mid.now.account.history;
        heard = begins_any mid.now.account.history;
        ended = tt;
        gone = omega arith;
        seated = λ seat. absurd seat;
        ticket = λ t has. absurd (cc has);
        turn = λ t has. absurd (cc has);
      })

  -- ---- what was heard is compared with what was seen

  seen_legal : (s : Table) (id : ℕ) (v : View) (kept : Kept start s) → get_elem? s.views id ≡ some v → v.stage ≡ Idles → (history : List EntryData)
      → IsPrefix history kept.now.account.history → IsLegal v.seen.opening v.seen.until history
  seen_legal s id v kept there idle history begins =
      let seated = (kept.each id v there).seated (subst IsSeat (sym idle) tt) in
      subst (λ (n : ℕ). IsLegal n v.seen.until history) (sym seated.opening)
      (subst (λ (n : Option ℕ). IsLegal kept.now.account.opening n history) (sym seated.until)
      (legal_begins kept.now.account.opening kept.now.account.until history kept.now.account.history begins kept.past.legal))

  met_longer : (s : Table) (id : ℕ) (v : View) (kept : Kept start s) → get_elem? s.views id ≡ some v → v.stage ≡ Idles → length v.seen.history ≤ length v.heard.history
      → let w : View = seeing v (record v.seen { history = v.heard.history }) in
      HasMet v.seen.history v.heard.history v w × Kept start (record { words = s.words; homes = s.homes; views = set s.views id w })
  met_longer s id v kept there idle within =
      let now = kept.now in
      let H : List EntryData = now.account.history in
      let w : View = seeing v (record v.seen { history = v.heard.history }) in
      let knew = kept.each id v there in
      let seated = knew.seated (subst IsSeat (sym idle) tt) in
      let begins : IsPrefix v.seen.history v.heard.history = shorter_begins v.seen.history v.heard.history H knew.seen knew.heard within in
      let same : own v.number v.heard.history ≡ own v.number v.seen.history = own_between v.number v.seen.history v.heard.history H begins knew.heard seated.own in (
        record {
          stage = refl;
          number = refl;
          opening = refl;
          until = refl;
          limit = refl;
          one = inl refl;
          legal = seen_legal s id v kept there idle v.heard.history knew.heard;
          begins_seen = begins;
          begins_heard = begins_itself v.heard.history;
          own = same;
          ended = refl;
        },
        revises start s id v w kept there refl (λ _. refl) (record {
          seen = knew.heard;
          heard = knew.heard;
          ended = knew.ended;
          gone = knew.gone;
          seated = λ _. record { opening = seated.opening; until = seated.until; limit = seated.limit; number = seated.number; gone = seated.gone; first = seated.first; own = same ∙ seated.own };
          ticket = knew.ticket;
          turn = λ t has. let never : Idles ≡ Serves t = sym idle ∙ has in absurd (cc never);
        }),
      )

  pub compares : (slots id : ℕ) (m : Sitter) → m.0.stage ≡ Idles → Allows (Kept start) slots id m 1 (λ n. n) (compared (step slots 1 0 0 none) m)
  compares slots id m idle s kept count there fits =
      let seen : List EntryData = m.0.seen.history in
      let heard : List EntryData = m.0.heard.history in
      let knew = kept.each id m.0 there in
      dite (dec_le (length seen) (length heard))
      (λ (within : length seen ≤ length heard).
      let w : View = seeing m.0 (record m.0.seen { history = heard }) in
      let both = met_longer s id m.0 kept there idle within in
      let W : List ℕ → Type 0 = λ ws. Kept start (record { words = ws; homes = s.homes; views = set s.views id w }) in
      (w, keeps, tt, subst W (sym (set-get_or s.words 1 0)) both.1, (both.0, refl)))
      (λ (over : length seen ≤ length heard → ⊥).
      let less : length heard ≤ length seen = omega (arith, over) in
      let met : HasMet seen heard m.0 m.0 = record {
        stage = refl;
        number = refl;
        opening = refl;
        until = refl;
        limit = refl;
        one = inr refl;
        legal = seen_legal s id m.0 kept there idle seen knew.seen;
        begins_seen = begins_itself seen;
        begins_heard = shorter_begins heard seen kept.now.account.history knew.heard knew.seen less;
        own = refl;
        ended = refl;
      } in
      (m.0, keeps, tt, unchanged start s 1 id m.0 there kept, (met, refl)))
