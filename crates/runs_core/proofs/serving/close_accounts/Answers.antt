use Rattle.std.proofs.Common.{◌≡◌, ◌∙◌, ℕ, [], All, length, map, ap, sym, subst, arith}
use Rattle.std.specs.Prelude.{replicate}
use Rattle.std.specs.Vec.{vec_len}
use Rattle.std.specs.Vec.Iter.{into_iter_items}
use Rattle.std.proofs.lemmas.List.{length-map, length-replicate, nil_from_length}
use Rattle.std.proofs.lemmas.List.Elements.{All-head, All-map, All-tail}
use Rattle.runs_core.proofs.CaseLemmas.{as_many}
use Rattle.runs_core.proofs.LayingOut.{laid_out_length}
use Rattle.runs_core.proofs.Booking.{books_legal, books_owned, books_shown, in_books}
use Rattle.runs_core.proofs.Columns.{AreEven, laid, laid_even, map_twice}
use Rattle.runs_core.proofs.Numbers.{all_there, rows_of, rows_rise, teams_even}
use Rattle.runs_core.proofs.serving.close_accounts.Goals as goal

pub loop-team-init : goal.loop-team-init
loop-team-init g c =
    let many : vec_len c.args.accounts ≡ length c.args.accounts.items = omega (arith, c.args.accounts.ok) in
    rw (c.in_ok-rows.ensures, c.len.ensures, c.into_iter-team-iterator.ensures.into_iter_gives.0)
    (ap (λ n. laid (replicate n []) (map (λ team. team.items) c.args.left.items)) many, length-replicate (vec_len c.args.accounts) [] ∙ many, c.requires.keys)

pub deal-requires : goal.deal-requires
deal-requires g c =
    let left = rw c.in-Some.ensures.steps.0 at c.loop-team.invariant in
    let keys = All-head (λ team. map g.S.Shared.reads.key team.items ≡ map g.S.Shared.key c.args.accounts.items) c.in-Some.team (into_iter_items c.next.new.self) left.2 in
    as_many g.S.Shared.reads.key g.S.Shared.key c.in-Some.team.items c.args.accounts.items keys ∙ sym left.1 ∙ length-map c.loop-team.rows.items (λ row. row.items)

pub loop-team-preserved : goal.loop-team-preserved
loop-team-preserved g c =
    let left = rw c.in-Some.ensures.steps.0 at c.loop-team.invariant in
    rw (c.in_ok-deal.ensures) (
      left.0,
      laid_out_length (map (λ row. row.items) c.loop-team.rows.items) c.in-Some.team.items ∙ left.1,
      All-tail (λ team. map g.S.Shared.reads.key team.items ≡ map g.S.Shared.key c.args.accounts.items) c.in-Some.team (into_iter_items c.next.new.self) left.2,
    )

pub close_each-requires-clause-rows : goal.close_each-requires-clause-rows
close_each-requires-clause-rows g c = λ _ _.
    let none : into_iter_items c.loop-team.team-iterator ≡ [] = nil_from_length _ (omega (arith, c.in-None.ensures.steps.0, c.loop-team.team-iterator.rest.ok)) in
    let left = rw (none) at c.loop-team.invariant in
    let teams = map (λ team. team.items) c.args.left.items in
    let keys = All-map (λ team. map g.S.Shared.reads.key team ≡ map g.S.Shared.key c.args.accounts.items) (λ team. team.items) c.args.left.items c.requires.keys in
    rw (c.into_iter.ensures.rest, c.into_iter-2.ensures.rest, left.0) (rows_of g.S.Shared.reads.key g.S.Shared.key c.args.accounts.items teams keys)

pub close_each-requires-clause-all : goal.close_each-requires-clause-all
close_each-requires-clause-all g c = λ _ _.
    let none : into_iter_items c.loop-team.team-iterator ≡ [] = nil_from_length _ (omega (arith, c.in-None.ensures.steps.0, c.loop-team.team-iterator.rest.ok)) in
    let left = rw (none) at c.loop-team.invariant in
    let read = g.S.Shared.reads in
    let teams = map (λ team. team.items) c.args.left.items in
    let rows = map (λ row. row.items) c.loop-team.rows.items in
    let keys = All-map (λ team. map read.key team ≡ map g.S.Shared.key c.args.accounts.items) (λ team. team.items) c.args.left.items c.requires.keys in
    let rise = rows_rise read (length c.args.accounts.items) teams c.requires.numbers (teams_even read.key g.S.Shared.key c.args.accounts.items teams keys) in
    let many : length teams ≡ length c.args.left.items = length-map c.args.left.items (λ team. team.items) in
    let Each : ℕ → Type 0 = λ n. All (λ account. (g.S.Shared.terms account).seats ≡ n) c.args.accounts.items in
    rw (c.into_iter.ensures.rest, c.into_iter-2.ensures.rest, map_twice (λ row. row.items) (map read.number) c.loop-team.rows.items)
    (all_there (λ account. (g.S.Shared.terms account).seats) (length teams) c.args.accounts.items (map (map read.number) rows) (subst Each (sym many) c.requires.seats)
    (rw (left.0) rise) (length-map rows (map read.number) ∙ left.1))

pub returns-clause-terms : goal.returns-clause-terms
returns-clause-terms g c =
    books_shown g.S.Shared.reads g.S.Shared.was g.S.Shared.stood g.S.Shared.terms (length c.args.left.items) c.args.accounts.items _ c.close_each.new.books.items
    (rw (c.into_iter.ensures.rest, c.into_iter-2.ensures.rest) at c.in_ok-close_each.ensures.books) c.requires.seats

pub returns-clause-legal : goal.returns-clause-legal
returns-clause-legal g c =
    books_legal g.S.Shared.reads g.S.Shared.was g.S.Shared.stood g.S.Shared.terms c.args.accounts.items _ c.close_each.new.books.items
    (rw (c.into_iter.ensures.rest, c.into_iter-2.ensures.rest) at c.in_ok-close_each.ensures.books)

pub returns-clause-owned : goal.returns-clause-owned
returns-clause-owned g c =
    let none : into_iter_items c.loop-team.team-iterator ≡ [] = nil_from_length _ (omega (arith, c.in-None.ensures.steps.0, c.loop-team.team-iterator.rest.ok)) in
    let left = rw (none) at c.loop-team.invariant in
    let read = g.S.Shared.reads in
    let teams = map (λ team. team.items) c.args.left.items in
    let rows = map (λ row. row.items) c.loop-team.rows.items in
    let keys = All-map (λ team. map read.key team ≡ map g.S.Shared.key c.args.accounts.items) (λ team. team.items) c.args.left.items c.requires.keys in
    let even : AreEven (length c.args.left.items) rows =
    rw (left.0, ← length-map c.args.left.items (λ team. team.items)) (laid_even (length c.args.accounts.items) teams (teams_even read.key g.S.Shared.key c.args.accounts.items teams keys)) in
    books_owned read g.S.Shared.was g.S.Shared.stood g.S.Shared.terms (length c.args.left.items) c.args.accounts.items rows c.close_each.new.books.items
    (rw (c.into_iter.ensures.rest, c.into_iter-2.ensures.rest) at c.in_ok-close_each.ensures.books) even

pub returns-clause-shown : goal.returns-clause-shown
returns-clause-shown g c =
    let none : into_iter_items c.loop-team.team-iterator ≡ [] = nil_from_length _ (omega (arith, c.in-None.ensures.steps.0, c.loop-team.team-iterator.rest.ok)) in
    let left = rw (none) at c.loop-team.invariant in
    let read = g.S.Shared.reads in
    let teams = map (λ team. team.items) c.args.left.items in
    let rows = map (λ row. row.items) c.loop-team.rows.items in
    let keys = All-map (λ team. map read.key team ≡ map g.S.Shared.key c.args.accounts.items) (λ team. team.items) c.args.left.items c.requires.keys in
    λ worker below.
    in_books read g.S.Shared.was g.S.Shared.stood g.S.Shared.terms g.S.Shared.key c.args.accounts.items teams rows c.close_each.new.books.items worker left.0 keys c.requires.numbers
    (rw (c.into_iter.ensures.rest, c.into_iter-2.ensures.rest) at c.in_ok-close_each.ensures.books)
    (omega (arith, below, length-map c.args.left.items (λ team. team.items)))
