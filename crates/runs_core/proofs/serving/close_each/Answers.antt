use Rattle.std.proofs.Common.{rules, arith, ◌≡◌, ◌∷◌, ◌++◌, [], List, ap, length, map, subst, sym}
use Rattle.std.specs.Vec.Iter.{into_iter_items}
use Rattle.std.proofs.lemmas.List.{append-nil, append_assoc, nil_from_length}
use Rattle.account_core.specs.Closed.{Closed}
use Rattle.runs_core.specs.Closing.{AreBooksOfSeats}
use Rattle.runs_core.proofs.serving.close_each.Goals as goal

pub loop-account-init : goal.loop-account-init
loop-account-init g c = rw c.requires.none (c.requires.rows, λ later are. are, c.requires.all, omega (arith, c.requires.room, c.args.books.now.ok, ap length c.requires.none))

pub loop-account-preserved : goal.loop-account-preserved
loop-account-preserved g c =
    let rows : into_iter_items c.loop-account.rows ≡ c.in-Some-next.seats ∷ into_iter_items c.next-in-Some.new.self = search rules in
    let before = rw (c.in-Some.ensures.items, rows) at c.loop-account.invariant in
    let book = c.in_ok-close.field-0 in
    let done : List Closed → Type 0 = λ later. AreBooksOfSeats g.S.Shared.reads g.S.Shared.was g.S.Shared.stood (map g.S.Shared.terms (into_iter_items c.args.accounts.now)) (map (λ row. row.items) (into_iter_items c.args.rows.now)) (c.loop-account.books.items ++ later) in
    let more = subst (λ seats. (later : List Closed) → AreBooksOfSeats g.S.Shared.reads g.S.Shared.was g.S.Shared.stood (g.S.Shared.terms c.in-Some.account ∷ map g.S.Shared.terms (into_iter_items c.next.new.self)) (map (λ row. row.items) seats) later → done later) rows before.1 in
    rw (c.push_reserved.ensures.items) (
      before.0.1,
      λ later are. subst (AreBooksOfSeats g.S.Shared.reads g.S.Shared.was g.S.Shared.stood (map g.S.Shared.terms (into_iter_items c.args.accounts.now)) (map (λ row. row.items) (into_iter_items c.args.rows.now)))
          (sym (append_assoc c.loop-account.books.items (book ∷ []) later)) (more (book ∷ later) (c.in_ok-close.ensures.book, c.in_ok-close.ensures.shows, are)),
      before.2.1,
      omega (arith, before.3, c.push_reserved.ensures.len, c.push_reserved.ensures.capacity),
    )

pub push_reserved-requires : goal.push_reserved-requires
push_reserved-requires g c =
    let before = rw c.in-Some.ensures.items at c.loop-account.invariant in
    omega (arith, before.3)

pub returns-clause-books : goal.returns-clause-books
returns-clause-books g c =
    let none : into_iter_items c.loop-account.accounts ≡ [] = nil_from_length _ (omega (arith, c.in_default.ensures.cases.0, c.loop-account.accounts.rest.ok)) in
    let left = rw (none) at c.loop-account.invariant in
    subst (AreBooksOfSeats g.S.Shared.reads g.S.Shared.was g.S.Shared.stood (map g.S.Shared.terms (into_iter_items c.args.accounts.now)) (map (λ row. row.items) (into_iter_items c.args.rows.now)))
    (append-nil c.loop-account.books.items) (left.1 [] tt)

pub close-requires-clause-keys : goal.close-requires-clause-keys
close-requires-clause-keys g c = λ _ _.
    let rows : into_iter_items c.loop-account.rows ≡ c.in-Some-next.seats ∷ into_iter_items c.next-in-Some.new.self = search rules in
    let before = rw (c.in-Some.ensures.items, rows) at c.loop-account.invariant in
    before.0.0

pub close-requires-clause-all : goal.close-requires-clause-all
close-requires-clause-all g c = λ _ _.
    let rows : into_iter_items c.loop-account.rows ≡ c.in-Some-next.seats ∷ into_iter_items c.next-in-Some.new.self = search rules in
    let before = rw (c.in-Some.ensures.items, rows) at c.loop-account.invariant in
    before.2.0
