use Rattle.std.proofs.Common.{◌+◌, ◌++◌, ◌≤◌, List, length, map}
use Rattle.std.specs.Vec.{vec_capacity, vec_len}
use Rattle.std.specs.Vec.Iter.{into_iter_items, into_iter_len}
use Rattle.account_core.specs.Closed.{Closed}
use Rattle.runs_core.specs.Closing.{AreAllThere, AreBooksOfSeats, AreSeatsOf}
use Rattle.runs_core.proofs.serving.close_each.Given as goal

-- with the books of the accounts that are left, those that were made are the books of all
abbrev pub invariant-loop-account : goal.invariant-loop-account
invariant-loop-account g l =
    AreSeatsOf g.S.Shared.reads.key (map g.S.Shared.key (into_iter_items l.accounts)) (map (λ row. row.items) (into_iter_items l.rows))
    × ((later : List Closed) → AreBooksOfSeats g.S.Shared.reads g.S.Shared.was g.S.Shared.stood (map g.S.Shared.terms (into_iter_items l.accounts)) (map (λ row. row.items) (into_iter_items l.rows)) later
    → AreBooksOfSeats g.S.Shared.reads g.S.Shared.was g.S.Shared.stood (map g.S.Shared.terms (into_iter_items l.fn.accounts)) (map (λ row. row.items) (into_iter_items l.fn.rows)) (l.books.items ++ later))
    × AreAllThere (map (λ account. (g.S.Shared.terms account).seats) (into_iter_items l.accounts)) (map (λ row. map g.S.Shared.reads.number row.items) (into_iter_items l.rows))
    × (vec_len l.books + length (into_iter_items l.accounts) ≤ vec_capacity l.books)

abbrev pub decreases-loop-account : goal.decreases-loop-account
decreases-loop-account g l = into_iter_len l.accounts
