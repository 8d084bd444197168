use Rattle.std.proofs.Common.{◌≡◌}
use Rattle.core_tests.proofs.sharing.books.book_of.Given as goal

abbrev pub invariant-loop-seat : goal.invariant-loop-seat
invariant-loop-seat g l = record {
  first : g.S.Shared.reads.key l.first ≡ g.S.Shared.key l.account;
  second : g.S.Shared.reads.key l.second ≡ g.S.Shared.key l.account;
}
