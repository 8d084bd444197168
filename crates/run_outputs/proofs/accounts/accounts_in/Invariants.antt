use Rattle.std.proofs.Common.{take}
use Rattle.run_outputs.specs.KeptRecords.{HaveAccounts}
use Rattle.run_outputs.proofs.accounts.accounts_in.Given as goal

-- the calls of the books so far
abbrev pub invariant-loop-book : goal.invariant-loop-book
invariant-loop-book l = HaveAccounts l.accounts (take l.book-index l.books)
