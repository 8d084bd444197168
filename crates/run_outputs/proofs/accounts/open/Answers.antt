use Rattle.std.proofs.Common.{◌≡◌, ◌==◌, true, false, sym, ap, ◌∙◌}
use Rattle.std.specs.BTreeMap.{get}
use Rattle.std.specs.Ordering.{nat_cmp}
use Rattle.std.specs.Prelude.{is_some}
use Rattle.tariff_core.proofs.IndexLemmas.{is_eq-nat_cmp}
use Rattle.run_outputs.proofs.AccountLemmas.{book_more, calls_opened, calls_stay}
use Rattle.run_outputs.proofs.CallLemmas.{same_call}
use Rattle.run_outputs.specs.Standings.{book_of}
use Rattle.run_outputs.proofs.accounts.open.Goals as goal

pub returns-then-contains_key : goal.returns-then-contains_key
returns-then-contains_key c = λ books have account.
    let accounts = c.args.accounts.now in
    let book = c.args.book.now in
    let known : is_some (get nat_cmp accounts book.account) ≡ true = rw c.account.ensures at (sym c.if-contains_key.ensures) in
    rw (book_more account books book)
    (calls_stay (get nat_cmp accounts account) (book_of account books) (book.account == account) book
    (λ same. ap (λ a. is_some (get nat_cmp accounts a)) (sym (same_call book.account account same)) ∙ known) (have account))

pub returns : goal.returns
returns c = λ books have account.
    let accounts = c.args.accounts.now in
    let book = c.args.book.now in
    let new : is_some (get nat_cmp accounts book.account) ≡ false = rw c.account.ensures at (sym c.if-contains_key.ensures) in
    rw (book_more account books book, c.in_ok-insert.ensures.updates.0 account, c.account-2.ensures, is_eq-nat_cmp book.account account)
    (calls_opened (get nat_cmp accounts account) (book_of account books) (book.account == account) book c.in_ok-calls.calls
    (λ same. ap (λ a. is_some (get nat_cmp accounts a)) (sym (same_call book.account account same)) ∙ new) c.in_ok-calls.ensures (have account))
