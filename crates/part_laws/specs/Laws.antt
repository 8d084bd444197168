-- Accounts don't interfere: a run that is given only what some accounts are concerned with comes to their books, and answers as one that is given all.
use Rattle.std.specs.Prelude.{◌≡◌, ◌++◌, ℕ, List, length, map, take}
use Rattle.live_recovery.specs.Laws.{NoneIsRefused, views_of}
use Rattle.part_laws.specs.Chosen.{AreByAccount, Choice, HasBooksOf, answers_for, chosen}
use Rattle.part_laws.specs.Numbers.{unnumbered_answer}
use Rattle.run_values.specs.Setups.{Setup}
use Rattle.run_values.specs.declared.post.Answer.{Answer}
use Rattle.run_values.specs.declared.post.Body.{Body}
use Rattle.runs_core.specs.Runs.{IsRun}
use Rattle.account_core.specs.Closed.{Closed}
use Rattle.turn_account.specs.Seen.{StoodIn}
use Rattle.tariff_core.specs.Laws.{IsProper}

-- a run was given the items of some accounts, and another one all items: its answers say what the other's say to these items, and it has the books of these accounts
pub record IsOfTheChosen (choice : Choice) (given : List (ℕ × Body)) (answers own_answers : List Answer) (books own_books : List Closed) : Type 0 where
  pub answers_are : map unnumbered_answer own_answers ≡ map unnumbered_answer (answers_for choice given answers)
  pub books_are : HasBooksOf choice books own_books

-- so it is of two runs of one worker over one setup, where each call goes with the account of the subscriber who begins it, and no ask was refused in either
abbrev pub AccountsDontInterfere : Type 0
AccountsDontInterfere =
    (setup : Setup) (choice : Choice) (given : List (ℕ × Body)) (answers own_answers : List Answer) (books own_books : List Closed) → IsProper setup.tariff
    → AreByAccount setup choice given → IsRun StoodIn setup 1 given answers books → IsRun StoodIn setup 1 (chosen choice given) own_answers own_books
    → NoneIsRefused answers → NoneIsRefused own_answers → IsOfTheChosen choice given answers own_answers books own_books

-- where two runs of one worker over one setup are given the same at first, they answer that alike, whatever comes behind it in either
abbrev pub FrontsAreAnsweredAlike : Type 0
FrontsAreAnsweredAlike =
    (setup : Setup) (given more rest : List (ℕ × Body)) (answers others : List Answer) (books other : List Closed) → IsProper setup.tariff
    → IsRun StoodIn setup 1 (given ++ more) answers books → IsRun StoodIn setup 1 (given ++ rest) others other → NoneIsRefused answers → NoneIsRefused others
    → take (length given) (views_of answers) ≡ take (length given) (views_of others)

-- where of two runs of one worker over one setup one is given some items at first, and the other at first just those of them that are of some accounts, the other's answers to these say what the
-- one's say to them, but for their numbers, whatever comes behind them in either, where each call goes with the account of the subscriber who begins it, and no ask was refused in either
abbrev pub FrontsDontInterfere : Type 0
FrontsDontInterfere =
    (setup : Setup) (choice : Choice) (given more own_more : List (ℕ × Body)) (answers own_answers : List Answer) (books own_books : List Closed) → IsProper setup.tariff
    → AreByAccount setup choice (given ++ more) → IsRun StoodIn setup 1 (given ++ more) answers books → IsRun StoodIn setup 1 (chosen choice given ++ own_more) own_answers own_books
    → NoneIsRefused answers → NoneIsRefused own_answers
    → take (length (chosen choice given)) (map unnumbered_answer own_answers) ≡ map unnumbered_answer (answers_for choice given answers)
