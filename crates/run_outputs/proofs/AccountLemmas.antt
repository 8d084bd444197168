-- One book and one sum more.
use Rattle.std.proofs.Common.{◌≡◌, ◌==◌, ◌+◌, ◌<◌, length, get_or, take, ℕ, Bool, true, false, true≢false, cond, reverse, Option, Some, None, List, [], ◌∷◌, ◌++◌, refl, sym, ap, ◌∙◌}
use Rattle.std.proofs.lemmas.List.{get_or_default}
use Rattle.std.specs.Option.{option_map, option_or}
use Rattle.std.specs.Prelude.{if◌then◌else◌, is_some}
use Rattle.book_texts.proofs.TextLemmas.{next_item}
use Rattle.account_core.specs.Entries.{EntryData}
use Rattle.account_core.specs.Known.{CallFacts, known, paid_if_granted, paid_under}
use Rattle.account_core.specs.Sums.{sum_in, sum_of, sum_under}
use Rattle.price_core.specs.Rates.{Rates}
use Rattle.account_core.specs.declared.call_sum.CallSum.{CallSum}
use Rattle.account_core.specs.Closed.{Closed}
use Rattle.run_outputs.specs.KeptRecords.{AreCallsOf, KnowCalls}
use Rattle.run_outputs.specs.Standings.{book_of}
use Rattle.run_outputs.specs.declared.accounts.AccountCalls.{AccountCalls}

found_or : {X : Type 0} (passes : Bool) (x y : Option X) (z : Option X) (first : X) → x ≡ option_or y z
    → (if passes then Some first else x) ≡ option_or (if passes then Some first else y) z
found_or true x y z first is = refl
found_or false x y z first is = is

-- the book of an account with one book more
pub book_more : (account : ℕ) (books : List Closed) (book : Closed)
    → book_of account (books ++ book ∷ []) ≡ option_or (book_of account books) (if book.account == account then Some book else None)
book_more account [] book = refl
book_more account (first ∷ books) book = found_or (first.account == account) _ _ _ first (book_more account books book)

-- the sum of a call with one sum more
pub sum_more : (call : ℕ) (sums : List CallSum) (sum : CallSum)
    → sum_in call (sums ++ sum ∷ []) ≡ option_or (sum_in call sums) (if call == sum.call then Some sum else None)
sum_more call [] sum = refl
sum_more call (first ∷ sums) sum = found_or (call == first.call) _ _ _ first (sum_more call sums sum)

paid_in : (sum : Option CallSum) (passes : Bool) (later : CallSum) → option_or (option_map (λ s. s.paid) sum) (if passes then Some later.paid else None)
    ≡ option_map (λ s. s.paid) (option_or sum (if passes then Some later else None))
paid_in None true later = refl
paid_in None false later = refl
paid_in (Some sum) passes later = refl

-- what a call has paid, by one sum more
pub paid_more : (call : ℕ) (sums : List CallSum) (sum : CallSum) (was is : Option ℕ) → was ≡ option_map (λ s. s.paid) (sum_in call sums)
    → is ≡ option_or was (if call == sum.call then Some sum.paid else None) → is ≡ option_map (λ s. s.paid) (sum_in call (sums ++ sum ∷ []))
paid_more call sums sum was is had now =
    now ∙ ap (λ paid. option_or paid (if call == sum.call then Some sum.paid else None)) had ∙ paid_in (sum_in call sums) (call == sum.call) sum
    ∙ ap (option_map (λ s. s.paid)) (sym (sum_more call sums sum))

-- an account that has its calls keeps them with one book more
pub calls_stay : (kept : Option AccountCalls) (found : Option Closed) (passes : Bool) (book : Closed) → (passes ≡ true → is_some kept ≡ true) → AreCallsOf kept found
    → AreCallsOf kept (option_or found (if passes then Some book else None))
calls_stay None None true book known are = absurd (true≢false (sym (known refl)))
calls_stay None None false book known are = tt
calls_stay None (Some found) passes book known are = absurd are
calls_stay (Some calls) None passes book known are = absurd are
calls_stay (Some calls) (Some found) passes book known are = are

-- one that has none gets those of the book
pub calls_opened : (kept : Option AccountCalls) (found : Option Closed) (passes : Bool) (book : Closed) (calls : AccountCalls) → (passes ≡ true → is_some kept ≡ false)
    → KnowCalls calls (reverse book.history) → AreCallsOf kept found
    → AreCallsOf (cond passes (Some calls) kept) (option_or found (if passes then Some book else None))
calls_opened None None true book calls new tell are = tell
calls_opened None None false book calls new tell are = tt
calls_opened None (Some found) passes book calls new tell are = absurd are
calls_opened (Some had) None passes book calls new tell are = absurd are
calls_opened (Some had) (Some found) true book calls new tell are = absurd (true≢false (new refl))
calls_opened (Some had) (Some found) false book calls new tell are = are

summed_under : (plan : Option Rates) (call : ℕ) (known : CallFacts) → option_map (λ s. s.paid) (sum_under plan call known) ≡ paid_under plan known
summed_under None call known = refl
summed_under (Some plan) call known = refl

-- the sum of a call says what it has paid
pub paid_summed : (call : ℕ) (h : List EntryData) → option_map (λ s. s.paid) (sum_of call (known call h)) ≡ paid_if_granted (known call h)
paid_summed call h = summed_under (known call h).plan call (known call h)

-- the same by the next sum of a list
pub paid_next : (call : ℕ) (sums : List CallSum) (i : ℕ) (none : CallSum) (was is : Option ℕ) → i < length sums → was ≡ option_map (λ s. s.paid) (sum_in call (take i sums))
    → is ≡ option_or was (if call == (get_or sums i none).call then Some (get_or sums i none).paid else None) → is ≡ option_map (λ s. s.paid) (sum_in call (take (i + 1) sums))
paid_next call sums i none was is within had now =
    rw (next_item sums i (get_or sums i none) within (get_or_default sums i none (get_or sums i none) within)) (paid_more call (take i sums) (get_or sums i none) was is had now)
