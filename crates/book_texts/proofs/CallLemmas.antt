-- The lines of calls: from the summaries of books, one after another, to their order.
use Rattle.std.proofs.Common.{◌≡◌, ◌==◌, ◌&&◌, if◌then◌else◌, ℕ, Bool, true, false, not, cond, Option, Some, List, [], ◌∷◌, ◌++◌, map, reverse, refl, sym, ap, ◌∙◌, arith}
use Rattle.std.proofs.lemmas.Bool.Decides.{nat_tests}
use Rattle.std.proofs.lemmas.List.Elements.{filter-append, filter_agree, filter_map-append}
use Rattle.std.specs.List.{AllByRecursion, cons_option, filter, filter_map}
use Rattle.std.specs.List.Sorted.{IsStableByKey, IsStrictlySortedBy, ties}
use Rattle.std.specs.Option.{option_map}
use Rattle.std.specs.Ordering.{is_lt, nat_cmp}
use Rattle.std.specs.declared.cmp.Ordering.TheVariants.{Less}
use Rattle.account_core.specs.Sums.{AreSums, sum_in}
use Rattle.account_core.specs.declared.call_sum.CallSum.{CallSum}
use Rattle.account_core.specs.declared.call_sum.Fate.TheVariants as fate
use Rattle.account_core.specs.Closed.{Closed}
use Rattle.book_texts.specs.RunTexts.{line_in, call_line_of, call_lines_of}
use Rattle.book_texts.specs.declared.lines.CallLine.{CallLine}

-- no call follows itself
later_is_other : (first later call : ℕ) → nat_cmp first later ≡ Less → first == call ≡ true → later == call ≡ false
later_is_other first later call less same = grind (arith, nat_tests)

none_later : (account first call : ℕ) (sums : List CallSum) → AllByRecursion (λ later. nat_cmp first later ≡ Less) (map (λ sum. sum.call) sums)
    → first == call ≡ true → call_lines_of call (map (call_line_of account) sums) ≡ []
none_later account first call [] above same = refl
none_later account first call (sum ∷ sums) above same =
    rw (later_is_other first sum.call call above.0 same) (none_later account first call sums above.1 same)

same_both : (m n : ℕ) → m == n ≡ n == m
same_both m n = grind (arith, nat_tests)

at_first : (account : ℕ) (is_first : Bool) (sum : CallSum) (later : List CallLine) (found : Option CallSum)
    → (is_first ≡ true → later ≡ []) → later ≡ cons_option (option_map (call_line_of account) found) []
    → cond is_first (call_line_of account sum ∷ later) later ≡ cons_option (option_map (call_line_of account) (if is_first then Some sum else found)) []
at_first account true sum later found none is = ap (λ lines. call_line_of account sum ∷ lines) (none refl)
at_first account false sum later found none is = is

-- where calls rise, a call has one line at most
sum_listed : (account call : ℕ) (sums : List CallSum) → IsStrictlySortedBy nat_cmp (map (λ sum. sum.call) sums)
    → call_lines_of call (map (call_line_of account) sums) ≡ cons_option (option_map (call_line_of account) (sum_in call sums)) []
unfolding IsStrictlySortedBy
sum_listed account call [] rising = refl
sum_listed account call (sum ∷ sums) rising =
    rw (same_both call sum.call)
    (at_first account (sum.call == call) sum _ _ (none_later account sum.call call sums rising.0) (sum_listed account call sums rising.1))

-- the lines of one more book, from its sums
pub calls_more : (before : List Closed) (book : Closed) (lines : List CallLine) (sums : List CallSum) → AreSums (reverse book.history) sums
    → ((call : ℕ) → call_lines_of call lines ≡ filter_map (line_in call) before)
    → (call : ℕ) → call_lines_of call (lines ++ map (call_line_of book.account) sums) ≡ filter_map (line_in call) (before ++ book ∷ [])
calls_more before book lines sums are so_far call =
    let here = sum_listed book.account call sums are.rising ∙ ap (λ sum. cons_option (option_map (call_line_of book.account) sum) []) (are.each call) in
    rw (filter_map-append (line_in call) before (book ∷ []), filter-append, so_far call, here) refl

pub is_tie : (call other : ℕ) → other == call ≡ not (is_lt (nat_cmp call other)) && not (is_lt (nat_cmp other call))
is_tie call other = grind (arith, nat_tests)

-- a stable sort leaves the lines of each call as they were
pub stays_in_order : (listed lines : List CallLine) → IsStableByKey (λ line. line.sum.call) nat_cmp listed lines
    → (call : ℕ) → call_lines_of call lines ≡ call_lines_of call listed
stays_in_order listed lines stable call =
    let one : CallLine = record { account = 0; sum = record { call = call; paid = 0; fate = fate.Holding } } in
    let as_ties : (xs : List CallLine) → call_lines_of call xs ≡ filter (ties (λ x y. is_lt (nat_cmp x.sum.call y.sum.call)) one) xs
    = filter_agree _ _ (λ line. is_tie call line.sum.call) in
    as_ties lines ∙ stable one ∙ sym (as_ties listed)
