-- The lines of more books.
use Rattle.std.proofs.Common.{◌≡◌, ◌<◌, ◌+◌, ℕ, List, [], ◌∷◌, ◌++◌, length, get_or, map, reverse, take, refl, sym, ap, ◌∙◌, append_assoc, subst}
use Rattle.std.proofs.lemmas.List.{append-nil}
use Rattle.std.proofs.lemmas.List.Concat.{flat_map-append}
use Rattle.std.proofs.lemmas.List.Elements.{filter-append, filter_map-append}
use Rattle.account_core.specs.Available.{available}
use Rattle.account_core.specs.Sums.{AreSums}
use Rattle.account_core.specs.declared.call_sum.CallSum.{CallSum}
use Rattle.account_core.specs.Closed.{Closed}
use Rattle.book_texts.proofs.CallLemmas.{calls_more}
use Rattle.book_texts.proofs.TextLemmas.{next_item}
use Rattle.book_texts.specs.RunTexts.{AreLinesOf, LinesSaid, account_line, account_text, line_in, call_line_of}

-- the lines of one more book, from its summary
one_more : (before : List Closed) (book : Closed) (old new : LinesSaid) (account opening credit entries : ℕ) (sums : List CallSum)
    → account ≡ book.account → opening ≡ book.opening → credit ≡ available book.opening (reverse book.history) → entries ≡ length book.history → AreSums (reverse book.history) sums
    → new.accounts ≡ old.accounts ++ account_text account opening credit entries → new.calls ≡ old.calls ++ map (call_line_of account) sums → AreLinesOf before old → AreLinesOf (before ++ book ∷ []) new
one_more before book old new account opening credit entries sums number opened left count are texts calls so_far = record {
  accounts = rw (texts, number, opened, left, count, so_far.accounts, flat_map-append account_line before (book ∷ []), append-nil (account_line book)) refl;
  calls = λ call. rw (calls, number) (calls_more before book old.calls sums are so_far.calls call);
}

-- the same of the next book of a list
pub next_lines : (before books : List Closed) (i : ℕ) (book : Closed) (old new : LinesSaid) (account opening credit entries : ℕ) (sums : List CallSum) → i < length books → book ≡ get_or books i book
    → account ≡ book.account → opening ≡ book.opening → credit ≡ available book.opening (reverse book.history) → entries ≡ length book.history → AreSums (reverse book.history) sums
    → new.accounts ≡ old.accounts ++ account_text account opening credit entries → new.calls ≡ old.calls ++ map (call_line_of account) sums
    → AreLinesOf (before ++ take i books) old → AreLinesOf (before ++ take (i + 1) books) new
next_lines before books i book old new account opening credit entries sums within is number opened left count are texts calls so_far =
    let Are : List Closed → Type 0 = λ b. AreLinesOf b new in
    let grown : before ++ take (i + 1) books ≡ (before ++ take i books) ++ book ∷ [] = ap (λ b. before ++ b) (next_item books i book within is) ∙ sym (append_assoc before (take i books) (book ∷ [])) in
    subst Are (sym grown) (one_more (before ++ take i books) book old new account opening credit entries sums number opened left count are texts calls so_far)

-- the lines of two lists of books
pub both_lines : (books later : List Closed) (old more new : LinesSaid) → new.accounts ≡ old.accounts ++ more.accounts → new.calls ≡ old.calls ++ more.calls
    → AreLinesOf books old → AreLinesOf later more → AreLinesOf (books ++ later) new
both_lines books later old more new texts calls are also = record {
  accounts = rw (texts, are.accounts, also.accounts) (sym (flat_map-append account_line books later));
  calls = λ call. rw (calls, filter-append, are.calls call, also.calls call) (sym (filter_map-append (line_in call) books later));
}
