-- The lines of books don't show the numbers of settles.
use Rattle.std.proofs.Common.{◌≡◌, ◌∙◌, ◌++◌, ℕ, Option, List, [], ◌∷◌, length, map, refl, sym, ap, subst}
use Rattle.std.specs.Prelude.{reverse}
use Rattle.std.specs.List.{cons_option, filter_map, flat_map}
use Rattle.std.specs.Option.{option_map}
use Rattle.std.proofs.lemmas.List.{length-map}
use Rattle.account_core.specs.Available.{available}
use Rattle.account_core.specs.Entries.{EntryData}
use Rattle.account_core.specs.Known.{CallFacts, known}
use Rattle.account_core.specs.Sums.{sum_of}
use Rattle.book_texts.specs.RunTexts.{IsRunText, account_line, account_text, call_line, line_in, call_line_of}
use Rattle.book_texts.specs.declared.lines.CallLine.{CallLine}
use Rattle.part_laws.proofs.Blind.{available_same, known_same, reverse_map}
use Rattle.part_laws.specs.Numbers.{unnumbered_book, without_number, without_numbers}
use Rattle.part_laws.specs.OneText.{BooksHaveOneText}
use Rattle.part_laws.specs.Printed.{LinesHaveNoNumbers}
use Rattle.account_core.specs.Closed.{Closed}

past_same : (history : List EntryData) → reverse (without_numbers history) ≡ without_numbers (reverse history)
past_same history = sym (reverse_map without_number history)

account_same : (book : Closed) → account_line (unnumbered_book book) ≡ account_line book
account_same book =
    ap (λ n. account_text book.account book.opening n (length (without_numbers book.history)))
    (ap (available book.opening) (past_same book.history) ∙ available_same book.opening (reverse book.history))
    ∙ ap (λ n. account_text book.account book.opening (available book.opening (reverse book.history)) n) (length-map book.history without_number)

line_same : (call : ℕ) (book : Closed) → line_in call (unnumbered_book book) ≡ line_in call book
line_same call book =
    ap (λ (k : CallFacts). option_map (call_line_of book.account) (sum_of call k)) (ap (known call) (past_same book.history) ∙ known_same call (reverse book.history))

accounts_same : (books : List Closed) → flat_map account_line (map unnumbered_book books) ≡ flat_map account_line books
accounts_same [] = refl
accounts_same (book ∷ books) =
    ap (λ l. l ++ flat_map account_line (map unnumbered_book books)) (account_same book) ∙ ap (λ l. account_line book ++ l) (accounts_same books)

lines_same : (call : ℕ) (books : List Closed) → filter_map (line_in call) (map unnumbered_book books) ≡ filter_map (line_in call) books
lines_same call [] = refl
lines_same call (book ∷ books) = by_line (line_in call book) (line_in call (unnumbered_book book)) (line_same call book) (lines_same call books)
  where
    by_line : (line other : Option CallLine) → other ≡ line → filter_map (line_in call) (map unnumbered_book books) ≡ filter_map (line_in call) books
        → cons_option other (filter_map (line_in call) (map unnumbered_book books)) ≡ cons_option line (filter_map (line_in call) books)
    by_line line other same rest = ap (λ o. cons_option o (filter_map (line_in call) (map unnumbered_book books))) same ∙ ap (cons_option line) rest

-- a text of books is one of them without the numbers
pub text_same : (books : List Closed) (text : List ℕ) → IsRunText books text → IsRunText (map unnumbered_book books) text
text_same books text is = record {
  lines = is.lines;
  are = record { rising = is.are.rising; each = λ call. is.are.each call ∙ sym (lines_same call books) };
  is = is.is ∙ ap (λ l. l ++ flat_map call_line is.lines) (sym (accounts_same books));
}

pub lines_alike : BooksHaveOneText → LinesHaveNoNumbers
lines_alike one_text books others one other same is too =
    one_text (map unnumbered_book others) one other (subst (λ (l : List Closed). IsRunText l one) same (text_same books one is)) (text_same others other too)
