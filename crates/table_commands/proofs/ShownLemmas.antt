-- What is shown of a line, byte by byte.
use Rattle.std.proofs.Common.{◌≡◌, ◌∙◌, ◌-◌, ◌+◌, ◌<◌, ◌≤◌, ℕ, suc, true, false, List, [], ◌∷◌, ◌++◌, length, drop, get_or, drop-cons, refl, sym, ap, arith, append_assoc, append-nil}
use Rattle.std.proofs.Math.ListN.{drop_of_length-le}
use Rattle.table_commands.specs.RowLines.{ends_shown, shown_columns, shown_byte, shown_width}

next_byte : (line : List ℕ) (i : ℕ) → i < length line → drop i line ≡ get_or line i 0 ∷ drop (i + 1) line
next_byte line i within =
    let one : suc i ≡ i + 1 = omega arith in
    drop-cons line i 0 within ∙ ap (λ n. get_or line i 0 ∷ drop n line) one

stops : (room c : ℕ) (text : List ℕ) → ends_shown room c ≡ true → shown_columns room (c ∷ text) ≡ []
unfolding shown_columns
stops room c text is = rw is refl

goes_on : (room c : ℕ) (text : List ℕ) → ends_shown room c ≡ false → shown_columns room (c ∷ text) ≡ shown_byte c ++ shown_columns (room - shown_width c) text
unfolding shown_columns
goes_on room c text is = rw is refl

none_shown : (room : ℕ) → shown_columns room [] ≡ []
unfolding shown_columns
none_shown room = refl

module _ (line : List ℕ) (i room : ℕ) (text whole : List ℕ) (so_far : text ++ shown_columns room (drop i line) ≡ whole) where
  pub shown_stops : i < length line → ends_shown room (get_or line i 0) ≡ true → text ≡ whole
  shown_stops within is =
      sym (append-nil text) ∙ ap (λ rest. text ++ rest) (sym (ap (shown_columns room) (next_byte line i within) ∙ stops room (get_or line i 0) (drop (i + 1) line) is)) ∙ so_far

  pub shown_more : (left : ℕ) → i < length line → ends_shown room (get_or line i 0) ≡ false
      → left ≡ room - shown_width (get_or line i 0) → (text ++ shown_byte (get_or line i 0)) ++ shown_columns left (drop (i + 1) line) ≡ whole
  shown_more left within is left_is =
      rw left_is
      (append_assoc text (shown_byte (get_or line i 0)) (shown_columns (room - shown_width (get_or line i 0)) (drop (i + 1) line))
      ∙ ap (λ rest. text ++ rest) (sym (ap (shown_columns room) (next_byte line i within) ∙ goes_on room (get_or line i 0) (drop (i + 1) line) is)) ∙ so_far)

  pub shown_all : length line ≤ i → text ≡ whole
  shown_all over = sym (append-nil text) ∙ ap (λ rest. text ++ rest) (sym (ap (shown_columns room) (drop_of_length-le line over) ∙ none_shown room)) ∙ so_far
