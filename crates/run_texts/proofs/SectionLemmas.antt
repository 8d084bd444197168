-- The lines of a text, and its sections.
use Rattle.std.proofs.Common.{◌≡◌, ◌==◌, ◌+◌, ◌-◌, ◌<◌, ◌≤◌, ℕ, zero, suc, Bool, true, false, List, [], ◌∷◌, ◌++◌, length, get_or, take, drop, Some, None, refl, sym, ap, ◌∙◌, arith, add-one, append_assoc, append-nil}
use Rattle.std.specs.Prelude.{cond, if◌then◌else◌, nat_lt}
use Rattle.std.specs.List.{position, position_or_len}
use Rattle.std.proofs.lemmas.Bool.Decides.{nat_tests}
use Rattle.std.proofs.Math.Seq.{take-add}
use Rattle.std.proofs.lemmas.List.{drop-drop, drop_all, take-append-drop, take_all, take_rest}
use Rattle.std.proofs.lemmas.List.Quantifiers.{position-Some}
use Rattle.std.proofs.lemmas.List.Sums.{fails_before_first}
use Rattle.run_texts.specs.Sections.{IsDivided, after_line, is_divider, lines_in_text, sections_of, texts_in}

abbrev is_lf : ℕ → Bool
is_lf byte = byte == 10

-- ---- the first line

line_at : (text : List ℕ) (i : ℕ) → i < length text → is_lf (get_or text i 0) ≡ true → ((k : ℕ) → k < i → is_lf (get_or text k 0) ≡ false)
    → lines_in_text text ≡ take (suc i) text ∷ lines_in_text (drop (suc i) text)
unfolding lines_in_text
line_at [] i within lf before = absurd (omega (arith, within))
line_at (c ∷ text) zero within lf before = rw lf refl
line_at (c ∷ text) (suc i) within lf before =
    rw (before 0 (omega arith), line_at text i (omega (arith, within)) lf (λ k below. before (suc k) (omega (arith, below)))) refl

only_line : (text : List ℕ) → 0 < length text → ((k : ℕ) → k < length text → is_lf (get_or text k 0) ≡ false) → lines_in_text text ≡ text ∷ []
unfolding lines_in_text
only_line [] some none = absurd (omega (arith, some))
only_line (c ∷ []) some none = rw (none 0 (omega arith)) refl
only_line (c ∷ d ∷ text) some none =
    rw (none 0 (omega arith), only_line (d ∷ text) (omega arith) (λ k below. none (suc k) (omega (arith, below)))) refl

pub ended_line : (text : List ℕ) (i : ℕ) → Some i ≡ position is_lf text → lines_in_text text ≡ take (i + 1) text ∷ lines_in_text (drop (i + 1) text)
ended_line text i is =
    let found = position-Some is_lf text i 0 (sym is) in
    rw add-one (line_at text i found.0 found.1 found.2)

not_within : (b : Bool) (place n : ℕ) → nat_lt place n ≡ b → None ≡ cond b (Some place) None → n ≤ place
not_within true place n test is = cc
not_within false place n test is = grind (arith, nat_tests)

pub last_line : (text : List ℕ) → 0 < length text → None ≡ position is_lf text → lines_in_text text ≡ take (length text) text ∷ lines_in_text (drop (length text) text)
unfolding lines_in_text
last_line text some is =
    let past = not_within _ (position_or_len is_lf text) (length text) refl is in
    let none : (k : ℕ) → k < length text → is_lf (get_or text k 0) ≡ false = λ k below. fails_before_first is_lf text k 0 (omega (arith, past, below)) in
    rw (take_all (length text) text (omega arith), drop_all (length text) text (omega arith)) (only_line text some none)

-- ---- the sections

-- some lines have at least one section
record Begun (sections : List (List ℕ)) : Type 0 where
  first : List ℕ
  more : List (List ℕ)
  is : sections ≡ first ∷ more

begun_after : (line : List ℕ) (sections : List (List ℕ)) → Begun (after_line line sections)
begun_after line [] = record { first = line; more = []; is = refl }
begun_after line (section ∷ sections) = record { first = line ++ section; more = sections; is = refl }

begun_choice : (b : Bool) (sections others : List (List ℕ)) → Begun sections → Begun others → Begun (if b then sections else others)
begun_choice true sections others one other = one
begun_choice false sections others one other = other

begun : (lines : List (List ℕ)) → Begun (sections_of lines)
unfolding sections_of
begun [] = record { first = []; more = []; is = refl }
begun (line ∷ lines) = begun_choice (is_divider line) _ _ (record { first = []; more = sections_of lines; is = refl }) (begun_after line (sections_of lines))

pub nothing_before : (lines : List (List ℕ)) → sections_of lines ≡ after_line [] (sections_of lines)
nothing_before lines = let some = begun lines in rw some.is refl

more_before : (front line : List ℕ) (sections : List (List ℕ)) → Begun sections → after_line front (after_line line sections) ≡ after_line (front ++ line) sections
more_before front line [] some = let no = some.is in cc
more_before front line (section ∷ sections) some = ap (λ whole. whole ∷ sections) (sym (append_assoc front line section))

divides : (line : List ℕ) (lines : List (List ℕ)) → is_divider line ≡ true → sections_of (line ∷ lines) ≡ [] ∷ sections_of lines
unfolding sections_of
divides line lines is = rw is refl

continues : (line : List ℕ) (lines : List (List ℕ)) → is_divider line ≡ false → sections_of (line ∷ lines) ≡ after_line line (sections_of lines)
unfolding sections_of
continues line lines is = rw is refl

-- the line at a place, as the loop meets it
record IsNextLine (text : List ℕ) (start n : ℕ) : Type 0 where
  line : lines_in_text (drop start text) ≡ take n (drop start text) ∷ lines_in_text (drop (start + n) text)
  same : take (start + n - start) (drop start text) ≡ take n (drop start text)

next_line : (text : List ℕ) (start n : ℕ)
    → lines_in_text (take (length text - start) (drop start text)) ≡ take n (take (length text - start) (drop start text)) ∷ lines_in_text (drop n (take (length text - start) (drop start text)))
    → IsNextLine text start n
next_line text start n line = record {
  line = rw (take_rest text start, drop-drop n start text) at line;
  same = let e : start + n - start ≡ n = omega arith in rw e refl;
}

-- a text in front of a place, n bytes from there on, and what is behind them
in_parts : (text : List ℕ) (start n : ℕ) → text ≡ take start text ++ (take n (drop start text) ++ drop (start + n) text)
in_parts text start n =
    sym (take-append-drop start text) ∙ ap (λ rest. take start text ++ rest) (sym (take-append-drop n (drop start text)) ∙ ap (λ behind. take n (drop start text) ++ behind) (drop-drop n start text))

pub divided_here : (text : List ℕ) (start n : ℕ)
    → lines_in_text (take (length text - start) (drop start text)) ≡ take n (take (length text - start) (drop start text)) ∷ lines_in_text (drop n (take (length text - start) (drop start text)))
    → sections_of (lines_in_text text) ≡ after_line (take start text) (sections_of (lines_in_text (drop start text)))
    → is_divider (take (start + n - start) (drop start text)) ≡ true
    → IsDivided text (take start text) (take (length text - (start + n)) (drop (start + n) text))
divided_here text start n line so_far is =
    let next = next_line text start n line in
    record {
      divider = take (start + n - start) (drop start text);
      divides = is;
      text_is = rw (next.same, take_rest text (start + n)) (in_parts text start n);
      sections = so_far ∙ rw (next.line, divides (take n (drop start text)) (lines_in_text (drop (start + n) text)) (rw next.same at is), append-nil (take start text), take_rest text (start + n)) refl;
    }

pub goes_on : (text : List ℕ) (start n : ℕ)
    → lines_in_text (take (length text - start) (drop start text)) ≡ take n (take (length text - start) (drop start text)) ∷ lines_in_text (drop n (take (length text - start) (drop start text)))
    → sections_of (lines_in_text text) ≡ after_line (take start text) (sections_of (lines_in_text (drop start text)))
    → is_divider (take (start + n - start) (drop start text)) ≡ false
    → sections_of (lines_in_text text) ≡ after_line (take (start + n) text) (sections_of (lines_in_text (drop (start + n) text)))
goes_on text start n line so_far is =
    let next = next_line text start n line in
    so_far ∙ rw (next.line, continues (take n (drop start text)) (lines_in_text (drop (start + n) text)) (rw next.same at is), take-add start n text)
    (more_before (take start text) (take n (drop start text)) _ (begun (lines_in_text (drop (start + n) text))))

pub not_divided : (text : List ℕ) (start : ℕ) → length text ≤ start → sections_of (lines_in_text text) ≡ after_line (take start text) (sections_of (lines_in_text (drop start text)))
    → sections_of (lines_in_text text) ≡ text ∷ []
unfolding lines_in_text sections_of
not_divided text start past so_far = so_far ∙ rw (drop_all start text past, take_all start text past, append-nil text) refl

-- more than three sections
pub too_many : (text tariff setup script : List ℕ) (rest more last : List (List ℕ)) → sections_of (lines_in_text text) ≡ tariff ∷ rest → rest ≡ setup ∷ more → more ≡ script ∷ sections_of last
    → None ≡ texts_in (sections_of (lines_in_text text))
too_many text tariff setup script rest more last one two three =
    let some = begun last in
    rw (one, two, three, some.is) refl
