-- Lines that rise by call are known by the lines of each call.
use Rattle.std.proofs.Common.{◌≡◌, ◌==◌, ℕ, suc, ◌<◌, ◌≤◌, Bool, true, false, cond, List, [], ◌∷◌, ◌++◌, length, get_or, refl, sym, ap, ◌∙◌, arith}
use Rattle.std.proofs.lemmas.Bool.Decides.{nat_tests}
use Rattle.std.specs.List.{flat_map}
use Rattle.std.specs.List.Sorted.{IsNonDecreasingBy}
use Rattle.book_texts.specs.RunTexts.{account_line, call_line, call_lines_of}
use Rattle.book_texts.specs.declared.lines.CallLine.{CallLine}
use Rattle.part_laws.specs.OneText.{BooksHaveOneText}

abbrev AreFrom : ℕ → List CallLine → Type 0
AreFrom call [] = Unit {0}
AreFrom call (line ∷ lines) = (call ≤ line.sum.call) × AreFrom call lines

abbrev Rise : List CallLine → Type 0
Rise [] = Unit {0}
Rise (line ∷ lines) = AreFrom line.sum.call lines × Rise lines

are_from : (call : ℕ) (lines : List CallLine)
    → ((i : ℕ) (d : CallLine) → i < length lines → call ≤ (get_or lines i d).sum.call) → AreFrom call lines
are_from call [] above = tt
are_from call (line ∷ lines) above = (above 0 line (omega arith), are_from call lines (λ i d within. above (suc i) d (omega arith)))

rise : (lines : List CallLine) → IsNonDecreasingBy (λ line. line.sum.call) lines → Rise lines
rise [] rising = tt
rise (line ∷ lines) rising = (
  are_from line.sum.call lines (λ i d within. rising 0 (suc i) d (omega arith) (omega arith)),
  rise lines (λ i j d before within. rising (suc i) (suc j) d (omega arith) (omega arith)),
)

is_other : (call first later : ℕ) → call < first → first ≤ later → later == call ≡ false
is_other call first later below above = grind (arith, nat_tests)

none_from : (call first : ℕ) (lines : List CallLine) → call < first → AreFrom first lines → call_lines_of call lines ≡ []
none_from call first [] below above = refl
none_from call first (line ∷ lines) below above =
    rw (is_other call first line.sum.call below above.0) (none_from call first lines below above.1)

is_itself : (call : ℕ) → call == call ≡ true
is_itself call = grind (arith, nat_tests)

-- the first line is among the lines of its call
not_none : (line : CallLine) (lines : List CallLine) → call_lines_of line.sum.call (line ∷ lines) ≡ [] → ⊥
not_none line lines none = let shown = rw (is_itself line.sum.call) at none in cc

not_before : (line : CallLine) (lines : List CallLine) (other : CallLine) (others : List CallLine) → AreFrom other.sum.call others
    → call_lines_of line.sum.call (line ∷ lines) ≡ call_lines_of line.sum.call (other ∷ others) → line.sum.call < other.sum.call → ⊥
not_before line lines other others above same below =
    not_none line lines (same ∙ none_from line.sum.call other.sum.call (other ∷ others) below (omega arith, above))

-- where both first lines are shown, they are one; where both are or neither is, so are the others
heads : (here there : Bool) (line other : CallLine) (lines others : List CallLine) → here ≡ true → there ≡ true
    → cond here (line ∷ lines) lines ≡ cond there (other ∷ others) others → line ≡ other
heads true true line other lines others shown also same = cc
heads true false line other lines others shown also same = cc
heads false there line other lines others shown also same = cc

tails : (here there : Bool) (line other : CallLine) (lines others : List CallLine) → here ≡ there
    → cond here (line ∷ lines) lines ≡ cond there (other ∷ others) others → lines ≡ others
tails true true line other lines others alike same = cc
tails true false line other lines others alike same = cc
tails false true line other lines others alike same = cc
tails false false line other lines others alike same = same

same_lines : (lines others : List CallLine) → Rise lines → Rise others
    → ((call : ℕ) → call_lines_of call lines ≡ call_lines_of call others) → lines ≡ others
same_lines [] [] rising others_rising same = refl
same_lines [] (other ∷ others) rising others_rising same = absurd (not_none other others (sym (same other.sum.call)))
same_lines (line ∷ lines) [] rising others_rising same = absurd (not_none line lines (same line.sum.call))
same_lines (line ∷ lines) (other ∷ others) rising others_rising same =
    let not_less : line.sum.call < other.sum.call → ⊥ = not_before line lines other others others_rising.0 (same line.sum.call) in
    let not_more : other.sum.call < line.sum.call → ⊥ = not_before other others line lines rising.0 (sym (same other.sum.call)) in
    let call : line.sum.call ≡ other.sum.call = omega (arith, not_less, not_more) in
    let shown : other.sum.call == line.sum.call ≡ true = rw call (is_itself other.sum.call) in
    let first : line ≡ other = heads _ _ line other _ _ (is_itself line.sum.call) shown (same line.sum.call) in
    let rest : lines ≡ others = same_lines lines others rising.1 others_rising.1
    (λ number. tails _ _ line other _ _ (ap (λ n. n == number) call) (same number)) in
    ap (λ l. l ∷ lines) first ∙ ap (λ ls. other ∷ ls) rest

pub one_text : BooksHaveOneText
one_text books one other is also =
    let lines = same_lines is.lines also.lines (rise is.lines is.are.rising) (rise also.lines also.are.rising)
    (λ call. is.are.each call ∙ sym (also.are.each call)) in
    is.is ∙ ap (λ ls. flat_map account_line books ++ flat_map call_line ls) lines ∙ sym also.is
