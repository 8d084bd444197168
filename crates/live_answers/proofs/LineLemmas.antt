-- The lines of a text are taken one by one, and each part by part.
use Rattle.std.proofs.Common.{◌≡◌, ◌==◌, ◌<◌, ◌≤◌, ◌-◌, ◌⊎◌, inl, inr, ℕ, zero, suc, min, Bool, true, false, List, [], ◌∷◌, ◌++◌, length, length-append, take, refl, sym, ap, ◌∙◌, arith}
use Rattle.std.proofs.lemmas.Bool.{cases_lt}
use Rattle.std.proofs.lemmas.List.{length-take, take-append-le, take-take, take_all}
use Rattle.std.specs.Prelude.{if◌then◌else◌}
use Rattle.std.specs.Io.BufRead.{drop_through, ends_with_byte, take_through}
use Rattle.run_texts.proofs.FirstSectionLemmas.{first_line}
use Rattle.run_texts.specs.Sections.{lines_in_text}
use Rattle.live_answers.specs.Lines.{kept, live_lines}

one_line : (text : List ℕ) → 0 < length text → lines_in_text text ≡ take_through 10 text ∷ lines_in_text (drop_through 10 text)
unfolding lines_in_text
one_line [] some = absurd (omega (arith, some))
one_line (c ∷ text) some = first_line (c == 10) c text

-- of a text that isn't empty the first line is what comes up to its first LF
pub line_first : (text : List ℕ) → 0 < length text → live_lines text ≡ kept (take_through 10 text) ∷ live_lines (drop_through 10 text)
line_first text some = rw (one_line text some) refl

-- an empty text has none
pub no_line : live_lines [] ≡ []
unfolding lines_in_text
no_line = refl

-- ---- a line, part by part

-- a part more of what is kept, as far as there is room
keep_more : (room : ℕ) (done part : List ℕ) → take room done ++ take (room - length (take room done)) part ≡ take room (done ++ part)
keep_more zero done part = refl
keep_more (suc room) [] part =
    let all : suc room - 0 ≡ suc room = omega arith in
    ap (λ n. take n part) all
keep_more (suc room) (x ∷ done) part =
    let same : suc room - suc (length (take room done)) ≡ room - length (take room done) = omega arith in
    ap (λ n. x ∷ (take room done ++ take n part)) same ∙ ap (λ l. x ∷ l) (keep_more room done part)

pub keeps_more : (room : ℕ) (done part line new : List ℕ) → line ≡ take room done → new ≡ line ++ take (room - length line) part → new ≡ take room (done ++ part)
keeps_more room done part line new is grown = grown ∙ ap (λ l. l ++ take (room - length l) part) is ∙ keep_more room done part

-- as much of a part as there is room for
pub cut_twice : (n end room : ℕ) (shown : List ℕ) → n ≡ min end room → take n shown ≡ take room (take end shown)
cut_twice n end room shown is = by_size (cases_lt room end)
  where
    by_size : (room < end) ⊎ (end ≤ room) → take n shown ≡ take room (take end shown)
    by_size (inl less) =
        let same : n ≡ room = omega (arith, is, less) in
        ap (λ k. take k shown) same ∙ sym (take-take room end shown (omega (arith, less)))
    by_size (inr more) =
        let same : n ≡ end = omega (arith, is, more) in
        let short : length (take end shown) ≤ room = omega (arith, length-take end shown, more) in
        ap (λ k. take k shown) same ∙ sym (take_all room (take end shown) short)

-- ---- the LF of a line

-- a line that isn't too long is whole
pub is_whole : (line whole : List ℕ) → line ≡ take 4097 whole → length line ≤ 4096 → line ≡ whole
is_whole line whole is short = is ∙ take_all 4097 whole (omega (arith, short, ap length is, length-take 4097 whole))

long_either_way : (ends : Bool) (whole : List ℕ) → 4097 ≤ length whole → take 4097 (if ends then whole else whole ++ 10 ∷ []) ≡ take 4097 whole
long_either_way true whole long = refl
long_either_way false whole long = take-append-le 4097 whole (10 ∷ []) long

-- a line that is too long
pub long_kept : (line whole : List ℕ) → line ≡ take 4097 whole → 4096 < length line → line ≡ kept whole
long_kept line whole is long =
    is ∙ sym (long_either_way (ends_with_byte 10 whole) whole (omega (arith, long, ap length is, length-take 4097 whole)))

-- one that has its LF
pub ended_kept : (line whole : List ℕ) → line ≡ take 4097 whole → length line ≤ 4096 → ends_with_byte 10 line ≡ true → line ≡ kept whole
ended_kept line whole is short ends =
    let all = is_whole line whole is short in
    let so : ends_with_byte 10 whole ≡ true = ap (ends_with_byte 10) (sym all) ∙ ends in
    is ∙ ap (λ b. take 4097 (if b then whole else whole ++ 10 ∷ [])) (sym so)

-- and one that hasn't
pub unended_kept : (line whole : List ℕ) → line ≡ take 4097 whole → length line ≤ 4096 → ends_with_byte 10 line ≡ false → line ++ 10 ∷ [] ≡ kept whole
unended_kept line whole is short ends =
    let all = is_whole line whole is short in
    let so : ends_with_byte 10 whole ≡ false = ap (ends_with_byte 10) (sym all) ∙ ends in
    ap (λ l. l ++ 10 ∷ []) all
    ∙ sym (take_all 4097 (whole ++ 10 ∷ []) (omega (arith, length-append whole (10 ∷ []), ap length all, short)))
    ∙ ap (λ b. take 4097 (if b then whole else whole ++ 10 ∷ [])) (sym so)
