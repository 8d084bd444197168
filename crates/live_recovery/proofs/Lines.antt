-- Texts that end with LF, and the lines of an input.
use Rattle.std.proofs.Common.{◌≡◌, ◌≢◌, ◌-◌, ◌++◌, ◌∙◌, ℕ, zero, suc, Bool, true, false, Some, None, List, [], ◌∷◌, Ok, Err, length, map, take, drop, refl, sym, ap, subst, arith, length-take, take_all}
use Rattle.std.proofs.lemmas.Bool.{ltb-false}
use Rattle.std.proofs.lemmas.Bool.Decides.{nat_tests}
use Rattle.std.proofs.lemmas.List.Elements.{All-head, All-tail}
use Rattle.std.specs.Prelude.{◌==◌, All, if◌then◌else◌, nat_lt, slice_index, ⊤}
use Rattle.std.specs.Io.{IsEmptyOrEndsWith}
use Rattle.std.specs.Io.BufRead.{ends_with_byte}
use Rattle.live_answers.specs.Lines.{with_line_end, kept}
use Rattle.live_answers.specs.Live.{Heard, heard_after, last_after, logged_of, next_after}
use Rattle.live_answers.specs.Rows.{put_down}
use Rattle.live_answers.specs.Standing.{LineView, said_after, standing}
use Rattle.run_texts.specs.declared.kind.LineKind.TheVariants as kind
use Rattle.run_texts.specs.Lines.{line_message}
use Rattle.run_texts.specs.Sections.{with_first_byte, lines_in_text}

-- ---- texts that end with LF, and texts without one

abbrev pub Ends : List ℕ → Type 0
Ends [] = ⊤
Ends (x ∷ []) = x ≡ 10
Ends (x ∷ y ∷ text) = Ends (y ∷ text)

abbrev pub HasNone : List ℕ → Type 0
HasNone [] = ⊤
HasNone (x ∷ text) = (x ≢ 10) × HasNone text

pub ends_so : (text : List ℕ) → IsEmptyOrEndsWith text 10 → Ends text
ends_so [] ends = tt
ends_so (x ∷ []) ends = ends (omega arith)
ends_so (x ∷ y ∷ text) ends =
    let one : length (x ∷ y ∷ text) - 1 ≡ suc (length (y ∷ text) - 1) = omega arith in
    ends_so (y ∷ text) (λ some. sym (ap (slice_index (x ∷ y ∷ text)) one) ∙ ends (omega arith))

pub none_so : (text : List ℕ) → All (λ byte. byte ≢ 10) text → HasNone text
none_so [] none = tt
none_so (x ∷ text) none = (All-head (λ byte. byte ≢ 10) x text none, none_so text (All-tail (λ byte. byte ≢ 10) x text none))

ends_later : (x : ℕ) (text : List ℕ) → Ends (x ∷ text) → Ends text
ends_later x [] ends = tt
ends_later x (y ∷ text) ends = ends

ends_twice : (text more : List ℕ) → Ends text → Ends more → Ends (text ++ more)
ends_twice [] more ends ends_too = ends_too
ends_twice (x ∷ []) [] ends ends_too = ends
ends_twice (x ∷ []) (y ∷ more) ends ends_too = ends_too
ends_twice (x ∷ y ∷ text) more ends ends_too = ends_twice (y ∷ text) more ends ends_too

-- an LF is in a text that ends with one
has_one : (x : ℕ) (text more : List ℕ) → Ends (x ∷ text) → HasNone ((x ∷ text) ++ more) → ⊥
has_one x [] more ends none = none.0 ends
has_one x (y ∷ text) more ends none = has_one y text more ends none.1

-- a text is cut behind its last LF in one way
pub same_cut : (lines other torn end : List ℕ) → lines ++ torn ≡ other ++ end → Ends lines → Ends other → HasNone torn → HasNone end → lines ≡ other
same_cut [] [] torn end same ends ends_too none none_too = refl
same_cut [] (y ∷ other) torn end same ends ends_too none none_too = absurd (has_one y other end ends_too (subst HasNone same none))
same_cut (x ∷ lines) [] torn end same ends ends_too none none_too = absurd (has_one x lines torn ends (subst HasNone (sym same) none_too))
same_cut (x ∷ lines) (y ∷ other) torn end same ends ends_too none none_too =
    let first : x ≡ y = cc same in
    let later : lines ++ torn ≡ other ++ end = cc same in
    ap (λ c. c ∷ lines) first ∙ ap (λ l. y ∷ l) (same_cut lines other torn end later (ends_later x lines ends) (ends_later y other ends_too) none none_too)

-- ---- a line of an input

-- an LF ends it, and it has no other one
pub record IsLine (line : List ℕ) : Type 0 where
  pub body : List ℕ
  pub none : HasNone body
  pub is : line ≡ body ++ 10 ∷ []

-- an LF can only be at its end
abbrev IsRaw : List ℕ → Type 0
IsRaw [] = ⊤
IsRaw (x ∷ []) = ⊤
IsRaw (x ∷ y ∷ text) = (x ≢ 10) × IsRaw (y ∷ text)

abbrev pub AreRaw : List (List ℕ) → Type 0
AreRaw [] = ⊤
AreRaw (line ∷ lines) = IsRaw line × AreRaw lines

not_end : (x : ℕ) → (x == 10) ≡ false → x ≢ 10
not_end x is same = let other : (x == 10) ≡ true = rw same refl in absurd (cc)

an_end : (x : ℕ) → (x == 10) ≡ true → x ≡ 10
an_end x is = grind (arith, nat_tests, is)

begun_raw : (c : ℕ) (lines : List (List ℕ)) → c ≢ 10 → AreRaw lines → AreRaw (with_first_byte c lines)
begun_raw c [] other raw = (tt, tt)
begun_raw c ([] ∷ lines) other raw = (tt, raw.1)
begun_raw c ((x ∷ line) ∷ lines) other raw = ((other, raw.0), raw.1)

pub all_raw : (text : List ℕ) → AreRaw (lines_in_text text)
unfolding lines_in_text
all_raw [] = tt
all_raw (c ∷ text) = by_end (c == 10) refl (all_raw text)
  where
    by_end : (ends : Bool) → (c == 10) ≡ ends → AreRaw (lines_in_text text) → AreRaw (if ends then (c ∷ []) ∷ lines_in_text text else with_first_byte c (lines_in_text text))
    by_end true is raw = (tt, raw)
    by_end false is raw = begun_raw c (lines_in_text text) (not_end c is) raw

has_bytes : (x : ℕ) (line : List ℕ) → nat_lt 0 (length (x ∷ line)) ≡ true
has_bytes x line = grind (arith, nat_tests)

ended_later : (x y : ℕ) (line : List ℕ) → with_line_end (x ∷ y ∷ line) ≡ x ∷ with_line_end (y ∷ line)
ended_later x y line =
    let one : length (x ∷ y ∷ line) - 1 ≡ suc (length (y ∷ line) - 1) = omega arith in
    let same : ends_with_byte 10 (x ∷ y ∷ line) ≡ ends_with_byte 10 (y ∷ line) = rw (one, has_bytes x (y ∷ line), has_bytes y line) refl in
    ap (λ b. if b then x ∷ y ∷ line else x ∷ y ∷ (line ++ 10 ∷ [])) same ∙ either (ends_with_byte 10 (y ∷ line))
  where
    either : (b : Bool) → (if b then x ∷ y ∷ line else x ∷ y ∷ (line ++ 10 ∷ [])) ≡ x ∷ (if b then y ∷ line else y ∷ (line ++ 10 ∷ []))
    either true = refl
    either false = refl

ended_line : (line : List ℕ) → IsRaw line → IsLine (with_line_end line)
ended_line [] raw = record { body = []; none = tt; is = refl }
ended_line (x ∷ []) raw = by_end (x == 10) refl
  where
    by_end : (ends : Bool) → (x == 10) ≡ ends → IsLine (if ends then x ∷ [] else x ∷ 10 ∷ [])
    by_end true is = record { body = []; none = tt; is = ap (λ c. c ∷ []) (an_end x is) }
    by_end false is = record { body = x ∷ []; none = (not_end x is, tt); is = refl }
ended_line (x ∷ y ∷ line) raw =
    let later = ended_line (y ∷ line) raw.1 in
    record { body = x ∷ later.body; none = (raw.0, later.none); is = ended_later x y line ∙ ap (λ l. x ∷ l) later.is }

-- ---- accepted lines

abbrev pub LineEnds : List ℕ → LineView → Type 0
LineEnds line None = ⊤
LineEnds line (Some (Ok message)) = IsLine line
LineEnds line (Some (Err why)) = ⊤

abbrev pub AreEnded : List Heard → Type 0
AreEnded [] = ⊤
AreEnded (one ∷ heard) = LineEnds one.line one.said × AreEnded heard

line_ends : (next last : ℕ) (raw : List ℕ) → IsRaw raw → LineEnds (kept raw) (said_after next last (kept raw))
line_ends next last raw is = by_length (nat_lt 4096 (length (kept raw))) refl
  where
    any : (said : LineView) → IsLine (kept raw) → LineEnds (kept raw) said
    any None line = tt
    any (Some (Ok message)) line = line
    any (Some (Err why)) line = tt

    by_length : (long : Bool) → nat_lt 4096 (length (kept raw)) ≡ long → LineEnds (kept raw) (if long then Some (Err kind.TooLong) else standing next last (line_message (kept raw)))
    by_length true so = tt
    by_length false so =
        let all : kept raw ≡ with_line_end raw = take_all 4097 (with_line_end raw) (omega (arith, ltb-false 4096 (length (kept raw)) so, length-take 4097 (with_line_end raw))) in
        any (standing next last (line_message (kept raw))) (subst IsLine (sym all) (ended_line raw is))

pub are_ended : (next last : ℕ) (raws : List (List ℕ)) → AreRaw raws → AreEnded (heard_after next last (map kept raws))
are_ended next last [] raw = tt
are_ended next last (line ∷ raws) raw =
    let said = said_after next last (kept line) in
    (line_ends next last line raw.0, are_ended (next_after next said) (last_after last said) raws raw.1)

body_ends : (body : List ℕ) → Ends (body ++ 10 ∷ [])
body_ends [] = refl
body_ends (x ∷ []) = refl
body_ends (x ∷ y ∷ body) = body_ends (y ∷ body)

put_ends : (line : List ℕ) (said : LineView) → LineEnds line said → Ends (put_down line said)
put_ends line None ends = tt
put_ends line (Some (Ok message)) ends = subst Ends (sym ends.is) (body_ends ends.body)
put_ends line (Some (Err why)) ends = tt

pub logged_ends : (heard : List Heard) → AreEnded heard → Ends (logged_of heard)
logged_ends [] ends = tt
logged_ends (one ∷ heard) ends = ends_twice (put_down one.line one.said) (logged_of heard) (put_ends one.line one.said ends.0) (logged_ends heard ends.1)

pub take_ends : (count : ℕ) (heard : List Heard) → AreEnded heard → AreEnded (take count heard)
take_ends zero heard ends = tt
take_ends (suc count) [] ends = tt
take_ends (suc count) (one ∷ heard) ends = (ends.0, take_ends count heard ends.1)

pub drop_ends : (count : ℕ) (heard : List Heard) → AreEnded heard → AreEnded (drop count heard)
drop_ends zero heard ends = ends
drop_ends (suc count) [] ends = tt
drop_ends (suc count) (one ∷ heard) ends = drop_ends count heard ends.1
