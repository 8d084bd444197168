-- A section is read line by line as far as its divider, and a line byte by byte.
use Rattle.std.proofs.Common.{◌≡◌, ◌≢◌, ◌==◌, ◌+◌, ◌<◌, ◌≤◌, ℕ, Bool, true, false, List, [], ◌∷◌, ◌++◌, All, length, drop, Option, Some, None, Result, Ok, Err, refl, sym, ap, subst, ◌∙◌, arith, append_assoc, append-nil, length-append}
use Rattle.std.specs.Prelude.{if◌then◌else◌, nat_lt, option_map, ⊤, IfErr, IfSome, IsErrAnd, OnSome}
use Rattle.std.specs.Io.BufRead.{drop_through, take_through}
use Rattle.std.specs.Io.KnownBytes.{Consumes, IsAtEnd, Keeps}
use Rattle.std.specs.Result.{result_map_both}
use Rattle.std.proofs.BufReadLemmas.{take_through-append, take_through-nil}
use Rattle.std.proofs.lemmas.Bool.Decides.{nat_tests}
use Rattle.run_texts.specs.FirstSections.{Divides, Division, InputFaultMayAlwaysCome, ReadsLine, division_of, first_section, first_section_by, with_front}
use Rattle.run_texts.specs.InputFaults.{RefusesInput}
use Rattle.run_texts.specs.Sections.{with_first_byte, is_divider, lines_in_text}
use Rattle.run_texts.specs.declared.input_fault.InputFault.{InputFault}
use Rattle.run_texts.specs.declared.input_fault.InputFault.TheVariants as fault

-- ---- the first line

pub first_line : (ends : Bool) (c : ℕ) (text : List ℕ)
    → (if ends then (c ∷ []) ∷ lines_in_text text else with_first_byte c (lines_in_text text))
    ≡ (if ends then c ∷ [] else c ∷ take_through 10 text) ∷ lines_in_text (if ends then text else drop_through 10 text)
unfolding lines_in_text
first_line true c text = refl
first_line false c [] = refl
first_line false c (d ∷ text) = ap (with_first_byte c) (first_line (d == 10) d text)

-- of a text that isn't empty it is what comes up to the first LF
lines_through : (c : ℕ) (text : List ℕ) → lines_in_text (c ∷ text) ≡ take_through 10 (c ∷ text) ∷ lines_in_text (drop_through 10 (c ∷ text))
unfolding lines_in_text
lines_through c text = first_line (c == 10) c text

whole_through : (text : List ℕ) → text ≡ take_through 10 text ++ drop_through 10 text
whole_through [] = refl
whole_through (c ∷ text) = either (c == 10) (whole_through text)
  where
    either : (b : Bool) → text ≡ take_through 10 text ++ drop_through 10 text
        → c ∷ text ≡ (if b then c ∷ [] else c ∷ take_through 10 text) ++ (if b then text else drop_through 10 text)
    either true behind = refl
    either false behind = ap (λ l. c ∷ l) behind

some_through : (byte : ℕ) (rest : List ℕ) → 0 < length (take_through 10 (byte ∷ rest))
some_through byte rest = either (byte == 10)
  where
    either : (b : Bool) → 0 < length (if b then byte ∷ [] else byte ∷ take_through 10 rest)
    either true = omega arith
    either false = omega arith

-- a line has its end, or no more room where a byte of it is left
pub longer : (a b c : Option (List ℕ)) (line : List ℕ) (byte most : ℕ) → Consumes a b line → All (λ x. x ≢ 10) line → Consumes b c (byte ∷ []) → most ≤ length line
    → IfSome a (λ text. most < length (take_through 10 text))
longer None b c line byte most took none next much = tt
longer (Some x) None c line byte most took none next much = absurd took
longer (Some x) (Some y) None line byte most took none next much = absurd next
longer (Some x) (Some y) (Some z) line byte most took none next much =
    let whole : take_through 10 x ≡ line ++ take_through 10 (byte ∷ z) = ap (take_through 10) took ∙ take_through-append 10 line y none ∙ ap (λ l. line ++ take_through 10 l) next in
    omega (arith, much, ap length whole, length-append line (take_through 10 (byte ∷ z)), some_through byte z)

pub kept_none : (b c : Option (List ℕ)) → Keeps b c → Consumes b c []
kept_none None c keeps = tt
kept_none (Some x) None keeps = absurd keeps
kept_none (Some x) (Some y) keeps = sym keeps

pub ends_some : (b c : Option (List ℕ)) → IsAtEnd b → Keeps b c → OnSome b (IsAtEnd c)
ends_some None c end keeps = tt
ends_some (Some x) None end keeps = absurd keeps
ends_some (Some x) (Some y) end keeps = keeps ∙ end

-- ---- divisions

-- how many bytes a division has
abbrev size : Division → ℕ
size d = length d.section + length d.divider

-- of a division that there is
abbrev SizeAbove : ℕ → Option Division → Type 0
SizeAbove least None = ⊤
SizeAbove least (Some d) = least < size d

fronts : (front line : List ℕ) (found : Option Division) → option_map (with_front front) (option_map (with_front line) found) ≡ option_map (with_front (front ++ line)) found
fronts front line None = refl
fronts front line (Some d) = ap (λ t. Some (record { section = t; divider = d.divider })) (sym (append_assoc front line d.section))

no_front : (found : Option Division) → found ≡ option_map (with_front []) found
no_front None = refl
no_front (Some d) = refl

above_front : (front : List ℕ) (least : ℕ) (found : Option Division) → SizeAbove least found → SizeAbove (length front + least) (option_map (with_front front) found)
above_front front least None above = tt
above_front front least (Some d) above = omega (arith, above, length-append front d.section)

above_line : (line : List ℕ) (least : ℕ) (found : Option Division) → least < length line → SizeAbove least (option_map (with_front line) found)
above_line line least None above = tt
above_line line least (Some d) above = omega (arith, above, length-append line d.section)

first_above : (divides : Bool) (line : List ℕ) (least : ℕ) (found : Option Division) → least < length line
    → SizeAbove least (if divides then Some (record { section = []; divider = line }) else option_map (with_front line) found)
first_above true line least found above = omega (arith, above)
first_above false line least found above = above_line line least found above

divides_here : (line : List ℕ) (lines : List (List ℕ)) → is_divider line ≡ true → division_of (line ∷ lines) ≡ Some (record { section = []; divider = line })
unfolding division_of
divides_here line lines is = rw is refl

goes_on : (line : List ℕ) (lines : List (List ℕ)) → is_divider line ≡ false → division_of (line ∷ lines) ≡ option_map (with_front line) (division_of lines)
unfolding division_of
goes_on line lines is = rw is refl

not_below : (most n : ℕ) → n ≤ most → nat_lt most n ≡ false
not_below most n within = grind (arith, nat_tests)

is_below : (most n : ℕ) → most < n → nat_lt most n ≡ true
is_below most n above = grind (arith, nat_tests)

drop_front : (front rest : List ℕ) → drop (length front) (front ++ rest) ≡ rest
drop_front [] rest = refl
drop_front (c ∷ front) rest = drop_front front rest

dropped : (front line rest : List ℕ) → drop (length front + length line) (front ++ (line ++ rest)) ≡ rest
dropped front line rest =
    let size : length front + length line ≡ length (front ++ line) = sym (length-append front line) in
    rw (size, ← append_assoc front line rest) (drop_front (front ++ line) rest)

section_found : (text front line rest : List ℕ) → text ≡ front ++ (line ++ rest) → length front + length line ≤ 16777216
    → division_of (lines_in_text text) ≡ Some (record { section = front ++ []; divider = line }) → first_section text ≡ Ok (record { section = front; rest = rest })
section_found text front line rest whole within is =
    rw (is, append-nil front, not_below 16777216 (length front + length line) within) (ap (λ left. Ok (record { section = front; rest = left })) (rw whole (dropped front line rest)))

above_all : (text : List ℕ) (least : ℕ) (found : Option Division) → 16777216 ≤ least → 16777216 < length text → SizeAbove least found → first_section_by text found ≡ Err fault.TooLong
above_all text least None much size above = rw (is_below 16777216 (length text) size) refl
above_all text least (Some d) much size above = rw (is_below 16777216 (length d.section + length d.divider) (omega (arith, much, above))) refl

-- ---- a section

-- a text is read line by line, and nothing has divided it
pub record IsUnderWay (text front : List ℕ) (left : Option (List ℕ)) : Type 0 where
  pub rest : List ℕ
  pub known : left ≡ Some rest
  pub whole : text ≡ front ++ rest
  pub so_far : division_of (lines_in_text text) ≡ option_map (with_front front) (division_of (lines_in_text rest))

pub under_way : (text : List ℕ) (left : Option (List ℕ)) → left ≡ Some text → IsUnderWay text [] left
under_way text left known = record { rest = text; known = known; whole = refl; so_far = no_front (division_of (lines_in_text text)) }

-- the next line, of a rest that isn't empty
record IsNext (text front line more : List ℕ) : Type 0 where
  whole : text ≡ front ++ (line ++ more)
  so_far : division_of (lines_in_text text) ≡ option_map (with_front front) (division_of (line ∷ lines_in_text more))

next_line : (text front rest line : List ℕ) (c : ℕ) → text ≡ front ++ (c ∷ rest) → division_of (lines_in_text text) ≡ option_map (with_front front) (division_of (lines_in_text (c ∷ rest)))
    → line ≡ take_through 10 (c ∷ rest) → IsNext text front line (drop_through 10 (c ∷ rest))
next_line text front rest line c whole so_far line_is =
    let more = drop_through 10 (c ∷ rest) in
    record {
      whole = whole ∙ ap (λ l. front ++ l) (whole_through (c ∷ rest) ∙ ap (λ l. l ++ more) (sym line_is));
      so_far = so_far ∙ ap (λ lines. option_map (with_front front) (division_of lines)) (lines_through c rest ∙ ap (λ l. l ∷ lines_in_text more) (sym line_is));
    }

divided_at : (text front rest line : List ℕ) (new : Option (List ℕ)) → text ≡ front ++ rest → division_of (lines_in_text text) ≡ option_map (with_front front) (division_of (lines_in_text rest))
    → line ≡ take_through 10 rest → new ≡ Some (drop_through 10 rest) → length front + length line ≤ 16777216 → is_divider line ≡ true
    → (more : List ℕ) × (new ≡ Some more) × (first_section text ≡ Ok (record { section = front; rest = more }))
divided_at text front [] line new whole so_far line_is left within is = let no : is_divider [] ≡ true = ap is_divider (sym line_is) ∙ is in cc
divided_at text front (c ∷ rest) line new whole so_far line_is left within is =
    let next = next_line text front rest line c whole so_far line_is in (
      drop_through 10 (c ∷ rest),
      left,
      section_found text front line (drop_through 10 (c ∷ rest)) next.whole within
          (next.so_far ∙ ap (λ found. option_map (with_front front) found) (divides_here line (lines_in_text (drop_through 10 (c ∷ rest))) is)),
    )

-- a line that is a divider
pub divided : (most : ℕ) (text front line : List ℕ) (left new : Option (List ℕ)) → IsUnderWay text front left
    → IfSome left (λ rest. ReadsLine most rest new (Some line)) → length front + length line ≤ 16777216 → is_divider line ≡ true
    → (more : List ℕ) × (new ≡ Some more) × (first_section text ≡ Ok (record { section = front; rest = more }))
divided most text front line left new way read within is =
    let (line_is, left_is) = rw way.known at read in
    divided_at text front way.rest line new way.whole way.so_far line_is left_is within is

undivided_by : (text : List ℕ) (found : Option Division) → found ≡ None → length text ≤ 16777216 → first_section_by text found ≡ Err fault.Parts
undivided_by text None none size = rw (not_below 16777216 (length text) size) refl
undivided_by text (Some d) none size = cc

nothing : (front rest : List ℕ) → rest ≡ [] → option_map (with_front front) (division_of (lines_in_text rest)) ≡ None
unfolding division_of lines_in_text
nothing front [] none = refl
nothing front (c ∷ rest) none = cc

-- the text has ended without one
pub undivided : (most : ℕ) (text front line : List ℕ) (left new : Option (List ℕ)) → IsUnderWay text front left
    → IfSome left (λ rest. ReadsLine most rest new (Some line)) → length front ≤ 16777216 → length line ≡ 0 → first_section text ≡ Err fault.Parts
undivided most text front line left new way read within none =
    let (line_is, left_is) = rw way.known at read in
    let empty : way.rest ≡ [] = take_through-nil 10 way.rest (sym (ap length line_is) ∙ none) in
    let size : length text ≤ 16777216 = omega (arith, within, ap length way.whole, length-append front way.rest, ap length empty) in
    undivided_by text (division_of (lines_in_text text)) (way.so_far ∙ nothing front way.rest empty) size

above_at : (most : ℕ) (rest : List ℕ) → most < length (take_through 10 rest) → SizeAbove most (division_of (lines_in_text rest))
unfolding division_of
above_at most [] long = absurd (omega (arith, long))
above_at most (c ∷ rest) long =
    rw (lines_through c rest) (first_above (is_divider (take_through 10 (c ∷ rest))) (take_through 10 (c ∷ rest)) most (division_of (lines_in_text (drop_through 10 (c ∷ rest)))) long)

-- there is no room for the next line
pub too_long : (most : ℕ) (text front : List ℕ) (left new : Option (List ℕ)) → IsUnderWay text front left
    → IfSome left (λ rest. ReadsLine most rest new None) → length front + most ≡ 16777216 → first_section text ≡ Err fault.TooLong
too_long most text front left new way read room =
    let long : most < length (take_through 10 way.rest) = rw way.known at read in
    let above = above_front front most (division_of (lines_in_text way.rest)) (above_at most way.rest long) in
    let size : 16777216 < length text = omega (arith, room, long, ap length way.whole, length-append front way.rest, ap length (whole_through way.rest), length-append (take_through 10 way.rest) (drop_through 10 way.rest)) in
    above_all text (length front + most) (division_of (lines_in_text text)) (omega (arith, room)) size (subst (λ found. SizeAbove (length front + most) found) (sym way.so_far) above)

goes_on_at : (text front rest line : List ℕ) (new : Option (List ℕ)) → text ≡ front ++ rest → division_of (lines_in_text text) ≡ option_map (with_front front) (division_of (lines_in_text rest))
    → line ≡ take_through 10 rest → new ≡ Some (drop_through 10 rest) → length line ≢ 0 → is_divider line ≡ false → IsUnderWay text (front ++ line) new
goes_on_at text front [] line new whole so_far line_is left some isnt = absurd (some (ap length line_is))
goes_on_at text front (c ∷ rest) line new whole so_far line_is left some isnt =
    let next = next_line text front rest line c whole so_far line_is in
    let more = drop_through 10 (c ∷ rest) in
    record {
      rest = more;
      known = left;
      whole = next.whole ∙ sym (append_assoc front line more);
      so_far = next.so_far ∙ ap (λ found. option_map (with_front front) found) (goes_on line (lines_in_text more) isnt) ∙ fronts front line (division_of (lines_in_text more));
    }

-- a line that divides nothing
pub line_more : (most : ℕ) (text front line : List ℕ) (left new : Option (List ℕ)) → IsUnderWay text front left
    → IfSome left (λ rest. ReadsLine most rest new (Some line)) → length line ≢ 0 → is_divider line ≡ false → IsUnderWay text (front ++ line) new
line_more most text front line left new way read some isnt =
    let (line_is, left_is) = rw way.known at read in
    goes_on_at text front way.rest line new way.whole way.so_far line_is left_is some isnt

-- a line that there is room for
pub within_line : (front line most : ℕ) → front ≤ 16777216 → line ≤ most → most + front ≡ 16777216 → front + line ≤ 16777216
within_line front line most within fits room = omega (arith, fits, room)

-- ---- readers that fail

-- a fault that may always come may come at any meaning
may_refuse : {Y : Type 0} (why : InputFault) (meaning : Result Y InputFault)
    → InputFaultMayAlwaysCome why → RefusesInput why meaning
may_refuse fault.Device meaning may = tt
may_refuse fault.OutOfMemory meaning may = tt
may_refuse fault.Parts meaning may = absurd may
may_refuse fault.TooLong meaning may = absurd may
may_refuse (fault.Tariff row) meaning may = absurd may
may_refuse (fault.Setup row) meaning may = absurd may
may_refuse (fault.Script row) meaning may = absurd may

-- a section isn't read where its reader or memory fails
pub stopped_by : {X : Type 0} (view : X → List ℕ) (text : List ℕ) (left : Option (List ℕ))
    (answer : Result X InputFault) (why : InputFault)
    → IsErrAnd answer (λ met. met ≡ why) → InputFaultMayAlwaysCome why
    → Divides text left (result_map_both view (λ named. named) answer)
stopped_by view text left (Ok x) why met may = absurd met
stopped_by view text left (Err named) why met may = rw met (may_refuse why (first_section text) may)

-- the fault of an answer is that of the call that failed in it
pub fails_by : {X : Type 0} (answer : Result X InputFault) (why : InputFault)
    → IsErrAnd answer (λ met. met ≡ why) → InputFaultMayAlwaysCome why
    → IfErr answer InputFaultMayAlwaysCome
fails_by (Ok x) why met may = absurd met
fails_by (Err named) why met may = rw met may
