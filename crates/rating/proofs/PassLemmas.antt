-- A table is passed on byte by byte.
use Rattle.std.proofs.Common.{length-take, subst, ◌≡◌, ◌==◌, ℕ, zero, suc, ◌+◌, ◌-◌, ◌<◌, ◌≤◌, ◌∙◌, true, false, List, [], ◌∷◌, ◌++◌, length, take, drop, Option, Some, None, refl, sym, ap, inl, inr, arith}
use Rattle.std.specs.Prelude.{◌||◌, ◌⊎◌, min, option_map, slice_index, unwrap_or}
use Rattle.std.specs.Io.KnownBytes.{Consumes, IsAtEnd, Keeps}
use Rattle.std.proofs.lemmas.Bool.Decides.{nat_tests}
use Rattle.std.proofs.lemmas.List.{get_or-take}
use Rattle.std.proofs.lemmas.Bool.{false_from_ne_true}
use Rattle.csv.specs.Machine.{step}
use Rattle.csv.specs.Reading.{default_config}
use Rattle.csv.specs.declared.parser.Action.{Action}
use Rattle.csv.specs.declared.parser.Action.TheVariants as act
use Rattle.csv.specs.declared.parser.State.{State}
use Rattle.csv.specs.declared.parser.State.TheVariants as st
use Rattle.memchr.specs.Find.{IsFirstByte, IsLastByte, is_byte}
use Rattle.rating.proofs.StartCuts.{first_is}
use Rattle.rating.proofs.StepLemmas.{IsCalm, IsPlain, StaysBy, after_cr, step_stays}
use Rattle.rating.specs.Cuts.{CanPass, IsBetween, IsMove, passed_byte, closing, cut_from, cut_second, cut_start, cut_third, passed_text, passed_on, room_after, cut_state_of}
use Rattle.rating.specs.declared.call.TheConstants.{MAX_SHOWN}
use Rattle.rating.specs.declared.cursor.Moves.TheVariants as moves
use Rattle.rating.specs.declared.cursor.Cursor.{Cursor}
use Rattle.rating.specs.declared.cursor.Cursor.TheVariants as cursor
use Rattle.rating.specs.declared.cursor.Within.{Within}
use Rattle.rating.specs.declared.cursor.Within.TheVariants as within

-- ---- between two rows

same_added : (room : Option ℕ) (c : ℕ) → passed_byte st.AfterCr room c ≡ passed_byte st.StartRecord room c
same_added None c = refl
same_added (Some zero) c = refl
same_added (Some (suc room)) c = refl

same_passed : (a : Action) (room : Option ℕ) (c : ℕ) → passed_on a st.AfterCr room c ≡ passed_on a st.StartRecord room c
same_passed act.EndRecord room c = refl
same_passed act.Copy room c = same_added room c
same_passed act.EndField room c = same_added room c
same_passed act.Skip None c = refl
same_passed act.Skip (Some room) c = refl

behind_cr : (most : ℕ) (room : Option ℕ) (text : List ℕ) → cut_from most st.AfterCr room text ≡ cut_from most st.StartRecord room text
unfolding cut_from
behind_cr most room [] = refl
behind_cr most room (c ∷ rest) = rw (after_cr c, same_passed (step default_config st.StartRecord c).1 room c) refl

pub behind_row : (most : ℕ) (s : State) (room : Option ℕ) (text : List ℕ) → IsBetween s → cut_from most s room text ≡ cut_from most st.StartRecord room text
behind_row most s room text (inl is) = rw is refl
behind_row most s room text (inr is) = rw is (behind_cr most room text)

pub empty_line : (most c : ℕ) (rest : List ℕ) → ((c == 13) || (c == 10)) ≡ true → cut_from most st.StartRecord (Some most) (c ∷ rest) ≡ c ∷ cut_from most st.StartRecord (Some most) rest
unfolding cut_from
empty_line most c rest is = rw is refl

start_step : (c : ℕ) → ((c == 13) || (c == 10)) ≡ false → step default_config st.StartRecord c ≡ step default_config st.StartField c
start_step c isnt = rw isnt refl

pub first_byte : (room c most : ℕ) (rest : List ℕ) → ((c == 13) || (c == 10)) ≡ false
    → cut_from most st.StartRecord (Some (suc room)) (c ∷ rest) ≡ cut_from most st.StartField (Some (suc room)) (c ∷ rest)
first_byte room c most rest isnt =
    first_is most st.StartRecord room c rest ∙ ap (λ next. c ∷ cut_from most next.0 (room_after most next.1 (Some (suc room))) rest) (start_step c isnt)
    ∙ sym (first_is most st.StartField room c rest)

-- ---- in a row

pub row_ends : (most : ℕ) (s : State) (room : Option ℕ) (c : ℕ) (rest : List ℕ) → IsMove moves.EndsRow (step default_config s c)
    → cut_from most s room (c ∷ rest) ≡ c ∷ cut_from most st.StartRecord (Some most) rest
unfolding cut_from
row_ends most s room c rest moves = rw moves.1 (ap (λ l. c ∷ l) (behind_row most (step default_config s c).0 (Some most) rest moves.0))

pub quote_passes : (most : ℕ) (s : State) (room c : ℕ) (to : Within) (rest : List ℕ) → IsMove (moves.Skips to) (step default_config s c)
    → cut_from most s (Some room) (c ∷ rest) ≡ c ∷ cut_from most (cut_state_of to) (Some room) rest
unfolding cut_from
quote_passes most s room c to rest moves = rw (moves.1, moves.0) refl

pub quote_goes : (most : ℕ) (s : State) (c : ℕ) (to : Within) (rest : List ℕ) → IsMove (moves.Skips to) (step default_config s c)
    → cut_from most s None (c ∷ rest) ≡ cut_from most (cut_state_of to) None rest
unfolding cut_from
quote_goes most s c to rest moves = rw (moves.1, moves.0) refl

pub byte_passes : (most : ℕ) (s : State) (room c : ℕ) (to : Within) (rest : List ℕ) → 0 < room → IsMove (moves.Adds to) (step default_config s c)
    → cut_from most s (Some room) (c ∷ rest) ≡ c ∷ cut_from most (cut_state_of to) (Some (room - 1)) rest
unfolding cut_from
byte_passes most s zero c to rest some moves = absurd (omega (arith, some))
byte_passes most s (suc room) c to rest some (at, inl is) = let less : suc room - 1 ≡ room = omega arith in rw (is, at, less) refl
byte_passes most s (suc room) c to rest some (at, inr is) = let less : suc room - 1 ≡ room = omega arith in rw (is, at, less) refl

pub byte_cuts : (most : ℕ) (s : State) (room c : ℕ) (to : Within) (rest : List ℕ) → room ≤ 0 → IsMove (moves.Adds to) (step default_config s c)
    → cut_from most s (Some room) (c ∷ rest) ≡ closing s ++ cut_from most (cut_state_of to) None rest
unfolding cut_from
byte_cuts most s (suc room) c to rest none moves = absurd (omega (arith, none))
byte_cuts most s zero c to rest none (at, inl is) = rw (is, at) refl
byte_cuts most s zero c to rest none (at, inr is) = rw (is, at) refl

pub byte_goes : (most : ℕ) (s : State) (c : ℕ) (to : Within) (rest : List ℕ) → IsMove (moves.Adds to) (step default_config s c)
    → cut_from most s None (c ∷ rest) ≡ cut_from most (cut_state_of to) None rest
unfolding cut_from
byte_goes most s c to rest (at, inl is) = rw (is, at) refl
byte_goes most s c to rest (at, inr is) = rw (is, at) refl

-- ---- at the start

pub first_mark : (rest : List ℕ) → cut_start MAX_SHOWN (239 ∷ rest) ≡ 239 ∷ cut_second MAX_SHOWN (Some 131071) rest
unfolding cut_start
first_mark rest = refl

pub second_mark : (rest : List ℕ) → cut_second MAX_SHOWN (Some 131071) (187 ∷ rest) ≡ 187 ∷ cut_third MAX_SHOWN (Some 131070) rest
unfolding cut_second
second_mark rest = refl

pub third_mark : (rest : List ℕ) → cut_third MAX_SHOWN (Some 131070) (191 ∷ rest) ≡ 191 ∷ cut_from MAX_SHOWN st.StartRecord (Some MAX_SHOWN) rest
unfolding cut_third
third_mark rest = refl

other_byte : (c value : ℕ) → (c ≡ value → ⊥) → (c == value) ≡ false
other_byte c value other = grind (arith, nat_tests)

pub not_first : (most c : ℕ) (rest : List ℕ) → (c ≡ 239 → ⊥) → cut_start most (c ∷ rest) ≡ cut_from most st.StartRecord (Some most) (c ∷ rest)
unfolding cut_start
not_first most c rest other = rw (other_byte c 239 other) refl

pub not_second : (most : ℕ) (room : Option ℕ) (c : ℕ) (rest : List ℕ) → (c ≡ 187 → ⊥) → cut_second most room (c ∷ rest) ≡ cut_from most st.InField room (c ∷ rest)
unfolding cut_second
not_second most room c rest other = rw (other_byte c 187 other) refl

pub not_third : (most : ℕ) (room : Option ℕ) (c : ℕ) (rest : List ℕ) → (c ≡ 191 → ⊥) → cut_third most room (c ∷ rest) ≡ cut_from most st.InField room (c ∷ rest)
unfolding cut_third
not_third most room c rest other = rw (other_byte c 191 other) refl

pub line_end : (c : ℕ) → (c ≡ 13) ⊎ ((c ≡ 13 → ⊥) × (c ≡ 10)) → ((c == 13) || (c == 10)) ≡ true
line_end c (inl is) = rw is refl
line_end c (inr is) = rw is.1 refl

pub no_line_end : (c : ℕ) → (c ≡ 13 → ⊥) → (c ≡ 10 → ⊥) → ((c == 13) || (c == 10)) ≡ false
no_line_end c one two = rw (other_byte c 13 one, other_byte c 10 two) refl

-- ---- rows that are passed on as they are

line_feed : (most : ℕ) (s : State) (room : ℕ) (rest : List ℕ) → IsCalm s → (IsBetween s → room ≡ most)
    → cut_from most s (Some room) (10 ∷ rest) ≡ 10 ∷ cut_from most st.StartRecord (Some most) rest
unfolding cut_from
line_feed most st.StartField room rest calm whole = refl
line_feed most st.InField room rest calm whole = refl
line_feed most st.StartRecord room rest calm whole = ap (λ n. 10 ∷ cut_from most st.StartRecord (Some n) rest) (whole (inl refl))
line_feed most st.AfterCr room rest calm whole = ap (λ n. 10 ∷ cut_from most st.StartRecord (Some n) rest) (whole (inr refl))
line_feed most st.InQuoted room rest (inl calm) whole = absurd calm
line_feed most st.InQuoted room rest (inr (inl is)) whole = absurd (cc)
line_feed most st.InQuoted room rest (inr (inr is)) whole = absurd (cc)
line_feed most st.AfterQuote room rest (inl calm) whole = absurd calm
line_feed most st.AfterQuote room rest (inr (inl is)) whole = absurd (cc)
line_feed most st.AfterQuote room rest (inr (inr is)) whole = absurd (cc)
line_feed most st.InEscape room rest (inl calm) whole = absurd calm
line_feed most st.InEscape room rest (inr (inl is)) whole = absurd (cc)
line_feed most st.InEscape room rest (inr (inr is)) whole = absurd (cc)
line_feed most st.InComment room rest (inl calm) whole = absurd calm
line_feed most st.InComment room rest (inr (inl is)) whole = absurd (cc)
line_feed most st.InComment room rest (inr (inr is)) whole = absurd (cc)

not_plain : (s : State) → IsPlain s → IsBetween s → ⊥
not_plain s at (inl is) = absurd (rw is at at)
not_plain s at (inr is) = absurd (rw is at at)

stays_by : (most : ℕ) (s to : State) (room count c : ℕ) (text all : List ℕ) (a : Action) → StaysBy s to a → (IsBetween s → room ≡ most) → suc count ≤ room → count ≤ most
    → ((room : ℕ) → IsCalm to → (IsBetween to → room ≡ most) → count ≤ room → cut_from most to (Some room) text ≡ all)
    → passed_on a s (Some room) c ++ cut_from most to (room_after most a (Some room)) text ≡ c ∷ all
stays_by most s to room count c text all act.EndRecord stays whole some fits ih = ap (λ l. c ∷ l) (ih most (inr stays) (λ _. refl) fits)
stays_by most s to room count c text all act.Skip stays whole some fits ih = ap (λ l. c ∷ l) (ih room (inr stays.1) (λ _. whole stays.0) (omega (arith, some)))
stays_by most s to zero count c text all act.Copy stays whole some fits ih = absurd (omega (arith, some))
stays_by most s to (suc room) count c text all act.Copy stays whole some fits ih =
    ap (λ l. c ∷ l) (ih room (inl stays) (λ between. absurd (not_plain to stays between)) (omega (arith, some)))
stays_by most s to zero count c text all act.EndField stays whole some fits ih = absurd (omega (arith, some))
stays_by most s to (suc room) count c text all act.EndField stays whole some fits ih =
    ap (λ l. c ∷ l) (ih room (inl stays) (λ between. absurd (not_plain to stays between)) (omega (arith, some)))

rows_pass : (most : ℕ) (s : State) (room end : ℕ) (piece rest : List ℕ) → IsCalm s → (IsBetween s → room ≡ most) → end < room → end < most → end < length piece
    → ((k : ℕ) → k < end → (slice_index piece k == 34) ≡ false) → slice_index piece end ≡ 10
    → cut_from most s (Some room) (piece ++ rest) ≡ take (suc end) piece ++ cut_from most st.StartRecord (Some most) (drop (suc end) piece ++ rest)
unfolding cut_from
rows_pass most s room end [] rest calm whole some fits within plain is = absurd (omega (arith, within))
rows_pass most s room zero (c ∷ piece) rest calm whole some fits within plain is = rw is (line_feed most s room (piece ++ rest) calm whole)
rows_pass most s room (suc end) (c ∷ piece) rest calm whole some fits within plain is =
    stays_by most s (step default_config s c).0 room (suc end) c (piece ++ rest) _ (step default_config s c).1 (step_stays s c (plain 0 (omega arith)) calm) whole (omega (arith, some)) (omega (arith, fits))
    (λ room calm whole some. rows_pass most (step default_config s c).0 room end piece rest calm whole (omega (arith, some)) (omega (arith, fits)) (omega (arith, within))
    (λ k less. plain (suc k) (omega (arith, less))) is)

is_value : (c value : ℕ) → (c == value) ≡ true → c ≡ value
is_value c value is = grind (arith, nat_tests)

-- no quote comes before a cursor
before_quote : (piece : List ℕ) (first : Option ℕ) (k : ℕ) → IsFirstByte (is_byte 34) piece first → k < length piece → k < unwrap_or first (length piece) → (slice_index piece k == 34) ≡ false
before_quote piece None k none within before = false_from_ne_true (slice_index piece k == 34) (none k (omega arith) within)
before_quote piece (Some quote) k first within before = false_from_ne_true (slice_index piece k == 34) (first.0.before k (omega arith) before)

by_cursor : (cursor : Cursor) (count end : ℕ) (piece rest : List ℕ) → CanPass cursor count → end < count → end < length piece → ((k : ℕ) → k < end → (slice_index piece k == 34) ≡ false) → slice_index piece end ≡ 10
    → passed_text cursor (piece ++ rest) ≡ take (suc end) piece ++ cut_from MAX_SHOWN st.StartRecord (Some MAX_SHOWN) (drop (suc end) piece ++ rest)
by_cursor cursor.Between count end piece rest can before within plain is =
    rows_pass MAX_SHOWN st.StartRecord MAX_SHOWN end piece rest (inr (inl refl)) (λ _. refl) (omega (arith, can, before)) (omega (arith, can, before)) within plain is
by_cursor (cursor.InRow within.StartField room) count end piece rest can before fits plain is =
    rows_pass MAX_SHOWN st.StartField room end piece rest (inl tt) (λ between. absurd (not_plain st.StartField tt between)) (omega (arith, can.0, before)) (omega (arith, can.1, before)) fits plain is
by_cursor (cursor.InRow within.InField room) count end piece rest can before fits plain is =
    rows_pass MAX_SHOWN st.InField room end piece rest (inl tt) (λ between. absurd (not_plain st.InField tt between)) (omega (arith, can.0, before)) (omega (arith, can.1, before)) fits plain is
by_cursor (cursor.InRow within.InQuoted room) count end piece rest can before fits plain is = absurd (omega (arith, can, before))
by_cursor (cursor.InRow within.AfterQuote room) count end piece rest can before fits plain is = absurd (omega (arith, can, before))
by_cursor (cursor.InRest at) count end piece rest can before fits plain is = absurd (omega (arith, can, before))
by_cursor cursor.Start count end piece rest can before fits plain is = absurd (omega (arith, can, before))
by_cursor cursor.FirstMark count end piece rest can before fits plain is = absurd (omega (arith, can, before))
by_cursor cursor.SecondMark count end piece rest can before fits plain is = absurd (omega (arith, can, before))

pub skipped : (cursor : Cursor) (piece : List ℕ) (quote : Option ℕ) (sure count end : ℕ) → IsFirstByte (is_byte 34) piece quote → CanPass cursor count
    → sure ≡ min (unwrap_or quote (length piece)) count → IsLastByte (is_byte 10) (take sure piece) (Some end)
    → (rest : List ℕ) → passed_text cursor (piece ++ rest) ≡ take (end + 1) piece ++ cut_from MAX_SHOWN st.StartRecord (Some MAX_SHOWN) (drop (end + 1) piece ++ rest)
skipped cursor piece quote sure count end first can is last = λ rest.
    let more : suc end ≡ end + 1 = omega arith in
    let within : end < length piece = omega (arith, last.0.high, length-take sure piece) in
    let early : end < sure = omega (arith, last.0.high, length-take sure piece) in
    let feed : slice_index piece end ≡ 10 = sym (get_or-take sure piece end 0 early) ∙ is_value _ 10 last.1 in
    subst (λ n. passed_text cursor (piece ++ rest) ≡ take n piece ++ cut_from MAX_SHOWN st.StartRecord (Some MAX_SHOWN) (drop n piece ++ rest)) more
    (by_cursor cursor count end piece rest can (omega (arith, early, is)) within (λ k less. before_quote piece quote k first (omega (arith, less, within)) (omega (arith, less, early, is))) feed)

-- ---- a read

passed_nothing : (cursor : Cursor) → passed_text cursor [] ≡ []
unfolding cut_from cut_start cut_second cut_third
passed_nothing cursor.Start = refl
passed_nothing cursor.FirstMark = refl
passed_nothing cursor.SecondMark = refl
passed_nothing cursor.Between = refl
passed_nothing (cursor.InRow at room) = refl
passed_nothing (cursor.InRest at) = refl

-- at the end of a table nothing is left to pass on
pub ends_there : (cursor : Cursor) (known : Option (List ℕ)) → IsAtEnd known → IsAtEnd (option_map (passed_text cursor) known)
ends_there cursor None end = tt
ends_there cursor (Some text) end = ap (λ l. passed_text cursor l) end ∙ passed_nothing cursor

-- nothing was read
pub none_read : (cursor now : Cursor) (first old new : Option (List ℕ)) → Keeps (option_map (passed_text cursor) first) (option_map (passed_text now) old) → Consumes old new []
    → Consumes (option_map (passed_text cursor) first) (option_map (passed_text now) new) []
none_read cursor now None old new keeps none = tt
none_read cursor now (Some text) None new keeps none = absurd keeps
none_read cursor now (Some text) (Some rest) None keeps none = absurd none
none_read cursor now (Some text) (Some rest) (Some left) keeps none = sym keeps ∙ ap (λ l. passed_text now l) none
