-- The first bytes of a row.
use Rattle.std.proofs.Common.{◌≡◌, ◌==◌, ℕ, ◌+◌, ◌-◌, ◌<◌, ◌≤◌, ◌∙◌, Bool, true, false, List, [], ◌∷◌, ◌++◌, inl, inr, length, take, refl, ap, arith, length-append}
use Rattle.std.specs.Prelude.{if◌then◌else◌, ◌⊎◌, nat_lt}
use Rattle.std.proofs.lemmas.Bool.Decides.{nat_tests}
use Rattle.std.proofs.Math.Seq.{take-append_seam}
use Rattle.std.proofs.lemmas.List.{length-take-le, take_all}
use Rattle.csv.specs.Writing.{by_style, comma, default_writer, escaped, field_text, needs_quotes, quoted}
use Rattle.table_core.specs.Rows.{Fields}
use Rattle.rating.specs.Calls.{row_size, with_commas}
use Rattle.rating.specs.Lines.{front}

-- the bytes of some fields, the end of each counted as one
unfoldable pub weight : Fields → ℕ
weight [] = 0
weight (field ∷ fields) = length field + 1 + weight fields

pub weight_more : (fields : Fields) (field : List ℕ) → weight (fields ++ field ∷ []) ≡ weight fields + (length field + 1)
unfolding weight
weight_more [] field = omega arith
weight_more (first ∷ fields) field = omega (arith, weight_more fields field)

pub less_is : (a b : ℕ) → a < b → nat_lt a b ≡ true
less_is a b less = grind (arith, nat_tests)

pub not_less : (a b : ℕ) → b ≤ a → nat_lt a b ≡ false
not_less a b most = grind (arith, nat_tests)

pub front_more : (room : ℕ) (field : List ℕ) (fields : Fields) (less : ℕ) → room ≡ length field + 1 + less → front room (field ∷ fields) ≡ field ∷ front less fields
unfolding front
front_more room field fields less is =
    let rest : room - (length field + 1) ≡ less = omega (arith, is) in
    rw (less_is (length field) room (omega (arith, is)), rest) refl

pub front_last : (room : ℕ) (field : List ℕ) (fields : Fields) → room ≤ length field → front room (field ∷ fields) ≡ take room field ∷ []
unfolding front
front_last room field fields most = rw (not_less (length field) room most) refl

whole_by : (b : Bool) (room : ℕ) (field : List ℕ) → length field ≤ room → (if b then field ∷ front (room - (length field + 1)) [] else take room field ∷ []) ≡ field ∷ []
unfolding front
whole_by true room field within = refl
whole_by false room field within = ap (λ l. l ∷ []) (take_all room field within)

-- a row for which there is room is whole
pub front_whole : (fields : Fields) (field : List ℕ) (room : ℕ) → weight fields + length field ≤ room → front room (fields ++ field ∷ []) ≡ fields ++ field ∷ []
unfolding front weight
front_whole [] field room within = whole_by (nat_lt (length field) room) room field (omega (arith, within))
front_whole (first ∷ fields) field room within =
    front_more room first (fields ++ field ∷ []) (room - (length first + 1)) (omega (arith, within))
    ∙ ap (λ l. first ∷ l) (front_whole fields field (room - (length first + 1)) (omega (arith, within)))

-- where there is no more room the rest is cut off
pub front_cut : (fields : Fields) (field more : List ℕ) (others : Fields) (room : ℕ) → weight fields + length field ≡ room
    → front room (fields ++ (field ++ more) ∷ others) ≡ fields ++ field ∷ []
unfolding weight
front_cut [] field more others room is =
    let same : room ≡ length field = omega (arith, is) in
    front_last room (field ++ more) others (omega (arith, is, length-append field more))
    ∙ ap (λ n. take n (field ++ more) ∷ []) same
    ∙ ap (λ l. l ∷ []) (take-append_seam field more)
front_cut (first ∷ fields) field more others room is =
    front_more room first (fields ++ (field ++ more) ∷ others) (room - (length first + 1)) (omega (arith, is))
    ∙ ap (λ l. first ∷ l) (front_cut fields field more others (room - (length first + 1)) (omega (arith, is)))

-- ---- its size

escaped_by : (b : Bool) (byte : ℕ) (field : List ℕ) → length field ≤ length (escaped default_writer field)
    → length (byte ∷ field) ≤ length (if b then 34 ∷ byte ∷ escaped default_writer field else byte ∷ escaped default_writer field)
escaped_by true byte field most = omega (arith, most)
escaped_by false byte field most = omega (arith, most)

escaped_size : (field : List ℕ) → length field ≤ length (escaped default_writer field)
unfolding escaped
escaped_size [] = omega arith
escaped_size (byte ∷ field) = escaped_by (byte == 34) byte field (escaped_size field)

text_by : (b : Bool) (field : List ℕ) → length field ≤ length (if b then quoted default_writer field else field)
text_by true field = omega (arith, escaped_size field, length-append (escaped default_writer field) (34 ∷ []))
text_by false field = omega arith

-- a row of a first field and others
pub size_more : (field : List ℕ) (fields : Fields) → length field + 1 + row_size fields ≤ row_size (field ∷ fields)
unfolding with_commas
size_more field fields =
    let all = length-append (field_text default_writer field ++ (comma ∷ [])) (with_commas fields) in
    omega (arith, all, length-append (field_text default_writer field) (comma ∷ []), text_by (by_style default_writer.style (needs_quotes default_writer field)) field)

is_less : (a b : ℕ) → nat_lt a b ≡ true → a < b
is_less a b is = grind (arith, nat_tests)

isnt_less : (a b : ℕ) → nat_lt a b ≡ false → b ≤ a
isnt_less a b is = grind (arith, nat_tests)

abbrev pub WholeOrOver : Fields → Fields → ℕ → Type 0
WholeOrOver some fields room = (some ≡ fields) ⊎ ((room < row_size some) × (room < row_size fields))

one_more : (field : List ℕ) (some fields : Fields) (less room : ℕ) → room ≡ length field + 1 + less → WholeOrOver some fields less → WholeOrOver (field ∷ some) (field ∷ fields) room
one_more field some fields less room is (inl same) = inl (ap (λ l. field ∷ l) same)
one_more field some fields less room is (inr over) = inr (omega (arith, is, over.0, size_more field some), omega (arith, is, over.1, size_more field fields))

too_long : (field : List ℕ) (fields : Fields) (room : ℕ) → room ≤ length field → WholeOrOver (take room field ∷ []) (field ∷ fields) room
too_long field fields room most =
    let taken = length-take-le room field most in
    inr (omega (arith, taken, size_more (take room field) []), omega (arith, most, size_more field fields))

either_by : (b : Bool) (field : List ℕ) (fields : Fields) (room : ℕ) → nat_lt (length field) room ≡ b → WholeOrOver (front (room - (length field + 1)) fields) fields (room - (length field + 1))
    → WholeOrOver (if b then field ∷ front (room - (length field + 1)) fields else take room field ∷ []) (field ∷ fields) room
either_by true field fields room is more = one_more field (front (room - (length field + 1)) fields) fields (room - (length field + 1)) room (omega (arith, is_less (length field) room is)) more
either_by false field fields room is more = too_long field fields room (isnt_less (length field) room is)

-- either all of a row is shown, or it has more bytes than there is room for, and so has what is shown
pub whole_or_over : (fields : Fields) (room : ℕ) → WholeOrOver (front room fields) fields room
unfolding front
whole_or_over [] room = inl refl
whole_or_over (field ∷ fields) room =
    either_by (nat_lt (length field) room) field fields room refl (whole_or_over fields (room - (length field + 1)))
