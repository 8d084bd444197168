-- A row is a header where its fields are the names, and then it is as long.
use Rattle.std.proofs.Common.{◌≡◌, ℕ, suc, ◌+◌, ◌<◌, Bool, List, [], ◌∷◌, length, get_or, drop, map, Some, refl, ap, drop-cons, arith}
use Rattle.std.specs.Prelude.{◌&&◌}
use Rattle.std.specs.Borrow.{Bor}
use Rattle.std.specs.Cmp.Lexicographic.{as_long}
use Rattle.std.specs.List.{position, position_or_len}
use Rattle.std.specs.Str.{bytes_eq}
use Rattle.std.proofs.lemmas.List.{length-map}
use Rattle.std.proofs.lemmas.List.Quantifiers.{position-Some}
use Rattle.table_core.specs.Fields.{has_word}
use Rattle.table_core.specs.Rows.{Fields}
use Rattle.table_core.specs.Tables.{headers_of, is_header, names_of, which_header, width_at}

-- the names from a place on are the fields from there on, by the one at the place and those after it
pub next_name : (names : List (Bor (List ℕ))) (fields : Fields) (i : ℕ) (d : Bor (List ℕ)) → i < length names → length fields ≡ length names
    → is_header (names_of (drop i names)) (drop i fields) ≡ (has_word fields i (get_or names i d).now && is_header (names_of (drop (i + 1) names)) (drop (i + 1) fields))
next_name names fields i d within same =
    let next : suc i ≡ i + 1 = omega arith in
    rw (drop-cons names i d within, drop-cons fields i [] (omega (arith, within, same)))
    (ap (λ k. has_word fields i (get_or names i d).now && is_header (names_of (drop k names)) (drop k fields)) next)

-- a header has as many names as the row has fields
pub width_of_header : (headers : List Fields) (fields : Fields) (header : ℕ) → which_header headers fields ≡ Some header → length fields ≡ width_at headers header
width_of_header headers fields header is =
    as_long bytes_eq fields (get_or headers header []) (position-Some (λ names. is_header names fields) headers header [] is).1

pub header_there : (headers : List Fields) (fields : Fields) (header : ℕ) → which_header headers fields ≡ Some header → header < length headers
header_there headers fields header is = (position-Some (λ names. is_header names fields) headers header [] is).0

position_or_len-map : {A B : Type 0} (p : B → Bool) (f : A → B) (xs : List A) → position_or_len p (map f xs) ≡ position_or_len (λ x. p (f x)) xs
position_or_len-map p f [] = refl
position_or_len-map p f (x ∷ xs) = rw (position_or_len-map p f xs) refl

pub position-map : {A B : Type 0} (p : B → Bool) (f : A → B) (xs : List A) → position p (map f xs) ≡ position (λ x. p (f x)) xs
position-map p f xs = rw (position_or_len-map p f xs, length-map xs) refl

-- the same, where the names are given as text
pub which_is : (headers : List (Bor (List (Bor (List ℕ))))) (fields : Fields) → which_header (headers_of headers) fields ≡ position (λ names. is_header (names_of names.now) fields) headers
which_is headers fields = position-map (λ names. is_header names fields) (λ names. names_of names.now) headers
