-- What is in front of the end of a text.
use Rattle.std.proofs.Common.{◌≡◌, ◌-◌, ◌++◌, ◌∙◌, ℕ, Bool, true, false, Option, Some, None, List, length, length-append, take, drop, take-append-drop, refl, sym, ap, arith, append_assoc}
use Rattle.std.specs.Prelude.{if◌then◌else◌, not}
use Rattle.std.specs.Str.{bytes_eq}
use Rattle.std.proofs.lemmas.List.{drop_at, take_at}
use Rattle.std.proofs.lemmas.Slice.Eq.{bytes_eq-Decides}
use Rattle.std.specs.Io.KnownBytes.{Appends}
use Rattle.live_answers.specs.Passing.{in_front_of, without_end}

-- an end that is there
front_is : (front end : List ℕ) → without_end end (front ++ end) ≡ Some front
front_is front end =
    let size : length front ≡ length (front ++ end) - length end = omega (arith, length-append front end) in
    let there : bytes_eq (drop (length (front ++ end) - length end) (front ++ end)) end ≡ true = (bytes_eq-Decides _ _).1 (drop_at front end _ size) in
    rw there (ap Some (take_at front end _ size))

by_end : (there : Bool) (text left : List ℕ) (n : ℕ) → bytes_eq (drop (length text - length left) text) left ≡ there
    → Appends (if there then Some (take (length text - length left) text) else None) (without_end (drop n left) text) (take n left)
by_end false text left n is = tt
by_end true text left n is =
    let front = take (length text - length left) text in
    let same : drop (length text - length left) text ≡ left = (bytes_eq-Decides _ _).0 is in
    let whole : text ≡ (front ++ take n left) ++ drop n left =
    sym (take-append-drop (length text - length left) text) ∙ ap (λ l. front ++ l) (same ∙ sym (take-append-drop n left)) ∙ sym (append_assoc front (take n left) (drop n left)) in
    let after : without_end (drop n left) text ≡ Some (front ++ take n left) = ap (without_end (drop n left)) whole ∙ front_is (front ++ take n left) (drop n left) in
    rw after refl

-- passing over bytes makes known bytes grow by them
pub passes : (known : Option (List ℕ)) (left : List ℕ) (n : ℕ) → Appends (in_front_of left known) (in_front_of (drop n left) known) (take n left)
passes None left n = tt
passes (Some text) left n = by_end (bytes_eq (drop (length text - length left) text) left) text left n refl

by_not : (same : Bool) → false ≡ not same → same ≡ true
by_not true differ = refl
by_not false differ = absurd (cc)

-- bytes that don't differ are the same
pub same_bytes : (xs ys : List ℕ) → false ≡ not (bytes_eq xs ys) → xs ≡ ys
same_bytes xs ys differ = (bytes_eq-Decides xs ys).0 (by_not (bytes_eq xs ys) differ)
