-- A text that is written piece by piece.
use Rattle.std.proofs.Common.{◌≡◌, ℕ, ◌+◌, ◌-◌, ◌≤◌, Bool, true, false, List, ◌++◌, drop, length, take, Option, Some, None, sym, ap, ◌∙◌, append_assoc, append-nil, arith, ◌<◌, ◌⊎◌, inl, inr, subst}
use Rattle.std.proofs.Math.Seq.{take-add, take-append-add}
use Rattle.std.proofs.lemmas.List.{length-drop, take_all, take_rest, take-append-le}
use Rattle.std.specs.Io.KnownBytes.{Appends}
use Rattle.std.proofs.lemmas.Bool.{cases_lt}
use Rattle.std.proofs.KnownBytes.{Appends-trans}
use Rattle.table_core.specs.Fronts.{AppendsFront, Writes}

-- a writer takes no more than is left
pub within_rest : (text : List ℕ) (written count : ℕ) → written ≤ length text → count ≤ length (take (length text - written) (drop written text)) → written + count ≤ length text
within_rest text written count within most =
    let left : count ≤ length (drop written text) = rw (take_rest text written) at most in omega (arith, left, within, length-drop written text)

-- nothing yet
pub none_written : (known : Option (List ℕ)) (text : List ℕ) → Appends known known (take 0 text)
none_written None text = tt
none_written (Some xs) text = sym (append-nil xs)

-- one write more
pub more_written : (old now new : Option (List ℕ)) (text : List ℕ) (written count : ℕ) → Appends old now (take written text)
    → Appends now new (take count (take (length text - written) (drop written text))) → Appends old new (take (written + count) text)
more_written None now new text written count front more = tt
more_written (Some xs) None new text written count front more = absurd front
more_written (Some xs) (Some ys) None text written count front more = absurd more
more_written (Some xs) (Some ys) (Some zs) text written count front more =
    rw (take_rest text written) at more ∙ ap (λ l. l ++ take count (drop written text)) front ∙ append_assoc xs (take written text) (take count (drop written text))
    ∙ ap (λ l. xs ++ l) (sym (take-add written count text))

-- of a text that was written, all or a front was written
pub some_written : (old new : Option (List ℕ)) (text : List ℕ) (all : Bool) → Writes old new text all → AppendsFront old new text
some_written old new text true wrote = (length text, rw (take_all (length text) text (omega arith)) wrote)
some_written old new text false wrote = wrote

-- one text was written, and then a front of another
pub front_behind : (a b c : Option (List ℕ)) (first second : List ℕ) → Appends a b first → AppendsFront b c second → AppendsFront a c (first ++ second)
front_behind a b c first second wrote front =
    (length first + front.0, subst (λ l. Appends a c l) (sym (take-append-add first second front.0)) (Appends-trans a b c first (take front.0 second) wrote front.1))

-- a front of a text is a front of a longer one
pub front_before : (a b : Option (List ℕ)) (first second : List ℕ) → AppendsFront a b first → AppendsFront a b (first ++ second)
front_before a b first second (count, front) = by_size (cases_lt count (length first))
  where
    by_size : (count < length first) ⊎ (length first ≤ count) → AppendsFront a b (first ++ second)
    by_size (inl less) = (count, subst (λ l. Appends a b l) (sym (take-append-le count first second (omega (arith, less)))) front)
    by_size (inr more) =
        let all : take count first ≡ take (length first) (first ++ second) =
        take_all count first more ∙ sym (take-append-le (length first) first second (omega arith) ∙ take_all (length first) first (omega arith)) in
        (length first, subst (λ l. Appends a b l) all front)
