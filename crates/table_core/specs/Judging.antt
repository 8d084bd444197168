-- How the meaning of a table is put together from the meanings of its rows.
use Rattle.std.specs.Prelude.{ℕ, List, [], ◌∷◌, ◌++◌, Result, Ok, Err}

-- what comes next, after a step that may fail
abbrev pub and_then : {X Y E : Type 0} → Result X E → (X → Result Y E) → Result Y E
and_then (Ok x) next = next x
and_then (Err why) next = Err why

-- what was read so far, and one more
abbrev pub adds : {X K : Type 0} → (List X → List (List ℕ) → Result X K) → List X → List (List ℕ) → Result (List X) K
adds one earlier fields = and_then (one earlier fields) (λ x. Ok (earlier ++ x ∷ []))
