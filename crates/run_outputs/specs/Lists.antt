-- Lines that say how many of something there are, and which are the first ten.
use Rattle.std.specs.Prelude.{◌==◌, ◌++◌, ℕ, List, [], ◌∷◌, codes, if◌then◌else◌, length, nat_lt, take}
use Rattle.std.specs.Fmt.{decimal}
use Rattle.std.specs.List.{flat_map}
use Rattle.run_outputs.specs.Unplaced.{event_text}
use Rattle.run_outputs.specs.declared.unplaced.UnplacedEvent.{UnplacedEvent}

-- how many there are, of what is called so where there is one, and where there are more
abbrev pub count_text : (one many : List ℕ) → ℕ → List ℕ
count_text one many count = if count == 1 then codes "1 " ++ (one ++ codes ": ") else decimal count ++ (codes " " ++ (many ++ codes ": "))

-- a text behind a comma
abbrev pub behind_comma : List ℕ → List ℕ
behind_comma text = codes ", " ++ text

-- the end of a line that has nine at most behind the first one
abbrev pub end_text : ℕ → List ℕ
end_text others = if nat_lt 9 others then codes ", ..\n" else codes "\n"

-- how many these are, and the texts of the first ten; nothing where there are none
abbrev pub list_line : {X : Type 0} → (one many : List ℕ) → (X → List ℕ) → List X → List ℕ
list_line one many text [] = []
list_line one many text (first ∷ others) =
    count_text one many (length (first ∷ others)) ++ (text first ++ (flat_map (λ x. behind_comma (text x)) (take 9 others) ++ end_text (length others)))

-- the line about calls of numbers that no subscriber has
abbrev pub strangers_line : List ℕ → List ℕ
strangers_line calls = list_line (codes "call of a number that no subscriber has") (codes "calls of numbers that no subscriber has") decimal calls

-- the line about events that had no place
abbrev pub unplaced_line : List UnplacedEvent → List ℕ
unplaced_line events = list_line (codes "event that had no place") (codes "events that had no place") event_text events
