-- A text up to its last LF, and what is behind it.
use Rattle.std.proofs.Common.{◌≡◌, ◌≢◌, ◌<◌, ◌+◌, ◌-◌, ◌∙◌, ℕ, List, All, length, take, drop, arith, ap, sym}
use Rattle.std.specs.Io.{IsEmptyOrEndsWith}
use Rattle.std.specs.Prelude.{slice_index}
use Rattle.std.proofs.lemmas.Bool.{eq-eqb, eqb-true}
use Rattle.std.proofs.lemmas.List.{get_or-drop, get_or-take, get_or_default, length-drop, length-take-le}
use Rattle.memchr.specs.Find.{Nowhere, Passes, is_byte}

-- behind a place where the byte is nowhere more
pub none_behind : (byte : ℕ) (text : List ℕ) (from n : ℕ) → n ≡ from → Nowhere (Passes (is_byte byte) text) from (length text) → All (λ b. b ≢ byte) (drop n text)
none_behind byte text from n same nowhere k d below = λ is.
    let inside : n + k < length text = omega (arith, below, length-drop n text) in
    nowhere (n + k) (omega (arith, same)) inside (eq-eqb _ _ (get_or_default text (n + k) 0 d inside ∙ sym (get_or-drop n text k d) ∙ is))

-- up to a place that has the byte
pub ends_there : (byte : ℕ) (text : List ℕ) (place : ℕ) → place < length text → Passes (is_byte byte) text place → IsEmptyOrEndsWith (take (place + 1) text) byte
ends_there byte text place inside passes = λ _.
    let last : length (take (place + 1) text) - 1 ≡ place = omega (arith, inside, length-take-le (place + 1) text (omega (arith, inside))) in
    ap (slice_index (take (place + 1) text)) last ∙ get_or-take (place + 1) text place 0 (omega arith) ∙ eqb-true _ _ passes
