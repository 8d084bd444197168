-- The rows of one post more.
use Rattle.std.proofs.Common.{◌≡◌, ℕ, ◌+◌, ◌<◌, ◌≤◌, Bor, List, [], ◌∷◌, ◌++◌, length, Option, None, Some, codes, get_or, map, take, sym, ap, ◌∙◌, append_assoc, arith}
use Rattle.std.proofs.lemmas.List.{append-nil, length-take-le, take_more}
use Rattle.std.proofs.lemmas.List.Concat.{flat_map-append}
use Rattle.std.proofs.lemmas.Option.{slice_get-get_or, slice_get_past}
use Rattle.std.specs.Option.{option_copied}
use Rattle.std.specs.Prelude.{slice_get}
use Rattle.std.specs.Slice.{IsItemAt}
use Rattle.tariff_core.specs.declared.clock.Clock.{Clock}
use Rattle.run_texts.specs.Said.{operation_said, refused_said, stray_said}
use Rattle.run_texts.specs.Tables.{answer_rows, trace_header, post_rows, trace_row, trace_rows_from, service_rows, trace_text}
use Rattle.run_values.specs.declared.post.Answer.{Answer}
use Rattle.run_values.specs.declared.post.Body.{Body}
use Rattle.cap_values.specs.Orders.{operations_in}

-- the rows of a post, with those of its answer
abbrev rows_at : Clock → List Answer → ℕ → ℕ × Body → List ℕ
rows_at clock answers number post = post_rows clock number post (slice_get answers number)

rows_last : (clock : Clock) (answers : List Answer) (number : ℕ) (posts : List (ℕ × Body)) (post : ℕ × Body)
    → trace_rows_from clock answers number (posts ++ post ∷ []) ≡ trace_rows_from clock answers number posts ++ rows_at clock answers (number + length posts) post
rows_last clock answers number [] post =
    let here : number ≡ number + 0 = omega arith in
    append-nil (rows_at clock answers number post) ∙ ap (λ n. rows_at clock answers n post) here
rows_last clock answers number (first ∷ posts) post =
    let here : number + 1 + length posts ≡ number + length (first ∷ posts) = omega arith in
    ap (λ rows. rows_at clock answers number first ++ rows) (rows_last clock answers (number + 1) posts post)
    ∙ sym (append_assoc (rows_at clock answers number first) (trace_rows_from clock answers (number + 1) posts) (rows_at clock answers (number + 1 + length posts) post))
    ∙ ap (λ n. (rows_at clock answers number first ++ trace_rows_from clock answers (number + 1) posts) ++ rows_at clock answers n post) here

-- the rows of one post more
pub rows_more : (clock : Clock) (answers : List Answer) (given : List (ℕ × Body)) (i : ℕ) (post : ℕ × Body) (text : List ℕ) → i < length given → post ≡ get_or given i post
    → text ≡ trace_text clock (take i given) answers → text ++ post_rows clock i post (slice_get answers i) ≡ trace_text clock (take (i + 1) given) answers
rows_more clock answers given i post text within is so_far =
    let front = take i given in
    let le : i ≤ length given = omega arith in
    let count : 0 + length front ≡ i = omega (arith, length-take-le i given le) in
    let last : trace_rows_from clock answers 0 (front ++ post ∷ []) ≡ trace_rows_from clock answers 0 front ++ post_rows clock i post (slice_get answers i) =
    rows_last clock answers 0 front post ∙ ap (λ n. trace_rows_from clock answers 0 front ++ rows_at clock answers n post) count in
    rw (so_far, take_more given i post within, ← is, last) (append_assoc trace_header (trace_rows_from clock answers 0 front) (post_rows clock i post (slice_get answers i)))

-- the operations of an answer, whether the post was stray and the fault, one after the other
pub answer_joined : (head : List ℕ) (answer : Answer) (old after_operations after_stray new : List ℕ) → after_operations ≡ old ++ service_rows head (map operation_said (operations_in answer.instructions))
    → after_stray ≡ after_operations ++ service_rows head (stray_said answer.stray) → new ≡ after_stray ++ service_rows head (refused_said answer.refused)
    → new ≡ old ++ answer_rows head (Some answer)
answer_joined head answer old after_operations after_stray new operations stray refused =
    let operations_said = map operation_said (operations_in answer.instructions) in
    let one = trace_row head (codes "service") in
    rw (refused, stray, operations, flat_map-append one operations_said (stray_said answer.stray ++ refused_said answer.refused), flat_map-append one (stray_said answer.stray) (refused_said answer.refused))
    (simp append_assoc)

-- what a slice has at a place
pub got : (answers : List Answer) (i : ℕ) (found : Option (Bor Answer)) → IsItemAt answers i found → option_copied found ≡ slice_get answers i
got answers i None is = sym (slice_get_past answers i is.3)
got answers i (Some answer) is = sym (slice_get-get_or answers i answer.now is.3.0 ∙ ap Some (sym is.1))
