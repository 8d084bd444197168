-- The records of calls, one after another.
use Rattle.std.proofs.Common.{◌≡◌, ◌==◌, ◌||◌, arith, refl, ◌++◌, ℕ, List, [], ◌∷◌, All, map, sym, ap, subst, ◌∙◌}
use Rattle.std.proofs.lemmas.Bool.Decides.{nat_tests}
use Rattle.std.proofs.lemmas.List.{append_assoc, map-append}
use Rattle.std.proofs.lemmas.List.Elements.{All-append, All-cons, All-head, All-nil, All-tail}
use Rattle.std.proofs.lemmas.Map.Made.{is_some-lookup}
use Rattle.std.specs.BTreeMap.{is_at}
use Rattle.std.specs.List.{list_any}
use Rattle.std.specs.Map.{keys_of, lookup}
use Rattle.std.specs.Ordering.{nat_cmp}
use Rattle.std.specs.Prelude.{is_some}
use Rattle.run_outputs.specs.Records.{IsRecord, Run}
use Rattle.run_outputs.specs.declared.call_record.CallRecord.{CallRecord}
use Rattle.run_outputs.specs.declared.starts.Start.{Start}

-- the next of a list goes to those that are done
pub moved : {X : Type 0} (done left next all : List X) (x : X) → done ++ left ≡ all → left ≡ x ∷ next → (done ++ x ∷ []) ++ next ≡ all
moved done left next all x split is = append_assoc done (x ∷ []) next ∙ ap (λ l. done ++ l) (sym is) ∙ split

of_next : {X : Type 0} (P : X → Type 0) (done next : List X) (x : X) → All P (done ++ x ∷ next) → P x
of_next P [] next x holds = All-head P x next holds
of_next P (first ∷ done) next x holds = of_next P done next x (All-tail P first (done ++ x ∷ next) holds)

-- what holds of all holds of the next
pub holds_next : {X : Type 0} (P : X → Type 0) (done left next all : List X) (x : X) → done ++ left ≡ all → left ≡ x ∷ next → All P all → P x
holds_next P done left next all x split is holds = of_next P done next x (subst (λ l. All P l) (sym split ∙ ap (λ l. done ++ l) is) holds)

-- the calls of the records with one more
pub calls_more : (calls : List CallRecord) (done : List (ℕ × Start)) (made : CallRecord) (call : ℕ) (start : Start) → map (λ c. c.call) calls ≡ keys_of done → made.call ≡ call
    → map (λ c. c.call) (calls ++ made ∷ []) ≡ keys_of (done ++ (call, start) ∷ [])
calls_more calls done made call start are is =
    map-append (λ c. c.call) calls (made ∷ []) ∙ ap (λ l. l ++ made.call ∷ []) are ∙ ap (λ c. keys_of done ++ c ∷ []) is
    ∙ sym (map-append (λ (e : ℕ × Start). e.0) done ((call, start) ∷ []))

-- each is a record of the run, with one more
pub records_more : (run : Run) (calls : List CallRecord) (made : CallRecord) → All (IsRecord run) calls → IsRecord run made → All (IsRecord run) (calls ++ made ∷ [])
records_more run calls made are is = All-append (IsRecord run) calls (made ∷ []) are (All-cons (IsRecord run) made [] is (All-nil (IsRecord run)))

-- no records yet
pub no_records : (run : Run) → All (IsRecord run) []
no_records run = All-nil (IsRecord run)

same_test : (call other : ℕ) → is_at (nat_cmp call) other ≡ call == other
same_test call other = grind (arith, nat_tests)

pub same_calls : (call : ℕ) (calls : List ℕ) → list_any (is_at (nat_cmp call)) calls ≡ list_any (λ other. call == other) calls
same_calls call [] = refl
same_calls call (other ∷ calls) = λ i. same_test call other i || same_calls call calls i

-- a call has a start where it is among the keys
pub started : (call : ℕ) (starts : List (ℕ × Start)) → is_some (lookup (is_at (nat_cmp call)) starts) ≡ list_any (λ other. call == other) (keys_of starts)
started call starts = is_some-lookup (is_at (nat_cmp call)) starts ∙ same_calls call (keys_of starts)
