-- Refusals that are counted answer by answer.
use Rattle.std.proofs.Common.{◌≡◌, ℕ, ◌+◌, ◌<◌, Bool, true, false, cond, List, [], ◌∷◌, ◌++◌, length, Some, None, refl, sym, ap, ◌∙◌, append_assoc, add-zero, get_or, take, arith}
use Rattle.std.specs.Prelude.{filter}
use Rattle.std.proofs.lemmas.List.{length-append, take_more}
use Rattle.std.proofs.lemmas.List.Elements.{filter-append}
use Rattle.account_core.specs.declared.fault.AccountFault.{AccountFault}
use Rattle.account_core.specs.declared.fault.AccountFault.TheVariants as fault
use Rattle.run_outputs.specs.Refused.{refusals_counted, how_many, is_by, one_refusal_more, refusals_counted_in}
use Rattle.run_values.specs.declared.post.Answer.{Answer}

one_of : (is : Bool) (answer : Answer) → length (cond is (answer ∷ []) []) ≡ cond is 1 0
one_of true answer = refl
one_of false answer = refl

many_more : (why : AccountFault) (heard : List Answer) (answer : Answer) → how_many why (heard ++ answer ∷ []) ≡ how_many why heard + cond (is_by why answer.refused) 1 0
many_more why heard answer =
    let p : Answer → Bool = λ a. is_by why a.refused in
    ap length (filter-append p heard (answer ∷ [])) ∙ length-append (filter p heard) (filter p (answer ∷ []))
    ∙ ap (λ n. how_many why heard + n) (one_of (p answer) answer)

counted_more : (count : ℕ) → refusals_counted (refusals_counted count + 1) ≡ refusals_counted (count + 1)
counted_more count = omega arith

-- an answer without a refusal
pub not_refused : (heard : List Answer) (answer : Answer) → answer.refused ≡ None → refusals_counted_in heard ≡ refusals_counted_in (heard ++ answer ∷ [])
not_refused heard answer none = rw (
  many_more fault.GateClosed heard answer,
  many_more fault.OutOfRange heard answer,
  many_more fault.NotOpen heard answer,
  many_more fault.CallUsed heard answer,
  many_more fault.HistoryFull heard answer,
  many_more fault.OutOfMemory heard answer,
  none,
) (simp add-zero)

-- an answer with one
pub refused_more : (heard : List Answer) (answer : Answer) (why : AccountFault) → answer.refused ≡ Some why → one_refusal_more (refusals_counted_in heard) why ≡ refusals_counted_in (heard ++ answer ∷ [])
refused_more heard answer why is = rw (
  many_more fault.GateClosed heard answer,
  many_more fault.OutOfRange heard answer,
  many_more fault.NotOpen heard answer,
  many_more fault.CallUsed heard answer,
  many_more fault.HistoryFull heard answer,
  many_more fault.OutOfMemory heard answer,
  is,
) (by why)
  where
    by : (one : AccountFault) → one_refusal_more (refusals_counted_in heard) one ≡ record {
      gate_closed = refusals_counted (how_many fault.GateClosed heard + cond (is_by fault.GateClosed (Some one)) 1 0);
      out_of_range = refusals_counted (how_many fault.OutOfRange heard + cond (is_by fault.OutOfRange (Some one)) 1 0);
      not_open = refusals_counted (how_many fault.NotOpen heard + cond (is_by fault.NotOpen (Some one)) 1 0);
      call_used = refusals_counted (how_many fault.CallUsed heard + cond (is_by fault.CallUsed (Some one)) 1 0);
      history_full = refusals_counted (how_many fault.HistoryFull heard + cond (is_by fault.HistoryFull (Some one)) 1 0);
      out_of_memory = refusals_counted (how_many fault.OutOfMemory heard + cond (is_by fault.OutOfMemory (Some one)) 1 0);
    }
    by fault.GateClosed = rw (counted_more (how_many fault.GateClosed heard)) (simp add-zero)
    by fault.OutOfRange = rw (counted_more (how_many fault.OutOfRange heard)) (simp add-zero)
    by fault.NotOpen = rw (counted_more (how_many fault.NotOpen heard)) (simp add-zero)
    by fault.CallUsed = rw (counted_more (how_many fault.CallUsed heard)) (simp add-zero)
    by fault.HistoryFull = rw (counted_more (how_many fault.HistoryFull heard)) (simp add-zero)
    by fault.OutOfMemory = rw (counted_more (how_many fault.OutOfMemory heard)) (simp add-zero)

-- an answer more of those that are heard
pub answer_more : (answers : List Answer) (i : ℕ) (answer : Answer) (heard : List Answer) → i < length answers → answer ≡ get_or answers i answer
    → refusals_counted_in ((heard ++ take i answers) ++ answer ∷ []) ≡ refusals_counted_in (heard ++ take (i + 1) answers)
answer_more answers i answer heard within is =
    ap (λ l. refusals_counted_in l) (append_assoc heard (take i answers) (answer ∷ [])
    ∙ ap (λ l. heard ++ l) (ap (λ a. take i answers ++ a ∷ []) is ∙ sym (take_more answers i answer within)))
