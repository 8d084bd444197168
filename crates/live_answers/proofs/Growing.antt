-- Known bytes that grow more than once.
use Rattle.std.proofs.Common.{◌+◌, ℕ, Bool, true, false, Option, Some, None, List, [], ◌++◌, length, take, sym, subst, ◌∙◌, append_assoc, append-nil, le_refl, take_all}
use Rattle.std.proofs.Math.Seq.{take-append-add}
use Rattle.std.specs.Io.KnownBytes.{Appends, Keeps}
use Rattle.std.proofs.KnownBytes.{Appends-trans, Appends-kept}
use Rattle.live_answers.specs.Runs.{Logs, PrintsText}
use Rattle.live_answers.specs.declared.stage.LiveFault.{LiveFault}
use Rattle.live_answers.specs.declared.stage.LiveFault.TheVariants as fault
use Rattle.table_core.specs.Fronts.{Writes}

pub kept_is_grown : (a b : Option (List ℕ)) → Keeps a b → Appends a b []
kept_is_grown None b keeps = tt
kept_is_grown (Some a) None keeps = absurd keeps
kept_is_grown (Some a) (Some b) keeps = keeps ∙ sym (append-nil a)

-- all of a text was written, and then another as far as its writer took it
pub prints_twice : (why : Option LiveFault) (a b c : Option (List ℕ)) (xs ys : List ℕ) → Appends a b xs → PrintsText why b c ys → PrintsText why a c (xs ++ ys)
prints_twice None a b c xs ys first second = Appends-trans a b c xs ys first second
prints_twice (Some fault.Input) a b c xs ys first second = Appends-trans a b c xs ys first second
prints_twice (Some fault.Output) a b c xs ys first second =
    (length xs + second.0, subst (λ l. Appends a c l) (sym (take-append-add xs ys second.0)) (Appends-trans a b c xs (take second.0 ys) first second.1))
prints_twice (Some fault.Log) a b c xs ys first second = Appends-trans a b c xs ys first second

-- the same of a log
pub logs_twice : (why : Option LiveFault) (a b c : Option (List ℕ)) (xs ys line : List ℕ) → Appends a b xs → Logs why b c ys line → Logs why a c (xs ++ ys) line
logs_twice None a b c xs ys line first second = Appends-trans a b c xs ys first second
logs_twice (Some fault.Input) a b c xs ys line first second = Appends-trans a b c xs ys first second
logs_twice (Some fault.Output) a b c xs ys line first second = Appends-trans a b c xs ys first second
logs_twice (Some fault.Log) a b c xs ys line first second =
    (second.0, subst (λ l. Appends a c l) (sym (append_assoc xs ys (take second.0 line))) (Appends-trans a b c xs (ys ++ take second.0 line) first second.1))

-- a text was written, and what its writer held back may have been flushed
pub flushed : (a b c : Option (List ℕ)) (text : List ℕ) (done : Bool) → Appends a b text → Keeps b c → Writes a c text done
flushed a b c text true grows keeps = Appends-kept a b c text grows keeps
flushed a b c text false grows keeps =
    (length text, subst (λ l. Appends a c l) (sym (take_all (length text) text (le_refl (length text)))) (Appends-kept a b c text grows keeps))
