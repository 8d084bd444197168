use Rattle.std.proofs.Common.{◌≡◌, ◌==◌, Option, None, Some, rules, sym, ap, ◌∙◌}
use Rattle.std.specs.BTreeMap.{get}
use Rattle.std.specs.Ordering.{nat_cmp}
use Rattle.std.specs.Prelude.{if◌then◌else◌}
use Rattle.std.specs.Option.{option_or}
use Rattle.run_values.specs.declared.post.Body.TheVariants as body
use Rattle.run_outputs.proofs.CallLemmas.{or_none, said_more, start_more}
use Rattle.run_outputs.specs.Calls.{start_by, start_of}
use Rattle.run_outputs.specs.declared.starts.Start.{Start}
use Rattle.run_outputs.proofs.starts.hear.Goals as goal

pub returns-in_default : goal.returns-in_default
returns-in_default c = λ given have call.
    let one_more = said_more call start_by given (c.args.at, body.Recharge c.in_default.field-0 c.in_default.field-1 c.in_default.field-2) in
    have call ∙ rw c.in_default.is (sym (one_more ∙ or_none (start_of call given)))

pub returns-in_default-start_by : goal.returns-in_default-start_by
returns-in_default-start_by c = λ given have other.
    let found = sym c.in_default-start_by.is ∙ c.start_by.ensures in
    let begun : (known : Option Start) → known ≡ option_or known (if c.in-Ssf.call == other then None else None) = λ known. search rules in
    rw c.in-Ssf.is (start_more given c.args.at c.in-Ssf.call other c.in-Ssf.msg None found _ (have other ∙ begun (start_of other given)))

pub returns-in_ok-insert : goal.returns-in_ok-insert
returns-in_ok-insert c = λ given have other.
    let call = c.in-Ssf.call in
    let start = Some c.in-Some.start in
    let found = sym c.in-Some.is ∙ c.start_by.ensures in
    let begun : get nat_cmp c.insert.new.self other ≡ option_or (get nat_cmp c.args.starts.now other) (if call == other then start else None) = search rules in
    rw c.in-Ssf.is (start_more given c.args.at call other c.in-Ssf.msg start found _ (begun ∙ ap (λ known. option_or known (if call == other then start else None)) (have other)))

pub returns-else-not-contains_key : goal.returns-else-not-contains_key
returns-else-not-contains_key c = λ given have other.
    let call = c.in-Ssf.call in
    let start = Some c.in-Some.start in
    let found = sym c.in-Some.is ∙ c.start_by.ensures in
    let begun : get nat_cmp c.args.starts.now other ≡ option_or (get nat_cmp c.args.starts.now other) (if call == other then start else None) = search rules in
    rw c.in-Ssf.is (start_more given c.args.at call other c.in-Ssf.msg start found _ (begun ∙ ap (λ known. option_or known (if call == other then start else None)) (have other)))
