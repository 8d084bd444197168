use Rattle.std.proofs.Common.{◌≡◌, ◌==◌, ℕ, Option, None, rules, sym, ap, ◌∙◌}
use Rattle.std.specs.Prelude.{if◌then◌else◌}
use Rattle.std.specs.Option.{option_or}
use Rattle.run_outputs.specs.Parts.{payer_in}
use Rattle.run_outputs.proofs.ListedAccounts.{by_its_digits, keeps}
use Rattle.run_outputs.proofs.payers.note.Goals as goal

pub returns-in_default-account_of : goal.returns-in_default-account_of
returns-in_default-account_of c = λ other.
    let payer = payer_in c.args.payers.now other in
    let found = sym c.in_default-account_of.is ∙ c.account_of.ensures ∙ by_its_digits c.in-Start.calling c.args.setup.now.subscribers in
    let none : payer ≡ option_or payer (if c.in-Start.call == other then None else None) = search rules in
    none ∙ rw c.in-Start.is (ap (λ (account : Option ℕ). option_or payer (if c.in-Start.call == other then account else None)) found)

pub returns-in_ok-insert : goal.returns-in_ok-insert
returns-in_ok-insert c = λ other.
    let payers = c.args.payers.now in
    let call = c.in-Start.call in
    let found = sym c.in-Some.is ∙ c.account_of.ensures ∙ by_its_digits c.in-Start.calling c.args.setup.now.subscribers in
    let none : payer_in payers call ≡ None = search rules in
    keeps payers c.insert.new.self call c.in-Some.account other c.in_ok-insert.ensures.inserted none
    ∙ rw c.in-Start.is (ap (λ (account : Option ℕ). option_or (payer_in payers other) (if call == other then account else None)) found)
