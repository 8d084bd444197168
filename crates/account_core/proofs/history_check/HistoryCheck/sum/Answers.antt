use Rattle.std.proofs.Common.{◌≡◌, ◌∙◌, [], ap, length, rules, sym}
use Rattle.account_core.specs.Checked.{IsHeardOf, entries_counted}
use Rattle.account_core.specs.declared.history_check.Heard.TheVariants.{Nothing}
use Rattle.account_core.proofs.Entering.{nothing_taken_yet}
use Rattle.account_core.proofs.SumLemmas.{no_sums}
use Rattle.account_core.proofs.history_check.HistoryCheck.sum.Goals.{in-Nothing, in-Legal+in_ok-sums-in-Legal}
use Rattle.account_core.proofs.history_check.HistoryCheck.sum.Goals as goal

pub returns : goal.returns
returns c = λ opening until h check. elim c.match-self.branch [
  | in-Nothing w ↦
      let heard : IsHeardOf opening until h (Nothing w.in-Nothing.alloc w.in-Nothing.until) = rw w.in-Nothing.is at check.heard in
      let empty : h ≡ [] = heard.2 in
      rw (w.available-is, empty) (
        tt,
        record {
          opening_is = check.opening_is;
          available_is = check.opening_is ∙ sym (nothing_taken_yet opening);
          entries_are = check.entries_are ∙ ap (λ h. entries_counted (length h)) empty;
          calls_are = no_sums w.new.result.items w.new.ensures.items;
        },
      )
  | in-Legal+in_ok-sums-in-Legal w ↦
      let heard = rw w.in-Legal.is at check.heard in
      rw w.available-is (search rules)
]
