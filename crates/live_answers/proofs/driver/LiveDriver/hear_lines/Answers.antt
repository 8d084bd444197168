use Rattle.std.proofs.Common.{◌≡◌, ◌-◌, length, refl, rules}
use Rattle.live_answers.proofs.driver.LiveDriver.hear_lines.Goals as goal

pub returns-clause-hears : goal.returns-clause-hears
returns-clause-hears g c =
    let first_is : c.saturating_sub-first.result ≡ length c.args.self.now.given.items - length c.args.answers.now = search rules in
    let taken = c.in_ok-left.ensures.takes in
    record {
      lines = taken.lines;
      few = taken.few;
      opened = search rules;
      takes = taken.takes;
      replay = refl;
      line = rw (first_is, c.as_slice.ensures.value) at c.in_ok-self.ensures.line;
      said = taken.says;
      gives = taken.gives;
      prints = rw (first_is, c.as_slice.ensures.value) at c.in_ok-self.ensures.printed;
      logs = taken.logs;
    }
