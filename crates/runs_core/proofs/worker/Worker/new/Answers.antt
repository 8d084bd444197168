use Rattle.std.proofs.Common.{◌≡◌, ℕ}
use Rattle.std.proofs.lemmas.List.Elements.{All-map}
use Rattle.runs_core.proofs.worker.Worker.new.Goals as goal

pub returns-clause-ready : goal.returns-clause-ready
returns-clause-ready g c = record {
  accounts = c.requires.accounts;
  keys = c.requires.keys;
  numbers = All-map (λ (n : ℕ). n ≡ c.args.number) g.S.Shared.reads.number c.args.seats.items c.requires.numbers;
  talks = λ call. rw c.new.ensures tt;
}
