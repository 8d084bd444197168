use Rattle.std.proofs.Common.{◌≡◌, map}
use Rattle.std.specs.Prelude.{take, length}
use Rattle.runs_core.specs.Teams.{AreFresh, terms_of}
use Rattle.runs_core.proofs.opened.open_accounts.Given as goal

abbrev pub invariant-loop-place : goal.invariant-loop-place
invariant-loop-place g l =
    (map g.S.Shared.terms l.accounts.items ≡ terms_of l.setup.limit l.workers (take l.place l.setup.accounts))
    × (length l.teams.items ≡ l.workers)
    × AreFresh g.S.Shared.reads (map g.S.Shared.key l.accounts.items) 0 (map (λ team. team.items) l.teams.items)
