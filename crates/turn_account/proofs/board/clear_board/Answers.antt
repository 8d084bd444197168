use Rattle.std.proofs.Common.{◌≡◌, subst}
use Rattle.turn_account.specs.Ended.{IsClosedAs}
use Rattle.turn_account.proofs.Seating.{closes}
use Rattle.turn_account.proofs.board.clear_board.Goals as goal

pub unreachable-requires : goal.unreachable-requires
unreachable-requires c =
    let closed = closes _ _ _ _ _ _ c.close_with-closed.ensures.values.2 c.take-account.ensures.value c.requires.idle c.requires.number c.requires.last in
    absurd (cc (c.in-None.is, closed.1))

pub returns : goal.returns
returns c =
    let closed = closes _ _ _ _ _ _ c.close_with-closed.ensures.values.2 c.take-account.ensures.value c.requires.idle c.requires.number c.requires.last in
    let same : closed.0 ≡ c.in-Some.account = cc (c.in-Some.is, closed.1) in
    subst (IsClosedAs _ _) same closed.2
