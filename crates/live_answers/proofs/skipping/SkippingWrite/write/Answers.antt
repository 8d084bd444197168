use Rattle.std.proofs.Common.{◌≡◌, ◌-◌, drop, length, length-drop, take, take_all, arith}
use Rattle.live_answers.proofs.Passing.{passes, same_bytes}
use Rattle.live_answers.proofs.skipping.SkippingWrite.write.Goals as goal

pub returns-clause-bytes : goal.returns-clause-bytes
returns-clause-bytes g c =
    let left = c.args.self.now.left.now in
    let n = c.min-count.result in
    let rest : take (length left - n) (drop n left) ≡ drop n left = take_all (length left - n) (drop n left) (omega (arith, length-drop n left)) in
    let same : take n c.args.buf.now ≡ take n left = same_bytes (take n c.args.buf.now) (take n left) c.if-ne.ensures in
    rw (rest, same) (passes (g.L.Write.contents c.args.self.now.inner) left n)
