use Rattle.tariff_core.proofs.PrefixLemmas.{NoneLonger}
use Rattle.tariff_core.proofs.tariff.Tariff.longest_prefix.Given as goal

-- no longer prefix of the called number is in the table
abbrev pub invariant-loop-length : goal.invariant-loop-length
invariant-loop-length l = NoneLonger l.self l.called l.length
