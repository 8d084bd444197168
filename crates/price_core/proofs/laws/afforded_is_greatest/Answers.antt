use Rattle.std.proofs.Common.{◌+◌, ◌-◌, min, arith}
use Rattle.price_core.specs.Afford.{units_afforded}
use Rattle.price_core.proofs.AffordLemmas.{units_covered_last, units_covered_pay, units_covered_within}
use Rattle.price_core.proofs.laws.afforded_is_greatest.Goals as goal

pub returns : goal.returns
unfolding units_afforded
returns c = record {
  within = λ plan old wanted money room.
      let within = units_covered_within plan old money (min wanted (864000 - (old.before + old.after))) in
      (omega arith, omega arith);
  covered = λ plan old wanted money some. units_covered_pay plan old money (min wanted (864000 - (old.before + old.after))) some;
  last = λ plan old wanted money units more wanted_le room.
      units_covered_last plan old money (min wanted (864000 - (old.before + old.after))) units more (omega arith);
}
