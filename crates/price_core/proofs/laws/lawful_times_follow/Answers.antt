use Rattle.price_core.proofs.LawfulLemmas.{coming_follows, coming_stands, may_stay, read_times_are}
use Rattle.price_core.proofs.laws.lawful_times_follow.Goals as goal

pub returns : goal.returns
returns c = record { stand = coming_stands; stay = may_stay; follow = coming_follows; read = read_times_are }
