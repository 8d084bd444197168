-- The mails between the main thread and a worker, and what is in them.
use Rattle.std.specs.Global.{Vec}
use Rattle.std.specs.Prelude.{List, [], ◌∷◌, ◌++◌}
use Rattle.runs_core.specs.declared.mailboxes.Mail.{Mail}
use Rattle.runs_core.specs.declared.mailboxes.Mail.TheVariants.{Work, Close}

-- what mails carry, in order
abbrev pub items_in : {X : Type 0} → List (Mail (Vec X)) → List X
items_in [] = []
items_in (Work list ∷ mails) = list.items ++ items_in mails
items_in (Close ∷ mails) = items_in mails
