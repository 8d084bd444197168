-- What a log begins with.
use Rattle.std.specs.Prelude.{ℕ, List, ◌++◌, codes}
use Rattle.std.specs.Fmt.{decimal}
use Rattle.dialogue_core.specs.declared.config.ServiceConfig.{ServiceConfig}

-- a line with the options of the service, and then what an input has in front of its first message
abbrev pub log_head : ServiceConfig → List ℕ → List ℕ
log_head service input = codes "log,1," ++ decimal service.wanted ++ codes "," ++ decimal service.least ++ codes "," ++ decimal service.tccd ++ codes "\n" ++ input
