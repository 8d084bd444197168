-- What is asked of a run, with its numbers capped.
use Rattle.std.proofs.Common.{◌≡◌, ℕ, List, Option, Some, None, refl, sym, codes}
use Rattle.std.specs.Prelude.{option_map}
use Rattle.clap.specs.Words.{Row}
use Rattle.run_values.specs.declared.options.PartsAsk.{PartsAsk}
use Rattle.run_values.specs.declared.options.RunOutput.{RunOutput}
use Rattle.ssf_core.specs.declared.config.DefaultHandling.{DefaultHandling}
use Rattle.table_commands.specs.Capped.{capped, capped_ask}
use Rattle.table_commands.specs.RunWords.{ask_in, asked_run, handling_in, output_in, parts_in, setting_in, workers_in}

capped_of : (workers wanted least tssf tccd delay : Option ℕ) (default : Option DefaultHandling) (output : Option RunOutput) (parts_by : ℕ → RunOutput → Option (Option PartsAsk))
    → option_map capped_ask (asked_run workers wanted least tssf tccd delay default output parts_by)
    ≡ asked_run workers (option_map capped wanted) (option_map capped least) (option_map capped tssf) (option_map capped tccd) (option_map capped delay) default output parts_by
capped_of None wanted least tssf tccd delay default output parts_by = refl
capped_of (Some workers) None least tssf tccd delay default output parts_by = refl
capped_of (Some workers) (Some wanted) None tssf tccd delay default output parts_by = refl
capped_of (Some workers) (Some wanted) (Some least) None tccd delay default output parts_by = refl
capped_of (Some workers) (Some wanted) (Some least) (Some tssf) None delay default output parts_by = refl
capped_of (Some workers) (Some wanted) (Some least) (Some tssf) (Some tccd) None default output parts_by = refl
capped_of (Some workers) (Some wanted) (Some least) (Some tssf) (Some tccd) (Some delay) None output parts_by = refl
capped_of (Some workers) (Some wanted) (Some least) (Some tssf) (Some tccd) (Some delay) (Some default) None parts_by = refl
capped_of (Some workers) (Some wanted) (Some least) (Some tssf) (Some tccd) (Some delay) (Some default) (Some output) parts_by = by_parts (parts_by workers output) refl
  where
    by_parts : (parts : Option (Option PartsAsk)) → parts_by workers output ≡ parts
        → option_map capped_ask (asked_run (Some workers) (Some wanted) (Some least) (Some tssf) (Some tccd) (Some delay) (Some default) (Some output) parts_by)
        ≡ asked_run (Some workers) (Some (capped wanted)) (Some (capped least)) (Some (capped tssf)) (Some (capped tccd)) (Some (capped delay)) (Some default) (Some output) parts_by
    by_parts None is = rw is refl
    by_parts (Some parts) is = rw is refl

capped_in : (options : List Row) → option_map capped_ask (ask_in options)
    ≡ asked_run (workers_in options) (option_map capped (setting_in options (codes "wanted") 600)) (option_map capped (setting_in options (codes "least") 50))
    (option_map capped (setting_in options (codes "tssf") 100)) (option_map capped (setting_in options (codes "tccd") 50)) (option_map capped (setting_in options (codes "delay") 2))
    (handling_in options) (output_in options) (parts_in options)
unfolding ask_in
capped_in options = capped_of (workers_in options) _ _ _ _ _ (handling_in options) (output_in options) (parts_in options)

-- the ask is read from what each of the options says
pub asked_by : (options : List Row) {workers wanted least tssf tccd delay : Option ℕ}
    {default : Option DefaultHandling} {output : Option RunOutput}
    → workers ≡ workers_in options
    → wanted ≡ option_map capped (setting_in options (codes "wanted") 600)
    → least ≡ option_map capped (setting_in options (codes "least") 50)
    → tssf ≡ option_map capped (setting_in options (codes "tssf") 100)
    → tccd ≡ option_map capped (setting_in options (codes "tccd") 50)
    → delay ≡ option_map capped (setting_in options (codes "delay") 2)
    → default ≡ handling_in options
    → output ≡ output_in options
    → asked_run workers wanted least tssf tccd delay default output (parts_in options)
    ≡ option_map capped_ask (ask_in options)
asked_by options is1 is2 is3 is4 is5 is6 is7 is8 =
    rw (is1, is2, is3, is4, is5, is6, is7, is8) (sym (capped_in options))

-- the same where each is known, with its parts
pub asked_in_parts : (options : List Row) {workers wanted least tssf tccd delay : ℕ}
    {default : DefaultHandling} {output : RunOutput} {parts : Option (Option PartsAsk)}
    → Some workers ≡ workers_in options
    → Some wanted ≡ option_map capped (setting_in options (codes "wanted") 600)
    → Some least ≡ option_map capped (setting_in options (codes "least") 50)
    → Some tssf ≡ option_map capped (setting_in options (codes "tssf") 100)
    → Some tccd ≡ option_map capped (setting_in options (codes "tccd") 50)
    → Some delay ≡ option_map capped (setting_in options (codes "delay") 2)
    → Some default ≡ handling_in options
    → Some output ≡ output_in options
    → parts ≡ parts_in options workers output
    → asked_run (Some workers) (Some wanted) (Some least) (Some tssf) (Some tccd) (Some delay)
    (Some default) (Some output) (λ _ _. parts)
    ≡ option_map capped_ask (ask_in options)
asked_in_parts options is1 is2 is3 is4 is5 is6 is7 is8 is9 =
    rw is9 (asked_by options is1 is2 is3 is4 is5 is6 is7 is8)
