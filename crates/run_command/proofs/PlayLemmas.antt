-- A player that has ended has taken all of its rows.
use Rattle.std.proofs.Common.{◌≡◌, ℕ, true, false, List, [], ◌∷◌, ◌++◌, map, refl, sym, ◌∙◌, ap, subst}
use Rattle.std.proofs.lemmas.List.{append-nil}
use Rattle.run_command.specs.Plays.{HearsItsRounds, IsAskedFor, IsGivenWithout, IsPlayWithout}
use Rattle.run_values.specs.declared.options.RunAsk.{RunAsk}
use Rattle.run_texts.specs.Views.{row_data}
use Rattle.run_texts.specs.declared.script.ScriptRow.{ScriptRow}
use Rattle.script_player.specs.Chains.{Chain}
use Rattle.script_player.specs.Plays.{IsPlayed, Play}
use Rattle.script_player.specs.Posts.{Begins, items_of, opening_item_of, recharges_in, recharge_items_of}
use Rattle.script_player.specs.Runs.{Hears, LivesByItsDeeds, fresh_play}
use Rattle.ssf_core.specs.declared.config.SsfConfig.{SsfConfig}
use Rattle.run_values.specs.declared.post.Answer.{Answer}
use Rattle.run_values.specs.declared.post.Body.{Body}
use Rattle.runs_core.specs.Hearing.{HearsRounds, all_heard}
use Rattle.runs_core.specs.Runs.{IsRun}
use Rattle.run_command.specs.Played.{IsPlayedRun}
use Rattle.run_values.specs.Options.{is_trace}
use Rattle.run_outputs.specs.declared.played.Played.{Played}
use Rattle.run_outputs.specs.Refused.{refusals_counted_in}
use Rattle.run_values.specs.Setups.{Setup}
use Rattle.account_core.specs.Closed.{Closed}
use Rattle.turn_account.specs.Seen.{StoodIn}

-- from round to round
abbrev pub Rounds : (Play → List Answer → Play → Type 0) → List Answer → Play → List (List Answer) → Play → Type 0
Rounds Heard before_this old heard new = HearsRounds (λ (p : Play). p.network.given) (λ (p : Play). p.ended) Heard before_this old heard new

chained : (before_this : List Answer) (old : Play) (heard : List (List Answer)) (new : Play) → Rounds Hears before_this old heard new → Chain Hears old heard new
chained before_this old [] new rounds = absurd rounds
chained before_this old (answers ∷ []) new rounds = (new, (rounds.0.hears_them, refl))
chained before_this old (answers ∷ next ∷ heard) new rounds = (rounds.0, (rounds.1.hears_them, chained (before_this ++ answers) rounds.0 (next ∷ heard) new rounds.3))

-- a player that hasn't ended hears in each round what it says that it does
pub each_hears : (before_this : List Answer) (old : Play) (heard : List (List Answer)) (new : Play) → old.ended ≡ false
    → Rounds (λ before answers after. before.ended ≡ false → Hears before answers after) before_this old heard new → Rounds Hears before_this old heard new
each_hears before_this old [] new running rounds = absurd rounds
each_hears before_this old (answers ∷ []) new running rounds = (record { each = rounds.0.each; hears_them = rounds.0.hears_them running }, rounds.1)
each_hears before_this old (answers ∷ next ∷ heard) new running rounds =
    (rounds.0, record { each = rounds.1.each; hears_them = rounds.1.hears_them running }, rounds.2, each_hears (before_this ++ answers) rounds.0 (next ∷ heard) new rounds.2 rounds.3)

pub play_of : (config : SsfConfig) (delay : ℕ) (taken left rows : List ScriptRow) (heard : List (List Answer)) (given : List (ℕ × Body)) (play : Play) → left ≡ [] → taken ++ left ≡ rows
    → HearsItsRounds config delay rows heard play → LivesByItsDeeds config delay (taken ++ left) play → play.ended ≡ true → play.network.given ≡ given
    → ((call : ℕ) → IsPlayed config call given) → ((call : ℕ) → Begins (opening_item_of call taken) (items_of call given))
    → recharges_in given ≡ recharge_items_of taken → IsPlayWithout config delay rows heard given play.unplaced
play_of config delay taken left rows heard given play none all rounds lives ended gives calls begins recharges =
    let same : taken ≡ rows = sym (append-nil taken) ∙ ap (λ (l : List ScriptRow). taken ++ l) (sym none) ∙ all in
    let Is : List ScriptRow → Type 0 = λ r. IsPlayWithout config delay r heard given play.unplaced in
    let Heard : List ScriptRow → Type 0 = λ r. HearsItsRounds config delay r heard play in
    let Lives : List ScriptRow → Type 0 = λ r. LivesByItsDeeds config delay r play in
    let own = subst Heard (sym same) rounds in
    subst Is same
    (record {
      plays = record {
        play = play;
        reached = record { heard = heard; has_heard = chained [] (fresh_play config delay taken) heard play own };
        heard_are = refl;
        rounds = own;
        lives = subst Lives (all ∙ sym same) lives;
        ended = ended;
        gives = gives;
        calls = calls;
        begins = begins;
        recharges = recharges;
      };
      unplaced = refl;
    })

-- the agenda of a player is the same after a run as before it: the configuration and the delay that were asked for, and the rows of the script
pub given_by : (ask : RunAsk) (config other : SsfConfig) (delay : ℕ) (rows taken left : List ScriptRow) (heard : List (List Answer)) (given : List (ℕ × Body)) (without : List ScriptRow)
    → IsAskedFor ask config → other ≡ config → delay ≡ ask.delay → taken ++ left ≡ rows → IsPlayWithout other delay rows heard given without
    → IsGivenWithout ask (map row_data rows) heard given without
given_by ask config other delay rows taken left heard given without asked_for same after all plays =
    let Asked : SsfConfig → Type 0 = λ c. IsAskedFor ask c in
    let Plays : ℕ → Type 0 = λ d. IsPlayWithout other d rows heard given without in
    let own = subst Plays after plays in
    record { given_by = record { config = other; asked_for = subst Asked (sym same) asked_for; rows = rows; says = refl; play = own.plays }; unplaced = own.unplaced }

-- the rounds of a player, by its agenda as it is after them
pub rounds_of : (config other : SsfConfig) (delay now : ℕ) (rows : List ScriptRow) (old : Play) (heard : List (List Answer)) (new : Play) → old ≡ fresh_play config delay rows → other ≡ config → now ≡ delay
    → Rounds (λ before answers after. before.ended ≡ false → Hears before answers after) [] old heard new → HearsItsRounds other now rows heard new
rounds_of config other delay now rows old heard new is same_config same_delay rounds =
    let From : Play → Type 0 = λ p. Rounds Hears [] p heard new in
    let Its : SsfConfig → ℕ → Type 0 = λ c d. HearsItsRounds c d rows heard new in
    let running : old.ended ≡ false = ap (λ (p : Play). p.ended) is in
    let all : HearsItsRounds config delay rows heard new = subst From is (each_hears [] old heard new running rounds) in
    subst (λ c. Its c now) (sym same_config) (subst (λ d. Its config d) (sym same_delay) all)

-- what is left of a player that has ended, with the books of its run
pub played_as : (ask : RunAsk) (setup : Setup) (rows : List ScriptRow) (played : Played) (heard : List (List Answer)) (given : List (ℕ × Body)) (without : List ScriptRow) (books : List Closed)
    → played.given.items ≡ given → played.unplaced.items ≡ without → played.books.items ≡ books → IsGivenWithout ask (map row_data rows) heard given without
    → IsRun StoodIn setup ask.workers given (all_heard heard) books → (is_trace ask.output ≡ true → played.heard.items ≡ all_heard heard) → played.refusals ≡ refusals_counted_in (all_heard heard)
    → IsPlayedRun ask setup rows played
played_as ask setup rows played heard given without books gives refused comes is run kept counted =
    let Given : List (ℕ × Body) → Type 0 = λ g. IsGivenWithout ask (map row_data rows) heard g played.unplaced.items in
    let Without : List ScriptRow → Type 0 = λ w. IsGivenWithout ask (map row_data rows) heard given w in
    let Served : List (ℕ × Body) → Type 0 = λ g. IsRun StoodIn setup ask.workers g (all_heard heard) played.books.items in
    let With : List Closed → Type 0 = λ b. IsRun StoodIn setup ask.workers given (all_heard heard) b in
    let moved = subst Given (sym gives) (subst Without (sym refused) is) in
    record { heard = heard; given_by = moved.given_by; unplaced = moved.unplaced; run = subst Served (sym gives) (subst With (sym comes) run); kept = kept; counted = counted }
