-- From what clap says of the words to what they ask for.
use Rattle.std.proofs.Common.{◌≡◌, true, List, [], Option, Result, Ok, Err, refl, ap, sym, ◌∙◌, subst, inl, inr}
use Rattle.std.specs.Prelude.{◌⊎◌, IfOk}
use Rattle.clap.proofs.OnLiterals.{clap_on_literals}
use Rattle.std.proofs.lemmas.Result.{IfOk-weaker}
use Rattle.clap.specs.Words.{App, FailsBy, HasMatchesOf, IsAmong, Row, Text, fault_of, is_simple, is_simple_and_free, subcommand_rows_of}
use Rattle.clap.specs.declared.error.kind.ErrorKind.{ErrorKind}
use Rattle.clap.specs.declared.error.kind.ErrorKind.TheVariants as kind
use Rattle.clap.specs.declared.error.Error.{Error}
use Rattle.clap.specs.declared.parser.matches.ArgMatches.{ArgMatches}
use Rattle.table_commands.specs.Arguments.{IsRead, IsClapRefusal, IsRequestOf, wish_in}
use Rattle.table_commands.specs.CommandLine.{audit_app, command_in, errors_in, price_app, program_app, quote_app, rate_app, replay_app, run_app, serve_app}
use Rattle.table_commands.specs.declared.request.Request.{Request}
use Rattle.table_commands.specs.declared.request.Request.TheVariants as request
use Rattle.table_commands.specs.declared.words_fault.WordsFault.{WordsFault}
use Rattle.table_commands.specs.declared.words_fault.WordsFault.TheVariants as fault

-- the program's command line is one of which clap says the matches and the errors
pub program_is_simple : is_simple program_app ≡ true
unfolding clap_on_literals program_app price_app replay_app run_app audit_app quote_app rate_app serve_app
program_is_simple = refl

pub program_is_free : is_simple_and_free program_app ≡ true
unfolding clap_on_literals program_app price_app replay_app run_app audit_app quote_app rate_app serve_app
program_is_free = refl

-- words that clap refuses ask for help, for the version or for nothing
refused_by : (words : List Text) (error : ErrorKind) (read : Result Request WordsFault) → IsAmong error (errors_in words) → IsClapRefusal error read → IsRead words read
refused_by words error (Ok (request.Text text)) among (inl is) = inl (rw is at among)
refused_by words error (Ok (request.Text text)) among (inr is) = inr (rw is at among)
refused_by words error (Ok (request.Price plan)) among is = absurd is
refused_by words error (Ok (request.Replay account)) among is = absurd is
refused_by words error (Ok (request.Run options)) among is = absurd is
refused_by words error (Ok (request.RunInto options folder)) among is = absurd is
refused_by words error (Ok (request.Audit size)) among is = absurd is
refused_by words error (Ok (request.Quote ask)) among is = absurd is
refused_by words error (Ok (request.Rate ask)) among is = absurd is
refused_by words error (Ok (request.Serve options log)) among is = absurd is
refused_by words error (Err fault.Arguments) among is = inl (error, among, is.0)
refused_by words error (Err fault.OutOfMemory) among is = tt
refused_by words error (Err fault.Config) among is = absurd is

refused_for_memory : (words : List Text) (error : ErrorKind) (read : Result Request WordsFault) → error ≡ kind.OutOfMemory → IsClapRefusal error read → IsRead words read
refused_for_memory words error (Ok (request.Text text)) memory (inl is) = let no : kind.OutOfMemory ≡ kind.DisplayHelp = sym memory ∙ is in cc
refused_for_memory words error (Ok (request.Text text)) memory (inr is) = let no : kind.OutOfMemory ≡ kind.DisplayVersion = sym memory ∙ is in cc
refused_for_memory words error (Ok (request.Price plan)) memory is = absurd is
refused_for_memory words error (Ok (request.Replay account)) memory is = absurd is
refused_for_memory words error (Ok (request.Run options)) memory is = absurd is
refused_for_memory words error (Ok (request.RunInto options folder)) memory is = absurd is
refused_for_memory words error (Ok (request.Audit size)) memory is = absurd is
refused_for_memory words error (Ok (request.Quote ask)) memory is = absurd is
refused_for_memory words error (Ok (request.Rate ask)) memory is = absurd is
refused_for_memory words error (Ok (request.Serve options log)) memory is = absurd is
refused_for_memory words error (Err fault.Arguments) memory is = absurd (is.1 memory)
refused_for_memory words error (Err fault.OutOfMemory) memory is = tt
refused_for_memory words error (Err fault.Config) memory is = absurd is

pub refusal_read : (words : List Text) (error : ErrorKind) (read : Result Request WordsFault) → (error ≡ kind.OutOfMemory) ⊎ IsAmong error (errors_in words) → IsClapRefusal error read
    → IsRead words read
refusal_read words error read (inl memory) is = refused_for_memory words error read memory is
refusal_read words error read (inr among) is = refused_by words error read among is

-- words that clap takes ask for what their command says, if its options say it
pub asked_read : (words : List Text) (command : Option (Text × List Row)) (asked : Result Request WordsFault) → errors_in words ≡ [] → command ≡ command_in words
    → IsRequestOf (wish_in command) asked → IsRead words asked
asked_read words command (Ok (request.Text text)) parsed command_is is = absurd is
asked_read words command (Ok (request.Price plan)) parsed command_is is = record { parsed = parsed; wish_is = sym (ap wish_in command_is) ∙ is }
asked_read words command (Ok (request.Replay account)) parsed command_is is = record { parsed = parsed; wish_is = sym (ap wish_in command_is) ∙ is }
asked_read words command (Ok (request.Run options)) parsed command_is is = record { parsed = parsed; wish_is = sym (ap wish_in command_is) ∙ is }
asked_read words command (Ok (request.RunInto options folder)) parsed command_is is = record { parsed = parsed; wish_is = sym (ap wish_in command_is) ∙ is }
asked_read words command (Ok (request.Audit size)) parsed command_is is = record { parsed = parsed; wish_is = sym (ap wish_in command_is) ∙ is }
asked_read words command (Ok (request.Quote ask)) parsed command_is is = record { parsed = parsed; wish_is = sym (ap wish_in command_is) ∙ is }
asked_read words command (Ok (request.Rate ask)) parsed command_is is = record { parsed = parsed; wish_is = sym (ap wish_in command_is) ∙ is }
asked_read words command (Ok (request.Serve options log)) parsed command_is is = record { parsed = parsed; wish_is = sym (ap wish_in command_is) ∙ is }
asked_read words command (Err fault.Arguments) parsed command_is is = inr (record { parsed = parsed; refused = sym (ap wish_in command_is) ∙ is })
asked_read words command (Err fault.OutOfMemory) parsed command_is is = absurd is
asked_read words command (Err fault.Config) parsed command_is is = record { parsed = parsed; refused = sym (ap wish_in command_is) ∙ is }

-- `app` is the program's command line, of which clap says its errors and its matches
module _ (app : App) (words : List Text) (parsed : Result ArgMatches Error) where
  pub command_parsed : app ≡ program_app → IfOk parsed (HasMatchesOf app words) → IfOk parsed (λ matches. subcommand_rows_of matches ≡ command_in words)
  unfolding command_in
  command_parsed app_is = IfOk-weaker parsed _ _ (λ matches has. (subst (λ (a : App). HasMatchesOf a words matches) app_is has program_is_simple).1)

  pub kinds_parsed : app ≡ program_app → (is_simple_and_free app ≡ true → FailsBy (fault_of app words) parsed) → FailsBy (errors_in words) parsed
  unfolding errors_in
  kinds_parsed app_is fails = subst (λ (a : App). is_simple_and_free a ≡ true → FailsBy (fault_of a words) parsed) app_is fails program_is_free
