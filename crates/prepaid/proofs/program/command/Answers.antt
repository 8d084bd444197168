use Rattle.std.proofs.Common.{inl, inr, refl, string_bytes}
use Rattle.std.specs.Prelude.{option_map}
use Rattle.book_texts.specs.Checks.{audited_by}
use Rattle.price_core.specs.RatesOf.{rates_of}
use Rattle.table_commands.specs.Arguments.{AsksFor}
use Rattle.table_commands.specs.QuoteWishes.{quote_wish_of}
use Rattle.table_commands.specs.Wishes.{Wish, Audits, Prices, Quotes, Replays, Runs, RunsInto}
use Rattle.rating.specs.SaidOf.{rate_wish_of as rate_wish_of}
use Rattle.run_values.specs.Logs.{log_wish_of}
use Rattle.run_values.specs.Options.{ask_of, live_ask_of}
use Rattle.table_commands.specs.Answers.{price_of_input, printout_of_audit, replay_of_input}
use Rattle.table_commands.specs.Printouts.{plain}
use Rattle.prepaid.specs.Printouts.{printout_of}
use Rattle.prepaid.proofs.AnswerLemmas.{audit_of, filed_of, gives_known, helped_plainly, none_added, price_wished, quote_of, refused_words_printed, replay_wished, run_added, run_of, wished}
use Rattle.prepaid.proofs.program.command.Goals.{in-Ok-Text, in-Ok-Price, in-Ok-Replay, in-Ok-Audit, in-Ok-Quote, in-Ok-Run, in-Ok-RunInto, in-Err}
use Rattle.prepaid.proofs.program.command.Goals as goal

pub returns-clause-answers : goal.returns-clause-answers
returns-clause-answers g c =
    let known = g.I.Read.remaining c.args.input in
    let explaining = c.explains-explains.result in
    let printed = c.say.ensures.printed in
    inl (elim c.match-read_words.branch [
      | in-Ok-Text w ↦
          helped_plainly string_bytes printout_of _ _ _ _ known w.plain-ending.result.more w.plain-ending.result.answer explaining w.plain.result _
          (rw w.in-Ok-Text.field-0-is at w.in-Ok-Text.ensures) w.plain.ensures c.explains-explains.ensures w.plain-ending.ensures.answer w.plain-ending.ensures.more (rw w.ending-is at printed)
      | in-Ok-Price w ↦
          let made = w.price_input in
          let ending = w.text_ending-ending in
          let plan = rates_of w.in-Ok-Price.plan in
          wished (λ lines. plain (string_bytes lines)) _ _ _ _ known (option_map string_bytes made.result.more) made.result.answer explaining (Prices plan) (price_wished plan)
          (rw w.in-Ok-Price.field-0-is at w.in-Ok-Price.ensures) (gives_known (λ lines. plain (string_bytes lines)) known made.result.answer (price_of_input plan) made.ensures.answer)
          c.explains-explains.ensures made.ensures.more (none_added _ string_bytes (λ lines. plain (string_bytes lines)) known made.result.more made.result.answer made.ensures.nothing)
          (rw (w.ending-is, ending.ensures.answer, ending.ensures.more) at printed)
      | in-Ok-Replay w ↦
          let made = w.replay_input in
          let ending = w.text_ending-ending-in-Ok-Replay in
          let account = w.in-Ok-Replay.account in
          wished (λ lines. plain (string_bytes lines)) _ _ _ _ known (option_map string_bytes made.result.more) made.result.answer explaining (Replays account.opening account.limit)
          (replay_wished account.opening account.limit) (rw w.in-Ok-Replay.field-0-is at w.in-Ok-Replay.ensures)
          (gives_known (λ lines. plain (string_bytes lines)) known made.result.answer (replay_of_input account.opening account.limit) made.ensures.answer)
          c.explains-explains.ensures made.ensures.more (none_added _ string_bytes (λ lines. plain (string_bytes lines)) known made.result.more made.result.answer made.ensures.nothing)
          (rw (w.ending-is, ending.ensures.answer, ending.ensures.more) at printed)
      | in-Ok-Audit w ↦
          let made = w.audit_input in
          let ending = w.audit_ending-ending in
          let ask = w.in-Ok-Audit.ask in
          wished (λ audit. printout_of_audit (audited_by audit)) _ _ _ _ known (option_map string_bytes made.result.more) made.result.answer explaining (Audits ask) (audit_of ask)
          (rw w.in-Ok-Audit.field-0-is at w.in-Ok-Audit.ensures) made.ensures.answer c.explains-explains.ensures made.ensures.more
          (none_added _ string_bytes (λ audit. printout_of_audit (audited_by audit)) known made.result.more made.result.answer made.ensures.nothing)
          (rw (w.ending-is, ending.ensures.answer, ending.ensures.more) at printed)
      | in-Ok-Quote w ↦
          let made = w.quote_input in
          let ending = w.text_ending-ending-in-Ok-Quote in
          let wish = quote_wish_of w.in-Ok-Quote.ask in
          wished (λ lines. plain (string_bytes lines)) _ _ _ _ known (option_map string_bytes made.result.more) made.result.answer explaining (Quotes wish) (quote_of wish)
          (rw w.in-Ok-Quote.field-0-is at w.in-Ok-Quote.ensures) made.ensures.answer c.explains-explains.ensures made.ensures.more
          (none_added _ string_bytes (λ lines. plain (string_bytes lines)) known made.result.more made.result.answer made.ensures.nothing)
          (rw (w.ending-is, ending.ensures.answer, ending.ensures.more) at printed)
      | in-Ok-Run w ↦
          let ending = w.run_input-ending in
          let wish : Wish = Runs (ask_of w.in-Ok-Run.options) in
          let asked : AsksFor _ wish = rw w.in-Ok-Run.field-0-is at w.in-Ok-Run.ensures in
          wished printout_of _ _ _ _ known (option_map string_bytes ending.result.more) ending.result.answer explaining wish (run_of (ask_of w.in-Ok-Run.options)) asked
          ending.ensures.answer c.explains-explains.ensures ending.ensures.more
          (run_added _ string_bytes printout_of known ending.result.more ending.result.answer wish asked refl ending.ensures.behind) (rw w.ending-is at printed)
      | in-Ok-RunInto w ↦
          let ending = w.run_input_into-ending in
          let folder = w.in-Ok-RunInto.folder.now in
          let wish : Wish = RunsInto (ask_of w.in-Ok-RunInto.options) folder in
          let asked : AsksFor _ wish = rw w.in-Ok-RunInto.field-0-is at w.in-Ok-RunInto.ensures in
          wished printout_of _ _ _ _ known (option_map string_bytes ending.result.more) ending.result.answer explaining wish (filed_of (ask_of w.in-Ok-RunInto.options) folder) asked
          ending.ensures.answer c.explains-explains.ensures ending.ensures.more
          (run_added _ string_bytes printout_of known ending.result.more ending.result.answer wish asked refl ending.ensures.behind) (rw w.ending-is at printed)
      | in-Err w ↦
          let ending = w.of_words-ending in
          refused_words_printed string_bytes printout_of _ _ _ _ known ending.result.more ending.result.answer explaining w.in-Err.why
          w.in-Err.ensures ending.ensures.answer c.explains-explains.ensures ending.ensures.only ending.ensures.words (rw w.ending-is at printed)
    ])

pub returns-in-Ok-Rate-clause-answers : goal.returns-in-Ok-Rate-clause-answers
returns-in-Ok-Rate-clause-answers g c = inr (inl (record {
  wish = rate_wish_of c.in-Ok-Rate.ask;
  asked = rw c.in-Ok-Rate.field-0-is at c.in-Ok-Rate.ensures;
  rated = rw c.explains-explains.ensures at c.rate_input.ensures.rated;
}))

pub returns-in-Ok-Serve-clause-answers : goal.returns-in-Ok-Serve-clause-answers
returns-in-Ok-Serve-clause-answers g c = inr (inr (record {
  ask = live_ask_of c.in-Ok-Serve.options;
  log = option_map log_wish_of c.in-Ok-Serve.log;
  asked = rw c.in-Ok-Serve.field-0-is at c.in-Ok-Serve.ensures;
  served = rw c.explains-explains.ensures at c.serve_messages.ensures.served;
}))
