use Rattle.std.proofs.Common.{refl, string_bytes}
use Rattle.book_texts.specs.AskingOf.{asking_of}
use Rattle.book_texts.proofs.ReplayLemmas.{answer_taken}
use Rattle.book_texts.proofs.replaying.ReplayingTakeRow.take.Goals as goal

pub returns : goal.returns
returns c = λ terms rows asks (ledger, is, was).
    let says = rw c.of_header.ensures at c.in_ok-ask.ensures in
    let answers = c.apply.ensures in
    answer_taken terms.0 terms.1 _ c.apply.new.self (string_bytes c.args.self.now.text) _ ledger asks (asking_of c.in_ok-ask.ask) c.apply.result is was c.write_answer.result _
    (rw (← says) refl)
    c.write_answer.ensures.line c.write_answer.ensures.known c.write_answer.ensures.fault answers.answered answers.admitted answers.refused answers.entered answers.kept
