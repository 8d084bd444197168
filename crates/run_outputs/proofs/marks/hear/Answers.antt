use Rattle.std.proofs.Common.{◌==◌, ◌≡◌, ◌∷◌, [], ℕ, List, Bool, true, false, refl, ap, sym, ◌∙◌}
use Rattle.std.specs.Prelude.{Option}
use Rattle.account_core.specs.Known.{deed}
use Rattle.account_core.specs.declared.entry.Reply.{Reply}
use Rattle.std.proofs.lemmas.Result.{on_ok_weaker}
use Rattle.account_core.specs.Asked.{Credits, call_of}
use Rattle.account_core.specs.Entries.{EntryData, asked_of, entry_data}
use Rattle.account_core.proofs.RisingLemmas.{kept_of}
use Rattle.run_outputs.proofs.MarkLemmas.{marks_kept}
use Rattle.run_outputs.specs.KeptRecords.{marks_in, marks_of}
use Rattle.run_outputs.proofs.marks.hear.Goals as goal

pub returns : goal.returns
returns c = on_ok_weaker c.insert.result (λ is h have other.
    let call = call_of (asked_of c.args.entry.op) in
    let before = c.marks_of.ensures ∙ ap (marks_in c.args.marks.now) c.call-call.ensures ∙ have call in
    kept_of c.args.marks.now c.insert.new.self c.call-call.result c.after-after.result other (marks_of other []) is ∙ rw c.call-call.ensures
    (marks_kept (entry_data c.args.entry) other h c.after-after.result (marks_in c.args.marks.now other) (call == other) refl (c.after-after.ensures h before) (have other))) c.insert.ensures.inserted

-- a credit is of no call
credit_marks : (seat amount : ℕ) (until : Option ℕ) (reply : Reply) (call : ℕ) (h : List EntryData) (own : Bool) → 0 == call ≡ own
    → marks_of call (record { seat = seat; asked = Credits amount until; reply = reply } ∷ h) ≡ marks_of call h
unfolding deed
credit_marks seat amount until reply call h true is = rw is refl
credit_marks seat amount until reply call h false is = rw is refl

pub returns-in-Credit : goal.returns-in-Credit
returns-in-Credit c = λ h have call.
    have call ∙ sym (rw c.in-Credit.is (credit_marks c.args.entry.seat c.in-Credit.amount c.in-Credit.until c.args.entry.reply call h (0 == call) refl))
