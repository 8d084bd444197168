use Rattle.std.proofs.Common.{◌≡◌, [], ◌∷◌, ◌++◌, Some, refl, sym, ap, ◌∙◌}
use Rattle.std.proofs.lemmas.List.{append-nil}
use Rattle.std.specs.BTreeMap.{get}
use Rattle.std.specs.Map.{keys_of}
use Rattle.std.specs.Ordering.{nat_cmp}
use Rattle.std.specs.Prelude.{is_some}
use Rattle.run_outputs.proofs.RecordLemmas.{calls_more, holds_next, moved, no_records, records_more, started}
use Rattle.run_outputs.proofs.recording.list.Goals as goal

pub loop-call-init : goal.loop-call-init
loop-call-init c = (
  [],
  c.into_iter-call-iterator.ensures.into_iter_gives ∙ c.iter-call-items.ensures.rest,
  rw c.new-records.ensures.items refl,
  λ run setup starts reports accounts. rw c.new-records.ensures.items (no_records run),
)

pub loop-call-preserved : goal.loop-call-preserved
loop-call-preserved c =
    let (done, split, calls, each) = c.loop-call.invariant in
    let call = c.in-Some.call.now in
    let start = c.in-Some.start.now in
    let made = c.in_ok-record.record in
    let entries = c.args.starts.now.entries in
    let here : get nat_cmp c.args.starts.now call ≡ Some start =
    holds_next (λ e. get nat_cmp c.args.starts.now e.0 ≡ Some e.1) done c.loop-call.call-iterator c.next.new.self entries (call, start) split c.in-Some.ensures.steps c.iter-call-items.ensures.found in (
      done ++ (call, start) ∷ [],
      moved done c.loop-call.call-iterator c.next.new.self entries (call, start) split c.in-Some.ensures.steps,
      rw c.in_ok-push.ensures.items (calls_more c.loop-call.records.items done made call start calls c.in_ok-record.ensures.call),
      λ run setup starts reports accounts. rw c.in_ok-push.ensures.items (records_more run c.loop-call.records.items made (each run setup starts reports accounts) (record {
        start = start;
        begins = rw c.in_ok-record.ensures.call (sym (starts call) ∙ here);
        from = c.in_ok-record.ensures.from run setup c.account_of-account.ensures (c.reports_of-reports.ensures ∙ reports call) (c.standing_in-standing.ensures run.books accounts);
      })),
    )

pub returns : goal.returns
returns c = λ run setup starts reports accounts.
    let (done, split, calls, each) = c.loop-call.invariant in
    let all : done ≡ c.args.starts.now.entries = sym (append-nil done) ∙ ap (λ l. done ++ l) (sym c.in-None.ensures.steps.0) ∙ split in
    let are = calls ∙ ap keys_of all in
    record {
      ascending = rw are c.iter-call-items.ensures.ordered;
      started = λ call. rw are (sym (ap is_some (starts call)) ∙ started call c.args.starts.now.entries);
      each = each run setup starts reports accounts;
    }
