use Rattle.std.proofs.Common.{rules, sym}
use Rattle.std.proofs.lemmas.List.Sorted.{answers_always}
use Rattle.run_values.proofs.Placing.{first_at, found_at, missing_from, never_fall, nowhere}
use Rattle.run_values.proofs.setup.RunSetup.place_of.Goals as goal

pub returns-in-Ok-clause-found : goal.returns-in-Ok-clause-found
returns-in-Ok-clause-found c =
    let position = c.in-Ok.ensures.position (λ entry. entry.0) (answers_always _ _ _ (λ f a r g called. search rules)) in
    rw (← c.self.view_is, ← c.deref.ensures.value) (found_at _ c.args.account c.in-Ok.place position)

pub returns-in-Err-clause-missing : goal.returns-in-Err-clause-missing
returns-in-Err-clause-missing c =
    let position = c.in-Err.ensures.position (λ entry. entry.0) (answers_always _ _ _ (λ f a r g called. search rules)) in
    rw (← c.self.view_is, ← c.deref.ensures.value) (missing_from _ c.args.account c.in-Err.field-0 (never_fall _ (rw c.deref.ensures.value c.self.invariant.0)) position)

pub returns-in-Ok-clause-place : goal.returns-in-Ok-clause-place
returns-in-Ok-clause-place c =
    let position = c.in-Ok.ensures.position (λ entry. entry.0) (answers_always _ _ _ (λ f a r g called. search rules)) in
    let found = found_at _ c.args.account c.in-Ok.place position in
    rw (← c.self.view_is)
    (sym (first_at c.self.inside.accounts.items c.args.account c.in-Ok.place c.self.invariant.0 (rw c.deref.ensures.value at c.in-Ok.ensures.bound) (rw c.deref.ensures.value at found)))

pub returns-in-Err-clause-place : goal.returns-in-Err-clause-place
returns-in-Err-clause-place c =
    let position = c.in-Err.ensures.position (λ entry. entry.0) (answers_always _ _ _ (λ f a r g called. search rules)) in
    let none = missing_from _ c.args.account c.in-Err.field-0 (never_fall _ (rw c.deref.ensures.value c.self.invariant.0)) position in
    rw (← c.self.view_is) (sym (nowhere c.self.inside.accounts.items c.args.account (rw c.deref.ensures.value at none)))
