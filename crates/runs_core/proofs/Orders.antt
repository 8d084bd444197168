-- Each step of a mailbox keeps its rule.
use Rattle.std.proofs.Common.{◌≡◌, ◌≢◌, ℕ, zero, suc, true, false, true≢false, List, [], ◌∷◌, ◌++◌, length, set, sym, refl, ap, ◌∙◌, subst, ⊎_elim, append_assoc}
use mathlib.Core.Option.{some, some-injective, some-ne-none}
use lib.ListN.{get_elem?}
use Rattle.atomic_table.proofs.Lists.{at_set, at_snoc}
use Rattle.crossbeam_channel.specs.Fifo.{Forks, Merges, Pops, Pushes}
use Rattle.runs_core.proofs.Closes.{none_before, still_ends}
use Rattle.runs_core.specs.Logs.{Delivered, FitsLog, ends_at_close, has_close, log}
use Rattle.runs_core.specs.declared.mailboxes.Log.{Log}
use Rattle.runs_core.specs.declared.mailboxes.Mail.{Mail}

-- a fact of each view in the list of views
abbrev Each : {T : Type 0} → (ℕ → Log T → Type 0) → List (Log T) → Type 0
Each {T} Fact views = (pass : ℕ) (v : Log T) → get_elem? views pass ≡ some v → Fact pass v

-- the fact stays where one view is renewed
renewed : {T : Type 0} (Fact : ℕ → Log T → Type 0) (views : List (Log T)) (pass : ℕ) (w : Log T) → Fact pass w
    → ((j : ℕ) (u : Log T) → j ≢ pass → get_elem? views j ≡ some u → Fact j u) → Each Fact (set views pass w)
renewed {T} Fact views pass w mine others j u here =
    ⊎_elim (λ (same : (j ≡ pass) × (w ≡ u)). subst (λ (at : ℕ × Log T). Fact at.0 at.1) (λ i. (sym same.0 i, same.1 i)) mine)
    (λ (other : (j ≢ pass) × (get_elem? views j ≡ some u)). others j u other.0 other.1) (at_set views pass j w u here)

-- a view that is new at the end is there
last_place : {T : Type 0} (views : List (Log T)) (v u : Log T) (j : ℕ) → get_elem? views j ≢ some u → get_elem? (views ++ v ∷ []) j ≡ some u → j ≡ length views
last_place [] v u zero absent here = refl
last_place [] v u (suc j) absent here = absurd (some-ne-none u (sym here))
last_place (first ∷ views) v u zero absent here = absurd (absent here)
last_place (first ∷ views) v u (suc j) absent here = ap suc (last_place views v u j absent here)

-- the only view is the first
the_only : {T : Type 0} (Fact : ℕ → Log T → Type 0) (v : Log T) → Fact 0 v → Each Fact (v ∷ [])
the_only Fact v fact zero u here = subst (Fact 0) (some-injective v u here) fact
the_only Fact v fact (suc j) u here = absurd (some-ne-none u (sym here))

-- the rule of an empty mailbox
pub begins : {T : Type 0} → Delivered {T = T} [] (log true true [] [] ∷ [])
begins {T} = record {
  sender = 0;
  taker = 0;
  sent = [];
  taken = [];
  in_order = refl;
  closes = refl;
  each = the_only (FitsLog {T = T} 0 0 [] []) (log true true [] []) ((λ _. (refl, refl)), λ _. (refl, refl));
}

-- a mail is sent, where no Close was
pub sends : {T : Type 0} (room pass : ℕ) (v : Log T) (mail : Mail T) → v.sends ≡ true → has_close v.sent ≡ false
    → Pushes Delivered room pass v mail (λ w. w ≡ log v.sends v.takes (v.sent ++ mail ∷ []) v.taken)
sends {T} room pass v mail may open_yet items views _ rule here =
    let w : Log T = log v.sends v.takes (v.sent ++ mail ∷ []) v.taken in
    let mine = rule.each pass v here in
    let all : v.sent ≡ rule.sent = (mine.0 may).1 in
    let more = rule.sent ++ mail ∷ [] in (
      w,
      record {
        sender = rule.sender;
        taker = rule.taker;
        sent = more;
        taken = rule.taken;
        in_order = ap (λ mails. mails ++ mail ∷ []) rule.in_order ∙ append_assoc rule.taken items (mail ∷ []);
        closes = still_ends rule.sent mail (subst (λ mails. has_close mails ≡ false) all open_yet);
        each = renewed (FitsLog rule.sender rule.taker more rule.taken) views pass w
            ((λ _. ((mine.0 may).0, ap (λ mails. mails ++ mail ∷ []) all)), mine.1)
            (λ j u other at. ((λ s. absurd (other (((rule.each j u at).0 s).0 ∙ sym (mine.0 may).0))), (rule.each j u at).1));
      },
      refl,
    )

-- the first mail is taken, and no Close was before
pub takes : {T : Type 0} (pass : ℕ) (v : Log T) → v.takes ≡ true
    → Pops Delivered pass v (λ mail w. (w ≡ log v.sends v.takes v.sent (v.taken ++ mail ∷ [])) × (has_close v.taken ≡ false))
takes {T} pass v may mail items views rule here =
    let w : Log T = log v.sends v.takes v.sent (v.taken ++ mail ∷ []) in
    let mine = rule.each pass v here in
    let all : v.taken ≡ rule.taken = (mine.1 may).1 in
    let more = rule.taken ++ mail ∷ [] in
    let none : has_close rule.taken ≡ false = none_before rule.taken mail items (subst (λ mails. ends_at_close mails ≡ true) rule.in_order rule.closes) in (
      w,
      record {
        sender = rule.sender;
        taker = rule.taker;
        sent = rule.sent;
        taken = more;
        in_order = rule.in_order ∙ sym (append_assoc rule.taken (mail ∷ []) items);
        closes = rule.closes;
        each = renewed (FitsLog rule.sender rule.taker rule.sent more) views pass w
            (mine.0, λ _. ((mine.1 may).0, ap (λ mails. mails ++ mail ∷ []) all))
            (λ j u other at. ((rule.each j u at).0, λ t. absurd (other (((rule.each j u at).1 t).0 ∙ sym (mine.1 may).0))));
      },
      (refl, subst (λ mails. has_close mails ≡ false) (sym all) none),
    )

-- one end becomes two: the first sends and the second takes
pub parts : {T : Type 0} (pass : ℕ) (v : Log T) → v.sends ≡ true → v.takes ≡ true → Forks Delivered pass v (log true false v.sent []) (log false true [] v.taken)
parts {T} pass v sending taking items views rule here =
    let left : Log T = log true false v.sent [] in
    let right : Log T = log false true [] v.taken in
    let mine = rule.each pass v here in
    let views' : List (Log T) = set views pass left in
    let Kept : ℕ → Log T → Type 0 = λ j u. (u.sends ≡ true → (j ≡ rule.sender) × (u.sent ≡ rule.sent)) × (u.takes ≢ true) in
    let kept : Each Kept views' = renewed Kept views pass left ((λ _. mine.0 sending), λ t. true≢false (sym t))
    (λ j u other at. ((rule.each j u at).0, λ t. other (((rule.each j u at).1 t).0 ∙ sym (mine.1 taking).0))) in
    record {
      sender = rule.sender;
      taker = length views';
      sent = rule.sent;
      taken = rule.taken;
      in_order = rule.in_order;
      closes = rule.closes;
      each = λ j u at. ⊎_elim (λ old. ((kept j u old).0, λ t. absurd ((kept j u old).1 t)))
          (λ (new : right ≡ u). (
            (λ s. absurd (true≢false (sym (ap (λ (x : Log T). x.sends) new ∙ s)))),
            λ t. (last_place views' right u j (λ old. (kept j u old).1 t) at, ap (λ (x : Log T). x.taken) (sym new) ∙ (mine.1 taking).1),
          )) (at_snoc views' right u j at);
    }

-- two ends become one
pub rejoins : {T : Type 0} (pass : ℕ) (v : Log T) (other : ℕ) (u : Log T) → v.sends ≡ true → u.takes ≡ true
    → Merges Delivered pass v other u (log true true v.sent u.taken) (log false false [] [])
rejoins {T} pass v other u sending taking items views rule here apart there =
    let both : Log T = log true true v.sent u.taken in
    let mine = rule.each pass v here in
    let views' : List (Log T) = set views pass both in
    let before : get_elem? views other ≡ some u = ⊎_elim (λ same. absurd (apart same.0)) (λ old. old.1) (at_set views pass other both u there) in
    let theirs = (rule.each other u before).1 taking in
    let Kept : ℕ → Log T → Type 0 = λ j x. j ≢ other → FitsLog rule.sender pass rule.sent rule.taken j x in
    let kept : Each Kept views' = renewed Kept views pass both (λ _. ((λ _. mine.0 sending), λ _. (refl, theirs.1)))
    (λ j x _ at away. ((rule.each j x at).0, λ t. absurd (away (((rule.each j x at).1 t).0 ∙ sym theirs.0)))) in
    record {
      sender = rule.sender;
      taker = pass;
      sent = rule.sent;
      taken = rule.taken;
      in_order = rule.in_order;
      closes = rule.closes;
      each = renewed (FitsLog rule.sender pass rule.sent rule.taken) views' other (log false false [] [])
          ((λ s. absurd (true≢false (sym s))), λ t. absurd (true≢false (sym t))) (λ j x away at. kept j x at away);
    }
