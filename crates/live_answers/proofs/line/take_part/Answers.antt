use Rattle.std.proofs.Common.{◌≡◌, ◌≢◌, ◌<◌, ◌≤◌, ◌-◌, ◌++◌, ℕ, List, [], All, take, sym, ap, subst, ◌∙◌, arith, eq-eqb, eqb-true, true≢false, get_or, get_or-take, length}
use Rattle.std.proofs.lemmas.List.{append-nil, length-take-le, take_all}
use Rattle.std.proofs.BufReadLemmas.{Consumes_shown, zero_unless_positive}
use Rattle.std.proofs.KnownBytes.{Consumes-kept, Consumes-nil}
use Rattle.std.proofs.Transfers.{StopsAt-take}
use Rattle.std.proofs.lemmas.List.Elements.{All-more, All-nil}
use Rattle.std.specs.Io.BufRead.{DropsConsumable, FillKeeps}
use Rattle.live_answers.proofs.LineLemmas.{cut_twice}
use Rattle.live_answers.proofs.line.take_part.Goals.{then-end-eq0, else-end-eq0}
use Rattle.live_answers.proofs.line.take_part.Goals as goal

-- facts on a place alone, where `omega` has little to read

one_before : (end : ℕ) → end ≢ 0 → end - 1 < end
one_before end some = omega (arith, some)

not_none : (end many : ℕ) → 0 < many → many ≡ end → end ≡ 0 → ⊥
not_none end many some same none = omega (arith, some, same, none)

without_end : (shown : List ℕ) (end : ℕ) → end ≤ length shown → end ≢ 0 → All (λ byte. byte ≢ 10) (take (end - 1) shown) → get_or shown (end - 1) 0 ≢ 10
    → All (λ byte. byte ≢ 10) (take end shown)
without_end shown end bound some before last =
    subst (λ k. All (λ byte. byte ≢ 10) (take k shown)) (omega (arith, some)) (All-more (λ byte. byte ≢ 10) shown (end - 1) 0 (omega (arith, some, bound)) before last)

pub returns-in-Err-clause-takes : goal.returns-in-Err-clause-takes
returns-in-Err-clause-takes g c = (
  [],
  sym (ap (λ l. c.args.line.now.items ++ l) (take_all (4097 - length c.args.line.now.items) [] (omega arith)) ∙ append-nil c.args.line.now.items),
  All-nil (λ byte. byte ≢ 10),
  Consumes-kept _ _ _ [] (Consumes-nil _) c.fill_buf.follows.holds-at-none.0,
  λ _. All-nil (λ byte. byte ≢ 10),
  λ whole. absurd (true≢false (sym whole)),
  λ whole. absurd (true≢false (sym whole)),
)

pub returns-clause-takes : goal.returns-clause-takes
returns-clause-takes g c =
    let shown = c.in-Ok.shown.now in
    let end = c.end_of_line-end in
    let room = 4097 - length c.args.line.now.items in
    let cut = cut_twice c.min.result end.result room shown (omega (arith, c.min.ensures, c.len.ensures, c.args.line.now.ok)) in
    let long = length-take-le end.result shown end.ensures.bound in
    let rested = c.fill_buf.follows.lender-at-none in
    let same : c.if-end-eq0.input ≡ rested = elim c.if-end-eq0.branch [ then-end-eq0 w ↦ w.input-is | else-end-eq0 w ↦ w.input-is ] in
    let filled = subst (FillKeeps _ (g.I.Read.remaining rested) (g.I.BufRead.consumable_len rested)) c.in-Ok.is c.fill_buf.follows.holds-at-none in
    let drops = subst (λ r. DropsConsumable (g.I.Read.remaining r) (g.I.Read.remaining c.consume.new.self) (g.I.BufRead.consumable_len r) end.result) same c.consume.ensures.bytes in
    let moved = Consumes_shown _ _ _ _ shown end.result end.ensures.bound c.in-Ok.ensures.front c.in-Ok.ensures.end filled.0 filled.1 drops in (
      take end.result shown,
      c.in_ok-extend_from_slice.ensures.items ∙ ap (λ l. c.args.line.now.items ++ l) cut,
      StopsAt-take _ _ _ end.ensures.bound end.ensures.before,
      moved.0,
      λ more. elim c.if-end-eq0.branch [
        | then-end-eq0 w ↦ absurd (more (w.whole-is ∙ eq-eqb _ _ w.if-end-eq0.true))
        | else-end-eq0 w ↦ without_end shown end.result end.ensures.bound w.if-end-eq0.false end.ensures.before (λ e. more (w.whole-is ∙ eq-eqb _ _ e))
      ],
      λ whole some. elim c.if-end-eq0.branch [
        | then-end-eq0 w ↦ absurd (not_none _ _ some long w.if-end-eq0.true)
        | else-end-eq0 w ↦ ap (λ n. get_or (take end.result shown) (n - 1) 0) long
            ∙ get_or-take end.result shown (end.result - 1) 0 (one_before _ w.if-end-eq0.false) ∙ eqb-true _ _ (sym w.whole-is ∙ whole)
      ],
      λ _ none. moved.1 (zero_unless_positive _ _ end.ensures.some (sym long ∙ none)),
    )
