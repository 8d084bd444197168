-- The timers of a gsmSSF run in one way.
use Rattle.std.proofs.Common.{◌≡◌, ◌≤◌, ◌<◌, ◌++◌, ◌⊎◌, inl, inr, ℕ, Some, List, [], ◌∷◌, refl, sym, ap, subst, ◌∙◌, append_assoc, append-nil, arith}
use Rattle.part_laws.proofs.RoundMoments.{not_later}
use Rattle.part_laws.specs.OneWay.{TimersRunOneWay}
use Rattle.ssf_core.specs.Calls.{AreExpiries, IsExpiry}
use Rattle.ssf_core.specs.Happenings.{Expired, Happening, Took, What}
use Rattle.ssf_core.specs.Quantities.{last_happening_moment}
use Rattle.ssf_core.specs.Rules.{on_expiry}
use Rattle.ssf_core.specs.Traces.{ComesBefore, HasEffect, IsTrace, MayFollow, due, phase_after, rank}
use Rattle.ssf_core.specs.declared.config.SsfConfig.{SsfConfig}
use Rattle.ssf_core.specs.declared.item.Item.{Item}

-- timers of one rank are the same
same_timer : (one other : _) → rank one ≡ rank other → one ≡ other
same_timer one other same = grind (arith, same)

module _ (config : SsfConfig) where
  -- ---- what expires next

  abbrev happens : ℕ → What → List Item → Happening
  happens at what sent = record { at = at; what = what; sent = sent }

  not_higher : (one other : ℕ) (timer its : _) → one ≡ other → ComesBefore one (Expired timer) other its → rank timer ≤ rank its
  not_higher one other timer its same (inl earlier) = absurd (omega (arith, earlier, same))
  not_higher one other timer its same (inr now) = now.1

  same_expiry : (trace : List Happening) (at moment : ℕ) (timer its : _) (sent items : List Item) → MayFollow config trace (happens at (Expired timer) sent)
      → MayFollow config trace (happens moment (Expired its) items) → happens at (Expired timer) sent ≡ happens moment (Expired its) items
  same_expiry trace at moment timer its sent items may too =
      let before = may.none_missed its moment too.has_effect.0 in
      let after = too.none_missed timer at may.has_effect.0 in
      let same : at ≡ moment = omega (arith, not_later at moment timer its before, not_later moment at its timer after) in
      let ranks : rank timer ≡ rank its = omega (arith, not_higher at moment timer its same before, not_higher moment at its timer (sym same) after) in
      let alike : timer ≡ its = same_timer timer its ranks in
      let said : sent ≡ items = may.has_effect.1 ∙ ap (λ (a : ℕ). (on_expiry config.default_handling trace (phase_after config trace) a timer).sent) same
      ∙ ap (λ (t : _). (on_expiry config.default_handling trace (phase_after config trace) moment t).sent) alike ∙ sym too.has_effect.1 in
      rw (same, alike, said) refl

  same_next : (trace : List Happening) (one other : Happening) → IsExpiry one.what → IsExpiry other.what → MayFollow config trace one → MayFollow config trace other → one ≡ other
  same_next trace one other expiry its may too = by_what one.what other.what refl refl expiry its
    where
      by_what : (what said : What) → one.what ≡ what → other.what ≡ said → IsExpiry what → IsExpiry said → one ≡ other
      by_what (Took input) said is is_too expiry its = absurd expiry
      by_what (Expired timer) (Took input) is is_too expiry its = absurd its
      by_what (Expired timer) (Expired its_timer) is is_too expiry its =
          let first : one ≡ happens one.at (Expired timer) one.sent = ap (λ (w : What). happens one.at w one.sent) is in
          let second : other ≡ happens other.at (Expired its_timer) other.sent = ap (λ (w : What). happens other.at w other.sent) is_too in
          first ∙ same_expiry trace one.at other.at timer its_timer one.sent other.sent (subst (MayFollow config trace) first may) (subst (MayFollow config trace) second too) ∙ sym second

  -- ---- of two ways one begins the other

  ends_of : (xs : List Happening) → (xs ≡ []) ⊎ ((front : List Happening) × (last : Happening) × (xs ≡ front ++ last ∷ []))
  ends_of [] = inl refl
  ends_of (x ∷ xs) = after (ends_of xs)
    where
      after : (xs ≡ []) ⊎ ((front : List Happening) × (last : Happening) × (xs ≡ front ++ last ∷ []))
          → (x ∷ xs ≡ []) ⊎ ((front : List Happening) × (last : Happening) × (x ∷ xs ≡ front ++ last ∷ []))
      after (inl none) = inr ([], x, ap (λ l. x ∷ l) none)
      after (inr some) = inr (x ∷ some.0, some.1, ap (λ l. x ∷ l) some.2)

  -- what has run from a trace
  pub record HasGone (trace fired : List Happening) : Type 0 where
    pub expiries : AreExpiries fired
    pub is_trace : IsTrace config (fired ++ trace)

  gone_before : (trace more fired : List Happening) → HasGone trace (more ++ fired) → HasGone trace fired
  gone_before trace [] fired gone = gone
  gone_before trace (e ∷ more) fired gone = gone_before trace more fired (record { expiries = gone.expiries.0; is_trace = gone.is_trace.0 })

  abbrev Compare : List Happening → List Happening → Type 0
  Compare fired others = ((more : List Happening) × (fired ≡ more ++ others)) ⊎ ((more : List Happening) × (others ≡ more ++ fired))

  longer : (trace : List Happening) (e : Happening) (fired others : List Happening) → HasGone trace (e ∷ fired) → HasGone trace others → Compare fired others → Compare (e ∷ fired) others
  longer trace e fired others gone too (inl longest) = inl (e ∷ longest.0, ap (λ l. e ∷ l) longest.1)
  longer trace e fired others gone too (inr shorter) = by_end (ends_of shorter.0)
    where
      by_end : (shorter.0 ≡ []) ⊎ ((front : List Happening) × (last : Happening) × (shorter.0 ≡ front ++ last ∷ [])) → Compare (e ∷ fired) others
      by_end (inl none) =
          let same : others ≡ fired = shorter.1 ∙ ap (λ l. l ++ fired) none in
          inl (e ∷ [], ap (λ l. e ∷ l) (sym same))
      by_end (inr some) =
          let (front, last, is) = some in
          let split : others ≡ front ++ last ∷ fired = shorter.1 ∙ ap (λ l. l ++ fired) is ∙ append_assoc front (last ∷ []) fired in
          let there = gone_before trace front (last ∷ fired) (subst (HasGone trace) split too) in
          let same = same_next (fired ++ trace) e last gone.expiries.1 there.expiries.1 gone.is_trace.1 there.is_trace.1 in
          inr (front, split ∙ ap (λ g. front ++ g ∷ fired) (sym same))

  compared : (trace fired others : List Happening) → HasGone trace fired → HasGone trace others → Compare fired others
  compared trace [] others gone too = inr (others, sym (append-nil others))
  compared trace (e ∷ fired) others gone too = longer trace e fired others gone too (compared trace fired others (gone_before trace (e ∷ []) fired gone) too)

  -- ---- no way goes on

  expires_by : (trace : List Happening) (at : ℕ) (what : What) (sent : List Item) → IsExpiry what → HasEffect config trace at what sent → (timer : _) × (due config trace timer ≡ Some at)
  expires_by trace at (Took input) sent expiry has = absurd expiry
  expires_by trace at (Expired timer) sent expiry has = (timer, has.0)

  moments_rise : (trace more : List Happening) (e : Happening) → IsTrace config (more ++ e ∷ trace) → e.at ≤ last_happening_moment (more ++ e ∷ trace)
  moments_rise trace [] e is = omega arith
  moments_rise trace (next ∷ more) e is = omega (arith, moments_rise trace more e is.0, is.1.in_order)

  -- where nothing is due by now, nothing has expired by now
  no_further : (now : ℕ) (trace front others : List Happening) (last : Happening) → HasGone trace (front ++ last ∷ others) → last_happening_moment ((front ++ last ∷ others) ++ trace) ≤ now
      → ((timer : _) (d : ℕ) → due config (others ++ trace) timer ≡ Some d → now < d) → ⊥
  no_further now trace front others last gone reached quiet =
      let there = gone_before trace front (last ∷ others) gone in
      let its = expires_by (others ++ trace) last.at last.what last.sent there.expiries.1 there.is_trace.1.has_effect in
      let far = quiet its.0 last.at its.1 in
      let split : (front ++ last ∷ others) ++ trace ≡ front ++ last ∷ (others ++ trace) = append_assoc front (last ∷ others) trace in
      let near = moments_rise (others ++ trace) front last (subst (IsTrace config) split gone.is_trace) in
      absurd (omega (arith, far, near, reached, ap last_happening_moment split))

  not_longer : (now : ℕ) (trace more fired others : List Happening) → HasGone trace fired → fired ≡ more ++ others → last_happening_moment (fired ++ trace) ≤ now
      → ((timer : _) (d : ℕ) → due config (others ++ trace) timer ≡ Some d → now < d) → fired ≡ others
  not_longer now trace more fired others gone is reached quiet = by_end (ends_of more)
    where
      by_end : (more ≡ []) ⊎ ((front : List Happening) × (last : Happening) × (more ≡ front ++ last ∷ [])) → fired ≡ others
      by_end (inl none) = is ∙ ap (λ l. l ++ others) none
      by_end (inr some) =
          let (front, last, last_is) = some in
          let split : fired ≡ front ++ last ∷ others = is ∙ ap (λ l. l ++ others) last_is ∙ append_assoc front (last ∷ []) others in
          absurd (no_further now trace front others last (subst (HasGone trace) split gone) (subst (λ (l : List Happening). last_happening_moment (l ++ trace) ≤ now) split reached) quiet)

pub one_way : TimersRunOneWay
one_way config now trace timed other run too =
    let T : List Happening → Type 0 = IsTrace config in
    let M : List Happening → Type 0 = λ l. last_happening_moment l ≤ now in
    let gone : HasGone config trace run.fired = record { expiries = run.expiries; is_trace = subst T run.follows run.is_trace } in
    let its : HasGone config trace too.fired = record { expiries = too.expiries; is_trace = subst T too.follows too.is_trace } in
    let quiet : (timer : _) (d : ℕ) → due config (run.fired ++ trace) timer ≡ Some d → now < d =
    λ timer d is. run.quiet timer d (ap (λ (l : List Happening). due config l timer) run.follows ∙ is) in
    let quiet_too : (timer : _) (d : ℕ) → due config (too.fired ++ trace) timer ≡ Some d → now < d =
    λ timer d is. too.quiet timer d (ap (λ (l : List Happening). due config l timer) too.follows ∙ is) in
    let same : run.fired ≡ too.fired =
    elim (compared config trace run.fired too.fired gone its) [
      | inl longest ↦ not_longer config now trace longest.0 run.fired too.fired gone longest.1 (subst M run.follows run.by_now) quiet_too
      | inr shorter ↦ sym (not_longer config now trace shorter.0 too.fired run.fired its shorter.1 (subst M too.follows too.by_now) quiet)
    ] in
    run.follows ∙ ap (λ l. l ++ trace) same ∙ sym too.follows
