-- The asks of a talk get what the history of the account says, so two talks that are alike at first are alike.
use Rattle.std.proofs.Common.{◌≡◌, ◌++◌, ◌⊎◌, inl, inr, ℕ, true, false, true≢false, Option, None, List, [], ◌∷◌, Ok, Err, refl, sym, ap, subst, ◌∙◌, append_assoc, append-nil}
use Rattle.std.specs.Prelude.{reverse}
use Rattle.std.proofs.lemmas.List.{reverse-append}
use Rattle.account_core.specs.Answers.{IsLegal, IsLegalPast, answer}
use Rattle.account_core.specs.Entries.{EntryData}
use Rattle.account_core.specs.Ledger.{entry_by}
use Rattle.account_core.specs.declared.entry.Reply.{Reply}
use Rattle.dialogue_core.specs.Phases.{Phase, Says, Asks, Sends, Finished}
use Rattle.dialogue_core.specs.Talks.{Got, is_ask, talked}
use Rattle.account_core.proofs.Beginnings.{begins_further, legal_begins}
use Rattle.account_core.specs.Prefixes.{IsPrefix}
use Rattle.runs_core.specs.Talks.{AllAsk, entries_of, entry_of, last_fault}

-- ---- lists that end alike

ends_of : {X : Type 0} (xs : List X) → (xs ≡ []) ⊎ ((front : List X) × (last : X) × (xs ≡ front ++ last ∷ []))
ends_of [] = inl refl
ends_of {X} (x ∷ xs) = after (ends_of xs)
  where
    after : (xs ≡ []) ⊎ ((front : List X) × (last : X) × (xs ≡ front ++ last ∷ [])) → (x ∷ xs ≡ []) ⊎ ((front : List X) × (last : X) × (x ∷ xs ≡ front ++ last ∷ []))
    after (inl none) = inr ([], x, ap (λ l. x ∷ l) none)
    after (inr some) = inr (x ∷ some.0, some.1, ap (λ l. x ∷ l) some.2)

-- ---- the right reply

-- an entry of a legal history has the one reply to what it asks there
reply_is : (opening : ℕ) (until : Option ℕ) (before after : List EntryData) (entry : EntryData) → IsLegal opening until after → IsPrefix (before ++ entry ∷ []) after
    → entry.reply ≡ answer opening until (reverse before) entry.asked
reply_is opening until before after entry legal begins =
    let L : List EntryData → Type 0 = IsLegalPast opening until in
    let past : IsLegalPast opening until (entry ∷ reverse before) =
    subst L (reverse-append before (entry ∷ [])) (legal_begins opening until (before ++ entry ∷ []) after begins legal) in
    past.1.answered

-- what an ask gets there
abbrev right_got : ℕ → Option ℕ → List EntryData → Says → Got → Got
right_got opening until before (Asks asked) got = Ok (answer opening until (reverse before) asked)
right_got opening until before (Sends orders) got = got
right_got opening until before Finished got = got

got_is : (opening : ℕ) (until : Option ℕ) (seat : ℕ) (before after : List EntryData) (says : Says) (reply : Reply) → IsLegal opening until after
    → IsPrefix (before ++ entry_of seat says (Ok reply)) after → Ok reply ≡ right_got opening until before says (Ok reply)
got_is opening until seat before after (Asks asked) reply legal begins = ap Ok (reply_is opening until before after (entry_by seat asked reply) legal begins)
got_is opening until seat before after (Sends orders) reply legal begins = refl
got_is opening until seat before after Finished reply legal begins = refl

module _ (opening : ℕ) (until : Option ℕ) (seat : ℕ) (first : Says × Phase) (mine : List EntryData) where
  -- the asks of a talk got these, none of them a fault, and they were entered in a legal history behind what the seat had
  pub record AreEntered (after : List EntryData) (gots : List Got) : Type 0 where
    pub asked : AllAsk first gots
    pub taken : last_fault gots ≡ None
    pub legal : IsLegal opening until after
    pub begins : IsPrefix (mine ++ entries_of seat first gots) after

  taken_before : (got : Got) (earlier : List Got) → last_fault (got ∷ earlier) ≡ None → last_fault earlier ≡ None
  taken_before (Ok reply) earlier taken = taken
  taken_before (Err why) earlier taken = absurd (cc)

  earlier_are : (after : List EntryData) (got : Got) (earlier : List Got) → AreEntered after (got ∷ earlier) → AreEntered after earlier
  earlier_are after got earlier are =
      let before = mine ++ entries_of seat first earlier in
      let one = entry_of seat (talked first earlier).0 got in
      record {
        asked = are.asked.1;
        taken = taken_before got earlier are.taken;
        legal = are.legal;
        begins = begins_further before (mine ++ (entries_of seat first earlier ++ one)) after
            (record { rest = one; is = sym (append_assoc mine (entries_of seat first earlier) one) }) are.begins;
      }

  behind_are : (after : List EntryData) (more gots : List Got) → AreEntered after (more ++ gots) → AreEntered after gots
  behind_are after [] gots are = are
  behind_are after (got ∷ more) gots are = behind_are after more gots (earlier_are after got (more ++ gots) are)

  is_right : (after : List EntryData) (got : Got) (earlier : List Got) → AreEntered after (got ∷ earlier)
      → got ≡ right_got opening until (mine ++ entries_of seat first earlier) (talked first earlier).0 got
  is_right after (Ok reply) earlier are =
      let one = entry_of seat (talked first earlier).0 (Ok reply) in
      let B : List EntryData → Type 0 = λ h. IsPrefix h after in
      got_is opening until seat (mine ++ entries_of seat first earlier) after (talked first earlier).0 reply are.legal
      (subst B (sym (append_assoc mine (entries_of seat first earlier) one)) are.begins)
  is_right after (Err why) earlier are = absurd (let never = are.taken in cc never)

  one_right : (says : Says) (h : List EntryData) (one other : Got) → is_ask says ≡ true → right_got opening until h says one ≡ right_got opening until h says other
  one_right (Asks asked) h one other ask = refl
  one_right (Sends orders) h one other ask = absurd (cc)
  one_right Finished h one other ask = absurd (cc)

  pub same_got : (after other : List EntryData) (one another : Got) (earlier : List Got) → AreEntered after (one ∷ earlier) → AreEntered other (another ∷ earlier) → one ≡ another
  same_got after other one another earlier are too =
      is_right after one earlier are
      ∙ one_right (talked first earlier).0 (mine ++ entries_of seat first earlier) one another are.asked.0
      ∙ sym (is_right other another earlier too)

  -- of two talks one begins the other
  abbrev Compare : List Got → List Got → Type 0
  Compare gots others = ((more : List Got) × (gots ≡ more ++ others)) ⊎ ((more : List Got) × (others ≡ more ++ gots))

  longer : (after other : List EntryData) (got : Got) (earlier others : List Got) → AreEntered after (got ∷ earlier) → AreEntered other others → Compare earlier others
      → Compare (got ∷ earlier) others
  longer after other got earlier others are too (inl longest) = inl (got ∷ longest.0, ap (λ l. got ∷ l) longest.1)
  longer after other got earlier others are too (inr shorter) = by_end (ends_of shorter.0)
    where
      by_end : (shorter.0 ≡ []) ⊎ ((front : List Got) × (last : Got) × (shorter.0 ≡ front ++ last ∷ [])) → Compare (got ∷ earlier) others
      by_end (inl none) =
          let same : others ≡ earlier = shorter.1 ∙ ap (λ l. l ++ earlier) none in
          inl (got ∷ [], ap (λ l. got ∷ l) (sym same))
      by_end (inr some) =
          let (front, last, is) = some in
          let split : others ≡ front ++ last ∷ earlier = shorter.1 ∙ ap (λ l. l ++ earlier) is ∙ append_assoc front (last ∷ []) earlier in
          let E : List Got → Type 0 = AreEntered other in
          let there = behind_are other front (last ∷ earlier) (subst E split too) in
          let same = same_got after other got last earlier are there in
          inr (front, split ∙ ap (λ g. front ++ g ∷ earlier) (sym same))

  compared : (after other : List EntryData) (gots others : List Got) → AreEntered after gots → AreEntered other others → Compare gots others
  compared after other [] others are too = inr (others, sym (append-nil others))
  compared after other (got ∷ earlier) others are too =
      longer after other got earlier others are too (compared after other earlier others (earlier_are after got earlier are) too)

  -- a talk that has ended isn't the beginning of a longer one
  not_longer : (after : List EntryData) (more gots others : List Got) → AreEntered after gots → gots ≡ more ++ others → is_ask (talked first others).0 ≡ false → gots ≡ others
  not_longer after more gots others are is rests = by_end (ends_of more)
    where
      by_end : (more ≡ []) ⊎ ((front : List Got) × (last : Got) × (more ≡ front ++ last ∷ [])) → gots ≡ others
      by_end (inl none) = is ∙ ap (λ l. l ++ others) none
      by_end (inr some) =
          let (front, last, last_is) = some in
          let split : gots ≡ front ++ last ∷ others = is ∙ ap (λ l. l ++ others) last_is ∙ append_assoc front (last ∷ []) others in
          let E : List Got → Type 0 = AreEntered after in
          let there = behind_are after front (last ∷ others) (subst E split are) in
          absurd (true≢false (sym there.asked.0 ∙ rests))

  pub same_gots : (after other : List EntryData) (gots others : List Got) → AreEntered after gots → AreEntered other others
      → is_ask (talked first gots).0 ≡ false → is_ask (talked first others).0 ≡ false → gots ≡ others
  same_gots after other gots others are too rests too_rests = by_compared (compared after other gots others are too)
    where
      by_compared : Compare gots others → gots ≡ others
      by_compared (inl longest) = not_longer after longest.0 gots others are longest.1 too_rests
      by_compared (inr shorter) = sym (not_longer other shorter.0 others gots too shorter.1 rests)
