-- The steps of a round of all, and those of a round of some.
use Rattle.std.proofs.Common.{◌≡◌, ◌==◌, ◌++◌, ℕ, Bool, true, false, true≢false, Option, Some, None, List, [], ◌∷◌, MatchOption, refl, sym, ap, ◌∙◌, arith, subst, append-nil, cond}
use Rattle.std.proofs.lemmas.Bool.{eqb-true}
use Rattle.std.proofs.lemmas.Bool.Decides.{nat_tests}
use Rattle.std.proofs.lemmas.List.Elements.{filter-append}
use Rattle.std.proofs.lemmas.Map.Entries.{lookup-filter-keys}
use Rattle.std.specs.BTreeMap.{is_at}
use Rattle.std.specs.List.{filter}
use Rattle.std.specs.Ordering.{nat_cmp}
use Rattle.cap_values.specs.declared.number.Number.{Number}
use Rattle.part_laws.proofs.Beside.{HasSsfsOf, IsNetworkOf}
use Rattle.part_laws.proofs.OneSsf.{AreSsfsAlike, HaveSsfsAlike, ShownAlike, gives_alike, happens_alike, row_fault_alike}
use Rattle.part_laws.specs.Chosen.{Choice, chosen, is_chosen}
use Rattle.part_laws.specs.OneWay.{TimersRunOneWay}
use Rattle.part_laws.specs.Rows.{is_chosen_happening}
use Rattle.run_texts.specs.declared.script.Happening.{Happening}
use Rattle.run_texts.specs.declared.script.Happening.TheVariants as row
use Rattle.run_texts.specs.declared.script.ScriptRow.{ScriptRow}
use Rattle.run_values.specs.declared.post.Body.{Body}
use Rattle.run_values.specs.declared.post.Body.TheVariants as body
use Rattle.script_player.specs.Chains.{Chain}
use Rattle.script_player.specs.Dues.{ssf_of}
use Rattle.script_player.specs.Networks.{Shown}
use Rattle.script_player.specs.Posts.{post_of, posts_of}
use Rattle.script_player.specs.Steps.{Delivers, GetsSsf, FeedsSsf, GivesTo, HappensAt, PlaysRow, Recharges, SendsItems, Sets, StartsCall, Waits}
use Rattle.script_player.specs.Unplaced.{fault_given, fault_of_feed, fault_of_row, unplaced_in, where_refused}
use Rattle.ssf_core.specs.Calls.{View}
use Rattle.ssf_core.specs.declared.fault.SsfFault.{SsfFault}
use Rattle.ssf_core.specs.declared.item.Item.{Item}
use Rattle.ssf_core.specs.declared.item.Item.TheVariants as sent
use Rattle.ssf_core.specs.declared.item.Out.{Out}

-- two calls of which one alone is chosen are not the same
are_apart : (choice : Choice) (call other : ℕ) → choice.calls call ≡ false → choice.calls other ≡ true → (call == other) ≡ false
are_apart choice call other not own = by_call (call == other) refl
  where
    by_call : (b : Bool) → (call == other) ≡ b → b ≡ false
    by_call true here = absurd (true≢false (sym own ∙ ap choice.calls (sym (eqb-true call other here)) ∙ not))
    by_call false here = refl

module _ (choice : Choice) where
  -- ---- a network without what isn't chosen

  abbrev pub chosen_ssfs : List (ℕ × View) → List (ℕ × View)
  chosen_ssfs ssfs = filter (λ ssf. choice.calls ssf.0) ssfs

  abbrev pub without_others : Shown → Shown
  without_others whole = record { config = whole.config; ssfs = chosen_ssfs whole.ssfs; given = chosen choice whole.given; whole = whole.whole }

  pub same_choice : (call key : ℕ) → is_at (nat_cmp call) key ≡ true → choice.calls key ≡ choice.calls call
  same_choice call key is = let same : key ≡ call = grind (arith, nat_tests, is) in ap choice.calls same

  chosen_by : (b : Bool) (call : ℕ) (ssfs : List (ℕ × View)) → choice.calls call ≡ b → ssf_of (chosen_ssfs ssfs) call ≡ cond b (ssf_of ssfs call) None
  chosen_by b call ssfs own = lookup-filter-keys (is_at (nat_cmp call)) choice.calls b (λ key is. same_choice call key is ∙ own) ssfs

  pub own_ssf : (call : ℕ) (ssfs : List (ℕ × View)) → choice.calls call ≡ true → ssf_of (chosen_ssfs ssfs) call ≡ ssf_of ssfs call
  own_ssf call ssfs own = chosen_by true call ssfs own

  no_ssf : (call : ℕ) (ssfs : List (ℕ × View)) → choice.calls call ≡ false → ssf_of (chosen_ssfs ssfs) call ≡ None
  no_ssf call ssfs not = chosen_by false call ssfs not

  ssfs_alike : (whole part : List (ℕ × View)) → HasSsfsOf choice whole part → HaveSsfsAlike (chosen_ssfs whole) part
  ssfs_alike whole part has call = by_call (choice.calls call) refl
    where
      by_call : (b : Bool) → choice.calls call ≡ b → AreSsfsAlike (ssf_of (chosen_ssfs whole) call) (ssf_of part call)
      by_call true own = subst (λ (f : Option View). AreSsfsAlike f (ssf_of part call)) (sym (own_ssf call whole own)) (has.own call own)
      by_call false not =
          subst (λ (f : Option View). AreSsfsAlike f (ssf_of part call)) (sym (no_ssf call whole not)) (subst (λ (f : Option View). AreSsfsAlike None f) (sym (has.no_other call not)) tt)

  none_too : (found : Option View) → AreSsfsAlike None found → found ≡ None
  none_too None alike = refl
  none_too (Some view) alike = absurd alike

  ssfs_of : (whole part : List (ℕ × View)) → HaveSsfsAlike (chosen_ssfs whole) part → HasSsfsOf choice whole part
  ssfs_of whole part alike = record {
    own = λ call own. subst (λ (f : Option View). AreSsfsAlike f (ssf_of part call)) (own_ssf call whole own) (alike call);
    no_other = λ call not. none_too (ssf_of part call) (subst (λ (f : Option View). AreSsfsAlike f (ssf_of part call)) (no_ssf call whole not) (alike call));
  }

  pub shown_alike : (whole part : Shown) → IsNetworkOf choice whole part → ShownAlike (without_others whole) part
  shown_alike whole part is = record { config = is.config; given = sym is.given; ssfs = ssfs_alike whole.ssfs part.ssfs is.ssfs }

  network_of : (whole part : Shown) → ShownAlike (without_others whole) part → IsNetworkOf choice whole part
  network_of whole part alike = record { config = alike.config; given = sym alike.given; ssfs = ssfs_of whole.ssfs part.ssfs alike.ssfs }

  -- ---- items

  chosen_more : (given more : List (ℕ × Body)) → chosen choice (given ++ more) ≡ chosen choice given ++ chosen choice more
  chosen_more given more = filter-append (λ (item : ℕ × Body). is_chosen choice item.1) given more

  own_post : (call at : ℕ) (item : Item) → choice.calls call ≡ true → chosen choice (post_of call at item) ≡ post_of call at item
  own_post call at (sent.Msg msg) own = rw own refl
  own_post call at sent.Proceed own = refl
  own_post call at (sent.Clear cause) own = refl

  no_post : (call at : ℕ) (item : Item) → choice.calls call ≡ false → chosen choice (post_of call at item) ≡ []
  no_post call at (sent.Msg msg) not = rw not refl
  no_post call at sent.Proceed not = refl
  no_post call at (sent.Clear cause) not = refl

  own_posts : (call : ℕ) (outs : List Out) → choice.calls call ≡ true → chosen choice (posts_of call outs) ≡ posts_of call outs
  own_posts call [] own = refl
  own_posts call (out ∷ outs) own = chosen_more (post_of call out.at out.item) (posts_of call outs) ∙ rw (own_post call out.at out.item own, own_posts call outs own) refl

  no_posts : (call : ℕ) (outs : List Out) → choice.calls call ≡ false → chosen choice (posts_of call outs) ≡ []
  no_posts call [] not = refl
  no_posts call (out ∷ outs) not = chosen_more (post_of call out.at out.item) (posts_of call outs) ∙ rw (no_post call out.at out.item not, no_posts call outs not) refl

  -- ---- a step of a chosen call, without what isn't chosen

  sets_own : (before after : List (ℕ × View)) (call : ℕ) (view : View) → choice.calls call ≡ true → Sets before after call view → Sets (chosen_ssfs before) (chosen_ssfs after) call view
  sets_own before after call view own sets = record { own = own_ssf call after own ∙ sets.own; others = λ other apart. by_choice other apart (choice.calls other) refl }
    where
      by_choice : (other : ℕ) → (call == other) ≡ false → (b : Bool) → choice.calls other ≡ b → ssf_of (chosen_ssfs after) other ≡ ssf_of (chosen_ssfs before) other
      by_choice other apart true its = own_ssf other after its ∙ sets.others other apart ∙ sym (own_ssf other before its)
      by_choice other apart false not = no_ssf other after not ∙ sym (no_ssf other before not)

  sends_own : (before after : Shown) (call : ℕ) (view : View) (outs : List Out) → choice.calls call ≡ true → SendsItems before after call view outs
      → SendsItems (without_others before) (without_others after) call view outs
  sends_own before after call view outs own sends = record {
    sets = sets_own before.ssfs after.ssfs call view own sends.sets;
    posts = ap (chosen choice) sends.posts ∙ chosen_more before.given (posts_of call outs) ∙ ap (λ l. chosen choice before.given ++ l) (own_posts call outs own);
    same_config = sends.same_config;
    same_whole = sends.same_whole;
  }

  -- and by the same fault, where there is one
  gives_own_too : (now call : ℕ) (input : _) (before after : Shown) → choice.calls call ≡ true → (gives : GivesTo now call input before after)
      → (its : GivesTo now call input (without_others before) (without_others after)) × (fault_given now call input (without_others before) (without_others after) its ≡ fault_given now call input before after gives)
  gives_own_too now call input before after own gives =
      subst (λ (f : Option View).
      (its : MatchOption f (without_others after ≡ without_others before) (FeedsSsf (without_others before) (without_others after) now call input))
      × (fault_of_feed f now call input (without_others before) (without_others after) its ≡ fault_given now call input before after gives)) (sym (own_ssf call before.ssfs own))
      (by_ssf (ssf_of before.ssfs call) gives)
    where
      by_ssf : (found : Option View) (gives : MatchOption found (after ≡ before) (FeedsSsf before after now call input))
          → (its : MatchOption found (without_others after ≡ without_others before) (FeedsSsf (without_others before) (without_others after) now call input))
          × (fault_of_feed found now call input (without_others before) (without_others after) its ≡ fault_of_feed found now call input before after gives)
      by_ssf None same = (ap without_others same, refl)
      by_ssf (Some view) gives =
          (record { new = gives.new; sent = gives.sent; is_given = gives.is_given; sends = sends_own before after call gives.new gives.sent own gives.sends }, refl)

  gives_own : (now call : ℕ) (input : _) (before after : Shown) → choice.calls call ≡ true → GivesTo now call input before after → GivesTo now call input (without_others before) (without_others after)
  gives_own now call input before after own gives = (gives_own_too now call input before after own gives).0

  starts_own : (now call : ℕ) (calling called : Number) (before after : Shown) → choice.calls call ≡ true → StartsCall now call calling called before after
      → StartsCall now call calling called (without_others before) (without_others after)
  starts_own now call calling called before after own starts =
      subst (λ (f : Option View). MatchOption f (GetsSsf (without_others before) (without_others after) now call calling called) (λ _. without_others after ≡ without_others before))
      (sym (own_ssf call before.ssfs own)) (by_ssf (ssf_of before.ssfs call) starts)
    where
      by_ssf : (found : Option View) → MatchOption found (GetsSsf before after now call calling called) (λ _. after ≡ before)
          → MatchOption found (GetsSsf (without_others before) (without_others after) now call calling called) (λ _. without_others after ≡ without_others before)
      by_ssf None starts = record { view = starts.view; sent = starts.sent; begun = starts.begun; sends = sends_own before after call starts.view starts.sent own starts.sends }
      by_ssf (Some view) same = ap without_others same

  recharges_own : (now account amount : ℕ) (until : Option ℕ) (before after : Shown) → choice.accounts account ≡ true → Recharges now account amount until before after
      → Recharges now account amount until (without_others before) (without_others after)
  recharges_own now account amount until before after own is =
      let one : List (ℕ × Body) = (now, body.Recharge account amount until) ∷ [] in
      let kept : chosen choice one ≡ one = rw own refl in
      ap without_others is
      ∙ ap (λ (g : List (ℕ × Body)). record { config = before.config; ssfs = chosen_ssfs before.ssfs; given = g; whole = before.whole }) (chosen_more before.given one ∙ ap (λ l. chosen choice before.given ++ l) kept)

  happens_own : (at : ℕ) (happening : Happening) (before after : Shown) → is_chosen_happening choice happening ≡ true → HappensAt at happening before after
      → HappensAt at happening (without_others before) (without_others after)
  happens_own at (row.Start call calling called) before after own is = starts_own at call calling called before after own is
  happens_own at (row.Meets call event) before after own is = gives_own at call _ before after own is
  happens_own at (row.Recharge account amount until) before after own is = recharges_own at account amount until before after own is

  -- ---- a step of another call

  stays_of : (before after part : Shown) → after ≡ before → IsNetworkOf choice before part → IsNetworkOf choice after part
  stays_of before after part same is = subst (λ (s : Shown). IsNetworkOf choice s part) (sym same) is

  sends_other : (before after part : Shown) (call : ℕ) (view : View) (outs : List Out) → choice.calls call ≡ false → SendsItems before after call view outs → IsNetworkOf choice before part
      → IsNetworkOf choice after part
  sends_other before after part call view outs not sends is = record {
    config = sends.same_config ∙ is.config;
    given =
        is.given ∙ sym (append-nil (chosen choice before.given)) ∙ ap (λ l. chosen choice before.given ++ l) (sym (no_posts call outs not)) ∙ sym (chosen_more before.given (posts_of call outs))
        ∙ ap (chosen choice) (sym sends.posts);
    ssfs = record {
      own = λ other own. subst (λ (f : Option View). AreSsfsAlike f (ssf_of part.ssfs other)) (sym (sends.sets.others other (are_apart choice call other not own))) (is.ssfs.own other own);
      no_other = is.ssfs.no_other;
    };
  }

  gives_other : (now call : ℕ) (input : _) (before after part : Shown) → choice.calls call ≡ false → GivesTo now call input before after → IsNetworkOf choice before part → IsNetworkOf choice after part
  gives_other now call input before after part not gives is = by_ssf (ssf_of before.ssfs call) gives
    where
      by_ssf : (found : Option View) → MatchOption found (after ≡ before) (FeedsSsf before after now call input) → IsNetworkOf choice after part
      by_ssf None same = stays_of before after part same is
      by_ssf (Some view) gives = sends_other before after part call gives.new gives.sent not gives.sends is

  starts_other : (now call : ℕ) (calling called : Number) (before after part : Shown) → choice.calls call ≡ false → StartsCall now call calling called before after → IsNetworkOf choice before part
      → IsNetworkOf choice after part
  starts_other now call calling called before after part not starts is = by_ssf (ssf_of before.ssfs call) starts
    where
      by_ssf : (found : Option View) → MatchOption found (GetsSsf before after now call calling called) (λ _. after ≡ before) → IsNetworkOf choice after part
      by_ssf None starts = sends_other before after part call starts.view starts.sent not starts.sends is
      by_ssf (Some view) same = stays_of before after part same is

  recharges_other : (now account amount : ℕ) (until : Option ℕ) (before after part : Shown) → choice.accounts account ≡ false → Recharges now account amount until before after
      → IsNetworkOf choice before part → IsNetworkOf choice after part
  recharges_other now account amount until before after part not recharged is =
      let one : List (ℕ × Body) = (now, body.Recharge account amount until) ∷ [] in
      let none : chosen choice one ≡ [] = rw not refl in
      subst (λ (s : Shown). IsNetworkOf choice s part) (sym recharged) (record {
        config = is.config;
        given = is.given ∙ sym (append-nil (chosen choice before.given)) ∙ ap (λ l. chosen choice before.given ++ l) (sym none) ∙ sym (chosen_more before.given one);
        ssfs = is.ssfs;
      })

  happens_other : (at : ℕ) (happening : Happening) (before after part : Shown) → is_chosen_happening choice happening ≡ false → HappensAt at happening before after → IsNetworkOf choice before part
      → IsNetworkOf choice after part
  happens_other at (row.Start call calling called) before after part not happens is = starts_other at call calling called before after part not happens is
  happens_other at (row.Meets call event) before after part not happens is = gives_other at call _ before after part not happens is
  happens_other at (row.Recharge account amount until) before after part not happens is = recharges_other at account amount until before after part not happens is

  -- ---- steps of all, and those of some

  -- a kind of step: of some, both take it; of others, the whole alone
  pub record IsFollowedBy {X : Type 0} (Step : Shown → X → Shown → Type 0) (own : X → Bool) : Type 0 where
    pub both : (x : X) (whole after part its : Shown) → own x ≡ true → Step whole x after → Step part x its → IsNetworkOf choice whole part → IsNetworkOf choice after its
    pub alone : (x : X) (whole after part : Shown) → own x ≡ false → Step whole x after → IsNetworkOf choice whole part → IsNetworkOf choice after part

  both_give : TimersRunOneWay → (now call : ℕ) (input : _) (whole after part its : Shown) → choice.calls call ≡ true → GivesTo now call input whole after → GivesTo now call input part its
      → IsNetworkOf choice whole part → IsNetworkOf choice after its
  both_give one_way now call input whole after part its own is too network =
      network_of after its (gives_alike one_way now call input (without_others whole) (without_others after) part its (gives_own now call input whole after own is) too (shown_alike whole part network))

  pub delivers_followed : TimersRunOneWay → (now : ℕ) → IsFollowedBy (Delivers now) (λ delivery. choice.calls delivery.call)
  delivers_followed one_way now = record {
    both = λ delivery whole after part its own is too network. both_give one_way now delivery.call _ whole after part its own is too network;
    alone = λ delivery whole after part not is network. gives_other now delivery.call _ whole after part not is network;
  }

  pub waits_followed : TimersRunOneWay → (now : ℕ) → IsFollowedBy (Waits now) choice.calls
  waits_followed one_way now = record {
    both = λ call whole after part its own is too network. both_give one_way now call _ whole after part its own is too network;
    alone = λ call whole after part not is network. gives_other now call _ whole after part not is network;
  }

  pub plays_followed : TimersRunOneWay → IsFollowedBy PlaysRow (λ row. is_chosen_happening choice row.what)
  plays_followed one_way = record {
    both = λ row whole after part its own is too network.
        network_of after its (happens_alike one_way row.at row.what (without_others whole) (without_others after) part its (happens_own row.at row.what whole after own is) too
        (shown_alike whole part network));
    alone = λ row whole after part not is network. happens_other row.at row.what whole after part not is network;
  }

  pub chain_followed : {X : Type 0} (Step : Shown → X → Shown → Type 0) (own : X → Bool) → IsFollowedBy Step own → (xs : List X) (whole after part its : Shown) → Chain Step whole xs after
      → Chain Step part (filter own xs) its → IsNetworkOf choice whole part → IsNetworkOf choice after its
  chain_followed Step own each [] whole after part its is too network = stays_of whole after its is (subst (IsNetworkOf choice whole) (sym too) network)
  chain_followed {X} Step own each (x ∷ xs) whole after part its is too network =
      by_own (λ next too network. chain_followed Step own each xs is.0 after next its is.1.1 too network) (own x) refl too
    where
      by_own : ((next : Shown) → Chain Step next (filter own xs) its → IsNetworkOf choice is.0 next → IsNetworkOf choice after its) → (b : Bool) → own x ≡ b
          → Chain Step part (cond b (x ∷ filter own xs) (filter own xs)) its → IsNetworkOf choice after its
      by_own later true mine too = later too.0 too.1.1 (each.both x whole is.0 part too.0 mine is.1.0 too.1.0 network)
      by_own later false not too = later part too (each.alone x whole is.0 part not is.1.0 network)

  -- ---- the rows that had no place

  abbrev owns : ScriptRow → Bool
  owns row = is_chosen_happening choice row.what

  row_missed : TimersRunOneWay → (at : ℕ) (what : Happening) (whole after part its : Shown) → is_chosen_happening choice what ≡ true → (is : HappensAt at what whole after) (too : HappensAt at what part its)
      → IsNetworkOf choice whole part → fault_of_row at what whole after is ≡ fault_of_row at what part its too
  row_missed one_way at (row.Start call calling called) whole after part its own is too network = refl
  row_missed one_way at (row.Meets call event) whole after part its own is too network =
      let ours = gives_own_too at call _ whole after own is in
      sym ours.1 ∙ row_fault_alike one_way at (row.Meets call event) (without_others whole) (without_others after) part its ours.0 too (shown_alike whole part network)
  row_missed one_way at (row.Recharge account amount until) whole after part its own is too network = refl

  own_refused : (row : ScriptRow) (fault : Option SsfFault) → owns row ≡ true → filter owns (where_refused row fault) ≡ where_refused row fault
  own_refused row None own = refl
  own_refused row (Some fault) own = rw own refl

  none_refused : (row : ScriptRow) (fault : Option SsfFault) → owns row ≡ false → filter owns (where_refused row fault) ≡ []
  none_refused row None not = refl
  none_refused row (Some fault) not = rw not refl

  pub rows_missed : TimersRunOneWay → (rows : List ScriptRow) (whole after part its : Shown) (is : Chain PlaysRow whole rows after) (too : Chain PlaysRow part (filter owns rows) its)
      → IsNetworkOf choice whole part → unplaced_in part its (filter owns rows) too ≡ filter owns (unplaced_in whole after rows is)
  rows_missed one_way [] whole after part its is too network = refl
  rows_missed one_way (row ∷ rows) whole after part its is too network =
      by_own (λ next too network. rows_missed one_way rows is.0 after next its is.1.1 too network) (owns row) refl too
    where
      steps : IsFollowedBy PlaysRow owns
      steps = plays_followed one_way

      split : filter owns (unplaced_in whole after (row ∷ rows) is)
          ≡ filter owns (where_refused row (fault_of_row row.at row.what whole is.0 is.1.0)) ++ filter owns (unplaced_in is.0 after rows is.1.1)
      split = filter-append owns (where_refused row (fault_of_row row.at row.what whole is.0 is.1.0)) (unplaced_in is.0 after rows is.1.1)

      by_own : ((next : Shown) (too : Chain PlaysRow next (filter owns rows) its) → IsNetworkOf choice is.0 next → unplaced_in next its (filter owns rows) too ≡ filter owns (unplaced_in is.0 after rows is.1.1))
          → (b : Bool) → owns row ≡ b → (too : Chain PlaysRow part (cond b (row ∷ filter owns rows) (filter owns rows)) its)
          → unplaced_in part its (cond b (row ∷ filter owns rows) (filter owns rows)) too ≡ filter owns (unplaced_in whole after (row ∷ rows) is)
      by_own later true mine too =
          let fault = fault_of_row row.at row.what whole is.0 is.1.0 in
          let same : fault ≡ fault_of_row row.at row.what part too.0 too.1.0 = row_missed one_way row.at row.what whole is.0 part too.0 mine is.1.0 too.1.0 network in
          let rest = later too.0 too.1.1 (steps.both row whole is.0 part too.0 mine is.1.0 too.1.0 network) in
          ap (λ (f : Option SsfFault). where_refused row f ++ unplaced_in too.0 its (filter owns rows) too.1.1) (sym same) ∙ ap (λ l. where_refused row fault ++ l) rest
          ∙ ap (λ l. l ++ filter owns (unplaced_in is.0 after rows is.1.1)) (sym (own_refused row fault mine)) ∙ sym split
      by_own later false not too =
          later part too (steps.alone row whole is.0 part not is.1.0 network)
          ∙ ap (λ l. l ++ filter owns (unplaced_in is.0 after rows is.1.1)) (sym (none_refused row (fault_of_row row.at row.what whole is.0 is.1.0) not)) ∙ sym split
