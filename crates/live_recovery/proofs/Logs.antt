-- What the whole lines of a log are, whose writer was stopped anywhere.
use Rattle.std.proofs.Common.{◌≡◌, ◌<◌, ◌≤◌, ◌+◌, ◌-◌, ◌++◌, ◌⊎◌, ◌∙◌, inl, inr, ℕ, zero, suc, Option, Some, None, List, [], ◌∷◌, Ok, Err, length, take, drop, refl, sym, ap, subst, arith, append_assoc, append-nil}
use Rattle.std.proofs.Math.Seq.{take-add, take-append-add}
use Rattle.std.proofs.lemmas.List.{append_cancel_left, length-take, take-append-le, take-take}
use Rattle.std.proofs.lemmas.Bool.{cases_lt}
use Rattle.live_answers.proofs.GroupLemmas.{logged_on}
use Rattle.live_answers.specs.Live.{Heard, heard_in, logged_of}
use Rattle.live_answers.specs.Rows.{put_down}
use Rattle.live_answers.specs.Runs.{Logs}
use Rattle.live_answers.specs.Standing.{LineView}
use Rattle.live_answers.specs.declared.group.TheConstants.{MAX_GROUP}
use Rattle.live_answers.specs.declared.stage.LiveFault.{LiveFault}
use Rattle.live_answers.specs.declared.stage.LiveFault.TheVariants as fault
use Rattle.live_answers.specs.Logs.{HasLines, HasLinesBehind}
use Rattle.live_recovery.specs.Recovery.{IsLogOf, LiveRun}
use Rattle.run_texts.specs.Sections.{lines_in_text}
use Rattle.live_recovery.proofs.Lines.{AreEnded, HasNone, IsLine, LineEnds, all_raw, are_ended, drop_ends, ends_so, logged_ends, none_so, same_cut, take_ends}

-- ---- the log

nothing : (count : ℕ) → take {A = ℕ} count [] ≡ []
nothing zero = refl
nothing (suc count) = refl

-- as many bytes of a line as its writer took: all, or some without LF
none_front : (count : ℕ) (body : List ℕ) → HasNone body → (take count (body ++ 10 ∷ []) ≡ body ++ 10 ∷ []) ⊎ HasNone (take count (body ++ 10 ∷ []))
none_front zero body none = inr tt
none_front (suc count) [] none = inl (ap (λ l. 10 ∷ l) (nothing count))
none_front (suc count) (x ∷ body) none = further (none_front count body none.1)
  where
    further : (take count (body ++ 10 ∷ []) ≡ body ++ 10 ∷ []) ⊎ HasNone (take count (body ++ 10 ∷ []))
        → (x ∷ take count (body ++ 10 ∷ []) ≡ x ∷ (body ++ 10 ∷ [])) ⊎ HasNone (x ∷ take count (body ++ 10 ∷ []))
    further (inl all) = inl (ap (λ l. x ∷ l) all)
    further (inr some) = inr (none.0, some)

cut_there : (heard : List Heard) (taken : ℕ) (log lines torn : List ℕ) → AreEnded heard → log ≡ logged_of (take taken heard) ++ torn → HasNone torn → HasLines log lines
    → lines ≡ logged_of (take taken heard)
cut_there heard taken log lines torn ends is none has =
    same_cut lines (logged_of (take taken heard)) has.torn torn (sym has.parts ∙ is) (ends_so lines has.whole) (logged_ends (take taken heard) (take_ends taken heard ends)) (none_so has.torn has.no_line) none

-- the first bytes of a log are whole lines, and some bytes without LF
record IsFront (heard : List Heard) (size : ℕ) : Type 0 where
  count : ℕ
  most : count ≤ length heard
  torn : List ℕ
  none : HasNone torn
  is : take size (logged_of heard) ≡ logged_of (take count heard) ++ torn

front_line : (line : List ℕ) (heard : List Heard) (one : Heard) (size : ℕ) → put_down one.line one.said ≡ line → IsLine line → ((left : ℕ) → IsFront heard left) → IsFront (one ∷ heard) size
front_line line heard one size put is front = by_size (cases_lt size (length line))
  where
    logged : List ℕ
    logged = logged_of heard

    here : logged_of (one ∷ heard) ≡ line ++ logged
    here = ap (λ l. l ++ logged) put

    by_part : take size (logged_of (one ∷ heard)) ≡ take size line → (take size (is.body ++ 10 ∷ []) ≡ is.body ++ 10 ∷ []) ⊎ HasNone (take size (is.body ++ 10 ∷ [])) → IsFront (one ∷ heard) size
    by_part so (inl all) = record {
      count = 1;
      most = omega arith;
      torn = [];
      none = tt;
      is = so ∙ ap (take size) is.is ∙ all ∙ sym is.is ∙ sym (append-nil (put_down one.line one.said ++ []) ∙ append-nil (put_down one.line one.said) ∙ put);
    }
    by_part so (inr some) = record { count = 0; most = omega arith; torn = take size line; none = subst (λ l. HasNone (take size l)) (sym is.is) some; is = so }

    by_size : (size < length line) ⊎ (length line ≤ size) → IsFront (one ∷ heard) size
    by_size (inl less) = by_part (ap (take size) here ∙ take-append-le size line logged (omega (arith, less))) (none_front size is.body is.none)
    by_size (inr more) =
        let left = front (size - length line) in
        let many : size ≡ length line + (size - length line) = omega (arith, more) in
        record {
          count = suc left.count;
          most = omega (arith, left.most);
          torn = left.torn;
          none = left.none;
          is = ap (take size) here ∙ ap (λ n. take n (line ++ logged)) many ∙ take-append-add line logged (size - length line) ∙ ap (λ l. line ++ l) left.is
              ∙ sym (append_assoc line (logged_of (take left.count heard)) left.torn) ∙ sym (ap (λ l. (l ++ logged_of (take left.count heard)) ++ left.torn) put);
        }

any_front : (heard : List Heard) → AreEnded heard → (size : ℕ) → IsFront heard size
any_front [] ends size = record { count = 0; most = omega arith; torn = []; none = tt; is = nothing size }
any_front (one ∷ heard) ends size = by_said one.said refl ends.0 (any_front heard ends.1)
  where
    passed : put_down one.line one.said ≡ [] → IsFront heard size → IsFront (one ∷ heard) size
    passed put left = record {
      count = suc left.count;
      most = omega (arith, left.most);
      torn = left.torn;
      none = left.none;
      is = ap (λ l. take size (l ++ logged_of heard)) put ∙ left.is ∙ sym (ap (λ l. (l ++ logged_of (take left.count heard)) ++ left.torn) put);
    }

    by_said : (said : LineView) → one.said ≡ said → LineEnds one.line one.said → ((left : ℕ) → IsFront heard left) → IsFront (one ∷ heard) size
    by_said None so line front = passed (ap (put_down one.line) so) (front size)
    by_said (Some (Err why)) so line front = passed (ap (put_down one.line) so) (front size)
    by_said (Some (Ok message)) so line front = front_line one.line heard one size (ap (put_down one.line) so) (subst (LineEnds one.line) so line) front

-- the log of a run that began with a head alone
pub log_is : (it : LiveRun) (taken : ℕ) (head log lines : List ℕ) → it.log_old ≡ Some head → it.log_new ≡ Some log → HasLinesBehind head log lines
    → Logs it.fault it.log_old it.log_new (logged_of (take taken (heard_in it.input))) (logged_of (take MAX_GROUP (drop taken (heard_in it.input))))
    → (count : ℕ) × IsLogOf it taken lines count
log_is it taken head log lines was is has logs = by_fault it.fault refl (subst known is (subst began was logs))
  where
    heard : List Heard
    heard = heard_in it.input

    began : Option (List ℕ) → Type 0
    began old = Logs it.fault old it.log_new (logged_of (take taken heard)) (logged_of (take MAX_GROUP (drop taken heard)))

    known : Option (List ℕ) → Type 0
    known new = Logs it.fault (Some head) new (logged_of (take taken heard)) (logged_of (take MAX_GROUP (drop taken heard)))

    by : Option LiveFault → Type 0
    by why = Logs why (Some head) (Some log) (logged_of (take taken heard)) (logged_of (take MAX_GROUP (drop taken heard)))

    ends : AreEnded heard
    ends = are_ended 0 0 (lines_in_text it.input) (all_raw it.input)

    -- what was written behind the head
    behind_is : (text : List ℕ) → log ≡ head ++ text → has.behind ≡ text
    behind_is text so = append_cancel_left head has.behind text (sym has.begins ∙ so)

    whole : log ≡ head ++ logged_of (take taken heard) → (count : ℕ) × IsLogOf it taken lines count
    whole so =
        let there = behind_is (logged_of (take taken heard)) so in (
          taken,
          record {
            lines_are = cut_there heard taken has.behind lines [] ends (there ∙ sym (append-nil (logged_of (take taken heard)))) tt has.lines_are;
            least = omega arith;
            most = omega arith;
            same = λ other. refl;
          },
        )

    by_fault : (why : Option LiveFault) → it.fault ≡ why → by it.fault → (count : ℕ) × IsLogOf it taken lines count
    by_fault None so logged = whole (subst by so logged)
    by_fault (Some fault.Input) so logged = whole (subst by so logged)
    by_fault (Some fault.Output) so logged = whole (subst by so logged)
    by_fault (Some fault.Log) so logged =
        let (size, cut) = subst by so logged in
        let left = drop taken heard in
        let group = take MAX_GROUP left in
        let front = any_front group (take_ends MAX_GROUP left (drop_ends taken heard ends)) size in
        let few : front.count ≤ MAX_GROUP = omega (arith, front.most, length-take MAX_GROUP left) in
        let here = logged_of (take taken heard) in
        let more : here ++ logged_of (take front.count group) ≡ logged_of (take (taken + front.count) heard) =
        sym (logged_on (take taken heard) (take front.count group)) ∙ ap (λ h. logged_of (take taken heard ++ h)) (take-take front.count MAX_GROUP left few)
        ∙ ap logged_of (sym (take-add taken front.count heard)) in
        let whole_and_torn : has.behind ≡ logged_of (take (taken + front.count) heard) ++ front.torn =
        behind_is _ cut ∙ ap (λ l. here ++ l) front.is ∙ sym (append_assoc here (logged_of (take front.count group)) front.torn) ∙ ap (λ l. l ++ front.torn) more in (
          taken + front.count,
          record {
            lines_are = cut_there heard (taken + front.count) has.behind lines front.torn ends whole_and_torn front.none has.lines_are;
            least = omega arith;
            most = omega (arith, few);
            same = λ other. absurd (other so);
          },
        )

-- ---- a log that was stopped anywhere

pub stopped_is : (input : List ℕ) (size : ℕ) (lines : List ℕ) → HasLines (take size (logged_of (heard_in input))) lines → (count : ℕ) × (lines ≡ logged_of (take count (heard_in input)))
stopped_is input size lines has =
    let heard = heard_in input in
    let ends = are_ended 0 0 (lines_in_text input) (all_raw input) in
    let front = any_front heard ends size in (
      front.count,
      same_cut lines (logged_of (take front.count heard)) has.torn front.torn (sym has.parts ∙ front.is) (ends_so lines has.whole)
          (logged_ends (take front.count heard) (take_ends front.count heard ends)) (none_so has.torn has.no_line) front.none,
    )
