use Rattle.std.proofs.Common.{◌≡◌, ◌∙◌, ◌+◌, ◌<◌, ◌++◌, ◌∷◌, [], ℕ, List, Result, Ok, Err, arith, ap, sym, string_bytes}
use Rattle.std.proofs.lemmas.Fmt.{decimal_digit}
use Rattle.std.proofs.lemmas.Result.{on_ok_weaker}
use Rattle.std.specs.Char.{encode_utf8}
use Rattle.std.specs.Fmt.{decimal}
use Rattle.std.specs.Prelude.{OnOk, is_ok, if◌then◌else◌}
use Rattle.table_core.proofs.fields.write_digit.Goals as goal

-- what was pushed is at the end
pushed : {X E : Type 0} (answer : Result X E) (new old text : List ℕ) → new ≡ (if is_ok answer then old ++ text else old) → OnOk answer (new ≡ old ++ text)
pushed (Ok done) new old text is = is
pushed (Err why) new old text is = tt

pub returns-in-Some : goal.returns-in-Some
returns-in-Some c =
    let few : c.args.number < 10 = omega (arith, c.in-Some.ensures.value.0, c.from.ensures) in
    let is : c.in-Some.digit ≡ 48 + c.args.number = c.in-Some.ensures.some.1 c.in-Some.ensures.value.0 ∙ ap (λ n. 48 + n) c.from.ensures in
    let one : encode_utf8 c.in-Some.digit ≡ decimal c.args.number =
    c.push.ensures.ascii (omega (arith, is, few)) ∙ (ap (λ digit. digit ∷ []) is ∙ sym (decimal_digit c.args.number few)) in
    on_ok_weaker c.push.result (λ more. more ∙ ap (λ text. string_bytes c.args.text.now ++ text) one)
    (pushed c.push.result (string_bytes c.push.new.self) (string_bytes c.args.text.now) (encode_utf8 c.in-Some.digit) c.push.ensures.bytes)
