use Rattle.std.proofs.Common.{◌++◌, None, Some, drop, length, sym, ap, ◌∙◌, take-append-drop, true≢false}
use Rattle.std.proofs.lemmas.Bool.Decides.{Decides-eqb}
use Rattle.std.proofs.lemmas.Slice.Eq.{starts_is, strip_prefix_is}
use Rattle.live_answers.proofs.Parts.{is_cut_off}
use Rattle.live_answers.proofs.finding.find_lines.Goals as goal

pub returns-in-Some : goal.returns-in-Some
returns-in-Some c =
    let behind = c.in-Some.behind.now in
    let lines = c.whole_lines.result.now in
    record {
      behind = behind;
      begins = strip_prefix_is Decides-eqb c.args.text.now c.args.head.now (Some c.in-Some.behind) c.in-Some.ensures.cases;
      lines_are = record {
        torn = drop (length lines) behind;
        parts = sym (take-append-drop (length lines) behind) ∙ ap (λ l. l ++ drop (length lines) behind) (sym c.whole_lines.ensures.front);
        whole = c.whole_lines.ensures.whole;
        no_line = c.whole_lines.ensures.torn;
      };
    }

pub returns-in-None : goal.returns-in-None
returns-in-None c =
    let otherwise = strip_prefix_is Decides-eqb c.args.text.now c.args.head.now None c.in-None.ensures.cases in
    is_cut_off c.args.text.now c.args.head.now otherwise ((starts_is Decides-eqb c.args.head.now c.args.text.now _ c.starts_with.ensures.value).0 c.if-starts_with.true)

pub returns-in-None-2 : goal.returns-in-None-2
returns-in-None-2 c = record {
  not_first = strip_prefix_is Decides-eqb c.args.text.now c.args.head.now None c.in-None.ensures.cases;
  not_second = λ rest is. true≢false (sym ((starts_is Decides-eqb c.args.head.now c.args.text.now _ c.starts_with.ensures.value).1 rest is) ∙ c.if-starts_with.false);
}
