use Rattle.std.proofs.Common.{ℕ, List, inl, inr, rules, subst}
use Rattle.tariff_core.specs.Routes.{HasNoRoute, IsQuote}
use Rattle.table_commands.proofs.quoting.print_quote.Goals as goal

pub returns-in_default : goal.returns-in_default
returns-in_default c =
    let None : List ℕ → Type 0 = λ called. HasNoRoute c.args.tariff.now called in
    inr (subst None c.as_bytes.ensures c.in_default.ensures.none, search rules)

pub returns : goal.returns
returns c =
    let quote = c.in-Some.quote in
    let Is : List ℕ → Type 0 = λ called. IsQuote c.args.tariff.now called c.args.ask.now.at quote.prefix.now quote.start quote.route in
    inl (record {
      prefix = quote.prefix.now;
      start = quote.start;
      route = quote.route;
      is_quote = subst Is c.as_bytes.ensures c.in-Some.ensures.quote;
      lines = search rules;
    })
