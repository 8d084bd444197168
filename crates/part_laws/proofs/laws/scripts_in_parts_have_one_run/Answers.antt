use Rattle.part_laws.proofs.ScriptParts.{scripts_joined, tables_joined}
use Rattle.part_laws.proofs.laws.scripts_in_parts_have_one_run.Goals as goal

pub returns : goal.returns
returns c = record {
  books = scripts_joined c.some_rows_give_their_items.ensures c.books_have_one_text.ensures c.initial_dp_is_first.ensures;
  calls = tables_joined c.some_rows_give_their_items.ensures c.initial_dp_is_first.ensures c.routes_are_single.ensures.prefix;
}
