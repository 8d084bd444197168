use Rattle.part_laws.proofs.OneInput.{parts_print}
use Rattle.part_laws.proofs.laws.parts_print_as_one_run.Goals as goal

pub returns : goal.returns
returns c =
    parts_print c.some_rows_give_their_items.ensures c.books_have_one_text.ensures c.initial_dp_is_first.ensures c.routes_are_single.ensures.prefix c.read_tariffs_are_proper.ensures
