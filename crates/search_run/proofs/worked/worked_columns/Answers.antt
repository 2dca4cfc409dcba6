use Rattle.std.proofs.Common.{refl}
use Rattle.random_draw.specs.Draw.{draw_of, found_from, kept_with, trimmed, with_place}
use Rattle.random_draw.specs.Order.{order_of, shuffled_from}
use Rattle.search_run.proofs.worked.worked_columns.Goals as goal

pub returns : goal.returns
unfolding draw_of found_from kept_with trimmed with_place order_of shuffled_from
returns c = record { change = λ seed. refl; budget = λ seed. refl; none = λ seed. refl }
