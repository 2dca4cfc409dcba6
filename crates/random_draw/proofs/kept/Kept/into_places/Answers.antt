use Rattle.std.proofs.Common.{◌∙◌}
use Rattle.std.specs.BinaryHeap.{heap_items}
use Rattle.random_draw.proofs.Sorting.{sorted}
use Rattle.random_draw.proofs.kept.Kept.into_places.Goals as goal

pub returns : goal.returns
returns c = c.new.ensures ∙ sorted (heap_items c.args.self.heap) c.into_sorted_vec.result.items c.into_sorted_vec.ensures.permutation (c.into_sorted_vec.ensures.sorted c.requires.heap)
