use Rattle.std.specs.Prelude.{Bool}
use Rattle.std.specs.Cmp.{IsStrictWeakOrder, IsTotalOrder}
use Rattle.std.specs.Ordering.{is_lt}
use Rattle.std.proofs.Common.{rules}
use Rattle.std.proofs.lemmas.Cmp.{back_total, int_cmp_total, nat_cmp_total, on_total, then_total}
use Rattle.std.proofs.lemmas.List.Sorted.{answers_always, ranks_by}
use Rattle.fund_base.proofs.OutpointLaws.{outpoint_total}
use Rattle.output_groups.specs.Order.{formed_cmp}
use Rattle.output_groups.specs.declared.formed.Formed.{Formed}
use Rattle.output_groups.proofs.forming.sort.Goals as goal

formed_total : IsTotalOrder formed_cmp
formed_total =
    then_total
    (then_total
    (then_total (on_total (λ (f : Formed). f.item.value) (back_total nat_cmp_total)) (on_total (λ (f : Formed). f.item.weight) nat_cmp_total))
    (on_total (λ (f : Formed). f.item.cost) int_cmp_total))
    (on_total (λ (f : Formed). f.least.coin) outpoint_total)

abbrev below : Formed → Formed → Bool
below a b = is_lt (formed_cmp a b)

formed_order : IsStrictWeakOrder below
formed_order = ranks_by formed_total (λ (f : Formed). f)

pub returns-clause-sorted : goal.returns-clause-sorted
returns-clause-sorted c = c.sort_unstable_by.ensures.sorted below formed_order (answers_always _ _ _ (λ f a r g h. search rules))
