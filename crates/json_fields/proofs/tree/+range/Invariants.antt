use Rattle.std.proofs.Common.{◌≡◌, drop, length}
use Rattle.json.specs.Tree.{json_tokens, items_tokens, members_tokens}
use Rattle.json.specs.Value.{value_view, items_view, members_view}
use Rattle.json_fields.specs.Tree.{are_in_range, have_range}
use Rattle.json_fields.proofs.tree.+range.Given as goal

abbrev pub decreases-is_in_range : goal.decreases-is_in_range
decreases-is_in_range l = length (json_tokens (value_view l.value.now))

abbrev pub decreases-are_in_range : goal.decreases-are_in_range
decreases-are_in_range l = length (items_tokens (items_view l.items.now.items))

abbrev pub decreases-have_range : goal.decreases-have_range
decreases-have_range l = length (members_tokens (members_view l.members.now.items))

abbrev pub invariant-are_in_range-loop-item : goal.invariant-are_in_range-loop-item
invariant-are_in_range-loop-item l = are_in_range (items_view (drop l.item-index l.item-items)) ≡ are_in_range (items_view l.item-items)

abbrev pub invariant-have_range-loop-member : goal.invariant-have_range-loop-member
invariant-have_range-loop-member l = have_range (members_view (drop l.member-index l.member-items)) ≡ have_range (members_view l.member-items)
