use Rattle.std.proofs.Common.{◌∙◌, ◌+◌, ◌++◌, ◌≤◌, ap, get_or, length, subst, sym}
use Rattle.pick_problem.proofs.SumLaws.{place_below}
use Rattle.output_groups.specs.Formed.{coins_at}
use Rattle.output_groups.specs.declared.formed.Formed.{Formed}
use Rattle.output_groups.proofs.MemberLaws.{members_step}
use Rattle.output_groups.proofs.groups.members.Goals as goal

pub bounds-kept-place : goal.bounds-kept-place
bounds-kept-place c = place_below (length c.args.kept.now) c.args.places.now c.loop-place.place-index c.requires.places c.loop-place-test.true

pub add_group-requires : goal.add_group-requires
add_group-requires c =
    let there = place_below (length c.args.kept.now) c.args.places.now c.loop-place.place-index c.requires.places c.loop-place-test.true in
    subst (λ (f : Formed). f.start + f.size ≤ length c.args.coins.now) (sym (c.one.ensures ∙ c.index-kept-place.is)) (c.requires.within (get_or c.args.places.now c.loop-place.place-index 0) c.index-kept-place.result there)

pub loop-place-preserved : goal.loop-place-preserved
loop-place-preserved c =
    let there = place_below (length c.args.kept.now) c.args.places.now c.loop-place.place-index c.requires.places c.loop-place-test.true in
    members_step c.args.coins.now c.args.kept.now c.args.places.now c.loop-place.place-index c.index-kept-place.result c.loop-place.members.items c.add_group.new.members.items c.loop-place-test.true there c.index-kept-place.is
    (c.in_ok-add_group.ensures ∙ ap (λ (f : Formed). c.loop-place.members.items ++ coins_at c.args.coins.now f) c.one.ensures) c.loop-place.invariant
