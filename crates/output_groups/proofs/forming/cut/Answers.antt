use Rattle.std.specs.Prelude.{map}
use Rattle.std.proofs.lemmas.List.Elements.{All-nil}
use Rattle.output_groups.proofs.CutLaws.{cut_more, cut_none, cut_whole}
use Rattle.output_groups.specs.Formed.{IsFormed, part_in}
use Rattle.output_groups.proofs.forming.cut.Goals as goal

pub loop-start-init : goal.loop-start-init
loop-start-init c =
    rw c.in_ok-groups.ensures.items (record {
      cut = cut_none c.args.coins.now;
      each = All-nil (IsFormed c.args.rate c.args.long_term c.args.coins.now);
    })

pub loop-start-preserved : goal.loop-start-preserved
loop-start-preserved c =
    let coins = c.args.coins.now in
    let kept = c.loop-start.invariant in
    record {
      cut = rw c.in_ok-add_run.ensures.parts (cut_more coins c.loop-start.start c.end_of_run-end.result (map (part_in coins) c.loop-start.groups.items) c.requires.sorted c.end_of_run-end.ensures kept.cut);
      each = c.in_ok-add_run.ensures.each kept.each;
    }

pub returns-clause-parts : goal.returns-clause-parts
returns-clause-parts c = cut_whole c.args.coins.now c.loop-start.start (map (part_in c.args.coins.now) c.loop-start.groups.items) c.loop-start-test.false c.loop-start.invariant.cut
