use Rattle.std.proofs.Common.{◌∙◌, ap, subst, sym}
use Rattle.std.specs.Prelude.{All, List, map}
use Rattle.std.proofs.lemmas.List.{take_all}
use Rattle.std.proofs.lemmas.List.Elements.{All-push}
use Rattle.coin_candidates.specs.declared.candidate.Candidate.{Candidate}
use Rattle.output_groups.specs.Formed.{IsFormed, part_in}
use Rattle.output_groups.specs.Forming.{alone}
use Rattle.output_groups.specs.declared.formed.Formed.{Formed}
use Rattle.output_groups.proofs.RunLaws.{single_more}
use Rattle.output_groups.proofs.forming.singles.Goals as goal

pub loop-place-preserved : goal.loop-place-preserved
loop-place-preserved c =
    let a = c.args in
    let kept = c.loop-place.invariant in
    let items = c.in_ok-push.ensures.items in
    let P : Formed → Type 0 = IsFormed a.rate a.long_term a.coins.now in
    record {
      parts = single_more (part_in a.coins.now) a.coins.now c.loop-place.groups.items c.push.new.self.items c.loop-place.place c.single.result c.loop-place-test.true items kept.parts c.single.ensures.part;
      each = subst (λ (fs : List Formed). All P fs) (sym items) (All-push P c.loop-place.groups.items c.single.result kept.each c.single.ensures.formed);
    }

pub returns-clause-parts : goal.returns-clause-parts
returns-clause-parts c =
    c.loop-place.invariant.parts ∙ ap (λ (cs : List Candidate). map alone cs) (take_all c.loop-place.place c.args.coins.now c.loop-place-test.false)
