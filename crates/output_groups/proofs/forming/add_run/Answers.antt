use Rattle.std.proofs.Common.{◌≡◌, ◌-◌, ◌++◌, ◌∙◌, ap, arith, length, map, subst, sym}
use Rattle.std.specs.Prelude.{All, List, ℕ, drop}
use Rattle.std.specs.Int.{div_ceil}
use Rattle.std.specs.List.{range_with_len}
use Rattle.std.proofs.lemmas.List.{length-drop, length-take}
use Rattle.std.proofs.lemmas.List.Elements.{All-push}
use Rattle.output_groups.specs.Formed.{IsFormed, part_in}
use Rattle.output_groups.specs.Forming.{part_at, parts_of}
use Rattle.output_groups.specs.Runs.{run_of}
use Rattle.output_groups.specs.declared.formed.Formed.{Formed}
use Rattle.output_groups.proofs.RunLaws.{run_more}
use Rattle.output_groups.proofs.forming.add_run.Goals as goal

pub loop-place-preserved : goal.loop-place-preserved
loop-place-preserved c =
    let a = c.args in
    let run = run_of a.coins.now a.start a.end in
    let kept = c.loop-place.invariant in
    let items = c.in_ok-push.ensures.items in
    let P : Formed → Type 0 = IsFormed a.rate a.long_term a.coins.now in
    record {
      parts = run_more (part_in a.coins.now) (part_at run) a.groups.now.items c.loop-place.groups.items c.push.new.self.items c.loop-place.place c.hundred_at.result items kept.parts c.hundred_at.ensures.part;
      each = λ old. subst (λ (fs : List Formed). All P fs) (sym items) (All-push P c.loop-place.groups.items c.hundred_at.result (kept.each old) c.hundred_at.ensures.formed);
    }

pub returns-clause-parts : goal.returns-clause-parts
unfolding parts_of
returns-clause-parts c =
    let a = c.args in
    let run = run_of a.coins.now a.start a.end in
    let long : a.end - a.start ≡ length run = omega (arith, length-take (a.end - a.start) (drop a.start a.coins.now), length-drop a.start a.coins.now, c.requires.within) in
    let place : c.loop-place.place ≡ c.div_ceil-count.result = omega arith in
    let count : c.loop-place.place ≡ div_ceil (length run) 100 = place ∙ c.div_ceil-count.ensures ∙ ap (λ (n : ℕ). div_ceil n 100) long in
    c.loop-place.invariant.parts ∙ ap (λ (n : ℕ). map (part_in a.coins.now) a.groups.now.items ++ map (part_at run) (range_with_len 0 n)) count
