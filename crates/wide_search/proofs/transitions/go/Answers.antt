use Rattle.std.proofs.Common.{arith, refl, subst, sym}
use Rattle.wide_search.specs.declared.sums.Sums.{Sums}
use Rattle.wide_search.specs.Stack.{AreSums, with_place}
use Rattle.wide_search.proofs.StackLaws.{has_place, stack_more}
use Rattle.wide_search.proofs.WayLaws.{going_on}
use Rattle.wide_search.proofs.transitions.go.Goals as goal

pub choose-requires : goal.choose-requires
choose-requires c = has_place c.args.prepared.now c.args.t c.args.stack.now c.requires.below c.requires.stack

pub returns-then-next-count-clause-walked : goal.returns-then-next-count-clause-walked
returns-then-next-count-clause-walked c =
    let p = c.args.prepared.now in
    let t = c.args.t in
    let sums : AreSums p (with_place c.args.stack.now t) c.choose.new.self.sums = subst (λ (x : Sums). AreSums p
    (with_place c.args.stack.now t) x) (sym c.choose.ensures.sums) c.requires.sums in
    let stack = stack_more p t c.args.stack.now c.choose.new.self c.requires.below c.requires.stack
    c.choose.ensures.places sums c.choose.ensures.room in
    going_on p t c.args.stack.now.places.items c.args.letters.now.items c.choose.new.self _ c.choose.ensures.places
    c.behind-next.ensures refl stack (omega arith)
