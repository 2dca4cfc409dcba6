use Rattle.std.proofs.Common.{◌≡◌, ◌∙◌, ◌<◌, List, Some, length, refl, sym, ap, subst, arith}
use Rattle.std.specs.Prelude.{slice_get}
use Rattle.std.proofs.lemmas.Option.{slice_get_read}
use Rattle.fund_base.specs.declared.outpoint.OutPoint.{OutPoint}
use Rattle.coin_book.specs.Places.{spends_in}
use Rattle.coin_book.specs.declared.coin.Spend.{Spend}
use Rattle.coin_book.proofs.ListSteps.{on_err}
use Rattle.coin_book.proofs.PlaceSteps.{IsWithin, again_ok, first_shown, kept_longer, kept_put, same_err, seen, still}
use Rattle.coin_book.proofs.spends.Spends.put.Goals as goal

pub index-first-requires : goal.index-first-requires
index-first-requires c =
    let lt : c.in-Some.place.now < length c.self.inside.all.items = subst (IsWithin c.self.inside.all.items) (sym c.in-Some.ensures.value) (c.self.invariant.within c.args.point.now) in
    let l = c.self.inside.all.ok.0 in
    omega (arith, lt, l)

pub invariant_of-self : goal.invariant_of-self
invariant_of-self c =
    kept_put c.self.inside.all.items c.self.inside.places.entries c.self.inside.lists.entries c.put_again.new.lists.entries c.args.point.now c.in-Some.place.now c.put_again.result c.self.invariant (sym c.in-Some.ensures.value)
    c.put_again.ensures.listed c.put_again.ensures.kept_listed

pub returns-in_err-place-in-None-clause-kept : goal.returns-in_err-place-in-None-clause-kept
returns-in_err-place-in-None-clause-kept c = λ o.
    let all = c.self.inside.all.items in
    let places = c.self.inside.places.entries in
    let lists = c.self.inside.lists.entries in
    on_err c.from_residual.result
    (still all c.place_of.new.all.items places places lists o (spends_in c.args.self.now o) c.self.invariant c.place_of.ensures.kept refl (sym (seen all places lists o) ∙ ap (λ (es : List (OutPoint × List Spend)). spends_in es o) c.self.view_is))

pub returns-in_err-insert-in-None-clause-kept : goal.returns-in_err-insert-in-None-clause-kept
returns-in_err-insert-in-None-clause-kept c = λ o.
    let all = c.self.inside.all.items in
    let places = c.self.inside.places.entries in
    let lists = c.self.inside.lists.entries in
    on_err c.from_residual-in_err-insert-in-None.result
    (still all c.place_of.new.all.items places c.insert.new.self.entries lists o (spends_in c.args.self.now o) c.self.invariant c.place_of.ensures.kept c.in_err-insert-in-None.ensures.err
    (sym (seen all places lists o) ∙ ap (λ (es : List (OutPoint × List Spend)). spends_in es o) c.self.view_is))

pub invariant_of-self-in-None : goal.invariant_of-self-in-None
invariant_of-self-in-None c =
    kept_longer c.self.inside.all.items c.place_of.new.all.items c.self.inside.places.entries c.insert.new.self.entries c.self.inside.lists.entries c.args.point.now c.in_ok-place-in-None.place c.args.spend.now c.self.invariant c.place_of.ensures.kept
    c.in_ok-place-in-None.ensures.place (λ o. c.in_ok-insert-in-None.ensures.updates.0 o)

pub returns-in-Some-clause-grown : goal.returns-in-Some-clause-grown
returns-in-Some-clause-grown c = λ o.
    let all = c.self.inside.all.items in
    let places = c.self.inside.places.entries in
    let lists = c.self.inside.lists.entries in
    let lt : c.in-Some.place.now < length all = subst (IsWithin all) (sym c.in-Some.ensures.value) (c.self.invariant.within c.args.point.now) in
    let found = slice_get_read all (length all) c.in-Some.place.now c.index-first.result.now refl lt c.index-first.ensures in
    again_ok all places lists c.put_again.new.lists.entries c.args.point.now o c.in-Some.place.now c.index-first.result.now c.args.spend.now (spends_in c.args.self.now o) c.put_again.result (sym c.in-Some.ensures.value) found
    (sym (seen all places lists o) ∙ ap (λ (es : List (OutPoint × List Spend)). spends_in es o) c.self.view_is) (c.put_again.ensures.grown o)

pub returns-in-Some-clause-kept : goal.returns-in-Some-clause-kept
returns-in-Some-clause-kept c = λ o.
    let all = c.self.inside.all.items in
    let places = c.self.inside.places.entries in
    let lists = c.self.inside.lists.entries in
    same_err all places lists c.put_again.new.lists.entries o (spends_in c.args.self.now o) c.put_again.result
    (sym (seen all places lists o) ∙ ap (λ (es : List (OutPoint × List Spend)). spends_in es o) c.self.view_is) (c.put_again.ensures.kept o)

pub returns-in_ok-insert-in-None-clause-grown : goal.returns-in_ok-insert-in-None-clause-grown
returns-in_ok-insert-in-None-clause-grown c = λ o.
    let all = c.self.inside.all.items in
    let places = c.self.inside.places.entries in
    let lists = c.self.inside.lists.entries in
    first_shown all c.place_of.new.all.items places c.insert.new.self.entries lists c.args.point.now o c.in_ok-place-in-None.place c.args.spend.now (spends_in c.args.self.now o) c.self.invariant c.place_of.ensures.kept (sym c.in-None.ensures.value)
    c.in_ok-place-in-None.ensures.place (c.in_ok-insert-in-None.ensures.updates.0 o) (sym (seen all places lists o) ∙ ap (λ (es : List (OutPoint × List Spend)). spends_in es o) c.self.view_is)
