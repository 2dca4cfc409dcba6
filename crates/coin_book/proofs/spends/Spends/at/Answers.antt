use Rattle.std.proofs.Common.{◌≡◌, ◌∙◌, ◌<◌, ◌∷◌, [], List, Option, length, refl, sym, ap, subst, arith, Vec, Global}
use Rattle.std.specs.Option.{option_map_or, option_to_list}
use Rattle.std.specs.Prelude.{slice_get}
use Rattle.std.proofs.lemmas.Option.{slice_get_read}
use Rattle.fund_base.specs.declared.outpoint.OutPoint.{OutPoint}
use Rattle.coin_book.specs.Places.{list_at, spends_in}
use Rattle.coin_book.specs.declared.coin.Spend.{Spend}
use Rattle.coin_book.proofs.PlaceSteps.{IsWithin, at_place, or_list, seen}
use Rattle.coin_book.proofs.spends.Spends.at.Goals as goal

pub returns-in_default : goal.returns-in_default
returns-in_default c =
    let all = c.self.inside.all.items in
    let lists = c.self.inside.lists.entries in
    let o = c.args.point.now in
    ap (at_place all lists o) c.in_default.ensures.value
    ∙ sym (seen all c.self.inside.places.entries lists o)
    ∙ ap (λ (es : List (OutPoint × List Spend)). spends_in es o) c.self.view_is

pub index-requires : goal.index-requires
index-requires c =
    let lt : c.in-Some.place.now < length c.self.inside.all.items = subst (IsWithin c.self.inside.all.items) (sym c.in-Some.ensures.value) (c.self.invariant.within c.args.point.now) in
    let l = c.self.inside.all.ok.0 in
    omega (arith, lt, l)

pub returns-in-Some-get : goal.returns-in-Some-get
returns-in-Some-get c =
    let all = c.self.inside.all.items in
    let lists = c.self.inside.lists.entries in
    let o = c.args.point.now in
    c.as_slice.ensures.value
    ∙ ap (or_list (option_to_list (slice_get all c.in-Some.place.now))) c.in-Some-get.ensures.value
    ∙ ap (at_place all lists o) c.in-Some.ensures.value
    ∙ sym (seen all c.self.inside.places.entries lists o)
    ∙ ap (λ (es : List (OutPoint × List Spend)). spends_in es o) c.self.view_is

pub returns-in-None : goal.returns-in-None
returns-in-None c =
    let all = c.self.inside.all.items in
    let lists = c.self.inside.lists.entries in
    let o = c.args.point.now in
    let lt : c.in-Some.place.now < length all = subst (IsWithin all) (sym c.in-Some.ensures.value) (c.self.invariant.within o) in
    let found = slice_get_read all (length all) c.in-Some.place.now c.index.result.now refl lt c.index.ensures in
    c.from_ref.ensures.value
    ∙ ap (λ (s : Option Spend). option_to_list s) (sym found)
    ∙ ap (or_list (option_to_list (slice_get all c.in-Some.place.now))) c.in-None.ensures.value
    ∙ ap (at_place all lists o) c.in-Some.ensures.value
    ∙ sym (seen all c.self.inside.places.entries lists o)
    ∙ ap (λ (es : List (OutPoint × List Spend)). spends_in es o) c.self.view_is
