use Rattle.std.proofs.Common.{◌≡◌, ◌∙◌, ap, sym, refl, [], ◌++◌, ◌∷◌, map, None}
use Rattle.std.specs.Prelude.{List}
use Rattle.std.specs.Map.{keys_of}
use Rattle.coin_book.specs.declared.held.Held.{Held}
use Rattle.std.proofs.lemmas.List.{append-nil, map-append}
use Rattle.coin_book.specs.Faults.{fault_behind}
use Rattle.std.specs.Vec.Iter.{into_iter_items}
use Rattle.coin_book.specs.Merging.{held_point}
use Rattle.coin_book.proofs.MapSteps.{whole_more, fault_among, added_more, fault_next, stops_short}
use Rattle.coin_book.proofs.ledger.add_coins.Goals as goal

pub loop-one-init : goal.loop-one-init
unfolding fault_behind
loop-one-init c = record {
  added = sym (append-nil c.args.coins.now.entries);
  whole = c.into_iter-one-iterator.ensures.into_iter_gives.0;
  fresh = refl;
}

pub loop-one-preserved : goal.loop-one-preserved
loop-one-preserved c = record {
  added = added_more c.args.coins.now.entries c.loop-one.coins.entries c.add_coin.new.coins.entries c.loop-one.yielded c.in-Some.one c.loop-one.invariant.added c.in-Ok.ensures.added;
  whole = whole_more c.loop-one.yielded (into_iter_items c.next.new.self) (into_iter_items c.loop-one.one-iterator) c.in-Some.one c.args.held.items c.in-Some.ensures.steps.0 c.loop-one.invariant.whole;
  fresh = fault_next (keys_of c.args.base.now.entries) c.args.coins.now.entries c.loop-one.coins.entries c.loop-one.yielded c.in-Some.one None c.loop-one.invariant.added c.loop-one.invariant.fresh c.in-Ok.ensures.exact;
}

pub returns-in-Err-clause-exact : goal.returns-in-Err-clause-exact
returns-in-Err-clause-exact c = λ other.
    let before = keys_of c.args.base.now.entries ++ keys_of c.args.coins.now.entries in
    let front = c.loop-one.yielded in
    let rest = into_iter_items c.next.new.self in
    let all : c.args.held.items ≡ (front ++ c.in-Some.one ∷ []) ++ rest = sym (whole_more front rest (into_iter_items c.loop-one.one-iterator) c.in-Some.one c.args.held.items c.in-Some.ensures.steps.0 c.loop-one.invariant.whole) in
    ap (λ (hs : List Held). fault_behind before (map held_point hs)) all
    ∙ ap (fault_behind before) (map-append held_point (front ++ c.in-Some.one ∷ []) rest)
    ∙ fault_among before (map held_point (front ++ c.in-Some.one ∷ [])) (map held_point rest) c.in-Err.fault
    (fault_next (keys_of c.args.base.now.entries) c.args.coins.now.entries c.loop-one.coins.entries front c.in-Some.one _ c.loop-one.invariant.added c.loop-one.invariant.fresh refl ∙ c.in-Err.ensures.exact other)

pub returns-in-Err-clause-short : goal.returns-in-Err-clause-short
returns-in-Err-clause-short c = λ is.
    let front = c.loop-one.yielded in
    let rest = into_iter_items c.next.new.self in
    stops_short (keys_of c.args.base.now.entries) c.args.coins.now.entries c.loop-one.coins.entries c.add_coin.new.coins.entries front rest c.args.held.items c.in-Some.one c.loop-one.invariant.added c.loop-one.invariant.fresh
    (whole_more front rest (into_iter_items c.loop-one.one-iterator) c.in-Some.one c.args.held.items c.in-Some.ensures.steps.0 c.loop-one.invariant.whole)
    c.in-Err.ensures.kept (c.in-Err.ensures.short is)
