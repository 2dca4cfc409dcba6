use Rattle.std.proofs.Common.{◌≡◌, ◌∙◌, ◌-◌, ◌<◌, Bool, List, Option, None, Some, cond, length, take, sym, ap, subst, arith, Vec, Global}
use Rattle.std.specs.Prelude.{is_some}
use Rattle.fund_base.specs.Outpoints.{same_outpoint}
use Rattle.fund_base.specs.declared.outpoint.OutPoint.{OutPoint}
use Rattle.coin_book.specs.Places.{AreKept, shown, spends_in}
use Rattle.coin_book.specs.declared.coin.Spend.{Spend}
use Rattle.coin_book.proofs.PlaceSteps.{Lists, cut_at, held_at, kept_cut, kept_removed, list_under, removed_at, seen}
use Rattle.coin_book.proofs.spends.Spends.cut.Goals as goal

pub invariant_of-self : goal.invariant_of-self
invariant_of-self c =
    let there : list_under c.self.inside.lists.entries c.args.point.now ≡ Some c.in-Some.list.now = sym c.in-Some.ensures.value in
    let written = (c.get_mut.follows.holds c.truncate.new.self).3 (ap (λ (l : Option (Vec Spend Global)). is_some l) there) in
    kept_cut c.self.inside.all.items c.self.inside.places.entries c.self.inside.lists.entries (c.get_mut.follows.lender c.truncate.new.self).entries c.args.point.now c.in-Some.list.now c.truncate.new.self c.self.invariant there
    (λ o. written.0 o)

pub invariant_of-self-then-count-gt0 : goal.invariant_of-self-then-count-gt0
invariant_of-self-then-count-gt0 c =
    let none : list_under c.self.inside.lists.entries c.args.point.now ≡ None = sym c.in-None.ensures.value in
    subst (λ (es : Lists). AreKept c.self.inside.all.items c.swap_remove.new.self.entries es) (λ j. (sym c.get_mut.follows.holds-at-none j).entries)
    (kept_removed c.self.inside.all.items c.self.inside.places.entries c.swap_remove.new.self.entries c.self.inside.lists.entries c.args.point.now c.self.invariant none (λ o. c.swap_remove.ensures.updates.0 o))

pub returns-in-Some : goal.returns-in-Some
returns-in-Some c = λ o.
    let all = c.self.inside.all.items in
    let places = c.self.inside.places.entries in
    let lists = c.self.inside.lists.entries in
    let new = (c.get_mut.follows.lender c.truncate.new.self).entries in
    let p = c.args.point.now in
    let there : list_under lists p ≡ Some c.in-Some.list.now = sym c.in-Some.ensures.value in
    let written = (c.get_mut.follows.holds c.truncate.new.self).3 (ap (λ (l : Option (Vec Spend Global)). is_some l) there) in
    let cut : c.truncate.new.self.items ≡ take (length c.in-Some.list.now.items - c.args.count) c.in-Some.list.now.items =
    c.truncate.ensures.items ∙ ap (λ n. take n c.in-Some.list.now.items) (c.saturating_sub-kept.ensures ∙ ap (λ n. n - c.args.count) (c.len.ensures ∙ c.in-Some.list.now.ok.0))
    in
    let was : held_at all places lists o ≡ spends_in c.args.self.now o = sym (seen all places lists o) ∙ ap (λ (es : List (OutPoint × List Spend)). spends_in es o) c.self.view_is in
    seen all places new o
    ∙ cut_at all places lists new p o c.in-Some.list.now c.truncate.new.self c.args.count c.self.invariant there cut (written.0 o)
    ∙ ap (λ (l : List Spend). cond (same_outpoint p o) (take (length l - c.args.count) l) l) was

pub returns-then-count-gt0 : goal.returns-then-count-gt0
returns-then-count-gt0 c = λ o.
    let all = c.self.inside.all.items in
    let places = c.self.inside.places.entries in
    let lists = c.self.inside.lists.entries in
    let new = c.swap_remove.new.self.entries in
    let p = c.args.point.now in
    let none : list_under lists p ≡ None = sym c.in-None.ensures.value in
    let some : 0 < c.args.count = omega (arith, c.if-count-gt0.true) in
    let was : held_at all places lists o ≡ spends_in c.args.self.now o = sym (seen all places lists o) ∙ ap (λ (es : List (OutPoint × List Spend)). spends_in es o) c.self.view_is in
    (λ j. spends_in (shown all new (c.get_mut.follows.holds-at-none j).entries) o)
    ∙ seen all new lists o
    ∙ removed_at all places new lists p o c.args.count none some (c.swap_remove.ensures.updates.0 o)
    ∙ ap (λ (l : List Spend). cond (same_outpoint p o) (take (length l - c.args.count) l) l) was
