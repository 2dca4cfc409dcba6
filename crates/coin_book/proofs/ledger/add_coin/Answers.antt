use Rattle.std.proofs.Common.{◌≡◌, ◌∙◌, ap, sym, subst, Some, None, arith}
use Rattle.std.proofs.lemmas.Grind.{common_steps}
use Rattle.std.specs.Map.{lookup}
use Rattle.indexmap.proofs.CallerLemmas.{insert_entry-new}
use Rattle.indexmap.specs.Entry.{MatchEntry, entry_key, entry_value}
use Rattle.indexmap.specs.IndexMap.{ContainsKey, get, get_key}
use Rattle.fund_base.specs.Outpoints.{same_outpoint}
use Rattle.coin_book.specs.Merging.{held_point}
use Rattle.coin_book.proofs.MapSteps.{fault_before, fault_beside, fault_free, fault_full}
use Rattle.coin_book.proofs.ledger.add_coin.Goals as goal

pub returns-then-not-has_room-clause-exact : goal.returns-then-not-has_room-clause-exact
returns-then-not-has_room-clause-exact c = λ _.
    fault_full c.args.base.now.entries c.args.coins.now.entries (held_point c.args.held) c.args.point c.requires (sym c.has_room.ensures ∙ c.if-not-has_room.true)
    ∙ ap Some (sym c.fault_beside.ensures)

pub returns-then-is_there-clause-exact : goal.returns-then-is_there-clause-exact
returns-then-is_there-clause-exact c = λ _.
    fault_before c.args.base.now.entries c.args.coins.now.entries (held_point c.args.held) c.args.point c.requires (sym c.is_there.ensures ∙ c.if-is_there.true)

pub returns-in_err-place-clause-short : goal.returns-in_err-place-clause-short
returns-in_err-place-clause-short c = λ _.
    fault_free c.args.base.now.entries c.args.coins.now.entries (held_point c.args.held) c.args.point c.requires (sym c.is_there.ensures ∙ c.if-is_there.false) c.in_err-place.ensures.absent (sym c.has_room.ensures ∙ c.if-not-has_room.false)

pub returns-in-Vacant-clause-added : goal.returns-in-Vacant-clause-added
unfolding entry_value
returns-in-Vacant-clause-added c =
    let none : lookup (same_outpoint c.args.point) c.args.coins.now.entries ≡ None = sym c.in_ok-place.ensures.value ∙ ap entry_value c.in-Vacant.is in
    let put = c.in_ok-place.ensures.update.1 c.args.held in
    let last = insert_entry-new same_outpoint c.args.coins.now c.args.point c.args.held none in
    grind (arith, common_steps, put, last, c.requires, c.in-Vacant.is)

pub returns-in-Vacant-clause-exact : goal.returns-in-Vacant-clause-exact
unfolding entry_value
returns-in-Vacant-clause-exact c =
    let none : lookup (same_outpoint c.args.point) c.args.coins.now.entries ≡ None = sym c.in_ok-place.ensures.value ∙ ap entry_value c.in-Vacant.is in
    fault_free c.args.base.now.entries c.args.coins.now.entries (held_point c.args.held) c.args.point c.requires (sym c.is_there.ensures ∙ c.if-is_there.false) none (sym c.has_room.ensures ∙ c.if-not-has_room.false)

pub returns-in-Occupied-clause-exact : goal.returns-in-Occupied-clause-exact
returns-in-Occupied-clause-exact c = λ _.
    let there = subst (λ e. MatchEntry e (ContainsKey same_outpoint c.args.coins.now c.args.point × (get_key same_outpoint c.args.coins.now c.args.point ≡ Some (entry_key e))) (get same_outpoint c.args.coins.now c.args.point ≡ None)) c.in-Occupied.is c.in_ok-place.ensures.found in
    fault_beside c.args.base.now.entries c.args.coins.now.entries (held_point c.args.held) c.args.point c.requires (sym c.is_there.ensures ∙ c.if-is_there.false) there.0
