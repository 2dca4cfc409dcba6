use Rattle.std.proofs.Common.{◌≡◌, ◌∙◌, ◌++◌, ◌∷◌, [], List, Option, ap, sym, cond, Some, arith, Vec, Global}
use Rattle.std.proofs.lemmas.Grind.{common_steps}
use Rattle.std.specs.Prelude.{is_some}
use Rattle.std.specs.Map.{lookup}
use Rattle.indexmap.specs.Entry.{entry_value, map_with_value}
use Rattle.fund_base.specs.Outpoints.{same_outpoint}
use Rattle.fund_base.specs.declared.outpoint.OutPoint.{OutPoint}
use Rattle.fund_base.proofs.OutpointLaws.{same_outpoint-Decides}
use Rattle.coin_book.specs.Places.{list_at}
use Rattle.coin_book.specs.declared.coin.Spend.{Spend}
use Rattle.coin_book.proofs.PlaceSteps.{list_under, or_list, write_at, write_listed, write_new, write_same}
use Rattle.coin_book.proofs.spends.put_again.Goals as goal

pub returns-in_err-push-in-Occupied-clause-kept : goal.returns-in_err-push-in-Occupied-clause-kept
returns-in_err-push-in-Occupied-clause-kept c = λ o other.
    let old = c.args.lists.now.entries in
    let new = c.push.new.self in
    let p = c.args.point.now in
    let held : list_under old p ≡ Some c.into_mut.result.now = sym c.in_ok-held.ensures.value ∙ ap entry_value c.in-Occupied.is ∙ c.into_mut.ensures.value in
    let same : list_at (map_with_value c.in_ok-held.field-0 new).entries o other ≡ list_at old o other =
    ap (or_list other) ((c.in_ok-held.ensures.update.0 new).0 o)
    ∙ write_at (same_outpoint p o) new (list_under old o) other
    ∙ write_same (same_outpoint p o) new.items (list_at old o other)
    (λ e. c.in_err-push-in-Occupied.ensures.items ∙ sym (ap (or_list other) held) ∙ ap (λ (q : OutPoint). list_at old q other) ((same_outpoint-Decides p o).0 e))
    in
    grind (arith, common_steps, same, c.in-Occupied.is)

pub returns-in_err-push-in-Occupied-clause-kept_listed : goal.returns-in_err-push-in-Occupied-clause-kept_listed
returns-in_err-push-in-Occupied-clause-kept_listed c = λ o.
    let old = c.args.lists.now.entries in
    let new = c.push.new.self in
    let p = c.args.point.now in
    let held : list_under old p ≡ Some c.into_mut.result.now = sym c.in_ok-held.ensures.value ∙ ap entry_value c.in-Occupied.is ∙ c.into_mut.ensures.value in
    let same : is_some (list_under (map_with_value c.in_ok-held.field-0 new).entries o) ≡ is_some (list_under old o) =
    ap (λ (l : Option (Vec Spend Global)). is_some l) ((c.in_ok-held.ensures.update.0 new).0 o)
    ∙ write_listed (same_outpoint p o) new (list_under old o) (λ e. ap (λ (q : OutPoint). is_some (list_under old q)) (sym ((same_outpoint-Decides p o).0 e)) ∙ ap (λ (l : Option (Vec Spend Global)). is_some l) held)
    in
    grind (arith, common_steps, same, c.in-Occupied.is)

pub returns-in_ok-push-in-Occupied-clause-grown : goal.returns-in_ok-push-in-Occupied-clause-grown
returns-in_ok-push-in-Occupied-clause-grown c = λ o other.
    let old = c.args.lists.now.entries in
    let new = c.push.new.self in
    let p = c.args.point.now in
    let one = c.args.first.now ∷ [] in
    let held : list_under old p ≡ Some c.into_mut.result.now = sym c.in_ok-held.ensures.value ∙ ap entry_value c.in-Occupied.is ∙ c.into_mut.ensures.value in
    let more : list_at (map_with_value c.in_ok-held.field-0 new).entries o other ≡ cond (same_outpoint p o) (list_at old o one ++ c.args.spend.now ∷ []) (list_at old o other) =
    ap (or_list other) ((c.in_ok-held.ensures.update.0 new).0 o)
    ∙ write_at (same_outpoint p o) new (list_under old o) other
    ∙ write_new (same_outpoint p o) new.items (list_at old o one ++ c.args.spend.now ∷ []) (list_at old o other)
    (λ e. c.in_ok-push-in-Occupied.ensures.items ∙ ap (λ (l : List Spend). l ++ c.args.spend.now ∷ []) (sym (ap (or_list one) held) ∙ ap (λ (q : OutPoint). list_at old q one) ((same_outpoint-Decides p o).0 e)))
    in
    grind (arith, common_steps, more, c.in-Occupied.is)
