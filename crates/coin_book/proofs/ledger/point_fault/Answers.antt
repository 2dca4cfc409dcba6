use Rattle.std.proofs.Common.{◌∙◌, Some, ap, false, refl, sym, true}
use Rattle.coin_book.proofs.MapSteps.{fault_full, fault_two}
use Rattle.coin_book.proofs.ledger.point_fault.Goals as goal

pub returns-then-not-has_room : goal.returns-then-not-has_room
returns-then-not-has_room c =
    ap Some c.fault_beside.ensures ∙ sym (fault_full c.args.base.now.entries c.args.coins.now.entries c.args.point c.args.point refl (sym c.has_room.ensures ∙ c.if-not-has_room.true))

pub returns-then-stands : goal.returns-then-stands
returns-then-stands c =
    sym (fault_two c.args.base.now.entries c.args.coins.now.entries c.args.point c.args.point true true refl (sym c.if-stands.true ∙ c.stands.ensures) (sym c.if-not-has_room.false ∙ c.has_room.ensures))

pub returns : goal.returns
returns c =
    sym (fault_two c.args.base.now.entries c.args.coins.now.entries c.args.point c.args.point false true refl (sym c.if-stands.false ∙ c.stands.ensures) (sym c.if-not-has_room.false ∙ c.has_room.ensures))
