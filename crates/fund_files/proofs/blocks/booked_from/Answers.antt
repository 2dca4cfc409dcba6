use Rattle.std.proofs.Common.{◌∙◌, ap, subst, sym}
use Rattle.wallet_text.specs.PlainWallet.{PlainWallet}
use Rattle.fund_files.specs.Booked.{MayWait}
use Rattle.fund_files.proofs.blocks.booked_from.Goals as goal

pub add_waiting-requires-clause-watched : goal.add_waiting-requires-clause-watched
add_waiting-requires-clause-watched g c =
    let can = c.requires.watched in
    let pending = c.deref.ensures.value ∙ ap (λ (w : PlainWallet). w.pending) c.wallet.view_is in
    record {
      kept = can.kept;
      keeps = c.in-Ok.ensures.keeps can.kept can.keeps;
      each = subst (MayWait can.kept) (sym pending) can.each;
    }

pub returns-in-Ok-add_waiting-clause-keeps : goal.returns-in-Ok-add_waiting-clause-keeps
returns-in-Ok-add_waiting-clause-keeps g c = λ kept keeps. c.in-Ok-add_waiting.ensures.keeps kept (c.in-Ok.ensures.keeps kept keeps)
