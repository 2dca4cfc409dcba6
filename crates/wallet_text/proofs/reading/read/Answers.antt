use Rattle.std.proofs.Common.{Result, subst, sym}
use Rattle.json_fields.specs.Tree.{view}
use Rattle.wallet_text.specs.PlainWallet.{PlainWallet}
use Rattle.wallet_text.specs.Reported.{Gives}
use Rattle.wallet_text.specs.declared.fault.Refusal.{Refusal}
use Rattle.wallet_text.proofs.PartLaws.{parts_of}
use Rattle.wallet_text.proofs.reading.read.Goals as goal

pub returns : goal.returns
returns c =
    subst (λ (r : Result PlainWallet Refusal). Gives (λ w. w) c.wallet_of.result r) (sym (parts_of c.args.bytes.now (view c.in_ok-value.value) c.in_ok-value.ensures)) c.wallet_of.ensures.gives
