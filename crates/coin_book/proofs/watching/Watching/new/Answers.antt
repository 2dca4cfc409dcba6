use Rattle.std.proofs.Common.{◌∙◌, ap, length}
use Rattle.wallet_text.specs.PlainWallet.{PlainWallet}
use Rattle.coin_book.proofs.Started.{start_answer, start_kept}
use Rattle.coin_book.proofs.watching.Watching.new.Goals as goal

pub invariant_of-result : goal.invariant_of-result
invariant_of-result c =
    start_kept c.args.wallet.now c.of.result.value c.args.watched c.in_ok-weights.weights.entries c.deref.result.now c.deref-2.result.now c.in-Ok.ledger c.new.result.items c.new-2.result.items c.new-3.result.entries c.new-4.result.keys c.len.result
    c.of.ensures (c.deref.ensures.value ∙ ap (λ (w : PlainWallet). w.scripts) c.wallet.view_is) (c.deref-2.ensures.value ∙ ap (λ (w : PlainWallet). w.earlier) c.wallet.view_is)
    c.in_ok-weights.ensures c.in-Ok.ensures.holds c.in-Ok.ensures.exact
    c.new.ensures.items c.new-2.ensures.items c.new-3.ensures.empty c.new-4.ensures.empty
    (c.len.ensures ∙ c.wallet.inside.earlier.ok.0 ∙ ap (λ (w : PlainWallet). length w.earlier) c.wallet.view_is)

pub returns-clause-exact : goal.returns-clause-exact
returns-clause-exact c =
    start_answer c.args.wallet.now c.in_ok-weights.weights.entries c.deref.result.now c.deref-2.result.now
    (c.deref.ensures.value ∙ ap (λ (w : PlainWallet). w.scripts) c.wallet.view_is) (c.deref-2.ensures.value ∙ ap (λ (w : PlainWallet). w.earlier) c.wallet.view_is)
    c.in_ok-weights.ensures c.in-Ok.ensures.exact
