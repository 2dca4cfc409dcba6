use Rattle.std.proofs.Common.{◌∙◌, List, ap, refl, subst, sym}
use Rattle.std.specs.Prelude.{All, string_bytes}
use Rattle.coin_candidates.specs.declared.candidate.Candidate.{Candidate}
use Rattle.payment_states.specs.Makers.{HasMaker}
use Rattle.fund_files.specs.Chain.{HasTexts}
use Rattle.fund_files.specs.declared.chain.Chain.{Chain}
use Rattle.fund_payment.proofs.ParentLaws.{held_texts}
use Rattle.fund_payment.specs.Shown.{ShowsCoins}
use Rattle.psbt_codec.specs.Psbt.{IsPsbt}
use Rattle.request_text.specs.PlainRequest.{PlainRequest}
use Rattle.command_amounts.proofs.SignLaws.{always, signed_is, text_is}
use Rattle.command_amounts.specs.Signing.{psbt_from}
use Rattle.command_amounts.proofs.signing.payment_text.Goals as goal

pub psbt-requires-clause-texts : goal.psbt-requires-clause-texts
psbt-requires-clause-texts c = subst HasTexts (sym (c.known-book.ensures ∙ ap (λ (k : Chain). k.book) c.held.view_is)) (held_texts c.args.held.now c.requires.held)

pub returns-clause-value : goal.returns-clause-value
returns-clause-value c =
    let a = c.args in
    let book = c.known-book.ensures ∙ ap (λ (k : Chain). k.book) c.held.view_is in
    let own = ap (λ (k : Chain). k.wallet.change) c.held.view_is in
    let is = c.in_ok-signed.ensures.value ∙ signed_is _ a.held.now.book a.request.now _ a.held.now.wallet.change _ a.coins.items a.change book own c.from_coins-funded.ensures.coins c.from_coins-funded.ensures.change in
    text_is string_bytes c.write_text.result _ _ _ _ (ap (λ (r : PlainRequest). r.psbt) c.request.view_is) is c.write_text.ensures

pub returns-clause-fits : goal.returns-clause-fits
returns-clause-fits c =
    let a = c.args in
    let book = c.known-book.ensures ∙ ap (λ (k : Chain). k.book) c.held.view_is in
    let own = ap (λ (k : Chain). k.wallet.change) c.held.view_is in
    let is = c.in_ok-signed.ensures.value ∙ signed_is _ a.held.now.book a.request.now _ a.held.now.wallet.change _ a.coins.items a.change book own c.from_coins-funded.ensures.coins c.from_coins-funded.ensures.change in
    always c.write_text.result (subst IsPsbt is c.in_ok-signed.ensures.fits)

pub returns-clause-shows : goal.returns-clause-shows
returns-clause-shows c =
    let a = c.args in
    let f = c.from_coins-funded in
    let shown = c.inputs_show_coins.ensures a.held.now.book a.request.now a.held.now.wallet.change f.result (subst (λ (l : List Candidate). All (HasMaker a.held.now.book) l) (sym f.ensures.coins) c.requires.makers) in
    let is = signed_is a.held.now.book a.held.now.book a.request.now a.held.now.wallet.change a.held.now.wallet.change f.result a.coins.items a.change refl refl f.ensures.coins f.ensures.change in
    always c.write_text.result (subst (λ (l : List Candidate). ShowsCoins l (psbt_from a.held.now.book a.request.now a.held.now.wallet.change a.coins.items a.change)) f.ensures.coins (subst (ShowsCoins f.result.coins) is shown))
