use Rattle.std.proofs.Common.{◌≡◌, ◌≢◌, ◌<◌, ◌∙◌, ◌++◌, List, length, map, sym, ap, subst, All, AllPairs}
use Rattle.std.specs.Prelude.{slice_index_or}
use Rattle.coin_candidates.specs.Candidates.{AreCandidates}
use Rattle.coin_candidates.specs.declared.candidate.Candidate.{Candidate}
use Rattle.fund_base.specs.declared.outpoint.OutPoint.{OutPoint}
use Rattle.tx_codec.specs.Transaction.{Transaction}
use Rattle.tx_codec.specs.Txid.{txid_of}
use Rattle.tx_codec.specs.Weight.{weight_of}
use Rattle.fee_rates.specs.Fee.{vsize_of}
use Rattle.wallet_text.specs.PlainWallet.{PlainWallet}
use Rattle.wallet_text.specs.WalletRules.{IsWallet}
use Rattle.request_text.specs.PlainRequest.{PlainRequest}
use Rattle.payment_facts.specs.AnyCoin.{facts_among}
use Rattle.payment_facts.specs.LeftOut.{confirmed_without_of}
use Rattle.payment_states.specs.Makers.{HasMaker}
use Rattle.payment_states.specs.PendingView.{no_tx, tx_at, view_of}
use Rattle.known_fees.specs.Worth.{fee_in, spent_by}
use Rattle.fee_bump.specs.Bump.{added_of, burden_at, fees_in, least_vsize, presets_at, replaced_txids}
use Rattle.fee_bump.proofs.FitLaws.{both_fit, both_made, once_apart, presets_fit}
use Rattle.fee_bump.proofs.bump.terms_for.Goals as goal

pub at-payment-requires : goal.at-payment-requires
at-payment-requires c =
    let pending : c.deref.result.now ≡ c.args.wallet.now.pending = c.deref.ensures.value ∙ ap (λ (w : PlainWallet). w.pending) c.wallet.view_is in
    subst (λ (ts : List Transaction). c.args.place < length ts) (sym pending) c.requires.place

pub may_be_added-requires-clause-gone : goal.may_be_added-requires-clause-gone
may_be_added-requires-clause-gone c = c.requires.gone ∙ sym (c.deref-2.ensures.value ∙ c.requires.names)

pub burden-burden-requires-clause-presets : goal.burden-burden-requires-clause-presets
burden-burden-requires-clause-presets c =
    let rules : IsWallet c.args.wallet.now = subst IsWallet c.wallet.view_is c.wallet.invariant in
    let apart = subst (λ (ps : List OutPoint). AllPairs (λ (a b : OutPoint). a ≢ b) ps) (sym (c.as_slice.ensures.keys ∙ c.in_ok-points.ensures)) (once_apart _) in
    subst AreCandidates (sym (c.deref-3.ensures.value ∙ c.in_ok-presets.ensures.exact))
    (presets_fit c.args.wallet.now c.args.book.now c.args.tip _ rules c.requires.book c.keeps_rules.ensures c.deref-2.result.now c.as_slice.result.now apart)

pub returns-clause-terms : goal.returns-clause-terms
unfolding presets_at
returns-clause-terms c =
    let h = c.args.book.now in
    let w = c.args.wallet.now in
    let tip = c.args.tip in
    let v = view_of w h in
    let i = c.args.place in
    let pending : c.deref.result.now ≡ w.pending = c.deref.ensures.value ∙ ap (λ (w : PlainWallet). w.pending) c.wallet.view_is in
    let payment : c.at-payment.result.now ≡ tx_at v i = c.at-payment.ensures ∙ ap (λ (ts : List Transaction). slice_index_or ts i no_tx) pending in
    let spent : c.in_ok-points.points.keys ≡ spent_by (tx_at v i) = c.in_ok-points.ensures ∙ ap spent_by payment in
    let rate = ap (λ (r : PlainRequest). r.rate) c.request.view_is in
    let n = c.args.request.now.rate in
    let presets : c.in_ok-presets.presets.items ≡ presets_at w h tip n i =
    c.in_ok-presets.ensures.exact ∙ (λ k. facts_among w h tip (rate k) ((c.as_slice.ensures.keys ∙ spent) k)) in
    let gone : c.deref-2.result.now ≡ replaced_txids v i = c.deref-2.ensures.value ∙ c.requires.names ∙ ap (map txid_of) c.requires.txs in
    let candidates = c.in_ok-candidates.ensures n ∙ (λ k. added_of (facts_among w h tip n (spent k)) (confirmed_without_of w h tip (gone k)) (gone k)) in
    let fees = c.in_ok-fees.ensures.value ∙ ap (fees_in h) c.requires.txs in
    let burden = c.burden-burden.ensures.value ∙ (λ k. burden_at (fees k) (least_vsize c.args.request.now ((c.deref-3.ensures.value ∙ presets) k)) c.args.request.now.rate) in
    let names = c.requires.names ∙ ap (map txid_of) c.requires.txs in
    let old_fee = c.requires.old_fee ∙ ap (λ (ts : List Transaction). fee_in h ts (tx_at v i)) c.requires.txs in
    let old_vsize = c.vsize.ensures.value ∙ ap vsize_of (c.weight.ensures ∙ ap weight_of payment) in
    λ k. record { presets = presets k; candidates = candidates k; burden = burden k; replaced = names k; old_fee = old_fee k; old_vsize = old_vsize k }

pub returns-clause-fit : goal.returns-clause-fit
returns-clause-fit c =
    let rules : IsWallet c.args.wallet.now = subst IsWallet c.wallet.view_is c.wallet.invariant in
    let apart = subst (λ (ps : List OutPoint). AllPairs (λ (a b : OutPoint). a ≢ b) ps) (sym c.in_ok-points.ensures) (once_apart _) in
    let rate = ap (λ (r : PlainRequest). r.rate) c.request.view_is in
    let n = c.args.request.now.rate in
    let presets = c.in_ok-presets.ensures.exact ∙ (λ k. facts_among c.args.wallet.now c.args.book.now c.args.tip (rate k) (c.as_slice.ensures.keys k)) in
    subst AreCandidates (sym (λ k. presets k ++ c.in_ok-candidates.ensures n k))
    (both_fit c.args.wallet.now c.args.book.now c.args.tip n rules c.requires.book c.keeps_rules.ensures c.deref-2.result.now c.in_ok-points.points.keys apart)

pub returns-clause-makers : goal.returns-clause-makers
returns-clause-makers c =
    let rules : IsWallet c.args.wallet.now = subst IsWallet c.wallet.view_is c.wallet.invariant in
    let apart = subst (λ (ps : List OutPoint). AllPairs (λ (a b : OutPoint). a ≢ b) ps) (sym c.in_ok-points.ensures) (once_apart _) in
    let rate = ap (λ (r : PlainRequest). r.rate) c.request.view_is in
    let n = c.args.request.now.rate in
    let presets = c.in_ok-presets.ensures.exact ∙ (λ k. facts_among c.args.wallet.now c.args.book.now c.args.tip (rate k) (c.as_slice.ensures.keys k)) in
    subst (λ (l : List Candidate). All (HasMaker c.args.book.now) l) (sym (λ k. presets k ++ c.in_ok-candidates.ensures n k))
    (both_made c.args.wallet.now c.args.book.now c.args.tip n rules c.requires.book c.keeps_rules.ensures c.deref-2.result.now c.in_ok-points.points.keys apart)
