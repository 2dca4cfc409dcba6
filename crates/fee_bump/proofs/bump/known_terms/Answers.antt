use Rattle.std.proofs.Common.{◌≡◌, ◌≢◌, ◌∙◌, Option, Some, None, IfErr, IfOk, ap, subst, sym}
use Rattle.std.specs.Prelude.{OnOk}
use Rattle.wallet_text.specs.WalletRules.{IsWallet}
use Rattle.request_text.specs.PlainRequest.{PlainRequest}
use Rattle.payment_states.specs.ByPlace.{place_among}
use Rattle.fee_bump.specs.Bump.{PlainTerms, terms_of}
use Rattle.fee_bump.specs.Faults.{fault_of, pending_fault, signal_fault}
use Rattle.fee_bump.specs.declared.fault.BumpFault.{BumpFault}
use Rattle.fee_bump.specs.declared.fault.BumpFault.TheVariants as faults
use Rattle.fee_bump.proofs.BumpSteps.{not_pending, not_there, past_pending, pending_real, place_stands, some_told, state_asked, terms_there}
use Rattle.fee_bump.proofs.TermLaws.{preset_some}
use Rattle.fee_bump.proofs.bump.known_terms.Goals as goal

pub returns-in_default-place-clause-fault : goal.returns-in_default-place-clause-fault
returns-in_default-place-clause-fault c = λ _.
    let w = c.args.wallet.now in
    let h = c.args.book.now in
    let r = c.args.request.now in
    let ps = c.args.states.now in
    let asked : r.bump ≡ Some c.in-Some.txid = sym (ap (λ (q : PlainRequest). q.bump) c.request.view_is) ∙ c.in-Some.is in
    not_there w h r ps c.in-Some.txid asked c.requires.states (sym c.place.ensures ∙ c.in_default-place.is)

pub returns-in_default-place-clause-short : goal.returns-in_default-place-clause-short
returns-in_default-place-clause-short c = λ e. cc

pub returns-in-Some-pending_fault-clause-fault : goal.returns-in-Some-pending_fault-clause-fault
returns-in-Some-pending_fault-clause-fault c = λ _.
    let w = c.args.wallet.now in
    let h = c.args.book.now in
    let r = c.args.request.now in
    let ps = c.args.states.now in
    let asked : r.bump ≡ Some c.in-Some.txid = sym (ap (λ (q : PlainRequest). q.bump) c.request.view_is) ∙ c.in-Some.is in
    not_pending w h r ps c.in-Some.txid asked c.requires.states c.state.result c.in-Some-pending_fault.fault c.state.ensures (sym c.pending_fault.ensures ∙ c.in-Some-pending_fault.is)

pub returns-in-Some-pending_fault-clause-short : goal.returns-in-Some-pending_fault-clause-short
returns-in-Some-pending_fault-clause-short c = λ e.
    let same : c.in-Some-pending_fault.fault ≡ faults.Memory = cc in
    absurd (pending_real c.state.result (sym c.pending_fault.ensures ∙ c.in-Some-pending_fault.is ∙ ap (λ (x : BumpFault). Some x) same))

pub waiting-requires-clause-place : goal.waiting-requires-clause-place
waiting-requires-clause-place c =
    let w = c.args.wallet.now in
    let h = c.args.book.now in
    let r = c.args.request.now in
    let ps = c.args.states.now in
    let asked : r.bump ≡ Some c.in-Some.txid = sym (ap (λ (q : PlainRequest). q.bump) c.request.view_is) ∙ c.in-Some.is in
    let there : place_among ps c.in-Some.txid ≡ Some c.in-Some-place.place = sym c.place.ensures ∙ c.in-Some-place.is in
    place_stands w h r ps c.in-Some.txid asked c.requires.states c.in-Some-place.place there

pub returns-clause-terms : goal.returns-clause-terms
returns-clause-terms c =
    let w = c.args.wallet.now in
    let h = c.args.book.now in
    let r = c.args.request.now in
    let ps = c.args.states.now in
    let asked : r.bump ≡ Some c.in-Some.txid = sym (ap (λ (q : PlainRequest). q.bump) c.request.view_is) ∙ c.in-Some.is in
    let there : place_among ps c.in-Some.txid ≡ Some c.in-Some-place.place = sym c.place.ensures ∙ c.in-Some-place.is in
    subst (λ (x : PlainTerms). IfOk c.waiting.result (λ t. t ≡ x)) (terms_there w h r ps c.in-Some.txid asked c.requires.states c.args.tip c.in-Some-place.place there) c.waiting.ensures.terms

pub returns-clause-fault : goal.returns-clause-fault
returns-clause-fault c =
    let w = c.args.wallet.now in
    let h = c.args.book.now in
    let r = c.args.request.now in
    let ps = c.args.states.now in
    let asked : r.bump ≡ Some c.in-Some.txid = sym (ap (λ (q : PlainRequest). q.bump) c.request.view_is) ∙ c.in-Some.is in
    let there : place_among ps c.in-Some.txid ≡ Some c.in-Some-place.place = sym c.place.ensures ∙ c.in-Some-place.is in
    let none : pending_fault c.state.result ≡ None = sym c.pending_fault.ensures ∙ c.in-None.is in
    let past : fault_of w h r ≡ signal_fault w h r c.in-Some-place.place = past_pending w h r ps c.in-Some.txid asked c.requires.states c.state.result c.in-Some-place.place c.state.ensures none there in
    subst (λ (o : Option BumpFault). IfErr c.waiting.result (λ e. e ≢ faults.Memory → o ≡ Some e)) (sym past) c.waiting.ensures.fault

pub returns-clause-none : goal.returns-clause-none
returns-clause-none c =
    let w = c.args.wallet.now in
    let h = c.args.book.now in
    let r = c.args.request.now in
    let ps = c.args.states.now in
    let asked : r.bump ≡ Some c.in-Some.txid = sym (ap (λ (q : PlainRequest). q.bump) c.request.view_is) ∙ c.in-Some.is in
    let there : place_among ps c.in-Some.txid ≡ Some c.in-Some-place.place = sym c.place.ensures ∙ c.in-Some-place.is in
    let none : pending_fault c.state.result ≡ None = sym c.pending_fault.ensures ∙ c.in-None.is in
    let past : fault_of w h r ≡ signal_fault w h r c.in-Some-place.place = past_pending w h r ps c.in-Some.txid asked c.requires.states c.state.result c.in-Some-place.place c.state.ensures none there in
    subst (λ (o : Option BumpFault). OnOk c.waiting.result (o ≡ None)) (sym past) c.waiting.ensures.none

pub returns-clause-short : goal.returns-clause-short
returns-clause-short c = λ _.
    let w = c.args.wallet.now in
    let h = c.args.book.now in
    let r = c.args.request.now in
    let ps = c.args.states.now in
    let asked : r.bump ≡ Some c.in-Some.txid = sym (ap (λ (q : PlainRequest). q.bump) c.request.view_is) ∙ c.in-Some.is in
    let none : pending_fault c.state.result ≡ None = sym c.pending_fault.ensures ∙ c.in-None.is in
    state_asked w h r ps c.in-Some.txid asked c.requires.states c.state.result c.state.ensures none

pub returns-clause-some : goal.returns-clause-some
returns-clause-some c =
    let w = c.args.wallet.now in
    let h = c.args.book.now in
    let r = c.args.request.now in
    let ps = c.args.states.now in
    let asked : r.bump ≡ Some c.in-Some.txid = sym (ap (λ (q : PlainRequest). q.bump) c.request.view_is) ∙ c.in-Some.is in
    let there : place_among ps c.in-Some.txid ≡ Some c.in-Some-place.place = sym c.place.ensures ∙ c.in-Some-place.is in
    let none : pending_fault c.state.result ≡ None = sym c.pending_fault.ensures ∙ c.in-None.is in
    let past : fault_of w h r ≡ signal_fault w h r c.in-Some-place.place = past_pending w h r ps c.in-Some.txid asked c.requires.states c.state.result c.in-Some-place.place c.state.ensures none there in
    let rules : IsWallet w = subst IsWallet c.wallet.view_is c.wallet.invariant in
    some_told c.waiting.result (terms_of w h c.args.tip r) (fault_of w h r)
    (subst (λ (x : PlainTerms). IfOk c.waiting.result (λ t. t ≡ x)) (terms_there w h r ps c.in-Some.txid asked c.requires.states c.args.tip c.in-Some-place.place there) c.waiting.ensures.terms)
    (subst (λ (o : Option BumpFault). OnOk c.waiting.result (o ≡ None)) (sym past) c.waiting.ensures.none)
    (λ clear. preset_some w h c.args.tip r rules c.requires.book c.keeps_rules.ensures c.in-Some.txid asked clear)
