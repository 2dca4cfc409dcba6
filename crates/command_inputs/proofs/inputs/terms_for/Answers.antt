use Rattle.std.proofs.Common.{◌∙◌, Some, ap, subst, sym}
use Rattle.std.specs.Prelude.{is_some, not}
use Rattle.std.proofs.lemmas.Result.{err_from_is_err_and}
use Rattle.fee_bump.specs.Bump.{PlainTerms}
use Rattle.fund_payment.proofs.ParentLaws.{held_book}
use Rattle.payment_states.specs.BookOf.{IsBookOf}
use Rattle.request_text.specs.PlainRequest.{PlainRequest}
use Rattle.command_inputs.proofs.TermsLaws.{fault_is, no_fault, no_terms, terms_are}
use Rattle.command_inputs.proofs.inputs.terms_for.Goals as goal

-- no payment is named
pub returns-then-is_none-clause-terms : goal.returns-then-is_none-clause-terms
returns-then-is_none-clause-terms c =
    let named = sym (ap (λ (q : PlainRequest). is_some q.bump) c.request.view_is) ∙ (c.is_none.ensures ∙ ap not c.if-is_none.true) in
    no_terms c.args.held.now c.args.request.now named

pub returns-then-is_none-clause-none : goal.returns-then-is_none-clause-none
returns-then-is_none-clause-none c =
    let named = sym (ap (λ (q : PlainRequest). is_some q.bump) c.request.view_is) ∙ (c.is_none.ensures ∙ ap not c.if-is_none.true) in
    no_fault c.args.held.now c.args.request.now named

-- one is
pub known_states-requires : goal.known_states-requires
known_states-requires c = subst (IsBookOf c.args.held.now.wallet) (sym c.known-book.ensures) (held_book c.args.held.now c.requires)

pub known_terms-requires-clause-book : goal.known_terms-requires-clause-book
known_terms-requires-clause-book c = subst (IsBookOf c.args.held.now.wallet) (sym c.known-book.ensures) (held_book c.args.held.now c.requires)

pub known_terms-requires-clause-bump : goal.known_terms-requires-clause-bump
known_terms-requires-clause-bump c =
    let named = sym (ap (λ (q : PlainRequest). is_some q.bump) c.request.view_is) ∙ (c.is_none.ensures ∙ ap not c.if-is_none.false) in
    named

pub returns-clause-terms : goal.returns-clause-terms
returns-clause-terms c =
    let named = sym (ap (λ (q : PlainRequest). is_some q.bump) c.request.view_is) ∙ (c.is_none.ensures ∙ ap not c.if-is_none.false) in
    ap (λ (t : PlainTerms). Some t) (rw c.known-book.ensures at c.in_ok-terms.ensures.terms) ∙ terms_are c.args.held.now c.args.request.now named

pub returns-clause-none : goal.returns-clause-none
returns-clause-none c =
    let named = sym (ap (λ (q : PlainRequest). is_some q.bump) c.request.view_is) ∙ (c.is_none.ensures ∙ ap not c.if-is_none.false) in
    sym (fault_is c.args.held.now c.args.request.now named) ∙ (rw c.known-book.ensures at c.in_ok-terms.ensures.none)

pub returns-in_err-terms-clause-fault : goal.returns-in_err-terms-clause-fault
returns-in_err-terms-clause-fault c =
    let named = sym (ap (λ (q : PlainRequest). is_some q.bump) c.request.view_is) ∙ (c.is_none.ensures ∙ ap not c.if-is_none.false) in
    let p = err_from_is_err_and c.from_residual-in_err-terms.result c.from_residual-in_err-terms.ensures.1 in
    rw (p.1, p.2) (λ real. sym (fault_is c.args.held.now c.args.request.now named) ∙ (rw c.known-book.ensures at (c.in_err-terms.ensures.fault real)))

-- being out of memory comes only then
pub returns-in_err-states-clause-short : goal.returns-in_err-states-clause-short
returns-in_err-states-clause-short c =
    let named = sym (ap (λ (q : PlainRequest). is_some q.bump) c.request.view_is) ∙ (c.is_none.ensures ∙ ap not c.if-is_none.false) in
    λ e. named

pub returns-in_err-terms-clause-short : goal.returns-in_err-terms-clause-short
returns-in_err-terms-clause-short c =
    let named = sym (ap (λ (q : PlainRequest). is_some q.bump) c.request.view_is) ∙ (c.is_none.ensures ∙ ap not c.if-is_none.false) in
    λ e. named
