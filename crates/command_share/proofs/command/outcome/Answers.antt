use Rattle.std.proofs.Common.{◌≡◌, ◌∙◌, Bool, true, false, Result, Err, ap, sym}
use Rattle.std.proofs.lemmas.Result.{err_from_is_err_and}
use Rattle.command_end.specs.Names.{plain_sources}
use Rattle.command_inputs.specs.Names.{plain_payment}
use Rattle.command_inputs.specs.declared.refusal.Stop.{Stop as PaymentStop}
use Rattle.command_share.proofs.AskedLaws.{taken, taken_means}
use Rattle.command_share.proofs.EndedLaws.{held_ends}
use Rattle.command_share.proofs.StopLaws.{asked_is, file_stops, held_stops, other_stops}
use Rattle.command_share.specs.declared.stop.Stop.TheVariants as stops
use Rattle.command_share.proofs.command.outcome.Goals as goal

same_stop : {T : Type 0} (a b : PaymentStop) → ◌≡◌ {A = Result T PaymentStop} (Err a) (Err b) → a ≡ b
same_stop a b e = cc

not_both : {b : Bool} → b ≡ true → b ≡ false → ⊥
not_both true_is false_is = let z = sym true_is ∙ false_is in cc

pub returns-in_err-held-clause-stop : goal.returns-in_err-held-clause-stop
returns-in_err-held-clause-stop g c =
    let p = err_from_is_err_and c.from_residual.result c.from_residual.ensures.1 in
    rw (p.1, p.2) (file_stops _ (plain_sources c.args.sources.now) (plain_payment c.args.payment.now) (g.H.Shelf.view c.args.shelf.now) (g.H.Shelf.view c.read_files.new.shelf) c.in_err-held.field-0.0 c.in_err-held.ensures.stop)

pub returns-in_err-held-clause-all_read : goal.returns-in_err-held-clause-all_read
returns-in_err-held-clause-all_read g c =
    let p = err_from_is_err_and c.from_residual.result c.from_residual.ensures.1 in
    rw (p.1, p.2) (λ none. c.in_err-held.ensures.all_read (λ file e. none file (ap (λ (x : PaymentStop). Err (stops.AsPayment x)) (same_stop _ _ e))))

pub returns-then-not-is_for_share-clause-stop : goal.returns-then-not-is_for_share-clause-stop
returns-then-not-is_for_share-clause-stop g c =
    λ t. other_stops _ (g.H.Shelf.view c.args.shelf.now).files (plain_sources c.args.sources.now) (plain_payment c.args.payment.now) c.in_ok-held.held c.in_ok-held.request c.in_ok-held.ensures.held
    (λ w. not_both (taken _ w) (sym c.is_for_share.ensures.value ∙ c.if-not-is_for_share.true)) t

pub returns-then-not-is_for_share-clause-all_read : goal.returns-then-not-is_for_share-clause-all_read
returns-then-not-is_for_share-clause-all_read g c = λ none. c.in_ok-held.ensures.all_read (λ file e. cc)

pub returns-clause-ends : goal.returns-clause-ends
returns-clause-ends g c =
    let s = plain_sources c.args.sources.now in
    let p = plain_payment c.args.payment.now in
    let files = (g.H.Shelf.view c.args.shelf.now).files in
    held_ends _ files s p c.in_ok-held.held c.in_ok-held.request c.in_ok-ending.ending
    (asked_is _ files s p c.in_ok-held.held c.in_ok-held.request c.in_ok-held.ensures.held (taken_means _ (sym c.is_for_share.ensures.value ∙ c.if-not-is_for_share.false)))
    c.in_ok-ending.ensures.ends

pub returns-in_err-ending-clause-stop : goal.returns-in_err-ending-clause-stop
returns-in_err-ending-clause-stop g c =
    let s = plain_sources c.args.sources.now in
    let p = plain_payment c.args.payment.now in
    let files = (g.H.Shelf.view c.args.shelf.now).files in
    let asked = asked_is _ files s p c.in_ok-held.held c.in_ok-held.request c.in_ok-held.ensures.held (taken_means _ (sym c.is_for_share.ensures.value ∙ c.if-not-is_for_share.false)) in
    let e = err_from_is_err_and c.from_residual-in_err-ending.result c.from_residual-in_err-ending.ensures.1 in
    rw (e.1, e.2) (held_stops _ s p c.in_ok-held.held c.in_ok-held.request (g.H.Shelf.view c.args.shelf.now) (g.H.Shelf.view c.read_files.new.shelf) c.in_err-ending.field-0.0 asked c.in_err-ending.ensures.stop)

pub returns-in_err-ending-clause-all_read : goal.returns-in_err-ending-clause-all_read
returns-in_err-ending-clause-all_read g c = λ none. c.in_ok-held.ensures.all_read (λ file e. cc)

pub returns-clause-all_read : goal.returns-clause-all_read
returns-clause-all_read g c = λ none. c.in_ok-held.ensures.all_read (λ file e. cc)
