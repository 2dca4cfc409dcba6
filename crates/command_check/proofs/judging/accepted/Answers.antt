use Rattle.std.proofs.Common.{◌∙◌}
use Rattle.std.proofs.lemmas.Result.{err_from_is_err_and}
use Rattle.fund_files.proofs.FrameLaws.{only_reads_on}
use Rattle.command_end.specs.Names.{plain_sources}
use Rattle.command_inputs.proofs.InputLaws.{inputs_behind}
use Rattle.command_inputs.specs.Names.{plain_payment}
use Rattle.command_check.proofs.AskedLaws.{both_asked, payment_asked, payment_no_log, report_asked}
use Rattle.command_check.proofs.StopLaws.{evidence_stops, if_judging_stops, if_vouched, no_plan, not_logged}
use Rattle.command_check.proofs.judging.accepted.Goals as goal

pub returns-in_err-examiner-clause-asked : goal.returns-in_err-examiner-clause-asked
returns-in_err-examiner-clause-asked g c = λ t. payment_asked (plain_sources c.args.sources.now) (plain_payment c.args.payment.now) c.args.report.now (g.H.Shelf.view c.args.shelf.now) (g.H.Shelf.view c.examiner.new.shelf) (c.examiner.ensures.asked t)

pub returns-in_err-examiner-clause-no_log : goal.returns-in_err-examiner-clause-no_log
returns-in_err-examiner-clause-no_log g c = λ t none. payment_no_log (plain_sources c.args.sources.now) (plain_payment c.args.payment.now) c.args.report.now (g.H.Shelf.view c.args.shelf.now) (g.H.Shelf.view c.examiner.new.shelf) (c.examiner.ensures.asked t)

pub returns-in_err-pair-clause-stop : goal.returns-in_err-pair-clause-stop
returns-in_err-pair-clause-stop g c =
    let p = err_from_is_err_and c.from_residual-in_err-pair.result c.from_residual-in_err-pair.ensures.1 in
    rw (p.1, p.2) (evidence_stops _ (plain_sources c.args.sources.now) (plain_payment c.args.payment.now) c.args.report.now c.in_ok-examiner.examiner (g.H.Shelf.view c.args.shelf.now) (g.H.Shelf.view c.examiner.new.shelf) (g.H.Shelf.view c.read_pair.new.shelf)
    c.in_ok-examiner.ensures.plan.of c.examiner.ensures.frame c.in_err-pair.field-0.0 c.in_err-pair.ensures.stop)

pub returns-in_err-pair-clause-frame : goal.returns-in_err-pair-clause-frame
returns-in_err-pair-clause-frame g c = only_reads_on _ (g.H.Shelf.view c.args.shelf.now) (g.H.Shelf.view c.examiner.new.shelf) (g.H.Shelf.view c.read_pair.new.shelf) c.examiner.ensures.frame c.read_pair.ensures.frame

pub returns-in_err-pair-clause-asked : goal.returns-in_err-pair-clause-asked
returns-in_err-pair-clause-asked g c = λ t.
    both_asked (plain_sources c.args.sources.now) (plain_payment c.args.payment.now) c.args.report.now (g.H.Shelf.view c.args.shelf.now) (g.H.Shelf.view c.examiner.new.shelf) (g.H.Shelf.view c.read_pair.new.shelf) (c.examiner.ensures.asked t) (c.read_pair.ensures.asked t)

pub returns-in_err-pair-clause-unread : goal.returns-in_err-pair-clause-unread
returns-in_err-pair-clause-unread g c = λ t none. absurd (no_plan _ (g.H.Shelf.view c.args.shelf.now).files (plain_sources c.args.sources.now) (plain_payment c.args.payment.now) c.in_ok-examiner.examiner c.in_ok-examiner.ensures.plan.of t none)

pub returns-clause-accepted : goal.returns-clause-accepted
returns-clause-accepted g c =
    if_vouched _ (plain_sources c.args.sources.now) (plain_payment c.args.payment.now) c.args.report.now c.in_ok-examiner.examiner (g.H.Shelf.view c.args.shelf.now) (g.H.Shelf.view c.examiner.new.shelf) (g.H.Shelf.view c.read_pair.new.shelf) c.in_ok-pair.pair.report c.in_ok-pair.pair.log.items
    c.judge.result c.in_ok-examiner.ensures.plan c.examiner.ensures.frame c.in_ok-pair.ensures.read c.judge.ensures.accepted c.judge.ensures.vouches c.judge.ensures.text

pub returns-clause-frame : goal.returns-clause-frame
returns-clause-frame g c = only_reads_on _ (g.H.Shelf.view c.args.shelf.now) (g.H.Shelf.view c.examiner.new.shelf) (g.H.Shelf.view c.read_pair.new.shelf) c.examiner.ensures.frame c.read_pair.ensures.frame

pub returns-clause-stop : goal.returns-clause-stop
returns-clause-stop g c =
    if_judging_stops _ (plain_sources c.args.sources.now) (plain_payment c.args.payment.now) c.args.report.now c.in_ok-examiner.examiner (g.H.Shelf.view c.args.shelf.now) (g.H.Shelf.view c.examiner.new.shelf) (g.H.Shelf.view c.read_pair.new.shelf) c.in_ok-pair.pair.report
    c.in_ok-pair.pair.log.items c.judge.result c.in_ok-examiner.ensures.plan.of c.examiner.ensures.frame c.in_ok-pair.ensures.read c.judge.ensures.stop

pub returns-clause-asked : goal.returns-clause-asked
returns-clause-asked g c = λ t.
    both_asked (plain_sources c.args.sources.now) (plain_payment c.args.payment.now) c.args.report.now (g.H.Shelf.view c.args.shelf.now) (g.H.Shelf.view c.examiner.new.shelf) (g.H.Shelf.view c.read_pair.new.shelf) (c.examiner.ensures.asked t) (c.read_pair.ensures.asked t)

pub returns-clause-unread : goal.returns-clause-unread
returns-clause-unread g c = λ t none. absurd (no_plan _ (g.H.Shelf.view c.args.shelf.now).files (plain_sources c.args.sources.now) (plain_payment c.args.payment.now) c.in_ok-examiner.examiner c.in_ok-examiner.ensures.plan.of t none)

-- no log

pub returns-in_err-pair-clause-no_log : goal.returns-in_err-pair-clause-no_log
returns-in_err-pair-clause-no_log g c = λ t none.
    report_asked (plain_sources c.args.sources.now) (plain_payment c.args.payment.now) c.args.report.now (g.H.Shelf.view c.args.shelf.now) (g.H.Shelf.view c.examiner.new.shelf) (g.H.Shelf.view c.read_pair.new.shelf) (c.examiner.ensures.asked t)
    (c.read_pair.ensures.no_log t (not_logged _ c.args.report.now (g.H.Shelf.view c.args.shelf.now) (g.H.Shelf.view c.examiner.new.shelf) c.examiner.ensures.frame t none))

pub returns-clause-no_log : goal.returns-clause-no_log
returns-clause-no_log g c = λ t none.
    report_asked (plain_sources c.args.sources.now) (plain_payment c.args.payment.now) c.args.report.now (g.H.Shelf.view c.args.shelf.now) (g.H.Shelf.view c.examiner.new.shelf) (g.H.Shelf.view c.read_pair.new.shelf) (c.examiner.ensures.asked t)
    (c.read_pair.ensures.no_log t (not_logged _ c.args.report.now (g.H.Shelf.view c.args.shelf.now) (g.H.Shelf.view c.examiner.new.shelf) c.examiner.ensures.frame t none))

pub returns-in_err-pair-clause-none_behind : goal.returns-in_err-pair-clause-none_behind
returns-in_err-pair-clause-none_behind g c =
    let h = c.in_ok-examiner.ensures.plan.of in
    inputs_behind _ (plain_sources c.args.sources.now) (plain_payment c.args.payment.now) h.wallet h.blocks h.asked (g.H.Shelf.view c.args.shelf.now) (g.H.Shelf.view c.read_pair.new.shelf) h.inputs

pub returns-clause-none_behind : goal.returns-clause-none_behind
returns-clause-none_behind g c =
    let h = c.in_ok-examiner.ensures.plan.of in
    inputs_behind _ (plain_sources c.args.sources.now) (plain_payment c.args.payment.now) h.wallet h.blocks h.asked (g.H.Shelf.view c.args.shelf.now) (g.H.Shelf.view c.read_pair.new.shelf) h.inputs

-- ---- failed reads

pub returns-in_err-examiner-clause-all_read : goal.returns-in_err-examiner-clause-all_read
returns-in_err-examiner-clause-all_read g c =
    let p = err_from_is_err_and c.from_residual.result c.from_residual.ensures.1 in
    rw (p.1, p.2) (λ none others. c.in_err-examiner.ensures.all_read (λ file e. others file cc))

pub returns-in_err-pair-clause-all_read : goal.returns-in_err-pair-clause-all_read
returns-in_err-pair-clause-all_read g c =
    let p = err_from_is_err_and c.from_residual-in_err-pair.result c.from_residual-in_err-pair.ensures.1 in
    rw (p.1, p.2) (λ none others. c.in_err-pair.ensures.all_read (λ file e. none file cc) ∙ c.in_ok-examiner.ensures.all_read (λ file e. cc))

pub returns-clause-all_read : goal.returns-clause-all_read
returns-clause-all_read g c = λ none others. c.in_ok-pair.ensures.all_read (λ file e. cc) ∙ c.in_ok-examiner.ensures.all_read (λ file e. cc)
