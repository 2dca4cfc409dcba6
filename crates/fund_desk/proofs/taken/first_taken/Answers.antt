use Rattle.std.specs.Prelude.{List, find, option_map}
use Rattle.std.specs.List.{filter_map}
use Rattle.std.proofs.Common.{ap, refl, ◌∙◌}
use Rattle.coin_candidates.specs.declared.candidate.Candidate.{Candidate}
use Rattle.fund_plan.specs.Selection.{PlainFunded}
use Rattle.request_text.specs.PlainRequest.{PlainRequest}
use Rattle.desk_machine.specs.State.{candidates_in, points}
use Rattle.fund_desk.specs.Looked.{is_at, taken_in}
use Rattle.fund_desk.proofs.LookLaws.{shown_first}
use Rattle.fund_desk.proofs.ReadyLaws.{ready_same}
use Rattle.fund_desk.proofs.taken.first_taken.Goals as goal

pub returns : goal.returns
returns c =
    let now = candidates_in c.args.held.now in
    let own = c.args.funded.now.coins in
    let ready = c.in_ok-now.ensures.exact ∙ ap (λ (cs : List Candidate). filter_map (λ o. find (is_at o) now) (points cs)) (c.deref.ensures.value ∙ ap (λ (f : PlainFunded). f.coins) c.funded.view_is) in
    c.first_point.ensures
    ∙ ap (option_map (λ (x : Candidate). x.coin))
    (shown_first c.args.committed.now c.in_ok-now.now.items now c.deref-3.result.now own c.deref-2.result.now c.args.request.now c.funded.inside.row c.args.funded.now.row c.in_ok-look.look
    (find (taken_in c.in_ok-look.look c.args.request.now c.funded.inside.row) c.deref-3.result.now) c.in_ok-now.ensures.fit
    (ready_same now own c.in_ok-now.now.items ready) c.in_ok-look.ensures (c.deref-2.ensures.value ∙ ap (λ (r : PlainRequest). r.coins) c.request.view_is) (c.deref-3.ensures.value ∙ ap (λ (f : PlainFunded). f.coins) c.funded.view_is)
    (ap (λ (f : PlainFunded). f.row) c.funded.view_is) refl)
