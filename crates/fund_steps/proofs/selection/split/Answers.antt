use Rattle.std.proofs.Common.{◌≡◌, ◌∙◌, sym, ap}
use Rattle.std.specs.Prelude.{◌&&◌, ◌||◌, Bool, List, true, false, not}
use Rattle.std.proofs.lemmas.Bool.{and_parts, eqb-true}
use Rattle.std.proofs.lemmas.List.{nil_from_length}
use Rattle.coin_candidates.specs.declared.candidate.Candidate.{Candidate}
use Rattle.fund_base.specs.declared.outpoint.OutPoint.{OutPoint}
use Rattle.request_text.specs.PlainRequest.{PlainRequest}
use Rattle.fund_steps.specs.Listed.{is_preset}
use Rattle.fund_steps.specs.Plan.{may_be_listed}
use Rattle.fund_steps.specs.Selection.{by_outpoint, is_listed}
use Rattle.fund_steps.proofs.SelectionLaws.{all_unlisted, kept_more, kept_same, none_listed, order_more, order_same}
use Rattle.fund_steps.proofs.selection.split.Goals as goal

pub loop-candidate-init : goal.loop-candidate-init
unfolding by_outpoint
loop-candidate-init c = (c.new-chosen.ensures.empty, c.new-rest.ensures.items)

-- what the request doesn't list
abbrev others : PlainRequest → Candidate → Bool
others r x = not (is_listed r.coins x.coin)

pub loop-candidate-preserved-in-Continue-branch-2 : goal.loop-candidate-preserved-in-Continue-branch-2
loop-candidate-preserved-in-Continue-branch-2 c =
    let r = c.args.request.now in
    let x = c.in-Some.candidate in
    let points = c.deref.ensures.value ∙ ap (λ (q : PlainRequest). q.coins) c.request.view_is in
    let flag = ap (λ (q : PlainRequest). q.include_unsafe) c.request.view_is in
    let listed = c.in_ok-wanted.ensures x.coin ∙ ap (λ (ps : List OutPoint). is_listed ps x.coin) points in
    let test = ap (λ (b : Bool). b && (x.safe || c.request.inside.include_unsafe)) (sym listed) ∙ sym c.is_preset.ensures ∙ c.if-is_preset.true in
    let passes : is_preset r x ≡ true = ap (λ (b : Bool). is_listed r.coins x.coin && (x.safe || b)) (sym flag) ∙ test in
    let fails : others r x ≡ false = ap not (and_parts (is_listed r.coins x.coin) (may_be_listed r x) passes).0 in (
      order_more (is_preset r) c.loop-candidate.yielded x c.loop-candidate.chosen.entries c.put.new.coins.entries passes c.in_ok-put.ensures c.loop-candidate.invariant.0,
      kept_same (others r) c.loop-candidate.yielded x c.loop-candidate.rest.items fails c.loop-candidate.invariant.1,
    )

pub loop-candidate-preserved-in-Continue-branch-3 : goal.loop-candidate-preserved-in-Continue-branch-3
loop-candidate-preserved-in-Continue-branch-3 c =
    let r = c.args.request.now in
    let x = c.in-Some.candidate in
    let points = c.deref.ensures.value ∙ ap (λ (q : PlainRequest). q.coins) c.request.view_is in
    let listed = c.in_ok-wanted.ensures x.coin ∙ ap (λ (ps : List OutPoint). is_listed ps x.coin) points in
    let not_listed : is_listed r.coins x.coin ≡ false = sym listed ∙ sym c.contains.ensures ∙ c.if-not-contains.true in
    let fails : is_preset r x ≡ false = ap (λ (b : Bool). b && may_be_listed r x) not_listed in (
      order_same (is_preset r) c.loop-candidate.yielded x c.loop-candidate.chosen.entries fails c.loop-candidate.invariant.0,
      kept_more (others r) c.loop-candidate.yielded x c.loop-candidate.rest.items c.push.new.self.items (ap not not_listed) c.in_ok-push.ensures.items c.loop-candidate.invariant.1,
    )

pub loop-candidate-preserved : goal.loop-candidate-preserved
loop-candidate-preserved c =
    let r = c.args.request.now in
    let x = c.in-Some.candidate in
    let points = c.deref.ensures.value ∙ ap (λ (q : PlainRequest). q.coins) c.request.view_is in
    let flag = ap (λ (q : PlainRequest). q.include_unsafe) c.request.view_is in
    let listed = c.in_ok-wanted.ensures x.coin ∙ ap (λ (ps : List OutPoint). is_listed ps x.coin) points in
    let test = ap (λ (b : Bool). b && (x.safe || c.request.inside.include_unsafe)) (sym listed) ∙ sym c.is_preset.ensures ∙ c.if-is_preset.false in
    let fails : is_preset r x ≡ false = ap (λ (b : Bool). is_listed r.coins x.coin && (x.safe || b)) (sym flag) ∙ test in
    let there : is_listed r.coins x.coin ≡ true = sym listed ∙ sym c.contains.ensures ∙ c.if-not-contains.false in (
      order_same (is_preset r) c.loop-candidate.yielded x c.loop-candidate.chosen.entries fails c.loop-candidate.invariant.0,
      kept_same (others r) c.loop-candidate.yielded x c.loop-candidate.rest.items (ap not there) c.loop-candidate.invariant.1,
    )

pub returns-then-is_empty-clause-listed : goal.returns-then-is_empty-clause-listed
returns-then-is_empty-clause-listed c =
    let none = nil_from_length c.request.inside.coins.items (sym c.request.inside.coins.ok.0 ∙ eqb-true _ _ (sym c.is_empty.ensures ∙ c.if-is_empty.true)) in
    c.new.ensures.items ∙ none_listed c.args.request.now c.args.candidates.items (sym (ap (λ (q : PlainRequest). q.coins) c.request.view_is) ∙ none)

pub returns-then-is_empty-clause-rest : goal.returns-then-is_empty-clause-rest
returns-then-is_empty-clause-rest c =
    let none = nil_from_length c.request.inside.coins.items (sym c.request.inside.coins.ok.0 ∙ eqb-true _ _ (sym c.is_empty.ensures ∙ c.if-is_empty.true)) in
    all_unlisted c.args.request.now.coins c.args.candidates.items (sym (ap (λ (q : PlainRequest). q.coins) c.request.view_is) ∙ none)
