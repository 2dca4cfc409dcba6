use Rattle.std.proofs.Common.{◌≡◌, sym, subst, ap, ◌∙◌, Some, None, true}
use Rattle.wide_check.specs.declared.fault.WideFault.TheVariants.{Open, AnswerNotMet}
use Rattle.wide_check.specs.Feeding.{IsWideChecker, IsMet, IsOfLetters, PlainWideChecker}
use Rattle.wide_check.proofs.FeedLaws.{ends_best}
use Rattle.wide_check.proofs.checker.WideChecker.end.Goals as goal

pub returns-in-Some-clause-open : goal.returns-in-Some-clause-open
returns-in-Some-clause-open c =
    let kept : IsOfLetters c.in-Some.fault = c.self.invariant.0.kept c.in-Some.fault c.in-Some.is in
    let held : c.args.self.now.fault ≡ Some c.in-Some.fault = sym (ap (λ (m : PlainWideChecker). m.fault) c.self.view_is) ∙ c.in-Some.is in (
      λ e. let same : c.in-Some.fault ≡ Open = cc in let no_fault : IsOfLetters Open = subst IsOfLetters same kept in absurd no_fault,
      λ h. absurd (let clash : Some c.in-Some.fault ≡ None = sym held ∙ h.0 in cc),
    )

pub returns-in-Some-clause-unmet : goal.returns-in-Some-clause-unmet
returns-in-Some-clause-unmet c =
    let kept : IsOfLetters c.in-Some.fault = c.self.invariant.0.kept c.in-Some.fault c.in-Some.is in
    let held : c.args.self.now.fault ≡ Some c.in-Some.fault = sym (ap (λ (m : PlainWideChecker). m.fault) c.self.view_is) ∙ c.in-Some.is in (
      λ e. let same : c.in-Some.fault ≡ AnswerNotMet = cc in let no_fault : IsOfLetters AnswerNotMet = subst IsOfLetters same kept in absurd no_fault,
      λ h. absurd (let clash : Some c.in-Some.fault ≡ None = sym held ∙ h.0 in cc),
    )

pub returns-clause-best : goal.returns-clause-best
returns-clause-best c =
    let is : IsWideChecker c.args.self.now = subst IsWideChecker c.self.view_is c.self.invariant.0 in
    let shut : c.args.self.now.state.closed ≡ true = sym (ap (λ (m : PlainWideChecker). m.state.closed) c.self.view_is) ∙ c.if-not-self.false in
    let met : IsMet c.args.self.now.answer c.args.self.now.state.met = c.is_met.ensures.0 c.if-not-is_met.false in
    ends_best c.args.self.now is shut met
