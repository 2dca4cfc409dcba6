use Rattle.std.proofs.Common.{◌≡◌, ◌<◌, ℕ, length, get_or, refl, sym, ap, subst, ◌∙◌, arith, Err}
use Rattle.wide_check.specs.declared.fault.WideFault.{WideFault}
use Rattle.wide_check.specs.Feeding.{IsFirstFault, IsRefused, PlainWideChecker, Takes, faulted}
use Rattle.wide_check.specs.Reads.{fault_at}
use Rattle.wide_check.proofs.FaultLaws.{one_first_fault, taken_without_fault}
use Rattle.wide_check.proofs.PieceLaws.{fed_more, stops_here, takes_all, takes_more}
use Rattle.wide_check.proofs.checker.WideChecker.feed.Goals as goal

-- the letter that is refused is the first one
pub returns-in-Err-clause-stops : goal.returns-in-Err-clause-stops
returns-in-Err-clause-stops c = λ none.
    let below : c.loop-letter.letter-index < length c.args.tokens.now = omega arith in
    let count : c.self-in-Err.inside.fed ≡ c.loop-letter.self.fed = ap (λ (m : PlainWideChecker). m.fed) (c.self-in-Err.view_is ∙ c.in-Err.ensures.err.1) in
    let fault : c.at-fault.result ≡ fault_at c.in-Err.wrong c.loop-letter.self.fed = c.at-fault.ensures ∙ ap (fault_at c.in-Err.wrong) count in
    let letter : ℕ = get_or c.args.tokens.now c.loop-letter.letter-index 0 in
    let refused : IsRefused c.loop-letter.self.problem c.loop-letter.self.answer c.loop-letter.self.state c.loop-letter.self.fed letter c.at-fault.result =
    subst (λ (f : WideFault). IsRefused c.loop-letter.self.problem c.loop-letter.self.answer c.loop-letter.self.state c.loop-letter.self.fed letter f) (sym fault) c.in-Err.ensures.err.0 in
    stops_here c.args.self.now c.loop-letter.self c.keep.new.self c.args.tokens.now c.loop-letter.letter-index letter
    c.at-fault.result below refl c.loop-letter.invariant.is c.loop-letter.invariant.takes refused
    (c.keep.ensures ∙ ap (λ (m : PlainWideChecker). faulted m c.at-fault.result) c.in-Err.ensures.err.1)

pub returns-in-Err-clause-exactly : goal.returns-in-Err-clause-exactly
returns-in-Err-clause-exactly c = λ none.
    let here = returns-in-Err-clause-stops c none in (λ e. absurd (cc), λ t. absurd (taken_without_fault c.args.self.now c.args.tokens.now c.at-fault.result t here.0))

pub returns-in-Err-clause-fault : goal.returns-in-Err-clause-fault
returns-in-Err-clause-fault c = λ f none.
    let here = returns-in-Err-clause-stops c none in (
      λ e. let same : c.at-fault.result ≡ f = cc in subst (λ (g : WideFault). IsFirstFault c.args.self.now c.args.tokens.now g) same here.0,
      λ x. ap (λ (g : WideFault). Err g) (one_first_fault c.args.self.now c.args.tokens.now c.at-fault.result f here.0 x),
    )

pub loop-letter-preserved : goal.loop-letter-preserved
loop-letter-preserved c =
    let below : c.loop-letter.letter-index < length c.args.tokens.now = omega arith in
    let x : ℕ = get_or c.args.tokens.now c.loop-letter.letter-index 0 in
    record {
      fine = ap (λ (m : PlainWideChecker). m.fault) c.in_default-read.ensures.ok.1 ∙ c.loop-letter.invariant.fine;
      takes =
          takes_more c.args.self.now c.loop-letter.self c.args.tokens.now c.loop-letter.letter-index x below refl c.loop-letter.invariant.is c.loop-letter.invariant.takes
          c.in_default-read.ensures.ok.0;
      is = fed_more c.args.self.now c.loop-letter.self c.read.new.self c.args.tokens.now c.loop-letter.letter-index x below refl c.loop-letter.invariant.is c.in_default-read.ensures.ok.1;
    }

pub returns-clause-fault : goal.returns-clause-fault
returns-clause-fault c = λ f none.
    let all : Takes c.args.self.now c.args.tokens.now = takes_all c.args.self.now c.args.tokens.now c.loop-letter.letter-index c.loop-letter-test.false c.loop-letter.invariant.takes in
    (λ e. absurd (cc), λ x. absurd (taken_without_fault c.args.self.now c.args.tokens.now f all x))
