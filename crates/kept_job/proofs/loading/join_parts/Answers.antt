use Rattle.std.proofs.Common.{◌≡◌, ◌∙◌, ℕ, List, Option, ap, arith}
use Rattle.std.proofs.lemmas.Result.{err_from_is_err_and}
use Rattle.fund_outside.specs.Kept.{KeptJob, part_in}
use Rattle.kept_job.proofs.JoinLaws.{all_joined, put_fits, put_not, put_on}
use Rattle.kept_job.proofs.loading.join_parts.Goals as goal

pub joining-preserved : goal.joining-preserved
joining-preserved g c = record {
  joined = λ told.
      put_on _ _ _ (c.joining.invariant.joined told) _ _ _
      (c.in_ok-part.ensures.part told ∙ ap (λ (jobs : List ℕ → Option KeptJob). part_in (jobs c.args.job.now) c.joining.number) (c.joining.invariant.same told))
      c.in_ok-put_part.ensures.put;
  hashed = c.in_ok-put_part.ensures.hashed c.joining.invariant.hashed;
  fits = put_fits _ _ _ _ _ c.in_ok-put_part.ensures.put;
  same = λ told. c.in_ok-part.ensures.same told ∙ c.joining.invariant.same told;
  faults = c.in_ok-part.ensures.unfailed ∙ c.joining.invariant.faults;
}

pub returns-in_err-put_part-clause-fault : goal.returns-in_err-put_part-clause-fault
returns-in_err-put_part-clause-fault g c =
    let p = err_from_is_err_and c.from_residual-in_err-put_part.result c.from_residual-in_err-put_part.ensures.1 in
    rw (p.1, p.2)
    (λ told.
    put_not _ _ _ (c.joining.invariant.joined told) _ _ _ _
    (c.in_ok-part.ensures.part told ∙ ap (λ (jobs : List ℕ → Option KeptJob). part_in (jobs c.args.job.now) c.joining.number) (c.joining.invariant.same told))
    c.joining-test.true
    c.joining.invariant.fits
    c.in_err-put_part.ensures.put)

pub returns-clause-parts : goal.returns-clause-parts
returns-clause-parts g c = λ told.
    let all : c.joining.number ≡ c.args.count = omega (arith, c.joining-test.false, c.joining.auto.number-end) in
    all_joined _ _ _ (c.joining.invariant.joined told) _ all c.joining.invariant.fits
