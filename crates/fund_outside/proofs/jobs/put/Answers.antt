use Rattle.std.specs.Prelude.{◌≡◌, ◌-◌, List, [], ◌∷◌, ◌++◌, length, Some, None}
use Rattle.std.specs.List.{position_from}
use Rattle.std.proofs.Common.{arith, length-append, sym, ap, ◌∙◌}
use Rattle.std.proofs.Math.ListN.{set, length-set}
use Rattle.fund_outside.specs.Jobs.{is_named, job_of}
use Rattle.fund_outside.specs.declared.jobs.Job.{Job}
use Rattle.fund_outside.proofs.JobLaws.{IsPut, IsReplaced, replaces, none_named, adds, own}
use Rattle.fund_outside.proofs.jobs.put.Goals as goal

pub index_mut-requires : goal.index_mut-requires
index_mut-requires c =
    let found : position_from (is_named c.args.name.now) 0 c.args.jobs.now.items ≡ Some c.in-Some.place = ap (λ (jobs : List Job). position_from (is_named c.args.name.now) 0 jobs) (sym c.as_slice.ensures.value) ∙ sym c.in-Some.ensures in
    let done : IsReplaced c.args.name.now c.args.job 0 c.in-Some.place c.args.jobs.now.items = replaces c.args.name.now c.args.job c.requires 0 c.in-Some.place c.args.jobs.now.items found in
    omega (arith, done.below, c.as_slice.ensures.len, ap (λ (jobs : List Job). length jobs) c.as_slice.ensures.value)

pub returns-in-Some-clause-ok : goal.returns-in-Some-clause-ok
returns-in-Some-clause-ok c =
    let found : position_from (is_named c.args.name.now) 0 c.args.jobs.now.items ≡ Some c.in-Some.place = ap (λ (jobs : List Job). position_from (is_named c.args.name.now) 0 jobs) (sym c.as_slice.ensures.value) ∙ sym c.in-Some.ensures in
    let done : IsReplaced c.args.name.now c.args.job 0 c.in-Some.place c.args.jobs.now.items = replaces c.args.name.now c.args.job c.requires 0 c.in-Some.place c.args.jobs.now.items found in
    let here : c.in-Some.place - 0 ≡ c.in-Some.place = omega arith in
    let put : IsPut c.args.name.now c.args.job c.args.jobs.now.items (set c.args.jobs.now.items c.in-Some.place c.args.job) = rw here at done.put in
    put.put ∙ sym (own c.args.name.now c.args.job c.requires)

pub returns-in-Some-clause-others : goal.returns-in-Some-clause-others
returns-in-Some-clause-others c =
    let found : position_from (is_named c.args.name.now) 0 c.args.jobs.now.items ≡ Some c.in-Some.place = ap (λ (jobs : List Job). position_from (is_named c.args.name.now) 0 jobs) (sym c.as_slice.ensures.value) ∙ sym c.in-Some.ensures in
    let done : IsReplaced c.args.name.now c.args.job 0 c.in-Some.place c.args.jobs.now.items = replaces c.args.name.now c.args.job c.requires 0 c.in-Some.place c.args.jobs.now.items found in
    let here : c.in-Some.place - 0 ≡ c.in-Some.place = omega arith in
    let put : IsPut c.args.name.now c.args.job c.args.jobs.now.items (set c.args.jobs.now.items c.in-Some.place c.args.job) = rw here at done.put in
    λ other differs. put.others other differs

pub returns-in-Some-clause-count : goal.returns-in-Some-clause-count
returns-in-Some-clause-count c =
    let found : position_from (is_named c.args.name.now) 0 c.args.jobs.now.items ≡ Some c.in-Some.place = ap (λ (jobs : List Job). position_from (is_named c.args.name.now) 0 jobs) (sym c.as_slice.ensures.value) ∙ sym c.in-Some.ensures in
    let done : IsReplaced c.args.name.now c.args.job 0 c.in-Some.place c.args.jobs.now.items = replaces c.args.name.now c.args.job c.requires 0 c.in-Some.place c.args.jobs.now.items found in
    rw done.was (length-set c.args.jobs.now.items c.in-Some.place c.args.job)

pub returns-in_ok-push-in-None-clause-ok : goal.returns-in_ok-push-in-None-clause-ok
returns-in_ok-push-in-None-clause-ok c =
    let found : position_from (is_named c.args.name.now) 0 c.args.jobs.now.items ≡ None = ap (λ (jobs : List Job). position_from (is_named c.args.name.now) 0 jobs) (sym c.as_slice.ensures.value) ∙ sym c.in-None.ensures in
    let put : IsPut c.args.name.now c.args.job c.args.jobs.now.items (c.args.jobs.now.items ++ c.args.job ∷ []) = adds c.args.name.now c.args.job c.requires 0 c.args.jobs.now.items found in
    ap (λ (jobs : List Job). job_of jobs c.args.name.now) c.in_ok-push-in-None.ensures.items ∙ (put.put ∙ sym (own c.args.name.now c.args.job c.requires))

pub returns-in_ok-push-in-None-clause-others : goal.returns-in_ok-push-in-None-clause-others
returns-in_ok-push-in-None-clause-others c =
    let found : position_from (is_named c.args.name.now) 0 c.args.jobs.now.items ≡ None = ap (λ (jobs : List Job). position_from (is_named c.args.name.now) 0 jobs) (sym c.as_slice.ensures.value) ∙ sym c.in-None.ensures in
    let put : IsPut c.args.name.now c.args.job c.args.jobs.now.items (c.args.jobs.now.items ++ c.args.job ∷ []) = adds c.args.name.now c.args.job c.requires 0 c.args.jobs.now.items found in
    λ other differs. ap (λ (jobs : List Job). job_of jobs other) c.in_ok-push-in-None.ensures.items ∙ put.others other differs

pub returns-in_ok-push-in-None-clause-count : goal.returns-in_ok-push-in-None-clause-count
returns-in_ok-push-in-None-clause-count c =
    let found : position_from (is_named c.args.name.now) 0 c.args.jobs.now.items ≡ None = ap (λ (jobs : List Job). position_from (is_named c.args.name.now) 0 jobs) (sym c.as_slice.ensures.value) ∙ sym c.in-None.ensures in
    let none : job_of c.args.jobs.now.items c.args.name.now ≡ None = none_named c.args.name.now 0 c.args.jobs.now.items found in
    rw none (ap (λ (jobs : List Job). length jobs) c.in_ok-push-in-None.ensures.items ∙ length-append c.args.jobs.now.items (c.args.job ∷ []))
