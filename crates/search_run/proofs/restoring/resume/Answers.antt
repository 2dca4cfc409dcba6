use Rattle.std.specs.Prelude.{◌≡◌, ◌<◌, length, Some, IfErr, true, false}
use Rattle.std.proofs.Common.{rules, refl}
use Rattle.search_run.specs.Judged.{IsRefusedFor, saved_in}
use Rattle.search_run.specs.Kept.{comes_to, first_search}
use Rattle.search_run.specs.Resumed.{HasFollowed, IsNoWalk, IsReplayed, IsUnfit, IsWalkKept}
use Rattle.search_run.proofs.AlongLaws.{named_below}
use Rattle.search_run.proofs.ResumeLaws.{err_on, no_walk, not_both, resumes, sections_right, unfit_is, wrong_tail}
use Rattle.search_run.proofs.restoring.resume.Goals as goal

pub returns-then-not-is_open_right-clause-refused : goal.returns-then-not-is_open_right-clause-refused
returns-then-not-is_open_right-clause-refused c =
    let followed : HasFollowed c.args.seed c.args.steps.now c.args.log.now.closed c.in_ok-open.open = search rules in
    let tail : c.args.log.now.tail ≡ Some c.in-Some.tail = search rules in
    let found = (comes_to c.args.seed (first_search c.args.seed c.args.steps.now) c.args.log.now.closed).found in
    let none : c.is_open_right.result ≡ false = search rules in
    let at : c.len-then-not-is_open_right.result ≡ length c.args.log.now.closed = search rules in
    wrong_tail c.args.seed c.args.steps.now (saved_in c.args.saved.now) c.args.log.now c.in_ok-open.open c.len-then-not-is_open_right.result c.in-Some.tail followed tail at (λ o. not_both c.is_open_right.result none ((c.is_open_right.ensures found).1 o))

pub bounds-steps-open : goal.bounds-steps-open
bounds-steps-open c =
    let found = (comes_to c.args.seed (first_search c.args.seed c.args.steps.now) c.args.log.now.closed).found in
    let yes : c.is_open_right.result ≡ true = search rules in
    named_below c.args.steps.now c.in_ok-open.open.at c.in-Some.tail.row c.in-Some.tail.stage c.in-Some.tail.digest ((c.is_open_right.ensures found).0 yes).0

pub returns-in_err-walk-clause-refused : goal.returns-in_err-walk-clause-refused
returns-in_err-walk-clause-refused c =
    let followed : HasFollowed c.args.seed c.args.steps.now c.args.log.now.closed c.in_ok-open.open = search rules in
    let tail : c.args.log.now.tail ≡ Some c.in-Some.tail = search rules in
    let found = (comes_to c.args.seed (first_search c.args.seed c.args.steps.now) c.args.log.now.closed).found in
    let yes : c.is_open_right.result ≡ true = search rules in
    let right = (c.is_open_right.ensures found).0 yes in
    let below : c.in_ok-open.open.at < length c.args.steps.now = named_below c.args.steps.now c.in_ok-open.open.at c.in-Some.tail.row c.in-Some.tail.stage c.in-Some.tail.digest right.0 in
    let none : IfErr c.walk_at.result (λ e. IsNoWalk c.index-steps-open.result.problem (saved_in c.args.saved.now) e) = c.walk_at.ensures.refused (saved_in c.args.saved.now) c.in_ok-place.ensures in
    let no_place : IfErr c.from_residual-in_err-walk.result (λ e. IsNoWalk c.index-steps-open.result.problem (saved_in c.args.saved.now) e) = search rules in
    err_on (λ e. IsNoWalk c.index-steps-open.result.problem (saved_in c.args.saved.now) e) (λ e. IsRefusedFor c.args.seed c.args.steps.now (saved_in c.args.saved.now) c.args.log.now e) c.from_residual-in_err-walk.result
    (λ e h. no_walk c.args.seed c.args.steps.now (saved_in c.args.saved.now) c.args.log.now c.in_ok-open.open c.index-steps-open.result e followed below c.index-steps-open.is (sections_right c.args.seed c.args.steps.now (saved_in c.args.saved.now) c.args.log.now c.in_ok-open.open c.in-Some.tail followed tail right) h) no_place

pub returns-in_err-past-clause-refused : goal.returns-in_err-past-clause-refused
returns-in_err-past-clause-refused c =
    let followed : HasFollowed c.args.seed c.args.steps.now c.args.log.now.closed c.in_ok-open.open = search rules in
    let tail : c.args.log.now.tail ≡ Some c.in-Some.tail = search rules in
    let found = (comes_to c.args.seed (first_search c.args.seed c.args.steps.now) c.args.log.now.closed).found in
    let yes : c.is_open_right.result ≡ true = search rules in
    let right = (c.is_open_right.ensures found).0 yes in
    let below : c.in_ok-open.open.at < length c.args.steps.now = named_below c.args.steps.now c.in_ok-open.open.at c.in-Some.tail.row c.in-Some.tail.stage c.in-Some.tail.digest right.0 in
    let unfit : IfErr c.from_residual-in_err-past.result (λ e. IsUnfit c.args.seed c.args.steps.now c.args.log.now.closed e) = search rules in
    err_on (λ e. IsUnfit c.args.seed c.args.steps.now c.args.log.now.closed e) (λ e. IsRefusedFor c.args.seed c.args.steps.now (saved_in c.args.saved.now) c.args.log.now e) c.from_residual-in_err-past.result
    (λ e h. unfit_is c.args.seed c.args.steps.now (saved_in c.args.saved.now) c.args.log.now c.in_ok-open.open c.index-steps-open.result c.in_ok-walk.walk c.as_slice-letters.result.now e followed below c.index-steps-open.is (sections_right c.args.seed c.args.steps.now (saved_in c.args.saved.now) c.args.log.now c.in_ok-open.open c.in-Some.tail followed tail right) (c.in_ok-walk.ensures.walk (saved_in c.args.saved.now) c.in_ok-place.ensures) h) unfit

pub returns-clause-ok : goal.returns-clause-ok
returns-clause-ok c =
    let followed : HasFollowed c.args.seed c.args.steps.now c.args.log.now.closed c.in_ok-open.open = search rules in
    let tail : c.args.log.now.tail ≡ Some c.in-Some.tail = search rules in
    let found = (comes_to c.args.seed (first_search c.args.seed c.args.steps.now) c.args.log.now.closed).found in
    let yes : c.is_open_right.result ≡ true = search rules in
    let right = (c.is_open_right.ensures found).0 yes in
    let below : c.in_ok-open.open.at < length c.args.steps.now = named_below c.args.steps.now c.in_ok-open.open.at c.in-Some.tail.row c.in-Some.tail.stage c.in-Some.tail.digest right.0 in
    let there : IsWalkKept c.index-steps-open.result.problem (saved_in c.args.saved.now) c.as_slice-letters.result.now c.in_ok-walk.walk = c.in_ok-walk.ensures.walk (saved_in c.args.saved.now) c.in_ok-place.ensures in
    let kept : IsWalkKept c.index-steps-open.result.problem (saved_in c.args.saved.now) c.in-Some.tail.letters c.in_ok-walk.walk = search rules in
    let replayed : IsReplayed c.args.seed c.args.steps.now c.args.log.now.closed c.args.saved.now.tries c.in_ok-past.past = search rules in
    resumes c.args.seed c.args.steps.now (saved_in c.args.saved.now) c.args.log.now c.in_ok-open.open c.index-steps-open.result c.in-Some.tail c.in_ok-walk.walk c.in_ok-past.past (record { at = c.in_ok-open.open.at; walk = c.in_ok-walk.walk; past = c.in_ok-past.past }) followed tail right below c.index-steps-open.is kept replayed refl refl refl
