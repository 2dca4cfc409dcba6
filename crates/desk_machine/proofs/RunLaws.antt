-- The turns of a job are the run of its plan.
use Rattle.std.specs.Prelude.{ℕ, ◌≡◌, ◌≤◌, ◌+◌, ◌-◌, ◌&&◌, min, List, [], ◌∷◌, Bool, true, false, Option, Some, None, MatchBool, nat_le}
use Rattle.std.proofs.Common.{refl, sym, ap, ◌∙◌, subst, cond, zero-add, add_assoc, arith}
use Rattle.std.proofs.lemmas.Bool.{and_parts, both_ways, leb-true}
use Rattle.search_run.proofs.RunLaws.{all_tries, most_tries as at_most, stays_over}
use Rattle.search_run.specs.Found.{PlainFound, taken}
use Rattle.search_run.specs.Run.{Stand, results_in_column, end_by, or_unfinished}
use Rattle.search_run.specs.Step.{PlainStep}
use Rattle.search_run.specs.declared.ending.End.{End}
use Rattle.search_run.specs.declared.ending.End.TheVariants as ends
use Rattle.fund_steps.specs.Plan.{PlainPlan}
use Rattle.fund_steps.specs.Listed.{burden_in, presets_in}
use Rattle.fund_steps.specs.Presets.{presets_of}
use Rattle.fund_steps.specs.Terms.{load_of, rates_of}
use Rattle.fund_steps.specs.declared.presets.Presets.{Presets}
use Rattle.fund_steps.specs.declared.presets.Presets.TheVariants as presets
use Rattle.fund_plan.proofs.EndLaws.{moved_none, new_told, told_partial, told_there}
use Rattle.fund_plan.proofs.GoingLaws.{cut_goes, new_tries, over_stays, pieces_add, taken_stays}
use Rattle.fund_plan.specs.Steps.{is_given}
use Rattle.fund_plan.specs.Outcome.{beginning_of, by_end, by_presets, given_of, end_at, is_partial, led, most_tries, outcome_at, stand_after, tries_at}
use Rattle.fund_plan.specs.State.{IsCutShort, PlanState, granted, moved, moved_by, partial_of, told}
use Rattle.fund_plan.specs.declared.outcome.Outcome.{Outcome}
use Rattle.fund_plan.specs.declared.outcome.Outcome.TheVariants as answers
use Rattle.desk_machine.specs.Replies.{Reply, Spent}
use Rattle.desk_machine.specs.Runs.{AllFed, Alone, AreOfRun, Played, ReplyAgain, is_taken_short}
use Rattle.desk_machine.specs.State.{Job, new_job, new_plan}
use Rattle.desk_machine.specs.Turns.{by_outcome, is_spent, is_unfinished, run_reply, turn_reply, turned}
use Rattle.desk_machine.proofs.SnapshotLaws.{played}

-- a state from which the plan goes on as from its beginning with n tries, and no result was taken
record GoesAs (p : PlainPlan) (n : ℕ) (s : PlanState) : Type 0 where
  moves : (m : ℕ) → moved s m ≡ moved (new_plan p) (n + m)
  tries : s.stand.past.tries ≡ tries_at p n
  partial : s.partial ≡ None

-- ---- where a run begins, and goes on

no_tries : (p : PlainPlan) → 0 ≡ tries_at p 0
unfolding tries_at
no_tries p =
    let h : (stand_after p 0).past.tries ≤ 0 + min 0 10_000_000 = at_most p.request.seed (beginning_of p) (min 0 10_000_000) in
    omega (arith, h)

begins : (p : PlainPlan) → GoesAs p 0 (new_plan p)
begins p = record { moves = λ m. ap (moved (new_plan p)) (sym (zero-add m)); tries = no_tries p; partial = refl }

not_partial : (e : End) → is_partial e ≡ false → partial_of e ≡ None
not_partial (ends.Ended o) h = refl
not_partial (ends.Partial f) h = absurd cc
not_partial ends.Unfinished h = refl

is_some_partial : (e : End) → is_partial e ≡ true → (f : PlainFound) × (partial_of e ≡ Some f)
is_some_partial (ends.Ended o) h = absurd cc
is_some_partial (ends.Partial f) h = (f, refl)
is_some_partial ends.Unfinished h = absurd cc

partial_there : (p : PlainPlan) (n m : ℕ) (s : PlanState) → GoesAs p n s → (moved s m).partial ≡ partial_of (end_at p (stand_after p (n + m)))
partial_there p n m s h = ap (λ (t : PlanState). t.partial) (h.moves m)

goes_on : (p : PlainPlan) (n m : ℕ) (s : PlanState) → GoesAs p n s → is_taken_short p (n + m) ≡ false → GoesAs p (n + m) (moved s m)
goes_on p n m s h none =
    let partial = partial_there p n m s h ∙ not_partial (end_at p (stand_after p (n + m))) none in
    record {
      moves = λ k. pieces_add s m k partial ∙ h.moves (m + k) ∙ ap (moved (new_plan p)) (sym (add_assoc n m k));
      tries = ap (λ (t : PlanState). t.stand.past.tries) (h.moves m) ∙ new_tries (new_plan p) (n + m) refl refl;
      partial = partial;
    }

-- ---- replies

abbrev reply_at : ℕ → Outcome → ℕ → Reply
reply_at before o tries = cond (nat_le most_tries before && is_unfinished o) Spent (by_outcome tries o)

replies_as : (p : PlainPlan) (n m : ℕ) (s : PlanState) → GoesAs p n s → turn_reply s m ≡ run_reply p n m
replies_as p n m s h =
    let o = ap told (h.moves m) ∙ new_told (new_plan p) (n + m) refl refl in
    let tries = ap (λ (t : PlanState). t.stand.past.tries) (h.moves m) ∙ new_tries (new_plan p) (n + m) refl refl in
    ap (λ (t : ℕ). reply_at t (told (moved s m)) (moved s m).stand.past.tries) h.tries
    ∙ ap (λ (x : Outcome). reply_at (tries_at p n) x (moved s m).stand.past.tries) o
    ∙ ap (λ (t : ℕ). reply_at (tries_at p n) (outcome_at p (n + m)) t) tries

-- a result that was taken isn't unfinished
finished : (s : PlanState) (f : PlainFound) → s.partial ≡ Some f → is_unfinished (told s) ≡ false
finished s f some = ap is_unfinished (sym (told_partial s f some))

not_spent : (before tries : ℕ) (o : Outcome) → is_unfinished o ≡ false → reply_at before o tries ≡ by_outcome tries o
not_spent before tries o h = by (nat_le most_tries before) (is_unfinished o) h
  where
    by : (a b : Bool) → b ≡ false → cond (a && b) Spent (by_outcome tries o) ≡ by_outcome tries o
    by true true e = absurd cc
    by true false e = refl
    by false b e = refl

told_again : (s : PlanState) (f : PlainFound) (n : ℕ) → s.partial ≡ Some f → turn_reply s n ≡ by_outcome s.stand.past.tries (told s)
told_again s f n some =
    ap (λ (t : PlanState). reply_at s.stand.past.tries (told t) t.stand.past.tries) (taken_stays s f n some)
    ∙ not_spent s.stand.past.tries s.stand.past.tries (told s) (finished s f some)

-- the turn that took it is replied to alike
told_first : (s : PlanState) (f : PlainFound) (n : ℕ) → (moved s n).partial ≡ Some f → turn_reply s n ≡ by_outcome (moved s n).stand.past.tries (told (moved s n))
told_first s f n some = not_spent s.stand.past.tries (moved s n).stand.past.tries (told (moved s n)) (finished (moved s n) f some)

-- ---- all turns

again : (j k : Job) (ps : List Played) (f : PlainFound) (reply : Reply) → j.state.partial ≡ Some f → reply ≡ by_outcome j.state.stand.past.tries (told j.state) → Alone j ps k → AllFed ps → ReplyAgain reply ps
again j k [] f reply some is alone fed = tt
again j k (p ∷ ps) f reply some is alone fed =
    let x = played j alone.0 p alone.1 fed.0 in
    let state : alone.0.state ≡ j.state = ap (λ (i : Job). i.state) x.1 ∙ taken_stays j.state f p.tries some in (
      x.0 ∙ told_again j.state f p.tries some ∙ sym is,
      again alone.0 k ps f reply (ap (λ (s : PlanState). s.partial) state ∙ some) (is ∙ sym (ap (λ (s : PlanState). by_outcome s.stand.past.tries (told s)) state)) alone.2 fed.1,
    )

runs_from : (p : PlainPlan) (n : ℕ) (j k : Job) (ps : List Played) → GoesAs p n j.state → Alone j ps k → AllFed ps → AreOfRun p n ps
runs_from p n j k [] h alone fed = tt
runs_from p n j k (x ∷ rest) h alone fed =
    let one = played j alone.0 x alone.1 fed.0 in
    let state : alone.0.state ≡ moved j.state x.tries = ap (λ (i : Job). i.state) one.1 in (
      one.0 ∙ replies_as p n x.tries j.state h,
      by (is_taken_short p (n + x.tries)) refl one state (λ short. runs_from p (n + x.tries) alone.0 k rest (subst (GoesAs p (n + x.tries)) (sym state) (goes_on p n x.tries j.state h short)) alone.2 fed.1),
    )
  where
    by : (b : Bool) → is_taken_short p (n + x.tries) ≡ b → (x.reply ≡ turn_reply j.state x.tries) × (alone.0 ≡ turned j x.tries) → alone.0.state ≡ moved j.state x.tries → (is_taken_short p (n + x.tries) ≡ false → AreOfRun p (n + x.tries) rest)
        → MatchBool b (ReplyAgain x.reply rest) (AreOfRun p (n + x.tries) rest)
    by false e one state more = more e
    by true e one state more =
        let f = is_some_partial (end_at p (stand_after p (n + x.tries))) e in
        let some = partial_there p n x.tries j.state h ∙ f.1 in
        again alone.0 k rest f.0 x.reply (ap (λ (s : PlanState). s.partial) state ∙ some)
        (one.0 ∙ told_first j.state f.0 x.tries some ∙ sym (ap (λ (s : PlanState). by_outcome s.stand.past.tries (told s)) state)) alone.2 fed.1

pub all_of_run : (name : List ℕ) (p : PlainPlan) (turns : List Played) (k : Job) → Alone (new_job name p) turns k → AllFed turns → AreOfRun p 0 turns
all_of_run name p turns k alone fed = runs_from p 0 (new_job name p) k turns (begins p) alone fed

-- ---- a job that is spent

pub moved_plan : (s : PlanState) (n : ℕ) → (moved s n).plan ≡ s.plan
moved_plan s n = by s.partial
  where
    by : (o : Option PlainFound) → (moved_by s o n).plan ≡ s.plan
    by None = refl
    by (Some f) = refl

not_both : (a b : Bool) → b ≡ false → (a && b) ≡ true → ⊥
not_both true true e h = absurd cc
not_both true false e h = absurd cc
not_both false b e h = absurd cc

pub spent_none : (s : PlanState) (n : ℕ) → is_spent s n ≡ true → (moved s n).partial ≡ None
spent_none s n spent = by (moved s n).partial refl
  where
    by : (o : Option PlainFound) → (moved s n).partial ≡ o → (moved s n).partial ≡ None
    by None e = e
    by (Some f) e = absurd (not_both (nat_le most_tries s.stand.past.tries) (is_unfinished (told (moved s n))) (finished (moved s n) f e) spent)

-- ---- the end of a run

given_ends : (p : PlainPlan) → is_unfinished (given_of p) ≡ false
unfolding given_of
given_ends p = by (presets_of (rates_of p.request) (load_of p.request p.change (presets_in p) (burden_in p)))
  where
    by : (x : Presets) → is_unfinished (by_presets p x) ≡ false
    by presets.Short = refl
    by presets.Plain = refl
    by (presets.Change amount) = refl

unfinished_end : (p : PlainPlan) (e : End) → is_unfinished (by_end p e) ≡ true → e ≡ ends.Unfinished
unfinished_end p (ends.Ended None) h = absurd (by (is_given p) h)
  where
    by : (b : Bool) → is_unfinished (cond b (given_of p) answers.NoSelection) ≡ true → ⊥
    by true h = both_ways (is_unfinished (given_of p)) (given_ends p) h
    by false h = absurd cc
unfinished_end p (ends.Ended (Some f)) h = absurd cc
unfinished_end p (ends.Partial f) h = absurd cc
unfinished_end p ends.Unfinished h = refl

-- a stand at which a step is left
abbrev HasStep : Stand → Type 0
HasStep s = (x : PlainStep) × (rest : List PlainStep) × (s.left ≡ x ∷ rest)

step_left : (p : PlainPlan) (s : Stand) → end_at p s ≡ ends.Unfinished → HasStep s
step_left p s e = by s.left refl e
  where
    by : (left : List PlainStep) → s.left ≡ left → end_by p.request.take p.request.seed s left ≡ ends.Unfinished → HasStep s
    by [] is h = absurd cc
    by (x ∷ rest) is h = (x, rest, is)

-- of a run without a step left, or that took a result
none_left : (p : PlainPlan) (s : Stand) → is_unfinished (by_end p (end_at p s)) ≡ false → partial_of (end_at p s) ≡ None → s.left ≡ []
none_left p s done none = by s.left refl done none
  where
    over : (o : Option PlainFound) → is_unfinished (by_end p (or_unfinished o)) ≡ false → partial_of (or_unfinished o) ≡ None → ⊥
    over None h n = absurd cc
    over (Some f) h n = absurd cc

    step : (b : Bool) (o : Option PlainFound) → is_unfinished (by_end p (cond b (or_unfinished o) ends.Unfinished)) ≡ false → partial_of (cond b (or_unfinished o) ends.Unfinished) ≡ None → ⊥
    step true o h n = over o h n
    step false o h n = absurd cc

    by : (left : List PlainStep) → s.left ≡ left → is_unfinished (by_end p (end_by p.request.take p.request.seed s left)) ≡ false → partial_of (end_by p.request.take p.request.seed s left) ≡ None → s.left ≡ []
    by [] is h n = is
    by (x ∷ rest) is h n = absurd (step p.request.take (taken (results_in_column p.request.seed s (x ∷ rest))) h n)

pub spent_tries : (s : PlanState) (n : ℕ) → is_spent s n ≡ true → (moved s n).stand.past.tries ≡ s.stand.past.tries
spent_tries s n spent = by s.partial refl (leb-true most_tries s.stand.past.tries (and_parts _ _ spent).0) (and_parts _ _ spent).1
  where
    by : (o : Option PlainFound) → s.partial ≡ o → most_tries ≤ s.stand.past.tries → is_unfinished (told (moved_by s o n)) ≡ true → (moved_by s o n).stand.past.tries ≡ s.stand.past.tries
    by (Some f) is all open' = refl
    by None is all open' =
        let there = led s.plan s.stand (granted s n) in
        let left = step_left s.plan there (unfinished_end s.plan (end_at s.plan there) (ap is_unfinished (sym (told_there s n)) ∙ open')) in
        let tried = (all_tries s.plan.request.seed s.stand (granted s n) left.0 left.1 left.2).tries in
        omega (arith, tried, all)

-- ---- a job that is finished

tries_stay : (p : PlainPlan) (s : Stand) (m : ℕ) → s.left ≡ [] → (led p s (min m (most_tries - s.past.tries))).past.tries ≡ s.past.tries
tries_stay p s m none = ap (λ (x : Stand). x.past.tries) (stays_over p.request.seed s (min m (most_tries - s.past.tries)) none)

-- it makes no try, and comes to the same
abbrev Stays : PlanState → ℕ → Type 0
Stays s m = ((moved s m).stand.past.tries ≡ s.stand.past.tries) × (told (moved s m) ≡ told s)

stays_there : (s : PlanState) (n m : ℕ) → is_unfinished (told (moved s n)) ≡ false → Stays (moved s n) m
stays_there s n m done = by s.partial refl done
  where
    at_end : (o : Option PlainFound) → s.partial ≡ None → is_unfinished (told (moved_by s None n)) ≡ false → (moved_by s None n).partial ≡ o → Stays (moved_by s None n) m
    at_end (Some f) is done some =
        let same = taken_stays (moved_by s None n) f m some in
        (ap (λ (t : PlanState). t.stand.past.tries) same, ap told same)
    at_end None is done none =
        let there = led s.plan s.stand (granted s n) in
        let left = none_left s.plan there (ap is_unfinished (sym (told_there s n)) ∙ done) none in (
          ap (λ (t : PlanState). t.stand.past.tries) (moved_none (moved_by s None n) m (moved_by s None n).partial none) ∙ tries_stay s.plan there m left,
          over_stays (moved_by s None n) m none left,
        )

    by : (o : Option PlainFound) → s.partial ≡ o → is_unfinished (told (moved_by s o n)) ≡ false → Stays (moved_by s o n) m
    by (Some f) is done = let same = taken_stays s f m is in (ap (λ (t : PlanState). t.stand.past.tries) same, ap told same)
    by None is done = at_end (moved_by s None n).partial is done refl

pub finished_again : (s : PlanState) (n m : ℕ) → is_unfinished (told (moved s n)) ≡ false → turn_reply (moved s n) m ≡ turn_reply s n
finished_again s n m done =
    let stays = stays_there s n m done in
    let t = moved s n in
    ap (λ (o : Outcome). reply_at t.stand.past.tries o (moved t m).stand.past.tries) stays.1
    ∙ ap (λ (k : ℕ). reply_at t.stand.past.tries (told t) k) stays.0
    ∙ not_spent t.stand.past.tries t.stand.past.tries (told t) done
    ∙ sym (not_spent s.stand.past.tries t.stand.past.tries (told t) done)

pub finished_tries : (s : PlanState) (n m : ℕ) → is_unfinished (told (moved s n)) ≡ false → (moved (moved s n) m).stand.past.tries ≡ (moved s n).stand.past.tries
finished_tries s n m done = (stays_there s n m done).0

-- ---- a turn that ran out of memory

pub cut_on : (s t : PlanState) (n : ℕ) → s.partial ≡ None → IsCutShort s n t → (made : ℕ) × (made ≤ n) × ((m : ℕ) → moved t m ≡ moved s (made + m))
cut_on s t n none cut = let g = cut_goes s t n none cut in (g.made, (let few = g.most in omega (arith, few)), g.goes)
