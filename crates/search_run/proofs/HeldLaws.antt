-- The pieces of a run, as it is held.
use Rattle.std.specs.Prelude.{ℕ, ◌≡◌, ◌≢◌, ◌≤◌, ◌<◌, ◌+◌, ◌-◌, ◌^◌, Bool, true, false, List, [], ◌∷◌, ◌++◌, length, drop, get_or, Option, Some, None, if◌then◌else◌, nat_lt, option_to_list, Result, Ok, Err, OnErr}
use Rattle.std.proofs.Common.{arith, refl, sym, ap, subst, ◌∙◌}
use Rattle.pick_problem.specs.Walk as plain
use Rattle.pick_problem.specs.Walk.{after_tries, start}
use Rattle.std.proofs.lemmas.List.{drop_all, drop_more, length-drop}
use Rattle.closing_log.specs.Log.{PlainOpen, PlainSection}
use Rattle.pick_problem.proofs.Deciding.{by_test, if_true, if_false, lt_no, lt_yes}
use Rattle.pick_problem.proofs.GraftLaws.{tries_within}
use Rattle.pick_problem.proofs.TryStepLaws.{after_done, all_made}
use Rattle.walk_engine.specs.Search.{PlainSearch, after}
use Rattle.search_run.specs.Found.{PlainFound, found_of}
use Rattle.search_run.specs.Held.{HasLeft, HasWalked, IsOf, IsRun, IsSame, Tries, before_in, run_in, search_in, stand_in, walk_in, walk_of}
use Rattle.pick_problem.specs.Digest.{digest_of}
use Rattle.search_run.specs.Kept.{tail_of}
use Rattle.search_run.specs.Leads.{Leads, at_start, at_walk, behind}
use Rattle.search_run.specs.Run.{Past, Stand, all_letters, begun, drawn, ends, go_on, made, onward, over, passed, sections_of, tried}
use Rattle.search_run.specs.Runs.{PlainRun, RunLeads}
use Rattle.search_run.specs.Stands.{IsStand}
use Rattle.search_run.specs.Step.{AreSteps, PlainStep, is_drawn}
use Rattle.search_run.specs.Turns.{IsPassed, IsTurn, IsWalkedOn, walked_by}
use Rattle.search_run.specs.declared.walking.Turn.{Turn}
use Rattle.search_run.proofs.LeadLaws.{goes_behind, leads_more, leads_none, walked}
use Rattle.search_run.proofs.RunLaws.{stays_over}
use Rattle.search_run.proofs.MadeLaws.{kept_begins, kept_passes_on, kept_walks_on}

-- ---- the walk of a step

pub walk_first : (seed : List ℕ) (x : PlainStep) (rest : List PlainStep) (walk : Option PlainSearch) → walk_in seed (x ∷ rest) walk ≡ walk_of seed x walk
walk_first seed x rest None = refl
walk_first seed x rest (Some w) = refl

pub of_one : (x : PlainStep) (rest : List PlainStep) (walk : Option PlainSearch) → IsOf (x ∷ rest) walk → IsOf (x ∷ []) walk
of_one x rest None h = tt
of_one x rest (Some w) h = h

pub of_more : (x : PlainStep) (rest : List PlainStep) (walk : Option PlainSearch) → IsOf (x ∷ []) walk → IsOf (x ∷ rest) walk
of_more x rest None h = tt
of_more x rest (Some w) h = h

-- a draw has no walk that has begun
pub of_draw : (x : PlainStep) (walk : Option PlainSearch) → IsOf (x ∷ []) walk → is_drawn x.stage ≡ true → walk ≡ None
of_draw x None h d = refl
of_draw x (Some w) h d = absurd (let e : true ≡ false = sym d ∙ h.1 in cc)

-- nothing has begun where nothing is left
pub of_none : (walk : Option PlainSearch) → IsOf [] walk → walk ≡ None
of_none None h = refl
of_none (Some w) h = absurd h

pub draw_begins : (seed : List ℕ) (x : PlainStep) → is_drawn x.stage ≡ true → begun seed x ≡ drawn x.problem seed
draw_begins seed x d = if_true (is_drawn x.stage) _ _ d

-- the walk of a search is that of its search
pub search_walk : (seed : List ℕ) (x : PlainStep) (walk : Option PlainSearch) → is_drawn x.stage ≡ false → walk_of seed x walk ≡ (search_in x walk).walk
search_walk seed x None d = if_false (is_drawn x.stage) _ _ d
search_walk seed x (Some w) d = refl

pub search_before : (x : PlainStep) (walk : Option PlainSearch) → before_in walk ≡ (search_in x walk).before
search_before x None = refl
search_before x (Some w) = refl

pub search_problem : (x : PlainStep) (walk : Option PlainSearch) → IsOf (x ∷ []) walk → (search_in x walk).problem ≡ x.problem
search_problem x None h = refl
search_problem x (Some w) h = h.0

-- ---- tries

-- tries are never fewer
pub tried_more : (s : PlainSearch) (n : ℕ) → s.walk.tries ≤ (after s n).walk.tries
tried_more s n = (tries_within s.problem s.walk n).0

-- a draw makes none
pub draw_walked : (x : PlainStep) (walk : Option PlainSearch) (n : ℕ) (t : Turn) → IsOf (x ∷ []) walk → is_drawn x.stage ≡ true → t.made ≡ 0 → t.done ≡ true → HasWalked x walk walk n t
draw_walked x walk n t h d made_none over =
    let none : walk ≡ None = of_draw x walk h d in
    let done : (seed : List ℕ) → (walk_of seed x walk).done ≡ true = λ seed. ap (λ (o : Option PlainSearch). (walk_of seed x o).done) none ∙ ap (λ (w : plain.Walk). w.done) (draw_begins seed x d) in
    record {
      before = refl;
      walk = λ seed. sym (after_done x.problem (walk_of seed x walk) n (done seed));
      count = λ seed. let w = walk_of seed x walk in omega (arith, made_none);
      over = λ seed. over ∙ sym (done seed);
    }

pub search_walked : (x : PlainStep) (old : Option PlainSearch) (now : PlainSearch) (n : ℕ) (t : Turn) (s : PlainSearch) → IsOf (x ∷ []) old → is_drawn x.stage ≡ false → s ≡ search_in x old → Tries s now n t → HasWalked x old (Some now) n t
search_walked x old now n t s h d same tries =
    let was : (seed : List ℕ) → walk_of seed x old ≡ s.walk = λ seed. search_walk seed x old d ∙ ap (λ (q : PlainSearch). q.walk) (sym same) in
    let problem : s.problem ≡ x.problem = ap (λ (q : PlainSearch). q.problem) same ∙ search_problem x old h in
    record {
      before = tries.before ∙ (ap (λ (q : PlainSearch). q.before) same ∙ sym (search_before x old));
      walk = λ seed. tries.walk ∙ (ap (λ p. after_tries p s.walk n) problem ∙ ap (λ (w : plain.Walk). after_tries x.problem w n) (sym (was seed)));
      count = λ seed. tries.count ∙ ap (λ (w : plain.Walk). made w now.walk) (sym (was seed));
      over = λ seed. tries.over;
    }

pub search_of_still : (x : PlainStep) (old : Option PlainSearch) (now : PlainSearch) (n : ℕ) (t : Turn) (s : PlainSearch) → IsOf (x ∷ []) old → is_drawn x.stage ≡ false → s ≡ search_in x old → now.problem ≡ s.problem → IsOf (x ∷ []) (Some now)
search_of_still x old now n t s h d same tries = (tries ∙ (ap (λ (q : PlainSearch). q.problem) same ∙ search_problem x old h), d)

pub search_same : (x : PlainStep) (old : Option PlainSearch) (now : PlainSearch) (s : PlainSearch) → is_drawn x.stage ≡ false → s ≡ search_in x old → now.before ≡ s.before → now.walk ≡ s.walk → IsSame x old (Some now)
search_same x old now s d same before walk =
    record {
      before = before ∙ (ap (λ (q : PlainSearch). q.before) same ∙ sym (search_before x old));
      walk = λ seed. walk ∙ (ap (λ (q : PlainSearch). q.walk) same ∙ sym (search_walk seed x old d));
    }

-- ---- the run

-- where tries lead a run that is at a step
pub at_first : (seed : List ℕ) (x : PlainStep) (rest : List PlainStep) (walk : Option PlainSearch) (past : Past) → stand_in seed (x ∷ rest) walk past ≡ at_walk x rest (walk_of seed x walk) (before_in walk) past
at_first seed x rest walk past = ap (λ (w : plain.Walk). at_walk x rest w (before_in walk) past) (walk_first seed x rest walk)

pub at_same : (seed : List ℕ) (x : PlainStep) (rest : List PlainStep) (old new : Option PlainSearch) (past : Past) → IsSame x old new → stand_in seed (x ∷ rest) new past ≡ stand_in seed (x ∷ rest) old past
at_same seed x rest old new past h =
    at_first seed x rest new past
    ∙ (ap (λ (w : plain.Walk). at_walk x rest w (before_in new) past) (h.walk seed) ∙ (ap (λ (b : List ℕ). at_walk x rest (walk_of seed x old) b past) h.before ∙ sym (at_first seed x rest old past)))

pub at_walked : (seed : List ℕ) (x : PlainStep) (rest : List PlainStep) (old new : Option PlainSearch) (past : Past) (n : ℕ) (t : Turn) → HasWalked x old new n t →
    stand_in seed (x ∷ rest) new (tried past t.made) ≡ at_walk x rest (after_tries x.problem (walk_of seed x old) n) (before_in old) (tried past (made (walk_of seed x old) (after_tries x.problem (walk_of seed x old) n)))
at_walked seed x rest old new past n t h =
    at_first seed x rest new (tried past t.made)
    ∙ (ap (λ (b : List ℕ). at_walk x rest (walk_of seed x new) b (tried past t.made)) h.before
    ∙ (ap (λ (k : ℕ). at_walk x rest (walk_of seed x new) (before_in old) (tried past k)) (h.count seed)
    ∙ ap (λ (w : plain.Walk). at_walk x rest w (before_in old) (tried past (made (walk_of seed x old) w))) (h.walk seed)))

-- ---- what a run keeps

-- where a step is left, the place is that of a step
pub first_left : {X : Type 0} (steps : List X) (at : ℕ) → drop at steps ≢ [] → at < length steps
first_left steps at some =
    by_test (at < length steps) (nat_lt at (length steps))
    (λ e. lt_yes at (length steps) e)
    (λ e. absurd (some (drop_all at steps (lt_no at (length steps) e))))

pub some_left : {X : Type 0} (x : X) (rest left : List X) → left ≡ x ∷ rest → left ≢ []
some_left x rest [] e = λ h. absurd (cc)
some_left x rest (y ∷ ys) e = λ (h : y ∷ ys ≡ []). absurd (cc)

pub none_left : {X : Type 0} (steps : List X) (at : ℕ) → at ≤ length steps → drop at steps ≡ [] → at ≡ length steps
none_left steps at within e =
    by_test (at ≡ length steps) (nat_lt at (length steps))
    (λ t. let l : length (drop at steps) ≡ length steps - at = length-drop at steps in let z : length (drop at steps) ≡ 0 = ap length e in omega (arith, lt_yes at (length steps) t, l, z))
    (λ f. omega (arith, lt_no at (length steps) f, within))

-- where nothing is left, the run is at its end
pub rests : (seed : List ℕ) (left : List PlainStep) (walk : Option PlainSearch) (past : Past) → left ≡ [] → IsOf left walk → stand_in seed left walk past ≡ over past
rests seed [] None past e h = refl
rests seed [] (Some w) past e h = absurd h
rests seed (x ∷ rest) walk past e h = absurd (cc)

pub of_nothing : (left : List PlainStep) → IsOf left None
of_nothing [] = tt
of_nothing (x ∷ rest) = tt

-- where a run begins
pub begins : (seed : List ℕ) (steps : List PlainStep) → AreSteps steps → IsRun seed steps 0 None (record { found = []; closed = []; tries = 0 })
begins seed steps are = record { within = omega arith; of = of_nothing steps; steps_are = are; stands = kept_begins seed steps are }

-- ---- tries of a run

module _ (seed : List ℕ) (steps : List PlainStep) (at : ℕ) (x : PlainStep) (rest : List PlainStep) (here : drop at steps ≡ x ∷ rest) where
  -- where it stands, at this step
  stands_here : (walk : Option PlainSearch) (past : Past) → stand_in seed (drop at steps) walk past ≡ at_walk x rest (walk_of seed x walk) (before_in walk) past
  stands_here walk past = ap (λ (left : List PlainStep). stand_in seed left walk past) here ∙ at_first seed x rest walk past

  pub is_here : (walk : Option PlainSearch) → IsOf (drop at steps) walk → IsOf (x ∷ []) walk
  is_here walk h = of_one x rest walk (subst (λ (left : List PlainStep). IsOf left walk) here h)

  is_there : (walk : Option PlainSearch) → IsOf (x ∷ []) walk → IsOf (drop at steps) walk
  is_there walk h = subst (λ (left : List PlainStep). IsOf left walk) (sym here) (of_more x rest walk h)

  walked_here : (old new : Option PlainSearch) (past : Past) (n : ℕ) (t : Turn) → HasWalked x old new n t →
      stand_in seed (drop at steps) new (tried past t.made) ≡ walked_by (stand_in seed (drop at steps) old past) (drop at steps) n
  walked_here old new past n t h =
      let w : plain.Walk = walk_of seed x old in
      ap (λ (left : List PlainStep). stand_in seed left new (tried past t.made)) here
      ∙ (at_walked seed x rest old new past n t h
      ∙ (sym (ap (λ (s : Stand). walked_by s (x ∷ rest) n) (stands_here old past)) ∙ sym (ap (λ (left : List PlainStep). walked_by (stand_in seed (drop at steps) old past) left n) here)))

  pub walked_keeps : (old new : Option PlainSearch) (past : Past) (n : ℕ) (t : Turn) → IsRun seed steps at old past → IsOf (x ∷ []) new → HasWalked x old new n t → IsRun seed steps at new (tried past t.made)
  walked_keeps old new past n t run of h =
      let w : plain.Walk = walk_of seed x old in
      let was : IsStand seed steps (at_walk x rest w (before_in old) past) = subst (IsStand seed steps) (stands_here old past) run.stands in
      record {
        within = run.within;
        of = is_there new of;
        steps_are = run.steps_are;
        stands =
            subst (IsStand seed steps) (sym (ap (λ (left : List PlainStep). stand_in seed left new (tried past t.made)) here ∙ at_walked seed x rest old new past n t h))
            (kept_walks_on seed steps run.steps_are x rest w (before_in old) past n (made w (after_tries x.problem w n)) was);
      }

  pub same_here : (old new : Option PlainSearch) (past : Past) → IsSame x old new → stand_in seed (drop at steps) new past ≡ stand_in seed (drop at steps) old past
  same_here old new past h =
      ap (λ (left : List PlainStep). stand_in seed left new past) here ∙ (at_same seed x rest old new past h ∙ sym (ap (λ (left : List PlainStep). stand_in seed left old past) here))

  pub same_keeps : (old new : Option PlainSearch) (past : Past) → IsRun seed steps at old past → IsOf (x ∷ []) new → IsSame x old new → IsRun seed steps at new past
  same_keeps old new past run of h =
      record {
        within = run.within;
        of = is_there new of;
        steps_are = run.steps_are;
        stands = subst (IsStand seed steps) (sym (same_here old new past h)) run.stands;
      }

  pub walked_is : (old new : Option PlainSearch) (past : Past) (n : ℕ) (t : Turn) → HasWalked x old new n t → IsWalkedOn (run_in seed steps at old past) n t (run_in seed steps at new (tried past t.made))
  walked_is old new past n t h =
      let w : plain.Walk = walk_of seed x old in
      let v : plain.Walk = after_tries x.problem w n in
      let was : stand_in seed (drop at steps) old past ≡ at_walk x rest w (before_in old) past = stands_here old past in
      let now : stand_in seed (drop at steps) new (tried past t.made) ≡ at_walk x rest v (before_in old) (tried past (made w v)) = ap (λ (left : List PlainStep). stand_in seed left new (tried past t.made)) here ∙ at_walked seed x rest old new past n t h in
      let count : t.made ≡ made w v = h.count seed ∙ ap (made w) (h.walk seed) in
      let leads : Leads seed (at_walk x rest w (before_in old) past) (made w v) (at_walk x rest v (before_in old) (tried past (made w v))) = walked seed x rest w (before_in old) past n in
      let within : (w.tries ≤ v.tries) × (v.tries ≤ w.tries + n) = tries_within x.problem w n in
      record {
        is = ap (λ (s : Stand). record { seed = seed; steps = steps; stand = s }) (walked_here old new past n t h);
        count = refl;
        over = h.over seed ∙ (ap (λ (u : plain.Walk). u.done) (h.walk seed) ∙ sym (ap (λ (s : Stand). s.walk.done) now));
        left = refl;
        leads = record {
          same_seed = refl;
          same_steps = refl;
          leads = subst (λ (k : ℕ). Leads seed (stand_in seed (drop at steps) old past) k (stand_in seed (drop at steps) new (tried past t.made))) (sym count)
              (subst (λ (s : Stand). Leads seed s (made w v) (stand_in seed (drop at steps) new (tried past t.made))) (sym was)
              (subst (λ (s : Stand). Leads seed (at_walk x rest w (before_in old) past) (made w v) s) (sym now) leads));
        };
        most = omega (arith, count, within.0, within.1);
        all = λ going. let v_tries : v.tries ≡ w.tries + n = all_made x.problem w n (ap (λ (u : plain.Walk). u.done) (sym (h.walk seed)) ∙ (sym (h.over seed) ∙ going)) in omega (arith, count, v_tries);
      }

  -- ---- a step that is passed

  behind_here : (next : ℕ) (walk : Option PlainSearch) (past new : Past) → drop next steps ≡ (if ends x (past.found ++ found_of x (walk_of seed x walk).best) then [] else rest) →
      new ≡ passed x (before_in walk) (walk_of seed x walk) (walk_of seed x walk) past →
      stand_in seed (drop next steps) None new ≡ behind seed x rest (walk_of seed x walk) (before_in walk) past
  behind_here next walk past new left is =
      let w : plain.Walk = walk_of seed x walk in
      let b : Bool = ends x (past.found ++ found_of x w.best) in
      ap (λ (l : List PlainStep). stand_in seed l None new) left
      ∙ (ap (λ (p : Past). stand_in seed (if b then [] else rest) None p) is ∙ by (ends x (past.found ++ found_of x w.best)) (passed x (before_in walk) w w past))
    where
      by : (b : Bool) (p : Past) → stand_in seed (if b then [] else rest) None p ≡ (if b then over p else at_start seed rest p)
      by true p = refl
      by false p = refl

  pub passed_keeps : (next : ℕ) (walk : Option PlainSearch) (past new : Past) → IsRun seed steps at walk past → next ≤ length steps → drop next steps ≡ (if ends x (past.found ++ found_of x (walk_of seed x walk).best) then [] else rest) →
      new ≡ passed x (before_in walk) (walk_of seed x walk) (walk_of seed x walk) past → (walk_of seed x walk).done ≡ true → IsRun seed steps next None new
  passed_keeps next walk past new run within left is done =
      record {
        within = within;
        of = tt;
        steps_are = run.steps_are;
        stands =
            subst (IsStand seed steps) (sym (behind_here next walk past new left is))
            (kept_passes_on seed steps run.steps_are x rest (walk_of seed x walk) (before_in walk) past done (subst (IsStand seed steps) (stands_here walk past) run.stands));
      }

  pub passed_is : (next : ℕ) (walk : Option PlainSearch) (past new : Past) → drop next steps ≡ (if ends x (past.found ++ found_of x (walk_of seed x walk).best) then [] else rest) →
      new ≡ passed x (before_in walk) (walk_of seed x walk) (walk_of seed x walk) past → (walk_of seed x walk).done ≡ true → IsPassed (run_in seed steps at walk past) (run_in seed steps next None new)
  passed_is next walk past new left is done =
      record {
        leads = record {
          same_seed = refl;
          same_steps = refl;
          leads = subst (λ (s : Stand). Leads seed s 0 (stand_in seed (drop next steps) None new)) (sym (stands_here walk past))
              (subst (λ (s : Stand). Leads seed (at_walk x rest (walk_of seed x walk) (before_in walk) past) 0 s) (sym (behind_here next walk past new left is))
              (goes_behind seed x rest (walk_of seed x walk) (before_in walk) past done));
        };
        fewer = fewer (ends x (past.found ++ found_of x (walk_of seed x walk).best)) left;
      }
    where
      fewer : (b : Bool) → drop next steps ≡ (if b then [] else rest) → length (drop next steps) < length (drop at steps)
      fewer true e = omega (arith, ap length e, ap length here)
      fewer false e = omega (arith, ap length e, ap length here)

  -- what is put behind the run is what the step leaves there
  pub put_is : (walk : Option PlainSearch) (past : Past) (found : Option PlainFound) (section : Option PlainSection) → option_to_list found ≡ found_of x (walk_of seed x walk).best → option_to_list section ≡ sections_of x (before_in walk) (walk_of seed x walk) →
      record { found = past.found ++ option_to_list found; closed = past.closed ++ option_to_list section; tries = past.tries } ≡ passed x (before_in walk) (walk_of seed x walk) (walk_of seed x walk) past
  put_is walk past found section f s =
      let w : plain.Walk = walk_of seed x walk in
      let none : past.tries ≡ past.tries + made w w = omega arith in
      ap (λ (fs : List PlainFound). record { found = past.found ++ fs; closed = past.closed ++ option_to_list section; tries = past.tries }) f
      ∙ (ap (λ (ss : List PlainSection). record { found = past.found ++ found_of x w.best; closed = past.closed ++ ss; tries = past.tries }) s
      ∙ ap (λ (k : ℕ). record { found = past.found ++ found_of x w.best; closed = past.closed ++ sections_of x (before_in walk) w; tries = k }) none)

-- ---- the same by the fields

pub on_err : {X Y : Type 0} {P : Type 0} (r : Result X Y) → P → OnErr r P
on_err (Ok x) p = tt
on_err (Err y) p = p

module _ (now : PlainRun) (seed : List ℕ) (steps : List PlainStep) (at : ℕ) (old taken : Option PlainSearch) (past : Past) (is_now : run_in seed steps at old past ≡ now) (some : now.stand.left ≢ []) (value : taken ≡ old) where
  some_here : drop at steps ≢ []
  some_here e = some (sym (ap (λ (r : PlainRun). r.stand.left) is_now) ∙ e)

  pub below_here : at < length steps
  below_here = first_left steps at some_here

  pub here_is : (x : PlainStep) → x ≡ get_or steps at x → drop at steps ≡ x ∷ drop (at + 1) steps
  here_is x is = drop_more steps at x below_here ∙ ap (λ (y : PlainStep). y ∷ drop (at + 1) steps) (sym is)

  pub of_here : (x : PlainStep) → x ≡ get_or steps at x → IsRun seed steps at old past → IsOf (x ∷ []) taken
  of_here x is run = subst (IsOf (x ∷ [])) (sym value) (is_here seed steps at x (drop (at + 1) steps) (here_is x is) old run.of)

  pub walked_on : (x : PlainStep) (new : Option PlainSearch) (n : ℕ) (t : Turn) → x ≡ get_or steps at x → HasWalked x taken new n t → IsWalkedOn now n t (run_in seed steps at new (tried past t.made))
  walked_on x new n t is h =
      subst (λ (r : PlainRun). IsWalkedOn r n t (run_in seed steps at new (tried past t.made))) is_now
      (walked_is seed steps at x (drop (at + 1) steps) (here_is x is) old new past n t (subst (λ (w : Option PlainSearch). HasWalked x w new n t) value h))

  pub walked_kept : (x : PlainStep) (new : Option PlainSearch) (n : ℕ) (t : Turn) → x ≡ get_or steps at x → IsRun seed steps at old past → IsOf (x ∷ []) new → HasWalked x taken new n t → IsRun seed steps at new (tried past t.made)
  walked_kept x new n t is run of h =
      walked_keeps seed steps at x (drop (at + 1) steps) (here_is x is) old new past n t run of (subst (λ (w : Option PlainSearch). HasWalked x w new n t) value h)

  pub same_kept : (x : PlainStep) (new : Option PlainSearch) → x ≡ get_or steps at x → IsRun seed steps at old past → IsOf (x ∷ []) new → IsSame x taken new → IsRun seed steps at new past
  same_kept x new is run of h = same_keeps seed steps at x (drop (at + 1) steps) (here_is x is) old new past run of (subst (λ (w : Option PlainSearch). IsSame x w new) value h)

  pub same_is : (x : PlainStep) (new : Option PlainSearch) → x ≡ get_or steps at x → IsSame x taken new → run_in seed steps at new past ≡ now
  same_is x new is h =
      ap (λ (s : Stand). record { seed = seed; steps = steps; stand = s }) (same_here seed steps at x (drop (at + 1) steps) (here_is x is) old new past (subst (λ (w : Option PlainSearch). IsSame x w new) value h)) ∙ is_now

  -- the first of the steps that are left, whichever it is
  by_first : (P : Type 0) → ((x : PlainStep) (rest : List PlainStep) → drop at steps ≡ x ∷ rest → P) → P
  by_first P f = by (drop at steps) refl
    where
      by : (l : List PlainStep) → drop at steps ≡ l → P
      by [] e = absurd (some_here e)
      by (x ∷ rest) e = f x rest e

  done_here : (x : PlainStep) (rest : List PlainStep) → drop at steps ≡ x ∷ rest → now.stand.walk.done ≡ true → (walk_of seed x old).done ≡ true
  done_here x rest e done =
      sym (ap (λ (l : List PlainStep). (walk_in seed l old).done) e ∙ ap (λ (w : plain.Walk). w.done) (walk_first seed x rest old)) ∙ (ap (λ (r : PlainRun). r.stand.walk.done) is_now ∙ done)

  pub left_kept : (next : ℕ) (new : Past) → IsRun seed steps at old past → HasLeft seed steps at old past next new → now.stand.walk.done ≡ true → IsRun seed steps next None new
  left_kept next new run h done =
      by_first (IsRun seed steps next None new) (λ x rest e. passed_keeps seed steps at x rest e next old past new run h.within (h.left x rest e) (h.is x rest e) (done_here x rest e done))

  pub left_is : (next : ℕ) (new : Past) → HasLeft seed steps at old past next new → now.stand.walk.done ≡ true → IsPassed now (run_in seed steps next None new)
  left_is next new h done =
      subst (λ (r : PlainRun). IsPassed r (run_in seed steps next None new)) is_now
      (by_first (IsPassed (run_in seed steps at old past) (run_in seed steps next None new)) (λ x rest e. passed_is seed steps at x rest e next old past new (h.left x rest e) (h.is x rest e) (done_here x rest e done)))

-- the section of the step at which it stands
pub tail_is : (now : PlainRun) (seed : List ℕ) (steps : List PlainStep) (at : ℕ) (walk : Option PlainSearch) (past : Past) (x : PlainStep) (o : PlainOpen) → run_in seed steps at walk past ≡ now → (rest : List PlainStep) × (now.stand.left ≡ x ∷ rest) →
    ((any : List ℕ) → o ≡ record { row = x.row; stage = x.stage; digest = digest_of x.problem; letters = all_letters (before_in walk) (walk_of any x walk) }) → Some o ≡ tail_of now.stand now.stand.left
tail_is now seed steps at walk past x o e left h =
    let rest : List PlainStep = left.0 in
    let here : drop at steps ≡ x ∷ rest = ap (λ (r : PlainRun). r.stand.left) e ∙ left.1 in
    let there : now.stand ≡ at_walk x rest (walk_of seed x walk) (before_in walk) past = sym (ap (λ (r : PlainRun). r.stand) e) ∙ (ap (λ (l : List PlainStep). stand_in seed l walk past) here ∙ at_first seed x rest walk past) in
    ap (λ (p : PlainOpen). Some p) (h seed) ∙ sym (ap (λ (s : Stand). tail_of s s.left) there)

pub tail_none : (s : Stand) → s.left ≡ [] → None ≡ tail_of s s.left
tail_none s e = sym (ap (tail_of s) e)

-- ---- turns

-- a walk that goes on stays where it is, given no try
still : (seed : List ℕ) (left : List PlainStep) (w : plain.Walk) (before : List ℕ) (past : Past) → left ≢ [] → w.done ≡ false → onward seed left w before past 0 ≡ record { left = left; walk = w; before = before; past = past }
still seed [] w before past some going = absurd (some refl)
still seed (x ∷ rest) w before past some going =
    let none : past.tries + made w w ≡ past.tries = omega arith in
    if_false w.done _ _ going ∙ ap (λ (k : ℕ). record { left = x ∷ rest; walk = w; before = before; past = record { found = past.found; closed = past.closed; tries = k } }) none

pub run_leads_none : (a : PlainRun) → RunLeads a 0 a
run_leads_none a = record { same_seed = refl; same_steps = refl; leads = leads_none a.seed a.stand }

pub run_leads_more : (a b c : PlainRun) (k n : ℕ) → RunLeads a k b → RunLeads b n c → RunLeads a (k + n) c
run_leads_more a b c k n h l =
    record {
      same_seed = l.same_seed ∙ h.same_seed;
      same_steps = l.same_steps ∙ h.same_steps;
      leads = leads_more a.seed a.stand b.stand c.stand k n h.leads (subst (λ (seed : List ℕ). Leads seed b.stand n c.stand) h.same_seed l.leads);
    }

leads_by : (a c : PlainRun) (k n : ℕ) → k ≡ n → RunLeads a k c → RunLeads a n c
leads_by a c k n e h = subst (λ (m : ℕ). RunLeads a m c) e h

-- where tries lead, with all of them made
leads_to : (a b : PlainRun) (k m n : ℕ) → RunLeads a k b → k + m ≡ n → b.stand ≡ go_on b.seed b.stand m → b ≡ record { seed = a.seed; steps = a.steps; stand = go_on a.seed a.stand n }
leads_to a b k m n h e stays =
    let there : go_on b.seed b.stand m ≡ go_on a.seed a.stand n = ap (λ (seed : List ℕ). go_on seed b.stand m) h.same_seed ∙ (h.leads.goes m ∙ ap (go_on a.seed a.stand) e) in
    ap (λ (seed : List ℕ). record { seed = seed; steps = b.steps; stand = b.stand }) h.same_seed
    ∙ (ap (λ (steps : List PlainStep). record { seed = a.seed; steps = steps; stand = b.stand }) h.same_steps
    ∙ ap (λ (s : Stand). record { seed = a.seed; steps = a.steps; stand = s }) (stays ∙ there))

-- all tries were made, and the walk goes on
pub turn_stays : (old new : PlainRun) (n m : ℕ) (t : Turn) → IsWalkedOn old m t new → t.done ≡ false → t.made ≡ n → old.stand.left ≢ [] → new ≡ record { seed = old.seed; steps = old.steps; stand = go_on old.seed old.stand n }
turn_stays old new n m t h going all some =
    let e : t.made + 0 ≡ n = omega (arith, all) in
    leads_to old new t.made 0 n h.leads e
    (sym (still new.seed new.stand.left new.stand.walk new.stand.before new.stand.past (λ e. some (sym h.left ∙ e)) (sym h.over ∙ going)))

-- some tries were made, and the walk goes on
pub turn_open : (old new : PlainRun) (n m : ℕ) (t : Turn) → m ≤ n → 0 < m → IsWalkedOn old m t new → t.done ≡ false → IsTurn old n t.made new
turn_open old new n m t le some h going =
    let same : length new.stand.left ≡ length old.stand.left = ap length h.left in
    record { most = omega (arith, le, h.most); leads = h.leads; less = omega (arith, le, some, same, h.all going) }

-- the step was passed
pub turn_passed : (old mid new : PlainRun) (n m : ℕ) (t : Turn) → m ≤ n → IsWalkedOn old m t mid → IsPassed mid new → IsTurn old n t.made new
turn_passed old mid new n m t le h p =
    let same : length mid.stand.left ≡ length old.stand.left = ap length h.left in
    let none : t.made + 0 ≡ t.made = omega arith in
    record {
      most = omega (arith, le, h.most);
      leads = leads_by old new (t.made + 0) t.made none (run_leads_more old mid new t.made 0 h.leads p.leads);
      less = omega (arith, le, h.most, same, p.fewer);
    }

-- nothing was tried, or the step could not be passed
pub turn_begins : (old new : PlainRun) (n : ℕ) → new ≡ old → (k : ℕ) × (k ≤ n) × RunLeads old k new
turn_begins old new n e = (0, omega arith, subst (λ (r : PlainRun). RunLeads old 0 r) (sym e) (run_leads_none old))

pub turn_waits : (old mid new : PlainRun) (n m : ℕ) (t : Turn) → m ≤ n → IsWalkedOn old m t mid → new ≡ mid → (k : ℕ) × (k ≤ n) × RunLeads old k new
turn_waits old mid new n m t le h e = (t.made, omega (arith, le, h.most), subst (λ (r : PlainRun). RunLeads old t.made r) (sym e) h.leads)

-- ---- all turns

-- so many tries are left of a budget
pub record IsOn (old : PlainRun) (budget left : ℕ) (now : PlainRun) : Type 0 where
  pub most : left ≤ budget
  pub leads : RunLeads old (budget - left) now

pub go_begins : (old : PlainRun) (budget : ℕ) → IsOn old budget budget old
go_begins old budget = record { most = omega arith; leads = leads_by old old 0 (budget - budget) (omega arith) (run_leads_none old) }

pub go_turns : (old mid new : PlainRun) (budget left k : ℕ) → IsOn old budget left mid → IsTurn mid left k new → IsOn old budget (left - k) new
go_turns old mid new budget left k h t =
    record {
      most = omega (arith, h.most);
      leads = leads_by old new ((budget - left) + k) (budget - (left - k)) (omega (arith, h.most, t.most)) (run_leads_more old mid new (budget - left) k h.leads t.leads);
    }

pub go_stays : (old mid new : PlainRun) (budget left : ℕ) → IsOn old budget left mid → new ≡ record { seed = mid.seed; steps = mid.steps; stand = go_on mid.seed mid.stand left } → new ≡ record { seed = old.seed; steps = old.steps; stand = go_on old.seed old.stand budget }
go_stays old mid new budget left h e =
    let all : (budget - left) + left ≡ budget = omega (arith, h.most) in
    let there : go_on mid.seed mid.stand left ≡ go_on old.seed old.stand budget = ap (λ (seed : List ℕ). go_on seed mid.stand left) h.leads.same_seed ∙ (h.leads.leads.goes left ∙ ap (go_on old.seed old.stand) all) in
    e
    ∙ (ap (λ (seed : List ℕ). record { seed = seed; steps = mid.steps; stand = go_on mid.seed mid.stand left }) h.leads.same_seed
    ∙ (ap (λ (steps : List PlainStep). record { seed = old.seed; steps = steps; stand = go_on mid.seed mid.stand left }) h.leads.same_steps
    ∙ ap (λ (s : Stand). record { seed = old.seed; steps = old.steps; stand = s }) there))

pub go_over : (old mid : PlainRun) (budget left : ℕ) → IsOn old budget left mid → mid.stand ≡ over mid.stand.past → mid ≡ record { seed = old.seed; steps = old.steps; stand = go_on old.seed old.stand budget }
go_over old mid budget left h e =
    let all : (budget - left) + left ≡ budget = omega (arith, h.most) in
    let nothing : mid.stand.left ≡ [] = ap (λ (s : Stand). s.left) e in
    leads_to old mid (budget - left) left budget h.leads all (e ∙ sym (stays_over mid.seed mid.stand left nothing))

pub go_fails : (old mid new : PlainRun) (budget left : ℕ) → IsOn old budget left mid → (k : ℕ) × (k ≤ left) × RunLeads mid k new → (k : ℕ) × (k ≤ budget) × RunLeads old k new
go_fails old mid new budget left h (k, le, l) = ((budget - left) + k, omega (arith, h.most, le), run_leads_more old mid new (budget - left) k h.leads l)

pub go_fits : (old mid : PlainRun) (budget left : ℕ) → IsOn old budget left mid → old.stand.past.tries + budget < 2 ^ 64 → mid.stand.past.tries + left < 2 ^ 64
go_fits old mid budget left h fits = omega (arith, fits, h.most, h.leads.leads.tries)
