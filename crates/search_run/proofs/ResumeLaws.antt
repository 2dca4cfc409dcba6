-- What is kept is gone on from, or refused.
use Rattle.walk_engine.specs.Search.{PlainSearch}
use Rattle.std.specs.Prelude.{ℕ, ◌≡◌, ◌≤◌, ◌<◌, Bool, true, false, List, [], ◌∷◌, length, drop, get_or, ◌+◌, Option, Some, None, IfSome, IsSome, IsSomeAnd, Result, Ok, Err, IfErr}
use Rattle.std.proofs.Common.{rules, refl, sym, ap, subst, ◌∙◌, inl, inr}
use Rattle.closing_log.specs.Log.{PlainLog, PlainOpen}
use Rattle.pick_problem.specs.Walk.{IsPosition}
use Rattle.search_run.specs.Resumed.{HasFollowed, IsNoWalk, IsNotFollowed, IsReplayed, IsRestored, IsUnfit, IsWalkKept}
use Rattle.search_run.specs.Held.{IsOf, IsRun, run_in, stand_in}
use Rattle.search_run.specs.Judged.{AreSectionsRight, IsPlaceRight, IsRefusedFor}
use Rattle.search_run.specs.Kept.{At, IsOpenAt, IsPositionFor, PlainSaved, comes_to, first_search, kept_walk, stand_of, tail_letters}
use Rattle.search_run.specs.Run.{Past, Stand}
use Rattle.search_run.specs.Runs.{PlainRun}
use Rattle.search_run.specs.Stands.{IsStand}
use Rattle.search_run.specs.Step.{AreSteps, PlainStep}
use Rattle.search_run.specs.declared.next_search.NextSearch.{NextSearch}
use Rattle.search_run.specs.declared.fault.RestoreRefused.{RestoreRefused}
use Rattle.search_run.specs.declared.fault.RestoreRefused.TheVariants as refused
use Rattle.search_run.specs.declared.restoring.Restored.{Restored}
use Rattle.search_run.proofs.ComeLaws.{IsSearchFirst, comes_to_search}
use Rattle.search_run.proofs.AlongLaws.{step_at}
use Rattle.search_run.proofs.ResultLaws.{comes_search, kept_stands}
use Rattle.pick_problem.specs.Walk as plain

-- what follows of an error follows of each
pub err_on : {X : Type 0} (P Q : RestoreRefused → Type 0) (r : Result X RestoreRefused) → ((e : RestoreRefused) → P e → Q e) → IfErr r P → IfErr r Q
err_on P Q (Ok x) f h = tt
err_on P Q (Err e) f h = f e h

pub not_both : (b : Bool) → b ≡ false → b ≡ true → ⊥
not_both b e f = let both : false ≡ true = sym e ∙ f in cc

module _ (seed : List ℕ) (steps : List PlainStep) (k : PlainSaved) (log : PlainLog) where
  there : At
  there = comes_to seed (first_search seed steps) log.closed

  -- ---- refusals

  pub not_followed : (e : RestoreRefused) → IsNotFollowed seed steps log.closed e → IsRefusedFor seed steps k log e
  not_followed (refused.Section i) h = inl h
  not_followed refused.IllFormed h = absurd h
  not_followed (refused.Answer i) h = absurd h
  not_followed refused.Memory h = tt

  pub without_tail : (c : NextSearch) (i : ℕ) → HasFollowed seed steps log.closed c → log.tail ≡ None → i ≡ length log.closed → IsRefusedFor seed steps k log (refused.Section i)
  without_tail c i h e at = inr (h.due, at, λ right. subst (λ (t : Option PlainOpen). IsSomeAnd t (IsOpenAt (comes_to seed (first_search seed steps) log.closed) k)) e right)

  open_there : (c : NextSearch) (o : PlainOpen) → HasFollowed seed steps log.closed c → IsOpenAt (record { left = drop c.at steps; found = (comes_to seed (first_search seed steps) log.closed).found }) k o → IsOpenAt (comes_to seed (first_search seed steps) log.closed) k o
  open_there c o h right = subst (λ (l : List PlainStep). IsOpenAt (record { left = l; found = (comes_to seed (first_search seed steps) log.closed).found }) k o) (sym h.comes.left) right

  open_here : (c : NextSearch) (o : PlainOpen) → HasFollowed seed steps log.closed c → IsOpenAt (comes_to seed (first_search seed steps) log.closed) k o → IsOpenAt (record { left = drop c.at steps; found = (comes_to seed (first_search seed steps) log.closed).found }) k o
  open_here c o h right = subst (λ (l : List PlainStep). IsOpenAt (record { left = l; found = (comes_to seed (first_search seed steps) log.closed).found }) k o) h.comes.left right

  pub wrong_tail : (c : NextSearch) (i : ℕ) (o : PlainOpen) → HasFollowed seed steps log.closed c → log.tail ≡ Some o → i ≡ length log.closed → (IsOpenAt (record { left = drop c.at steps; found = (comes_to seed (first_search seed steps) log.closed).found }) k o → ⊥) → IsRefusedFor seed steps k log (refused.Section i)
  wrong_tail c i o h e at wrong = inr (h.due, at, λ right. wrong (open_here c o h (subst (λ (t : Option PlainOpen). IsSomeAnd t (IsOpenAt (comes_to seed (first_search seed steps) log.closed) k)) e right)))

  pub sections_right : (c : NextSearch) (o : PlainOpen) → HasFollowed seed steps log.closed c → log.tail ≡ Some o → IsOpenAt (record { left = drop c.at steps; found = (comes_to seed (first_search seed steps) log.closed).found }) k o → AreSectionsRight seed steps k log
  sections_right c o h e right = record { closed = h.due; tail = subst (λ (t : Option PlainOpen). IsSomeAnd t (IsOpenAt (comes_to seed (first_search seed steps) log.closed) k)) (sym e) (open_there c o h right) }

  place_there : (c : NextSearch) (x : PlainStep) → HasFollowed seed steps log.closed c → c.at < length steps → x ≡ get_or steps c.at x → IsPosition x.problem (kept_walk k) → IsPlaceRight seed steps k log
  place_there c x h below is right = subst (λ (l : List PlainStep). IsPositionFor l (kept_walk k)) (sym (h.comes.left ∙ step_at steps c.at x below is)) right

  place_here : (c : NextSearch) (x : PlainStep) → HasFollowed seed steps log.closed c → c.at < length steps → x ≡ get_or steps c.at x → IsPlaceRight seed steps k log → IsPosition x.problem (kept_walk k)
  place_here c x h below is right = subst (λ (l : List PlainStep). IsPositionFor l (kept_walk k)) (h.comes.left ∙ step_at steps c.at x below is) right

  pub no_walk : (c : NextSearch) (x : PlainStep) (e : RestoreRefused) → HasFollowed seed steps log.closed c → c.at < length steps → x ≡ get_or steps c.at x → AreSectionsRight seed steps k log → IsNoWalk x.problem k e → IsRefusedFor seed steps k log e
  no_walk c x (refused.Section i) h below is right no_place = absurd no_place
  no_walk c x refused.IllFormed h below is right no_place = (right, λ p. no_place (place_here c x h below is p))
  no_walk c x (refused.Answer i) h below is right no_place = absurd no_place
  no_walk c x refused.Memory h below is right no_place = tt

  pub unfit_is : (c : NextSearch) (x : PlainStep) (w : PlainSearch) (letters : List ℕ) (e : RestoreRefused) → HasFollowed seed steps log.closed c → c.at < length steps → x ≡ get_or steps c.at x → AreSectionsRight seed steps k log → IsWalkKept x.problem k letters w → IsUnfit seed steps log.closed e → IsRefusedFor seed steps k log e
  unfit_is c x w letters (refused.Section i) h below is right kept unfit = absurd unfit
  unfit_is c x w letters refused.IllFormed h below is right kept unfit = absurd unfit
  unfit_is c x w letters (refused.Answer i) h below is right kept unfit = (right, place_there c x h below is kept.position, unfit)
  unfit_is c x w letters refused.Memory h below is right kept unfit = tt

  -- ---- what goes on

  pub resumes : (c : NextSearch) (x : PlainStep) (o : PlainOpen) (w : PlainSearch) (past : Past) (r : Restored) → HasFollowed seed steps log.closed c → log.tail ≡ Some o → IsOpenAt (record { left = drop c.at steps; found = (comes_to seed (first_search seed steps) log.closed).found }) k o → c.at < length steps → x ≡ get_or steps c.at x →
      IsWalkKept x.problem k o.letters w → IsReplayed seed steps log.closed k.tries past → r.at ≡ c.at → r.walk ≡ w → r.past ≡ past → IsRestored seed steps k log r
  resumes c x o w past r h e right below is kept replayed at walk past_is =
      record {
        can = record {
          closed = h.due;
          unfinished = subst (λ (t : Option PlainOpen). IsSome t) (sym e) some;
          tail = subst (λ (t : Option PlainOpen). IfSome t (IsOpenAt (comes_to seed (first_search seed steps) log.closed) k)) (sym e) (open_there c o h right);
          position = place_there c x h below is kept.position;
          answers = replayed.fit;
        };
        within = subst (λ (n : ℕ). n ≤ length steps) (sym at) h.comes.within;
        left = ap (λ (n : ℕ). drop n steps) at ∙ sym h.comes.left;
        problem = λ y rest here. ap (λ (v : PlainSearch). v.problem) walk ∙ (kept.problem ∙ same y rest (sym (ap (λ (n : ℕ). drop n steps) at) ∙ here));
        walk = ap (λ (v : PlainSearch). v.walk) walk ∙ kept.walk;
        before = ap (λ (v : PlainSearch). v.before) walk ∙ (kept.before ∙ ap tail_letters (sym e));
        past = past_is ∙ replayed.is;
      }
    where
      some : IsSome (Some o)
      some = search rules

      first_is : (y z : PlainStep) (ys zs : List PlainStep) → y ∷ ys ≡ z ∷ zs → y ≡ z
      first_is y z ys zs e = cc

      same : (y : PlainStep) (rest : List PlainStep) → drop c.at steps ≡ y ∷ rest → x.problem ≡ y.problem
      same y rest here = ap (λ (z : PlainStep). z.problem) (first_is x y (drop (c.at + 1) steps) rest (sym (step_at steps c.at x below is) ∙ here))

  restored_of : (r : Restored) (left : List PlainStep) → IsRestored seed steps k log r → drop r.at steps ≡ left → IsSearchFirst left → IsPositionFor left (kept_walk k) → IsOf left (Some r.walk)
  restored_of r [] h e first position = absurd position
  restored_of r (x ∷ rest) h e first position = (h.problem x rest e, first)

  pub restored_stand : (r : Restored) → IsRestored seed steps k log r → stand_in seed (drop r.at steps) (Some r.walk) r.past ≡ stand_of seed steps k log
  restored_stand r h =
      ap (λ (l : List PlainStep). record { left = l; walk = r.walk.walk; before = r.walk.before; past = r.past }) h.left
      ∙ (ap (λ (w : plain.Walk). record { left = (comes_to seed (first_search seed steps) log.closed).left; walk = w; before = r.walk.before; past = r.past }) h.walk
      ∙ (ap (λ (b : List ℕ). record { left = (comes_to seed (first_search seed steps) log.closed).left; walk = kept_walk k; before = b; past = r.past }) h.before
      ∙ ap (λ (p : Past). record { left = (comes_to seed (first_search seed steps) log.closed).left; walk = kept_walk k; before = tail_letters log.tail; past = p }) h.past))

  pub restored_run : (r : Restored) → AreSteps steps → IsRestored seed steps k log r → IsRun seed steps r.at (Some r.walk) r.past
  restored_run r are h =
      record {
        within = h.within;
        of = restored_of r (drop r.at steps) h refl
            (subst IsSearchFirst (sym h.left) (comes_search seed log.closed (first_search seed steps) (comes_to_search seed steps [])))
            (subst (λ (l : List PlainStep). IsPositionFor l (kept_walk k)) (sym h.left) h.can.position);
        steps_are = are;
        stands = subst (IsStand seed steps) (sym (restored_stand r h)) (kept_stands seed steps are k log h.can);
      }

  pub restored_is : (r : Restored) (run : PlainRun) → run ≡ record { seed = seed; steps = steps; stand = run.stand } → IsRestored seed steps k log r → run_in seed steps r.at (Some r.walk) r.past ≡ record { seed = run.seed; steps = run.steps; stand = stand_of run.seed run.steps k log }
  restored_is r run e h =
      ap (λ (s : Stand). record { seed = seed; steps = steps; stand = s }) (restored_stand r h)
      ∙ ap (λ (q : PlainRun). record { seed = q.seed; steps = q.steps; stand = stand_of q.seed q.steps k log }) (sym e)
