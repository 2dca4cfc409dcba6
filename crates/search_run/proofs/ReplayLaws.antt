-- What a run has done that goes on from what is kept, as the code makes it again.
use Rattle.std.specs.Prelude.{ℕ, ◌≡◌, ◌≤◌, ◌<◌, ◌+◌, Bool, true, false, List, [], ◌∷◌, ◌++◌, length, take, drop, get_or, Option, if◌then◌else◌, option_to_list}
use Rattle.std.proofs.Common.{arith, refl, sym, ap, subst, ◌∙◌}
use Rattle.std.proofs.lemmas.List.{append-nil, drop_all, take_all, take_more}
use Rattle.closing_log.specs.Log.{PlainSection}
use Rattle.pick_problem.specs.Admissible.{IsFit}
use Rattle.random_draw.specs.Draw.{draw_of}
use Rattle.search_run.specs.Resumed.{HasDrawn, IsReplayed}
use Rattle.search_run.specs.Found.{PlainFound, found_of}
use Rattle.search_run.specs.Kept.{Along, At, IsDueAt, IsFitAt, NamesFirst, answered, comes_to, first_search, to_search}
use Rattle.search_run.specs.Run.{Past, ends}
use Rattle.search_run.specs.Step.{PlainStep, is_drawn}
use Rattle.search_run.proofs.AlongLaws.{along_at, along_take, comes_take, named_below, step_at}
use Rattle.search_run.proofs.ComeLaws.{behind_step, draw_first, search_first}
use Rattle.search_run.proofs.ComingLaws.{by_ends}

-- ---- draws

-- past some draws
pub record HasDrawnSome (seed : List ℕ) (steps : List PlainStep) (from at : ℕ) (old new : Past) : Type 0 where
  pub within : at ≤ length steps
  pub comes : to_search seed (drop from steps) old.found ≡ to_search seed (drop at steps) new.found
  pub closed : new.closed ≡ old.closed
  pub tries : new.tries ≡ old.tries

pub draws_begin : (seed : List ℕ) (steps : List PlainStep) (from : ℕ) (old : Past) → from ≤ length steps → HasDrawnSome seed steps from from old old
draws_begin seed steps from old within = record { within = within; comes = refl; closed = refl; tries = refl }

pub draws_on : (seed : List ℕ) (steps : List PlainStep) (from at next : ℕ) (old now new : Past) (x : PlainStep) (found : Option PlainFound) → at < length steps → x ≡ get_or steps at x → is_drawn x.stage ≡ true →
    option_to_list found ≡ found_of x (draw_of x.problem seed) → new ≡ record { found = now.found ++ option_to_list found; closed = now.closed ++ []; tries = now.tries } → next ≤ length steps →
    ((y : PlainStep) (rest : List PlainStep) → drop at steps ≡ y ∷ rest → drop next steps ≡ (if ends y new.found then [] else rest)) →
    HasDrawnSome seed steps from at old now → HasDrawnSome seed steps from next old new
draws_on seed steps from at next old now new x found below is drawn f put within left h =
    let rest : List PlainStep = drop (at + 1) steps in
    let here : drop at steps ≡ x ∷ rest = step_at steps at x below is in
    let fs : new.found ≡ now.found ++ found_of x (draw_of x.problem seed) = ap (λ (p : Past). p.found) put ∙ ap (λ (l : List PlainFound). now.found ++ l) f in
    record {
      within = within;
      comes =
          h.comes
          ∙ (ap (λ (l : List PlainStep). to_search seed l now.found) here
          ∙ (draw_first seed x rest now.found drawn
          ∙ (ap (behind_step seed x rest) (sym fs) ∙ (sym (by_ends seed (ends x new.found) rest new.found) ∙ ap (λ (l : List PlainStep). to_search seed l new.found) (sym (left x rest here))))));
      closed = ap (λ (p : Past). p.closed) put ∙ (append-nil now.closed ∙ h.closed);
      tries = ap (λ (p : Past). p.tries) put ∙ h.tries;
    }

pub draws_fewer : (steps : List PlainStep) (at next : ℕ) (x : PlainStep) (found : List PlainFound) → at < length steps → x ≡ get_or steps at x →
    ((y : PlainStep) (rest : List PlainStep) → drop at steps ≡ y ∷ rest → drop next steps ≡ (if ends y found then [] else rest)) → length (drop next steps) < length (drop at steps)
draws_fewer steps at next x found below is left = by (ends x found) (left x (drop (at + 1) steps) here)
  where
    here : drop at steps ≡ x ∷ drop (at + 1) steps
    here = step_at steps at x below is

    by : (b : Bool) → drop next steps ≡ (if b then [] else drop (at + 1) steps) → length (drop next steps) < length (drop at steps)
    by true e = omega (arith, ap length e, ap length here)
    by false e = omega (arith, ap length e, ap length here)

pub draws_at_search : (seed : List ℕ) (steps : List PlainStep) (from at : ℕ) (old now : Past) (x : PlainStep) → at < length steps → x ≡ get_or steps at x → is_drawn x.stage ≡ false → HasDrawnSome seed steps from at old now → HasDrawn seed steps from at old now
draws_at_search seed steps from at old now x below is search h =
    let here : drop at steps ≡ x ∷ drop (at + 1) steps = step_at steps at x below is in
    record {
      within = h.within;
      comes = h.comes ∙ (ap (λ (l : List PlainStep). to_search seed l now.found) here ∙ (search_first seed x (drop (at + 1) steps) now.found search ∙ ap (λ (l : List PlainStep). record { left = l; found = now.found }) (sym here)));
      closed = h.closed;
      tries = h.tries;
    }

pub draws_at_end : (seed : List ℕ) (steps : List PlainStep) (from at : ℕ) (old now : Past) → length steps ≤ at → HasDrawnSome seed steps from at old now → HasDrawn seed steps from at old now
draws_at_end seed steps from at old now over h =
    let none : drop at steps ≡ [] = drop_all at steps over in
    record {
      within = h.within;
      comes = h.comes ∙ (ap (λ (l : List PlainStep). to_search seed l now.found) none ∙ ap (λ (l : List PlainStep). record { left = l; found = now.found }) (sym none));
      closed = h.closed;
      tries = h.tries;
    }

-- ---- sections

-- after the first sections
pub record IsReplayedSome (seed : List ℕ) (steps : List PlainStep) (closed : List PlainSection) (tries i at : ℕ) (past : Past) : Type 0 where
  pub within : at ≤ length steps
  pub comes : comes_to seed (first_search seed steps) (take i closed) ≡ record { left = drop at steps; found = past.found }
  pub closed_is : past.closed ≡ take i closed
  pub tries_are : past.tries ≡ tries
  pub fit : Along IsFitAt seed (first_search seed steps) (take i closed)

pub replay_begins : (seed : List ℕ) (steps : List PlainStep) (closed : List PlainSection) (tries at : ℕ) (past : Past) → HasDrawn seed steps 0 at (record { found = []; closed = []; tries = tries }) past → IsReplayedSome seed steps closed tries 0 at past
replay_begins seed steps closed tries at past h = record { within = h.within; comes = h.comes; closed_is = h.closed; tries_are = h.tries; fit = tt }

due_here : (at : At) (left : List PlainStep) (found : List PlainFound) (s : PlainSection) → at ≡ record { left = left; found = found } → IsDueAt at s → NamesFirst left s.row s.stage s.digest
due_here at left found s e h = subst (λ (a : At). IsDueAt a s) e h

pub replay_below : (seed : List ℕ) (steps : List PlainStep) (closed : List PlainSection) (tries i at : ℕ) (past : Past) (s : PlainSection) → IsReplayedSome seed steps closed tries i at past → IsDueAt (comes_to seed (first_search seed steps) (take i closed)) s → at < length steps
replay_below seed steps closed tries i at past s h due = named_below steps at s.row s.stage s.digest (due_here _ (drop at steps) past.found s h.comes due)

pub replay_at : (seed : List ℕ) (steps : List PlainStep) (closed : List PlainSection) (tries i at : ℕ) (past : Past) (s : PlainSection) → i < length closed → s ≡ get_or closed i s → Along IsDueAt seed (first_search seed steps) closed → IsReplayedSome seed steps closed tries i at past → at < length steps
replay_at seed steps closed tries i at past s below is due h = replay_below seed steps closed tries i at past s h (along_at IsDueAt seed (first_search seed steps) closed i s below is due)

-- an answer fits where it fits the step
pub fit_here : (seed : List ℕ) (steps : List PlainStep) (closed : List PlainSection) (tries i at : ℕ) (past : Past) (x : PlainStep) (s : PlainSection) → at < length steps → x ≡ get_or steps at x → IsReplayedSome seed steps closed tries i at past →
    IsFit x.problem s.answer → IsFitAt (comes_to seed (first_search seed steps) (take i closed)) s
fit_here seed steps closed tries i at past x s below is h fit =
    subst (λ (a : At). IsFitAt a s) (sym (h.comes ∙ ap (λ (l : List PlainStep). record { left = l; found = past.found }) (step_at steps at x below is))) fit

pub fits_not : (seed : List ℕ) (steps : List PlainStep) (closed : List PlainSection) (tries i at : ℕ) (past : Past) (x : PlainStep) (s : PlainSection) → at < length steps → x ≡ get_or steps at x → IsReplayedSome seed steps closed tries i at past →
    ¬ IsFit x.problem s.answer → ¬ IsFitAt (comes_to seed (first_search seed steps) (take i closed)) s
fits_not seed steps closed tries i at past x s below is h unfit fit =
    unfit (subst (λ (a : At). IsFitAt a s) (h.comes ∙ ap (λ (l : List PlainStep). record { left = l; found = past.found }) (step_at steps at x below is)) fit)

pub replay_on : (seed : List ℕ) (steps : List PlainStep) (closed : List PlainSection) (tries i at next there : ℕ) (past put new : Past) (x : PlainStep) (s : PlainSection) (found : Option PlainFound) → i < length closed → s ≡ get_or closed i s → at < length steps → x ≡ get_or steps at x →
    IsReplayedSome seed steps closed tries i at past → IsFit x.problem s.answer → option_to_list found ≡ found_of x s.answer →
    put ≡ record { found = past.found ++ option_to_list found; closed = past.closed ++ s ∷ []; tries = past.tries } →
    ((y : PlainStep) (rest : List PlainStep) → drop at steps ≡ y ∷ rest → drop next steps ≡ (if ends y put.found then [] else rest)) →
    HasDrawn seed steps next there put new → IsReplayedSome seed steps closed tries (i + 1) there new
replay_on seed steps closed tries i at next there past put new x s found below_i is_s below is h fit f put_is left drawn =
    let first : At = first_search seed steps in
    let rest : List PlainStep = drop (at + 1) steps in
    let here : drop at steps ≡ x ∷ rest = step_at steps at x below is in
    let fs : put.found ≡ past.found ++ found_of x s.answer = ap (λ (p : Past). p.found) put_is ∙ ap (λ (l : List PlainFound). past.found ++ l) f in
    record {
      within = drawn.within;
      comes =
          comes_take seed first closed i s below_i is_s
          ∙ (ap (λ (a : At). answered seed a s.answer) (h.comes ∙ ap (λ (l : List PlainStep). record { left = l; found = past.found }) here)
          ∙ (ap (behind_step seed x rest) (sym fs)
          ∙ (sym (by_ends seed (ends x put.found) rest put.found) ∙ (ap (λ (l : List PlainStep). to_search seed l put.found) (sym (left x rest here)) ∙ drawn.comes))));
      closed_is = drawn.closed ∙ (ap (λ (p : Past). p.closed) put_is ∙ (ap (λ (ss : List PlainSection). ss ++ s ∷ []) h.closed_is ∙ sym (take_more closed i s below_i ∙ ap (λ (t : PlainSection). take i closed ++ t ∷ []) (sym is_s))));
      tries_are = drawn.tries ∙ (ap (λ (p : Past). p.tries) put_is ∙ h.tries_are);
      fit = along_take IsFitAt seed first closed i s below_i is_s h.fit (fit_here seed steps closed tries i at past x s below is h fit);
    }

pub replay_ends : (seed : List ℕ) (steps : List PlainStep) (closed : List PlainSection) (tries i at : ℕ) (past : Past) → length closed ≤ i → IsReplayedSome seed steps closed tries i at past → IsReplayed seed steps closed tries past
replay_ends seed steps closed tries i at past over h =
    let first : At = first_search seed steps in
    let all : take i closed ≡ closed = take_all i closed over in
    let found : past.found ≡ (comes_to seed first closed).found = sym (ap (λ (a : At). a.found) h.comes) ∙ ap (λ (ss : List PlainSection). (comes_to seed first ss).found) all in
    record {
      is =
          ap (λ (fs : List PlainFound). record { found = fs; closed = past.closed; tries = past.tries }) found
          ∙ (ap (λ (ss : List PlainSection). record { found = (comes_to seed first closed).found; closed = ss; tries = past.tries }) (h.closed_is ∙ all)
          ∙ ap (λ (n : ℕ). record { found = (comes_to seed first closed).found; closed = closed; tries = n }) h.tries_are);
      fit = subst (Along IsFitAt seed first) all h.fit;
    }
