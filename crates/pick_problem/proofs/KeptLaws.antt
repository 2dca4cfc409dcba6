-- The tokens of a walk that is done are accepted with its best, so its best is the best.
use Rattle.std.specs.Prelude.{◌≡◌, ℕ, zero, suc, ◌+◌, ◌<◌, ◌≤◌, Bool, true, false, List, [], ◌∷◌, length, Option, Some, None, nat_lt}
use Rattle.std.proofs.Common.{arith, refl, sym, ap, subst, inl, ◌∙◌}
use Rattle.pick_problem.specs.declared.item.Item.{Item}
use Rattle.pick_problem.specs.declared.token.Reason.TheVariants.{Short}
use Rattle.pick_problem.specs.declared.token.Token.TheVariants.{Enter, Close}
use Rattle.pick_problem.specs.Problem.{PlainProblem, IsProblem}
use Rattle.pick_problem.specs.Admissible.{IsAdmissible, IsFit}
use Rattle.pick_problem.specs.Later.{total_value}
use Rattle.pick_problem.specs.Score.{score_of}
use Rattle.pick_problem.specs.Steps.{State, root, closed, after_all, AreAllowed}
use Rattle.pick_problem.specs.ClosingTree.{IsAccepted, IsAnswered}
use Rattle.pick_problem.specs.Walk.{Way, Ready, Walk, Rule, IsShort, IsOver, IsHeavy, IsWorse, IsHit, IsFar, GoesOn, upward, writes, score_below, rule, way_of, best_of, try_once, after_tries, start}
use Rattle.pick_problem.proofs.Deciding.{if_cases, lt_yes, lt_no}
use Rattle.pick_problem.proofs.TreeSteps.{open_at, tree_from_steps}
use Rattle.pick_problem.proofs.StepLaws.{allowed-append, after-append}
use Rattle.pick_problem.proofs.FollowLaws.{Follows, writes_follows}
use Rattle.pick_problem.proofs.BackLaws.{Backs, Turned, ruled, hit_is_admissible}

-- what a walk keeps from try to try
pub record Kept (p : PlainProblem) (w : Walk) : Type 0 where
  pub ready : w.done ≡ false → Ready p w.stack w.next
  pub fit : IsFit p w.best
  pub allowed : (c : Option (List ℕ)) (m : Bool) → Backs p w.best c m → AreAllowed p c root w.tokens
  pub ends : (c : Option (List ℕ)) (m : Bool) → Backs p w.best c m → after_all p c root w.tokens ≡ record { chosen = upward w.stack; next = w.next; closed = w.done; met = m }

abbrev pub own_met : Option (List ℕ) → Bool
own_met None = false
own_met (Some b) = true

pub own_backs : (p : PlainProblem) (b : Option (List ℕ)) → Backs p b b (own_met b)
own_backs p None = refl
own_backs p (Some b) = inl (refl, refl)

pub fit_of : (p : PlainProblem) (best : Option (List ℕ)) (q : List ℕ) (r : Rule) → IsFit p best → (r ≡ IsHit → IsAdmissible p q) → IsFit p (best_of p best q r)
fit_of p None q IsHit fit good = good refl
fit_of p (Some b) q IsHit fit good = if_cases (IsFit p) (score_below (score_of p q) (score_of p b)) (Some q) (Some b) (λ e. good refl) (λ e. fit)
fit_of p best q IsShort fit good = fit
fit_of p best q IsOver fit good = fit
fit_of p best q IsHeavy fit good = fit
fit_of p best q IsWorse fit good = fit
fit_of p best q IsFar fit good = fit
fit_of p best q GoesOn fit good = fit

-- one try on a walk that isn't done: what follows after I, for each answer that the new best backs
module _ (p : PlainProblem) (is : IsProblem p) (w : Walk) (ready : Ready p w.stack w.next) where
  abbrev the_rule : Rule
  the_rule = rule p w.best (upward (w.next ∷ w.stack)) w.next

  abbrev the_way : Way
  the_way = way_of p w.stack w.next the_rule

  pub turned : (c : Option (List ℕ)) (m : Bool) → Backs p (try_once p w).best c m → Turned p w.best w.stack w.next c m the_way
  turned c m backs = ruled p is w.stack w.next ready w.best c m backs

  entered : (c : Option (List ℕ)) (m met : Bool) → Follows p c (open_at (upward (w.next ∷ w.stack)) (w.next + 1) met) the_way m → Follows p c (open_at (upward w.stack) w.next met) (writes Enter the_way) m
  entered c m met f = writes_follows p c (open_at (upward w.stack) w.next met) Enter the_way m (refl, ready.next) f

  pub try_fit : IsFit p w.best → IsFit p (try_once p w).best
  try_fit fit = fit_of p w.best (upward (w.next ∷ w.stack)) the_rule fit (λ e. hit_is_admissible p is w.stack w.next ready w.best e)

  pub try_ready : (try_once p w).done ≡ false → Ready p (try_once p w).stack (try_once p w).next
  try_ready e = (turned (try_once p w).best (own_met (try_once p w).best) (own_backs p (try_once p w).best)).follows.ready e

-- every try keeps it
pub try_kept : (p : PlainProblem) → IsProblem p → (w : Walk) → w.done ≡ false → Kept p w → Kept p (try_once p w)
try_kept p is w undone kept =
    let ready : Ready p w.stack w.next = kept.ready undone in
    let new = try_once p w in
    let written = Enter ∷ (the_way p is w ready).tokens in
    let there : (c : Option (List ℕ)) (met : Bool) → Backs p w.best c met → after_all p c root w.tokens ≡ open_at (upward w.stack) w.next met = λ c met backs.
    kept.ends c met backs ∙ ap (λ (b : Bool). record { chosen = upward w.stack; next = w.next; closed = b; met = met }) undone in
    record {
      ready = try_ready p is w ready;
      fit = try_fit p is w ready kept.fit;
      allowed = λ c m backs.
          let t = turned p is w ready c m backs in
          let f = entered p is w ready c m t.met t.follows in
          allowed-append p c root w.tokens written (kept.allowed c t.met t.backs) (subst (λ (s : State). AreAllowed p c s written) (sym (there c t.met t.backs)) f.allowed);
      ends = λ c m backs.
          let t = turned p is w ready c m backs in
          let f = entered p is w ready c m t.met t.follows in
          after-append p c root w.tokens written ∙ (ap (λ (s : State). after_all p c s written) (there c t.met t.backs) ∙ f.ends);
    }

some_item : (p : PlainProblem) (xs : List Item) → 0 < p.lo → p.lo ≤ total_value xs → 0 < length xs
some_item p [] some h = absurd (omega arith)
some_item p (x ∷ xs) some h = omega arith

pub start_ready : (p : PlainProblem) → IsProblem p → p.lo ≤ total_value p.items → Ready p [] 0
start_ready p is enough = record { rises = tt; next = some_item p p.items (omega (arith, is.some)) enough; low = omega (arith, is.some); light = omega arith }

abbrev pub short_start : PlainProblem → Walk
short_start p = record { stack = []; next = length p.items; best = None; tries = 0; done = true; tokens = Close Short ∷ [] }

abbrev pub open_start : Walk
open_start = record { stack = []; next = 0; best = None; tries = 0; done = false; tokens = [] }

pub start_kept : (p : PlainProblem) → IsProblem p → Kept p (start p)
start_kept p is =
    if_cases (Kept p) (nat_lt (total_value p.items) p.lo) (short_start p) open_start
    (λ e. record {
      ready = λ f. absurd (cc);
      fit = tt;
      allowed = λ c m backs. ((refl, omega (arith, lt_yes (total_value p.items) p.lo e)), tt);
      ends = λ c m backs. ap (λ (b : Bool). closed p b) (sym backs);
    })
    (λ e. record {
      ready = λ f. start_ready p is (lt_no (total_value p.items) p.lo e);
      fit = tt;
      allowed = λ c m backs. tt;
      ends = λ c m backs. ap (λ (b : Bool). open_at [] 0 b) (sym backs);
    })

pub tries_kept : (p : PlainProblem) → IsProblem p → (w : Walk) → Kept p w → (n : ℕ) → Kept p (after_tries p w n)
tries_kept p is w kept zero = kept
tries_kept p is w kept (suc n) =
    let old : Kept p (after_tries p w n) = tries_kept p is w kept n in
    if_cases (Kept p) (after_tries p w n).done (after_tries p w n) (try_once p (after_tries p w n)) (λ e. old) (λ e. try_kept p is (after_tries p w n) e old)

answered : (p : PlainProblem) (b : Option (List ℕ)) → IsFit p b → IsAnswered p b (own_met b)
answered p None fit = tt
answered p (Some b) fit = (fit, refl)

pub kept_accepted : (p : PlainProblem) (w : Walk) → Kept p w → (w.done ≡ true) → (w.stack ≡ []) → (w.next ≡ length p.items) → IsAccepted p w.best w.tokens
kept_accepted p w kept done none last =
    let m = own_met w.best in
    let backs : Backs p w.best w.best m = own_backs p w.best in
    let over : after_all p w.best root w.tokens ≡ closed p m =
    kept.ends w.best m backs
    ∙ (ap (λ (s : List ℕ). record { chosen = upward s; next = w.next; closed = w.done; met = m }) none
    ∙ (ap (λ (n : ℕ). record { chosen = []; next = n; closed = w.done; met = m }) last
    ∙ ap (λ (b : Bool). record { chosen = []; next = length p.items; closed = b; met = m }) done)) in
    record { met = m; tree = tree_from_steps p w.best w.tokens m (kept.allowed w.best m backs, over); answered = answered p w.best kept.fit }
