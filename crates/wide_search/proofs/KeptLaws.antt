-- The tokens of a walk that is done are accepted with its best, so its best is the best.
use Rattle.std.specs.Prelude.{◌≡◌, ℕ, zero, suc, ◌+◌, ◌<◌, ◌≤◌, Bool, true, false, List, [], ◌∷◌, length, int_lt, Option, Some, None, nat_lt}
use Rattle.std.proofs.Common.{arith, refl, sym, ap, subst, inl, ◌∙◌}
use Rattle.pick_problem.specs.declared.item.Item.{Item}
use Rattle.pick_problem.specs.Problem.{PlainProblem, IsProblem}
use Rattle.pick_problem.specs.Later.{total_value}
use Rattle.pick_problem.specs.Walk.{upward}
use Rattle.pick_problem.proofs.Deciding.{if_cases, lt_yes, lt_no}
use Rattle.wide_check.specs.declared.token.WideReason.TheVariants.{Short}
use Rattle.wide_check.specs.declared.token.WideToken.{WideToken}
use Rattle.wide_check.specs.declared.token.WideToken.TheVariants.{Enter, Close}
use Rattle.wide_check.specs.Wide.{IsWide, IsWideBest, IsWideFit, IsWideProblem, waste_of}
use Rattle.wide_check.specs.WideSteps.{WideState, root, closed, after_all, AreAllowed, IsDue}
use Rattle.wide_check.specs.WideTree.{IsAnswered, IsWideAccepted}
use Rattle.wide_check.proofs.WideSoundLaws.{accepted_best}
use Rattle.wide_check.proofs.WideStepLaws.{allowed-append, after-append}
use Rattle.wide_check.proofs.WideTreeSteps.{open_at, tree_from_steps}
use Rattle.wide_search.specs.WideWalk.{Way, Ready, Walk, Rule, IsShort, IsOver, IsHeavy, IsWasteful, IsHit, GoesOn, writes, rule, way_of, best_of, try_once, after_tries, start, walk}
use Rattle.wide_search.proofs.BackLaws.{Backs, Turned, ruled, hit_is_wide}
use Rattle.wide_search.proofs.FollowLaws.{Follows, nothing_due, writes_follows}

-- where the steps of a walk's tokens lead for an answer, which is met or not
pub record Stood (p : PlainProblem) (c : Option (List ℕ)) (w : Walk) (m : Bool) : Type 0 where
  pub entered : Bool
  pub is : after_all p c root w.tokens ≡ record { chosen = upward w.stack; next = w.next; entered = entered; closed = w.done; met = m }
  pub decided : ¬ IsDue p entered (upward w.stack)
  pub shut : w.done ≡ true → entered ≡ false

-- what a walk keeps from try to try
pub record Kept (p : PlainProblem) (w : Walk) : Type 0 where
  pub ready : w.done ≡ false → Ready p w.stack w.next
  pub over : w.done ≡ true → (w.stack ≡ []) × (w.next ≡ length p.items)
  pub fit : IsWideFit p w.best
  pub allowed : (c : Option (List ℕ)) (m : Bool) → Backs p w.best c m → AreAllowed p c root w.tokens
  pub ends : (c : Option (List ℕ)) (m : Bool) → Backs p w.best c m → Stood p c w m

abbrev own_met : Option (List ℕ) → Bool
own_met None = false
own_met (Some b) = true

own_backs : (p : PlainProblem) (b : Option (List ℕ)) → Backs p b b (own_met b)
own_backs p None = refl
own_backs p (Some b) = inl (refl, refl)

fit_of : (p : PlainProblem) (best : Option (List ℕ)) (q : List ℕ) (r : Rule) → IsWideFit p best → (r ≡ IsHit → IsWide p q) → IsWideFit p (best_of p best q r)
fit_of p None q IsHit fit good = good refl
fit_of p (Some b) q IsHit fit good = if_cases (IsWideFit p) (int_lt (waste_of p q) (waste_of p b)) (Some q) (Some b) (λ e. good refl) (λ e. fit)
fit_of p best q IsShort fit good = fit
fit_of p best q IsOver fit good = fit
fit_of p best q IsHeavy fit good = fit
fit_of p best q IsWasteful fit good = fit
fit_of p best q GoesOn fit good = fit

-- one try on a walk that isn't done: what follows after I, for each answer that the new best backs
module _ (p : PlainProblem) (w : Walk) (ready : Ready p w.stack w.next) where
  abbrev the_rule : Rule
  the_rule = rule p w.best (upward (w.next ∷ w.stack)) w.next

  abbrev the_way : Way
  the_way = way_of p w.stack w.next the_rule

  abbrev written : List WideToken
  written = Enter ∷ the_way.tokens

  turned : (c : Option (List ℕ)) (m : Bool) → Backs p (try_once p w).best c m → Turned p w.best w.stack w.next c m the_way
  turned c m backs = ruled p w.stack w.next ready w.best c m backs

  try_fit : IsWideFit p w.best → IsWideFit p (try_once p w).best
  try_fit fit = fit_of p w.best (upward (w.next ∷ w.stack)) the_rule fit (λ e. hit_is_wide p w.stack w.next ready w.best e)

  module _ (c : Option (List ℕ)) (m met : Bool) (stood : Stood p c w met) (undone : w.done ≡ false) (f : Follows p c (open_at (upward (w.next ∷ w.stack)) (w.next + 1) true met) the_way m) where
    there : after_all p c root w.tokens ≡ open_at (upward w.stack) w.next stood.entered met
    there = stood.is ∙ ap (λ (b : Bool). record { chosen = upward w.stack; next = w.next; entered = stood.entered; closed = b; met = met }) undone

    enters : Follows p c (open_at (upward w.stack) w.next stood.entered met) (writes Enter the_way) m
    enters = writes_follows p c (open_at (upward w.stack) w.next stood.entered met) Enter the_way m (refl, record { suits = stood.decided; stands = ready.next }) f

    try_allowed : AreAllowed p c root w.tokens → AreAllowed p c root (try_once p w).tokens
    try_allowed before =
        allowed-append p c root w.tokens written before (subst (λ (s : WideState). AreAllowed p c s written) (sym there) enters.allowed)

    try_stood : Stood p c (try_once p w) m
    try_stood =
        record {
          entered = enters.entered;
          is = after-append p c root w.tokens written ∙ (ap (λ (s : WideState). after_all p c s written) there ∙ enters.ends);
          decided = enters.decided;
          shut = enters.shut;
        }

-- every try keeps it
pub try_kept : (p : PlainProblem) (w : Walk) → w.done ≡ false → Kept p w → Kept p (try_once p w)
try_kept p w undone kept =
    let ready : Ready p w.stack w.next = kept.ready undone in
    let b : Option (List ℕ) = (try_once p w).best in
    let own = turned p w ready b (own_met b) (own_backs p b) in
    record {
      ready = own.follows.ready;
      over = own.follows.over;
      fit = try_fit p w ready kept.fit;
      allowed = λ c m backs.
          let t = turned p w ready c m backs in
          try_allowed p w ready c m t.met (kept.ends c t.met t.backs) undone t.follows (kept.allowed c t.met t.backs);
      ends = λ c m backs.
          let t = turned p w ready c m backs in
          try_stood p w ready c m t.met (kept.ends c t.met t.backs) undone t.follows;
    }

some_item : (xs : List Item) → 0 < total_value xs → 0 < length xs
some_item [] h = absurd (omega arith)
some_item (x ∷ xs) h = omega arith

start_ready : (p : PlainProblem) → IsProblem p → p.lo ≤ total_value p.items → Ready p [] 0
start_ready p is enough = record { rises = tt; next = some_item p.items (omega (arith, is.some, enough)); under = omega arith; light = omega arith }

abbrev pub short_start : PlainProblem → Walk
short_start p = record { stack = []; next = length p.items; best = None; tries = 0; done = true; tokens = Close Short ∷ [] }

abbrev pub open_start : Walk
open_start = record { stack = []; next = 0; best = None; tries = 0; done = false; tokens = [] }

-- the first node wasn't entered by an I, and no answer is met there
starts : (p : PlainProblem) (c : Option (List ℕ)) (w : Walk) (m : Bool) → m ≡ false → after_all p c root w.tokens ≡ record { chosen = upward w.stack; next = w.next; entered = false; closed = w.done; met = false } → Stood p c w m
starts p c w m none e =
    record {
      entered = false;
      is = e ∙ ap (λ (b : Bool). record { chosen = upward w.stack; next = w.next; entered = false; closed = w.done; met = b }) (sym none);
      decided = nothing_due p (upward w.stack);
      shut = λ d. refl;
    }

pub start_kept : (p : PlainProblem) → IsProblem p → Kept p (start p)
start_kept p is =
    if_cases (Kept p) (nat_lt (total_value p.items) p.lo) (short_start p) open_start
    (λ e. record {
      ready = λ f. absurd (cc);
      over = λ f. (refl, refl);
      fit = tt;
      allowed = λ c m backs. ((refl, record { suits = nothing_due p []; stands = omega (arith, lt_yes (total_value p.items) p.lo e) }), tt);
      ends = λ c m backs. starts p c (short_start p) m backs refl;
    })
    (λ e. record {
      ready = λ f. start_ready p is (lt_no (total_value p.items) p.lo e);
      over = λ f. absurd (cc);
      fit = tt;
      allowed = λ c m backs. tt;
      ends = λ c m backs. starts p c open_start m backs refl;
    })

tries_kept : (p : PlainProblem) (w : Walk) → Kept p w → (n : ℕ) → Kept p (after_tries p w n)
tries_kept p w kept zero = kept
tries_kept p w kept (suc n) =
    let old : Kept p (after_tries p w n) = tries_kept p w kept n in
    if_cases (Kept p) (after_tries p w n).done (after_tries p w n) (try_once p (after_tries p w n)) (λ e. old) (λ e. try_kept p (after_tries p w n) e old)

answered : (p : PlainProblem) (b : Option (List ℕ)) → IsWideFit p b → IsAnswered p b (own_met b)
answered p None fit = tt
answered p (Some b) fit = (fit, refl)

pub kept_accepted : (p : PlainProblem) (w : Walk) → Kept p w → w.done ≡ true → IsWideAccepted p w.best w.tokens
kept_accepted p w kept done =
    let m : Bool = own_met w.best in
    let backs : Backs p w.best w.best m = own_backs p w.best in
    let stood : Stood p w.best w m = kept.ends w.best m backs in
    let none = kept.over done in
    let over : after_all p w.best root w.tokens ≡ closed p m =
    stood.is
    ∙ (ap (λ (s : List ℕ). record { chosen = upward s; next = w.next; entered = stood.entered; closed = w.done; met = m }) none.0
    ∙ (ap (λ (n : ℕ). record { chosen = []; next = n; entered = stood.entered; closed = w.done; met = m }) none.1
    ∙ (ap (λ (b : Bool). record { chosen = []; next = length p.items; entered = b; closed = w.done; met = m }) (stood.shut done)
    ∙ ap (λ (b : Bool). record { chosen = []; next = length p.items; entered = false; closed = b; met = m }) done))) in
    record { met = m; tree = tree_from_steps p w.best w.tokens m (kept.allowed w.best m backs, over); answered = answered p w.best kept.fit }

module _ (p : PlainProblem) (is : IsWideProblem p) (n : ℕ) where
  pub walk_kept : Kept p (walk p n)
  walk_kept = tries_kept p (start p) (start_kept p is.problem) n

  pub walk_ready : (walk p n).done ≡ false → Ready p (walk p n).stack (walk p n).next
  walk_ready = walk_kept.ready

  pub walk_fit : IsWideFit p (walk p n).best
  walk_fit = walk_kept.fit

  pub walk_allowed : AreAllowed p (walk p n).best root (walk p n).tokens
  walk_allowed = walk_kept.allowed (walk p n).best (own_met (walk p n).best) (own_backs p (walk p n).best)

  pub walk_accepted : (walk p n).done ≡ true → IsWideAccepted p (walk p n).best (walk p n).tokens
  walk_accepted done = kept_accepted p (walk p n) walk_kept done

  pub walk_best : (walk p n).done ≡ true → IsWideBest p (walk p n).best
  walk_best done = accepted_best p (walk p n).best (walk p n).tokens is (walk_accepted done)
