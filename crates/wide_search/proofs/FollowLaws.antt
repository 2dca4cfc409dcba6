-- What the walk writes are allowed steps, which lead to where it stands.
use Rattle.std.specs.Prelude.{◌≡◌, ◌≢◌, ℕ, ◌+◌, ◌-◌, ◌<◌, ◌≤◌, Bool, true, false, List, [], ◌∷◌, length, All, Option, if◌then◌else◌, nat_lt}
use Rattle.std.proofs.Common.{arith, refl, sym, subst}
use Rattle.pick_problem.specs.Pool.{item_at}
use Rattle.pick_problem.specs.Problem.{PlainProblem, Rising, value_of, weight_of}
use Rattle.pick_problem.specs.Later.{later_value, is_twin, behind_twins}
use Rattle.pick_problem.specs.Walk.{upward}
use Rattle.pick_problem.proofs.Deciding.{if_cases, lt_yes, lt_no}
use Rattle.pick_problem.proofs.FollowLaws.{value_with, weight_with}
use Rattle.pick_problem.proofs.RisingLaws.{Rising-avoids, Rising-push, Rising-until, Rising-wider, twins_within}
use Rattle.pick_problem.proofs.TailLaws.{run_is}
use Rattle.wide_check.specs.declared.token.WideReason.{WideReason}
use Rattle.wide_check.specs.declared.token.WideReason.TheVariants.{Short, Ended}
use Rattle.wide_check.specs.declared.token.WideToken.{WideToken}
use Rattle.wide_check.specs.declared.token.WideToken.TheVariants.{Pass, Close}
use Rattle.wide_check.specs.Wide.{IsWide}
use Rattle.wide_check.specs.WideSteps.{IsDue, WideState, left, after, after_all, IsAllowedAt, IsAllowed, AreAllowed}
use Rattle.wide_check.proofs.WideTreeSteps.{open_at, left_push}
use Rattle.wide_search.specs.WideWalk.{Way, Ready, at, over, writes, passing, shift, leave, going}

-- from a state the steps of what is written are allowed, and lead to where the walk stands, with nothing due
pub record Follows (p : PlainProblem) (c : Option (List ℕ)) (s : WideState) (w : Way) (m : Bool) : Type 0 where
  pub entered : Bool
  pub allowed : AreAllowed p c s w.tokens
  pub ends : after_all p c s w.tokens ≡ record { chosen = upward w.stack; next = w.next; entered = entered; closed = w.done; met = m }
  pub decided : ¬ IsDue p entered (upward w.stack)
  pub shut : w.done ≡ true → entered ≡ false
  pub over : w.done ≡ true → (w.stack ≡ []) × (w.next ≡ length p.items)
  pub ready : w.done ≡ false → Ready p w.stack w.next

-- nothing is due at a node that wasn't just entered
pub nothing_due : (p : PlainProblem) (q : List ℕ) → ¬ IsDue p false q
nothing_due p q d = let e : false ≡ true = d.0 in absurd (cc)

module _ (p : PlainProblem) where
  pub writes_follows : (c : Option (List ℕ)) (s : WideState) (k : WideToken) (w : Way) (m : Bool) → IsAllowed p c s k → Follows p c (after p c s k) w m → Follows p c s (writes k w) m
  writes_follows c s k w m h f =
      record {
        entered = f.entered;
        allowed = (h, f.allowed);
        ends = f.ends;
        decided = f.decided;
        shut = f.shut;
        over = f.over;
        ready = f.ready;
      }

  at_follows : (c : Option (List ℕ)) (m entered : Bool) (stack : List ℕ) (t : ℕ) → Ready p stack t → (¬ IsDue p entered (upward stack)) → Follows p c (open_at (upward stack) t entered m) (at stack t) m
  at_follows c m entered stack t ready nothing =
      record {
        entered = entered;
        allowed = tt;
        ends = refl;
        decided = nothing;
        shut = λ e. absurd (cc);
        over = λ e. absurd (cc);
        ready = λ e. ready;
      }

  over_follows : (c : Option (List ℕ)) (m : Bool) → Follows p c (left p m []) (over p) m
  over_follows c m =
      record {
        entered = false;
        allowed = tt;
        ends = refl;
        decided = nothing_due p [];
        shut = λ e. refl;
        over = λ e. (refl, refl);
        ready = λ e. absurd (cc);
      }

  twin_here : (j : ℕ) → j < length p.items → j + 1 < behind_twins p (j + 1) → is_twin p.kind (item_at p.items (j + 1 - 1)) (item_at p.items (j + 1)) ≡ true
  twin_here j below l =
      let same : j + 1 - 1 ≡ j = omega arith in
      subst (λ (k : ℕ). is_twin p.kind (item_at p.items k) (item_at p.items (j + 1)) ≡ true) (sym same) ((run_is p j below).twins (j + 1) (omega arith) l)

  passing_follows : (c : Option (List ℕ)) (m : Bool) (stack : List ℕ) (j : ℕ) (w : Way) → j < length p.items → Rising j 0 (upward stack) → Follows p c (open_at (upward stack) (behind_twins p (j + 1)) false m) w m → Follows p c (open_at (upward stack) (j + 1) false m) (passing p j w) m
  passing_follows c m stack j w below rises f =
      if_cases (λ (v : Way). Follows p c (open_at (upward stack) (j + 1) false m) v m) (nat_lt (j + 1) (behind_twins p (j + 1))) (writes Pass w) w
      (λ yes_some.
      let l : j + 1 < behind_twins p (j + 1) = lt_yes (j + 1) (behind_twins p (j + 1)) yes_some in
      let within : behind_twins p (j + 1) ≤ length p.items = twins_within p (j + 1) (omega arith) in
      let same : j + 1 - 1 ≡ j = omega arith in
      let avoids : All (λ (i : ℕ). i ≢ j + 1 - 1) (upward stack) = subst (λ (k : ℕ). All (λ (i : ℕ). i ≢ k) (upward stack)) (sym same) (Rising-avoids j 0 (upward stack) rises) in
      writes_follows c (open_at (upward stack) (j + 1) false m) Pass w m (refl, record { suits = nothing_due p (upward stack); stands = (omega arith, omega arith, avoids, twin_here j below l) }) f)
      (λ none.
      let g : behind_twins p (j + 1) ≡ j + 1 = omega (arith, lt_no (j + 1) (behind_twins p (j + 1)) none) in
      subst (λ (t : ℕ). Follows p c (open_at (upward stack) t false m) w m) g f)

  -- the walk stops at a place that is left, or closes the branch and goes on
  stop_follows : (c : Option (List ℕ)) (m : Bool) (stack : List ℕ) (u : ℕ) (rest : Way) → u ≤ length p.items → Rising u 0 (upward stack) → value_of p (upward stack) ≤ p.hi → weight_of p (upward stack) ≤ p.most_weight → Follows p c (left p m (upward stack)) rest m → Follows p c (open_at (upward stack) u false m) (if nat_lt u (length p.items) then at stack u else writes (Close Ended) rest) m
  stop_follows c m stack u rest within rises under light f =
      if_cases (λ (v : Way). Follows p c (open_at (upward stack) u false m) v m) (nat_lt u (length p.items)) (at stack u) (writes (Close Ended) rest)
      (λ e. at_follows c m false stack u record { rises = rises; next = lt_yes u (length p.items) e; under = under; light = light } (nothing_due p (upward stack)))
      (λ e.
      let last : u ≡ length p.items = omega (arith, within, lt_no u (length p.items) e) in
      writes_follows c (open_at (upward stack) u false m) (Close Ended) rest m (refl, record { suits = nothing_due p (upward stack); stands = last }) f)

  pub shift_follows : (c : Option (List ℕ)) (m : Bool) (stack : List ℕ) (j : ℕ) → j < length p.items → value_of p (upward stack) ≤ p.hi → weight_of p (upward stack) ≤ p.most_weight → Rising j 0 (upward stack) → Follows p c (open_at (upward stack) (j + 1) false m) (shift p stack j) m
  shift_follows c m [] j below under light rises =
      passing_follows c m [] j (if nat_lt (behind_twins p (j + 1)) (length p.items) then at [] (behind_twins p (j + 1)) else writes (Close Ended) (over p)) below rises
      (stop_follows c m [] (behind_twins p (j + 1)) (over p) (twins_within p (j + 1) (omega arith)) tt under light (over_follows c m))
  shift_follows c m (k ∷ stack) j below under light rises =
      let until = Rising-until j 0 (upward stack) k rises in
      let rest : Follows p c (open_at (upward stack) (k + 1) false m) (shift p stack k) m =
      shift_follows c m stack k (omega (arith, until.2)) (omega (arith, under, value_with p stack k)) (omega (arith, light, weight_with p stack k)) until.0 in
      let wide : Rising (behind_twins p (j + 1)) 0 (upward (k ∷ stack)) = Rising-wider j (behind_twins p (j + 1)) 0 (upward (k ∷ stack)) (omega arith) rises in
      passing_follows c m (k ∷ stack) j (if nat_lt (behind_twins p (j + 1)) (length p.items) then at (k ∷ stack) (behind_twins p (j + 1)) else writes (Close Ended) (shift p stack k)) below rises
      (stop_follows c m (k ∷ stack) (behind_twins p (j + 1)) (shift p stack k) (twins_within p (j + 1) (omega arith)) wide under light
      (subst (λ (s : WideState). Follows p c s (shift p stack k) m) (sym (left_push p m (upward stack) k)) rest))

  leave_follows : (c : Option (List ℕ)) (m : Bool) (stack : List ℕ) (t : ℕ) → Ready p stack t → Follows p c (left p m (upward stack)) (leave p stack) m
  leave_follows c m [] t ready = over_follows c m
  leave_follows c m (k ∷ stack) t ready =
      let until = Rising-until t 0 (upward stack) k ready.rises in
      let rest : Follows p c (open_at (upward stack) (k + 1) false m) (shift p stack k) m =
      shift_follows c m stack k (omega (arith, until.2, ready.next)) (omega (arith, ready.under, value_with p stack k)) (omega (arith, ready.light, weight_with p stack k)) until.0 in
      subst (λ (s : WideState). Follows p c s (shift p stack k) m) (sym (left_push p m (upward stack) k)) rest

  -- a token that closes the branch with t
  pub closes_with : (c : Option (List ℕ)) (m entered : Bool) (stack : List ℕ) (t : ℕ) (reason : WideReason) (w : Way) → IsAllowedAt p c entered m (upward (t ∷ stack)) (t + 1) (Close reason) → Follows p c (open_at (upward stack) (t + 1) false m) w m → Follows p c (open_at (upward (t ∷ stack)) (t + 1) entered m) (writes (Close reason) w) m
  closes_with c m entered stack t reason w allowed f =
      writes_follows c (open_at (upward (t ∷ stack)) (t + 1) entered m) (Close reason) w m (refl, allowed) (subst (λ (s : WideState). Follows p c s w m) (sym (left_push p m (upward stack) t)) f)

  -- the branch with t is closed, and the next place is tried
  pub shuts_with : (c : Option (List ℕ)) (m entered : Bool) (stack : List ℕ) (t : ℕ) (reason : WideReason) → Ready p stack t → IsAllowedAt p c entered m (upward (t ∷ stack)) (t + 1) (Close reason) → Follows p c (open_at (upward (t ∷ stack)) (t + 1) entered m) (writes (Close reason) (shift p stack t)) m
  shuts_with c m entered stack t reason ready allowed =
      closes_with c m entered stack t reason (shift p stack t) allowed (shift_follows c m stack t ready.next ready.under ready.light ready.rises)

  -- the branches with t and without it are closed
  pub short_follows : (c : Option (List ℕ)) (m : Bool) (stack : List ℕ) (t : ℕ) → Ready p stack t → value_of p (upward (t ∷ stack)) + later_value p (t + 1) < p.lo → Follows p c (open_at (upward (t ∷ stack)) (t + 1) true m) (writes (Close Short) (writes (Close Short) (leave p stack))) m
  short_follows c m stack t ready h =
      let low : ¬ IsDue p true (upward (t ∷ stack)) = λ d. let wide : IsWide p (upward (t ∷ stack)) = d.1 in omega (arith, h, wide.reaches) in
      closes_with c m true stack t Short (writes (Close Short) (leave p stack)) record { suits = low; stands = h }
      (writes_follows c (open_at (upward stack) (t + 1) false m) (Close Short) (leave p stack) m
      (refl, record { suits = nothing_due p (upward stack); stands = omega (arith, h, value_with p stack t) })
      (leave_follows c m stack t ready))

  -- the walk goes on with t, where its list is decided
  pub going_follows : (c : Option (List ℕ)) (m entered : Bool) (stack : List ℕ) (t : ℕ) → Ready p stack t → (¬ IsDue p entered (upward (t ∷ stack))) → value_of p (upward (t ∷ stack)) ≤ p.hi → weight_of p (upward (t ∷ stack)) ≤ p.most_weight → Follows p c (open_at (upward (t ∷ stack)) (t + 1) entered m) (going p stack t) m
  going_follows c m entered stack t ready nothing under light =
      if_cases (λ (v : Way). Follows p c (open_at (upward (t ∷ stack)) (t + 1) entered m) v m) (nat_lt (t + 1) (length p.items)) (at (t ∷ stack) (t + 1)) (writes (Close Ended) (shift p stack t))
      (λ e. at_follows c m entered (t ∷ stack) (t + 1) record { rises = Rising-push (t + 1) 0 t (upward stack) (omega arith) (omega arith) ready.rises; next = lt_yes (t + 1) (length p.items) e; under = under; light = light } nothing)
      (λ e.
      let last : t + 1 ≡ length p.items = omega (arith, ready.next, lt_no (t + 1) (length p.items) e) in
      shuts_with c m entered stack t Ended ready record { suits = nothing; stands = last })
