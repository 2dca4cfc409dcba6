-- What a walk does at most: its tokens and its tries.
use Rattle.std.specs.Prelude.{◌≡◌, ℕ, zero, suc, ◌+◌, ◌-◌, ◌*◌, ◌^◌, ◌<◌, ◌≤◌, Bool, true, false, List, [], ◌∷◌, length, if◌then◌else◌, nat_lt}
use Rattle.std.proofs.Common.{arith, refl, sym, ap, subst, length-append}
use Rattle.std.proofs.lemmas.Bool.{true_from_ne_false}
use Rattle.pick_problem.specs.Problem.{PlainProblem}
use Rattle.pick_problem.specs.Later.{total_value, behind_twins}
use Rattle.pick_problem.specs.Walk.{upward}
use Rattle.pick_problem.proofs.BoundLaws.{full, waits, over_one, if_open}
use Rattle.pick_problem.proofs.Deciding.{if_cases}
use Rattle.wide_check.specs.declared.token.WideReason.{WideReason}
use Rattle.wide_check.specs.declared.token.WideReason.TheVariants.{Short, Over, Heavy, Wasteful, Ended}
use Rattle.wide_check.specs.declared.token.WideToken.{WideToken}
use Rattle.wide_check.specs.declared.token.WideToken.TheVariants.{Enter, Pass, Mark, Close}
use Rattle.wide_check.specs.Wide.{IsWideProblem}
use Rattle.wide_search.specs.WideWalk.{Way, Walk, Rule, IsShort, IsOver, IsHeavy, IsWasteful, IsHit, GoesOn, Ready, at, over, writes, passing, shift, leave, going, way_of, rule, try_once, start, walk}
use Rattle.wide_search.proofs.KeptLaws.{open_start, short_start, walk_ready}
use Rattle.wide_search.proofs.TryStepLaws.{all_made}

full-power : (k : ℕ) → full k + 1 ≡ 2 ^ k
full-power zero = refl
full-power (suc k) = omega (arith, full-power k)

full-rises : (i d : ℕ) → full i ≤ full (i + d)
full-rises i zero = let e : i + 0 ≡ i = omega arith in subst (λ (k : ℕ). full i ≤ full k) (sym e) (omega arith)
full-rises i (suc d) = let e : i + suc d ≡ suc (i + d) = omega arith in subst (λ (k : ℕ). full i ≤ full k) (sym e) (omega (arith, full-rises i d))

full-le : (i k : ℕ) → i ≤ k → full i ≤ full k
full-le i k l = let e : i + (k - i) ≡ k = omega arith in subst (λ (m : ℕ). full i ≤ full m) e (full-rises i (k - i))

full-next : (n t : ℕ) → t < n → full (n - t) ≡ 2 * full (n - (t + 1)) + 1
full-next n t l = let e : n - t ≡ suc (n - (t + 1)) = omega arith in ap full e

full-some : (k : ℕ) → 0 < k → 0 < full k
full-some zero l = absurd (omega arith)
full-some (suc k) l = omega arith

over-one-le : (b : Bool) → over_one b ≤ 1
over-one-le true = omega arith
over-one-le false = omega arith

-- where a way leads: so many tokens, two of them for each place that is dropped, and so many tries then
pub record Tame (p : PlainProblem) (tokens tries : ℕ) (w : Way) : Type 0 where
  pub few : length w.tokens + 2 * length w.stack ≤ tokens + over_one w.done
  pub rest : if_open w.done (full (length p.items - w.next) + waits p w.stack) ≤ tries

tame_more : (p : PlainProblem) (a b c d : ℕ) (w : Way) → a ≤ c → b ≤ d → Tame p a b w → Tame p c d w
tame_more p a b c d w l m h = record { few = omega (arith, h.few); rest = omega (arith, h.rest) }

tame_writes : (p : PlainProblem) (a b : ℕ) (k : WideToken) (w : Way) → Tame p a b w → Tame p (a + 1) b (writes k w)
tame_writes p a b k w h = record { few = omega (arith, h.few); rest = h.rest }

tame_passing : (p : PlainProblem) (a b j : ℕ) (w : Way) → Tame p a b w → Tame p (a + 1) b (passing p j w)
tame_passing p a b j w h =
    if_cases (Tame p (a + 1) b) (nat_lt (j + 1) (behind_twins p (j + 1))) (writes Pass w) w
    (λ e. tame_writes p a b Pass w h)
    (λ e. tame_more p a b (a + 1) b w (omega arith) (omega arith) h)

tame_at : (p : PlainProblem) (stack : List ℕ) (j : ℕ) → Tame p (2 * length stack) (full (length p.items - (j + 1)) + waits p stack) (at stack (behind_twins p (j + 1)))
tame_at p stack j =
    record {
      few = omega arith;
      rest = omega (arith, full-le (length p.items - behind_twins p (j + 1)) (length p.items - (j + 1)) (omega arith));
    }

tame_shift : (p : PlainProblem) (stack : List ℕ) (j : ℕ) → Tame p (2 * length stack + 1) (full (length p.items - (j + 1)) + waits p stack) (shift p stack j)
tame_shift p [] j =
    let b = full (length p.items - (j + 1)) + waits p [] in
    tame_passing p (2 * 0) b j (if nat_lt (behind_twins p (j + 1)) (length p.items) then at [] (behind_twins p (j + 1)) else writes (Close Ended) (over p))
    (if_cases (Tame p (2 * 0) b) (nat_lt (behind_twins p (j + 1)) (length p.items)) (at [] (behind_twins p (j + 1))) (writes (Close Ended) (over p))
    (λ e. tame_at p [] j)
    (λ e. record { few = omega arith; rest = omega arith }))
tame_shift p (k ∷ stack) j =
    let b = full (length p.items - (j + 1)) + waits p (k ∷ stack) in
    let below : Tame p (2 * length stack + 1) (full (length p.items - (k + 1)) + waits p stack) (shift p stack k) = tame_shift p stack k in
    tame_passing p (2 * length (k ∷ stack)) b j (if nat_lt (behind_twins p (j + 1)) (length p.items) then at (k ∷ stack) (behind_twins p (j + 1)) else writes (Close Ended) (shift p stack k))
    (if_cases (Tame p (2 * length (k ∷ stack)) b) (nat_lt (behind_twins p (j + 1)) (length p.items)) (at (k ∷ stack) (behind_twins p (j + 1))) (writes (Close Ended) (shift p stack k))
    (λ e. tame_at p (k ∷ stack) j)
    (λ e. tame_more p (2 * length stack + 1 + 1) (full (length p.items - (k + 1)) + waits p stack) (2 * length (k ∷ stack)) b (writes (Close Ended) (shift p stack k)) (omega arith) (omega arith)
    (tame_writes p (2 * length stack + 1) (full (length p.items - (k + 1)) + waits p stack) (Close Ended) (shift p stack k) below)))

tame_leave : (p : PlainProblem) (stack : List ℕ) → Tame p (2 * length stack) (waits p stack) (leave p stack)
tame_leave p [] = record { few = omega arith; rest = omega arith }
tame_leave p (k ∷ stack) =
    tame_more p (2 * length stack + 1) (full (length p.items - (k + 1)) + waits p stack) (2 * length (k ∷ stack)) (waits p (k ∷ stack)) (shift p stack k) (omega arith) (omega arith) (tame_shift p stack k)

-- the tries that stand after a place with the chosen ones: those with it, those without it
abbrev both : PlainProblem → List ℕ → ℕ → ℕ
both p stack t = 2 * full (length p.items - (t + 1)) + waits p stack

tame_closed : (p : PlainProblem) (stack : List ℕ) (t : ℕ) (reason : WideReason) → Tame p (2 * length stack + 2) (both p stack t) (writes (Close reason) (shift p stack t))
tame_closed p stack t reason =
    tame_more p (2 * length stack + 1 + 1) (full (length p.items - (t + 1)) + waits p stack) (2 * length stack + 2) (both p stack t) (writes (Close reason) (shift p stack t)) (omega arith) (omega arith)
    (tame_writes p (2 * length stack + 1) (full (length p.items - (t + 1)) + waits p stack) (Close reason) (shift p stack t) (tame_shift p stack t))

tame_going : (p : PlainProblem) (stack : List ℕ) (t : ℕ) → Tame p (2 * length stack + 2) (both p stack t) (going p stack t)
tame_going p stack t =
    if_cases (Tame p (2 * length stack + 2) (both p stack t)) (nat_lt (t + 1) (length p.items)) (at (t ∷ stack) (t + 1)) (writes (Close Ended) (shift p stack t))
    (λ e. record { few = omega arith; rest = omega arith })
    (λ e. tame_closed p stack t Ended)

tame_short : (p : PlainProblem) (stack : List ℕ) (t : ℕ) → Tame p (2 * length stack + 2) (both p stack t) (writes (Close Short) (writes (Close Short) (leave p stack)))
tame_short p stack t =
    tame_more p (2 * length stack + 1 + 1) (waits p stack) (2 * length stack + 2) (both p stack t) (writes (Close Short) (writes (Close Short) (leave p stack))) (omega arith) (omega arith)
    (tame_writes p (2 * length stack + 1) (waits p stack) (Close Short) (writes (Close Short) (leave p stack))
    (tame_writes p (2 * length stack) (waits p stack) (Close Short) (leave p stack) (tame_leave p stack)))

tame_one_more : (p : PlainProblem) (stack : List ℕ) (t : ℕ) (w : Way) → Tame p (2 * length stack + 2) (both p stack t) w → Tame p (2 * length stack + 3) (both p stack t) w
tame_one_more p stack t w h = tame_more p (2 * length stack + 2) (both p stack t) (2 * length stack + 3) (both p stack t) w (omega arith) (omega arith) h

pub tame_way : (p : PlainProblem) (stack : List ℕ) (t : ℕ) (r : Rule) → Tame p (2 * length stack + 3) (2 * full (length p.items - (t + 1)) + waits p stack) (way_of p stack t r)
tame_way p stack t IsShort = tame_one_more p stack t (way_of p stack t IsShort) (tame_short p stack t)
tame_way p stack t IsOver = tame_one_more p stack t (way_of p stack t IsOver) (tame_closed p stack t Over)
tame_way p stack t IsHeavy = tame_one_more p stack t (way_of p stack t IsHeavy) (tame_closed p stack t Heavy)
tame_way p stack t IsWasteful = tame_one_more p stack t (way_of p stack t IsWasteful) (tame_closed p stack t Wasteful)
tame_way p stack t IsHit =
    tame_more p (2 * length stack + 2 + 1) (both p stack t) (2 * length stack + 3) (both p stack t) (way_of p stack t IsHit) (omega arith) (omega arith)
    (tame_writes p (2 * length stack + 2) (both p stack t) Mark (going p stack t) (tame_going p stack t))
tame_way p stack t GoesOn = tame_one_more p stack t (going p stack t) (tame_going p stack t)

-- so many tokens after the tries that were made, of at most so many, two fewer for each chosen place
record FewFrom (n : ℕ) (w : Walk) : Type 0 where
  pub made : w.tries ≤ n
  pub few : length w.tokens + 2 * length w.stack ≤ 4 * w.tries + over_one w.done

from_start : (p : PlainProblem) (n : ℕ) → FewFrom n (walk p n)
from_start p zero = if_cases (FewFrom 0) (nat_lt (total_value p.items) p.lo) (short_start p) open_start (λ e. record { made = omega arith; few = omega arith }) (λ e. record { made = omega arith; few = omega arith })
from_start p (suc n) =
    let v = walk p n in
    let old : FewFrom n v = from_start p n in
    if_cases (FewFrom (suc n)) v.done v (try_once p v)
    (λ e. record { made = omega (arith, old.made); few = old.few })
    (λ e.
    let r : Rule = rule p v.best (upward (v.next ∷ v.stack)) v.next in
    let tame = tame_way p v.stack v.next r in
    let none : over_one v.done ≡ 0 = ap over_one e in
    record {
      made = omega (arith, old.made);
      few = omega (arith, old.few, none, tame.few, length-append v.tokens (Enter ∷ (way_of p v.stack v.next r).tokens));
    })

-- four tokens for each try that was made, and one
pub walk_few_made : (p : PlainProblem) (n : ℕ) → length (walk p n).tokens ≤ 4 * (walk p n).tries + 1
walk_few_made p n = omega (arith, (from_start p n).few, over-one-le (walk p n).done)

-- so many tries write so many tokens at most
pub walk_few : (p : PlainProblem) (n : ℕ) → length (walk p n).tokens ≤ 4 * n + 1
walk_few p n = omega (arith, (from_start p n).made, walk_few_made p n)

-- the tries made and those that are left
record Left (p : PlainProblem) (w : Walk) : Type 0 where
  pub most : w.tries + if_open w.done (full (length p.items - w.next) + waits p w.stack) ≤ full (length p.items)

tries_left : (p : PlainProblem) → IsWideProblem p → (n : ℕ) → Left p (walk p n)
tries_left p is zero = if_cases (Left p) (nat_lt (total_value p.items) p.lo) (short_start p) open_start (λ e. record { most = omega arith }) (λ e.
    let whole : full (length p.items - 0) ≡ full (length p.items) = let same : length p.items - 0 ≡ length p.items = omega arith in ap full same in
    record { most = omega (arith, whole) })
tries_left p is (suc n) =
    let v = walk p n in
    let old : Left p v = tries_left p is n in
    if_cases (Left p) v.done v (try_once p v)
    (λ e. old)
    (λ e.
    let r : Rule = rule p v.best (upward (v.next ∷ v.stack)) v.next in
    let tame = tame_way p v.stack v.next r in
    let ready : Ready p v.stack v.next = walk_ready p is n e in
    let x = full (length p.items - v.next) + waits p v.stack in
    let had : if_open v.done x ≡ x = ap (λ (b : Bool). if_open b x) e in
    record { most = omega (arith, old.most, had, tame.rest, full-next (length p.items) v.next ready.next) })

start_tries : (p : PlainProblem) → (start p).tries ≡ 0
start_tries p = if_cases (λ (w : Walk). w.tries ≡ 0) (nat_lt (total_value p.items) p.lo) (short_start p) open_start (λ e. refl) (λ e. refl)

pub few_tries_made : (p : PlainProblem) (n : ℕ) → IsWideProblem p → (walk p n).tries < 2 ^ length p.items
few_tries_made p n is = omega (arith, (tries_left p is n).most, full-power (length p.items))

-- so many tries are enough for all
pub walk_ends : (p : PlainProblem) (n : ℕ) → IsWideProblem p → 2 ^ length p.items ≤ n + 1 → (walk p n).done ≡ true
walk_ends p n is enough = true_from_ne_false (walk p n).done (λ e.
    let v = walk p n in
    let ready : Ready p v.stack v.next = walk_ready p is n e in
    let x = full (length p.items - v.next) + waits p v.stack in
    let had : if_open v.done x ≡ x = ap (λ (b : Bool). if_open b x) e in
    let some : 0 < full (length p.items - v.next) = full-some (length p.items - v.next) (omega (arith, ready.next)) in
    omega (arith, (tries_left p is n).most, had, some, all_made p (start p) n e, start_tries p, full-power (length p.items), enough))
