-- What a walk does at most: its tokens, its tries, and where it may stand.
use Rattle.std.specs.Prelude.{◌≡◌, ℕ, zero, suc, ◌+◌, ◌-◌, ◌*◌, ◌^◌, ◌<◌, ◌≤◌, Bool, true, false, List, [], ◌∷◌, ◌++◌, length, if◌then◌else◌, nat_lt}
use Rattle.std.proofs.Common.{arith, refl, sym, ap, subst, length-append}
use Rattle.std.proofs.lemmas.Bool.{true_from_ne_false}
use Rattle.pick_problem.specs.declared.item.Kind.{Kind}
use Rattle.pick_problem.specs.declared.item.Kind.TheVariants.{Changeless, Lean}
use Rattle.pick_problem.specs.declared.token.Reason.{Reason}
use Rattle.pick_problem.specs.declared.token.Reason.TheVariants.{Short, Over, Heavy, NoRoom, Worse, Heavier, Far, Hit}
use Rattle.pick_problem.specs.declared.token.Token.{Token}
use Rattle.pick_problem.specs.declared.token.Token.TheVariants.{Enter, Pass, Close}
use Rattle.pick_problem.specs.Problem.{PlainProblem, IsProblem, value_of}
use Rattle.pick_problem.specs.Later.{total_value, later_value, behind_twins}
use Rattle.pick_problem.specs.Walk.{Way, Walk, Rule, IsShort, IsOver, IsHeavy, IsWorse, IsHit, IsFar, GoesOn, Ready, IsPosition, upward, at, over, writes, passing, shift, leave, cut, is_lightest, cut_or_shift, worse_way, way_of, rule, try_once, after_tries, start, walk, entered, enters}
use Rattle.pick_problem.proofs.Deciding.{if_cases, lt_no}
use Rattle.pick_problem.proofs.TryStepLaws.{all_made}
use Rattle.pick_problem.proofs.KeptLaws.{try_fit, try_ready, start_ready, short_start, open_start}

-- the tries that a node with so many places left takes at most: one less than a power of two
abbrev pub full : ℕ → ℕ
full zero = 0
full (suc k) = 2 * full k + 1

full-power : (k : ℕ) → full k + 1 ≡ 2 ^ k
full-power zero = refl
full-power (suc k) = omega (arith, full-power k)

full-rises : (i d : ℕ) → full i ≤ full (i + d)
full-rises i zero = let e : i + 0 ≡ i = omega arith in subst (λ (k : ℕ). full i ≤ full k) (sym e) (omega arith)
full-rises i (suc d) = let e : i + suc d ≡ suc (i + d) = omega arith in subst (λ (k : ℕ). full i ≤ full k) (sym e) (omega (arith, full-rises i d))

full-le : (i k : ℕ) → i ≤ k → full i ≤ full k
full-le i k l = let e : i + (k - i) ≡ k = omega arith in subst (λ (m : ℕ). full i ≤ full m) e (full-rises i (k - i))

full-next : (n t : ℕ) → t < n → full (n - t) ≡ 2 * full (n - (t + 1)) + 1
full-next n t l = let e : n - t ≡ suc (n - (t + 1)) = omega arith in ap full e

full-some : (k : ℕ) → 0 < k → 0 < full k
full-some zero l = absurd (omega arith)
full-some (suc k) l = omega arith

-- the tries that the nodes after the chosen places take at most
abbrev pub waits : PlainProblem → List ℕ → ℕ
waits p [] = 0
waits p (j ∷ stack) = full (length p.items - (j + 1)) + waits p stack

-- 1 where a walk is done
abbrev pub over_one : Bool → ℕ
over_one true = 1
over_one false = 0

abbrev pub if_open : Bool → ℕ → ℕ
if_open true n = 0
if_open false n = n

over-one-le : (b : Bool) → over_one b ≤ 1
over-one-le true = omega arith
over-one-le false = omega arith

-- where a way leads: so many tokens, two of them for each place that is dropped, and so many tries then
pub record Tame (p : PlainProblem) (tokens tries : ℕ) (w : Way) : Type 0 where
  pub over : w.done ≡ true → (w.stack ≡ []) × (w.next ≡ length p.items)
  pub calm : enters w.tokens ≡ 0
  pub few : length w.tokens + 2 * length w.stack ≤ tokens + over_one w.done
  pub rest : if_open w.done (full (length p.items - w.next) + waits p w.stack) ≤ tries

tame_more : (p : PlainProblem) (a b c d : ℕ) (w : Way) → a ≤ c → b ≤ d → Tame p a b w → Tame p c d w
tame_more p a b c d w l m h = record { over = h.over; calm = h.calm; few = omega (arith, h.few); rest = omega (arith, h.rest) }

tame_writes : (p : PlainProblem) (a b : ℕ) (k : Token) (w : Way) → entered k ≡ 0 → Tame p a b w → Tame p (a + 1) b (writes k w)
tame_writes p a b k w e h = record { over = h.over; calm = omega (arith, e, h.calm); few = omega (arith, h.few); rest = h.rest }

tame_passing : (p : PlainProblem) (a b j : ℕ) (w : Way) → Tame p a b w → Tame p (a + 1) b (passing p j w)
tame_passing p a b j w h =
    if_cases (Tame p (a + 1) b) (nat_lt (j + 1) (behind_twins p (j + 1))) (writes Pass w) w
    (λ e. tame_writes p a b Pass w refl h)
    (λ e. tame_more p a b (a + 1) b w (omega arith) (omega arith) h)

tame_at : (p : PlainProblem) (stack : List ℕ) (j : ℕ) → Tame p (2 * length stack) (full (length p.items - (j + 1)) + waits p stack) (at stack (behind_twins p (j + 1)))
tame_at p stack j =
    record {
      over = λ e. absurd (cc);
      calm = refl;
      few = omega arith;
      rest = omega (arith, full-le (length p.items - behind_twins p (j + 1)) (length p.items - (j + 1)) (omega arith));
    }

tame_over : (p : PlainProblem) (a b : ℕ) → Tame p a b (over p)
tame_over p a b = record { over = λ e. (refl, refl); calm = refl; few = omega arith; rest = omega arith }

pub tame_shift : (p : PlainProblem) (stack : List ℕ) (j : ℕ) → Tame p (2 * length stack + 1) (full (length p.items - (j + 1)) + waits p stack) (shift p stack j)
tame_shift p [] j =
    let b = full (length p.items - (j + 1)) + waits p [] in
    tame_passing p (2 * 0) b j (if nat_lt (behind_twins p (j + 1)) (length p.items) then at [] (behind_twins p (j + 1)) else writes (Close Short) (over p))
    (if_cases (Tame p (2 * 0) b) (nat_lt (behind_twins p (j + 1)) (length p.items)) (at [] (behind_twins p (j + 1))) (writes (Close Short) (over p))
    (λ e. tame_at p [] j)
    (λ e. record { over = λ f. (refl, refl); calm = refl; few = omega arith; rest = omega arith }))
tame_shift p (k ∷ stack) j =
    let b = full (length p.items - (j + 1)) + waits p (k ∷ stack) in
    let below : Tame p (2 * length stack + 1) (full (length p.items - (k + 1)) + waits p stack) (shift p stack k) = tame_shift p stack k in
    tame_passing p (2 * length (k ∷ stack)) b j (if nat_lt (behind_twins p (j + 1)) (length p.items) then at (k ∷ stack) (behind_twins p (j + 1)) else writes (Close Short) (shift p stack k))
    (if_cases (Tame p (2 * length (k ∷ stack)) b) (nat_lt (behind_twins p (j + 1)) (length p.items)) (at (k ∷ stack) (behind_twins p (j + 1))) (writes (Close Short) (shift p stack k))
    (λ e. tame_at p (k ∷ stack) j)
    (λ e. tame_more p (2 * length stack + 1 + 1) (full (length p.items - (k + 1)) + waits p stack) (2 * length (k ∷ stack)) b (writes (Close Short) (shift p stack k)) (omega arith) (omega arith)
    (tame_writes p (2 * length stack + 1) (full (length p.items - (k + 1)) + waits p stack) (Close Short) (shift p stack k) refl below)))

tame_leave : (p : PlainProblem) (stack : List ℕ) → Tame p (2 * length stack) (waits p stack) (leave p stack)
tame_leave p [] = tame_over p (2 * 0) (waits p [])
tame_leave p (k ∷ stack) =
    tame_more p (2 * length stack + 1) (full (length p.items - (k + 1)) + waits p stack) (2 * length (k ∷ stack)) (waits p (k ∷ stack)) (shift p stack k) (omega arith) (omega arith) (tame_shift p stack k)

tame_cut : (p : PlainProblem) (stack : List ℕ) (t : ℕ) (reason : Reason) → Tame p (2 * length stack + 1) (full (length p.items - (t + 1)) + waits p stack) (cut p stack t reason)
tame_cut p stack t reason =
    let r : Reason = if nat_lt (value_of p (upward stack) + later_value p (t + 1)) p.lo then Short else reason in
    tame_more p (2 * length stack + 1) (waits p stack) (2 * length stack + 1) (full (length p.items - (t + 1)) + waits p stack) (writes (Close r) (leave p stack)) (omega arith) (omega arith)
    (tame_writes p (2 * length stack) (waits p stack) (Close r) (leave p stack) refl (tame_leave p stack))

tame_either : (p : PlainProblem) (stack : List ℕ) (t : ℕ) (reason : Reason) → Tame p (2 * length stack + 1) (full (length p.items - (t + 1)) + waits p stack) (cut_or_shift p stack t reason)
tame_either p stack t reason =
    if_cases (Tame p (2 * length stack + 1) (full (length p.items - (t + 1)) + waits p stack)) (is_lightest p t) (cut p stack t reason) (shift p stack t) (λ e. tame_cut p stack t reason) (λ e. tame_shift p stack t)

tame_worse : (k : Kind) (p : PlainProblem) (stack : List ℕ) (t : ℕ) → Tame p (2 * length stack + 1 + 1) (full (length p.items - (t + 1)) + waits p stack) (worse_way k p stack t)
tame_worse Changeless p stack t = tame_writes p (2 * length stack + 1) (full (length p.items - (t + 1)) + waits p stack) (Close Worse) (shift p stack t) refl (tame_shift p stack t)
tame_worse Lean p stack t = tame_writes p (2 * length stack + 1) (full (length p.items - (t + 1)) + waits p stack) (Close Heavier) (cut_or_shift p stack t Far) refl (tame_either p stack t Far)

tame_half : (p : PlainProblem) (stack : List ℕ) (t : ℕ) (w : Way) → Tame p (2 * length stack + 1 + 1) (full (length p.items - (t + 1)) + waits p stack) w → Tame p (2 * length stack + 1 + 1) (2 * full (length p.items - (t + 1)) + waits p stack) w
tame_half p stack t w h = tame_more p (2 * length stack + 1 + 1) (full (length p.items - (t + 1)) + waits p stack) (2 * length stack + 1 + 1) (2 * full (length p.items - (t + 1)) + waits p stack) w (omega arith) (omega arith) h

tame_closed : (p : PlainProblem) (stack : List ℕ) (t : ℕ) (reason : Reason) (w : Way) → Tame p (2 * length stack + 1) (full (length p.items - (t + 1)) + waits p stack) w → Tame p (2 * length stack + 1 + 1) (2 * full (length p.items - (t + 1)) + waits p stack) (writes (Close reason) w)
tame_closed p stack t reason w h =
    tame_half p stack t (writes (Close reason) w) (tame_writes p (2 * length stack + 1) (full (length p.items - (t + 1)) + waits p stack) (Close reason) w refl h)

pub tame_way : (p : PlainProblem) (stack : List ℕ) (t : ℕ) (r : Rule) → Tame p (2 * length stack + 1 + 1) (2 * full (length p.items - (t + 1)) + waits p stack) (way_of p stack t r)
tame_way p stack t IsShort = tame_closed p stack t Short (cut p stack t Short) (tame_cut p stack t Short)
tame_way p stack t IsOver = tame_closed p stack t Over (shift p stack t) (tame_shift p stack t)
tame_way p stack t IsHeavy = tame_closed p stack t Heavy (cut_or_shift p stack t NoRoom) (tame_either p stack t NoRoom)
tame_way p stack t IsWorse = tame_half p stack t (worse_way p.kind p stack t) (tame_worse p.kind p stack t)
tame_way p stack t IsHit = tame_closed p stack t Hit (shift p stack t) (tame_shift p stack t)
tame_way p stack t IsFar = tame_closed p stack t Far (cut_or_shift p stack t Far) (tame_either p stack t Far)
tame_way p stack t GoesOn = record { over = λ e. absurd (cc); calm = refl; few = omega arith; rest = omega arith }

enters-append : (ks ls : List Token) → enters (ks ++ ls) ≡ enters ks + enters ls
enters-append [] ls = omega arith
enters-append (k ∷ ks) ls = omega (arith, enters-append ks ls)

-- a try leads from where a walk may stand to where it may stand
pub try_position : (p : PlainProblem) → IsProblem p → (w : Walk) → w.done ≡ false → IsPosition p w → IsPosition p (try_once p w)
try_position p is w undone at_w =
    let r : Rule = rule p w.best (upward (w.next ∷ w.stack)) w.next in
    let tame = tame_way p w.stack w.next r in
    record {
      ready = try_ready p is w (at_w.ready undone);
      over = tame.over;
      fit = try_fit p is w (at_w.ready undone) at_w.fit;
      counted = omega (arith, at_w.counted, tame.calm, enters-append w.tokens (Enter ∷ (way_of p w.stack w.next r).tokens));
    }

pub start_position : (p : PlainProblem) → IsProblem p → IsPosition p (start p)
start_position p is =
    if_cases (IsPosition p) (nat_lt (total_value p.items) p.lo) (short_start p) open_start
    (λ e. record { ready = λ f. absurd (cc); over = λ f. (refl, refl); fit = tt; counted = refl })
    (λ e. record { ready = λ f. start_ready p is (lt_no (total_value p.items) p.lo e); over = λ f. absurd (cc); fit = tt; counted = refl })

pub tries_position : (p : PlainProblem) (w : Walk) (n : ℕ) → IsProblem p → IsPosition p w → IsPosition p (after_tries p w n)
tries_position p w zero is at_w = at_w
tries_position p w (suc n) is at_w =
    let old : IsPosition p (after_tries p w n) = tries_position p w n is at_w in
    if_cases (IsPosition p) (after_tries p w n).done (after_tries p w n) (try_once p (after_tries p w n)) (λ e. old) (λ e. try_position p is (after_tries p w n) e old)

-- so many tokens more after so many tries, two fewer for each chosen place
record FewMore (old : Walk) (n : ℕ) (w : Walk) : Type 0 where
  pub few : length w.tokens + 2 * length w.stack ≤ length old.tokens + 2 * length old.stack + 3 * n + over_one w.done

few_more : (p : PlainProblem) (w : Walk) (n : ℕ) → FewMore w n (after_tries p w n)
few_more p w zero = record { few = omega arith }
few_more p w (suc n) =
    let v = after_tries p w n in
    let old : FewMore w n v = few_more p w n in
    if_cases (FewMore w (suc n)) v.done v (try_once p v)
    (λ e. record { few = omega (arith, old.few) })
    (λ e.
    let r : Rule = rule p v.best (upward (v.next ∷ v.stack)) v.next in
    let tame = tame_way p v.stack v.next r in
    let none : over_one v.done ≡ 0 = ap over_one e in
    record { few = omega (arith, old.few, none, tame.few, length-append v.tokens (Enter ∷ (way_of p v.stack v.next r).tokens)) })

-- so many tries write so many tokens at most
pub tokens_few : (p : PlainProblem) (w : Walk) (n : ℕ) → length (after_tries p w n).tokens ≤ length w.tokens + 2 * length w.stack + 3 * n + 1
tokens_few p w n = omega (arith, (few_more p w n).few, over-one-le (after_tries p w n).done)

record FewFrom (n : ℕ) (w : Walk) : Type 0 where
  pub few : length w.tokens + 2 * length w.stack ≤ 3 * n + over_one w.done

from_start : (p : PlainProblem) (n : ℕ) → FewFrom n (walk p n)
from_start p zero = if_cases (FewFrom 0) (nat_lt (total_value p.items) p.lo) (short_start p) open_start (λ e. record { few = omega arith }) (λ e. record { few = omega arith })
from_start p (suc n) =
    let v = walk p n in
    let old : FewFrom n v = from_start p n in
    if_cases (FewFrom (suc n)) v.done v (try_once p v)
    (λ e. record { few = omega (arith, old.few) })
    (λ e.
    let r : Rule = rule p v.best (upward (v.next ∷ v.stack)) v.next in
    let tame = tame_way p v.stack v.next r in
    let none : over_one v.done ≡ 0 = ap over_one e in
    record { few = omega (arith, old.few, none, tame.few, length-append v.tokens (Enter ∷ (way_of p v.stack v.next r).tokens)) })

pub start_few : (p : PlainProblem) (n : ℕ) → length (walk p n).tokens ≤ 3 * n + 1
start_few p n = omega (arith, (from_start p n).few, over-one-le (walk p n).done)

-- the tries made and those that are left
record Left (p : PlainProblem) (w : Walk) : Type 0 where
  pub most : w.tries + if_open w.done (full (length p.items - w.next) + waits p w.stack) ≤ full (length p.items)

tries_left : (p : PlainProblem) → IsProblem p → (n : ℕ) → Left p (walk p n)
tries_left p is zero = if_cases (Left p) (nat_lt (total_value p.items) p.lo) (short_start p) open_start (λ e. record { most = omega arith }) (λ e.
    let whole : full (length p.items - 0) ≡ full (length p.items) = let same : length p.items - 0 ≡ length p.items = omega arith in ap full same in
    record { most = omega (arith, whole) })
tries_left p is (suc n) =
    let v = walk p n in
    let old : Left p v = tries_left p is n in
    let position : IsPosition p v = tries_position p (start p) n is (start_position p is) in
    if_cases (Left p) v.done v (try_once p v)
    (λ e. old)
    (λ e.
    let r : Rule = rule p v.best (upward (v.next ∷ v.stack)) v.next in
    let tame = tame_way p v.stack v.next r in
    let ready : Ready p v.stack v.next = position.ready e in
    let x = full (length p.items - v.next) + waits p v.stack in
    let had : if_open v.done x ≡ x = ap (λ (b : Bool). if_open b x) e in
    record { most = omega (arith, old.most, had, tame.rest, full-next (length p.items) v.next ready.next) })

start_tries : (p : PlainProblem) → (start p).tries ≡ 0
start_tries p = if_cases (λ (w : Walk). w.tries ≡ 0) (nat_lt (total_value p.items) p.lo) (short_start p) open_start (λ e. refl) (λ e. refl)

pub few_tries_made : (p : PlainProblem) (n : ℕ) → IsProblem p → (walk p n).tries < 2 ^ length p.items
few_tries_made p n is = omega (arith, (tries_left p is n).most, full-power (length p.items))

-- so many tries are enough for all
pub walk_ends : (p : PlainProblem) (n : ℕ) → IsProblem p → 2 ^ length p.items ≤ n + 1 → (walk p n).done ≡ true
walk_ends p n is enough = true_from_ne_false (walk p n).done (λ e.
    let v = walk p n in
    let position : IsPosition p v = tries_position p (start p) n is (start_position p is) in
    let ready : Ready p v.stack v.next = position.ready e in
    let x = full (length p.items - v.next) + waits p v.stack in
    let had : if_open v.done x ≡ x = ap (λ (b : Bool). if_open b x) e in
    let some : 0 < full (length p.items - v.next) = full-some (length p.items - v.next) (omega (arith, ready.next)) in
    omega (arith, (tries_left p is n).most, had, some, all_made p (start p) n e, start_tries p, full-power (length p.items), enough))
