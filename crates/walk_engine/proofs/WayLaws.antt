-- What dropping places writes, and where it leads.
use Rattle.std.specs.Prelude.{◌≡◌, ℕ, ◌+◌, ◌<◌, ◌≤◌, ◌==◌, ◌||◌, Bool, true, false, List, [], ◌∷◌, ◌++◌, length}
use Rattle.std.specs.Prelude.{reverse, if◌then◌else◌, nat_lt, nat_le}
use Rattle.std.proofs.Common.{arith, refl, sym, ap, subst, ◌∙◌, append_assoc}
use Rattle.std.proofs.lemmas.Bool.Decides.{nat_tests}
use Rattle.std.proofs.lemmas.List.{append-nil}
use Rattle.pick_problem.specs.declared.token.Reason.{Reason}
use Rattle.pick_problem.specs.declared.token.Reason.TheVariants.{Short}
use Rattle.pick_problem.specs.declared.token.Token.{Token}
use Rattle.pick_problem.specs.declared.token.Token.TheVariants.{Close}
use Rattle.pick_problem.specs.Later.{behind_twins, later_value, least_weight}
use Rattle.pick_problem.specs.Letters.{letters_of}
use Rattle.pick_problem.specs.Pool.{item_at}
use Rattle.pick_problem.specs.Problem.{PlainProblem, value_of}
use Rattle.pick_problem.specs.Tokens.{letter_of}
use Rattle.pick_problem.specs.Walk.{Way, Rule, GoesOn, upward, at, over, writes, leave, shift, is_lightest, way_of}
use Rattle.pick_problem.proofs.Deciding.{if_false, if_true}
use Rattle.pick_problem.proofs.LetterLaws.{letters-append}
use Rattle.pick_problem.proofs.RisingLaws.{Rising-wider}
use Rattle.pick_problem.proofs.WayLaws.{fronted, fronted_twice, pass_tokens, reverse_push, shift_ends, shift_leaves}
use Rattle.pick_problem.proofs.WayLaws.{upward_reverse}
use Rattle.walk_engine.specs.declared.stack.Stack.{Stack}
use Rattle.walk_engine.specs.declared.stop.Stop.{Stop}
use Rattle.walk_engine.specs.Stack.{IsStack}
use Rattle.walk_engine.specs.Transitions.{HasWalked}
use Rattle.walk_engine.proofs.CaseLaws.{same_lt}

pub lt_true : (a b : ℕ) → a < b → nat_lt a b ≡ true
lt_true a b l = grind (arith, nat_tests)

pub lt_false : (a b : ℕ) → b ≤ a → nat_lt a b ≡ false
lt_false a b l = grind (arith, nat_tests)

-- tokens in front of a way
pub walked_front : (p : PlainProblem) (w : Way) (ks : List Token) (old mid new : List ℕ) (s : Stack) (stop : Stop) →
    mid ≡ old ++ letters_of ks → HasWalked p w mid new s stop → HasWalked p (fronted ks w) old new s stop
walked_front p w ks old mid new s stop e h =
    record {
      chosen = h.chosen;
      letters = h.letters ∙ (ap (λ (xs : List ℕ). xs ++ letters_of w.tokens) e
          ∙ (append_assoc old (letters_of ks) (letters_of w.tokens)
          ∙ ap (λ (xs : List ℕ). old ++ xs) (sym (letters-append ks w.tokens))));
      next = h.next;
      done = h.done;
      stack = h.stack;
    }

pub walked_put : (p : PlainProblem) (w : Way) (k : Token) (old mid new : List ℕ) (s : Stack) (stop : Stop) →
    mid ≡ old ++ letter_of k ∷ [] → HasWalked p w mid new s stop → HasWalked p (writes k w) old new s stop
walked_put p w k old mid new s stop e h = walked_front p w (k ∷ []) old mid new s stop e h

-- a stack below a place is below a later one
pub stack_wider : (p : PlainProblem) (j next : ℕ) (s : Stack) → j ≤ next → IsStack p j s → IsStack p next s
stack_wider p j next s l is = record {
  rising = Rising-wider j next 0 s.places.items l is.rising;
  gap = is.gap;
  weight = is.weight;
  cost = is.cost;
  room = is.room;
}

-- the walk stops after a place and its twins
pub walked_at : (p : PlainProblem) (old : List ℕ) (s : Stack) (stop : Stop) → stop.done ≡ false →
    IsStack p stop.next s → HasWalked p (at (reverse s.places.items) stop.next) old old s stop
walked_at p old s stop open_ is = record {
  chosen = sym (upward_reverse s.places.items);
  letters = sym
      (append-nil old);
  next = refl;
  done = open_;
  stack = is;
}

-- or is done
pub walked_over : (p : PlainProblem) (old : List ℕ) (s : Stack) (stop : Stop) → stop.done ≡ true →
    stop.next ≡ length p.items → s.places.items ≡ [] → IsStack p stop.next s → HasWalked p (over p) old old s stop
walked_over p old s stop done next none is = record {
  chosen = none;
  letters = sym
      (append-nil old);
  next = next;
  done = done;
  stack = is;
}

-- or goes on with a place chosen
pub walked_goes : (p : PlainProblem) (t : ℕ) (q old : List ℕ) (s : Stack) (stop : Stop) →
    s.places.items ≡ q ++ t ∷ [] → stop.next ≡ t + 1 → stop.done ≡ false → IsStack p (t + 1) s → (r : Rule) →
    r ≡ GoesOn → HasWalked p (way_of p (reverse q) t r) old old s stop
walked_goes p t q old s stop places next open_ is r goes =
    subst (λ (x : Rule). HasWalked p (way_of p (reverse q) t x) old old s stop) (sym goes)
    record {
      chosen = places ∙ ap (λ (r : List ℕ). r ++ t ∷ []) (sym (upward_reverse q));
      letters = sym (append-nil old);
      next = next;
      done = open_;
      stack = subst (λ (n : ℕ). IsStack p n s) (sym next) is;
    }

-- what is written while chosen places are left, and what is left to do
pub record Leaving (p : PlainProblem) (xs old ys new : List ℕ) : Type 0 where
  pub tokens : List Token
  pub letters : new ≡ old ++ letters_of tokens
  pub whole : fronted tokens (leave p (reverse ys)) ≡ leave p (reverse xs)

pub leaving_start : (p : PlainProblem) (xs old : List ℕ) → Leaving p xs old xs old
leaving_start p xs old = record { tokens = []; letters = sym (append-nil old); whole = refl }

leave_last : (p : PlainProblem) (ys front : List ℕ) (j : ℕ) → ys ≡ front ++ j ∷ [] →
    leave p (reverse ys) ≡ shift p (reverse front) j
leave_last p ys front j e = ap (λ (q : List ℕ). leave p (reverse q)) e ∙ ap (leave p) (reverse_push front j)

pub passed_letters : (old new mid : List ℕ) (ks ls : List Token) → new ≡ old ++ letters_of ks →
    mid ≡ new ++ letters_of ls → mid ≡ old ++ letters_of (ks ++ ls)
passed_letters old new mid ks ls e f = f ∙ (ap (λ (xs : List ℕ). xs ++ letters_of ls) e
    ∙ (append_assoc old (letters_of ks) (letters_of ls) ∙ ap (λ (xs : List ℕ). old ++ xs) (sym (letters-append ks ls))))

module _ (p : PlainProblem) (xs old ys new front : List ℕ) (j : ℕ) (h : Leaving p xs old ys new)
    (last : ys ≡ front ++ j ∷ []) (mid : List ℕ) (passed : mid ≡ new ++ letters_of (pass_tokens p j)) where
  pub leaving_next : (more : List ℕ) → more ≡ mid ++ letter_of (Close Short) ∷ [] →
      nat_lt (behind_twins p (j + 1)) (length p.items) ≡ false → Leaving p xs old front more
  leaving_next more e gone =
      let ks : List Token = h.tokens ++ pass_tokens p j in
      record {
        tokens = ks ++ Close Short ∷ [];
        letters = passed_letters old mid more ks (Close Short ∷ []) (passed_letters old new mid h.tokens
            (pass_tokens p j) h.letters passed) e;
        whole =
            sym (fronted_twice ks (Close Short ∷ []) (leave p (reverse front)))
            ∙ (sym (fronted_twice h.tokens (pass_tokens p j) (writes (Close Short) (leave p (reverse front))))
            ∙ (ap (fronted h.tokens) (sym (leave_last p ys front j last ∙ shift_leaves p (reverse front) j gone))
            ∙ h.whole));
      }

  pub leaving_stops : (s : Stack) (stop : Stop) → s.places.items ≡ front → IsStack p j s →
      stop.next ≡ behind_twins p (j + 1) → stop.done ≡ false → j < stop.next →
      nat_lt (behind_twins p (j + 1)) (length p.items) ≡ true → HasWalked p (leave p (reverse xs)) old mid s stop
  leaving_stops s stop places is next open_ behind left =
      let here : HasWalked p (at (reverse s.places.items) stop.next) mid mid s stop = walked_at p mid s stop open_
      (stack_wider p j stop.next s (omega (arith, behind)) is) in
      let there : HasWalked p (at (reverse front) (behind_twins p (j + 1))) mid mid s stop = subst (λ
      (u : ℕ). HasWalked p (at (reverse front) u) mid mid s stop) next (subst (λ (q : List ℕ). HasWalked p (at
      (reverse q) stop.next) mid mid s stop) places here) in
      let with_pass : HasWalked p (fronted (pass_tokens p j) (at (reverse front) (behind_twins p
      (j + 1)))) new mid s stop = walked_front p (at (reverse front) (behind_twins p (j + 1)))
      (pass_tokens p j) new mid mid s stop passed there in
      let shifted : HasWalked p (leave p (reverse ys)) new mid s stop = subst (λ
      (w : Way). HasWalked p w new mid s stop) (sym (leave_last p ys front j last
      ∙ shift_ends p (reverse front) j left)) with_pass in
      subst (λ (w : Way). HasWalked p w old mid s stop) h.whole (walked_front p (leave p
      (reverse ys)) h.tokens old new mid s stop h.letters shifted)

pub leaving_over : (p : PlainProblem) (xs old ys new : List ℕ) (s : Stack) (stop : Stop) → Leaving p xs old ys new →
    ys ≡ [] → s.places.items ≡ [] → stop.next ≡ length p.items → stop.done ≡ true → IsStack p stop.next s →
    HasWalked p (leave p (reverse xs)) old new s stop
leaving_over p xs old ys new s stop h none places next done is =
    let there : HasWalked p (leave p (reverse ys)) new new s stop = subst (λ (q : List ℕ). HasWalked p (leave p
    (reverse q)) new new s stop) (sym none) (walked_over p new s stop done next places is) in
    subst (λ (w : Way). HasWalked p w old new s stop) h.whole (walked_front p (leave p
    (reverse ys)) h.tokens old new new s stop h.letters there)

-- a shift that stops at once, and one that goes on
pub shift_stops : (p : PlainProblem) (j : ℕ) (old mid : List ℕ) (s : Stack) (stop : Stop) →
    mid ≡ old ++ letters_of (pass_tokens p j) → IsStack p j s → stop.next ≡ behind_twins p (j + 1) →
    stop.done ≡ false → j < stop.next → nat_lt (behind_twins p (j + 1)) (length p.items) ≡ true →
    HasWalked p (shift p (reverse s.places.items) j) old mid s stop
shift_stops p j old mid s stop passed is next open_ behind left =
    let here : HasWalked p (at (reverse s.places.items) stop.next) mid mid s stop = walked_at p mid s stop open_
    (stack_wider p j stop.next s (omega (arith, behind)) is) in
    let there : HasWalked p (at (reverse s.places.items) (behind_twins p (j + 1))) mid mid s stop = subst (λ
    (u : ℕ). HasWalked p (at (reverse s.places.items) u) mid mid s stop) next here in
    subst (λ (w : Way). HasWalked p w old mid s stop) (sym (shift_ends p (reverse s.places.items) j left))
    (walked_front p (at (reverse s.places.items) (behind_twins p (j + 1)))
    (pass_tokens p j) old mid mid s stop passed there)

pub shift_goes : (p : PlainProblem) (j : ℕ) (q old mid more new : List ℕ) (s : Stack) (stop : Stop) →
    mid ≡ old ++ letters_of (pass_tokens p j) → more ≡ mid ++ letter_of (Close Short) ∷ [] →
    nat_lt (behind_twins p (j + 1)) (length p.items) ≡ false → HasWalked p (leave p (reverse q)) more new s stop →
    HasWalked p (shift p (reverse q) j) old new s stop
shift_goes p j q old mid more new s stop passed e gone h =
    subst (λ (w : Way). HasWalked p w old new s stop) (sym (shift_leaves p (reverse q) j gone))
    (walked_front p (writes (Close Short) (leave p (reverse q))) (pass_tokens p j) old mid new s stop passed
    (walked_put p (leave p (reverse q)) (Close Short) mid more new s stop e h))

-- the last place, and one that isn't
pub lightest_last : (p : PlainProblem) (t weight : ℕ) → t + 1 ≡ length p.items →
    (item_at p.items t).weight ≤ weight → nat_le (item_at p.items t).weight weight ≡ is_lightest p t
lightest_last p t weight last most =
    let yes_le : nat_le (item_at p.items t).weight weight ≡ true = grind (arith, nat_tests) in
    let yes_last : (t + 1 == length p.items) ≡ true = grind (arith, nat_tests) in
    yes_le ∙ sym (ap (λ (b : Bool). b || nat_le (item_at p.items t).weight (least_weight p (t + 1))) yes_last)

pub lightest_some : (p : PlainProblem) (t weight : ℕ) → t + 1 < length p.items → weight ≡ least_weight p (t + 1) →
    nat_le (item_at p.items t).weight weight ≡ is_lightest p t
lightest_some p t weight more e =
    let not_last : (t + 1 == length p.items) ≡ false = grind (arith, nat_tests) in
    ap (nat_le (item_at p.items t).weight) e ∙ sym (ap (λ (b : Bool). b || nat_le (item_at p.items t).weight
    (least_weight p (t + 1))) not_last)

-- a cut: whether what is left reaches lo
pub cut_short : (p : PlainProblem) (s : Stack) (t : ℕ) → value_of p s.places.items + s.gap ≡ p.lo →
    nat_lt (later_value p (t + 1)) s.gap ≡ nat_lt (value_of p (upward (reverse s.places.items)) + later_value p
    (t + 1)) p.lo
cut_short p s t e =
    same_lt (later_value p (t + 1)) s.gap (value_of p s.places.items + later_value p (t + 1)) p.lo (λ l. omega
    (arith, e, l)) (λ l. omega (arith, e, l))
    ∙ ap (λ (q : List ℕ). nat_lt (value_of p q + later_value p (t + 1)) p.lo) (sym (upward_reverse s.places.items))

module _ (p : PlainProblem) (s : Stack) (t : ℕ) (reason : Reason) (e : value_of p s.places.items + s.gap ≡ p.lo) where
  abbrev reaches_not : Bool
  reaches_not = nat_lt (value_of p (upward (reverse s.places.items)) + later_value p (t + 1)) p.lo

  pub cut_by_short : later_value p (t + 1) < s.gap → Short ≡ (if reaches_not then Short else reason)
  cut_by_short l = sym (if_true reaches_not Short reason (sym (cut_short p s t e)
      ∙ lt_true (later_value p (t + 1)) s.gap l))

  pub cut_by_reason : s.gap ≤ later_value p (t + 1) → reason ≡ (if reaches_not then Short else reason)
  cut_by_reason l = sym (if_false reaches_not Short reason (sym (cut_short p s t e)
      ∙ lt_false (later_value p (t + 1)) s.gap l))
