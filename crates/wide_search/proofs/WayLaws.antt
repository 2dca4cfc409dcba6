-- What dropping places writes, and where it leads.
use Rattle.std.specs.Prelude.{◌≡◌, ℕ, ◌+◌, ◌<◌, ◌≤◌, Bool, true, false, List, [], ◌∷◌, ◌++◌, length, reverse, if◌then◌else◌, nat_lt}
use Rattle.std.proofs.Common.{arith, refl, sym, ap, subst, ◌∙◌, append_assoc}
use Rattle.std.proofs.lemmas.Bool.Decides.{nat_tests}
use Rattle.std.proofs.lemmas.List.{append-nil}
use Rattle.pick_problem.specs.Problem.{PlainProblem}
use Rattle.pick_problem.specs.Later.{behind_twins}
use Rattle.pick_problem.proofs.Deciding.{if_false, if_true}
use Rattle.pick_problem.proofs.RisingLaws.{Rising-wider}
use Rattle.pick_problem.proofs.WayLaws.{reverse_push, upward_reverse}
use Rattle.wide_check.specs.declared.token.WideReason.TheVariants.{Ended}
use Rattle.wide_check.specs.declared.token.WideToken.{WideToken}
use Rattle.wide_check.specs.declared.token.WideToken.TheVariants.{Pass, Close}
use Rattle.wide_check.specs.WideLetters.{letters_of}
use Rattle.wide_check.specs.WideTokens.{letter_of}
use Rattle.wide_check.proofs.WideLetterLaws.{letters-append}
use Rattle.wide_search.specs.declared.stack.Stack.{Stack}
use Rattle.wide_search.specs.declared.stop.Stop.{Stop}
use Rattle.wide_search.specs.Stack.{IsStack}
use Rattle.wide_search.specs.Transitions.{HasWalked}
use Rattle.wide_search.specs.WideWalk.{Way, at, going, over, writes, passing, shift, leave}

abbrev pub fronted : List WideToken → Way → Way
fronted tokens w = record { tokens = tokens ++ w.tokens; stack = w.stack; next = w.next; done = w.done }

pub fronted_none : (w : Way) → fronted [] w ≡ w
fronted_none w = refl

pub fronted_twice : (ks ls : List WideToken) (w : Way) → fronted ks (fronted ls w) ≡ fronted (ks ++ ls) w
fronted_twice ks ls w = ap (λ (tokens : List WideToken). record { tokens = tokens; stack = w.stack; next = w.next; done = w.done }) (sym (append_assoc ks ls w.tokens))

pub writes_fronted : (k : WideToken) (w : Way) → writes k w ≡ fronted (k ∷ []) w
writes_fronted k w = refl

by_bool : (b : Bool) (w : Way) → (if b then writes Pass w else w) ≡ fronted (if b then Pass ∷ [] else []) w
by_bool true w = refl
by_bool false w = refl

-- T where twins stand after the place j
abbrev pub pass_tokens : PlainProblem → ℕ → List WideToken
pass_tokens p j = if nat_lt (j + 1) (behind_twins p (j + 1)) then Pass ∷ [] else []

pub passing_is : (p : PlainProblem) (j : ℕ) (w : Way) → passing p j w ≡ fronted (pass_tokens p j) w
passing_is p j w = by_bool (nat_lt (j + 1) (behind_twins p (j + 1))) w

-- one step of a shift: it ends at the next place, or S is written and the last chosen place is left
pub shift_is : (p : PlainProblem) (stack : List ℕ) (j : ℕ) →
    shift p stack j ≡ passing p j (if nat_lt (behind_twins p (j + 1)) (length p.items) then at stack (behind_twins p (j + 1)) else writes (Close Ended) (leave p stack))
shift_is p [] j = refl
shift_is p (k ∷ stack) j = refl

pub shift_ends : (p : PlainProblem) (stack : List ℕ) (j : ℕ) → nat_lt (behind_twins p (j + 1)) (length p.items) ≡ true →
    shift p stack j ≡ fronted (pass_tokens p j) (at stack (behind_twins p (j + 1)))
shift_ends p stack j e =
    shift_is p stack j ∙ (passing_is p j (if nat_lt (behind_twins p (j + 1)) (length p.items) then at stack (behind_twins p (j + 1)) else writes (Close Ended) (leave p stack))
    ∙ ap (fronted (pass_tokens p j)) (if_true (nat_lt (behind_twins p (j + 1)) (length p.items)) (at stack (behind_twins p (j + 1))) (writes (Close Ended) (leave p stack)) e))

pub shift_leaves : (p : PlainProblem) (stack : List ℕ) (j : ℕ) →
    nat_lt (behind_twins p (j + 1)) (length p.items) ≡ false →
    shift p stack j ≡ fronted (pass_tokens p j) (writes (Close Ended) (leave p stack))
shift_leaves p stack j e =
    shift_is p stack j ∙ (passing_is p j (if nat_lt (behind_twins p (j + 1)) (length p.items) then at stack (behind_twins p (j + 1)) else writes (Close Ended) (leave p stack))
    ∙ ap (fronted (pass_tokens p j)) (if_false (nat_lt (behind_twins p (j + 1)) (length p.items)) (at stack (behind_twins p (j + 1))) (writes (Close Ended) (leave p stack)) e))

-- ---- what a piece of a try leaves

pub lt_true : (a b : ℕ) → a < b → nat_lt a b ≡ true
lt_true a b l = grind (arith, nat_tests)

pub lt_false : (a b : ℕ) → b ≤ a → nat_lt a b ≡ false
lt_false a b l = grind (arith, nat_tests)

-- tokens in front of a way
pub walked_front : (p : PlainProblem) (w : Way) (ks : List WideToken) (old mid new : List ℕ) (s : Stack) (stop : Stop) →
    mid ≡ old ++ letters_of ks → HasWalked p w mid new s stop → HasWalked p (fronted ks w) old new s stop
walked_front p w ks old mid new s stop e h =
    record {
      chosen = h.chosen;
      letters = h.letters ∙ (ap (λ (xs : List ℕ). xs ++ letters_of w.tokens) e
          ∙ (append_assoc old (letters_of ks) (letters_of w.tokens)
          ∙ ap (λ (xs : List ℕ). old ++ xs) (sym (letters-append ks w.tokens))));
      next = h.next;
      done = h.done;
      stack = h.stack;
    }

pub walked_put : (p : PlainProblem) (w : Way) (k : WideToken) (old mid new : List ℕ) (s : Stack) (stop : Stop) →
    mid ≡ old ++ letter_of k ∷ [] → HasWalked p w mid new s stop → HasWalked p (writes k w) old new s stop
walked_put p w k old mid new s stop e h = walked_front p w (k ∷ []) old mid new s stop e h

-- a stack below a place is below a later one
pub stack_wider : (p : PlainProblem) (j next : ℕ) (s : Stack) → j ≤ next → IsStack p j s → IsStack p next s
stack_wider p j next s l is = record {
  rising = Rising-wider j next 0 s.places.items l is.rising;
  sums = is.sums;
  room = is.room;
}

-- the walk stops after a place and its twins
pub walked_at : (p : PlainProblem) (old : List ℕ) (s : Stack) (stop : Stop) → stop.done ≡ false →
    IsStack p stop.next s → HasWalked p (at (reverse s.places.items) stop.next) old old s stop
walked_at p old s stop open_ is = record {
  chosen = sym (upward_reverse s.places.items);
  letters = sym
      (append-nil old);
  next = refl;
  done = open_;
  stack = is;
}

-- or is done
pub walked_over : (p : PlainProblem) (old : List ℕ) (s : Stack) (stop : Stop) → stop.done ≡ true →
    stop.next ≡ length p.items → s.places.items ≡ [] → IsStack p stop.next s → HasWalked p (over p) old old s stop
walked_over p old s stop done next none is = record {
  chosen = none;
  letters = sym
      (append-nil old);
  next = next;
  done = done;
  stack = is;
}

-- or goes on with a place chosen
pub going_on : (p : PlainProblem) (t : ℕ) (q old : List ℕ) (s : Stack) (stop : Stop) →
    s.places.items ≡ q ++ t ∷ [] → stop.next ≡ t + 1 → stop.done ≡ false → IsStack p (t + 1) s →
    t + 1 < length p.items → HasWalked p (going p (reverse q) t) old old s stop
going_on p t q old s stop places next open_ is more =
    subst (λ (w : Way). HasWalked p w old old s stop) (sym (if_true (nat_lt (t + 1) (length p.items)) (at
    (t ∷ reverse q) (t + 1)) (writes (Close Ended) (shift p (reverse q) t)) (lt_true (t + 1) (length p.items) more)))
    record {
      chosen = places ∙ ap (λ (r : List ℕ). r ++ t ∷ []) (sym (upward_reverse q));
      letters = sym (append-nil old);
      next = next;
      done = open_;
      stack = subst (λ (n : ℕ). IsStack p n s) (sym next) is;
    }

-- or drops the last place
pub going_back : (p : PlainProblem) (t : ℕ) (q old mid new : List ℕ) (s : Stack) (stop : Stop) →
    mid ≡ old ++ letter_of (Close Ended) ∷ [] → length p.items ≤ t + 1 →
    HasWalked p (shift p (reverse q) t) mid new s stop → HasWalked p (going p (reverse q) t) old new s stop
going_back p t q old mid new s stop e last h =
    subst (λ (w : Way). HasWalked p w old new s stop) (sym (if_false (nat_lt (t + 1) (length p.items)) (at
    (t ∷ reverse q) (t + 1)) (writes (Close Ended) (shift p (reverse q) t)) (lt_false (t + 1) (length p.items) last)))
    (walked_put p (shift p (reverse q) t) (Close Ended) old mid new s stop e h)

-- what is written while chosen places are left, and what is left to do
pub record Leaving (p : PlainProblem) (xs old ys new : List ℕ) : Type 0 where
  pub tokens : List WideToken
  pub letters : new ≡ old ++ letters_of tokens
  pub whole : fronted tokens (leave p (reverse ys)) ≡ leave p (reverse xs)

pub leaving_start : (p : PlainProblem) (xs old : List ℕ) → Leaving p xs old xs old
leaving_start p xs old = record { tokens = []; letters = sym (append-nil old); whole = refl }

leave_last : (p : PlainProblem) (ys front : List ℕ) (j : ℕ) → ys ≡ front ++ j ∷ [] →
    leave p (reverse ys) ≡ shift p (reverse front) j
leave_last p ys front j e = ap (λ (q : List ℕ). leave p (reverse q)) e ∙ ap (leave p) (reverse_push front j)

pub passed_letters : (old new mid : List ℕ) (ks ls : List WideToken) → new ≡ old ++ letters_of ks →
    mid ≡ new ++ letters_of ls → mid ≡ old ++ letters_of (ks ++ ls)
passed_letters old new mid ks ls e f = f ∙ (ap (λ (xs : List ℕ). xs ++ letters_of ls) e
    ∙ (append_assoc old (letters_of ks) (letters_of ls) ∙ ap (λ (xs : List ℕ). old ++ xs) (sym (letters-append ks ls))))

module _ (p : PlainProblem) (xs old ys new front : List ℕ) (j : ℕ) (h : Leaving p xs old ys new)
    (last : ys ≡ front ++ j ∷ []) (mid : List ℕ) (passed : mid ≡ new ++ letters_of (pass_tokens p j)) where
  pub leaving_next : (more : List ℕ) → more ≡ mid ++ letter_of (Close Ended) ∷ [] →
      nat_lt (behind_twins p (j + 1)) (length p.items) ≡ false → Leaving p xs old front more
  leaving_next more e gone =
      let ks : List WideToken = h.tokens ++ pass_tokens p j in
      record {
        tokens = ks ++ Close Ended ∷ [];
        letters = passed_letters old mid more ks (Close Ended ∷ []) (passed_letters old new mid h.tokens
            (pass_tokens p j) h.letters passed) e;
        whole =
            sym (fronted_twice ks (Close Ended ∷ []) (leave p (reverse front)))
            ∙ (sym (fronted_twice h.tokens (pass_tokens p j) (writes (Close Ended) (leave p (reverse front))))
            ∙ (ap (fronted h.tokens) (sym (leave_last p ys front j last ∙ shift_leaves p (reverse front) j gone))
            ∙ h.whole));
      }

  pub leaving_stops : (s : Stack) (stop : Stop) → s.places.items ≡ front → IsStack p j s →
      stop.next ≡ behind_twins p (j + 1) → stop.done ≡ false → j < stop.next →
      nat_lt (behind_twins p (j + 1)) (length p.items) ≡ true → HasWalked p (leave p (reverse xs)) old mid s stop
  leaving_stops s stop places is next open_ behind left =
      let here : HasWalked p (at (reverse s.places.items) stop.next) mid mid s stop = walked_at p mid s stop open_
      (stack_wider p j stop.next s (omega (arith, behind)) is) in
      let there : HasWalked p (at (reverse front) (behind_twins p (j + 1))) mid mid s stop = subst (λ
      (u : ℕ). HasWalked p (at (reverse front) u) mid mid s stop) next (subst (λ (q : List ℕ). HasWalked p (at
      (reverse q) stop.next) mid mid s stop) places here) in
      let with_pass : HasWalked p (fronted (pass_tokens p j) (at (reverse front) (behind_twins p
      (j + 1)))) new mid s stop = walked_front p (at (reverse front) (behind_twins p (j + 1)))
      (pass_tokens p j) new mid mid s stop passed there in
      let shifted : HasWalked p (leave p (reverse ys)) new mid s stop = subst (λ
      (w : Way). HasWalked p w new mid s stop) (sym (leave_last p ys front j last
      ∙ shift_ends p (reverse front) j left)) with_pass in
      subst (λ (w : Way). HasWalked p w old mid s stop) h.whole (walked_front p (leave p
      (reverse ys)) h.tokens old new mid s stop h.letters shifted)

pub leaving_over : (p : PlainProblem) (xs old ys new : List ℕ) (s : Stack) (stop : Stop) → Leaving p xs old ys new →
    ys ≡ [] → s.places.items ≡ [] → stop.next ≡ length p.items → stop.done ≡ true → IsStack p stop.next s →
    HasWalked p (leave p (reverse xs)) old new s stop
leaving_over p xs old ys new s stop h none places next done is =
    let there : HasWalked p (leave p (reverse ys)) new new s stop = subst (λ (q : List ℕ). HasWalked p (leave p
    (reverse q)) new new s stop) (sym none) (walked_over p new s stop done next places is) in
    subst (λ (w : Way). HasWalked p w old new s stop) h.whole (walked_front p (leave p
    (reverse ys)) h.tokens old new new s stop h.letters there)

-- a shift that stops at once, and one that goes on
pub shift_stops : (p : PlainProblem) (j : ℕ) (old mid : List ℕ) (s : Stack) (stop : Stop) →
    mid ≡ old ++ letters_of (pass_tokens p j) → IsStack p j s → stop.next ≡ behind_twins p (j + 1) →
    stop.done ≡ false → j < stop.next → nat_lt (behind_twins p (j + 1)) (length p.items) ≡ true →
    HasWalked p (shift p (reverse s.places.items) j) old mid s stop
shift_stops p j old mid s stop passed is next open_ behind left =
    let here : HasWalked p (at (reverse s.places.items) stop.next) mid mid s stop = walked_at p mid s stop open_
    (stack_wider p j stop.next s (omega (arith, behind)) is) in
    let there : HasWalked p (at (reverse s.places.items) (behind_twins p (j + 1))) mid mid s stop = subst (λ
    (u : ℕ). HasWalked p (at (reverse s.places.items) u) mid mid s stop) next here in
    subst (λ (w : Way). HasWalked p w old mid s stop) (sym (shift_ends p (reverse s.places.items) j left))
    (walked_front p (at (reverse s.places.items) (behind_twins p (j + 1)))
    (pass_tokens p j) old mid mid s stop passed there)

pub shift_goes : (p : PlainProblem) (j : ℕ) (q old mid more new : List ℕ) (s : Stack) (stop : Stop) →
    mid ≡ old ++ letters_of (pass_tokens p j) → more ≡ mid ++ letter_of (Close Ended) ∷ [] →
    nat_lt (behind_twins p (j + 1)) (length p.items) ≡ false → HasWalked p (leave p (reverse q)) more new s stop →
    HasWalked p (shift p (reverse q) j) old new s stop
shift_goes p j q old mid more new s stop passed e gone h =
    subst (λ (w : Way). HasWalked p w old new s stop) (sym (shift_leaves p (reverse q) j gone))
    (walked_front p (writes (Close Ended) (leave p (reverse q))) (pass_tokens p j) old mid new s stop passed
    (walked_put p (leave p (reverse q)) (Close Ended) mid more new s stop e h))
