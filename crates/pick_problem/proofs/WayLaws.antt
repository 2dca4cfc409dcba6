-- The order of chosen places and its reverse, and what dropping a place writes.
use Rattle.std.specs.Prelude.{◌≡◌, ℕ, ◌+◌, Bool, true, false, List, [], ◌∷◌, ◌++◌, length, reverse, if◌then◌else◌, nat_lt}
use Rattle.std.proofs.Common.{arith, refl, sym, ap, ◌∙◌, append_assoc, length-append}
use Rattle.std.proofs.lemmas.List.{reverse-append}
use Rattle.pick_problem.specs.declared.token.Reason.TheVariants.{Short}
use Rattle.pick_problem.specs.declared.token.Token.{Token}
use Rattle.pick_problem.specs.declared.token.Token.TheVariants.{Pass, Close}
use Rattle.pick_problem.specs.Problem.{PlainProblem}
use Rattle.pick_problem.specs.Later.{behind_twins}
use Rattle.pick_problem.specs.Walk.{Way, upward, at, writes, passing, shift, leave}
use Rattle.pick_problem.proofs.Deciding.{if_false, if_true}

-- ---- the stack

pub length_upward : (stack : List ℕ) → length (upward stack) ≡ length stack
length_upward [] = refl
length_upward (j ∷ stack) = omega (arith, length-append (upward stack) (j ∷ []), length_upward stack)

pub upward_push : (stack : List ℕ) (j : ℕ) → upward (stack ++ j ∷ []) ≡ j ∷ upward stack
upward_push [] j = refl
upward_push (k ∷ stack) j = ap (λ (q : List ℕ). q ++ k ∷ []) (upward_push stack j)

reverse_cons : (j : ℕ) (q : List ℕ) → reverse (j ∷ q) ≡ reverse q ++ j ∷ []
reverse_cons j q = reverse-append (j ∷ []) q

-- what is chosen last stands first in the stack
pub upward_is_reverse : (stack : List ℕ) → upward stack ≡ reverse stack
upward_is_reverse [] = refl
upward_is_reverse (j ∷ stack) = ap (λ (q : List ℕ). q ++ j ∷ []) (upward_is_reverse stack) ∙ sym (reverse_cons j stack)

pub reverse_push : (q : List ℕ) (j : ℕ) → reverse (q ++ j ∷ []) ≡ j ∷ reverse q
reverse_push q j = sym (upward_is_reverse (q ++ j ∷ [])) ∙ (upward_push q j ∙ ap (λ (r : List ℕ). j ∷ r) (upward_is_reverse q))

pub upward_reverse : (q : List ℕ) → upward (reverse q) ≡ q
upward_reverse [] = refl
upward_reverse (j ∷ q) = ap upward (reverse_cons j q) ∙ (upward_push (reverse q) j ∙ ap (λ (r : List ℕ). j ∷ r) (upward_reverse q))

pub reverse_upward : (stack : List ℕ) → reverse (upward stack) ≡ stack
reverse_upward [] = refl
reverse_upward (j ∷ stack) = reverse_push (upward stack) j ∙ ap (λ (r : List ℕ). j ∷ r) (reverse_upward stack)

-- ---- tokens in front of a way

abbrev pub fronted : List Token → Way → Way
fronted tokens w = record { tokens = tokens ++ w.tokens; stack = w.stack; next = w.next; done = w.done }

pub fronted_none : (w : Way) → fronted [] w ≡ w
fronted_none w = refl

pub fronted_twice : (ks ls : List Token) (w : Way) → fronted ks (fronted ls w) ≡ fronted (ks ++ ls) w
fronted_twice ks ls w = ap (λ (tokens : List Token). record { tokens = tokens; stack = w.stack; next = w.next; done = w.done }) (sym (append_assoc ks ls w.tokens))

pub writes_fronted : (k : Token) (w : Way) → writes k w ≡ fronted (k ∷ []) w
writes_fronted k w = refl

by_bool : (b : Bool) (w : Way) → (if b then writes Pass w else w) ≡ fronted (if b then Pass ∷ [] else []) w
by_bool true w = refl
by_bool false w = refl

-- T where twins stand after the place j
abbrev pub pass_tokens : PlainProblem → ℕ → List Token
pass_tokens p j = if nat_lt (j + 1) (behind_twins p (j + 1)) then Pass ∷ [] else []

pub passing_is : (p : PlainProblem) (j : ℕ) (w : Way) → passing p j w ≡ fronted (pass_tokens p j) w
passing_is p j w = by_bool (nat_lt (j + 1) (behind_twins p (j + 1))) w

-- one step of a shift: it ends at the next place, or S is written and the last chosen place is left
pub shift_is : (p : PlainProblem) (stack : List ℕ) (j : ℕ) →
    shift p stack j ≡ passing p j (if nat_lt (behind_twins p (j + 1)) (length p.items) then at stack (behind_twins p (j + 1)) else writes (Close Short) (leave p stack))
shift_is p [] j = refl
shift_is p (k ∷ stack) j = refl

pub shift_ends : (p : PlainProblem) (stack : List ℕ) (j : ℕ) → nat_lt (behind_twins p (j + 1)) (length p.items) ≡ true →
    shift p stack j ≡ fronted (pass_tokens p j) (at stack (behind_twins p (j + 1)))
shift_ends p stack j e =
    shift_is p stack j ∙ (passing_is p j (if nat_lt (behind_twins p (j + 1)) (length p.items) then at stack (behind_twins p (j + 1)) else writes (Close Short) (leave p stack))
    ∙ ap (fronted (pass_tokens p j)) (if_true (nat_lt (behind_twins p (j + 1)) (length p.items)) (at stack (behind_twins p (j + 1))) (writes (Close Short) (leave p stack)) e))

pub shift_leaves : (p : PlainProblem) (stack : List ℕ) (j : ℕ) →
    nat_lt (behind_twins p (j + 1)) (length p.items) ≡ false →
    shift p stack j ≡ fronted (pass_tokens p j) (writes (Close Short) (leave p stack))
shift_leaves p stack j e =
    shift_is p stack j ∙ (passing_is p j (if nat_lt (behind_twins p (j + 1)) (length p.items) then at stack (behind_twins p (j + 1)) else writes (Close Short) (leave p stack))
    ∙ ap (fronted (pass_tokens p j)) (if_false (nat_lt (behind_twins p (j + 1)) (length p.items)) (at stack (behind_twins p (j + 1))) (writes (Close Short) (leave p stack)) e))
