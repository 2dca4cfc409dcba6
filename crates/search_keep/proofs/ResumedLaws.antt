-- What is saved of a walk that isn't done is where its search goes on.
use Rattle.std.specs.Prelude.{IsTrue, ℕ, ◌≡◌, ◌↔◌, ◌+◌, ◌++◌, ◌==◌, ◌<◌, ◌≤◌, cond, false, true, nat_lt, List, [], ◌∷◌, Option, Bool}
use Rattle.std.proofs.Common.{arith, refl, ap, subst, suc, sym, zero, ◌∙◌}
use Rattle.std.proofs.lemmas.List.Sums.{sum_by-append, sum_by-cons}
use Rattle.pick_problem.specs.declared.position.Position.{Position}
use Rattle.pick_problem.specs.declared.token.Reason.TheVariants.{Short, Over, Heavy, NoRoom, Worse, Heavier, Far, Hit}
use Rattle.pick_problem.specs.declared.token.Token.{Token}
use Rattle.pick_problem.specs.declared.token.Token.TheVariants.{Enter, Pass, Close}
use Rattle.pick_problem.specs.Later.{total_value}
use Rattle.pick_problem.specs.Letters.{letters_of}
use Rattle.pick_problem.specs.Problem.{IsProblem, PlainProblem, Rising, value_of, weight_of}
use Rattle.pick_problem.specs.Standing.{position_of}
use Rattle.pick_problem.specs.Tokens.{letter_of}
use Rattle.pick_problem.specs.Walk.{IsPosition, Ready, Walk, entered, enters, rule, start, try_once, upward, walk, way_of}
use Rattle.pick_problem.proofs.BoundLaws.{start_position, tame_way, tries_position}
use Rattle.pick_problem.proofs.Deciding.{if_cases}
use Rattle.pick_problem.proofs.KeptLaws.{open_start, short_start}
use Rattle.pick_problem.proofs.LetterLaws.{letters-append}
use Rattle.walk_engine.specs.Search.{IsWellFormed, open_at, tries_in}
use Rattle.search_keep.specs.Resumed.{CanStand, IsSavedWalk, open_position}
use Rattle.search_keep.specs.SavedText.{PlainSaved}

-- ---- letters tell the tries of a walk

tries-append : (xs ys : List ℕ) → tries_in (xs ++ ys) ≡ tries_in xs + tries_in ys
tries-append xs ys = sum_by-append (λ (b : ℕ). cond (b == 73) 1 0) xs ys

one_told : (k : Token) → cond (letter_of k == 73) 1 0 ≡ entered k
one_told Enter = refl
one_told Pass = refl
one_told (Close Short) = refl
one_told (Close Over) = refl
one_told (Close Heavy) = refl
one_told (Close NoRoom) = refl
one_told (Close Worse) = refl
one_told (Close Heavier) = refl
one_told (Close Far) = refl
one_told (Close Hit) = refl

letters_tell : (ks : List Token) → tries_in (letters_of ks) ≡ enters ks
letters_tell [] = refl
letters_tell (k ∷ ks) = omega (arith, sum_by-cons (λ (b : ℕ). cond (b == 73) 1 0) (letter_of k) (letters_of ks), one_told k, letters_tell ks)

abbrev IsTold : Walk → Type 0
IsTold w = tries_in (letters_of w.tokens) ≡ w.tries

try_told : (p : PlainProblem) (w : Walk) → IsTold w → IsTold (try_once p w)
try_told p w told =
    let way = way_of p w.stack w.next (rule p w.best (upward (w.next ∷ w.stack)) w.next) in
    omega (
      arith,
      told,
      ap tries_in (letters-append w.tokens (Enter ∷ way.tokens)),
      tries-append (letters_of w.tokens) (letters_of (Enter ∷ way.tokens)),
      letters_tell (Enter ∷ way.tokens),
      (tame_way p w.stack w.next (rule p w.best (upward (w.next ∷ w.stack)) w.next)).calm,
    )

walk_told : (p : PlainProblem) (n : ℕ) → IsTold (walk p n)
walk_told p zero = if_cases IsTold (nat_lt (total_value p.items) p.lo) (short_start p) open_start (λ e. refl) (λ e. refl)
walk_told p (suc n) = if_cases IsTold (walk p n).done (walk p n) (try_once p (walk p n)) (λ e. walk_told p n) (λ e. try_told p (walk p n) (walk_told p n))

-- ---- what is saved of a walk

abbrev position_from : List ℕ → ℕ → Option (List ℕ) → ℕ → Bool → Position
position_from c n a t d = record { chosen = c; next = n; best = a; tries = t; done = d }

same_position : (c d : List ℕ) (m n : ℕ) (a b : Option (List ℕ)) (t u : ℕ) (x y : Bool) → c ≡ d → m ≡ n → a ≡ b → t ≡ u → x ≡ y →
    position_from c m a t x ≡ position_from d n b u y
same_position c d m n a b t u x y e f g h i =
    ap (λ (v : List ℕ). position_from v m a t x) e
    ∙ (ap (λ (v : ℕ). position_from d v a t x) f
    ∙ (ap (λ (v : Option (List ℕ)). position_from d n v t x) g
    ∙ (ap (λ (v : ℕ). position_from d n b v x) h ∙ ap (λ (v : Bool). position_from d n b u v) i)))

-- it is the position of the walk
pub stands_there : (s : PlainSaved) (p : PlainProblem) (letters : List ℕ) (n : ℕ) → IsSavedWalk s letters (walk p n) → open_position s letters ≡ position_of (walk p n)
stands_there s p letters n is =
    same_position s.chosen (upward (walk p n).stack) s.next (walk p n).next s.best (walk p n).best (tries_in letters) (walk p n).tries false (walk p n).done
    is.chosen is.next is.best (ap tries_in is.letters_are ∙ walk_told p n) (sym is.goes_on)

-- a search may stand there
pub can_stand : (s : PlainSaved) (p : PlainProblem) (letters : List ℕ) (n : ℕ) → IsProblem p → IsSavedWalk s letters (walk p n) → CanStand s p letters
can_stand s p letters n problem is =
    let at : IsPosition p (walk p n) = tries_position p (start p) n problem (start_position p problem) in
    let ready : Ready p (walk p n).stack (walk p n).next = at.ready is.goes_on in
    record {
      rises = subst (λ (q : List ℕ). Rising s.next 0 q) (sym is.chosen) (subst (λ (m : ℕ). Rising m 0 (upward (walk p n).stack)) (sym is.next) ready.rises);
      next = λ e. omega (arith, is.next, ready.next);
      low = λ e. (subst (λ (q : List ℕ). value_of p q < p.lo) (sym is.chosen) ready.low, subst (λ (q : List ℕ). weight_of p q ≤ p.most_weight) (sym is.chosen) ready.light);
      over = λ (e : false ≡ true). absurd (cc);
      best = rw is.best at.fit;
      counted = refl;
    }

-- the test of where a search may stand is one of what is saved
pub stands_by : (p : PlainProblem) (letters : List ℕ) (s v : PlainSaved) (chosen : List ℕ) (b : Bool) → v ≡ s → chosen ≡ v.chosen →
    ((ls : List ℕ) → (IsTrue b ↔ IsWellFormed p (open_at chosen v.next v.best ls) ls)) → (IsTrue b ↔ CanStand s p letters)
stands_by p letters s v chosen b e f h =
    subst (λ (u : PlainSaved). IsTrue b ↔ CanStand u p letters) e
    (subst (λ (c : List ℕ). IsTrue b ↔ IsWellFormed p (open_at c v.next v.best letters) letters) f (h letters))
