-- Tries in pieces, and searches that stand where a new one stands after so many tries.
use Rattle.std.specs.Prelude.{◌≡◌, ℕ, ◌+◌, ◌-◌, ◌*◌, ◌^◌, ◌<◌, ◌≤◌, true, false, List, ◌++◌, length, reverse, Option}
use Rattle.std.specs.Prelude.{nat_lt}
use Rattle.std.proofs.Common.{arith, refl, sym, ap, subst, ◌∙◌, append_assoc}
use Rattle.std.proofs.lemmas.List.{append-nil}
use Rattle.pick_problem.specs.declared.position.Position.{Position}
use Rattle.pick_problem.specs.Best.{IsBest}
use Rattle.pick_problem.specs.Later.{later_value, total_value}
use Rattle.pick_problem.specs.Letters.{letters_of, IsAcceptedText}
use Rattle.pick_problem.specs.Problem.{PlainProblem, IsProblem}
use Rattle.pick_problem.specs.Standing.{position_of, afresh, grafted}
use Rattle.pick_problem.specs.Walk.{Walk, upward, after_tries, start, walk}
use Rattle.pick_problem.proofs.Deciding.{if_cases, if_false, if_true}
use Rattle.pick_problem.proofs.AcceptLaws.{walk_accepted, walk_best}
use Rattle.pick_problem.proofs.BoundLaws.{few_tries_made, start_few, tries_position}
use Rattle.pick_problem.proofs.GraftLaws.{afresh_goes_on, tries_within}
use Rattle.pick_problem.proofs.KeptLaws.{short_start, open_start}
use Rattle.pick_problem.proofs.LetterLaws.{letters-append, letters-length}
use Rattle.pick_problem.proofs.TryStepLaws.{after_done, after_pieces, all_made, walk_pieces}
use Rattle.pick_problem.proofs.WayLaws.{reverse_upward, upward_reverse}
use Rattle.walk_engine.proofs.WayLaws.{lt_false, lt_true}
use Rattle.walk_engine.specs.Search.{PlainSearch, IsAfter, IsSearch, IsWellFormed, after, begun, letters, restored}
use Rattle.walk_engine.specs.Search.{standing, tries_in}

-- a search with another walk and other room
abbrev pub moved : PlainSearch → Walk → ℕ → PlainSearch
moved s w spare = record { problem = s.problem; before = s.before; walk = w; spare = spare }

pub after_none : (s : PlainSearch) → after s 0 ≡ s
after_none s = let e : s.spare - (s.walk.tries - s.walk.tries) ≡ s.spare = omega arith in ap (moved s s.walk) e

pub in_pieces : (s : PlainSearch) (n m : ℕ) → after (after s n) m ≡ after s (n + m)
in_pieces s n m =
    let p : PlainProblem = s.problem in
    let a : Walk = after_tries p s.walk n in
    let b : Walk = after_tries p a m in
    let c : Walk = after_tries p s.walk (n + m) in
    let same : b ≡ c = after_pieces p s.walk n m in
    let made : b.tries ≡ c.tries = ap (λ (w : Walk). w.tries) same in
    let first = tries_within p s.walk n in
    let second = tries_within p a m in
    let spare : (s.spare - (a.tries - s.walk.tries)) - (b.tries - a.tries) ≡ s.spare -
    (c.tries - s.walk.tries) = omega (arith, made, first.0, second.0) in
    ap (λ (w : Walk). moved s w ((s.spare - (a.tries - s.walk.tries)) - (b.tries - a.tries))) same
    ∙ ap (moved s c) spare

pub stays_done : (s : PlainSearch) (n : ℕ) → s.walk.done ≡ true → after s n ≡ s
stays_done s n done =
    let same : after_tries s.problem s.walk n ≡ s.walk = after_done s.problem s.walk n done in
    ap (λ (w : Walk). moved s w (s.spare - (w.tries - s.walk.tries))) same ∙ after_none s

-- done before all were made
pub done_early : (s : PlainSearch) (i n : ℕ) → i ≤ n → (after s i).walk.done ≡ true → after s i ≡ after s n
done_early s i n l done =
    let e : i + (n - i) ≡ n = omega arith in
    sym (stays_done (after s i) (n - i) done) ∙ (in_pieces s i (n - i) ∙ ap (after s) e)

pub some_spare : (s : PlainSearch) (i n : ℕ) → i < n → n ≤ s.spare → 1 ≤ (after s i).spare
some_spare s i n l enough = let made = tries_within s.problem s.walk i in omega (arith, made.0, made.1)

-- and all that are left to make
pub spare_left : (s : PlainSearch) (i n : ℕ) → n ≤ s.spare → n - i ≤ (after s i).spare
spare_left s i n enough = let made = tries_within s.problem s.walk i in omega (arith, made.0, made.1)

-- the room falls by the tries made
pub spare_falls : (s : PlainSearch) (n : ℕ) → n ≤ s.spare → (after s n).spare +
    (after s n).walk.tries ≡ s.spare + s.walk.tries
spare_falls s n enough = let made = tries_within s.problem s.walk n in omega (arith, made.0, made.1)

pub made_all : (s : PlainSearch) (n : ℕ) → (after s n).walk.done ≡ false → (after s n).walk.tries ≡ s.walk.tries + n
made_all s n open_ = all_made s.problem s.walk n open_

pub search_stays : (s : PlainSearch) (n : ℕ) → IsSearch s → IsSearch (after s n)
search_stays s n is = record {
  problem = is.problem;
  position = tries_position s.problem s.walk n is.problem
      is.position;
}

-- ---- where a new search stands after so many tries

start_nothing : (p : PlainProblem) → (start p).tries ≡ 0
start_nothing p = if_cases (λ (w : Walk). w.tries ≡ 0) (nat_lt (total_value p.items) p.lo)
    (short_start p) open_start (λ e. refl) (λ e. refl)

pub start_short : (p : PlainProblem) → later_value p 0 < p.lo → start p ≡ short_start p
start_short p l = if_true (nat_lt (total_value p.items) p.lo) (short_start p) open_start (lt_true
    (total_value p.items) p.lo l)

pub start_open : (p : PlainProblem) → p.lo ≤ later_value p 0 → start p ≡ open_start
start_open p l = if_false (nat_lt (total_value p.items) p.lo) (short_start p) open_start (lt_false
    (total_value p.items) p.lo l)

with_tries : Position → ℕ → Position
with_tries q n = record { chosen = q.chosen; next = q.next; best = q.best; tries = n; done = q.done }

pub begun_after : (p : PlainProblem) → IsAfter (begun p) 0
unfolding with_tries
begun_after p =
    let e : 0 + (start p).tries ≡ (start p).tries = omega arith in
    record { position = ap (with_tries (position_of (start p))) e; letters = refl }

-- walks at one position stand alike
same_place : (v w : Walk) (n m : ℕ) → with_tries (position_of v) n ≡ with_tries (position_of w) m → afresh v ≡ afresh w
unfolding with_tries
same_place v w n m e =
    let stack : v.stack ≡ w.stack = let chosen : upward v.stack ≡ upward w.stack = ap (λ
    (q : Position). q.chosen) e in sym (reverse_upward v.stack) ∙ (ap reverse chosen ∙ reverse_upward w.stack) in
    let next : v.next ≡ w.next = ap (λ (q : Position). q.next) e in
    let best : v.best ≡ w.best = ap (λ (q : Position). q.best) e in
    let done : v.done ≡ w.done = ap (λ (q : Position). q.done) e in
    cc

pub after_more : (s : PlainSearch) (n m : ℕ) → IsAfter s n → IsAfter (after s m) (n + m)
unfolding with_tries
after_more s n m is =
    let p : PlainProblem = s.problem in
    let v : Walk = walk p n in
    let fresh : afresh s.walk ≡ afresh v = same_place s.walk v (tries_in s.before + s.walk.tries) v.tries is.position in
    let f : Walk = after_tries p (afresh v) m in
    let here : after_tries p s.walk m ≡ grafted s.walk.tokens s.walk.tries f = afresh_goes_on p s.walk m
    ∙ ap (λ (w : Walk). grafted s.walk.tokens s.walk.tries (after_tries p w m)) fresh in
    let there : walk p (n + m) ≡ grafted v.tokens v.tries f = sym (walk_pieces p n m) ∙ afresh_goes_on p v m in
    let tries : tries_in s.before +
    (s.walk.tries + f.tries) ≡ v.tries + f.tries = let old : tries_in s.before + s.walk.tries ≡ v.tries = ap (λ
    (q : Position). q.tries) is.position in omega (arith, old) in
    let told : s.before ++ letters_of (s.walk.tokens ++ f.tokens) ≡ letters_of (v.tokens ++ f.tokens) =
    ap (λ (xs : List ℕ). s.before ++ xs) (letters-append s.walk.tokens f.tokens)
    ∙ (sym (append_assoc s.before (letters_of s.walk.tokens) (letters_of f.tokens))
    ∙ (ap (λ (xs : List ℕ). xs ++ letters_of f.tokens) is.letters ∙ sym (letters-append v.tokens f.tokens))) in
    record {
      position =
          ap (λ (w : Walk). with_tries (position_of w) (tries_in s.before + w.tries)) here
          ∙ (ap (with_tries (position_of f)) tries ∙ sym (ap position_of there));
      letters = ap (λ (w : Walk). s.before ++ letters_of w.tokens) here ∙ (told
          ∙ sym (ap (λ (w : Walk). letters_of w.tokens) there));
    }

-- what such a search has once it is done
module _ (s : PlainSearch) (n : ℕ) (is : IsAfter s n) (problem : IsProblem s.problem) where
  done_there : s.walk.done ≡ true → (walk s.problem n).done ≡ true
  done_there e = sym (ap (λ (q : Position). q.done) is.position) ∙ e

  best_there : s.walk.best ≡ (walk s.problem n).best
  best_there = ap (λ (q : Position). q.best) is.position

  pub after_best : s.walk.done ≡ true → IsBest s.problem s.walk.best
  after_best e = subst (λ (b : Option (List ℕ)). IsBest s.problem b) (sym best_there) (walk_best s.problem problem n
      (done_there e))

  pub after_accepted : s.walk.done ≡ true → IsAcceptedText s.problem s.walk.best (letters s)
  after_accepted e =
      subst (λ (b : Option (List ℕ)). IsAcceptedText s.problem b (letters s)) (sym best_there)
      ((walk s.problem n).tokens, is.letters, walk_accepted s.problem problem n (done_there e))

  pub after_few : length (letters s) ≤ 3 * n + 1
  after_few = omega (arith, ap length is.letters, letters-length (walk s.problem n).tokens, start_few s.problem n)

  pub after_tries_few : (standing s).tries < 2 ^ length s.problem.items
  after_tries_few = let same : (standing s).tries ≡ (walk s.problem n).tries = ap (λ
      (q : Position). q.tries) is.position in omega (arith, same, few_tries_made s.problem n problem)

-- restored from where a new search stands after n tries, with its letters
pub restored_after : (p : PlainProblem) (q : Position) (xs : List ℕ) (n : ℕ) → IsWellFormed p q xs →
    q ≡ position_of (walk p n) → xs ≡ letters_of (walk p n).tokens → IsAfter (restored p q xs) n
unfolding with_tries
restored_after p q xs n well here told =
    let tries : tries_in xs + 0 ≡ q.tries = omega (arith, well.counted) in
    record {
      position =
          ap (λ (chosen : List ℕ). record {
            chosen = chosen;
            next = q.next;
            best = q.best;
            tries = tries_in xs + 0;
            done = q.done;
          }) (upward_reverse q.chosen)
          ∙ (ap (with_tries q) tries ∙ here);
      letters = append-nil xs ∙ told;
    }
