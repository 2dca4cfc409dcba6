-- Tries in pieces, and what a search has that stands where the walk stands.
use Rattle.std.specs.Prelude.{◌≡◌, ℕ, ◌+◌, ◌-◌, ◌*◌, ◌^◌, ◌<◌, ◌≤◌, true, false, length, nat_lt}
use Rattle.std.proofs.Common.{arith, refl, sym, ap, subst, ◌∙◌}
use Rattle.pick_problem.specs.Later.{later_value, total_value}
use Rattle.pick_problem.specs.Problem.{PlainProblem}
use Rattle.pick_problem.proofs.Deciding.{if_false, if_true}
use Rattle.wide_check.specs.Wide.{IsWideBest, IsWideFit}
use Rattle.wide_check.specs.WideLetters.{IsWideAcceptedText}
use Rattle.wide_check.specs.WideTree.{IsWideAccepted}
use Rattle.wide_check.proofs.WideLetterLaws.{letters-length}
use Rattle.wide_search.specs.Search.{PlainWide, IsWideSearch, after, letters}
use Rattle.wide_search.specs.WideWalk.{Ready, Walk, after_tries, start, walk}
use Rattle.wide_search.proofs.BoundLaws.{few_tries_made, walk_few_made}
use Rattle.wide_search.proofs.KeptLaws.{open_start, short_start, walk_accepted, walk_best, walk_fit, walk_ready}
use Rattle.wide_search.proofs.TryStepLaws.{after_done, after_pieces, all_made, tries_within, walk_pieces}
use Rattle.wide_search.proofs.WayLaws.{lt_false, lt_true}

-- a search with another walk and other room
abbrev pub moved : PlainWide → Walk → ℕ → PlainWide
moved s w spare = record { problem = s.problem; walk = w; spare = spare }

pub after_none : (s : PlainWide) → after s 0 ≡ s
after_none s = let e : s.spare - (s.walk.tries - s.walk.tries) ≡ s.spare = omega arith in ap (moved s s.walk) e

pub in_pieces : (s : PlainWide) (n m : ℕ) → after (after s n) m ≡ after s (n + m)
in_pieces s n m =
    let p : PlainProblem = s.problem in
    let a : Walk = after_tries p s.walk n in
    let b : Walk = after_tries p a m in
    let c : Walk = after_tries p s.walk (n + m) in
    let same : b ≡ c = after_pieces p s.walk n m in
    let made : b.tries ≡ c.tries = ap (λ (w : Walk). w.tries) same in
    let first = tries_within p s.walk n in
    let second = tries_within p a m in
    let spare : (s.spare - (a.tries - s.walk.tries)) - (b.tries - a.tries) ≡ s.spare -
    (c.tries - s.walk.tries) = omega (arith, made, first.0, second.0) in
    ap (λ (w : Walk). moved s w ((s.spare - (a.tries - s.walk.tries)) - (b.tries - a.tries))) same
    ∙ ap (moved s c) spare

pub stays_done : (s : PlainWide) (n : ℕ) → s.walk.done ≡ true → after s n ≡ s
stays_done s n done =
    let same : after_tries s.problem s.walk n ≡ s.walk = after_done s.problem s.walk n done in
    ap (λ (w : Walk). moved s w (s.spare - (w.tries - s.walk.tries))) same ∙ after_none s

-- done before all were made
pub done_early : (s : PlainWide) (i n : ℕ) → i ≤ n → (after s i).walk.done ≡ true → after s i ≡ after s n
done_early s i n l done =
    let e : i + (n - i) ≡ n = omega arith in
    sym (stays_done (after s i) (n - i) done) ∙ (in_pieces s i (n - i) ∙ ap (after s) e)

pub some_spare : (s : PlainWide) (i n : ℕ) → i < n → n ≤ s.spare → 1 ≤ (after s i).spare
some_spare s i n l enough = let made = tries_within s.problem s.walk i in omega (arith, made.0, made.1)

-- and all that are left to make
pub spare_left : (s : PlainWide) (i n : ℕ) → n ≤ s.spare → n - i ≤ (after s i).spare
spare_left s i n enough = let made = tries_within s.problem s.walk i in omega (arith, made.0, made.1)

-- the room falls by the tries made
pub spare_falls : (s : PlainWide) (n : ℕ) → n ≤ s.spare → (after s n).spare +
    (after s n).walk.tries ≡ s.spare + s.walk.tries
spare_falls s n enough = let made = tries_within s.problem s.walk n in omega (arith, made.0, made.1)

pub made_all : (s : PlainWide) (n : ℕ) → (after s n).walk.done ≡ false → (after s n).walk.tries ≡ s.walk.tries + n
made_all s n open_ = all_made s.problem s.walk n open_

pub search_stays : (s : PlainWide) (n : ℕ) → IsWideSearch s → IsWideSearch (after s n)
search_stays s n is = record {
  problem = is.problem;
  count = is.count + n;
  is = ap (λ (w : Walk). after_tries s.problem w n) is.is ∙ walk_pieces s.problem is.count n;
}

-- ---- where a walk begins

pub start_short : (p : PlainProblem) → later_value p 0 < p.lo → start p ≡ short_start p
start_short p l = if_true (nat_lt (total_value p.items) p.lo) (short_start p) open_start (lt_true
    (total_value p.items) p.lo l)

pub start_open : (p : PlainProblem) → p.lo ≤ later_value p 0 → start p ≡ open_start
start_open p l = if_false (nat_lt (total_value p.items) p.lo) (short_start p) open_start (lt_false
    (total_value p.items) p.lo l)

-- ---- what holds of the walk holds of a search

module _ (s : PlainWide) (is : IsWideSearch s) where
  abbrev there : Walk
  there = walk s.problem is.count

  -- an open search has a next place
  pub search_next : s.walk.done ≡ false → s.walk.next < length s.problem.items
  search_next e =
      let open_there : there.done ≡ false = sym (ap (λ (w : Walk). w.done) is.is) ∙ e in
      let ready : Ready s.problem there.stack there.next = walk_ready s.problem is.problem is.count open_there in
      omega (arith, ready.next, ap (λ (w : Walk). w.next) is.is)

  pub search_fit : IsWideFit s.problem s.walk.best
  search_fit = subst (λ (w : Walk). IsWideFit s.problem w.best) (sym is.is) (walk_fit s.problem is.problem is.count)

  pub search_best : s.walk.done ≡ true → IsWideBest s.problem s.walk.best
  search_best e =
      let done : there.done ≡ true = sym (ap (λ (w : Walk). w.done) is.is) ∙ e in
      subst (λ (w : Walk). IsWideBest s.problem w.best) (sym is.is) (walk_best s.problem is.problem is.count done)

  pub search_accepted : s.walk.done ≡ true → IsWideAcceptedText s.problem s.walk.best (letters s)
  search_accepted e =
      let done : there.done ≡ true = sym (ap (λ (w : Walk). w.done) is.is) ∙ e in
      (s.walk.tokens, refl, subst (λ (w : Walk). IsWideAccepted s.problem w.best w.tokens) (sym is.is) (walk_accepted s.problem is.problem is.count done))

  pub search_few : length (letters s) ≤ 4 * s.walk.tries + 1
  search_few =
      let few : length s.walk.tokens ≤ 4 * s.walk.tries + 1 = subst (λ (w : Walk). length w.tokens ≤ 4 * w.tries + 1) (sym is.is) (walk_few_made s.problem is.count) in
      omega (arith, few, letters-length s.walk.tokens)

  pub search_tries : s.walk.tries < 2 ^ length s.problem.items
  search_tries = subst (λ (w : Walk). w.tries < 2 ^ length s.problem.items) (sym is.is) (few_tries_made s.problem is.count is.problem)
