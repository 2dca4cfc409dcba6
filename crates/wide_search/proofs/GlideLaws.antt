-- Runs of tries that drop their place, and change nothing else: one more of them, and from the run to the search.
use Rattle.std.specs.Prelude.{◌≡◌, ℕ, ◌+◌, ◌-◌, ◌<◌, ◌≤◌, Bool, true, false, List, [], ◌∷◌, ◌++◌, length}
use Rattle.std.specs.Prelude.{reverse, if◌then◌else◌, nat_lt, Option}
use Rattle.std.proofs.Common.{arith, refl, sym, ap, subst, ◌∙◌, append_assoc, length-append}
use Rattle.std.proofs.lemmas.List.{append-nil}
use Rattle.pick_problem.specs.Later.{behind_twins}
use Rattle.pick_problem.specs.Problem.{PlainProblem}
use Rattle.pick_problem.proofs.Deciding.{if_false}
use Rattle.pick_problem.proofs.WayLaws.{upward_reverse}
use Rattle.wide_check.specs.declared.token.WideReason.{WideReason}
use Rattle.wide_check.specs.declared.token.WideToken.{WideToken}
use Rattle.wide_check.specs.declared.token.WideToken.TheVariants.{Enter, Pass, Close}
use Rattle.wide_check.specs.WideLetters.{letters_of, read}
use Rattle.wide_check.proofs.WideLetterLaws.{letters-length}
use Rattle.wide_search.specs.declared.best.Best.{Best}
use Rattle.wide_search.specs.declared.stack.Stack.{Stack}
use Rattle.wide_search.specs.Best.{plain_best}
use Rattle.wide_search.specs.Search.{PlainWide, IsKept, IsWideSearch, after, plain}
use Rattle.wide_search.specs.Skipping.{OnlyDrops, dropping}
use Rattle.wide_search.specs.SkipRuns.{HasGlided, open_walk}
use Rattle.wide_search.specs.Stack.{IsStack}
use Rattle.wide_search.specs.WideWalk.{Way, Walk, after_tries, along, at, best_of, rule, try_once, way_of, writes}
use Rattle.wide_search.proofs.SearchLaws.{search_stays}
use Rattle.wide_search.proofs.TryStepLaws.{after_pieces}
use Rattle.wide_search.proofs.TurnLaws.{length_more, read_more, same_walk, same_wide, walk_of, written_more}
use Rattle.wide_search.proofs.WayLaws.{fronted, lt_true, pass_tokens, passed_letters, shift_ends}

by_bool : (b : Bool) (k : WideToken) → length (if b then k ∷ [] else []) ≤ 1
by_bool true k = omega arith
by_bool false k = omega arith

-- three tokens at most
pub dropping_few : (p : PlainProblem) (t : ℕ) (reason : WideReason) → length (dropping p t reason) ≤ 3
dropping_few p t reason = omega (arith, by_bool (nat_lt (t + 1) (behind_twins p (t + 1))) Pass)

pub drops_length : (p : PlainProblem) (t : ℕ) (reason : WideReason) (old new : List ℕ) →
    new ≡ old ++ letters_of (dropping p t reason) → length new ≤ length old + 3
drops_length p t reason old new e =
    let ks : List WideToken = dropping p t reason in
    omega (arith, ap length e, length-append old (letters_of ks), letters-length ks, dropping_few p t reason)

-- one try that drops its place
one_drop : (p : PlainProblem) (b : Option (List ℕ)) (q : List ℕ) (u : ℕ) (reason : WideReason) (tries : ℕ)
    (ks : List WideToken) → OnlyDrops p b q u reason →
    after_tries p (open_walk q u b tries ks) 1 ≡ open_walk q (behind_twins p (u + 1)) b (tries + 1)
    (ks ++ dropping p u reason)
one_drop p b q u reason tries ks drops =
    let w : Walk = open_walk q u b tries ks in
    let one : after_tries p w 1 ≡ try_once p w = if_false w.done w (try_once p w) refl in
    let chosen : try_once p w ≡ along w (writes Enter (way_of p (reverse q) u (rule p b (q ++ u ∷ []) u)))
    (best_of p b (q ++ u ∷ []) (rule p b (q ++ u ∷ []) u)) = ap (λ (c : List ℕ). along w (writes Enter (way_of p
    (reverse q) u (rule p b (c ++ u ∷ []) u))) (best_of p b (c ++ u ∷ []) (rule p b (c ++ u ∷ []) u)))
    (upward_reverse q) in
    let left : nat_lt (behind_twins p (u + 1)) (length p.items) ≡ true = lt_true (behind_twins p (u + 1))
    (length p.items) drops.more in
    let there : Way = fronted (pass_tokens p u) (at (reverse q) (behind_twins p (u + 1))) in
    let way : way_of p (reverse q) u (rule p b (q ++ u ∷ []) u) ≡ writes (Close reason) there = drops.way
    ∙ ap (writes (Close reason)) (shift_ends p (reverse q) u left) in
    one
    ∙ (chosen
    ∙ (ap (λ (x : Way). along w (writes Enter x) (best_of p b (q ++ u ∷ []) (rule p b (q ++ u ∷ []) u))) way
    ∙ (ap (along w (writes Enter (writes (Close reason) there))) drops.best
    ∙ ap (λ (ls : List WideToken). open_walk q (behind_twins p (u + 1)) b (tries + 1) (ks ++ Enter ∷ Close reason ∷ ls))
    (append-nil (pass_tokens p u)))))

pub glide_none : (p : PlainProblem) (b : Option (List ℕ)) (q : List ℕ) (t : ℕ) (old : List ℕ) →
    t < length p.items → HasGlided p b q t t 0 old old
glide_none p b q t old below =
    record {
      tokens = [];
      letters = sym (append-nil old);
      few = omega arith;
      some = omega arith;
      walk = λ tries ks. let e : tries ≡ tries + 0 = omega arith in ap (λ (n : ℕ). open_walk q t b n ks) e
          ∙ ap (open_walk q t b (tries + 0)) (sym (append-nil ks));
      more = below;
    }

pub glide_more : (p : PlainProblem) (b : Option (List ℕ)) (q : List ℕ) (t u v n : ℕ) (reason : WideReason)
    (old mid new : List ℕ) → HasGlided p b q t u n old mid → OnlyDrops p b q u reason →
    new ≡ mid ++ letters_of (dropping p u reason) → v ≡ behind_twins p (u + 1) → HasGlided p b q t v (n + 1) old new
glide_more p b q t u v n reason old mid new h drops e next =
    let ls : List WideToken = dropping p u reason in
    record {
      tokens = h.tokens ++ ls;
      letters = passed_letters old mid new h.tokens ls h.letters e;
      few = omega (arith, h.few, length-append h.tokens ls, dropping_few p u reason);
      some = omega (arith, h.some, length-append h.tokens ls);
      walk = λ tries ks.
          let more : (tries + n) + 1 ≡ tries + (n + 1) = omega arith in
          sym (after_pieces p (open_walk q t b tries ks) n 1)
          ∙ (ap (λ (w : Walk). after_tries p w 1) (h.walk tries ks)
          ∙ (one_drop p b q u reason (tries + n) (ks ++ h.tokens) drops
          ∙ (ap (λ (m : ℕ). open_walk q m b ((tries + n) + 1) ((ks ++ h.tokens) ++ ls)) (sym next)
          ∙ (ap (λ (m : ℕ). open_walk q v b m ((ks ++ h.tokens) ++ ls)) more
          ∙ ap (open_walk q v b (tries + (n + 1))) (append_assoc ks h.tokens ls)))));
      more = omega (arith, drops.more, next);
    }

module _ (p : PlainProblem) (s : Stack) (next : ℕ) (best : Best) (made : ℕ) (done : Bool) (letters : List ℕ)
    (capacity spare : ℕ) (search : IsWideSearch (plain p s next best made done letters spare))
    (is : IsKept p s next best made done letters capacity spare) (undone : done ≡ false) (next' n : ℕ)
    (letters' : List ℕ) (capacity' : ℕ) (h : HasGlided p (plain_best best) s.places.items next next' n letters letters')
    (stack : IsStack p next' s) (grows : capacity ≤ capacity') (few : n ≤ spare) where
  abbrev old : Walk
  old = (plain p s next best made done letters spare).walk

  walk_is : (plain p s next' best (made + n) done letters' (spare - n)).walk ≡ after_tries p old n
  walk_is =
      let ks : List WideToken = read letters in
      let there : (plain p s next' best (made + n) done letters' (spare - n)).walk ≡ open_walk s.places.items next'
      (plain_best best) (made + n) (ks ++ h.tokens) =
      same_walk (reverse s.places.items) (reverse s.places.items) next' next' (plain_best best) (plain_best best)
      (made + n) done false (read letters') (ks ++ h.tokens) refl refl refl undone
      (read_more letters letters' h.tokens h.letters) in
      let here : open_walk s.places.items next (plain_best best) made ks ≡ old = ap (λ (d : Bool). walk_of
      (reverse s.places.items) next (plain_best best) made d ks) (sym undone) in
      there ∙ (sym (h.walk made ks) ∙ ap (λ (w : Walk). after_tries p w n) here)

  room_after : spare - n ≡ spare - ((after_tries p old n).tries - made)
  room_after = let tries : made + n ≡ (after_tries p old n).tries = ap (λ (w : Walk). w.tries) walk_is in omega
      (arith, tries)

  pub glided : plain p s next' best (made + n) done letters' (spare - n) ≡ after
      (plain p s next best made done letters spare) n
  glided = same_wide p (plain p s next' best (made + n) done letters' (spare - n)).walk (after_tries p old n)
      (spare - n) (spare - ((after_tries p old n).tries - made)) walk_is room_after

  pub glided_search : IsWideSearch (plain p s next' best (made + n) done letters' (spare - n))
  glided_search = subst (λ (x : PlainWide). IsWideSearch x) (sym glided) (search_stays
      (plain p s next best made done letters spare) n search)

  pub glided_kept : IsKept p s next' best (made + n) done letters' capacity' (spare - n)
  glided_kept =
      let long : length letters' ≡ length letters + length h.tokens = length_more letters letters' h.tokens h.letters in
      record {
        stack = stack;
        best_is = is.best_is;
        room = omega (arith, is.room, few, long, h.few, grows);
        written = written_more letters letters' h.tokens h.letters is.written;
        counted = omega (arith, is.counted, long, h.some);
      }
