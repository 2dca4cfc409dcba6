-- Runs of tries that drop their place, and change nothing else: one more of them, and from the run to the search.
use Rattle.std.specs.Prelude.{◌≡◌, ℕ, ◌+◌, ◌-◌, ◌<◌, ◌≤◌, Bool, true, false, List, [], ◌∷◌, ◌++◌, length}
use Rattle.std.specs.Prelude.{reverse, drop, take, if◌then◌else◌, nat_lt, Option}
use Rattle.std.proofs.Common.{arith, refl, sym, ap, subst, ◌∙◌, append_assoc, length-append}
use Rattle.std.proofs.lemmas.List.{append-nil, drop-append-le, take-append-le}
use Rattle.pick_problem.specs.declared.token.Reason.{Reason}
use Rattle.pick_problem.specs.declared.token.Token.{Token}
use Rattle.pick_problem.specs.declared.token.Token.TheVariants.{Enter, Pass, Close}
use Rattle.pick_problem.specs.Later.{behind_twins}
use Rattle.pick_problem.specs.Letters.{letters_of, read}
use Rattle.pick_problem.specs.Problem.{PlainProblem}
use Rattle.pick_problem.specs.Walk.{Way, Walk, after_tries, along, at, best_of, rule, try_once, way_of, writes}
use Rattle.pick_problem.proofs.Deciding.{if_false}
use Rattle.pick_problem.proofs.LetterLaws.{letters-append, letters-length, read-append, read_letters}
use Rattle.pick_problem.proofs.TryStepLaws.{after_pieces}
use Rattle.pick_problem.proofs.WayLaws.{fronted, pass_tokens, shift_ends, upward_reverse}
use Rattle.walk_engine.specs.declared.best.Best.{Best}
use Rattle.walk_engine.specs.declared.stack.Stack.{Stack}
use Rattle.walk_engine.specs.Best.{plain_best}
use Rattle.walk_engine.specs.Skipping.{OnlyDrops, dropping}
use Rattle.walk_engine.specs.SkipRuns.{HasGlided, open_walk}
use Rattle.walk_engine.specs.Search.{PlainSearch, IsSearchState, IsSearch, after, plain, tries_in}
use Rattle.walk_engine.specs.Stack.{IsStack}
use Rattle.walk_engine.proofs.SearchLaws.{search_stays}
use Rattle.walk_engine.proofs.TurnLaws.{same_search, same_walk, walk_of}
use Rattle.walk_engine.proofs.WayLaws.{lt_true, passed_letters}

by_bool : (b : Bool) (k : Token) → length (if b then k ∷ [] else []) ≤ 1
by_bool true k = omega arith
by_bool false k = omega arith

-- three tokens at most
pub dropping_few : (p : PlainProblem) (t : ℕ) (reason : Reason) → length (dropping p t reason) ≤ 3
dropping_few p t reason = omega (arith, by_bool (nat_lt (t + 1) (behind_twins p (t + 1))) Pass)

pub drops_length : (p : PlainProblem) (t : ℕ) (reason : Reason) (old new : List ℕ) →
    new ≡ old ++ letters_of (dropping p t reason) → length new ≤ length old + 3
drops_length p t reason old new e =
    let ks : List Token = dropping p t reason in
    omega (arith, ap length e, length-append old (letters_of ks), letters-length ks, dropping_few p t reason)

-- one try that drops its place
one_drop : (p : PlainProblem) (b : Option (List ℕ)) (q : List ℕ) (u : ℕ) (reason : Reason) (tries : ℕ)
    (ks : List Token) → OnlyDrops p b q u reason →
    after_tries p (open_walk q u b tries ks) 1 ≡ open_walk q (behind_twins p (u + 1)) b (tries + 1)
    (ks ++ dropping p u reason)
one_drop p b q u reason tries ks drops =
    let w : Walk = open_walk q u b tries ks in
    let one : after_tries p w 1 ≡ try_once p w = if_false w.done w (try_once p w) refl in
    let chosen : try_once p w ≡ along w (writes Enter (way_of p (reverse q) u (rule p b (q ++ u ∷ []) u)))
    (best_of p b (q ++ u ∷ []) (rule p b (q ++ u ∷ []) u)) = ap (λ (c : List ℕ). along w (writes Enter (way_of p
    (reverse q) u (rule p b (c ++ u ∷ []) u))) (best_of p b (c ++ u ∷ []) (rule p b (c ++ u ∷ []) u)))
    (upward_reverse q) in
    let left : nat_lt (behind_twins p (u + 1)) (length p.items) ≡ true = lt_true (behind_twins p (u + 1))
    (length p.items) drops.more in
    let there : Way = fronted (pass_tokens p u) (at (reverse q) (behind_twins p (u + 1))) in
    let way : way_of p (reverse q) u (rule p b (q ++ u ∷ []) u) ≡ writes (Close reason) there = drops.way
    ∙ ap (writes (Close reason)) (shift_ends p (reverse q) u left) in
    one
    ∙ (chosen
    ∙ (ap (λ (x : Way). along w (writes Enter x) (best_of p b (q ++ u ∷ []) (rule p b (q ++ u ∷ []) u))) way
    ∙ (ap (along w (writes Enter (writes (Close reason) there))) drops.best
    ∙ ap (λ (ls : List Token). open_walk q (behind_twins p (u + 1)) b (tries + 1) (ks ++ Enter ∷ Close reason ∷ ls))
    (append-nil (pass_tokens p u)))))

pub glide_none : (p : PlainProblem) (b : Option (List ℕ)) (q : List ℕ) (t : ℕ) (old : List ℕ) →
    t < length p.items → HasGlided p b q t t 0 old old
glide_none p b q t old below =
    record {
      tokens = [];
      letters = sym (append-nil old);
      few = omega arith;
      walk = λ tries ks. let e : tries ≡ tries + 0 = omega arith in ap (λ (n : ℕ). open_walk q t b n ks) e
          ∙ ap (open_walk q t b (tries + 0)) (sym (append-nil ks));
      more = below;
    }

pub glide_more : (p : PlainProblem) (b : Option (List ℕ)) (q : List ℕ) (t u v n : ℕ) (reason : Reason)
    (old mid new : List ℕ) → HasGlided p b q t u n old mid → OnlyDrops p b q u reason →
    new ≡ mid ++ letters_of (dropping p u reason) → v ≡ behind_twins p (u + 1) → HasGlided p b q t v (n + 1) old new
glide_more p b q t u v n reason old mid new h drops e next =
    let ls : List Token = dropping p u reason in
    record {
      tokens = h.tokens ++ ls;
      letters = passed_letters old mid new h.tokens ls h.letters e;
      few = omega (arith, h.few, length-append h.tokens ls, dropping_few p u reason);
      walk = λ tries ks.
          let more : (tries + n) + 1 ≡ tries + (n + 1) = omega arith in
          sym (after_pieces p (open_walk q t b tries ks) n 1)
          ∙ (ap (λ (w : Walk). after_tries p w 1) (h.walk tries ks)
          ∙ (one_drop p b q u reason (tries + n) (ks ++ h.tokens) drops
          ∙ (ap (λ (m : ℕ). open_walk q m b ((tries + n) + 1) ((ks ++ h.tokens) ++ ls)) (sym next)
          ∙ (ap (λ (m : ℕ). open_walk q v b m ((ks ++ h.tokens) ++ ls)) more
          ∙ ap (open_walk q v b (tries + (n + 1))) (append_assoc ks h.tokens ls)))));
      more = omega (arith, drops.more, next);
    }

module _ (p : PlainProblem) (s : Stack) (next : ℕ) (best : Best) (made : ℕ) (done : Bool) (letters : List ℕ)
    (capacity kept earlier spare : ℕ) (search : IsSearch (plain p s next best made done letters kept spare))
    (is : IsSearchState p s next best done letters capacity kept earlier spare) (undone : done ≡ false) (next' n : ℕ)
    (letters' : List ℕ) (capacity' : ℕ) (h : HasGlided p (plain_best best) s.places.items next next' n letters letters')
    (stack : IsStack p next' s) (grows : capacity ≤ capacity') (few : n ≤ spare) where
  abbrev old : Walk
  old = (plain p s next best made done letters kept spare).walk

  before_is : take kept letters' ≡ take kept letters
  before_is = ap (take kept) h.letters ∙ take-append-le kept letters (letters_of h.tokens) is.front

  behind_is : drop kept letters' ≡ drop kept letters ++ letters_of h.tokens
  behind_is = ap (drop kept) h.letters ∙ drop-append-le kept letters (letters_of h.tokens) is.front

  tokens_are : read (drop kept letters') ≡ read (drop kept letters) ++ h.tokens
  tokens_are =
      ap read behind_is ∙ (read-append (drop kept letters) (letters_of h.tokens)
      ∙ ap (λ (ks : List Token). read (drop kept letters) ++ ks) (read_letters h.tokens))

  walk_is : (plain p s next' best (made + n) done letters' kept (spare - n)).walk ≡ after_tries p old n
  walk_is =
      let ks : List Token = read (drop kept letters) in
      let there : (plain p s next' best (made + n) done letters' kept (spare - n)).walk ≡ open_walk s.places.items next'
      (plain_best best) (made + n) (ks ++ h.tokens) =
      same_walk (reverse s.places.items) (reverse s.places.items) next' next' (plain_best best) (plain_best best)
      (made + n) done false (read (drop kept letters')) (ks ++ h.tokens) refl refl refl undone tokens_are in
      let here : open_walk s.places.items next (plain_best best) made ks ≡ old = ap (λ (d : Bool). walk_of
      (reverse s.places.items) next (plain_best best) made d ks) (sym undone) in
      there ∙ (sym (h.walk made ks) ∙ ap (λ (w : Walk). after_tries p w n) here)

  room_after : spare - n ≡ spare - ((after_tries p old n).tries - made)
  room_after = let tries : made + n ≡ (after_tries p old n).tries = ap (λ (w : Walk). w.tries) walk_is in omega
      (arith, tries)

  pub glided : plain p s next' best (made + n) done letters' kept (spare - n) ≡ after
      (plain p s next best made done letters kept spare) n
  glided = same_search p (take kept letters') (take kept letters) (plain p s next' best
      (made + n) done letters' kept (spare - n)).walk (after_tries p old n) (spare - n) (spare -
      ((after_tries p old n).tries - made)) before_is walk_is room_after

  pub glided_search : IsSearch (plain p s next' best (made + n) done letters' kept (spare - n))
  glided_search = subst (λ (x : PlainSearch). IsSearch x) (sym glided) (search_stays
      (plain p s next best made done letters kept spare) n search)

  pub glided_kept : IsSearchState p s next' best done letters' capacity' kept earlier (spare - n)
  glided_kept =
      let long : length letters' ≡ length letters + length h.tokens = omega
      (arith, ap length h.letters, length-append letters (letters_of h.tokens), letters-length h.tokens) in
      record {
        stack = stack;
        sums = is.sums;
        room = omega (arith, is.room, few, long, h.few, grows);
        front = omega (arith, is.front, long);
        written =
            ap letters_of tokens_are
            ∙ (letters-append (read (drop kept letters)) h.tokens
            ∙ (ap (λ (xs : List ℕ). xs ++ letters_of h.tokens) is.written ∙ sym behind_is));
        counted = is.counted ∙ ap tries_in (sym before_is);
      }
