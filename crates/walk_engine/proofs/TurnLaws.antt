-- One try, from its parts to the search.
use Rattle.std.specs.Prelude.{◌≡◌, ℕ, zero, suc, ◌+◌, ◌-◌, ◌≤◌, ◌==◌, Bool, true, false, List, [], ◌∷◌, ◌++◌, length}
use Rattle.std.specs.Prelude.{reverse, drop, take, Option}
use Rattle.std.proofs.Common.{arith, refl, sym, ap, subst, ◌∙◌, length-append}
use Rattle.std.proofs.lemmas.List.{drop-append-le, length-drop, length-reverse, take-append-le}
use Rattle.std.proofs.lemmas.List.Sums.{count_by-le-length}
use Rattle.pick_problem.specs.declared.token.Token.{Token}
use Rattle.pick_problem.specs.declared.token.Token.TheVariants.{Enter, Pass, Close}
use Rattle.pick_problem.specs.Letters.{letters_of, read}
use Rattle.pick_problem.specs.Problem.{PlainProblem}
use Rattle.pick_problem.specs.Walk.{Way, Walk, Rule, Ready, enters, entered, upward, writes, along, rule, way_of}
use Rattle.pick_problem.specs.Walk.{best_of, try_once, after_tries}
use Rattle.pick_problem.proofs.BoundLaws.{over_one, tame_way}
use Rattle.pick_problem.proofs.Deciding.{if_false}
use Rattle.pick_problem.proofs.LetterLaws.{letters-append, letters-length, read-append, read-length, read_letters}
use Rattle.pick_problem.proofs.WayLaws.{length_upward, reverse_upward, upward_reverse}
use Rattle.walk_engine.specs.declared.best.Best.{Best}
use Rattle.walk_engine.specs.declared.stack.Stack.{Stack}
use Rattle.walk_engine.specs.declared.stop.Stop.{Stop}
use Rattle.walk_engine.specs.Best.{IsBestSoFar, plain_best}
use Rattle.walk_engine.specs.Search.{PlainSearch, IsSearchState, IsSearch, after, if_done, plain, tries_in}
use Rattle.walk_engine.specs.Stack.{with_place}
use Rattle.walk_engine.specs.Transitions.{HasWalked}
use Rattle.walk_engine.proofs.SearchLaws.{search_stays}

-- tries are no more than tokens, and tokens are no more than letters
entered-le : (k : Token) → entered k ≤ 1
entered-le Enter = omega arith
entered-le Pass = omega arith
entered-le (Close r) = omega arith

pub enters-le : (ks : List Token) → enters ks ≤ length ks
enters-le [] = omega arith
enters-le (k ∷ ks) = omega (arith, entered-le k, enters-le ks)

-- tries fit where the letters do
pub tries_within_letters : (p : PlainProblem) (s : Stack) (next : ℕ) (best : Best) (made : ℕ) (done : Bool)
    (letters : List ℕ) (kept spare : ℕ) → IsSearch (plain p s next best made done letters kept spare) →
    kept ≤ length letters → tries_in (take kept letters) + made ≤ length letters
tries_within_letters p s next best made done letters kept spare search front =
    let ks : List Token = read (drop kept letters) in
    let counted : made ≡ enters ks = search.position.counted in
    omega (
      arith,
      counted,
      enters-le ks,
      read-length
          (drop kept letters),
      length-drop kept letters,
      length-take kept letters front,
      count_by-le-length (λ
          (b : ℕ). b == 73) (take kept letters),
      front,
    )
  where
    length-take : (k : ℕ) (xs : List ℕ) → k ≤ length xs → length (take k xs) ≡ k
    length-take zero xs l = refl
    length-take (suc k) [] l = absurd (omega arith)
    length-take (suc k) (x ∷ xs) l = omega (arith, length-take k xs (omega arith))

same_one : (b : Bool) → if_done b ≡ over_one b
same_one true = refl
same_one false = refl

abbrev pub walk_of : List ℕ → ℕ → Option (List ℕ) → ℕ → Bool → List Token → Walk
walk_of stack next best tries done tokens = record {
  stack = stack;
  next = next;
  best = best;
  tries = tries;
  done =
      done;
  tokens = tokens;
}

pub same_walk : (stack stack' : List ℕ) (next next' : ℕ) (best best' : Option (List ℕ)) (tries : ℕ) (done done' : Bool)
    (tokens tokens' : List Token) → stack ≡ stack' → next ≡ next' → best ≡ best' → done ≡ done' → tokens ≡ tokens' →
    walk_of stack next best tries done tokens ≡ walk_of stack' next' best' tries done' tokens'
same_walk stack stack' next next' best best' tries done done' tokens tokens' a b c d e = cc

abbrev pub search_of : PlainProblem → List ℕ → Walk → ℕ → PlainSearch
search_of p before walk spare = record { problem = p; before = before; walk = walk; spare = spare }

pub same_search : (p : PlainProblem) (before before' : List ℕ) (walk walk' : Walk) (spare spare' : ℕ) →
    before ≡ before' → walk ≡ walk' → spare ≡ spare' → search_of p before walk spare ≡ search_of p before' walk' spare'
same_search p before before' walk walk' spare spare' a b c = cc

module _ (p : PlainProblem) (s : Stack) (next : ℕ) (best : Best) (made : ℕ) (done : Bool) (letters : List ℕ)
    (capacity kept earlier spare : ℕ) (search : IsSearch (plain p s next best made done letters kept spare))
    (is : IsSearchState p s next best done letters capacity kept earlier spare) (undone : done ≡ false)
    (some : 1 ≤ spare) where
  abbrev old : Walk
  old = (plain p s next best made done letters kept spare).walk

  abbrev pub the_rule : Rule
  the_rule = rule p (plain_best best) (with_place s next) next

  abbrev pub the_way : Way
  the_way = writes Enter (way_of p (reverse s.places.items) next the_rule)

  abbrev the_best : Option (List ℕ)
  the_best = best_of p (plain_best best) (with_place s next) the_rule

  pub turn_ready : Ready p (reverse s.places.items) next
  turn_ready = search.position.ready undone

  try_is : along old the_way the_best ≡ try_once p old
  try_is =
      let e : with_place s next ≡ upward (next ∷ reverse s.places.items) = ap (λ (q : List ℕ). q ++ next ∷ []) (sym
      (upward_reverse s.places.items)) in
      ap (λ (q : List ℕ). along old (writes Enter (way_of p (reverse s.places.items) next (rule p
      (plain_best best) q next))) (best_of p (plain_best best) q (rule p (plain_best best) q next))) e

  module _ (s' : Stack) (best' : Best) (stop : Stop) (letters' : List ℕ) (capacity' : ℕ)
      (walked : HasWalked p the_way letters letters' s' stop) (best_is : plain_best best' ≡ the_best)
      (sums : IsBestSoFar p best') (grows : capacity ≤ capacity') where
    before_is : take kept letters' ≡ take kept letters
    before_is = ap (take kept) walked.letters ∙ take-append-le kept letters (letters_of the_way.tokens) is.front

    behind_is : drop kept letters' ≡ drop kept letters ++ letters_of the_way.tokens
    behind_is = ap (drop kept) walked.letters ∙ drop-append-le kept letters (letters_of the_way.tokens) is.front

    tokens_are : read (drop kept letters') ≡ read (drop kept letters) ++ the_way.tokens
    tokens_are =
        ap read behind_is ∙ (read-append (drop kept letters) (letters_of the_way.tokens)
        ∙ ap (λ (ks : List Token). read (drop kept letters) ++ ks) (read_letters the_way.tokens))

    walk_is : (plain p s' stop.next best' (made + 1) stop.done letters' kept
        (spare - 1)).walk ≡ along old the_way the_best
    walk_is =
        same_walk (reverse s'.places.items) the_way.stack stop.next the_way.next (plain_best best') the_best
        (made + 1) stop.done the_way.done (read (drop kept letters')) (read (drop kept letters) ++ the_way.tokens)
        (ap reverse walked.chosen ∙ reverse_upward the_way.stack) walked.next best_is walked.done tokens_are

    walk_after : (plain p s' stop.next best' (made + 1) stop.done letters' kept (spare - 1)).walk ≡ after_tries p old 1
    walk_after = let one : after_tries p old 1 ≡ try_once p old = if_false old.done old
        (try_once p old) undone in walk_is ∙ (try_is ∙ sym one)

    room_after : spare - 1 ≡ spare - ((after_tries p old 1).tries - made)
    room_after = let tries : made + 1 ≡ (after_tries p old 1).tries = ap (λ (w : Walk). w.tries) walk_after in omega
        (arith, tries)

    pub turned : plain p s' stop.next best' (made + 1) stop.done letters' kept (spare - 1) ≡ after
        (plain p s next best made done letters kept spare) 1
    turned = same_search p (take kept letters') (take kept letters) (plain p s' stop.next best'
        (made + 1) stop.done letters' kept (spare - 1)).walk (after_tries p old 1) (spare - 1) (spare -
        ((after_tries p old 1).tries - made)) before_is walk_after room_after

    pub turned_search : IsSearch (plain p s' stop.next best' (made + 1) stop.done letters' kept (spare - 1))
    turned_search = subst (λ (x : PlainSearch). IsSearch x) (sym turned) (search_stays
        (plain p s next best made done letters kept spare) 1 search)

    pub turned_kept : IsSearchState p s' stop.next best' stop.done letters' capacity' kept earlier (spare - 1)
    turned_kept =
        let ks : List Token = the_way.tokens in
        let tame = tame_way p (reverse s.places.items) next the_rule in
        let long : length letters' ≡ length letters + length ks = omega
        (arith, ap length walked.letters, length-append letters (letters_of ks), letters-length ks) in
        let chosen : length s'.places.items ≡ length the_way.stack = ap length walked.chosen
        ∙ length_upward the_way.stack in
        let ends : if_done stop.done ≡ over_one the_way.done = ap if_done walked.done ∙ same_one the_way.done in
        let undone_is : if_done done ≡ 0 = ap if_done undone in
        record {
          stack = walked.stack;
          sums = sums;
          room = omega (
            arith,
            is.room,
            some,
            long,
            chosen,
            ends,
            undone_is,
            tame.few,
            length-reverse s.places.items,
            grows,
          );
          front = omega (arith, is.front, long);
          written =
              ap letters_of tokens_are
              ∙ (letters-append (read (drop kept letters)) ks
              ∙ (ap (λ (xs : List ℕ). xs ++ letters_of ks) is.written ∙ sym behind_is));
          counted = is.counted ∙ ap tries_in (sym before_is);
        }
