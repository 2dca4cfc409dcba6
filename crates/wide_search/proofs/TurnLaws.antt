-- One try, from its parts to the search.
use Rattle.std.specs.Prelude.{◌≡◌, ℕ, ◌+◌, ◌-◌, ◌≤◌, Bool, true, false, List, [], ◌∷◌, ◌++◌, length, reverse, Option}
use Rattle.std.proofs.Common.{arith, refl, sym, ap, subst, ◌∙◌, length-append}
use Rattle.std.proofs.lemmas.List.{length-reverse}
use Rattle.pick_problem.specs.Problem.{PlainProblem}
use Rattle.pick_problem.specs.Walk.{upward}
use Rattle.pick_problem.proofs.BoundLaws.{over_one}
use Rattle.pick_problem.proofs.Deciding.{if_false}
use Rattle.pick_problem.proofs.WayLaws.{length_upward, reverse_upward, upward_reverse}
use Rattle.wide_check.specs.declared.token.WideToken.{WideToken}
use Rattle.wide_check.specs.declared.token.WideToken.TheVariants.{Enter}
use Rattle.wide_check.specs.WideLetters.{letters_of, read}
use Rattle.wide_check.proofs.WideLetterLaws.{letters-append, letters-length, read-append, read_letters}
use Rattle.wide_search.specs.declared.best.Best.{Best}
use Rattle.wide_search.specs.declared.stack.Stack.{Stack}
use Rattle.wide_search.specs.declared.stop.Stop.{Stop}
use Rattle.wide_search.specs.Best.{IsBestSoFar, plain_best}
use Rattle.wide_search.specs.Search.{PlainWide, IsKept, IsWideSearch, after, if_done, plain}
use Rattle.wide_search.specs.Stack.{with_place}
use Rattle.wide_search.specs.Transitions.{HasWalked}
use Rattle.wide_search.specs.WideWalk.{Way, Walk, Rule, along, after_tries, best_of, rule, try_once, way_of, writes}
use Rattle.wide_search.proofs.BoundLaws.{tame_way}
use Rattle.wide_search.proofs.SearchLaws.{search_stays}

same_one : (b : Bool) → if_done b ≡ over_one b
same_one true = refl
same_one false = refl

abbrev pub walk_of : List ℕ → ℕ → Option (List ℕ) → ℕ → Bool → List WideToken → Walk
walk_of stack next best tries done tokens = record { stack = stack; next = next; best = best; tries = tries; done = done; tokens = tokens }

pub same_walk : (stack stack' : List ℕ) (next next' : ℕ) (best best' : Option (List ℕ)) (tries : ℕ) (done done' : Bool)
    (tokens tokens' : List WideToken) → stack ≡ stack' → next ≡ next' → best ≡ best' → done ≡ done' → tokens ≡ tokens' →
    walk_of stack next best tries done tokens ≡ walk_of stack' next' best' tries done' tokens'
same_walk stack stack' next next' best best' tries done done' tokens tokens' a b c d e = cc

abbrev pub wide_of : PlainProblem → Walk → ℕ → PlainWide
wide_of p walk spare = record { problem = p; walk = walk; spare = spare }

pub same_wide : (p : PlainProblem) (walk walk' : Walk) (spare spare' : ℕ) → walk ≡ walk' → spare ≡ spare' →
    wide_of p walk spare ≡ wide_of p walk' spare'
same_wide p walk walk' spare spare' a b = cc

-- letters after which those of tokens were written
pub read_more : (letters letters' : List ℕ) (ks : List WideToken) → letters' ≡ letters ++ letters_of ks →
    read letters' ≡ read letters ++ ks
read_more letters letters' ks e =
    ap read e ∙ (read-append letters (letters_of ks) ∙ ap (λ (ls : List WideToken). read letters ++ ls) (read_letters ks))

-- they are letters of tokens too
pub written_more : (letters letters' : List ℕ) (ks : List WideToken) → letters' ≡ letters ++ letters_of ks →
    letters_of (read letters) ≡ letters → letters_of (read letters') ≡ letters'
written_more letters letters' ks e written =
    ap letters_of (read_more letters letters' ks e)
    ∙ (letters-append (read letters) ks ∙ (ap (λ (xs : List ℕ). xs ++ letters_of ks) written ∙ sym e))

pub length_more : (letters letters' : List ℕ) (ks : List WideToken) → letters' ≡ letters ++ letters_of ks →
    length letters' ≡ length letters + length ks
length_more letters letters' ks e = omega (arith, ap length e, length-append letters (letters_of ks), letters-length ks)

module _ (p : PlainProblem) (s : Stack) (next : ℕ) (best : Best) (made : ℕ) (done : Bool) (letters : List ℕ)
    (capacity spare : ℕ) (search : IsWideSearch (plain p s next best made done letters spare))
    (is : IsKept p s next best made done letters capacity spare) (undone : done ≡ false) (some : 1 ≤ spare) where
  abbrev old : Walk
  old = (plain p s next best made done letters spare).walk

  abbrev pub the_rule : Rule
  the_rule = rule p (plain_best best) (with_place s next) next

  abbrev pub the_way : Way
  the_way = writes Enter (way_of p (reverse s.places.items) next the_rule)

  abbrev the_best : Option (List ℕ)
  the_best = best_of p (plain_best best) (with_place s next) the_rule

  try_is : along old the_way the_best ≡ try_once p old
  try_is =
      let e : with_place s next ≡ upward (next ∷ reverse s.places.items) = ap (λ (q : List ℕ). q ++ next ∷ []) (sym
      (upward_reverse s.places.items)) in
      ap (λ (q : List ℕ). along old (writes Enter (way_of p (reverse s.places.items) next (rule p
      (plain_best best) q next))) (best_of p (plain_best best) q (rule p (plain_best best) q next))) e

  module _ (s' : Stack) (best' : Best) (stop : Stop) (letters' : List ℕ) (capacity' : ℕ)
      (walked : HasWalked p the_way letters letters' s' stop) (best_is : plain_best best' ≡ the_best)
      (sums : IsBestSoFar p best') (grows : capacity ≤ capacity') where
    walk_is : (plain p s' stop.next best' (made + 1) stop.done letters' (spare - 1)).walk ≡ along old the_way the_best
    walk_is =
        same_walk (reverse s'.places.items) the_way.stack stop.next the_way.next (plain_best best') the_best
        (made + 1) stop.done the_way.done (read letters') (read letters ++ the_way.tokens)
        (ap reverse walked.chosen ∙ reverse_upward the_way.stack) walked.next best_is walked.done
        (read_more letters letters' the_way.tokens walked.letters)

    walk_after : (plain p s' stop.next best' (made + 1) stop.done letters' (spare - 1)).walk ≡ after_tries p old 1
    walk_after = let one : after_tries p old 1 ≡ try_once p old = if_false old.done old
        (try_once p old) undone in walk_is ∙ (try_is ∙ sym one)

    room_after : spare - 1 ≡ spare - ((after_tries p old 1).tries - made)
    room_after = let tries : made + 1 ≡ (after_tries p old 1).tries = ap (λ (w : Walk). w.tries) walk_after in omega
        (arith, tries)

    pub turned : plain p s' stop.next best' (made + 1) stop.done letters' (spare - 1) ≡ after
        (plain p s next best made done letters spare) 1
    turned = same_wide p (plain p s' stop.next best' (made + 1) stop.done letters' (spare - 1)).walk
        (after_tries p old 1) (spare - 1) (spare - ((after_tries p old 1).tries - made)) walk_after room_after

    pub turned_search : IsWideSearch (plain p s' stop.next best' (made + 1) stop.done letters' (spare - 1))
    turned_search = subst (λ (x : PlainWide). IsWideSearch x) (sym turned) (search_stays
        (plain p s next best made done letters spare) 1 search)

    pub turned_kept : IsKept p s' stop.next best' (made + 1) stop.done letters' capacity' (spare - 1)
    turned_kept =
        let ks : List WideToken = the_way.tokens in
        let tame = tame_way p (reverse s.places.items) next the_rule in
        let long : length letters' ≡ length letters + length ks = length_more letters letters' ks walked.letters in
        let chosen : length s'.places.items ≡ length the_way.stack = ap length walked.chosen
        ∙ length_upward the_way.stack in
        let ends : if_done stop.done ≡ over_one the_way.done = ap if_done walked.done ∙ same_one the_way.done in
        let undone_is : if_done done ≡ 0 = ap if_done undone in
        record {
          stack = walked.stack;
          best_is = sums;
          room = omega (
            arith,
            is.room,
            some,
            long,
            chosen,
            ends,
            undone_is,
            tame.few,
            length-reverse s.places.items,
            grows,
          );
          written = written_more letters letters' ks walked.letters is.written;
          counted = omega (arith, is.counted, long);
        }
