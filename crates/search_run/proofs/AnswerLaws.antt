-- One answer: choosing step by step, which is told by the results alone, is the answer.
use Rattle.std.specs.Prelude.{ℕ, ◌≡◌, ◌⊎◌, ◌&&◌, Bool, true, false, List, [], ◌∷◌, ◌++◌, Option, Some, None}
use Rattle.std.specs.List.{AllByRecursion}
use Rattle.std.proofs.Common.{refl, sym, ap, subst, inl, inr, ◌∙◌, append_assoc}
use Rattle.std.proofs.lemmas.Bool.{and_from, and_left, and_parts, and_right, both_ways}
use Rattle.std.proofs.lemmas.List.{append-nil}
use Rattle.pick_problem.proofs.BestLaws.{one_best_is}
use Rattle.pick_problem.proofs.Deciding.{by_test}
use Rattle.search_run.specs.Answer.{AreResults, AreWhole, HasNone, IsAnswer, IsColumn, IsFirstTaken, IsResult, IsResultBy}
use Rattle.search_run.specs.Found.{PlainFound, found_of, taken}
use Rattle.search_run.specs.Run.{ends, is_some_found}
use Rattle.search_run.specs.Step.{PlainStep, is_drawn}
use Rattle.search_run.proofs.ChoiceLaws.{is_taken, none_taken, taken_only}

-- choosing step by step: behind a last step with results in its column one is taken; nothing is left behind all steps
abbrev pub Chooses : List ℕ → List PlainStep → List PlainFound → Option PlainFound → Type 0
Chooses seed [] found o = o ≡ taken found
Chooses seed (x ∷ xs) found o =
    (r : Option (List ℕ)) × IsResult seed x r
    × (((ends x (found ++ found_of x r) ≡ true) × (o ≡ taken (found ++ found_of x r))) ⊎ ((ends x (found ++ found_of x r) ≡ false) × Chooses seed xs (found ++ found_of x r) o))

-- ---- one choice

one_result_by : (b : Bool) (seed : List ℕ) (x : PlainStep) (r s : Option (List ℕ)) → IsResultBy b seed x r → IsResultBy b seed x s → r ≡ s
one_result_by true seed x r s h k = h ∙ sym k
one_result_by false seed x r s h k = one_best_is x.problem r s h k

pub one_result : (seed : List ℕ) (x : PlainStep) (r s : Option (List ℕ)) → IsResult seed x r → IsResult seed x s → r ≡ s
one_result seed x r s h k = one_result_by (is_drawn x.stage) seed x r s h k

one_way : (e : Bool) (t : Option PlainFound) (C : Option PlainFound → Type 0) (a b : Option PlainFound) → (C a → C b → a ≡ b) →
    ((e ≡ true) × (a ≡ t)) ⊎ ((e ≡ false) × C a) → ((e ≡ true) × (b ≡ t)) ⊎ ((e ≡ false) × C b) → a ≡ b
one_way e t C a b more h k =
    elim h [
      | inl m ↦ elim k [ inl n ↦ m.1 ∙ sym n.1 | inr n ↦ absurd (both_ways e n.0 m.0) ]
      | inr m ↦ elim k [ inl n ↦ absurd (both_ways e m.0 n.0) | inr n ↦ more m.1 n.1 ]
    ]

pub one_choice : (seed : List ℕ) (steps : List PlainStep) (found : List PlainFound) (a b : Option PlainFound) → Chooses seed steps found a → Chooses seed steps found b → a ≡ b
one_choice seed [] found a b h k = h ∙ sym k
one_choice seed (x ∷ xs) found a b (r, rr, h) (s, ss, k) =
    let same : s ≡ r = one_result seed x s r ss rr in
    one_way (ends x (found ++ found_of x r)) (taken (found ++ found_of x r)) (Chooses seed xs (found ++ found_of x r)) a b (λ m n. one_choice seed xs (found ++ found_of x r) a b m n) h
    (subst (λ (q : Option (List ℕ)). ((ends x (found ++ found_of x q) ≡ true) × (b ≡ taken (found ++ found_of x q))) ⊎ ((ends x (found ++ found_of x q) ≡ false) × Chooses seed xs (found ++ found_of x q) b)) same k)

-- ---- the answer is chosen

-- a step without results
pub none_first : (seed : List ℕ) (x : PlainStep) (xs : List PlainStep) (o : Option PlainFound) → HasNone seed x → Chooses seed xs [] o → Chooses seed (x ∷ xs) [] o
none_first seed x xs o h k = (None, h, inr (and_right x.last false refl, k))

none_front : (seed : List ℕ) (front rest : List PlainStep) (o : Option PlainFound) → AllByRecursion (HasNone seed) front → Chooses seed rest [] o → Chooses seed (front ++ rest) [] o
none_front seed [] rest o h k = k
none_front seed (x ∷ xs) rest o h k = none_first seed x (xs ++ rest) o h.0 (none_front seed xs rest o h.1 k)

pub some_since_taken : (fs : List PlainFound) (f : PlainFound) → taken fs ≡ Some f → is_some_found fs ≡ true
some_since_taken [] f e = absurd (cc)
some_since_taken (g ∷ gs) f e = refl

pub both_true : (a b : Bool) → a ≡ true → b ≡ true → (a && b) ≡ true
both_true true b e f = f
both_true false b e f = absurd (cc)

column_chosen : (seed : List ℕ) (column rest : List PlainStep) (found fs : List PlainFound) (f : PlainFound) →
    IsColumn column → AreResults seed column fs → taken (found ++ fs) ≡ Some f → Chooses seed (column ++ rest) found (Some f)
column_chosen seed [] rest found fs f one h t = absurd one
column_chosen seed (x ∷ []) rest found fs f one (r, rr, (gs, parts, none)) t =
    let same : found ++ fs ≡ found ++ found_of x r = ap (λ (hs : List PlainFound). found ++ hs) (parts ∙ (ap (λ (hs : List PlainFound). found_of x r ++ hs) none ∙ append-nil (found_of x r))) in
    let t_is : taken (found ++ found_of x r) ≡ Some f = sym (ap taken same) ∙ t in
    (r, rr, inl (both_true x.last (is_some_found (found ++ found_of x r)) one (some_since_taken (found ++ found_of x r) f t_is), sym t_is))
column_chosen seed (x ∷ y ∷ ys) rest found fs f one (r, rr, (gs, parts, more)) t =
    let same : found ++ fs ≡ (found ++ found_of x r) ++ gs = ap (λ (hs : List PlainFound). found ++ hs) parts ∙ sym (append_assoc found (found_of x r) gs) in
    (r, rr, inr (and_left x.last (is_some_found (found ++ found_of x r)) one.0, column_chosen seed (y ∷ ys) rest (found ++ found_of x r) gs f one.1 more (sym (ap taken same) ∙ t)))

pub answer_chosen : (seed : List ℕ) (steps : List PlainStep) (o : Option PlainFound) → IsAnswer seed steps o → Chooses seed steps [] o
answer_chosen seed steps None h = all_none steps h
  where
    all_none : (xs : List PlainStep) → AllByRecursion (HasNone seed) xs → Chooses seed xs [] None
    all_none [] k = refl
    all_none (x ∷ xs) k = none_first seed x xs None k.0 (all_none xs k.1)
answer_chosen seed steps (Some f) h =
    subst (λ (xs : List PlainStep). Chooses seed xs [] (Some f)) (sym h.parts)
    (none_front seed h.front (h.column ++ h.rest) (Some f) h.none (column_chosen seed h.column h.rest [] h.found f h.one h.results (taken_only h.found f h.taken)))

pub one_answer_is : (seed : List ℕ) (steps : List PlainStep) (a b : Option PlainFound) → IsAnswer seed steps a → IsAnswer seed steps b → a ≡ b
one_answer_is seed steps a b h k = one_choice seed steps [] a b (answer_chosen seed steps a h) (answer_chosen seed steps b k)

-- ---- what is chosen is the answer

-- of a column that has results already
record InColumn (seed : List ℕ) (steps : List PlainStep) (found : List PlainFound) (o : Option PlainFound) : Type 0 where
  column : List PlainStep
  rest : List PlainStep
  more : List PlainFound
  parts : steps ≡ column ++ rest
  one : IsColumn column
  results : AreResults seed column more
  is : o ≡ taken (found ++ more)

abbrev Concludes : List ℕ → List PlainStep → List PlainFound → Option PlainFound → Type 0
Concludes seed steps [] o = IsAnswer seed steps o
Concludes seed steps (f ∷ fs) o = InColumn seed steps (f ∷ fs) o

-- a column with a step in front that isn't the last one
longer : (x : PlainStep) (column : List PlainStep) → IsColumn column → x.last ≡ false → IsColumn (x ∷ column)
longer x [] one e = absurd one
longer x (y ∷ ys) one e = (e, one)

whole_behind : (x y : PlainStep) (ys front : List PlainStep) → front ≡ y ∷ ys → AreWhole front → AreWhole (x ∷ front)
whole_behind x y ys [] e h = absurd (cc)
whole_behind x y ys (z ∷ zs) e h = h

-- a step in front that has no result
answer_behind : (seed : List ℕ) (x : PlainStep) (xs : List PlainStep) (o : Option PlainFound) → HasNone seed x → IsAnswer seed xs o → IsAnswer seed (x ∷ xs) o
answer_behind seed x xs None h k = (h, k)
answer_behind seed x xs (Some f) h k = by_front k.front refl
  where
    by_front : (front : List PlainStep) → k.front ≡ front → IsFirstTaken seed (x ∷ xs) f
    by_front [] e =
        let parts : xs ≡ k.column ++ k.rest = k.parts ∙ ap (λ (ys : List PlainStep). ys ++ (k.column ++ k.rest)) e in
        by_test (IsFirstTaken seed (x ∷ xs) f) x.last
        (λ last.
        record {
          front = x ∷ [];
          column = k.column;
          rest = k.rest;
          parts = ap (λ (ys : List PlainStep). x ∷ ys) parts;
          whole = last;
          none = (h, tt);
          one = k.one;
          found = k.found;
          results = k.results;
          taken = k.taken;
        })
        (λ going.
        record {
          front = [];
          column = x ∷ k.column;
          rest = k.rest;
          parts = ap (λ (ys : List PlainStep). x ∷ ys) parts;
          whole = tt;
          none = tt;
          one = longer x k.column k.one going;
          found = k.found;
          results = (None, h, (k.found, refl, k.results));
          taken = k.taken;
        })
    by_front (y ∷ ys) e =
        record {
          front = x ∷ k.front;
          column = k.column;
          rest = k.rest;
          parts = ap (λ (zs : List PlainStep). x ∷ zs) k.parts;
          whole = whole_behind x y ys k.front e k.whole;
          none = (h, k.none);
          one = k.one;
          found = k.found;
          results = k.results;
          taken = k.taken;
        }

whole_tail : (x : PlainStep) (xs : List PlainStep) → AreWhole (x ∷ xs) → AreWhole xs
whole_tail x [] h = tt
whole_tail x (y ∷ ys) h = h

-- results of a column make its answer
column_answers : (seed : List ℕ) (steps : List PlainStep) (o : Option PlainFound) (column rest : List PlainStep) (more : List PlainFound) →
    steps ≡ column ++ rest → IsColumn column → AreResults seed column more → is_some_found more ≡ true → o ≡ taken more → IsAnswer seed steps o
column_answers seed steps None column rest more parts one results some is =
    let empty : more ≡ [] = none_taken more (sym is) in
    absurd (let no_one : false ≡ true = sym (ap is_some_found empty) ∙ some in cc)
column_answers seed steps (Some f) column rest more parts one results some is =
    record {
      front = [];
      column = column;
      rest = rest;
      parts = parts;
      whole = tt;
      none = tt;
      one = one;
      found = more;
      results = results;
      taken = is_taken more f (sym is);
    }

none_of_result : (seed : List ℕ) (x : PlainStep) (r : Option (List ℕ)) → IsResult seed x r → found_of x r ≡ [] → HasNone seed x
none_of_result seed x None h e = h
none_of_result seed x (Some q) h e = absurd (cc)

-- nothing is found so far where what is found with more is nothing
none_before : (fs gs : List PlainFound) → fs ++ gs ≡ [] → (fs ≡ []) × (gs ≡ [])
none_before [] gs e = (refl, e)
none_before (f ∷ fs) gs e = absurd (cc)

-- whatever is left behind has results of its column so far only where it isn't empty
abbrev HasRoom : List PlainStep → List PlainFound → Type 0
HasRoom [] found = found ≡ []
HasRoom (x ∷ xs) found = Unit {0}

room_behind : (x : PlainStep) (xs : List PlainStep) (found : List PlainFound) → AreWhole (x ∷ xs) → ends x found ≡ false → HasRoom xs found
room_behind x [] [] h e = refl
room_behind x [] (f ∷ fs) h e = absurd (both_ways (ends x (f ∷ fs)) e (and_from x.last true h refl))
room_behind x (y ∷ ys) found h e = tt

not_last : (b : Bool) → (b && true) ≡ false → b ≡ false
not_last true e = e
not_last false e = refl

concludes : (seed : List ℕ) (steps : List PlainStep) (found : List PlainFound) (o : Option PlainFound) →
    AreWhole steps → HasRoom steps found → Chooses seed steps found o → Concludes seed steps found o
concludes seed [] [] None whole room h = tt
concludes seed [] [] (Some f) whole room h = absurd (cc)
concludes seed [] (f ∷ fs) o whole room h = absurd (cc)
concludes seed (x ∷ xs) found o whole room (r, rr, h) =
    elim h [
      | inl m ↦ ended found m.0 m.1
      | inr m ↦
          let behind : Concludes seed xs (found ++ found_of x r) o = concludes seed xs (found ++ found_of x r) o (whole_tail x xs whole) (room_behind x xs (found ++ found_of x r) whole m.0) m.1 in
          goes found (found ++ found_of x r) refl m.0 behind
    ]
  where
    ended : (fs : List PlainFound) → ends x (fs ++ found_of x r) ≡ true → o ≡ taken (fs ++ found_of x r) → Concludes seed (x ∷ xs) fs o
    ended [] e is =
        let both = and_parts x.last (is_some_found (found_of x r)) e in
        column_answers seed (x ∷ xs) o (x ∷ []) xs (found_of x r) refl both.0 (r, rr, ([], sym (append-nil (found_of x r)), refl)) both.1 is
    ended (f ∷ fs) e is =
        let both = and_parts x.last true e in
        record {
          column = x ∷ [];
          rest = xs;
          more = found_of x r;
          parts = refl;
          one = both.0;
          results = (r, rr, ([], sym (append-nil (found_of x r)), refl));
          is = is;
        }

    goes : (fs now : List PlainFound) → fs ++ found_of x r ≡ now → ends x now ≡ false → Concludes seed xs now o → Concludes seed (x ∷ xs) fs o
    goes fs [] e going k =
        let none = none_before fs (found_of x r) e in
        subst (λ (hs : List PlainFound). Concludes seed (x ∷ xs) hs o) (sym none.0) (answer_behind seed x xs o (none_of_result seed x r rr none.1) k)
    goes [] (g ∷ gs) e going k =
        column_answers seed (x ∷ xs) o (x ∷ k.column) k.rest (found_of x r ++ k.more) (ap (λ (ys : List PlainStep). x ∷ ys) k.parts) (longer x k.column k.one (not_last x.last going)) (r, rr, (k.more, refl, k.results))
        (ap (λ (hs : List PlainFound). is_some_found (hs ++ k.more)) e)
        (k.is ∙ ap (λ (hs : List PlainFound). taken (hs ++ k.more)) (sym e))
    goes (f ∷ fs) (g ∷ gs) e going k =
        record {
          column = x ∷ k.column;
          rest = k.rest;
          more = found_of x r ++ k.more;
          parts = ap (λ (ys : List PlainStep). x ∷ ys) k.parts;
          one = longer x k.column k.one (not_last x.last going);
          results = (r, rr, (k.more, refl, k.results));
          is = k.is ∙ (ap (λ (hs : List PlainFound). taken (hs ++ k.more)) (sym e) ∙ ap taken (append_assoc (f ∷ fs) (found_of x r) k.more));
        }

pub chosen_answers : (seed : List ℕ) (steps : List PlainStep) (o : Option PlainFound) → AreWhole steps → Chooses seed steps [] o → IsAnswer seed steps o
chosen_answers seed steps o whole h = concludes seed steps [] o whole (room steps) h
  where
    room : (xs : List PlainStep) → HasRoom xs []
    room [] = refl
    room (x ∷ xs) = tt
