-- Which result is taken.
use Rattle.std.specs.Prelude.{ℕ, ℤ, ◌≡◌, ◌+◌, ◌<◌, ◌≤◌, ◌⊎◌, slice_get, drop, get_or, length, ◌<ℤ◌, ◌&&◌, Bool, true, false, int_lt, nat_lt, List, [], ◌∷◌, ◌++◌, Option, Some, None, fold, if◌then◌else◌}
use Rattle.std.specs.List.{AllByRecursion}
use Rattle.std.specs.Ordering.{int_eq}
use Rattle.std.proofs.Common.{arith, refl, sym, ap, subst, inl, inr, ◌∙◌, append_assoc}
use Rattle.std.proofs.lemmas.Bool.{and_from, and_parts, cases_lt, lt-ltb, or_cases, or_left, or_right, true_from_ne_false, false_from_ne_true}
use Rattle.std.proofs.lemmas.Bool.Decides.{Decides-int_eq}
use Rattle.std.proofs.lemmas.Int.{ints}
use Rattle.std.proofs.lemmas.List.{append-nil, drop_all, drop_more}
use Rattle.pick_problem.proofs.Deciding.{by_test, cases_z, if_true, if_false, lt_yes, zlt_yes, zlt_no}
use Rattle.search_run.specs.Found.{PlainFound, Beats, IsTaken, beats, better, taken}

-- ---- one result before another

pub beats_yes : (f g : PlainFound) → beats f g ≡ true → Beats f g
beats_yes f g e =
    elim (or_cases (int_lt f.waste g.waste) (int_eq f.waste g.waste && nat_lt g.coins f.coins) e) [
      | inl l ↦ inl (zlt_yes f.waste g.waste l)
      | inr k ↦
          let both = and_parts (int_eq f.waste g.waste) (nat_lt g.coins f.coins) k in
          inr ((Decides-int_eq f.waste g.waste).0 both.0, lt_yes g.coins f.coins both.1)
    ]

zlt_is : (x y : ℤ) → x <ℤ y → int_lt x y ≡ true
zlt_is x y h = true_from_ne_false (int_lt x y) (λ e. let k = zlt_no x y e in omega (arith, ints, h, k))

pub beats_is : (f g : PlainFound) → Beats f g → beats f g ≡ true
beats_is f g h =
    elim h [
      | inl l ↦ or_left (int_lt f.waste g.waste) (int_eq f.waste g.waste && nat_lt g.coins f.coins) (zlt_is f.waste g.waste l)
      | inr k ↦
          or_right (int_lt f.waste g.waste) (int_eq f.waste g.waste && nat_lt g.coins f.coins)
          (and_from (int_eq f.waste g.waste) (nat_lt g.coins f.coins) ((Decides-int_eq f.waste g.waste).1 k.0) (lt-ltb g.coins f.coins k.1))
    ]

pub beats_no : (f g : PlainFound) → (Beats f g → ⊥) → beats f g ≡ false
beats_no f g h = false_from_ne_true (beats f g) (λ e. h (beats_yes f g e))

not_beaten : (f g : PlainFound) → beats f g ≡ false → Beats f g → ⊥
not_beaten f g e h = let both : true ≡ false = sym (beats_is f g h) ∙ e in absurd (cc)

beats_through : (f g h : PlainFound) → Beats f g → Beats g h → Beats f h
beats_through f g h a b =
    elim a [
      | inl l ↦ elim b [ inl m ↦ inl (omega (arith, ints, l, m)) | inr m ↦ inl (omega (arith, ints, l, m.0)) ]
      | inr l ↦ elim b [ inl m ↦ inl (omega (arith, ints, l.0, m)) | inr m ↦ inr (l.0 ∙ m.0, omega (arith, l.1, m.1)) ]
    ]

-- what doesn't beat a result is beaten by no other than what beats it
beats_back : (f g h : PlainFound) → Beats f g → Beats h f → Beats h g
beats_back f g h a b = beats_through h f g b a

module _ (f : PlainFound) where
  all_beaten : (g : PlainFound) → Beats f g → (gs : List PlainFound) → AllByRecursion (λ h. Beats g h) gs → AllByRecursion (λ h. Beats f h) gs
  all_beaten g b [] h = tt
  all_beaten g b (x ∷ xs) h = (beats_through f g x b h.0, all_beaten g b xs h.1)

-- ---- the one that is taken

-- those before it are beaten
front_taken : (f : PlainFound) (front rest : List PlainFound) (o : Option PlainFound) → better o f ≡ Some f → AllByRecursion (λ g. Beats f g) front → fold better o (front ++ f ∷ rest) ≡ fold better (Some f) rest
front_taken f [] rest o e h = ap (λ (x : Option PlainFound). fold better x rest) e
front_taken f (g ∷ gs) rest None e h = front_taken f gs rest (Some g) (if_true (beats f g) (Some f) (Some g) (beats_is f g h.0)) h.1
front_taken f (g ∷ gs) rest (Some b) e h =
    by_test (fold better (better (Some b) g) (gs ++ f ∷ rest) ≡ fold better (Some f) rest) (beats g b)
    (λ y.
    ap (λ (x : Option PlainFound). fold better x (gs ++ f ∷ rest)) (if_true (beats g b) (Some g) (Some b) y)
    ∙ front_taken f gs rest (Some g) (if_true (beats f g) (Some f) (Some g) (beats_is f g h.0)) h.1)
    (λ n.
    ap (λ (x : Option PlainFound). fold better x (gs ++ f ∷ rest)) (if_false (beats g b) (Some g) (Some b) n) ∙ front_taken f gs rest (Some b) e h.1)

-- those behind it don't beat it
rest_taken : (f : PlainFound) (rest : List PlainFound) → AllByRecursion (λ g. Beats g f → ⊥) rest → fold better (Some f) rest ≡ Some f
rest_taken f [] h = refl
rest_taken f (g ∷ gs) h = ap (λ (x : Option PlainFound). fold better x gs) (if_false (beats g f) (Some g) (Some f) (beats_no g f h.0)) ∙ rest_taken f gs h.1

pub taken_only : (fs : List PlainFound) (f : PlainFound) → IsTaken fs f → taken fs ≡ Some f
taken_only fs f t = ap taken t.parts ∙ (front_taken f t.front t.rest None refl t.before ∙ rest_taken f t.rest t.behind)

-- what is taken of results with one more
module _ (seen : List PlainFound) (g f : PlainFound) (t : IsTaken seen g) where
  pub beaten_all : Beats f g → (rest : List PlainFound) → AllByRecursion (λ h. Beats h g → ⊥) rest → AllByRecursion (λ h. Beats f h) rest
  beaten_all b [] k = tt
  beaten_all b (h ∷ hs) k = (beaten_one b h k.0, beaten_all b hs k.1)
    where
      beaten_one : Beats f g → (h : PlainFound) → (Beats h g → ⊥) → Beats f h
      beaten_one b h k =
          elim (cases_z f.waste h.waste) [
            | inl l ↦ inl l
            | inr m ↦
                elim m [
                  | inl e ↦
                      elim (cases_lt h.coins f.coins) [
                        | inl l ↦ inr (e, l)
                        | inr n ↦ absurd (k (elim b [ inl l ↦ inl (omega (arith, ints, l, e)) | inr l ↦ inr (sym e ∙ l.0, omega (arith, n, l.1)) ]))
                      ]
                  | inr l ↦ absurd (k (elim b [ inl n ↦ inl (omega (arith, ints, l, n)) | inr n ↦ inl (omega (arith, ints, l, n.0)) ]))
                ]
          ]

all_append : (P : PlainFound → Type 0) (xs ys : List PlainFound) → AllByRecursion P xs → AllByRecursion P ys → AllByRecursion P (xs ++ ys)
all_append P [] ys h k = k
all_append P (x ∷ xs) ys h k = (h.0, all_append P xs ys h.1 k)

one_more : (seen : List PlainFound) (g f : PlainFound) → IsTaken seen g → (b : Bool) → beats f g ≡ b → IsTaken (seen ++ f ∷ []) (if b then f else g)
one_more seen g f t true e =
    let b : Beats f g = beats_yes f g e in
    let all : AllByRecursion (λ h. Beats f h) (t.front ++ g ∷ t.rest) = all_append (λ h. Beats f h) t.front (g ∷ t.rest) (all_beaten f g b t.front t.before) (b, beaten_all seen g f t b t.rest t.behind) in
    record { front = seen; rest = []; parts = refl; before = subst (λ (hs : List PlainFound). AllByRecursion (λ h. Beats f h) hs) (sym t.parts) all; behind = tt }
one_more seen g f t false e =
    record {
      front = t.front;
      rest = t.rest ++ f ∷ [];
      parts = ap (λ (hs : List PlainFound). hs ++ f ∷ []) t.parts ∙ append_assoc t.front (g ∷ t.rest) (f ∷ []);
      before = t.before;
      behind = all_append (λ h. Beats h g → ⊥) t.rest (f ∷ []) t.behind (not_beaten f g e, tt);
    }

abbrev pub IsTakenOf : List PlainFound → Option PlainFound → Type 0
IsTakenOf fs None = fs ≡ []
IsTakenOf fs (Some f) = IsTaken fs f

taken_after : (seen : List PlainFound) (g : PlainFound) (fs : List PlainFound) → IsTaken seen g → IsTakenOf (seen ++ fs) (fold better (Some g) fs)
taken_after seen g [] t = subst (λ (hs : List PlainFound). IsTaken hs g) (sym (append-nil seen)) t
taken_after seen g (f ∷ fs) t =
    let more : (x : PlainFound) → IsTaken (seen ++ f ∷ []) x → IsTakenOf (seen ++ f ∷ fs) (fold better (Some x) fs) = λ x k.
    subst (λ (hs : List PlainFound). IsTakenOf hs (fold better (Some x) fs)) (append_assoc seen (f ∷ []) fs) (taken_after (seen ++ f ∷ []) x fs k) in
    by_test (IsTakenOf (seen ++ f ∷ fs) (fold better (better (Some g) f) fs)) (beats f g)
    (λ y. subst (λ (o : Option PlainFound). IsTakenOf (seen ++ f ∷ fs) (fold better o fs)) (sym (if_true (beats f g) (Some f) (Some g) y)) (more f (one_more seen g f t true y)))
    (λ n. subst (λ (o : Option PlainFound). IsTakenOf (seen ++ f ∷ fs) (fold better o fs)) (sym (if_false (beats f g) (Some f) (Some g) n)) (more g (one_more seen g f t false n)))

pub taken_is : (fs : List PlainFound) → IsTakenOf fs (taken fs)
taken_is [] = refl
taken_is (f ∷ fs) = taken_after (f ∷ []) f fs (record { front = []; rest = []; parts = refl; before = tt; behind = tt })

pub is_taken : (fs : List PlainFound) (f : PlainFound) → taken fs ≡ Some f → IsTaken fs f
is_taken fs f e = subst (λ (o : Option PlainFound). IsTakenOf fs o) e (taken_is fs)

pub none_taken : (fs : List PlainFound) → taken fs ≡ None → fs ≡ []
none_taken fs e = subst (λ (o : Option PlainFound). IsTakenOf fs o) e (taken_is fs)

-- ---- one after another, the first one being compared with itself

beats_itself : (f : PlainFound) → beats f f ≡ false
beats_itself f = beats_no f f (λ h. elim h [ inl l ↦ omega (arith, ints, l) | inr l ↦ omega (arith, l.1) ])

-- what is left to compare with the best so far
abbrev pub TakenFrom : List PlainFound → ℕ → PlainFound → Type 0
TakenFrom fs i b = fold better (Some b) (drop i fs) ≡ taken fs

pub taken_first : (f : PlainFound) (fs : List PlainFound) → TakenFrom (f ∷ fs) 0 f
taken_first f fs = ap (λ (o : Option PlainFound). fold better o fs) (if_false (beats f f) (Some f) (Some f) (beats_itself f))

module _ (fs : List PlainFound) (i : ℕ) (b f : PlainFound) (below : i < length fs) (is : f ≡ get_or fs i f) (so : TakenFrom fs i b) where
  here : drop i fs ≡ f ∷ drop (i + 1) fs
  here = drop_more fs i f below ∙ ap (λ (g : PlainFound). g ∷ drop (i + 1) fs) (sym is)

  next : fold better (better (Some b) f) (drop (i + 1) fs) ≡ taken fs
  next = sym (ap (fold better (Some b)) here) ∙ so

  pub taken_other : beats f b ≡ true → TakenFrom fs (i + 1) f
  taken_other e = ap (λ (o : Option PlainFound). fold better o (drop (i + 1) fs)) (sym (if_true (beats f b) (Some f) (Some b) e)) ∙ next

  pub taken_same : beats f b ≡ false → TakenFrom fs (i + 1) b
  taken_same e = ap (λ (o : Option PlainFound). fold better o (drop (i + 1) fs)) (sym (if_false (beats f b) (Some f) (Some b) e)) ∙ next

  -- by what the test says, and what is then the best
  pub taken_by : (t : Bool) (c : PlainFound) → t ≡ beats f b → ((t ≡ true) × (c ≡ f)) ⊎ ((t ≡ false) × (c ≡ b)) → TakenFrom fs (i + 1) c
  taken_by t c e h =
      elim h [
        | inl y ↦ subst (TakenFrom fs (i + 1)) (sym y.1) (taken_other (sym e ∙ y.0))
        | inr n ↦ subst (TakenFrom fs (i + 1)) (sym n.1) (taken_same (sym e ∙ n.0))
      ]

pub taken_at_end : (fs : List PlainFound) (i : ℕ) (b : PlainFound) → length fs ≤ i → TakenFrom fs i b → taken fs ≡ Some b
taken_at_end fs i b h so = sym so ∙ ap (fold better (Some b)) (drop_all i fs h)

pub taken_init : (fs : List PlainFound) (b : PlainFound) → Some b ≡ slice_get fs 0 → TakenFrom fs 0 b
taken_init [] b e = absurd (cc)
taken_init (f ∷ fs) b e = let same : b ≡ f = cc in subst (TakenFrom (f ∷ fs) 0) (sym same) (taken_first f fs)
