-- The first column that has a step of a row and a stage is looked for.
use Rattle.std.specs.Prelude.{ℕ, ◌≡◌, ◌<◌, ◌≤◌, ◌+◌, ◌⊎◌, ◌↔◌, ◌&&◌, ◌||◌, not, IsTrue, Bool, true, false, List, [], ◌∷◌, ◌++◌, length, take}
use Rattle.std.specs.List.{AllByRecursion}
use Rattle.std.proofs.Common.{refl, sym, ap, subst, inl, inr, ◌∙◌, append_assoc, arith, drop, get_or}
use Rattle.std.proofs.lemmas.Bool.{both_ways}
use Rattle.std.proofs.lemmas.List.{append-nil, drop_all, length-append, length-drop, take_at}
use Rattle.std.proofs.lemmas.List.Elements.{Contains-append_cases, Contains-append_left, Contains-push, Contains-push_cases}
use Rattle.closing_log.specs.declared.log.Stage.{Stage}
use Rattle.output_groups.proofs.Members.{none_in}
use Rattle.search_run.specs.Answer.{AreWhole, IsColumn}
use Rattle.search_run.specs.Step.{PlainStep}
use Rattle.report_check.specs.DueSections.{HasStepAt, IsUpTo}
use Rattle.report_check.proofs.SliceLaws.{drop_step}

-- none of these is the last of its column
abbrev AreOpen : List PlainStep → Type 0
AreOpen xs = AllByRecursion (λ (x : PlainStep). x.last ≡ false) xs

-- Behind whole columns without such a step, and behind some steps of a column: whether one of these is such a step.
pub record IsSeeking (steps : List PlainStep) (row : ℕ) (stage : Stage) (left : List PlainStep) (there : Bool) : Type 0 where
  pub front : List PlainStep
  pub part : List PlainStep
  pub parts : steps ≡ front ++ (part ++ left)
  pub whole : AreWhole front
  pub before : HasStepAt front row stage → ⊥
  pub open_part : AreOpen part
  pub held : there ≡ true → HasStepAt part row stage
  pub none : there ≡ false → HasStepAt part row stage → ⊥

none_at : (row : ℕ) (stage : Stage) → HasStepAt [] row stage → ⊥
none_at row stage h = none_in h.0 h.1

pub seek_begins : (steps : List PlainStep) (row : ℕ) (stage : Stage) → IsSeeking steps row stage steps false
seek_begins steps row stage = record {
  front = [];
  part = [];
  parts = refl;
  whole = tt;
  before = none_at row stage;
  open_part = tt;
  held = λ e. absurd (cc);
  none = λ e. none_at row stage;
}

-- a step is of this row and this stage
abbrev pub IsAt : PlainStep → ℕ → Stage → Type 0
IsAt x row stage = (x.row ≡ row) × (x.stage ≡ stage)

at_last : (xs : List PlainStep) (x : PlainStep) (row : ℕ) (stage : Stage) → HasStepAt (xs ++ x ∷ []) row stage → HasStepAt xs row stage ⊎ IsAt x row stage
at_last xs x row stage (y, there, at_row, at_stage) =
    elim (Contains-push_cases xs x y there) [
      | inl earlier ↦ inl (y, earlier, at_row, at_stage)
      | inr same ↦ inr (ap (λ (z : PlainStep). z.row) same ∙ at_row, ap (λ (z : PlainStep). z.stage) same ∙ at_stage)
    ]

longer_at : (xs ys : List PlainStep) (row : ℕ) (stage : Stage) → HasStepAt xs row stage → HasStepAt (xs ++ ys) row stage
longer_at xs ys row stage (y, there, at_row, at_stage) = (y, Contains-append_left xs ys y there, at_row, at_stage)

pushed_at : (xs : List PlainStep) (x : PlainStep) (row : ℕ) (stage : Stage) → IsAt x row stage → HasStepAt (xs ++ x ∷ []) row stage
pushed_at xs x row stage at = (x, Contains-push xs x, at.0, at.1)

either_at : (xs ys : List PlainStep) (row : ℕ) (stage : Stage) → (HasStepAt xs row stage → ⊥) → (HasStepAt ys row stage → ⊥) → HasStepAt (xs ++ ys) row stage → ⊥
either_at xs ys row stage h k (y, there, at_row, at_stage) =
    elim (Contains-append_cases xs ys y there) [
      | inl first ↦ h (y, first, at_row, at_stage)
      | inr second ↦ k (y, second, at_row, at_stage)
    ]

column_of : (part : List PlainStep) (x : PlainStep) → AreOpen part → x.last ≡ true → IsColumn (part ++ x ∷ [])
column_of [] x h e = e
column_of (y ∷ []) x h e = (h.0, e)
column_of (y ∷ z ∷ part) x h e = (h.0, column_of (z ∷ part) x h.1 e)

pub column_whole : (column : List PlainStep) → IsColumn column → AreWhole column
column_whole [] h = absurd h
column_whole (x ∷ []) h = h
column_whole (x ∷ y ∷ ys) h = column_whole (y ∷ ys) h.1

pub whole_both : (xs ys : List PlainStep) → AreWhole xs → AreWhole ys → AreWhole (xs ++ ys)
whole_both [] ys h k = k
whole_both (x ∷ []) [] h k = h
whole_both (x ∷ []) (y ∷ ys) h k = k
whole_both (x ∷ z ∷ xs) ys h k = whole_both (z ∷ xs) ys h k

open_more : (part : List PlainStep) (x : PlainStep) → AreOpen part → x.last ≡ false → AreOpen (part ++ x ∷ [])
open_more [] x h e = (e, tt)
open_more (y ∷ part) x h e = (h.0, open_more part x h.1 e)

-- whether such a step is there, with one step more
abbrev IsNow : List PlainStep → PlainStep → ℕ → Stage → Bool → Type 0
IsNow part x row stage there = (there ≡ true → HasStepAt (part ++ x ∷ []) row stage) × (there ≡ false → HasStepAt (part ++ x ∷ []) row stage → ⊥)

now_at : (part : List PlainStep) (x : PlainStep) (row : ℕ) (stage : Stage) (a b : Bool) → (a ≡ true → HasStepAt part row stage) → (a ≡ false → HasStepAt part row stage → ⊥) → (b ≡ true → IsAt x row stage) → (b ≡ false → IsAt x row stage → ⊥) → (c : Bool) → (a ≡ true → c ≡ true) → (a ≡ false → c ≡ b) → IsNow part x row stage c
now_at part x row stage true b held un at off c first second =
    (λ e. longer_at part (x ∷ []) row stage (held refl), λ e. absurd (both_ways c e (first refl)))
now_at part x row stage false true held un at off c first second =
    (λ e. pushed_at part x row stage (at refl), λ e. absurd (both_ways c e (second refl)))
now_at part x row stage false false held un at off c first second =
    (λ e. absurd (both_ways c (second refl) e), λ e h. elim (at_last part x row stage h) [ inl earlier ↦ un refl earlier | inr here ↦ off refl here ])

-- the column ends, and has such a step
pub seek_found : (steps : List PlainStep) (row : ℕ) (stage : Stage) (x : PlainStep) (left : List PlainStep) (there now : Bool) (h : IsSeeking steps row stage (x ∷ left) there) → IsNow h.part x row stage now → now ≡ true → x.last ≡ true →
    (upto : List PlainStep) × IsUpTo steps row stage upto × (steps ≡ upto ++ left)
seek_found steps row stage x left there now h at e last =
    let column = h.part ++ x ∷ [] in
    let parts : steps ≡ h.front ++ (column ++ left) = h.parts ∙ ap (λ (ys : List PlainStep). h.front ++ ys) (sym (append_assoc h.part (x ∷ []) left)) in (
      h.front ++ column,
      record {
        front = h.front;
        column = column;
        rest = left;
        parts = parts;
        whole = h.whole;
        before = h.before;
        one = column_of h.part x h.open_part last;
        has = at.0 e;
        upto_is = refl;
      },
      parts ∙ sym (append_assoc h.front column left),
    )

-- the column ends, and has none
pub seek_behind : (steps : List PlainStep) (row : ℕ) (stage : Stage) (x : PlainStep) (left : List PlainStep) (there now : Bool) (h : IsSeeking steps row stage (x ∷ left) there) → IsNow h.part x row stage now → now ≡ false → x.last ≡ true → IsSeeking steps row stage left false
seek_behind steps row stage x left there now h at e last =
    let column = h.part ++ x ∷ [] in
    record {
      front = h.front ++ column;
      part = [];
      parts = h.parts ∙ (ap (λ (ys : List PlainStep). h.front ++ ys) (sym (append_assoc h.part (x ∷ []) left)) ∙ sym (append_assoc h.front column left));
      whole = whole_both h.front column h.whole (column_whole column (column_of h.part x h.open_part last));
      before = either_at h.front column row stage h.before (at.1 e);
      open_part = tt;
      held = λ f. absurd (cc);
      none = λ f. none_at row stage;
    }

-- the column goes on
pub seek_on : (steps : List PlainStep) (row : ℕ) (stage : Stage) (x : PlainStep) (left : List PlainStep) (there now : Bool) (h : IsSeeking steps row stage (x ∷ left) there) → IsNow h.part x row stage now → x.last ≡ false → IsSeeking steps row stage left now
seek_on steps row stage x left there now h at last =
    record {
      front = h.front;
      part = h.part ++ x ∷ [];
      parts = h.parts ∙ ap (λ (ys : List PlainStep). h.front ++ ys) (sym (append_assoc h.part (x ∷ []) left));
      whole = h.whole;
      before = h.before;
      open_part = open_more h.part x h.open_part last;
      held = at.0;
      none = at.1;
    }

-- steps that end in the middle of a column aren't whole
open_ends : (xs : List PlainStep) → AreOpen xs → AreWhole xs → xs ≡ []
open_ends [] h k = refl
open_ends (x ∷ []) h k = absurd (both_ways x.last h.0 k)
open_ends (x ∷ y ∷ ys) h k = absurd (let e = open_ends (y ∷ ys) h.1 k in cc)

whole_end : (xs ys : List PlainStep) → AreWhole (xs ++ ys) → AreWhole ys
whole_end [] ys h = h
whole_end (x ∷ []) [] h = tt
whole_end (x ∷ []) (y ∷ ys) h = h
whole_end (x ∷ z ∷ xs) ys h = whole_end (z ∷ xs) ys h

pub seek_ends : (steps : List PlainStep) (row : ℕ) (stage : Stage) (there : Bool) → AreWhole steps → IsSeeking steps row stage [] there → HasStepAt steps row stage → ⊥
seek_ends steps row stage there whole h k =
    let parts : steps ≡ h.front ++ h.part = h.parts ∙ ap (λ (ys : List PlainStep). h.front ++ ys) (append-nil h.part) in
    let none : h.part ≡ [] = open_ends h.part h.open_part (whole_end h.front h.part (subst AreWhole parts whole)) in
    let same : steps ≡ h.front = parts ∙ (ap (λ (ys : List PlainStep). h.front ++ ys) none ∙ append-nil h.front) in
    h.before (subst (λ (ys : List PlainStep). HasStepAt ys row stage) same k)

-- ---- as the code tells it

tested : (b : Bool) (P : Type 0) → IsTrue b ↔ P → (b ≡ true → P) × (b ≡ false → P → ⊥)
tested true P h = (λ e. h.0 refl, λ e k. absurd (cc))
tested false P h = (λ e. absurd (cc), λ e k. let x = h.1 k in cc)

or_first : (a b : Bool) → a ≡ true → (a || b) ≡ true
or_first true b e = refl
or_first false b e = absurd (cc)

or_second : (a b : Bool) → a ≡ false → (a || b) ≡ b
or_second true b e = absurd (cc)
or_second false b e = refl

now_told : (part : List PlainStep) (x : PlainStep) (row : ℕ) (stage : Stage) (there here now : Bool) → (there ≡ true → HasStepAt part row stage) → (there ≡ false → HasStepAt part row stage → ⊥) → (IsTrue here ↔ IsAt x row stage) → now ≡ (there || here) → IsNow part x row stage now
now_told part x row stage there here now held un at is =
    let t = tested here (IsAt x row stage) at in
    now_at part x row stage there here held un t.0 t.1 now (λ e. is ∙ or_first there here e) (λ e. is ∙ or_second there here e)

and_both : (a b : Bool) → (a && b) ≡ true → (a ≡ true) × (b ≡ true)
and_both true b e = (refl, e)
and_both false b e = absurd (cc)

and_not : (a b : Bool) → (a && b) ≡ false → a ≡ true → b ≡ false
and_not true b e t = e
and_not false b e t = absurd (cc)

and_true : (c : Bool) → (c && true) ≡ c
and_true true = refl
and_true false = refl

pub seek_return : (steps : List PlainStep) (row : ℕ) (stage : Stage) (x : PlainStep) (left : List PlainStep) (there here now : Bool) → IsSeeking steps row stage (x ∷ left) there → (IsTrue here ↔ IsAt x row stage) → now ≡ (there || here) → (x.last && now) ≡ true →
    (upto : List PlainStep) × IsUpTo steps row stage upto × (steps ≡ upto ++ left)
seek_return steps row stage x left there here now h at is both =
    let b = and_both x.last now both in
    seek_found steps row stage x left there now h (now_told h.part x row stage there here now h.held h.none at is) b.1 b.0

pub seek_next : (steps : List PlainStep) (row : ℕ) (stage : Stage) (x : PlainStep) (left : List PlainStep) (there here now next : Bool) → IsSeeking steps row stage (x ∷ left) there → (IsTrue here ↔ IsAt x row stage) → now ≡ (there || here) → (x.last && now) ≡ false → next ≡ (now && not x.last) → IsSeeking steps row stage left next
seek_next steps row stage x left there here now next h at is both step = by x.last refl
  where
    told : IsNow h.part x row stage now
    told = now_told h.part x row stage there here now h.held h.none at is

    by : (b : Bool) → x.last ≡ b → IsSeeking steps row stage left next
    by true e =
        let none = and_not x.last now both e in
        let gone : next ≡ false = step ∙ ap (λ (c : Bool). c && not x.last) none in
        subst (IsSeeking steps row stage left) (sym gone) (seek_behind steps row stage x left there now h told none e)
    by false e =
        let kept : next ≡ now = step ∙ (ap (λ (c : Bool). now && not c) e ∙ and_true now) in
        subst (IsSeeking steps row stage left) (sym kept) (seek_on steps row stage x left there now h told e)

-- ---- along the steps

seek_here : (steps : List PlainStep) (row : ℕ) (stage : Stage) (i : ℕ) (x : PlainStep) (there : Bool) → i < length steps → x ≡ get_or steps i x → IsSeeking steps row stage (drop i steps) there → IsSeeking steps row stage (x ∷ drop (i + 1) steps) there
seek_here steps row stage i x there below is h = subst (λ (xs : List PlainStep). IsSeeking steps row stage xs there) (drop_step steps i x below is) h

-- what stands in front of a place
front_at : (steps upto : List PlainStep) (i : ℕ) → i < length steps → steps ≡ upto ++ drop (i + 1) steps → upto ≡ take (i + 1) steps
front_at steps upto i below e =
    let long : length upto ≡ i + 1 = omega (arith, ap length e, length-append upto (drop (i + 1) steps), length-drop (i + 1) steps) in
    sym (ap (take (i + 1)) e ∙ take_at upto (drop (i + 1) steps) (i + 1) long)

pub seek_at : (steps : List PlainStep) (row : ℕ) (stage : Stage) (i : ℕ) (x : PlainStep) (there here now : Bool) → i < length steps → x ≡ get_or steps i x → IsSeeking steps row stage (drop i steps) there → (IsTrue here ↔ IsAt x row stage) → now ≡ (there || here) → (x.last && now) ≡ true → IsUpTo steps row stage (take (i + 1) steps)
seek_at steps row stage i x there here now below is h at told both =
    let r = seek_return steps row stage x (drop (i + 1) steps) there here now (seek_here steps row stage i x there below is h) at told both in
    subst (IsUpTo steps row stage) (front_at steps r.0 i below r.2) r.1

pub seek_more : (steps : List PlainStep) (row : ℕ) (stage : Stage) (i : ℕ) (x : PlainStep) (there here now next : Bool) → i < length steps → x ≡ get_or steps i x → IsSeeking steps row stage (drop i steps) there → (IsTrue here ↔ IsAt x row stage) → now ≡ (there || here) → (x.last && now) ≡ false → next ≡ (now && not x.last) → IsSeeking steps row stage (drop (i + 1) steps) next
seek_more steps row stage i x there here now next below is h at told both step =
    seek_next steps row stage x (drop (i + 1) steps) there here now next (seek_here steps row stage i x there below is h) at told both step

pub seek_none : (steps : List PlainStep) (row : ℕ) (stage : Stage) (i : ℕ) (there : Bool) → AreWhole steps → length steps ≤ i → IsSeeking steps row stage (drop i steps) there → HasStepAt steps row stage → ⊥
seek_none steps row stage i there whole end h k = seek_ends steps row stage there whole (subst (λ (xs : List PlainStep). IsSeeking steps row stage xs there) (drop_all i steps end) h) k
