-- What a reader takes is spelled by the text of its answer, and that text is read as it again.
use Rattle.std.proofs.Common.{◌≡◌, ◌≢◌, ℕ, ◌+◌, Bool, true, false, cond, List, [], ◌++◌, length, Result, Ok, Err, refl, sym, ap, subst, ◌∙◌, append_assoc, arith}
use Rattle.std.specs.Prelude.{IfOk, MatchResult}
use Rattle.std.proofs.lemmas.List.{append-nil, length-append, nil_from_length}
use Rattle.std.proofs.lemmas.Bool.{eqb-true}
use Rattle.fund_base.specs.Cursor.{At, IsBytes}
use Rattle.fund_base.specs.Parsing.{◌>>=◌, fault_as, whole_of, Yields, YieldsAll}

-- the value of a step that did not fail
pub bind_ok : {A B E : Type 0} (r : Result A E) (f : A → Result B E) (y : B) → (r >>= f) ≡ Ok y → (x : A) × (r ≡ Ok x) × (f x ≡ Ok y)
bind_ok (Ok x) f y e = (x, refl, e)
bind_ok (Err d) f y e = absurd cc

-- a step whose value is known
pub bind_is : {A B E : Type 0} (r : Result A E) (f : A → Result B E) (x : A) (y : Result B E) → r ≡ Ok x → f x ≡ y → (r >>= f) ≡ y
bind_is {A = A} {E = E} r f x y e h = ap (λ (s : Result A E). s >>= f) e ∙ h

-- a test that did not fail
pub guard_ok : {A E : Type 0} (b : Bool) (d : E) (r : Result A E) (y : A) → cond b (Err d) r ≡ Ok y → (b ≡ false) × (r ≡ Ok y)
guard_ok true d r y e = absurd cc
guard_ok false d r y e = (refl, e)

-- the same of a test that must hold
pub guard_met : {A E : Type 0} (b : Bool) (d : E) (r : Result A E) (y : A) → cond b r (Err d) ≡ Ok y → (b ≡ true) × (r ≡ Ok y)
guard_met true d r y e = (refl, e)
guard_met false d r y e = absurd cc

pub ok_is : {A E : Type 0} (x y : A) (r : Result A E) → r ≡ Ok x → r ≡ Ok y → x ≡ y
ok_is x y r p q = cc

-- a value that was read under another type of faults
pub told_ok : {A E F : Type 0} (tell : E → F) (r : Result A E) (x : A) → fault_as tell r ≡ Ok x → r ≡ Ok x
told_ok tell (Ok y) x e = cc
told_ok tell (Err d) x e = absurd cc

pub told_is : {A E F : Type 0} (tell : E → F) (r : Result A E) (x : A) → r ≡ Ok x → fault_as tell r ≡ Ok x
told_is {A = A} {E = E} tell r x e = ap (λ (s : Result A E). fault_as tell s) e

-- what was taken from the front
pub record Takes (at : At) (text : List ℕ) (next : At) : Type 0 where
  pub parts : at.rest ≡ text ++ next.rest
  pub place_is : next.place ≡ at.place + length text
  pub rest_fits : IsBytes next.rest

pub takes_then : (a b c : At) (x y : List ℕ) → Takes a x b → Takes b y c → Takes a (x ++ y) c
takes_then a b c x y p q = record { parts = p.parts ∙ ap (λ (t : List ℕ). x ++ t) q.parts ∙ sym (append_assoc x y c.rest); place_is = omega (arith, p.place_is, q.place_is, length-append x y); rest_fits = q.rest_fits }

pub takes_none : (a : At) → IsBytes a.rest → Takes a [] a
takes_none a fits = record { parts = refl; place_is = omega arith; rest_fits = fits }

-- what is read again: the value, and what stands behind its text
pub record Again {X E : Type 0} (read : Result (X × At) E) (x : X) (rest : List ℕ) : Type 0 where
  pub next : At
  pub reads : read ≡ Ok (x, next)
  pub left : next.rest ≡ rest

-- Both laws of a reader: what it takes is the text of a value that fits, and the text of a value that
-- fits, followed by anything, is read as that value.
pub record Reads {X E : Type 0} (item : At → Result (X × At) E) (text : X → List ℕ) (Fits : X → Type 0) : Type 0 where
  pub takes : (at : At) (x : X × At) → IsBytes at.rest → item at ≡ Ok x → Takes at (text x.0) x.1 × Fits x.0
  pub again : (x : X) (at : At) (rest : List ℕ) → Fits x → at.rest ≡ text x ++ rest → Again (item at) x rest

-- the laws don't depend on how a fault is told
pub reads_told : {X E F : Type 0} (tell : E → F) (item : At → Result (X × At) E) (text : X → List ℕ) (Fits : X → Type 0) → Reads item text Fits → Reads (λ at. fault_as tell (item at)) text Fits
reads_told tell item text Fits laws = record {
  takes = λ at x fits e. laws.takes at x fits (told_ok tell (item at) x e);
  again = λ x at rest fits e.
      let a = laws.again x at rest fits e in
      record { next = a.next; reads = told_is tell (item at) (x, a.next) a.reads; left = a.left };
}

-- ---- a whole text

pub whole_takes : {X E : Type 0} (trailing : ℕ → E) (item : At → Result (X × At) E) (text : X → List ℕ) (Fits : X → Type 0) → Reads item text Fits → (at : At) (x : X) → IsBytes at.rest → whole_of trailing (item at) ≡ Ok x → Fits x × (at.rest ≡ text x)
whole_takes {X = X} trailing item text Fits laws at x fits e =
    let a = bind_ok (item at) _ x e in
    let g = guard_met _ _ _ _ a.2 in
    let t = laws.takes at a.0 fits a.1 in
    let nothing : a.0.1.rest ≡ [] = nil_from_length a.0.1.rest (eqb-true _ _ g.0) in
    let whole : at.rest ≡ text a.0.0 = t.0.parts ∙ ap (λ (r : List ℕ). text a.0.0 ++ r) nothing ∙ append-nil (text a.0.0) in
    subst (λ (y : X). Fits y × (at.rest ≡ text y)) (ok_is a.0.0 x (Ok a.0.0) refl g.1) (t.1, whole)

pub whole_again : {X E : Type 0} (trailing : ℕ → E) (item : At → Result (X × At) E) (text : X → List ℕ) (Fits : X → Type 0) → Reads item text Fits → (at : At) (x : X) → Fits x → at.rest ≡ text x → whole_of trailing (item at) ≡ Ok x
whole_again trailing item text Fits laws at x fits e =
    let a = laws.again x at [] fits (e ∙ sym (append-nil (text x))) in
    let nothing : length a.next.rest ≡ 0 = ap (λ (r : List ℕ). length r) a.left in
    bind_is (item at) _ (x, a.next) (Ok x) a.reads (rw nothing refl)

-- ---- what a call that yields such a reading returned

-- what it read is the text of its answer
pub yields_found : {W X E : Type 0} (memory : E) (view : W → X) (item : At → Result (X × At) E) (text : X → List ℕ) (Fits : X → Type 0) → Reads item text Fits → (old new : At) (result : Result W E) → IsBytes old.rest → Yields memory view new result (item old)
    → IfOk result (λ w. Fits (view w) × (old.rest ≡ text (view w) ++ new.rest))
yields_found memory view item text Fits laws old new (Ok w) fits given =
    let t = laws.takes old (view w, new) fits given in
    (t.1, t.0.parts)
yields_found memory view item text Fits laws old new (Err e) fits given = tt

-- and the cursor stands behind that text
pub yields_moved : {W X E : Type 0} (memory : E) (view : W → X) (item : At → Result (X × At) E) (text : X → List ℕ) (Fits : X → Type 0) → Reads item text Fits → (old new : At) (result : Result W E) → IsBytes old.rest → Yields memory view new result (item old)
    → IfOk result (λ w. new.place ≡ old.place + length (text (view w)))
yields_moved memory view item text Fits laws old new (Ok w) fits given = (laws.takes old (view w, new) fits given).0.place_is
yields_moved memory view item text Fits laws old new (Err e) fits given = tt

-- a text is read as its value, memory aside
pub yields_only : {W X E : Type 0} (memory : E) (view : W → X) (item : At → Result (X × At) E) (text : X → List ℕ) (Fits : X → Type 0) → Reads item text Fits → (old new : At) (result : Result W E) → ((e : E) → (e ≢ memory → ⊥) → e ≡ memory)
    → Yields memory view new result (item old) → (x : X) (rest : List ℕ) → Fits x → old.rest ≡ text x ++ rest
    → MatchResult result (λ w. (view w ≡ x) × (new.rest ≡ rest)) (λ e. e ≡ memory)
yields_only {X = X} memory view item text Fits laws old new (Ok w) stable given x rest fits is =
    let a = laws.again x old rest fits is in
    let same : (view w, new) ≡ (x, a.next) = ok_is (view w, new) (x, a.next) (item old) given a.reads in
    (ap (λ (p : X × At). p.0) same, ap (λ (p : X × At). p.1.rest) same ∙ a.left)
yields_only memory view item text Fits laws old new (Err e) stable given x rest fits is =
    let a = laws.again x old rest fits is in
    stable e (λ other. absurd (cc (given other, a.reads)))

-- the same of a call on a whole text
pub yields_all_found : {W X E : Type 0} (memory : E) (view : W → X) (trailing : ℕ → E) (item : At → Result (X × At) E) (text : X → List ℕ) (Fits : X → Type 0) → Reads item text Fits → (at : At) (result : Result W E) → IsBytes at.rest
    → YieldsAll memory view result (whole_of trailing (item at)) → IfOk result (λ w. Fits (view w) × (at.rest ≡ text (view w)))
yields_all_found memory view trailing item text Fits laws at (Ok w) fits given = whole_takes trailing item text Fits laws at (view w) fits given
yields_all_found memory view trailing item text Fits laws at (Err e) fits given = tt

pub yields_all_only : {W X E : Type 0} (memory : E) (view : W → X) (trailing : ℕ → E) (item : At → Result (X × At) E) (text : X → List ℕ) (Fits : X → Type 0) → Reads item text Fits → (at : At) (result : Result W E) → ((e : E) → (e ≢ memory → ⊥) → e ≡ memory)
    → YieldsAll memory view result (whole_of trailing (item at)) → (x : X) → Fits x → at.rest ≡ text x → MatchResult result (λ w. view w ≡ x) (λ e. e ≡ memory)
yields_all_only memory view trailing item text Fits laws at (Ok w) stable given x fits is =
    ok_is (view w) x (whole_of trailing (item at)) given (whole_again trailing item text Fits laws at x fits is)
yields_all_only memory view trailing item text Fits laws at (Err e) stable given x fits is =
    let again = whole_again trailing item text Fits laws at x fits is in
    stable e (λ other. absurd (cc (given other, again)))
