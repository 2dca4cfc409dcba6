-- Of a reading: that it has a fault exactly where some field is the first that is broken.
use Rattle.std.proofs.Common.{◌≡◌, ℕ, zero, suc, ◌+◌, ◌<◌, Bool, true, false, cond, List, [], ◌∷◌, ◌++◌, length, take, Result, Ok, Err, refl, sym, ap, subst, ◌∙◌, append_assoc, arith, inl, inr}
use Rattle.std.specs.Prelude.{◌⊎◌}
use Rattle.std.specs.List.{flat_map}
use Rattle.std.proofs.lemmas.List.{append-nil, length-append, take_at}
use Rattle.std.proofs.lemmas.List.Concat.{flat_map-cons}
use Rattle.std.proofs.lemmas.List.Elements.{All-take}
use Rattle.fund_base.specs.Cursor.{At, IsBytes}
use Rattle.fund_base.specs.Parsing.{◌>>=◌, many_from}
use Rattle.fund_base.proofs.Laws.{bind_is, Reads}
use Rattle.fund_base.proofs.Repeat.{AllFrom}
use Rattle.tx_laws.specs.Broken.{IsBroken, IsFirst, FollowsWhole}

pub record Judged {X F E : Type 0} (Breaks : F → ℕ → List ℕ → E → Type 0) (Comes : List ℕ → F → Type 0) (at : At) (read : Result X E) : Type 0 where
  pub tells : (fault : E) → read ≡ Err fault → IsBroken Comes Breaks at.place at.rest fault
  pub gives : (fault : E) → IsBroken Comes Breaks at.place at.rest fault → read ≡ Err fault

-- bytes have one fault at most
pub one_fault : {X F E : Type 0} (Breaks : F → ℕ → List ℕ → E → Type 0) (Comes : List ℕ → F → Type 0) (at : At) (read : Result X E) → Judged Breaks Comes at read → (a b : E) → IsBroken Comes Breaks at.place at.rest a → IsBroken Comes Breaks at.place at.rest b → a ≡ b
one_fault Breaks Comes at read judged a b one other = same_err a b read (judged.gives a one) (judged.gives b other)
  where
    same_err : {X E : Type 0} (a b : E) (r : Result X E) → r ≡ Err a → r ≡ Err b → a ≡ b
    same_err a b r p q = cc

-- ---- steps

pub bind_err : {A B E : Type 0} (r : Result A E) (f : A → Result B E) (e : E) → (r >>= f) ≡ Err e → (r ≡ Err e) ⊎ ((x : A) × (r ≡ Ok x) × (f x ≡ Err e))
bind_err (Ok x) f e h = inr (x, refl, h)
bind_err (Err d) f e h = inl cc

pub bind_fails : {A B E : Type 0} (r : Result A E) (f : A → Result B E) (e : E) → r ≡ Err e → (r >>= f) ≡ Err e
bind_fails {A = A} {E = E} r f e h = ap (λ (s : Result A E). s >>= f) h

-- a test between two steps is part of the first
pub checked : {A B E : Type 0} (r : Result A E) (test : A → Bool) (e : E) (k : A → Result B E) → (r >>= λ x. cond (test x) (Err e) (k x)) ≡ ((r >>= λ x. cond (test x) (Err e) (Ok x)) >>= k)
checked (Err d) test e k = refl
checked (Ok x) test e k = checked_by (test x) x e k
  where
    checked_by : {A B E : Type 0} (b : Bool) (x : A) (e : E) (k : A → Result B E) → cond b (Err e) (k x) ≡ (cond b (Err e) (Ok x) >>= k)
    checked_by true x e k = refl
    checked_by false x e k = refl

pub met : {A B E : Type 0} (r : Result A E) (test : A → Bool) (e : E) (k : A → Result B E) → (r >>= λ x. cond (test x) (k x) (Err e)) ≡ ((r >>= λ x. cond (test x) (Ok x) (Err e)) >>= k)
met (Err d) test e k = refl
met (Ok x) test e k = met_by (test x) x e k
  where
    met_by : {A B E : Type 0} (b : Bool) (x : A) (e : E) (k : A → Result B E) → cond b (k x) (Err e) ≡ (cond b (Ok x) (Err e) >>= k)
    met_by true x e k = refl
    met_by false x e k = refl

-- ---- one field

moved : {F E : Type 0} (Breaks : F → ℕ → List ℕ → E → Type 0) (f d : F) (p q : ℕ) (l m : List ℕ) (fault : E) → f ≡ d → p ≡ q → l ≡ m → Breaks f p l fault → Breaks d q m fault
moved {F = F} Breaks f d p q l m fault ef ep el b = subst (λ (z : F). Breaks z q m fault) ef (subst (λ (z : ℕ). Breaks f z m fault) ep (subst (λ (z : List ℕ). Breaks f p z fault) el b))

no_front : (at : At) (front behind : List ℕ) → at.rest ≡ front ++ behind → front ≡ [] → behind ≡ at.rest
no_front at front behind parts none = sym (parts ∙ ap (λ (l : List ℕ). l ++ behind) none)

pub first : {X F E : Type 0} (Breaks : F → ℕ → List ℕ → E → Type 0) (d : F) (at : At) (read : Result X E) → ((fault : E) → read ≡ Err fault → Breaks d at.place at.rest fault) → ((fault : E) → Breaks d at.place at.rest fault → read ≡ Err fault) → Judged Breaks (IsFirst d) at read
first Breaks d at read tells gives = record {
  tells = λ fault e. record { front = []; behind = at.rest; parts = refl; field = d; comes = record { front_is = refl; field_is = refl }; place = at.place; place_is = omega arith; breaks = tells fault e };
  gives = λ fault b.
      let none : length b.front ≡ 0 = ap (λ (l : List ℕ). length l) b.comes.front_is in
      gives fault (moved Breaks b.field d b.place at.place b.behind at.rest fault b.comes.field_is (omega (arith, b.place_is)) (no_front at b.front b.behind b.parts b.comes.front_is) b.breaks);
}

-- a reading that has no fault
pub never : {X F E : Type 0} (Breaks : F → ℕ → List ℕ → E → Type 0) (Comes : List ℕ → F → Type 0) (at : At) (read : Result X E) (x : X) → read ≡ Ok x → ((fault : E) → IsBroken Comes Breaks at.place at.rest fault → ⊥) → Judged Breaks Comes at read
never Breaks Comes at read x is none = record {
  tells = λ fault e. absurd (cc (is, e));
  gives = λ fault b. absurd (none fault b);
}

-- the same by other words
pub broken_as : {F E : Type 0} (Breaks : F → ℕ → List ℕ → E → Type 0) (C D : List ℕ → F → Type 0) (place : ℕ) (bytes : List ℕ) (fault : E) → IsBytes bytes → ((front : List ℕ) (field : F) → IsBytes front → C front field → D front field) → IsBroken C Breaks place bytes fault → IsBroken D Breaks place bytes fault
broken_as Breaks C D place bytes fault fits to b =
    let front_is : b.front ≡ take (length b.front) bytes = sym (ap (λ (l : List ℕ). take (length b.front) l) b.parts ∙ take_at b.front b.behind (length b.front) refl) in
    let front_fits : IsBytes b.front = subst (λ (l : List ℕ). IsBytes l) (sym front_is) (All-take (λ c. c < 256) (length b.front) bytes fits) in
    record { front = b.front; behind = b.behind; parts = b.parts; field = b.field; comes = to b.front b.field front_fits b.comes; place = b.place; place_is = b.place_is; breaks = b.breaks }

-- what isn't broken there may be named too
pub or_none : {X F E : Type 0} (Breaks : F → ℕ → List ℕ → E → Type 0) (C D : List ℕ → F → Type 0) (at : At) (read : Result X E) → IsBytes at.rest → Judged Breaks C at read → ((fault : E) → IsBroken D Breaks at.place at.rest fault → ⊥) → Judged Breaks (λ front field. C front field ⊎ D front field) at read
or_none Breaks C D at read fits j none = record {
  tells = λ fault e. broken_as Breaks C (λ front field. C front field ⊎ D front field) at.place at.rest fault fits (λ front field _ c. inl c) (j.tells fault e);
  gives = λ fault b. elim b.comes [
    | inl c ↦ j.gives fault (record { front = b.front; behind = b.behind; parts = b.parts; field = b.field; comes = c; place = b.place; place_is = b.place_is; breaks = b.breaks })
    | inr d ↦ absurd (none fault (record { front = b.front; behind = b.behind; parts = b.parts; field = b.field; comes = d; place = b.place; place_is = b.place_is; breaks = b.breaks }))
  ];
}

pub judged_as : {X F E : Type 0} (Breaks : F → ℕ → List ℕ → E → Type 0) (C D : List ℕ → F → Type 0) (at : At) (read : Result X E) → IsBytes at.rest → ((front : List ℕ) (field : F) → IsBytes front → C front field → D front field) → ((front : List ℕ) (field : F) → IsBytes front → D front field → C front field) → Judged Breaks C at read → Judged Breaks D at read
judged_as Breaks C D at read fits to back j = record {
  tells = λ fault e. broken_as Breaks C D at.place at.rest fault fits to (j.tells fault e);
  gives = λ fault b. j.gives fault (broken_as Breaks D C at.place at.rest fault fits back b);
}

-- a reading that is the same as another
pub judged_is : {X F E : Type 0} (Breaks : F → ℕ → List ℕ → E → Type 0) (C : List ℕ → F → Type 0) (at : At) (read again : Result X E) → read ≡ again → Judged Breaks C at read → Judged Breaks C at again
judged_is {X = X} {E = E} Breaks C at read again is j = subst (λ (r : Result X E). Judged Breaks C at r) is j

-- a value that is changed afterwards
pub mapped : {X Y F E : Type 0} (Breaks : F → ℕ → List ℕ → E → Type 0) (C : List ℕ → F → Type 0) (at : At) (read : Result X E) (g : X → Y) → Judged Breaks C at read → Judged Breaks C at (read >>= λ x. Ok (g x))
mapped Breaks C at read g j = record {
  tells = λ fault e. elim (bind_err read (λ x. Ok (g x)) fault e) [
    | inl here ↦ j.tells fault here
    | inr later ↦ let f = later.2 in absurd cc
  ];
  gives = λ fault b. bind_fails read (λ x. Ok (g x)) fault (j.gives fault b);
}

-- ---- one part behind another

abbrev pub Either : {X F : Type 0} → (List ℕ → F → Type 0) → (X → List ℕ) → (X → Type 0) → (X → List ℕ → F → Type 0) → List ℕ → F → Type 0
Either A text Is Then front field = A front field ⊎ FollowsWhole text Is Then front field

told_behind : {X F E : Type 0} (Breaks : F → ℕ → List ℕ → E → Type 0) (A : List ℕ → F → Type 0) (text : X → List ℕ) (Is : X → Type 0) (Then : X → List ℕ → F → Type 0) (x : X) (at next : At) (fault : E) → Is x → at.rest ≡ text x ++ next.rest → next.place ≡ at.place + length (text x)
    → IsBroken (Then x) Breaks next.place next.rest fault → IsBroken (Either A text Is Then) Breaks at.place at.rest fault
told_behind Breaks A text Is Then x at next fault is parts place b = record {
  front = text x ++ b.front;
  behind = b.behind;
  parts = parts ∙ ap (λ (l : List ℕ). text x ++ l) b.parts ∙ sym (append_assoc (text x) b.front b.behind);
  field = b.field;
  comes = inr (record { whole = x; inner = b.front; is = is; parts = refl; comes = b.comes });
  place = b.place;
  place_is = omega (arith, place, b.place_is, length-append (text x) b.front);
  breaks = b.breaks;
}

given_behind : {X Y F E : Type 0} (Breaks : F → ℕ → List ℕ → E → Type 0) (item : At → Result (X × At) E) (text : X → List ℕ) (Is : X → Type 0) → Reads item text Is → (Then : X → List ℕ → F → Type 0) (at : At) (f : X × At → Result Y E) → IsBytes at.rest
    → ((x : X) (next : At) → Is x → IsBytes next.rest → at.rest ≡ text x ++ next.rest → next.place ≡ at.place + length (text x) → Judged Breaks (Then x) next (f (x, next)))
    → (front behind : List ℕ) → at.rest ≡ front ++ behind → (field : F) → FollowsWhole text Is Then front field → (place : ℕ) → place ≡ at.place + length front → (fault : E) → Breaks field place behind fault → (item at >>= f) ≡ Err fault
given_behind {X = X} Breaks item text Is laws Then at f fits later front behind parts field h place place_is fault breaks =
    let parted : at.rest ≡ text h.whole ++ (h.inner ++ behind) = parts ∙ ap (λ (l : List ℕ). l ++ behind) h.parts ∙ append_assoc (text h.whole) h.inner behind in
    let a = laws.again h.whole at (h.inner ++ behind) h.is parted in
    let t = laws.takes at (h.whole, a.next) fits a.reads in
    let len : length front ≡ length (text h.whole) + length h.inner = ap (λ (l : List ℕ). length l) h.parts ∙ length-append (text h.whole) h.inner in
    let b : IsBroken (Then h.whole) Breaks a.next.place a.next.rest fault = record { front = h.inner; behind = behind; parts = a.left; field = field; comes = h.comes; place = place; place_is = omega (arith, t.0.place_is, place_is, len); breaks = breaks } in
    bind_is (item at) f (h.whole, a.next) (Err fault) a.reads ((later h.whole a.next h.is t.0.rest_fits t.0.parts t.0.place_is).gives fault b)

-- The second part may depend on where the first one stands.
pub then_from : {X Y F E : Type 0} (Breaks : F → ℕ → List ℕ → E → Type 0) (item : At → Result (X × At) E) (text : X → List ℕ) (Is : X → Type 0) → Reads item text Is → (A : List ℕ → F → Type 0) (Then : X → List ℕ → F → Type 0) (at : At) (f : X × At → Result Y E) → IsBytes at.rest
    → Judged Breaks A at (item at) → ((x : X) (next : At) → Is x → IsBytes next.rest → at.rest ≡ text x ++ next.rest → next.place ≡ at.place + length (text x) → Judged Breaks (Then x) next (f (x, next))) → Judged Breaks (Either A text Is Then) at (item at >>= f)
then_from Breaks item text Is laws A Then at f fits here later = record {
  tells = λ fault e. elim (bind_err (item at) f fault e) [
    | inl now ↦ broken_as Breaks A (Either A text Is Then) at.place at.rest fault fits (λ front field _ c. inl c) (here.tells fault now)
    | inr h ↦
        let t = laws.takes at h.0 fits h.1 in
        told_behind Breaks A text Is Then h.0.0 at h.0.1 fault t.1 t.0.parts t.0.place_is ((later h.0.0 h.0.1 t.1 t.0.rest_fits t.0.parts t.0.place_is).tells fault h.2)
  ];
  gives = λ fault b. elim b.comes [
    | inl c ↦ bind_fails (item at) f fault (here.gives fault (record { front = b.front; behind = b.behind; parts = b.parts; field = b.field; comes = c; place = b.place; place_is = b.place_is; breaks = b.breaks }))
    | inr h ↦ given_behind Breaks item text Is laws Then at f fits later b.front b.behind b.parts b.field h b.place b.place_is fault b.breaks
  ];
}

pub then : {X Y F E : Type 0} (Breaks : F → ℕ → List ℕ → E → Type 0) (item : At → Result (X × At) E) (text : X → List ℕ) (Is : X → Type 0) → Reads item text Is → (A : List ℕ → F → Type 0) (Then : X → List ℕ → F → Type 0) (at : At) (f : X × At → Result Y E) → IsBytes at.rest
    → Judged Breaks A at (item at) → ((x : X) (next : At) → Is x → IsBytes next.rest → Judged Breaks (Then x) next (f (x, next))) → Judged Breaks (Either A text Is Then) at (item at >>= f)
then Breaks item text Is laws A Then at f fits here later = then_from Breaks item text Is laws A Then at f fits here (λ x next is fit _ _. later x next is fit)

-- ---- so many items, one behind the other

-- fewer items than so many, and the bytes of one more
pub record IsWithin {X F : Type 0} (text : X → List ℕ) (Fits : List X → X → Type 0) (ItemHas : List X → List ℕ → F → Type 0) (n : ℕ) (before : List X) (front : List ℕ) (field : F) : Type 0 where
  pub items : List X
  pub inner : List ℕ
  pub few : length items < n
  pub fit : AllFrom Fits before items
  pub parts : front ≡ flat_map text items ++ inner
  pub comes : ItemHas (before ++ items) inner field

within_more : {X F : Type 0} (text : X → List ℕ) (Fits : List X → X → Type 0) (ItemHas : List X → List ℕ → F → Type 0) (n : ℕ) (before : List X) (front : List ℕ) (field : F)
    → Either (ItemHas before) text (Fits before) (λ x. IsWithin text Fits ItemHas n (before ++ x ∷ [])) front field → IsWithin text Fits ItemHas (suc n) before front field
within_more {X = X} text Fits ItemHas n before front field (inl c) =
    record { items = []; inner = front; few = omega arith; fit = tt; parts = refl; comes = subst (λ (l : List X). ItemHas l front field) (sym (append-nil before)) c }
within_more {X = X} text Fits ItemHas n before front field (inr h) =
    let w = h.comes in
    record {
      items = h.whole ∷ w.items;
      inner = w.inner;
      few = omega (arith, w.few);
      fit = (h.is, w.fit);
      parts = h.parts ∙ ap (λ (l : List ℕ). text h.whole ++ l) w.parts ∙ sym (append_assoc (text h.whole) (flat_map text w.items) w.inner) ∙ ap (λ (l : List ℕ). l ++ w.inner) (sym (flat_map-cons text h.whole w.items));
      comes = subst (λ (l : List X). ItemHas l w.inner field) (append_assoc before (h.whole ∷ []) w.items) w.comes;
    }

within_less : {X F : Type 0} (text : X → List ℕ) (Fits : List X → X → Type 0) (ItemHas : List X → List ℕ → F → Type 0) (n : ℕ) (before : List X) (front : List ℕ) (field : F) (items : List X) (inner : List ℕ) → length items < suc n → AllFrom Fits before items → front ≡ flat_map text items ++ inner → ItemHas (before ++ items) inner field
    → Either (ItemHas before) text (Fits before) (λ x. IsWithin text Fits ItemHas n (before ++ x ∷ [])) front field
within_less {X = X} text Fits ItemHas n before front field [] inner few fit parts comes =
    let same : ItemHas before inner field = subst (λ (l : List X). ItemHas l inner field) (append-nil before) comes in
    inl (subst (λ (l : List ℕ). ItemHas before l field) (sym parts) same)
within_less {X = X} text Fits ItemHas n before front field (x ∷ items) inner few fit parts comes =
    inr (record {
      whole = x;
      inner = flat_map text items ++ inner;
      is = fit.0;
      parts = parts ∙ ap (λ (l : List ℕ). l ++ inner) (flat_map-cons text x items) ∙ append_assoc (text x) (flat_map text items) inner;
      comes = record { items = items; inner = inner; few = omega (arith, few); fit = fit.1; parts = refl; comes = subst (λ (l : List X). ItemHas l inner field) (sym (append_assoc before (x ∷ []) items)) comes };
    })

pub many : {X F E : Type 0} (Breaks : F → ℕ → List ℕ → E → Type 0) (item : List X → At → Result (X × At) E) (text : X → List ℕ) (Fits : List X → X → Type 0) → ((before : List X) → Reads (item before) text (Fits before)) → (ItemHas : List X → List ℕ → F → Type 0)
    → ((before : List X) (at : At) → IsBytes at.rest → Judged Breaks (ItemHas before) at (item before at)) → (n : ℕ) (before : List X) (at : At) → IsBytes at.rest → Judged Breaks (IsWithin text Fits ItemHas n before) at (many_from item n before at)
unfolding many_from
many Breaks item text Fits laws ItemHas each zero before at fits =
    never Breaks (IsWithin text Fits ItemHas 0 before) at _ (before, at) refl (λ fault b. omega (arith, b.comes.few))
many {X = X} Breaks item text Fits laws ItemHas each (suc n) before at fits =
    let later : (x : X) (next : At) → Fits before x → IsBytes next.rest → Judged Breaks (IsWithin text Fits ItemHas n (before ++ x ∷ [])) next (many_from item n (before ++ x ∷ []) next) = λ x next is fit. many Breaks item text Fits laws ItemHas each n (before ++ x ∷ []) next fit in
    judged_as Breaks _ (IsWithin text Fits ItemHas (suc n) before) at _ fits
    (λ front field _ c. within_more text Fits ItemHas n before front field c)
    (λ front field _ w. within_less text Fits ItemHas n before front field w.items w.inner w.few w.fit w.parts w.comes)
    (then Breaks (item before) text (Fits before) (laws before) (ItemHas before) (λ x. IsWithin text Fits ItemHas n (before ++ x ∷ [])) at _ fits (each before at fits) later)
