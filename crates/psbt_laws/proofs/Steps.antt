-- Tests that take no bytes: which field they are, and what comes behind them.
use Rattle.std.proofs.Common.{◌≡◌, ◌<◌, ℕ, Bool, true, false, cond, List, Result, Ok, Err, refl, sym, ap, subst, ◌∙◌, inl, inr}
use Rattle.std.specs.Prelude.{Option, Some, None, option_and_then, ◌⊎◌, AllPairs, Contains, ⊤}
use Rattle.fund_base.specs.Cursor.{At, IsBytes}
use Rattle.fund_base.specs.Parsing.{◌>>=◌}
use Rattle.fund_base.proofs.Laws.{bind_is}
use Rattle.psbt_codec.specs.declared.fault.PsbtFault.{PsbtFault}
use Rattle.psbt_codec.specs.Psbt.{Pair, typed, HaveOtherKeys}
use Rattle.psbt_codec.specs.Reading.{needed, value_of}
use Rattle.psbt_codec.proofs.MapMeaning.{found_typed, missing_typed, value_there}
use Rattle.psbt_codec.proofs.Optional.{needed_ok}
use Rattle.tx_laws.specs.Broken.{IsFirst}
use Rattle.tx_laws.proofs.Judged.{Judged, bind_err, bind_fails, broken_as, first, judged_as}
use Rattle.psbt_laws.specs.Fields.{Field, Breaks, Lacks}
use Rattle.psbt_laws.specs.Fields.Field.{Needed}
use Rattle.psbt_laws.specs.Order.{Tested, Told}

pub known_then : {X Y : Type 0} (d : Field) (Is : X → Type 0) (Then : X → List ℕ → Field → Type 0) (at : At) (r : Result X PsbtFault) (f : X → Result Y PsbtFault) → IsBytes at.rest → ((x : X) → r ≡ Ok x → Is x) → ((x : X) → Is x → r ≡ Ok x)
    → Judged Breaks (IsFirst d) at r → ((x : X) → Is x → Judged Breaks (Then x) at (f x)) → Judged Breaks (λ front field. IsFirst d front field ⊎ ((x : X) × Is x × Then x front field)) at (r >>= f)
known_then {X = X} d Is Then at r f fits known read here later =
    let Both : List ℕ → Field → Type 0 = λ front field. IsFirst d front field ⊎ ((x : X) × Is x × Then x front field) in
    record {
      tells = λ fault e. elim (bind_err r f fault e) [
        | inl now ↦ broken_as Breaks (IsFirst d) Both at.place at.rest fault fits (λ front field _ c. inl c) (here.tells fault now)
        | inr h ↦
            let is = known h.0 h.1 in
            broken_as Breaks (Then h.0) Both at.place at.rest fault fits (λ front field _ c. inr (h.0, is, c)) ((later h.0 is).tells fault h.2)
      ];
      gives = λ fault b. elim b.comes [
        | inl c ↦ bind_fails r f fault (here.gives fault (record { front = b.front; behind = b.behind; parts = b.parts; field = b.field; comes = c; place = b.place; place_is = b.place_is; breaks = b.breaks }))
        | inr h ↦ bind_is r f h.0 (Err fault) (read h.0 h.1) ((later h.0 h.1).gives fault (record { front = b.front; behind = b.behind; parts = b.parts; field = b.field; comes = h.2; place = b.place; place_is = b.place_is; breaks = b.breaks }))
      ];
    }

-- ---- a test with a yes or no

to_tested : (d : Field) (Is : Type 0) (Then : List ℕ → Field → Type 0) (front : List ℕ) (field : Field) → IsFirst d front field ⊎ ((u : ⊤) × Is × Then front field) → Tested d Is Then front field
to_tested d Is Then front field (inl c) = inl c
to_tested d Is Then front field (inr h) = inr (h.1, h.2)

from_tested : (d : Field) (Is : Type 0) (Then : List ℕ → Field → Type 0) (front : List ℕ) (field : Field) → Tested d Is Then front field → IsFirst d front field ⊎ ((u : ⊤) × Is × Then front field)
from_tested d Is Then front field (inl c) = inl c
from_tested d Is Then front field (inr h) = inr (tt, h.0, h.1)

pub tested_then : {Y : Type 0} (d : Field) (Is : Type 0) (Then : List ℕ → Field → Type 0) (at : At) (r : Result ⊤ PsbtFault) (f : ⊤ → Result Y PsbtFault) → IsBytes at.rest → ((u : ⊤) → r ≡ Ok u → Is) → ((u : ⊤) → Is → r ≡ Ok u)
    → ((fault : PsbtFault) → r ≡ Err fault → Breaks d at.place at.rest fault) → ((fault : PsbtFault) → Breaks d at.place at.rest fault → r ≡ Err fault) → (Is → Judged Breaks Then at (f tt)) → Judged Breaks (Tested d Is Then) at (r >>= f)
tested_then d Is Then at r f fits known read tells gives later =
    judged_as Breaks (λ front field. IsFirst d front field ⊎ ((u : ⊤) × Is × Then front field)) (Tested d Is Then) at _ fits (λ front field _ c. to_tested d Is Then front field c) (λ front field _ c. from_tested d Is Then front field c)
    (known_then d (λ _. Is) (λ _. Then) at r f fits known read (first Breaks d at r tells gives) (λ u is. later is))

-- a test that refuses, as a step
pub refuses : {B : Type 0} (b : Bool) (e : PsbtFault) (k : ⊤ → Result B PsbtFault) → (cond {A = Result ⊤ PsbtFault} b (Err e) (Ok tt) >>= k) ≡ cond b (Err e) (k tt)
refuses true e k = refl
refuses false e k = refl

-- the same of a test that must hold
pub asks : {B : Type 0} (b : Bool) (e : PsbtFault) (k : ⊤ → Result B PsbtFault) → (cond {A = Result ⊤ PsbtFault} b (Ok tt) (Err e) >>= k) ≡ cond b (k tt) (Err e)
asks true e k = refl
asks false e k = refl

-- ---- a pair that must be there

-- what is told under a type: each value there is the text of something that fits, which is decoded from it
pub record Tellings {X : Type 0} (decode : List ℕ → Option X) (text : X → List ℕ) (Fits : X → Type 0) (kind : ℕ) (pairs : List Pair) : Type 0 where
  pub small : kind < 253
  pub distinct : AllPairs HaveOtherKeys pairs
  pub holds : (value : List ℕ) → Contains pairs (typed kind value) → (x : X) × Fits x × (value ≡ text x)
  pub again : (x : X) → Fits x → decode (text x) ≡ Some x

needed_by : {X : Type 0} (decode : List ℕ → Option X) (text : X → List ℕ) (Fits : X → Type 0) (kind : ℕ) (pairs : List Pair) → Tellings decode text Fits kind pairs → (o : Option (List ℕ)) → value_of kind pairs ≡ o → (x : X) → needed kind (option_and_then decode o) ≡ Ok x → Fits x × Contains pairs (typed kind (text x))
needed_by decode text Fits kind pairs t None is x e = absurd cc
needed_by {X = X} decode text Fits kind pairs t (Some value) is x e =
    let there = found_typed pairs kind value t.small is in
    let h = t.holds value there in
    let read : decode value ≡ Some x = needed_ok kind (decode value) x e in
    let again : decode value ≡ Some h.0 = ap decode h.2 ∙ t.again h.0 h.1 in
    let same : h.0 ≡ x = cc in
    subst (λ (y : X). Fits y × Contains pairs (typed kind (text y))) same (h.1, subst (λ (v : List ℕ). Contains pairs (typed kind v)) h.2 there)

none_needed : {X : Type 0} (decode : List ℕ → Option X) (text : X → List ℕ) (Fits : X → Type 0) (kind : ℕ) (pairs : List Pair) → Tellings decode text Fits kind pairs → (o : Option (List ℕ)) → value_of kind pairs ≡ o → (fault : PsbtFault) → needed kind (option_and_then decode o) ≡ Err fault → Lacks kind pairs fault
none_needed decode text Fits kind pairs t None is fault e = record { none = missing_typed_all; is = sym cc }
  where
    missing_typed_all : (value : List ℕ) → Contains pairs (typed kind value) → ⊥
    missing_typed_all value there = missing_typed pairs kind value t.small is there
none_needed decode text Fits kind pairs t (Some value) is fault e =
    let there = found_typed pairs kind value t.small is in
    let h = t.holds value there in
    let again : decode value ≡ Some h.0 = ap decode h.2 ∙ t.again h.0 h.1 in
    let read : needed kind (decode value) ≡ Ok h.0 = ap (λ p. needed kind p) again in
    absurd (cc (read, e))

lacking : {X : Type 0} (decode : List ℕ → Option X) (kind : ℕ) (pairs : List Pair) → kind < 253 → (o : Option (List ℕ)) → value_of kind pairs ≡ o → (fault : PsbtFault) → Lacks kind pairs fault → needed kind (option_and_then decode o) ≡ Err fault
lacking decode kind pairs small None is fault l = ap (λ (f : PsbtFault). Err f) (sym l.is)
lacking decode kind pairs small (Some value) is fault l = absurd (l.none value (found_typed pairs kind value small is))

needed_again : {X : Type 0} (decode : List ℕ → Option X) (text : X → List ℕ) (Fits : X → Type 0) (kind : ℕ) (pairs : List Pair) → Tellings decode text Fits kind pairs → (x : X) → Fits x × Contains pairs (typed kind (text x)) → needed kind (option_and_then decode (value_of kind pairs)) ≡ Ok x
needed_again decode text Fits kind pairs t x is =
    ap (λ (o : Option (List ℕ)). needed kind (option_and_then decode o)) (value_there pairs kind (text x) t.small t.distinct is.1) ∙ ap (λ p. needed kind p) (t.again x is.0)

pub needed_then : {X Y : Type 0} (decode : List ℕ → Option X) (text : X → List ℕ) (Fits : X → Type 0) (kind : ℕ) (pairs : List Pair) → Tellings decode text Fits kind pairs → (Then : X → List ℕ → Field → Type 0) (at : At) (f : X → Result Y PsbtFault) → IsBytes at.rest
    → ((x : X) → Fits x → Contains pairs (typed kind (text x)) → Judged Breaks (Then x) at (f x)) → Judged Breaks (Told kind text Fits pairs Then) at (needed kind (option_and_then decode (value_of kind pairs)) >>= f)
needed_then decode text Fits kind pairs t Then at f fits later =
    known_then (Needed kind pairs) (λ x. Fits x × Contains pairs (typed kind (text x))) Then at (needed kind (option_and_then decode (value_of kind pairs))) f fits
    (λ x e. needed_by decode text Fits kind pairs t (value_of kind pairs) refl x e)
    (λ x is. needed_again decode text Fits kind pairs t x is)
    (first Breaks (Needed kind pairs) at _ (λ fault e. none_needed decode text Fits kind pairs t (value_of kind pairs) refl fault e) (λ fault l. lacking decode kind pairs t.small (value_of kind pairs) refl fault l))
    (λ x is. later x is.0 is.1)
