-- Which step it is that fails.
use Rattle.std.proofs.Common.{◌≡◌, ℕ, zero, suc, ◌+◌, ◌<◌, Bool, true, false, cond, List, [], ◌∷◌, ◌++◌, length, Result, Ok, Err, refl, sym, ap, ◌∙◌, append_assoc, arith, inl, inr}
use Rattle.std.specs.Prelude.{◌⊎◌}
use Rattle.std.specs.List.{flat_map, AllByRecursion}
use Rattle.std.proofs.lemmas.List.{length-append}
use Rattle.std.proofs.lemmas.List.Concat.{flat_map-cons}
use Rattle.fund_base.specs.Cursor.{At, IsBytes}
use Rattle.fund_base.specs.Parsing.{◌>>=◌, fault_as, many_from}
use Rattle.fund_base.proofs.Laws.{bind_is, Takes, takes_then, takes_none, Reads}

-- the fault of the first step, or of the second at what the first gave
pub bind_err : {A B E : Type 0} (r : Result A E) (f : A → Result B E) (d : E) → (r >>= f) ≡ Err d → (r ≡ Err d) ⊎ ((x : A) × (r ≡ Ok x) × (f x ≡ Err d))
bind_err (Ok x) f d e = inr (x, refl, e)
bind_err {E = E} (Err c) f d e =
    let same : c ≡ d = cc in
    inl (ap (λ (x : E). Err x) same)

pub bind_fails : {A B E : Type 0} (r : Result A E) (f : A → Result B E) (d : E) → r ≡ Err d → (r >>= f) ≡ Err d
bind_fails {A = A} {E = E} r f d e = ap (λ (s : Result A E). s >>= f) e

-- the fault of a test, or of what follows it
pub guard_err : {A E : Type 0} (b : Bool) (c : E) (r : Result A E) (d : E) → cond b (Err c) r ≡ Err d → ((b ≡ true) × (d ≡ c)) ⊎ ((b ≡ false) × (r ≡ Err d))
guard_err true c r d e = inl (refl, cc)
guard_err false c r d e = inr (refl, e)

pub guard_unmet : {A E : Type 0} (b : Bool) (c : E) (x : A) (d : E) → cond b (Ok x) (Err c) ≡ Err d → (b ≡ false) × (d ≡ c)
guard_unmet true c x d e = absurd cc
guard_unmet false c x d e = (refl, cc)

-- a fault as it was before it was told as another
pub told_err : {A E F : Type 0} (tell : E → F) (r : Result A E) (d : F) → fault_as tell r ≡ Err d → (x : E) × (r ≡ Err x) × (d ≡ tell x)
told_err tell (Ok y) d e = absurd cc
told_err tell (Err x) d e = (x, refl, cc)

pub told_fails : {A E F : Type 0} (tell : E → F) (r : Result A E) (x : E) → r ≡ Err x → fault_as tell r ≡ Err (tell x)
told_fails {A = A} {E = E} tell r x e = ap (λ (s : Result A E). fault_as tell s) e

-- ---- one item after the other

-- some items were read, fewer than so many, and the next one failed behind them
pub record FailsBehind {X E : Type 0} (item : At → Result (X × At) E) (text : X → List ℕ) (Fits : X → Type 0) (n : ℕ) (at : At) (d : E) : Type 0 where
  pub items : List X
  pub next : At
  pub takes : Takes at (flat_map text items) next
  pub few : length items < n
  pub fits : AllByRecursion Fits items
  pub fails : item next ≡ Err d

pub many_fail : {X E : Type 0} (item : At → Result (X × At) E) (text : X → List ℕ) (Fits : X → Type 0) → Reads item text Fits → (n : ℕ) (before : List X) (at : At) (d : E) → IsBytes at.rest → many_from (λ _. item) n before at ≡ Err d → FailsBehind item text Fits n at d
unfolding many_from
many_fail item text Fits laws zero before at d fits e = absurd cc
many_fail item text Fits laws (suc n) before at d fits e =
    elim (bind_err (item at) _ d e) [
      | inl first ↦ record { items = []; next = at; takes = takes_none at fits; few = omega arith; fits = tt; fails = first }
      | inr later ↦
          let one = laws.takes at later.0 fits later.1 in
          let others = many_fail item text Fits laws n (before ++ later.0.0 ∷ []) later.0.1 d one.0.rest_fits later.2 in
          let few = others.few in
          record {
            items = later.0.0 ∷ others.items;
            next = others.next;
            takes = rw flat_map-cons (takes_then at later.0.1 others.next (text later.0.0) (flat_map text others.items) one.0 others.takes);
            few = omega arith;
            fits = (one.1, others.fits);
            fails = others.fails;
          }
    ]

same_spot : (at next : At) → at.rest ≡ next.rest → next.place ≡ at.place → at ≡ next
same_spot at next rest place = ap (λ (l : List ℕ). record at { rest = l }) rest ∙ ap (λ (p : ℕ). record next { place = p }) (sym place)

pub many_fail_again : {X E : Type 0} (item : At → Result (X × At) E) (text : X → List ℕ) (Fits : X → Type 0) → Reads item text Fits → (xs : List X) (n : ℕ) (before : List X) (at next : At) (d : E)
    → IsBytes at.rest → AllByRecursion Fits xs → length xs < n → at.rest ≡ flat_map text xs ++ next.rest → next.place ≡ at.place + length (flat_map text xs) → item next ≡ Err d → many_from (λ _. item) n before at ≡ Err d
unfolding many_from
many_fail_again item text Fits laws xs zero before at next d fits each few parts place fails = absurd (omega arith)
many_fail_again item text Fits laws [] (suc n) before at next d fits each few parts place fails =
    let here : at ≡ next = same_spot at next parts (omega arith) in
    bind_fails _ _ d (ap item here ∙ fails)
many_fail_again {X = X} item text Fits laws (x ∷ xs) (suc n) before at next d fits each few parts place fails =
    let whole : flat_map text (x ∷ xs) ≡ text x ++ flat_map text xs = flat_map-cons text x xs in
    let parted : at.rest ≡ text x ++ (flat_map text xs ++ next.rest) = parts ∙ ap (λ (l : List ℕ). l ++ next.rest) whole ∙ append_assoc (text x) (flat_map text xs) next.rest in
    let a = laws.again x at (flat_map text xs ++ next.rest) each.0 parted in
    let t = laws.takes at (x, a.next) fits a.reads in
    let len : length (flat_map text (x ∷ xs)) ≡ length (text x) + length (flat_map text xs) = ap (λ (l : List ℕ). length l) whole ∙ length-append (text x) (flat_map text xs) in
    let there : next.place ≡ a.next.place + length (flat_map text xs) = omega (arith, t.0.place_is) in
    bind_is _ _ _ _ a.reads (many_fail_again item text Fits laws xs n (before ++ x ∷ []) a.next next d t.0.rest_fits each.1 (omega arith) a.left there fails)
