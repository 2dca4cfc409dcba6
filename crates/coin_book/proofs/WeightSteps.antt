-- The weights of listed scripts, one script at a time.
use Rattle.std.proofs.Common.{◌≡◌, ◌∙◌, ℕ, Bool, true, false, cond, List, [], ◌∷◌, ◌++◌, Option, Some, None, refl, sym, ap, Vec, Global, true≢false}
use Rattle.std.specs.Prelude.{is_some, option_map, find, bytes_eq}
use Rattle.std.specs.Map.{lookup}
use Rattle.std.specs.Option.{option_or}
use Rattle.std.proofs.lemmas.List.Folds.{find-append}
use Rattle.std.proofs.lemmas.Slice.Eq.{bytes_eq-Decides}
use Rattle.indexmap.specs.IndexMap.{insert_entry}
use Rattle.wallet_text.specs.declared.wallet.Watch.{Watch}
use Rattle.coin_book.specs.Coins.{weight_for}
use Rattle.coin_book.specs.Invariant.{weigher}

abbrev Weighed : Type 0
Weighed = List (Vec ℕ Global × ℕ)

map_or : (a b : Option Watch) → option_map (λ (s : Watch). s.weight) (option_or a b) ≡ option_or (option_map (λ (s : Watch). s.weight) a) (option_map (λ (s : Watch). s.weight) b)
map_or None b = refl
map_or (Some s) b = refl

one_weight : (b : Bool) (s : Watch) → option_map (λ (s : Watch). s.weight) (cond b (Some s) None) ≡ cond b (Some s.weight) None
one_weight true s = refl
one_weight false s = refl

weight_push : (watches : List Watch) (s : Watch) (script : List ℕ) → weight_for (watches ++ s ∷ []) script ≡ option_or (weight_for watches script) (cond (bytes_eq script s.script) (Some s.weight) None)
weight_push watches s script =
    let same : Watch → Bool = λ w. bytes_eq script w.script in
    ap (λ (o : Option Watch). option_map (λ (s : Watch). s.weight) o) (find-append same watches (s ∷ []))
    ∙ map_or (find same watches) (cond (same s) (Some s) None)
    ∙ ap (option_or (weight_for watches script)) (one_weight (same s) s)

or_in : (b : Bool) (n : ℕ) (o p q : Option ℕ) → o ≡ option_or p q → cond b (Some n) o ≡ option_or (cond b (Some n) p) q
or_in true n o p q e = refl
or_in false n o p q e = e

lookup_push : (test : Vec ℕ Global → Bool) (es : List (Vec ℕ Global × ℕ)) (k : Vec ℕ Global) (n : ℕ) → lookup test (es ++ (k, n) ∷ []) ≡ option_or (lookup test es) (cond (test k) (Some n) None)
lookup_push test [] k n = refl
lookup_push test (e ∷ es) k n = or_in (test e.0) e.1 (lookup test (es ++ (k, n) ∷ [])) (lookup test es) (cond (test k) (Some n) None) (lookup_push test es k n)

-- a script that wasn't listed before
pub weighed_new : (es : List (Vec ℕ Global × ℕ)) (watches : List Watch) (s : Watch) (k : Vec ℕ Global) (script : List ℕ) → k.items ≡ s.script → weigher es script ≡ weight_for watches script → weigher (es ++ (k, s.weight) ∷ []) script ≡ weight_for (watches ++ s ∷ []) script
weighed_new es watches s k script key was =
    lookup_push (λ (v : Vec ℕ Global). bytes_eq script v.items) es k s.weight
    ∙ ap (λ (b : Bool). option_or (weigher es script) (cond b (Some s.weight) None)) (ap (bytes_eq script) key)
    ∙ ap (λ (o : Option ℕ). option_or o (cond (bytes_eq script s.script) (Some s.weight) None)) was
    ∙ sym (weight_push watches s script)

or_some : (o p : Option ℕ) → is_some o ≡ true → option_or o p ≡ o
or_some None p e = absurd (true≢false (sym e))
or_some (Some n) p e = refl

pub or_none : (o : Option ℕ) → option_or o None ≡ o
or_none None = refl
or_none (Some n) = refl

-- a script that was listed before
pub weighed_old : (es : List (Vec ℕ Global × ℕ)) (watches : List Watch) (s : Watch) (script : List ℕ) → is_some (weigher es s.script) ≡ true → ((q : List ℕ) → weigher es q ≡ weight_for watches q) → weigher es script ≡ weight_for (watches ++ s ∷ []) script
weighed_old es watches s script there was = by_same (bytes_eq script s.script) refl
  where
    by_same : (b : Bool) → bytes_eq script s.script ≡ b → weigher es script ≡ weight_for (watches ++ s ∷ []) script
    by_same true e =
        let same : script ≡ s.script = (bytes_eq-Decides script s.script).0 e in
        let some : is_some (weight_for watches script) ≡ true = ap (λ (o : Option ℕ). is_some o) (sym (was script)) ∙ ap (λ (q : List ℕ). is_some (weigher es q)) same ∙ there in
        was script ∙ sym (or_some (weight_for watches script) _ some) ∙ sym (weight_push watches s script)
    by_same false e =
        was script ∙ sym (or_none (weight_for watches script)) ∙ ap (λ (b : Bool). option_or (weight_for watches script) (cond b (Some s.weight) None)) (sym e) ∙ sym (weight_push watches s script)

pub insert_absent : (es : List (Vec ℕ Global × ℕ)) (k : Vec ℕ Global) (n : ℕ) → is_some (weigher es k.items) ≡ false → insert_entry (λ (x y : Vec ℕ Global). bytes_eq x.items y.items) es k n ≡ es ++ (k, n) ∷ []
insert_absent [] k n none = refl
insert_absent (e ∷ es) k n none = by_test (bytes_eq k.items e.0.items) none (insert_absent es k n)
  where
    by_test : (b : Bool) → is_some (cond b (Some e.1) (weigher es k.items)) ≡ false → (is_some (weigher es k.items) ≡ false → insert_entry (λ (x y : Vec ℕ Global). bytes_eq x.items y.items) es k n ≡ es ++ (k, n) ∷ [])
        → cond b ((e.0, n) ∷ es) (e ∷ insert_entry (λ (x y : Vec ℕ Global). bytes_eq x.items y.items) es k n) ≡ e ∷ (es ++ (k, n) ∷ [])
    by_test true h again = absurd (true≢false h)
    by_test false h again = ap (λ (l : List (Vec ℕ Global × ℕ)). e ∷ l) (again h)
