-- Maps that take the entries of others, each under a new key.
use Rattle.std.proofs.Common.{◌≡◌, ◌∙◌, ℕ, Bool, true, false, cond, ◌||◌, List, [], ◌∷◌, ◌++◌, length, Option, Some, None, Result, Ok, Err, IsOk, IfOk, refl, sym, ap, append_assoc, true≢false}
use Rattle.std.specs.Prelude.{bytes_eq, is_some, nat_lt}
use Rattle.std.specs.List.{AllByRecursion, IsDistinct, list_any}
use Rattle.std.specs.Map.{keys_of, lookup}
use Rattle.std.specs.Option.{option_or}
use Rattle.std.proofs.lemmas.Map.Keys.{IsDistinct-head, IsDistinct-tail}
use Rattle.std.proofs.lemmas.Map.Made.{is_some-lookup}
use Rattle.std.proofs.lemmas.Slice.Eq.{bytes_eq-Decides}
use Rattle.std.proofs.lemmas.List.{append-nil, map-append}
use Rattle.indexmap.specs.IndexMap.{insert_all, insert_entry}
use Rattle.fund_base.specs.Outpoints.{same_outpoint}
use Rattle.fund_base.specs.declared.outpoint.OutPoint.{OutPoint}
use Rattle.coin_book.specs.Faults.{fault_behind}
use Rattle.coin_book.specs.declared.fault.BookFault.TheVariants.{Full, RepeatCoin}

-- what a call that ends well says
pub told_ok : {A E Q : Type 0} (r : Result A E) → IsOk r → IfOk r (λ _. Q) → Q
told_ok (Ok a) good said = said
told_ok (Err e) good said = absurd (true≢false (sym good))

-- a new key goes last
pub insert_last : {K X : Type 0} (eq : K → K → Bool) (es : List (K × X)) (k : K) (v : X) → list_any (eq k) (keys_of es) ≡ false → insert_entry eq es k v ≡ es ++ (k, v) ∷ []
insert_last eq [] k v fresh = refl
insert_last {K = K} {X = X} eq (e ∷ es) k v fresh = by (eq k e.0) refl (insert_last eq es k v)
  where
    by : (b : Bool) → eq k e.0 ≡ b → (list_any (eq k) (keys_of es) ≡ false → insert_entry eq es k v ≡ es ++ (k, v) ∷ []) → cond (eq k e.0) ((e.0, v) ∷ es) (e ∷ insert_entry eq es k v) ≡ e ∷ (es ++ (k, v) ∷ [])
    by true here rest = absurd (true≢false (sym (ap (λ (b : Bool). b || list_any (eq k) (keys_of es)) here) ∙ fresh))
    by false here rest =
        ap (λ (b : Bool). cond b ((e.0, v) ∷ es) (e ∷ insert_entry eq es k v)) here
        ∙ ap (λ (l : List (K × X)). e ∷ l) (rest (sym (ap (λ (b : Bool). b || list_any (eq k) (keys_of es)) here) ∙ fresh))

key_last : {X : Type 0} (es : List (OutPoint × X)) (o : OutPoint) (v : X) → keys_of (es ++ (o, v) ∷ []) ≡ keys_of es ++ o ∷ []
key_last es o v = map-append (λ e. e.0) es ((o, v) ∷ [])

fresh_first : (before os : List OutPoint) (o : OutPoint) → fault_behind before (o ∷ os) ≡ None → (list_any (same_outpoint o) before ≡ false) × (fault_behind (before ++ o ∷ []) os ≡ None)
unfolding fault_behind
fresh_first before os o is = by (list_any (same_outpoint o) before) (nat_lt (length before) 100_000) refl is
  where
    by : (b room : Bool) → list_any (same_outpoint o) before ≡ b → cond b (Some (RepeatCoin o)) (cond room (fault_behind (before ++ o ∷ []) os) (Some Full)) ≡ None → (list_any (same_outpoint o) before ≡ false) × (fault_behind (before ++ o ∷ []) os ≡ None)
    by true room e is = absurd cc
    by false true e is = (e, is)
    by false false e is = absurd cc

-- coins that break no rule go after the others
pub coins_behind : {X : Type 0} (es xs : List (OutPoint × X)) → fault_behind (keys_of es) (keys_of xs) ≡ None → insert_all same_outpoint es xs ≡ es ++ xs
coins_behind es [] is = sym (append-nil es)
coins_behind {X = X} es (x ∷ xs) is =
    let f = fresh_first (keys_of es) (keys_of xs) x.0 is in
    let last = insert_last same_outpoint es x.0 x.1 f.0 in
    ap (λ (l : List (OutPoint × X)). insert_all same_outpoint l xs) last
    ∙ coins_behind (es ++ (x.0, x.1) ∷ []) xs (ap (λ (os : List OutPoint). fault_behind os (keys_of xs)) (key_last es x.0 x.1) ∙ f.1)
    ∙ append_assoc es (x ∷ []) xs

-- ---- heights

pub lookup_both : {K X : Type 0} (p : K → Bool) (es xs : List (K × X)) → lookup p (es ++ xs) ≡ option_or (lookup p es) (lookup p xs)
lookup_both p [] xs = refl
lookup_both p (e ∷ es) xs = by (p e.0) (lookup_both p es xs)
  where
    by : (b : Bool) → lookup p (es ++ xs) ≡ option_or (lookup p es) (lookup p xs) → cond b (Some e.1) (lookup p (es ++ xs)) ≡ option_or (cond b (Some e.1) (lookup p es)) (lookup p xs)
    by true rest = refl
    by false rest = rest

none_from : (k : List ℕ) (xs : List (List ℕ × ℕ)) → AllByRecursion (λ y. bytes_eq k y ≡ false) (keys_of xs) → lookup (bytes_eq k) xs ≡ None
none_from k [] others = refl
none_from k (x ∷ xs) others = ap (λ (b : Bool). cond b (Some x.1) (lookup (bytes_eq k) xs)) others.0 ∙ none_from k xs others.1

pub heights_behind : (es xs : List (List ℕ × ℕ)) → IsDistinct bytes_eq (keys_of xs) → ((t : List ℕ) → is_some (lookup (bytes_eq t) es) ≡ true → lookup (bytes_eq t) xs ≡ None) → insert_all bytes_eq es xs ≡ es ++ xs
heights_behind es [] once apart = sym (append-nil es)
heights_behind es (x ∷ xs) once apart =
    ap (λ (l : List (List ℕ × ℕ)). insert_all bytes_eq l xs) (insert_last bytes_eq es x.0 x.1 (fresh (list_any (bytes_eq x.0) (keys_of es)) refl))
    ∙ heights_behind (es ++ (x.0, x.1) ∷ []) xs (IsDistinct-tail bytes_eq x.0 (keys_of xs) once) (λ t there. next t (bytes_eq t x.0) refl there)
    ∙ append_assoc es (x ∷ []) xs
  where
    fresh : (b : Bool) → list_any (bytes_eq x.0) (keys_of es) ≡ b → b ≡ false
    fresh false e = refl
    fresh true e = absurd (none_some (sym (ap (λ (b : Bool). cond b (Some x.1) (lookup (bytes_eq x.0) xs)) ((bytes_eq-Decides x.0 x.0).1 refl)) ∙ apart x.0 (is_some-lookup (bytes_eq x.0) es ∙ e)))
      where
        none_some : Some x.1 ≡ None → ⊥
        none_some h = cc

    next : (t : List ℕ) (b : Bool) → bytes_eq t x.0 ≡ b → is_some (lookup (bytes_eq t) (es ++ (x.0, x.1) ∷ [])) ≡ true → lookup (bytes_eq t) xs ≡ None
    next t true here there = ap (λ (k : List ℕ). lookup (bytes_eq k) xs) ((bytes_eq-Decides t x.0).0 here) ∙ none_from x.0 xs (IsDistinct-head bytes_eq x.0 (keys_of xs) once)
    next t false here there =
        let old : is_some (lookup (bytes_eq t) es) ≡ true =
        sym (ap (λ (o : Option ℕ). is_some o) (lookup_both (bytes_eq t) es ((x.0, x.1) ∷ []) ∙ ap (λ (b : Bool). option_or (lookup (bytes_eq t) es) (cond b (Some x.1) None)) here ∙ no_more (lookup (bytes_eq t) es))) ∙ there
        in
        sym (ap (λ (b : Bool). cond b (Some x.1) (lookup (bytes_eq t) xs)) here) ∙ apart t old
      where
        no_more : (o : Option ℕ) → option_or o None ≡ o
        no_more None = refl
        no_more (Some y) = refl
