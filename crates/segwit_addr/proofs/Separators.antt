-- Where the separator of a text stands.
use Rattle.std.proofs.Common.{◌≡◌, ◌≢◌, ℕ, ◌+◌, ◌-◌, ◌<◌, suc, Bool, false, cond, List, [], ◌∷◌, ◌++◌, length, get_or, take, drop, reverse, Option, Some, None, sym, ◌∙◌, ap, subst, refl, arith, inl, inr, append_assoc, length-append}
use Rattle.std.specs.Prelude.{◌⊎◌, ◌==◌}
use Rattle.std.specs.List.{All, position_or_len}
use Rattle.std.proofs.lemmas.Bool.{eqb-true, eq-eqb, ne_eqb, lt-ltb, le-ltb, cases_eq}
use Rattle.std.proofs.lemmas.List.{get_or-reverse, get_or-append_right, length-reverse, take-append-drop, drop_more, take_at, drop_at}
use Rattle.std.proofs.lemmas.List.Elements.{All-nil, All-cons}
use Rattle.std.proofs.lemmas.List.Sums.{position_or_len_is}
use Rattle.std.proofs.lemmas.List.Quantifiers.{position-Some}
use Rattle.segwit_addr.specs.Judging.{IsSplit}
use Rattle.segwit_addr.specs.Reading.{behind_last, parts_at, split_at}

abbrev is_one : ℕ → Bool
is_one c = c == 49

-- a 1 stands where the last one was found
pub split_found : (text : List ℕ) (behind : ℕ) → behind_last text ≡ Some behind → text ≡ take (length text - behind - 1) text ++ 49 ∷ drop (length text - behind) text
split_found text behind is =
    let found = position-Some (λ (c : ℕ). c == 49) (reverse text) behind 0 is in
    let within : behind < length text = omega (arith, found.0, length-reverse text) in
    let at = length text - behind - 1 in
    let one : get_or text at 0 ≡ 49 = ap (λ (k : ℕ). get_or text k 0) (omega arith) ∙ sym (get_or-reverse text behind 0 within) ∙ eqb-true _ _ found.1 in
    let rest : drop at text ≡ 49 ∷ drop (length text - behind) text =
    drop_more text at 0 (omega arith) ∙ (λ i. one i ∷ drop (let next : at + 1 ≡ length text - behind = omega arith in next i) text) in
    sym (take-append-drop at text) ∙ ap (λ (l : List ℕ). take at text ++ l) rest

-- the row of a text's letters, from a `1` on
from_one : (prefix letters : List ℕ) (j m : ℕ) → j ≡ length prefix + m → get_or (prefix ++ 49 ∷ letters) j 0 ≡ get_or (49 ∷ letters) m 0
from_one prefix letters j m e =
    let behind : j - length prefix ≡ m = omega (arith, e) in
    get_or-append_right prefix (49 ∷ letters) (length prefix) j 0 refl (omega (arith, e)) ∙ ap (λ (i : ℕ). get_or (49 ∷ letters) i 0) behind

-- a `1` after which none stands is the last one
pub behind_one : (prefix letters : List ℕ) → All (λ c. c ≢ 49) letters → behind_last (prefix ++ 49 ∷ letters) ≡ Some (length letters)
behind_one prefix letters none =
    let text : List ℕ = prefix ++ 49 ∷ letters in
    let n = length letters in
    let long : length text ≡ length prefix + suc n = length-append prefix (49 ∷ letters) in
    let other : (k : ℕ) → k < n → is_one (get_or (reverse text) k 0) ≡ false = λ k lt.
    ne_eqb _ _ (λ one.
    none (n - 1 - k) 0 (omega arith)
    (sym (from_one prefix letters (length text - 1 - k) (suc (n - 1 - k)) (omega (arith, long, lt))) ∙ sym (get_or-reverse text k 0 (omega (arith, long, lt))) ∙ one)) in
    let one : get_or (reverse text) n 0 ≡ 49 = get_or-reverse text n 0 (omega (arith, long)) ∙ from_one prefix letters (length text - 1 - n) 0 (omega (arith, long)) in
    let within : n < length (reverse text) = omega (arith, long, length-reverse text) in
    let place : position_or_len is_one (reverse text) ≡ n = position_or_len_is is_one (reverse text) n 0 (omega (arith, within)) other (λ lt. eq-eqb _ _ one) in
    ap (λ (b : Bool). cond b (Some (position_or_len is_one (reverse text))) None) (lt-ltb _ _ (omega (arith, place, within)))
    ∙ ap (λ (k : ℕ). Some k) place

-- a text without one has no last one
pub behind_none : (text : List ℕ) → All (λ c. c ≢ 49) text → behind_last text ≡ None
behind_none text none =
    let n = length (reverse text) in
    let other : (k : ℕ) → k < n → is_one (get_or (reverse text) k 0) ≡ false = λ k lt.
    let within : k < length text = omega (arith, lt, length-reverse text) in
    ne_eqb _ _ (λ one. none (length text - 1 - k) 0 (omega (arith, within)) (sym (get_or-reverse text k 0 within) ∙ one)) in
    let place : position_or_len is_one (reverse text) ≡ n = position_or_len_is is_one (reverse text) n 0 (omega arith) other (λ lt. absurd (omega (arith, lt))) in
    ap (λ (b : Bool). cond b (Some (position_or_len is_one (reverse text))) None) (le-ltb _ _ (omega (arith, place)))

-- what stands before the last one and after it, where there is one
pub record Ends (text : List ℕ) : Type 0 where
  pub prefix : List ℕ
  pub letters : List ℕ
  pub split : IsSplit text prefix letters

pub ends_of : (text : List ℕ) → All (λ c. c ≢ 49) text ⊎ Ends text
ends_of [] = inl (All-nil (λ (c : ℕ). c ≢ 49))
ends_of (c ∷ cs) =
    elim (ends_of cs) [
      | inl none ↦ elim (cases_eq c 49) [
        | inl one ↦ inr (record { prefix = []; letters = cs; split = record { parts = ap (λ (x : ℕ). x ∷ cs) one; last = none } })
        | inr other ↦ inl (All-cons (λ (x : ℕ). x ≢ 49) c cs other none)
      ]
      | inr ends ↦ inr (record { prefix = c ∷ ends.prefix; letters = ends.letters; split = record { parts = ap (λ (l : List ℕ). c ∷ l) ends.split.parts; last = ends.split.last } })
    ]

-- the parts of a text are read as such
parts_read : (prefix letters : List ℕ) → All (λ c. c ≢ 49) letters → split_at (prefix ++ 49 ∷ letters) (behind_last (prefix ++ 49 ∷ letters)) ≡ parts_at prefix letters
parts_read prefix letters none =
    let text : List ℕ = prefix ++ 49 ∷ letters in
    let n = length letters in
    let long : length text ≡ length prefix + suc n = length-append prefix (49 ∷ letters) in
    let before : take (length text - n - 1) text ≡ prefix = take_at prefix (49 ∷ letters) (length text - n - 1) (omega (arith, long)) in
    let parted : (prefix ++ 49 ∷ []) ++ letters ≡ text = append_assoc prefix (49 ∷ []) letters in
    let size : length (prefix ++ 49 ∷ []) ≡ length text - n = omega (arith, long, length-append prefix (49 ∷ [])) in
    let behind : drop (length text - n) text ≡ letters = ap (λ (l : List ℕ). drop (length text - n) l) (sym parted) ∙ drop_at (prefix ++ 49 ∷ []) letters (length text - n) size in
    ap (λ (o : Option ℕ). split_at text o) (behind_one prefix letters none) ∙ (λ i. parts_at (before i) (behind i))

pub split_reads : (text prefix letters : List ℕ) → IsSplit text prefix letters → split_at text (behind_last text) ≡ parts_at prefix letters
split_reads text prefix letters is =
    subst (λ (t : List ℕ). split_at t (behind_last t) ≡ parts_at prefix letters) (sym is.parts) (parts_read prefix letters is.last)
