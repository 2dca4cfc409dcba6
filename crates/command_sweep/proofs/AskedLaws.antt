-- Which requests a sweep takes.
use Rattle.std.specs.Prelude.{ℕ, ◌≡◌, ◌&&◌, ◌==◌, true, false, List, [], ◌∷◌, length, is_none, Option, Some, None}
use Rattle.std.proofs.Common.{refl, ap, ◌∙◌, inl, inr, arith}
use Rattle.std.proofs.lemmas.Bool.{and_parts, cases_Bool, eqb-true}
use Rattle.fund_base.specs.declared.outpoint.OutPoint.{OutPoint}
use Rattle.request_text.specs.PlainRequest.{PlainRequest}
use Rattle.command_sweep.specs.Asked.{IsForSweep, is_for_sweep}

none_listed : (l : List OutPoint) → (length l == 0) ≡ true → l ≡ []
none_listed [] e = refl
none_listed (x ∷ l) e = absurd (let z = eqb-true (length (x ∷ l)) 0 e in omega (arith, z))

none_named : (o : Option (List ℕ)) → is_none o ≡ true → o ≡ None
none_named None e = refl
none_named (Some t) e = absurd (let z = e in cc)

pub taken : (r : PlainRequest) → IsForSweep r → is_for_sweep r ≡ true
taken r a =
    ap (λ (n : ℕ). (n == 1) && (length r.coins == 0) && is_none r.bump) a.one
    ∙ (ap (λ (l : List OutPoint). (length l == 0) && is_none r.bump) a.coins
    ∙ ap (λ (o : Option (List ℕ)). is_none o) a.bump)

pub taken_means : (r : PlainRequest) → is_for_sweep r ≡ true → IsForSweep r
taken_means r e =
    let two = and_parts ((length r.recipients == 1) && (length r.coins == 0)) (is_none r.bump) e in
    let one = and_parts (length r.recipients == 1) (length r.coins == 0) two.0 in
    record { one = eqb-true (length r.recipients) 1 one.0; coins = none_listed r.coins one.1; bump = none_named r.bump two.1 }

pub untaken : (r : PlainRequest) → (IsForSweep r → ⊥) → is_for_sweep r ≡ false
untaken r no_such = elim (cases_Bool (is_for_sweep r)) as (λ _. is_for_sweep r ≡ false) [
  | inl is ↦ absurd (no_such (taken_means r is))
  | inr fails ↦ fails
]
