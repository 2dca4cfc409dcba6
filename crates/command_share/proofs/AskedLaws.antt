-- Which requests are taken whose recipients are to bear the fee.
use Rattle.std.specs.Prelude.{ℕ, ◌≡◌, ◌&&◌, ◌==◌, true, false, List, [], ◌∷◌, length, is_none, Option, Some, None}
use Rattle.std.proofs.Common.{refl, ap, ◌∙◌, inl, inr, arith}
use Rattle.std.proofs.lemmas.Bool.{and_parts, cases_Bool, eqb-true}
use Rattle.fund_base.specs.declared.outpoint.OutPoint.{OutPoint}
use Rattle.request_text.specs.PlainRequest.{PlainRequest}
use Rattle.request_text.specs.declared.request.Method.{Method}
use Rattle.request_text.specs.declared.request.Method.TheVariants.{Auto, Changeless, Weight, Draw, Manual}
use Rattle.command_share.specs.Asked.{IsForShare, is_for_share, is_lightest}

lightest : (m : Method) → is_lightest m ≡ true → m ≡ Weight
lightest Auto e = absurd (let z = e in cc)
lightest Changeless e = absurd (let z = e in cc)
lightest Weight e = refl
lightest Draw e = absurd (let z = e in cc)
lightest Manual e = absurd (let z = e in cc)

none_listed : (l : List OutPoint) → (length l == 0) ≡ true → l ≡ []
none_listed [] e = refl
none_listed (x ∷ l) e = absurd (let z = eqb-true (length (x ∷ l)) 0 e in omega (arith, z))

none_named : (o : Option (List ℕ)) → is_none o ≡ true → o ≡ None
none_named None e = refl
none_named (Some t) e = absurd (let z = e in cc)

pub taken : (r : PlainRequest) → IsForShare r → is_for_share r ≡ true
taken r a =
    ap (λ (m : Method). is_lightest m && (length r.coins == 0) && is_none r.bump) a.method
    ∙ (ap (λ (l : List OutPoint). (length l == 0) && is_none r.bump) a.coins
    ∙ ap (λ (o : Option (List ℕ)). is_none o) a.bump)

pub taken_means : (r : PlainRequest) → is_for_share r ≡ true → IsForShare r
taken_means r e =
    let two = and_parts (is_lightest r.method && (length r.coins == 0)) (is_none r.bump) e in
    let one = and_parts (is_lightest r.method) (length r.coins == 0) two.0 in
    record { method = lightest r.method one.0; coins = none_listed r.coins one.1; bump = none_named r.bump two.1 }

pub untaken : (r : PlainRequest) → (IsForShare r → ⊥) → is_for_share r ≡ false
untaken r no_such = elim (cases_Bool (is_for_share r)) as (λ _. is_for_share r ≡ false) [
  | inl is ↦ absurd (no_such (taken_means r is))
  | inr fails ↦ fails
]
