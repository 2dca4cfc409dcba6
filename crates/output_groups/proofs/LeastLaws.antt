-- No coin of a group stands before its least outpoint.
use Rattle.std.specs.Prelude.{◌≡◌, Bool, true, false, List, [], ◌∷◌, fold, All, if◌then◌else◌}
use Rattle.std.specs.Ordering.{is_lt, ordering_reverse}
use Rattle.std.specs.declared.cmp.Ordering.{Ordering}
use Rattle.std.specs.declared.cmp.Ordering.TheVariants.{Less, Equal, Greater}
use Rattle.std.proofs.Common.{refl, sym, subst, ap, ◌∙◌, inl, inr}
use Rattle.std.proofs.lemmas.Cmp.{tied_itself}
use Rattle.std.proofs.lemmas.List.Elements.{All-cons, All-nil}
use Rattle.std.proofs.lemmas.Bool.{cases_Bool}
use Rattle.fund_base.proofs.OutpointLaws.{outpoint_total}
use Rattle.fund_base.specs.Outpoints.{outpoint_cmp}
use Rattle.coin_candidates.specs.declared.candidate.Candidate.{Candidate}
use Rattle.fund_base.specs.declared.outpoint.OutPoint.{OutPoint}
use Rattle.output_groups.specs.Measures.{least_of, lesser}

-- x doesn't stand before m
abbrev IsNotBefore : OutPoint → OutPoint → Type 0
IsNotBefore x m = outpoint_cmp x m ≡ Less → ⊥

-- what stands before y stands before whatever y isn't behind
before_by : (r : Ordering) (x y z : OutPoint) → outpoint_cmp y z ≡ r → outpoint_cmp x y ≡ Less → IsNotBefore z y → outpoint_cmp x z ≡ Less
before_by Less x y z e lt le = outpoint_total.trans x y z lt e
before_by Equal x y z e lt le = outpoint_total.antisymm x z ∙ ap ordering_reverse (sym (outpoint_total.congr y z x e)) ∙ sym (outpoint_total.antisymm x y) ∙ lt
before_by Greater x y z e lt le = absurd (le (outpoint_total.antisymm z y ∙ ap ordering_reverse e))

before_too : (x y z : OutPoint) → outpoint_cmp x y ≡ Less → IsNotBefore z y → outpoint_cmp x z ≡ Less
before_too x y z = before_by (outpoint_cmp y z) x y z refl

itself : (x : OutPoint) → IsNotBefore x x
itself x lt = let same : outpoint_cmp x x ≡ Equal = tied_itself outpoint_total x in absurd cc

not_both : (x y : OutPoint) → outpoint_cmp x y ≡ Less → IsNotBefore y x
not_both x y lt back = itself x (outpoint_total.trans x y x lt back)

less_from : (r : Ordering) → is_lt r ≡ true → r ≡ Less
less_from Less e = refl
less_from Equal e = absurd cc
less_from Greater e = absurd cc

less_not : (r : Ordering) → is_lt r ≡ false → r ≡ Less → ⊥
less_not r e lt = let yes : is_lt r ≡ true = ap is_lt lt in absurd cc

-- which of two outpoints the lesser one is
chosen_as : (b : Bool) (x y : OutPoint) → b ≡ true → (if b then y else x) ≡ y
chosen_as b x y e = rw e refl

kept_as : (b : Bool) (x y : OutPoint) → b ≡ false → (if b then y else x) ≡ x
kept_as b x y e = rw e refl

least_over : (a : OutPoint) (cs : List Candidate) → IsNotBefore a (fold (λ m (c : Candidate). lesser m c.coin) a cs) × All (λ (c : Candidate). IsNotBefore c.coin (fold (λ m (x : Candidate). lesser m x.coin) a cs)) cs
least_over a [] = (itself a, All-nil _)
least_over a (c ∷ cs) =
    let next = lesser a c.coin in
    let least : OutPoint = fold (λ m (x : Candidate). lesser m x.coin) next cs in
    let rest = least_over next cs in
    let test : Bool = is_lt (outpoint_cmp c.coin a) in
    let P : Candidate → Type 0 = λ x. IsNotBefore x.coin least in
    elim (cases_Bool test) [
      | inl lower ↦
          let lt = less_from (outpoint_cmp c.coin a) lower in
          let here : IsNotBefore c.coin least = subst (λ (x : OutPoint). IsNotBefore x least) (chosen_as test a c.coin lower) rest.0 in
          ((λ before. not_both c.coin a lt (before_too a least c.coin before here)), All-cons P c cs here rest.1)
      | inr upper ↦
          let old : IsNotBefore a least = subst (λ (x : OutPoint). IsNotBefore x least) (kept_as test a c.coin upper) rest.0 in
          (old, All-cons P c cs (λ before. less_not (outpoint_cmp c.coin a) upper (before_too c.coin least a before old)) rest.1)
    ]

pub least_first : (g : List Candidate) → All (λ (c : Candidate). outpoint_cmp c.coin (least_of g) ≡ Less → ⊥) g
least_first [] = All-nil _
least_first (c ∷ cs) =
    let rest = least_over c.coin cs in
    All-cons (λ (x : Candidate). IsNotBefore x.coin (least_of (c ∷ cs))) c cs rest.0 rest.1
