-- The rows of a table of tails, from the last one to the first.
use Rattle.std.specs.Prelude.{◌≡◌, ℕ, zero, suc, ◌+◌, ◌-◌, ◌*◌, ◌<◌, ◌≤◌, ◌==◌, ◌&&◌, true, false, List, [], ◌∷◌, length, get_or, drop, All, min, map}
use Rattle.std.specs.List.{prefix_len, sum, sum_by}
use Rattle.std.specs.Ordering.{int_eq}
use Rattle.std.proofs.Common.{arith, refl, sym, ap, subst, inl, inr, ◌∙◌}
use Rattle.std.proofs.lemmas.Bool.{cases_lt, and_parts}
use Rattle.std.proofs.lemmas.Bool.Decides.{Decides-int_eq}
use Rattle.std.proofs.lemmas.List.{get_or-drop, length-drop}
use Rattle.std.proofs.lemmas.List.Elements.{All-head, All-tail}
use Rattle.std.proofs.lemmas.List.Sums.{prefix_len_is, prefix_len_passes, prefix_len_stops, prefix_len-le-length, sum_by-cons, sum-map}
use Rattle.pick_problem.specs.declared.item.Item.{Item}
use Rattle.pick_problem.specs.declared.item.Kind.{Kind}
use Rattle.pick_problem.specs.declared.item.Kind.TheVariants.{Changeless, Lean}
use Rattle.pick_problem.specs.declared.tails.Tail.{Tail}
use Rattle.pick_problem.specs.Pool.{IsItem, no_item, item_at}
use Rattle.pick_problem.specs.Problem.{PlainProblem, IsProblem}
use Rattle.pick_problem.specs.Later.{total_value, later_value, least, least_weight, is_twin, behind_twins}
use Rattle.pick_problem.specs.Tails.{IsTail, IsLeastFrom, IsRunEnd}
use Rattle.pick_problem.proofs.Deciding.{eq_yes}
use Rattle.pick_problem.proofs.SumLaws.{item_is}
use Rattle.pick_problem.proofs.RisingLaws.{later_value-step, later_value-falls, least_weight-le}

-- what is later is worth at most 10,000 times the greatest value
total_small : (xs : List Item) → All IsItem xs → total_value xs ≤ length xs * 210_000_000_000_000_000
total_small [] each = omega arith
total_small (x ∷ xs) each =
    let item : IsItem x = All-head IsItem x xs each in
    let rest : total_value xs ≤ length xs * 210_000_000_000_000_000 = total_small xs (All-tail IsItem x xs each) in
    omega (arith, item.value, rest)

pub later_small : (p : PlainProblem) → IsProblem p → (t : ℕ) → later_value p t ≤ 2_100_000_000_000_000_000_000
later_small p is t =
    let whole : total_value p.items ≤ length p.items * 210_000_000_000_000_000 = total_small p.items is.items.each in
    let falls : later_value p t ≤ total_value p.items = later_value-falls p 0 t (omega arith) in
    omega (arith, is.items.few, whole, falls)

least_step : (xs : List Item) (t : ℕ) → t + 1 < length xs → least (drop t xs) ≡ min (get_or xs t no_item).weight (least (drop (t + 1) xs))
least_step [] t l = absurd (omega arith)
least_step (x ∷ []) t l = absurd (omega arith)
least_step (x ∷ y ∷ ys) zero l = refl
least_step (x ∷ y ∷ ys) (suc t) l =
    let e : suc t + 1 ≡ suc (t + 1) = omega arith in
    subst (λ (k : ℕ). least (drop t (y ∷ ys)) ≡ min (get_or (y ∷ ys) t no_item).weight (least (drop k (x ∷ y ∷ ys)))) (sym e) (least_step (y ∷ ys) t (omega arith))

pub least_weight-step : (p : PlainProblem) (t : ℕ) → t + 1 < length p.items → least_weight p t ≡ min (item_at p.items t).weight (least_weight p (t + 1))
least_weight-step p t l = least_step p.items t l

least_last : (xs : List Item) (t : ℕ) → t + 1 ≡ length xs → least (drop t xs) ≡ (get_or xs t no_item).weight
least_last [] t e = absurd (omega arith)
least_last (x ∷ []) zero e = refl
least_last (x ∷ []) (suc t) e = absurd (omega arith)
least_last (x ∷ y ∷ ys) zero e = absurd (omega arith)
least_last (x ∷ y ∷ ys) (suc t) e = least_last (y ∷ ys) t (omega arith)

pub least_weight-last : (p : PlainProblem) (t : ℕ) → t + 1 ≡ length p.items → least_weight p t ≡ (item_at p.items t).weight
least_weight-last p t e = least_last p.items t e

-- the least weight is of a place
least_of : (xs : List Item) → 0 < length xs → (i : ℕ) × (i < length xs) × (least xs ≡ (get_or xs i no_item).weight)
least_of [] some = absurd (omega arith)
least_of (x ∷ []) some = (0, omega arith, refl)
least_of (x ∷ y ∷ ys) some =
    let rest : (i : ℕ) × (i < length (y ∷ ys)) × (least (y ∷ ys) ≡ (get_or (y ∷ ys) i no_item).weight) = least_of (y ∷ ys) (omega arith) in
    elim (cases_lt (least (y ∷ ys)) x.weight) [
      | inl l ↦ (suc rest.0, omega (arith, rest.1), let e : min x.weight (least (y ∷ ys)) ≡ least (y ∷ ys) = omega arith in e ∙ rest.2)
      | inr g ↦ (0, omega arith, omega arith)
    ]

pub least_from : (p : PlainProblem) (t : ℕ) → t < length p.items → IsLeastFrom p t (least_weight p t)
least_from p t below =
    let found : (i : ℕ) × (i < length (drop t p.items)) × (least (drop t p.items) ≡ (get_or (drop t p.items) i no_item).weight) = least_of (drop t p.items) (omega (arith, length-drop t p.items)) in
    record {
      place = t + found.0;
      behind = omega arith;
      within = omega (arith, found.1, length-drop t p.items);
      is = found.2 ∙ ap (λ (x : Item). x.weight) (get_or-drop t p.items found.0 no_item);
      least = λ j l m. least_weight-le p t j l m;
    }

-- the later value is a sum
total_sum : (xs : List Item) → total_value xs ≡ sum_by (λ x. x.value) xs
total_sum [] = refl
total_sum (x ∷ xs) = omega (arith, total_sum xs, sum_by-cons (λ (z : Item). z.value) x xs)

pub later_sum : (p : PlainProblem) (t : ℕ) → later_value p t ≡ sum (map (λ x. x.value) (drop t p.items))
later_sum p t = total_sum (drop t p.items) ∙ sym (sum-map (λ (z : Item). z.value) (drop t p.items))

-- a twin of a twin is a twin
twin_same : (k : Kind) (x y z : Item) → is_twin k x y ≡ true → is_twin k x z ≡ is_twin k y z
twin_same Changeless x y z e =
    let numbers = and_parts (x.value == y.value) ((x.weight == y.weight) && int_eq x.cost y.cost) e in
    let others = and_parts (x.weight == y.weight) (int_eq x.cost y.cost) numbers.1 in
    let value : x.value ≡ y.value = eq_yes x.value y.value numbers.0 in
    let weight : x.weight ≡ y.weight = eq_yes x.weight y.weight others.0 in
    let cost : x.cost ≡ y.cost = (Decides-int_eq x.cost y.cost).0 others.1 in
    cc
twin_same Lean x y z e = let value : x.value ≡ y.value = eq_yes x.value y.value e in cc

behind_from : (p : PlainProblem) (t : ℕ) → behind_twins p (t + 1) ≡ t + 1 + prefix_len (is_twin p.kind (item_at p.items t)) (drop (t + 1) p.items)
behind_from p t = let e : t + 1 - 1 ≡ t = omega arith in ap (λ (k : ℕ). t + 1 + prefix_len (is_twin p.kind (item_at p.items k)) (drop (t + 1) p.items)) e

item_behind : (p : PlainProblem) (t j : ℕ) → t < j → get_or (drop (t + 1) p.items) (j - (t + 1)) no_item ≡ item_at p.items j
item_behind p t j l = let e : t + 1 + (j - (t + 1)) ≡ j = omega arith in get_or-drop (t + 1) p.items (j - (t + 1)) no_item ∙ ap (λ (k : ℕ). get_or p.items k no_item) e

pub run_is : (p : PlainProblem) (t : ℕ) → t < length p.items → IsRunEnd p t (behind_twins p (t + 1))
run_is p t below =
    let test = is_twin p.kind (item_at p.items t) in
    let rest = drop (t + 1) p.items in
    let e : behind_twins p (t + 1) ≡ t + 1 + prefix_len test rest = behind_from p t in
    let long : length rest ≡ length p.items - (t + 1) = length-drop (t + 1) p.items in
    record {
      behind = omega (arith, e);
      within = omega (arith, e, long, prefix_len-le-length test rest);
      twins = λ j l m. subst (λ (z : Item). test z ≡ true) (item_behind p t j l) (prefix_len_passes test rest (j - (t + 1)) no_item (omega (arith, e, m, l)));
      ends = λ m.
          let at : behind_twins p (t + 1) - (t + 1) ≡ prefix_len test rest = omega (arith, e) in
          subst (λ (z : Item). test z ≡ false) (ap (λ (k : ℕ). get_or rest k no_item) (sym at) ∙ item_behind p t (behind_twins p (t + 1)) (omega (arith, e))) (prefix_len_stops test rest no_item (omega (arith, m, e, long)));
    }

pub run_only : (p : PlainProblem) (t u : ℕ) → IsRunEnd p t u → behind_twins p (t + 1) ≡ u
run_only p t u r =
    let test = is_twin p.kind (item_at p.items t) in
    let rest = drop (t + 1) p.items in
    let long : length rest ≡ length p.items - (t + 1) = length-drop (t + 1) p.items in
    let n : prefix_len test rest ≡ u - (t + 1) =
    prefix_len_is test rest (u - (t + 1)) no_item (omega (arith, long, r.behind, r.within))
    (λ k l. let e : t + 1 + k - (t + 1) ≡ k = omega arith in subst (λ (z : Item). test z ≡ true) (sym (ap (λ (i : ℕ). get_or rest i no_item) (sym e) ∙ item_behind p t (t + 1 + k) (omega arith))) (r.twins (t + 1 + k) (omega arith) (omega (arith, l, r.behind))))
    (λ l. subst (λ (z : Item). test z ≡ false) (sym (item_behind p t u r.behind)) (r.ends (omega (arith, l, long, r.behind)))) in
    omega (arith, behind_from p t, n, r.behind)

-- the run of a place goes on with that of the next, or ends there
pub run_goes_on : (p : PlainProblem) (t : ℕ) → t + 1 < length p.items → is_twin p.kind (item_at p.items t) (item_at p.items (t + 1)) ≡ true → behind_twins p (t + 1) ≡ behind_twins p (t + 1 + 1)
run_goes_on p t below twin =
    let u = behind_twins p (t + 1 + 1) in
    let next : IsRunEnd p (t + 1) u = run_is p (t + 1) below in
    let same : (z : Item) → is_twin p.kind (item_at p.items t) z ≡ is_twin p.kind (item_at p.items (t + 1)) z = λ z. twin_same p.kind (item_at p.items t) (item_at p.items (t + 1)) z twin in
    run_only p t u record {
      behind = omega (arith, next.behind);
      within = next.within;
      twins = λ j l m.
          elim (cases_lt (t + 1) j) [
            | inl more ↦ same (item_at p.items j) ∙ next.twins j more m
            | inr g ↦ let e : t + 1 ≡ j = omega arith in subst (λ (k : ℕ). is_twin p.kind (item_at p.items t) (item_at p.items k) ≡ true) e twin
          ];
      ends = λ m. same (item_at p.items u) ∙ next.ends m;
    }

pub run_ends : (p : PlainProblem) (t : ℕ) → t + 1 < length p.items → is_twin p.kind (item_at p.items t) (item_at p.items (t + 1)) ≡ false → behind_twins p (t + 1) ≡ t + 1
run_ends p t below other =
    run_only p t (t + 1) record { behind = omega arith; within = omega arith; twins = λ j l m. absurd (omega arith); ends = λ m. other }

pub run_last : (p : PlainProblem) (t : ℕ) → t + 1 ≡ length p.items → behind_twins p (t + 1) ≡ t + 1
run_last p t e = run_only p t (t + 1) record { behind = omega arith; within = omega arith; twins = λ j l m. absurd (omega arith); ends = λ m. absurd (omega arith) }

-- the row of a place, from the row after it
pub tail_here : (p : PlainProblem) → IsProblem p → (t : ℕ) → t < length p.items → (behind tail : Tail) → IsTail p (t + 1) behind → tail.value ≡ behind.value + (item_at p.items t).value → tail.weight ≡ min behind.weight (item_at p.items t).weight → tail.end ≡ behind_twins p (t + 1) → IsTail p t tail
tail_here p is t below behind tail old value weight end_ =
    let item : IsItem (item_at p.items t) = item_is p t is below in
    record {
      value = omega (arith, value, old.value, later_value-step p t below);
      weight = λ l.
          elim (cases_lt (t + 1) (length p.items)) [
            | inl more ↦ omega (arith, weight, old.weight more, least_weight-step p t more)
            | inr g ↦
                let e : t + 1 ≡ length p.items = omega arith in
                omega (arith, weight, old.last g, least_weight-last p t e, item.weight)
          ];
      last = λ l. absurd (omega arith);
      end = λ l. end_;
    }
