-- Where there is no answer, in sums over coins.
use Rattle.std.specs.Prelude.{ℕ, ℤ, pos, negsuc, ◌≡◌, ◌≢◌, ◌≤ℤ◌, ◌+ℤ◌, ◌↔◌, Bool, true, false, List, [], ◌∷◌, ◌++◌, All, length, map, slice_index_or, sum_by, unsigned_abs, Option, Some, None, if◌then◌else◌}
use Rattle.std.specs.List.{flat_map, AllByRecursion}
use Rattle.std.proofs.Common.{refl, sym, ap, subst, ◌∙◌, arith}
use Rattle.std.proofs.Math.ListN.{get_or-map}
use Rattle.std.proofs.lemmas.Int.{ints}
use Rattle.std.proofs.lemmas.List.{length-map}
use Rattle.std.proofs.lemmas.List.Concat.{flat_map-cons}
use Rattle.std.proofs.lemmas.List.Elements.{All-nil, All-cons, All-head, All-tail}
use Rattle.std.proofs.lemmas.List.Sums.{sum_by-append}
use Rattle.closing_log.specs.declared.log.Stage.{Stage}
use Rattle.closing_log.specs.declared.log.Stage.TheVariants as stage
use Rattle.fee_rates.specs.Terms.{terms_of}
use Rattle.fee_rates.specs.declared.terms.Terms.{Terms}
use Rattle.fee_rates.proofs.TermsLaws.{terms_agree}
use Rattle.coin_candidates.specs.declared.candidate.Candidate.{Candidate}
use Rattle.output_groups.specs.Ladder.{ladder_of}
use Rattle.output_groups.specs.Measures.{gain, value_of as worth_of, weight_of as mass_of}
use Rattle.output_groups.specs.PlainPool.{PlainPool}
use Rattle.output_groups.specs.Pool.{item_of}
use Rattle.output_groups.specs.PoolOf.{pool_of}
use Rattle.output_groups.specs.declared.rows.Row.{Row}
use Rattle.pick_problem.specs.Admissible.{IsAdmissible, IsFit}
use Rattle.pick_problem.specs.Pool.{item_at}
use Rattle.pick_problem.specs.Problem.{IsProblem, PlainProblem, Rising, value_of, weight_of}
use Rattle.pick_problem.specs.declared.item.Item.{Item}
use Rattle.pick_problem.proofs.WindowLaws.{window_part}
use Rattle.request_text.specs.declared.request.Method.{Method}
use Rattle.request_text.specs.declared.request.Method.TheVariants.{Auto, Changeless, Weight, Draw, Manual}
use Rattle.search_run.proofs.StandLaws.{draw_fits}
use Rattle.search_run.specs.Answer.{HasNone, IsAnswer}
use Rattle.search_run.specs.Step.{AreSteps, IsStep, PlainStep}
use Rattle.fund_steps.proofs.TermLaws.{some_where, target_grows}
use Rattle.fund_steps.specs.Basis.{Basis, load_alone}
use Rattle.fund_steps.specs.Reached.{DoesChange, DoesPlain, IsChoice, NothingDoes, NothingDoesBy, brought, coins_at}
use Rattle.fund_steps.specs.Searches.{PlainRow, is_given, is_high, load_in, problem_by, row_in, rows_in, step_by, steps_at, steps_of, terms_in, turns_in}
use Rattle.fund_steps.specs.Terms.{rates_of}
use Rattle.fund_steps.specs.Turns.{last, turns_of}
use Rattle.fund_steps.specs.declared.turns.Turn.{Turn}

-- ---- sums over places are sums over coins

-- a pool whose items are those of its groups
abbrev AreOf : (rate long_term : ℕ) → PlainPool → Type 0
AreOf rate long_term pool = pool.items ≡ map (item_of rate long_term) pool.groups

item_is : (rate long_term : ℕ) (pool : PlainPool) (j : ℕ) → AreOf rate long_term pool → item_at pool.items j ≡ item_of rate long_term (slice_index_or pool.groups j [])
item_is rate long_term pool j is = ap (λ l. item_at l j) is ∙ get_or-map (item_of rate long_term) pool.groups j []

values : (rate long_term : ℕ) (p : PlainProblem) (pool : PlainPool) (q : List ℕ) → p.items ≡ pool.items → AreOf rate long_term pool → value_of p q ≡ worth_of rate (coins_at pool q)
values rate long_term p pool [] same is = refl
values rate long_term p pool (j ∷ js) same is =
    let one = ap (λ i. item_at i j) same ∙ item_is rate long_term pool j is in
    let rest = values rate long_term p pool js same is in
    let sum = sum_by-append (gain rate) (slice_index_or pool.groups j []) (coins_at pool js) in
    rw (flat_map-cons (λ k. slice_index_or pool.groups k []) j js, sum, ← rest, one) refl

weights : (rate long_term : ℕ) (p : PlainProblem) (pool : PlainPool) (q : List ℕ) → p.items ≡ pool.items → AreOf rate long_term pool → weight_of p q ≡ mass_of (coins_at pool q)
weights rate long_term p pool [] same is = refl
weights rate long_term p pool (j ∷ js) same is =
    let one = ap (λ i. item_at i j) same ∙ item_is rate long_term pool j is in
    let rest = weights rate long_term p pool js same is in
    let sum = sum_by-append (λ (c : Candidate). c.weight) (slice_index_or pool.groups j []) (coins_at pool js) in
    rw (flat_map-cons (λ k. slice_index_or pool.groups k []) j js, sum, ← rest, one) refl

-- ---- positive terms

abs_of : (z : ℤ) → pos 1 ≤ℤ z → pos (unsigned_abs z) ≡ z
abs_of (pos n) h = refl
abs_of (negsuc n) h = absurd (omega (arith, ints, h))

-- terms of which the target is above 0
record ArePositive (t : Terms) : Type 0 where
  target : pos 1 ≤ℤ t.target
  order : t.target ≤ℤ t.hi
  gap : t.small ≡ t.hi +ℤ pos 1
  big : t.small ≤ℤ t.big

-- where coins are searched for they are
positive : (b : Basis) (r : PlainRow) → is_given b ≡ false → ArePositive (terms_in b r)
unfolding terms_of
positive b r searched =
    let x = rates_of b.request in
    let h = terms_agree x (load_in b r) in
    let alone = some_where x (load_alone b) searched in
    let more = target_grows x (load_alone b) (sum_by (λ (g : List Candidate). length g) r.pool.groups) in
    record { target = omega (arith, ints, alone, more); order = h.order; gap = h.gap; big = h.big }

-- ---- one row

module _ (b : Basis) (r : PlainRow) (t : ArePositive (terms_in b r)) (is : AreOf b.request.rate b.request.long_term r.pool) where
  abbrev problem : Stage → PlainProblem
  problem s = problem_by (terms_in b r) r.pool.items s

  -- no selection of the problem is admissible
  abbrev IsBarren : Stage → Type 0
  IsBarren s = (q : List ℕ) → IsAdmissible (problem s) q → ⊥

  value_is : (s : Stage) (q : List ℕ) → (problem s).items ≡ r.pool.items → value_of (problem s) q ≡ brought b r q
  value_is s q same = values b.request.rate b.request.long_term (problem s) r.pool q same is

  weight_is : (s : Stage) (q : List ℕ) → (problem s).items ≡ r.pool.items → weight_of (problem s) q ≡ mass_of (coins_at r.pool q)
  weight_is s q same = weights b.request.rate b.request.long_term (problem s) r.pool q same is

  as_many : length r.pool.items ≡ length r.pool.groups
  as_many = ap (λ (l : List Item). length l) is ∙ length-map r.pool.groups (item_of b.request.rate b.request.long_term)

  choice : (s : Stage) (q : List ℕ) → (problem s).items ≡ r.pool.items → IsAdmissible (problem s) q → IsChoice r.pool q
  choice s q same h = record { some = h.some; rising = subst (λ (n : ℕ). Rising n 0 q) (ap (λ (l : List Item). length l) same ∙ as_many) h.rising }

  hi_some : pos 1 ≤ℤ (terms_in b r).hi
  hi_some = omega (arith, ints, t.target, t.order)

  small_some : pos 1 ≤ℤ (terms_in b r).small
  small_some = omega (arith, ints, hi_some, t.gap)

  big_some : pos 1 ≤ℤ (terms_in b r).big
  big_some = omega (arith, ints, small_some, t.big)

  plain_of : (q : List ℕ) → IsAdmissible (problem stage.Changeless) q → DoesPlain b r q
  plain_of q h = record {
    low = omega (arith, ints, value_is stage.Changeless q refl, h.reaches, abs_of (terms_in b r).target t.target);
    high = omega (arith, ints, value_is stage.Changeless q refl, h.fits.0, abs_of (terms_in b r).hi hi_some);
    light = omega (arith, weight_is stage.Changeless q refl, h.light);
  }

  small_of : (q : List ℕ) → IsAdmissible (problem stage.LeanSmall) q → DoesChange b r q
  small_of q h = record {
    low = omega (arith, ints, value_is stage.LeanSmall q refl, h.reaches, abs_of (terms_in b r).small small_some);
    light = omega (arith, weight_is stage.LeanSmall q refl, h.light);
  }

  big_of : (q : List ℕ) → IsAdmissible (problem stage.LeanBig) q → DoesChange b r q
  big_of q h = record {
    low = omega (arith, ints, value_is stage.LeanBig q refl, h.reaches, abs_of (terms_in b r).big big_some, t.big);
    light = omega (arith, weight_is stage.LeanBig q refl, h.light);
  }

  -- what does for a payment without change has an admissible part
  plain_barren : IsProblem (problem stage.Changeless) → IsBarren stage.Changeless → (q : List ℕ) → IsChoice r.pool q → DoesPlain b r q → ⊥
  plain_barren fine none q c h =
      let part = window_part (problem stage.Changeless) fine refl q
      (subst (λ (n : ℕ). Rising n 0 q) (sym as_many) c.rising)
      (omega (arith, ints, value_is stage.Changeless q refl, h.low, abs_of (terms_in b r).target t.target))
      (omega (arith, ints, value_is stage.Changeless q refl, h.high, abs_of (terms_in b r).hi hi_some))
      (omega (arith, weight_is stage.Changeless q refl, h.light))
      in none part.0 part.2

  change_barren : IsBarren stage.LeanSmall → (q : List ℕ) → IsChoice r.pool q → DoesChange b r q → ⊥
  change_barren none q c h = none q (record {
    some = c.some;
    rising = subst (λ (n : ℕ). Rising n 0 q) (sym as_many) c.rising;
    reaches = omega (arith, ints, value_is stage.LeanSmall q refl, h.low, abs_of (terms_in b r).small small_some);
    light = omega (arith, weight_is stage.LeanSmall q refl, h.light);
    fits = tt;
  })

  none_of : (s : Stage) (o : Option (List ℕ)) → IsFit (problem s) o → IsBarren s → None ≡ o
  none_of s None fit none = refl
  none_of s (Some q) fit none = absurd (none q fit)

  abbrev at : Turn → PlainStep
  at u = step_by (terms_in b r) r u

  abbrev Fine : List Turn → Type 0
  Fine us = AllByRecursion IsStep (map at us)

  abbrev Empty : List ℕ → List Turn → Type 0
  Empty seed us = AllByRecursion (HasNone seed) (map at us)

  nothing_does : (m : Method) (seed : List ℕ) (high : Bool) → m ≢ Manual → Fine (turns_of m high) → Empty seed (turns_of m high) → NothingDoesBy m b r
  nothing_does Auto seed true some fine none = λ q c. (plain_barren fine.0.problem none.0 q c, change_barren none.1.1.1.0 q c)
  nothing_does Auto seed false some fine none = λ q c. (plain_barren fine.0.problem none.0 q c, change_barren none.1.1.0 q c)
  nothing_does Changeless seed high some fine none = λ q c. plain_barren fine.0.problem none.0 q c
  nothing_does Weight seed high some fine none = λ q c. change_barren none.1.0 q c
  nothing_does Draw seed high some fine none = λ q c. change_barren none.1.0 q c
  nothing_does Manual seed high some fine none = absurd (some refl)

  -- no choice does for a payment without change, or for one with change
  abbrev NonePlain : Type 0
  NonePlain = (q : List ℕ) → IsChoice r.pool q → DoesPlain b r q → ⊥

  abbrev NoneChange : Type 0
  NoneChange = (q : List ℕ) → IsChoice r.pool q → DoesChange b r q → ⊥

  no_plain : NonePlain → IsBarren stage.Changeless
  no_plain nothing q h = nothing q (choice stage.Changeless q refl h) (plain_of q h)

  no_big : NoneChange → IsBarren stage.LeanBig
  no_big nothing q h = nothing q (choice stage.LeanBig q refl h) (big_of q h)

  no_small : NoneChange → IsBarren stage.LeanSmall
  no_small nothing q h = nothing q (choice stage.LeanSmall q refl h) (small_of q h)

  no_drawn : (seed : List ℕ) → IsStep (at (last stage.Draw)) → NoneChange → HasNone seed (at (last stage.Draw))
  no_drawn seed fine nothing = none_of stage.Draw _ (draw_fits seed (at (last stage.Draw)) fine refl) (no_big nothing)

  none_has : (m : Method) (seed : List ℕ) (high : Bool) → Fine (turns_of m high) → NothingDoesBy m b r → Empty seed (turns_of m high)
  none_has Auto seed true fine nothing =
      let plain : NonePlain = λ q c. (nothing q c).0 in
      let change : NoneChange = λ q c. (nothing q c).1 in
      (no_plain plain, (no_big change, (no_drawn seed fine.1.1.0 change, (no_small change, tt))))
  none_has Auto seed false fine nothing =
      let plain : NonePlain = λ q c. (nothing q c).0 in
      let change : NoneChange = λ q c. (nothing q c).1 in
      (no_plain plain, (no_drawn seed fine.1.0 change, (no_small change, tt)))
  none_has Changeless seed high fine nothing = (no_plain nothing, tt)
  none_has Weight seed high fine nothing = (no_big nothing, (no_small nothing, tt))
  none_has Draw seed high fine nothing = (no_drawn seed fine.0 nothing, (no_small nothing, tt))
  none_has Manual seed high fine nothing = tt

-- ---- all rows

split_all : (P : PlainStep → Type 0) (xs ys : List PlainStep) → AllByRecursion P (xs ++ ys) → AllByRecursion P xs × AllByRecursion P ys
split_all P [] ys h = (tt, h)
split_all P (x ∷ xs) ys h = let rest = split_all P xs ys h.1 in ((h.0, rest.0), rest.1)

join_all : (P : PlainStep → Type 0) (xs ys : List PlainStep) → AllByRecursion P xs → AllByRecursion P ys → AllByRecursion P (xs ++ ys)
join_all P [] ys f g = g
join_all P (x ∷ xs) ys f g = (f.0, join_all P xs ys f.1 g)

-- the items of a row's pool are those of its groups
pool_items : (b : Basis) (row : Row) → AreOf b.request.rate b.request.long_term (row_in b row).pool
unfolding pool_of
pool_items b row = refl

module _ (b : Basis) (seed : List ℕ) (some : b.request.method ≢ Manual) (searched : is_given b ≡ false) where
  abbrev method : Method
  method = b.request.method

  turns_are : turns_in b ≡ turns_of method (is_high b.request)
  turns_are = ap (λ (g : Bool). if g then [] else turns_of method (is_high b.request)) searched

  abbrev All-steps : (PlainStep → Type 0) → List PlainRow → Type 0
  All-steps P rs = AllByRecursion P (flat_map (steps_at b) rs)

  head_tail : (P : PlainStep → Type 0) (r : PlainRow) (rs : List PlainRow) → All-steps P (r ∷ rs) → AllByRecursion P (steps_at b r) × All-steps P rs
  head_tail P r rs h = split_all P (steps_at b r) (flat_map (steps_at b) rs) (subst (AllByRecursion P) (flat_map-cons (steps_at b) r rs) h)

  of_row : (P : PlainStep → Type 0) (r : PlainRow) → AllByRecursion P (steps_at b r) → AllByRecursion P (map (step_by (terms_in b r) r) (turns_of method (is_high b.request)))
  of_row P r h = subst (λ (us : List Turn). AllByRecursion P (map (step_by (terms_in b r) r) us)) turns_are h

  to_row : (P : PlainStep → Type 0) (r : PlainRow) → AllByRecursion P (map (step_by (terms_in b r) r) (turns_of method (is_high b.request))) → AllByRecursion P (steps_at b r)
  to_row P r h = subst (λ (us : List Turn). AllByRecursion P (map (step_by (terms_in b r) r) us)) (sym turns_are) h

  rows_do_nothing : (rows : List Row) → All-steps IsStep (map (row_in b) rows) → All-steps (HasNone seed) (map (row_in b) rows) → All (NothingDoes b) (map (row_in b) rows)
  rows_do_nothing [] fine none = All-nil (NothingDoes b)
  rows_do_nothing (row ∷ rows) fine none =
      let r = row_in b row in
      let f = head_tail IsStep r (map (row_in b) rows) fine in
      let n = head_tail (HasNone seed) r (map (row_in b) rows) none in
      All-cons (NothingDoes b) r (map (row_in b) rows)
      (nothing_does b r (positive b r searched) (pool_items b row) method seed (is_high b.request) some (of_row IsStep r f.0) (of_row (HasNone seed) r n.0))
      (rows_do_nothing rows f.1 n.1)

  rows_have_none : (rows : List Row) → All-steps IsStep (map (row_in b) rows) → All (NothingDoes b) (map (row_in b) rows) → All-steps (HasNone seed) (map (row_in b) rows)
  rows_have_none [] fine nothing = tt
  rows_have_none (row ∷ rows) fine nothing =
      let r = row_in b row in
      let f = head_tail IsStep r (map (row_in b) rows) fine in
      let here = to_row (HasNone seed) r (none_has b r (positive b r searched) (pool_items b row) method seed (is_high b.request) (of_row IsStep r f.0) (All-head (NothingDoes b) r (map (row_in b) rows) nothing)) in
      let rest = rows_have_none rows f.1 (All-tail (NothingDoes b) r (map (row_in b) rows) nothing) in
      subst (AllByRecursion (HasNone seed)) (sym (flat_map-cons (steps_at b) r (map (row_in b) rows))) (join_all (HasNone seed) (steps_at b r) (flat_map (steps_at b) (map (row_in b) rows)) here rest)

  pub none_where : AreSteps (steps_of b) → (IsAnswer seed (steps_of b) None ↔ All (NothingDoes b) (rows_in b))
  unfolding steps_of
  none_where fine = (
    λ none. rows_do_nothing (ladder_of b.request.zero_conf b.request.include_unsafe) fine none,
    λ nothing. rows_have_none (ladder_of b.request.zero_conf b.request.include_unsafe) fine nothing,
  )
