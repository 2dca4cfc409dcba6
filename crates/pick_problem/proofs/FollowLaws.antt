-- What the walk writes are allowed steps, which lead to where it stands.
use Rattle.std.specs.Prelude.{◌≡◌, ◌≢◌, ℕ, zero, suc, ◌+◌, ◌-◌, ◌<◌, ◌≤◌, ◌==◌, Bool, true, false, List, [], ◌∷◌, length, get_or, drop, All, Option, if◌then◌else◌, nat_lt, nat_le}
use Rattle.std.specs.List.{prefix_len}
use Rattle.std.proofs.Common.{arith, refl, sym, ap, subst, inl, inr, ◌∙◌}
use Rattle.std.proofs.lemmas.Bool.{cases_lt, or_cases}
use Rattle.std.proofs.lemmas.List.{get_or-drop}
use Rattle.std.proofs.lemmas.List.Sums.{prefix_len_passes}
use Rattle.pick_problem.specs.declared.item.Item.{Item}
use Rattle.pick_problem.specs.declared.item.Kind.{Kind}
use Rattle.pick_problem.specs.declared.item.Kind.TheVariants.{Changeless, Lean}
use Rattle.pick_problem.specs.declared.token.Reason.{Reason}
use Rattle.pick_problem.specs.declared.token.Reason.TheVariants.{Short, Over, Heavy, NoRoom}
use Rattle.pick_problem.specs.declared.token.Token.{Token}
use Rattle.pick_problem.specs.declared.token.Token.TheVariants.{Pass, Close}
use Rattle.pick_problem.specs.Pool.{no_item, item_at}
use Rattle.pick_problem.specs.Problem.{PlainProblem, Rising, value_of, weight_of}
use Rattle.pick_problem.specs.Later.{later_value, least_weight, is_twin, behind_twins, total_value}
use Rattle.pick_problem.specs.Steps.{State, left, after, after_all, Closes, IsAllowed, AreAllowed, met_behind}
use Rattle.pick_problem.specs.Walk.{Way, Ready, upward, at, over, writes, passing, shift, leave, cut, is_lightest, cut_or_shift, is_over, way_of, IsShort, IsOver, IsHeavy, GoesOn}
use Rattle.pick_problem.proofs.Deciding.{if_cases, lt_yes, lt_no, le_yes, eq_yes}
use Rattle.pick_problem.proofs.SumLaws.{value-append, weight-append}
use Rattle.pick_problem.proofs.RisingLaws.{Rising-avoids, Rising-push, Rising-until, Rising-wider, twins_within}
use Rattle.pick_problem.proofs.TreeSteps.{open_at, left_push}

-- from a state the steps of what is written are allowed, and lead to where the walk stands
pub record Follows (p : PlainProblem) (c : Option (List ℕ)) (s : State) (w : Way) (m : Bool) : Type 0 where
  pub allowed : AreAllowed p c s w.tokens
  pub ends : after_all p c s w.tokens ≡ record { chosen = upward w.stack; next = w.next; closed = w.done; met = m }
  pub ready : w.done ≡ false → Ready p w.stack w.next

-- nothing is after the last place
total_gone : (xs : List Item) (t : ℕ) → length xs ≤ t → total_value (drop t xs) ≡ 0
total_gone [] zero l = refl
total_gone [] (suc t) l = refl
total_gone (x ∷ xs) zero l = absurd (omega arith)
total_gone (x ∷ xs) (suc t) l = total_gone xs t (omega arith)

pub later_gone : (p : PlainProblem) (t : ℕ) → length p.items ≤ t → later_value p t ≡ 0
later_gone p t l = total_gone p.items t l

-- where something is left that reaches lo, a place is left
pub place_left : (p : PlainProblem) (t : ℕ) (q : List ℕ) → p.lo ≤ value_of p q + later_value p (t + 1) → value_of p q < p.lo → t + 1 < length p.items
place_left p t q enough low = elim (cases_lt (t + 1) (length p.items)) [ inl l ↦ l | inr g ↦ absurd (omega (arith, low, enough, later_gone p (t + 1) g)) ]

pub value_with : (p : PlainProblem) (stack : List ℕ) (t : ℕ) → value_of p (upward (t ∷ stack)) ≡ value_of p (upward stack) + (item_at p.items t).value
value_with p stack t = omega (arith, value-append p (upward stack) (t ∷ []))

pub weight_with : (p : PlainProblem) (stack : List ℕ) (t : ℕ) → weight_of p (upward (t ∷ stack)) ≡ weight_of p (upward stack) + (item_at p.items t).weight
weight_with p stack t = omega (arith, weight-append p (upward stack) (t ∷ []))

module _ (p : PlainProblem) where
  pub writes_follows : (c : Option (List ℕ)) (s : State) (k : Token) (w : Way) (m : Bool) → IsAllowed p c s k → Follows p c (after p c s k) w m → Follows p c s (writes k w) m
  writes_follows c s k w m h f = record { allowed = (h, f.allowed); ends = f.ends; ready = f.ready }

  at_follows : (c : Option (List ℕ)) (m : Bool) (stack : List ℕ) (t : ℕ) → Ready p stack t → Follows p c (open_at (upward stack) t m) (at stack t) m
  at_follows c m stack t ready = record { allowed = tt; ends = refl; ready = λ e. ready }

  over_follows : (c : Option (List ℕ)) (m : Bool) → Follows p c (left p m []) (over p) m
  over_follows c m = record { allowed = tt; ends = refl; ready = λ e. absurd (cc) }

  twin_here : (j : ℕ) → j + 1 < behind_twins p (j + 1) → is_twin p.kind (item_at p.items (j + 1 - 1)) (item_at p.items (j + 1)) ≡ true
  twin_here j l =
      let at : get_or (drop (j + 1) p.items) 0 no_item ≡ item_at p.items (j + 1) =
      get_or-drop (j + 1) p.items 0 no_item ∙ (let e : j + 1 + 0 ≡ j + 1 = omega arith in ap (λ (k : ℕ). get_or p.items k no_item) e) in
      let some : 0 < prefix_len (is_twin p.kind (item_at p.items (j + 1 - 1))) (drop (j + 1) p.items) = omega (arith, l) in
      subst (λ (z : Item). is_twin p.kind (item_at p.items (j + 1 - 1)) z ≡ true) at (prefix_len_passes (is_twin p.kind (item_at p.items (j + 1 - 1))) (drop (j + 1) p.items) 0 no_item some)

  passing_follows : (c : Option (List ℕ)) (m : Bool) (stack : List ℕ) (j : ℕ) (w : Way) → j < length p.items → Rising j 0 (upward stack) → Follows p c (open_at (upward stack) (behind_twins p (j + 1)) m) w m → Follows p c (open_at (upward stack) (j + 1) m) (passing p j w) m
  passing_follows c m stack j w below rises f =
      if_cases (λ (v : Way). Follows p c (open_at (upward stack) (j + 1) m) v m) (nat_lt (j + 1) (behind_twins p (j + 1))) (writes Pass w) w
      (λ yes_some.
      let l : j + 1 < behind_twins p (j + 1) = lt_yes (j + 1) (behind_twins p (j + 1)) yes_some in
      let within : behind_twins p (j + 1) ≤ length p.items = twins_within p (j + 1) (omega arith) in
      let same : j + 1 - 1 ≡ j = omega arith in
      let avoids : All (λ (i : ℕ). i ≢ j + 1 - 1) (upward stack) = subst (λ (k : ℕ). All (λ (i : ℕ). i ≢ k) (upward stack)) (sym same) (Rising-avoids j 0 (upward stack) rises) in
      writes_follows c (open_at (upward stack) (j + 1) m) Pass w m (refl, (omega arith, omega arith, avoids, twin_here j l)) f)
      (λ none.
      let g : behind_twins p (j + 1) ≡ j + 1 = omega (arith, lt_no (j + 1) (behind_twins p (j + 1)) none) in
      subst (λ (t : ℕ). Follows p c (open_at (upward stack) t m) w m) g f)

  -- the walk stops at a place that is left, or closes the branch and goes on
  stop_follows : (c : Option (List ℕ)) (m : Bool) (stack : List ℕ) (u : ℕ) (rest : Way) → u ≤ length p.items → Rising u 0 (upward stack) → value_of p (upward stack) < p.lo → weight_of p (upward stack) ≤ p.most_weight → Follows p c (left p m (upward stack)) rest m → Follows p c (open_at (upward stack) u m) (if nat_lt u (length p.items) then at stack u else writes (Close Short) rest) m
  stop_follows c m stack u rest within rises low light f =
      if_cases (λ (v : Way). Follows p c (open_at (upward stack) u m) v m) (nat_lt u (length p.items)) (at stack u) (writes (Close Short) rest)
      (λ e. at_follows c m stack u record { rises = rises; next = lt_yes u (length p.items) e; low = low; light = light })
      (λ e.
      let short : value_of p (upward stack) + later_value p u < p.lo = omega (arith, low, later_gone p u (lt_no u (length p.items) e)) in
      writes_follows c (open_at (upward stack) u m) (Close Short) rest m (refl, short) f)

  pub shift_follows : (c : Option (List ℕ)) (m : Bool) (stack : List ℕ) (j : ℕ) → j < length p.items → value_of p (upward stack) < p.lo → weight_of p (upward stack) ≤ p.most_weight → Rising j 0 (upward stack) → Follows p c (open_at (upward stack) (j + 1) m) (shift p stack j) m
  shift_follows c m [] j below low light rises =
      passing_follows c m [] j (if nat_lt (behind_twins p (j + 1)) (length p.items) then at [] (behind_twins p (j + 1)) else writes (Close Short) (over p)) below rises
      (stop_follows c m [] (behind_twins p (j + 1)) (over p) (twins_within p (j + 1) (omega arith)) tt low light (over_follows c m))
  shift_follows c m (k ∷ stack) j below low light rises =
      let until = Rising-until j 0 (upward stack) k rises in
      let rest : Follows p c (open_at (upward stack) (k + 1) m) (shift p stack k) m =
      shift_follows c m stack k (omega (arith, until.2)) (omega (arith, low, value_with p stack k)) (omega (arith, light, weight_with p stack k)) until.0 in
      let wide : Rising (behind_twins p (j + 1)) 0 (upward (k ∷ stack)) = Rising-wider j (behind_twins p (j + 1)) 0 (upward (k ∷ stack)) (omega arith) rises in
      passing_follows c m (k ∷ stack) j (if nat_lt (behind_twins p (j + 1)) (length p.items) then at (k ∷ stack) (behind_twins p (j + 1)) else writes (Close Short) (shift p stack k)) below rises
      (stop_follows c m (k ∷ stack) (behind_twins p (j + 1)) (shift p stack k) (twins_within p (j + 1) (omega arith)) wide low light
      (subst (λ (s : State). Follows p c s (shift p stack k) m) (sym (left_push p m (upward stack) k)) rest))

  leave_follows : (c : Option (List ℕ)) (m : Bool) (stack : List ℕ) (t : ℕ) → Ready p stack t → Follows p c (left p m (upward stack)) (leave p stack) m
  leave_follows c m [] t ready = over_follows c m
  leave_follows c m (k ∷ stack) t ready =
      let until = Rising-until t 0 (upward stack) k ready.rises in
      let rest : Follows p c (open_at (upward stack) (k + 1) m) (shift p stack k) m =
      shift_follows c m stack k (omega (arith, until.2, ready.next)) (omega (arith, ready.low, value_with p stack k)) (omega (arith, ready.light, weight_with p stack k)) until.0 in
      subst (λ (s : State). Follows p c s (shift p stack k) m) (sym (left_push p m (upward stack) k)) rest

  -- the branch without t is closed too, for a reason where S is none
  cut_follows : (c : Option (List ℕ)) (m : Bool) (stack : List ℕ) (t : ℕ) (reason : Reason) → Ready p stack t → met_behind c m (upward stack) reason ≡ m → (p.lo ≤ value_of p (upward stack) + later_value p (t + 1) → Closes p c m (upward stack) (t + 1) reason) → Follows p c (open_at (upward stack) (t + 1) m) (cut p stack t reason) m
  cut_follows c m stack t reason ready stays closes =
      let rest : Follows p c (left p m (upward stack)) (leave p stack) m = leave_follows c m stack t ready in
      if_cases (λ (r : Reason). Follows p c (open_at (upward stack) (t + 1) m) (writes (Close r) (leave p stack)) m) (nat_lt (value_of p (upward stack) + later_value p (t + 1)) p.lo) Short reason
      (λ e. writes_follows c (open_at (upward stack) (t + 1) m) (Close Short) (leave p stack) m (refl, lt_yes (value_of p (upward stack) + later_value p (t + 1)) p.lo e) rest)
      (λ e.
      writes_follows c (open_at (upward stack) (t + 1) m) (Close reason) (leave p stack) m (refl, closes (lt_no (value_of p (upward stack) + later_value p (t + 1)) p.lo e))
      (subst (λ (b : Bool). Follows p c (left p b (upward stack)) (leave p stack) m) (sym stays) rest))

  lightest_means : (stack : List ℕ) (t : ℕ) → is_lightest p t ≡ true → t + 1 < length p.items → (item_at p.items t).weight ≤ least_weight p (t + 1)
  lightest_means stack t e below =
      elim (or_cases (t + 1 == length p.items) (nat_le (item_at p.items t).weight (least_weight p (t + 1))) e) [
        | inl same ↦ absurd (omega (arith, eq_yes (t + 1) (length p.items) same))
        | inr light ↦ le_yes (item_at p.items t).weight (least_weight p (t + 1)) light
      ]

  pub cut_or_shift_follows : (c : Option (List ℕ)) (m : Bool) (stack : List ℕ) (t : ℕ) (reason : Reason) → Ready p stack t → met_behind c m (upward stack) reason ≡ m → (t + 1 < length p.items → (item_at p.items t).weight ≤ least_weight p (t + 1) → Closes p c m (upward stack) (t + 1) reason) → Follows p c (open_at (upward stack) (t + 1) m) (cut_or_shift p stack t reason) m
  cut_or_shift_follows c m stack t reason ready stays closes =
      if_cases (λ (v : Way). Follows p c (open_at (upward stack) (t + 1) m) v m) (is_lightest p t) (cut p stack t reason) (shift p stack t)
      (λ e. cut_follows c m stack t reason ready stays (λ enough.
      let below : t + 1 < length p.items = place_left p t (upward stack) enough ready.low in
      closes below (lightest_means stack t e below)))
      (λ e. shift_follows c m stack t ready.next ready.low ready.light ready.rises)

  -- a token that closes the branch with t
  pub closes_with : (c : Option (List ℕ)) (m m' : Bool) (stack : List ℕ) (t : ℕ) (reason : Reason) (w : Way) → Closes p c m (upward (t ∷ stack)) (t + 1) reason → met_behind c m (upward (t ∷ stack)) reason ≡ m' → Follows p c (open_at (upward stack) (t + 1) m') w m' → Follows p c (open_at (upward (t ∷ stack)) (t + 1) m) (writes (Close reason) w) m'
  closes_with c m m' stack t reason w closes met f =
      let there : left p (met_behind c m (upward (t ∷ stack)) reason) (upward (t ∷ stack)) ≡ open_at (upward stack) (t + 1) m' =
      ap (λ (b : Bool). left p b (upward (t ∷ stack))) met ∙ left_push p m' (upward stack) t in
      writes_follows c (open_at (upward (t ∷ stack)) (t + 1) m) (Close reason) w m' (refl, closes) (subst (λ (s : State). Follows p c s w m') (sym there) f)

  pub short_follows : (c : Option (List ℕ)) (m : Bool) (stack : List ℕ) (t : ℕ) → Ready p stack t → value_of p (upward (t ∷ stack)) + later_value p (t + 1) < p.lo → Follows p c (open_at (upward (t ∷ stack)) (t + 1) m) (way_of p stack t IsShort) m
  short_follows c m stack t ready h =
      closes_with c m m stack t Short (cut p stack t Short) h refl
      (cut_follows c m stack t Short ready refl (λ enough. absurd (omega (arith, h, enough, value_with p stack t))))

  over_is : (k : Kind) (q : List ℕ) → is_over k p q ≡ true → (k ≡ Changeless) × (p.hi < value_of p q)
  over_is Changeless q e = (refl, lt_yes p.hi (value_of p q) e)
  over_is Lean q e = absurd (cc)

  pub over_hi_follows : (c : Option (List ℕ)) (m : Bool) (stack : List ℕ) (t : ℕ) → Ready p stack t → is_over p.kind p (upward (t ∷ stack)) ≡ true → Follows p c (open_at (upward (t ∷ stack)) (t + 1) m) (way_of p stack t IsOver) m
  over_hi_follows c m stack t ready e =
      closes_with c m m stack t Over (shift p stack t) (over_is p.kind (upward (t ∷ stack)) e) refl (shift_follows c m stack t ready.next ready.low ready.light ready.rises)

  pub heavy_follows : (c : Option (List ℕ)) (m : Bool) (stack : List ℕ) (t : ℕ) → Ready p stack t → p.most_weight < weight_of p (upward (t ∷ stack)) → Follows p c (open_at (upward (t ∷ stack)) (t + 1) m) (way_of p stack t IsHeavy) m
  heavy_follows c m stack t ready h =
      closes_with c m m stack t Heavy (cut_or_shift p stack t NoRoom) h refl
      (cut_or_shift_follows c m stack t NoRoom ready refl (λ below least. (ready.low, below, omega (arith, h, least, weight_with p stack t))))

  -- the walk goes on with t
  pub on_follows : (c : Option (List ℕ)) (m : Bool) (stack : List ℕ) (t : ℕ) → Ready p stack t → p.lo ≤ value_of p (upward (t ∷ stack)) + later_value p (t + 1) → value_of p (upward (t ∷ stack)) < p.lo → weight_of p (upward (t ∷ stack)) ≤ p.most_weight → Follows p c (open_at (upward (t ∷ stack)) (t + 1) m) (way_of p stack t GoesOn) m
  on_follows c m stack t ready enough low light =
      let below : t + 1 < length p.items = place_left p t (upward (t ∷ stack)) enough low in
      at_follows c m (t ∷ stack) (t + 1) record { rises = Rising-push (t + 1) 0 t (upward stack) (omega arith) (omega arith) ready.rises; next = below; low = low; light = light }
