-- Tries that drop their place and change nothing else: by which tests they are told, and what they write.
use Rattle.std.specs.Prelude.{◌≡◌, ℕ, ◌+◌, ◌<◌, ◌≤◌, Bool, true, false, List, [], ◌∷◌, ◌++◌, length, reverse, Option}
use Rattle.std.specs.Prelude.{if◌then◌else◌, nat_lt, nat_le}
use Rattle.std.proofs.Common.{arith, refl, sym, ap, subst, ◌∙◌, append-nil, append_assoc}
use Rattle.pick_problem.specs.declared.item.Kind.{Kind}
use Rattle.pick_problem.specs.declared.item.Kind.TheVariants.{Changeless, Lean}
use Rattle.pick_problem.specs.declared.token.Reason.{Reason}
use Rattle.pick_problem.specs.declared.token.Reason.TheVariants.{Over, Worse, Heavier, Far, Hit}
use Rattle.pick_problem.specs.declared.token.Token.{Token}
use Rattle.pick_problem.specs.declared.token.Token.TheVariants.{Enter, Pass, Close}
use Rattle.pick_problem.specs.Later.{behind_twins, later_value}
use Rattle.pick_problem.specs.Letters.{letters_of}
use Rattle.pick_problem.specs.Tokens.{letter_of}
use Rattle.pick_problem.specs.Problem.{PlainProblem, IsProblem, AreBounds, value_of, weight_of}
use Rattle.pick_problem.specs.Walk.{Way, Rule, IsShort, IsOver, IsHeavy, IsWorse, IsHit, IsFar, GoesOn, at, best_of, cut}
use Rattle.pick_problem.specs.Walk.{is_far, is_lightest, is_over, is_worse, rule, shift, way_of, worse_way, writes}
use Rattle.pick_problem.proofs.Deciding.{if_false, if_true, lt_yes}
use Rattle.pick_problem.proofs.WayLaws.{fronted, pass_tokens, shift_ends}
use Rattle.walk_engine.specs.declared.stack.Stack.{Stack}
use Rattle.walk_engine.specs.declared.stop.Stop.{Stop}
use Rattle.walk_engine.specs.Skipping.{OnlyDrops, dropping}
use Rattle.walk_engine.specs.Stack.{IsStack, with_place}
use Rattle.walk_engine.specs.Transitions.{HasWalked}
use Rattle.walk_engine.proofs.WayLaws.{lt_false, lt_true, stack_wider, walked_at, walked_front}

module _ (p : PlainProblem) (t : ℕ) (reason : Reason) (old mid new : List ℕ)
    (noted : mid ≡ old ++ letters_of (Enter ∷ Close reason ∷ [])) where
  noted_more : (ks : List Token) → pass_tokens p t ≡ ks → new ≡ mid ++ letters_of ks →
      new ≡ old ++ letters_of (dropping p t reason)
  noted_more ks passed e =
      e ∙ (ap (λ (xs : List ℕ). xs ++ letters_of ks) noted
      ∙ (append_assoc old (letters_of (Enter ∷ Close reason ∷ [])) (letters_of ks)
      ∙ ap (λ (ls : List Token). old ++ letters_of (Enter ∷ Close reason ∷ ls)) (sym passed)))

  -- twins are passed, or there are none
  pub drops_some : t + 1 < behind_twins p (t + 1) → new ≡ mid ++ letter_of Pass ∷ [] →
      new ≡ old ++ letters_of (dropping p t reason)
  drops_some more e = noted_more (Pass ∷ []) (if_true (nat_lt (t + 1) (behind_twins p (t + 1))) (Pass ∷ []) []
      (lt_true (t + 1) (behind_twins p (t + 1)) more)) e

pub drops_none : (p : PlainProblem) (t : ℕ) (reason : Reason) (old new : List ℕ) →
    new ≡ old ++ letters_of (Enter ∷ Close reason ∷ []) → behind_twins p (t + 1) ≤ t + 1 →
    new ≡ old ++ letters_of (dropping p t reason)
drops_none p t reason old new noted none =
    noted_more p t reason old new new noted [] (if_false (nat_lt (t + 1) (behind_twins p (t + 1))) (Pass ∷ []) []
    (lt_false (t + 1) (behind_twins p (t + 1)) none)) (sym (append-nil new))

over_above : (k : Kind) (p : PlainProblem) (q : List ℕ) → is_over k p q ≡ true → p.hi < value_of p q
over_above Changeless p q e = lt_yes p.hi (value_of p q) e
over_above Lean p q e = absurd (cc)

bounds_rise : (k : Kind) (lo hi : ℕ) → AreBounds k lo hi → lo ≤ hi
bounds_rise Changeless lo hi l = l
bounds_rise Lean lo hi e = omega (arith, e)

module _ (p : PlainProblem) (b : Option (List ℕ)) (q : List ℕ) (t : ℕ) where
  abbrev chosen : List ℕ
  chosen = q ++ t ∷ []

  abbrev short : Bool
  short = nat_lt (value_of p chosen + later_value p (t + 1)) p.lo

  abbrev over : Bool
  over = is_over p.kind p chosen

  abbrev heavy : Bool
  heavy = nat_lt p.most_weight (weight_of p chosen)

  abbrev worse : Bool
  worse = is_worse p.kind p b chosen

  abbrev hit : Bool
  hit = nat_le p.lo (value_of p chosen)

  abbrev from_far : Rule
  from_far = if is_far p.kind p b chosen t then IsFar else GoesOn

  abbrev from_hit : Rule
  from_hit = if hit then IsHit else from_far

  abbrev from_worse : Rule
  from_worse = if worse then IsWorse else from_hit

  abbrev from_heavy : Rule
  from_heavy = if heavy then IsHeavy else from_worse

  abbrev from_over : Rule
  from_over = if over then IsOver else from_heavy

  rule_over : short ≡ false → over ≡ true → rule p b chosen t ≡ IsOver
  rule_over e f = if_false short IsShort from_over e ∙ if_true over IsOver from_heavy f

  rule_light : short ≡ false → over ≡ false → heavy ≡ false → rule p b chosen t ≡ from_worse
  rule_light e f g = if_false short IsShort from_over e ∙ (if_false over IsOver from_heavy f
      ∙ if_false heavy IsHeavy from_worse g)

  drops_by : (r : Rule) (reason : Reason) → behind_twins p (t + 1) < length p.items → rule p b chosen t ≡ r →
      way_of p (reverse q) t r ≡ writes (Close reason) (shift p (reverse q) t) → best_of p b chosen r ≡ b →
      OnlyDrops p b q t reason
  drops_by r reason is e way best =
      record {
        way = ap (way_of p (reverse q) t) e ∙ way;
        best = ap (best_of p b chosen) e ∙ best;
        more = is;
      }

  -- what is above hi is at least lo
  over_not_short : IsProblem p → over ≡ true → short ≡ false
  over_not_short problem f = lt_false (value_of p chosen + later_value p (t + 1)) p.lo (omega (
    arith,
    over_above p.kind p chosen f,
    bounds_rise p.kind p.lo p.hi problem.bounds,
  ))

  pub drops_over : IsProblem p → behind_twins p (t + 1) < length p.items → over ≡ true → OnlyDrops p b q t Over
  drops_over problem is f = drops_by IsOver Over is (rule_over (over_not_short problem f) f) refl refl

  pub drops_worse : p.kind ≡ Changeless → behind_twins p (t + 1) < length p.items → short ≡ false → over ≡ false → heavy ≡ false → worse ≡ true →
      OnlyDrops p b q t Worse
  drops_worse kind is e f g h =
      drops_by IsWorse Worse is (rule_light e f g ∙ if_true worse IsWorse from_hit h)
      (ap (λ (k : Kind). worse_way k p (reverse q) t) kind) refl

  never_over : p.kind ≡ Lean → over ≡ false
  never_over kind = ap (λ (k : Kind). is_over k p chosen) kind

  pub drops_heavier : p.kind ≡ Lean → behind_twins p (t + 1) < length p.items → short ≡ false → heavy ≡ false → worse ≡ true →
      is_lightest p t ≡ false → OnlyDrops p b q t Heavier
  drops_heavier kind is e g h light =
      drops_by IsWorse Heavier is (rule_light e (never_over kind) g ∙ if_true worse IsWorse from_hit h)
      (ap (λ (k : Kind). worse_way k p (reverse q) t) kind
      ∙ ap (writes (Close Heavier)) (if_false (is_lightest p t) (cut p (reverse q) t Far) (shift p (reverse q) t) light))
      refl

  pub drops_hit : p.kind ≡ Lean → behind_twins p (t + 1) < length p.items → short ≡ false → heavy ≡ false → worse ≡ false → hit ≡ true →
      best_of p b chosen IsHit ≡ b → OnlyDrops p b q t Hit
  drops_hit kind is e g h reaches same =
      drops_by IsHit Hit is (rule_light e (never_over kind) g ∙ (if_false worse IsWorse from_hit h
      ∙ if_true hit IsHit from_far reaches)) refl same

-- what such a try leaves
pub dropped : (p : PlainProblem) (b : Option (List ℕ)) (s : Stack) (t : ℕ) (reason : Reason) (old new : List ℕ)
    (stop : Stop) → OnlyDrops p b s.places.items t reason → IsStack p t s →
    new ≡ old ++ letters_of (dropping p t reason) → stop.next ≡ behind_twins p (t + 1) → t < stop.next →
    stop.done ≡ false →
    HasWalked p (writes Enter (way_of p (reverse s.places.items) t (rule p b (with_place s t) t))) old new s stop
dropped p b s t reason old new stop drops is letters next behind open_ =
    let here : HasWalked p (at (reverse s.places.items) stop.next) new new s stop = walked_at p new s stop open_
    (stack_wider p t stop.next s (omega (arith, behind)) is) in
    let there : HasWalked p (at (reverse s.places.items) (behind_twins p (t + 1))) new new s stop = subst (λ
    (u : ℕ). HasWalked p (at (reverse s.places.items) u) new new s stop) next here in
    let noted : HasWalked p (fronted (dropping p t reason) (at (reverse s.places.items) (behind_twins p
    (t + 1)))) old new s stop = walked_front p (at (reverse s.places.items) (behind_twins p (t + 1)))
    (dropping p t reason) old new new s stop letters there in
    let left : nat_lt (behind_twins p (t + 1)) (length p.items) ≡ true = lt_true (behind_twins p (t + 1))
    (length p.items) drops.more in
    let shifts : shift p (reverse s.places.items) t ≡ fronted (pass_tokens p t) (at (reverse s.places.items)
    (behind_twins p (t + 1))) = shift_ends p (reverse s.places.items) t left in
    subst (λ (w : Way). HasWalked p (writes Enter w) old new s stop) (sym
    (drops.way ∙ ap (writes (Close reason)) shifts)) noted
