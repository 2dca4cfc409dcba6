-- To which search a run comes, as the code follows it.
use Rattle.std.specs.Prelude.{ℕ, ◌≡◌, ◌≤◌, ◌<◌, ◌+◌, ◌-◌, ◌||◌, ◌&&◌, Bool, true, false, List, [], ◌∷◌, ◌++◌, length, drop, get_or, Option, Some, None, is_some, Result, Ok, Err, IfOk, if◌then◌else◌}
use Rattle.std.proofs.Common.{arith, refl, sym, ap, subst, ◌∙◌}
use Rattle.std.proofs.lemmas.List.{drop_all, drop_more, length-drop}
use Rattle.random_draw.specs.Draw.{draw_of}
use Rattle.search_run.specs.Along.{ComesTo, IsAfterStep}
use Rattle.search_run.specs.Found.{PlainFound, found_of}
use Rattle.search_run.specs.Kept.{At, answered, answered_by, at_end, to_search}
use Rattle.search_run.specs.Run.{ends, is_some_found}
use Rattle.search_run.specs.Step.{PlainStep, is_drawn}
use Rattle.search_run.specs.declared.next_search.NextSearch.{NextSearch}
use Rattle.search_run.proofs.ComeLaws.{behind_step, draw_first, search_first}

-- a result more is a result
some_more : (fs : List PlainFound) (x : PlainStep) (r : Option (List ℕ)) → is_some_found (fs ++ found_of x r) ≡ (is_some_found fs || is_some r)
some_more [] x None = refl
some_more [] x (Some q) = refl
some_more (f ∷ fs) x r = refl

-- to where a run comes after a step
pub by_ends : (seed : List ℕ) (b : Bool) (rest : List PlainStep) (found : List PlainFound) → to_search seed (if b then [] else rest) found ≡ (if b then at_end found else to_search seed rest found)
by_ends seed true rest found = refl
by_ends seed false rest found = refl

pub comes_after : (seed : List ℕ) (steps : List PlainStep) (from c : NextSearch) (some : Bool) (x : PlainStep) (rest : List PlainStep) (found : List PlainFound) (r : Option (List ℕ)) →
    drop from.at steps ≡ x ∷ rest → IsAfterStep steps from some c → is_some_found found ≡ from.some → is_some r ≡ some →
    (is_some_found (found ++ found_of x r) ≡ c.some) × (behind_step seed x rest (found ++ found_of x r) ≡ to_search seed (drop c.at steps) (found ++ found_of x r))
comes_after seed steps from c some x rest found r here h so is =
    let now : is_some_found (found ++ found_of x r) ≡ c.some = some_more found x r ∙ (ap (λ (b : Bool). b || is_some r) so ∙ (ap (λ (b : Bool). from.some || b) is ∙ sym h.result)) in
    let left : drop c.at steps ≡ (if x.last && is_some_found (found ++ found_of x r) then [] else rest) = h.left x rest here ∙ ap (λ (b : Bool). if x.last && b then [] else rest) (sym now) in
    (now, sym (ap (λ (l : List PlainStep). to_search seed l (found ++ found_of x r)) left ∙ by_ends seed (ends x (found ++ found_of x r)) rest (found ++ found_of x r)))

-- ---- past draws

-- from one place to another, past draws alone
pub record IsOnWay (seed : List ℕ) (steps : List PlainStep) (from now : NextSearch) : Type 0 where
  pub within : now.at ≤ length steps
  pub on : (found : List PlainFound) → is_some_found found ≡ from.some →
      (f : List PlainFound) × (is_some_found f ≡ now.some) × (to_search seed (drop from.at steps) found ≡ to_search seed (drop now.at steps) f)

pub way_begins : (seed : List ℕ) (steps : List PlainStep) (from : NextSearch) → from.at ≤ length steps → IsOnWay seed steps from from
way_begins seed steps from within = record { within = within; on = λ found e. (found, e, refl) }

pub way_on : (seed : List ℕ) (steps : List PlainStep) (from now c : NextSearch) (x : PlainStep) (some : Bool) → now.at < length steps → x ≡ get_or steps now.at x → is_drawn x.stage ≡ true → some ≡ is_some (draw_of x.problem seed) →
    IsAfterStep steps now some c → IsOnWay seed steps from now → IsOnWay seed steps from c
way_on seed steps from now c x some below at d is h way =
    let rest : List PlainStep = drop (now.at + 1) steps in
    let here : drop now.at steps ≡ x ∷ rest = drop_more steps now.at x below ∙ ap (λ (y : PlainStep). y ∷ rest) (sym at) in
    record {
      within = h.within;
      on = λ found e.
          let w = way.on found e in
          let b = comes_after seed steps now c some x rest w.0 (draw_of x.problem seed) here h w.1 (sym is) in
          (w.0 ++ found_of x (draw_of x.problem seed), b.0, w.2 ∙ (ap (λ (l : List PlainStep). to_search seed l w.0) here ∙ (draw_first seed x rest w.0 d ∙ b.1)));
    }

-- at a search, or after the last step
pub way_at_search : (seed : List ℕ) (steps : List PlainStep) (from now : NextSearch) (x : PlainStep) → now.at < length steps → x ≡ get_or steps now.at x → is_drawn x.stage ≡ false → IsOnWay seed steps from now →
    (found : List PlainFound) → is_some_found found ≡ from.some → ComesTo steps now (to_search seed (drop from.at steps) found)
way_at_search seed steps from now x below at d way found e =
    let rest : List PlainStep = drop (now.at + 1) steps in
    let here : drop now.at steps ≡ x ∷ rest = drop_more steps now.at x below ∙ ap (λ (y : PlainStep). y ∷ rest) (sym at) in
    let w = way.on found e in
    let there : to_search seed (drop from.at steps) found ≡ record { left = x ∷ rest; found = w.0 } = w.2 ∙ (ap (λ (l : List PlainStep). to_search seed l w.0) here ∙ search_first seed x rest w.0 d) in
    subst (ComesTo steps now) (sym there) (record { within = way.within; left = sym here; some = w.1 })

pub way_at_end : (seed : List ℕ) (steps : List PlainStep) (from now : NextSearch) → length steps ≤ now.at → IsOnWay seed steps from now →
    (found : List PlainFound) → is_some_found found ≡ from.some → ComesTo steps now (to_search seed (drop from.at steps) found)
way_at_end seed steps from now over way found e =
    let none : drop now.at steps ≡ [] = drop_all now.at steps over in
    let w = way.on found e in
    let there : to_search seed (drop from.at steps) found ≡ at_end w.0 = w.2 ∙ ap (λ (l : List PlainStep). to_search seed l w.0) none in
    subst (ComesTo steps now) (sym there) (record { within = way.within; left = sym none; some = w.1 })

-- ---- after a search

pub comes_answered : (seed : List ℕ) (steps : List PlainStep) (from c d : NextSearch) (some : Bool) (at : At) (a : Option (List ℕ)) → from.at < length steps → IsAfterStep steps from some c → ComesTo steps from at → is_some a ≡ some →
    ((found : List PlainFound) → is_some_found found ≡ c.some → ComesTo steps d (to_search seed (drop c.at steps) found)) → ComesTo steps d (answered seed at a)
comes_answered seed steps from c d some at a below h comes is goes = by (drop from.at steps) refl
  where
    by : (l : List PlainStep) → drop from.at steps ≡ l → ComesTo steps d (answered_by seed at.left at.found a)
    by [] e = absurd (let n : length (drop from.at steps) ≡ length steps - from.at = length-drop from.at steps in let z : length (drop from.at steps) ≡ 0 = ap length e in omega (arith, below, n, z))
    by (x ∷ rest) e =
        let b = comes_after seed steps from c some x rest at.found a e h comes.some is in
        let there : answered_by seed at.left at.found a ≡ to_search seed (drop c.at steps) (at.found ++ found_of x a) = ap (λ (l : List PlainStep). answered_by seed l at.found a) (comes.left ∙ e) ∙ b.1 in
        subst (ComesTo steps d) (sym there) (goes (at.found ++ found_of x a) b.0)

pub answered_ok : {X : Type 0} (seed : List ℕ) (steps : List PlainStep) (from c : NextSearch) (some : Bool) (at : At) (a : Option (List ℕ)) → from.at < length steps → IsAfterStep steps from some c → ComesTo steps from at → is_some a ≡ some → (r : Result NextSearch X) →
    ((found : List PlainFound) → is_some_found found ≡ c.some → IfOk r (λ d. ComesTo steps d (to_search seed (drop c.at steps) found))) → IfOk r (λ d. ComesTo steps d (answered seed at a))
answered_ok seed steps from c some at a below h comes is (Ok d) goes = comes_answered seed steps from c d some at a below h comes is goes
answered_ok seed steps from c some at a below h comes is (Err x) goes = tt
