-- The log of a run from the start is within the limit of a job's parts: three letters a try at most, and a few lines for each of
-- at most 28 searches.
use Rattle.std.proofs.Common.{◌≡◌, ◌∙◌, ℕ, zero, suc, ◌+◌, ◌-◌, ◌*◌, ◌≤◌, min, Bool, true, false, List, [], ◌∷◌, ◌++◌, length, Option, Some, None, refl, sym, ap, subst, arith, length-append, Contains}
use Rattle.std.specs.Prelude.{IfSome, codes, nat_lt}
use Rattle.std.specs.Fmt.{decimal}
use Rattle.std.specs.List.{AllByRecursion, flat_map}
use Rattle.std.proofs.lemmas.Fmt.{length-decimal-le}
use Rattle.std.proofs.lemmas.List.{length-map}
use Rattle.hex.proofs.HexLemmas.{length-encode_with}
use Rattle.hex.specs.Hex.{encode_lower, lower_digits}
use Rattle.sha2.proofs.Facts256.{length-sha256}
use Rattle.closing_log.specs.Log.{PlainSection}
use Rattle.closing_log.specs.LogText.{HasSmallPlaces, IsSizedSection, answer_text, ending_text, head_text, places_text, section_text, stage_word, text_of}
use Rattle.closing_log.specs.declared.log.Stage.{Stage}
use Rattle.closing_log.specs.declared.log.Stage.TheVariants.{Presets, Changeless, LeanBig, Draw, LeanSmall, Wide}
use Rattle.pick_problem.proofs.BoundLaws.{over_one, tame_way}
use Rattle.pick_problem.proofs.Deciding.{if_cases}
use Rattle.pick_problem.specs.Digest.{digest_of, problem_bytes}
use Rattle.pick_problem.specs.Later.{total_value}
use Rattle.pick_problem.specs.Letters.{letters_of}
use Rattle.pick_problem.specs.Problem.{PlainProblem}
use Rattle.pick_problem.specs.Tokens.{letter_of}
use Rattle.pick_problem.specs.Walk.{Walk, after_tries, rule, start, try_once, upward, way_of}
use Rattle.pick_problem.specs.declared.token.Reason.TheVariants.{Short}
use Rattle.pick_problem.specs.declared.token.Token.{Token}
use Rattle.pick_problem.specs.declared.token.Token.TheVariants.{Enter, Close}
use Rattle.fund_plan.specs.Outcome.{end_at, is_partial, log_at, most_tries, stand_after}
use Rattle.fund_plan.specs.Steps.{steps_of}
use Rattle.fund_steps.specs.Basis.{Basis, basis_of, load_alone}
use Rattle.fund_steps.specs.Plan.{PlainPlan}
use Rattle.fund_steps.specs.Searches as searches
use Rattle.fund_steps.specs.Searches.{PlainRow, is_high, is_met, row_in, rows_in, step_by, steps_at, terms_in, turns_in}
use Rattle.fund_steps.specs.Terms.{rates_of}
use Rattle.fund_steps.specs.Turns.{turns_of}
use Rattle.fund_steps.specs.declared.turns.Turn.{Turn}
use Rattle.output_groups.specs.Ladder.{ladder_of}
use Rattle.random_draw.specs.Draw.{draw_of}
use Rattle.request_text.specs.declared.request.Method.{Method}
use Rattle.request_text.specs.declared.request.Method.TheVariants as methods
use Rattle.search_run.proofs.MadeLaws.{run_stands}
use Rattle.search_run.proofs.RunLaws.{onward_by, stays_at}
use Rattle.search_run.proofs.RunLaws as runs
use Rattle.search_run.specs.Found.{PlainFound, found_of}
use Rattle.search_run.specs.Kept.{Along, At, answered_by, first_search, is_over, log_of, tail_of, to_search}
use Rattle.search_run.specs.Run.{Past, Stand, all_letters, beginning, begun_first, drawn, ends, made, onward, passed, section_at, sections_of}
use Rattle.search_run.specs.Stands.{IsFromStart, IsMadeAt}
use Rattle.search_run.specs.Step.{AreSteps, PlainStep, is_drawn}
use Rattle.kept_job.proofs.LogLaws.{HasFewPlaces, contains_behind, made_few, made_sized, small_row}

-- ---- three letters a try

one_at_most : (b : Bool) → over_one b ≤ 1
one_at_most true = omega arith
one_at_most false = omega arith

-- a walk has written three letters a try at most, and one, two fewer for each chosen place
record IsFew (w : Walk) : Type 0 where
  few : length w.tokens + 2 * length w.stack ≤ 3 * w.tries + over_one w.done

start_few : (p : PlainProblem) → IsFew (start p)
start_few p =
    if_cases IsFew (nat_lt (total_value p.items) p.lo) (record { stack = []; next = length p.items; best = None; tries = 0; done = true; tokens = Close Short ∷ [] })
    (record { stack = []; next = 0; best = None; tries = 0; done = false; tokens = [] }) (λ e. record { few = omega arith }) (λ e. record { few = omega arith })

tried_few : (p : PlainProblem) (w : Walk) (n : ℕ) → IsFew w → IsFew (after_tries p w n)
tried_few p w zero h = h
tried_few p w (suc n) h =
    let v : Walk = after_tries p w n in
    let old : IsFew v = tried_few p w n h in
    if_cases IsFew v.done v (try_once p v) (λ e. old)
    (λ e.
    let r = rule p v.best (upward (v.next ∷ v.stack)) v.next in
    let tame = tame_way p v.stack v.next r in
    let none : over_one v.done ≡ 0 = ap over_one e in
    record { few = omega (arith, old.few, none, tame.few, length-append v.tokens (Enter ∷ (way_of p v.stack v.next r).tokens)) })

tries_rise : (p : PlainProblem) (w : Walk) (n : ℕ) → w.tries ≤ (after_tries p w n).tries
tries_rise p w zero = omega arith
tries_rise p w (suc n) =
    let v : Walk = after_tries p w n in
    let old : w.tries ≤ v.tries = tries_rise p w n in
    if_cases (λ (u : Walk). w.tries ≤ u.tries) v.done v (try_once p v) (λ e. old) (λ e. omega (arith, old))

begun_few : (seed : List ℕ) (left : List PlainStep) → IsFew (begun_first seed left)
begun_few seed [] = record { few = omega arith }
begun_few seed (x ∷ rest) = if_cases IsFew (is_drawn x.stage) (drawn x.problem seed) (start x.problem) (λ d. record { few = omega arith }) (λ d. start_few x.problem)

start_untried : (p : PlainProblem) → (start p).tries ≡ 0
start_untried p =
    if_cases (λ (w : Walk). w.tries ≡ 0) (nat_lt (total_value p.items) p.lo) (record { stack = []; next = length p.items; best = None; tries = 0; done = true; tokens = Close Short ∷ [] })
    (record { stack = []; next = 0; best = None; tries = 0; done = false; tokens = [] }) (λ e. refl) (λ e. refl)

begun_untried : (seed : List ℕ) (left : List PlainStep) → (begun_first seed left).tries ≡ 0
begun_untried seed [] = refl
begun_untried seed (x ∷ rest) = if_cases (λ (w : Walk). w.tries ≡ 0) (is_drawn x.stage) (drawn x.problem seed) (start x.problem) (λ d. refl) (λ d. start_untried x.problem)

-- ---- the letters of a run

letters_in : List PlainSection → ℕ
letters_in [] = 0
letters_in (s ∷ ss) = length s.letters + letters_in ss

letters_join : (ss ts : List PlainSection) → letters_in (ss ++ ts) ≡ letters_in ss + letters_in ts
unfolding letters_in
letters_join [] ts = omega arith
letters_join (s ∷ ss) ts = omega (arith, letters_join ss ts)

letters_long : (ts : List Token) → length (letters_of ts) ≡ length ts
letters_long ts = length-map ts letter_of

record IsBound (past : Past) (w : Walk) : Type 0 where
  closed : letters_in past.closed + 3 * w.tries ≤ 3 * past.tries + length past.closed
  walk : IsFew w

-- the letters of a run are three a try at most, and one for each search
record HasFew (s : Stand) : Type 0 where
  few : letters_in s.past.closed + length (all_letters s.before s.walk) ≤ 3 * s.past.tries + length s.past.closed + 1

-- those behind a step
record FewBehind (closed : List PlainSection) (tries : ℕ) : Type 0 where
  few : letters_in closed ≤ 3 * tries + length closed

passed_few : (x : PlainStep) (w v : Walk) (past : Past) → letters_in past.closed + 3 * w.tries ≤ 3 * past.tries + length past.closed → w.tries ≤ v.tries → IsFew v → FewBehind (past.closed ++ sections_of x [] v) (past.tries + made w v)
unfolding letters_in
passed_few x w v past h more few =
    if_cases (λ (ss : List PlainSection). FewBehind (past.closed ++ ss) (past.tries + made w v)) (is_drawn x.stage) [] (section_at x [] v ∷ [])
    (λ d. record { few = omega (arith, h, more, letters_join past.closed [], length-append past.closed []) })
    (λ d.
    let s : PlainSection = section_at x [] v in
    let one : letters_in (s ∷ []) ≡ length (letters_of v.tokens) = omega arith in
    record { few = omega (arith, h, more, few.few, one_at_most v.done, one, letters_long v.tokens, letters_join past.closed (s ∷ []), length-append past.closed (s ∷ [])) })

few_on : (seed : List ℕ) (left : List PlainStep) (w : Walk) (past : Past) (m : ℕ) → IsBound past w → HasFew (onward seed left w [] past m)
few_on seed [] w past m h = record { few = omega (arith, h.closed) }
few_on seed (x ∷ rest) w past m h =
    let v : Walk = after_tries x.problem w m in
    let walk : IsFew v = tried_few x.problem w m h.walk in
    let more : w.tries ≤ v.tries = tries_rise x.problem w m in
    let behind : FewBehind (past.closed ++ sections_of x [] v) (past.tries + made w v) = passed_few x w v past h.closed more walk in
    onward_by HasFew seed x rest w [] past m
    (λ d. record { few = omega (arith, h.closed, more, walk.few, one_at_most v.done, letters_long v.tokens) })
    (λ d e. record { few = omega (arith, behind.few) })
    (λ d e. few_on seed rest (begun_first seed rest) (passed x [] w v past) (m - made w v) (record { closed = omega (arith, behind.few, begun_untried seed rest); walk = begun_few seed rest }))

-- ---- how many searches there are

to_search_short : (seed : List ℕ) (left : List PlainStep) (found : List PlainFound) → length (to_search seed left found).left ≤ length left
to_search_short seed [] found = omega arith
to_search_short seed (x ∷ rest) found =
    let P : At → Type 0 = λ at. length at.left ≤ length (x ∷ rest) in
    let now : List PlainFound = found ++ found_of x (draw_of x.problem seed) in
    if_cases P (is_drawn x.stage) _ _
    (λ d. if_cases P (ends x now) _ _ (λ e. omega arith) (λ e. omega (arith, to_search_short seed rest now)))
    (λ d. omega arith)

answered_short : (seed : List ℕ) (x : PlainStep) (rest : List PlainStep) (found : List PlainFound) (a : Option (List ℕ)) → length (answered_by seed (x ∷ rest) found a).left ≤ length rest
answered_short seed x rest found a =
    let P : At → Type 0 = λ at. length at.left ≤ length rest in
    if_cases P (ends x (found ++ found_of x a)) _ _ (λ e. omega arith) (λ e. to_search_short seed rest (found ++ found_of x a))

-- each section is that of another step
made_count : (seed : List ℕ) (ss : List PlainSection) (left : List PlainStep) (found : List PlainFound) → Along IsMadeAt seed (record { left = left; found = found }) ss → length ss ≤ length left
made_count seed [] left found h = omega arith
made_count seed (s ∷ ss) [] found h = absurd h.0.0
made_count seed (s ∷ ss) (x ∷ rest) found h =
    let next : At = answered_by seed (x ∷ rest) found s.answer in
    let below : length next.left ≤ length rest = answered_short seed x rest found s.answer in
    let others : length ss ≤ length next.left = made_count seed ss next.left next.found h.1 in
    omega (arith, below, others)

flat_count : (f : PlainRow → List PlainStep) (k : ℕ) (rows : List PlainRow) → ((r : PlainRow) → length (f r) ≤ k) → length (flat_map f rows) ≤ length rows * k
flat_count f k [] h = omega arith
flat_count f k (r ∷ rows) h = omega (arith, h r, flat_count f k rows h, length-append (f r) (flat_map f rows))

turns_few : (m : Method) (high : Bool) → length (turns_of m high) ≤ 4
turns_few methods.Auto true = omega arith
turns_few methods.Auto false = omega arith
turns_few methods.Changeless high = omega arith
turns_few methods.Weight high = omega arith
turns_few methods.Draw high = omega arith
turns_few methods.Manual high = omega arith

turns_in_few : (b : Basis) → length (turns_in b) ≤ 4
turns_in_few b =
    if_cases (λ (ts : List Turn). length ts ≤ 4) (is_met (rates_of b.request) (load_alone b)) [] (turns_of b.request.method (is_high b.request)) (λ e. omega arith) (λ e. turns_few b.request.method (is_high b.request))

ladder_few : (zero_conf include_unsafe : Bool) → length (ladder_of zero_conf include_unsafe) ≤ 7
ladder_few false u = omega arith
ladder_few true false = omega arith
ladder_few true true = omega arith

steps_few : (b : Basis) → length (searches.steps_of b) ≤ 28
unfolding searches.steps_of
steps_few b =
    let all : length (flat_map (steps_at b) (rows_in b)) ≤ length (rows_in b) * 4 =
    flat_count (steps_at b) 4 (rows_in b) (λ r. omega (arith, turns_in_few b, length-map (turns_in b) (step_by (terms_in b r) r))) in
    let rows : length (rows_in b) ≡ length (ladder_of b.request.zero_conf b.request.include_unsafe) = length-map (ladder_of b.request.zero_conf b.request.include_unsafe) (row_in b) in
    omega (arith, all, rows, ladder_few b.request.zero_conf b.request.include_unsafe)

-- ---- how long a text is

number_long : (n : ℕ) → n ≤ 4_294_967_295 → length (decimal n) ≤ 10
number_long n le = length-decimal-le 10 n (omega arith) (omega (arith, le)) (omega (arith, le))

places_long : (q : List ℕ) → AllByRecursion (λ p. p ≤ 4_294_967_295) q → length (flat_map (λ (p : ℕ). 32 ∷ decimal p) q) ≤ length q * 11
places_long [] h = omega arith
places_long (p ∷ ps) h = omega (arith, number_long p h.0, places_long ps h.1, length-append (32 ∷ decimal p) (flat_map (λ (p : ℕ). 32 ∷ decimal p) ps))

list_long : (q : List ℕ) → AllByRecursion (λ p. p ≤ 4_294_967_295) q → length (places_text q) ≤ length q * 11
list_long [] h = omega arith
list_long (p ∷ ps) h = omega (arith, number_long p h.0, places_long ps h.1, length-append (decimal p) (flat_map (λ (p : ℕ). 32 ∷ decimal p) ps))

answer_long : (a : Option (List ℕ)) → HasSmallPlaces a → IfSome a (λ q. length q ≤ 10_000) → length (answer_text a) ≤ 110_000
answer_long None h few = omega arith
answer_long (Some q) h few = omega (arith, list_long q h, few)

stage_long : (s : Stage) → length (stage_word s) ≤ 11
stage_long Presets = omega arith
stage_long Changeless = omega arith
stage_long LeanBig = omega arith
stage_long Draw = omega arith
stage_long LeanSmall = omega arith
stage_long Wide = omega arith

head_long : (digest : List ℕ) (row : ℕ) (stage : Stage) → length digest ≡ 32 → row ≤ 255 → length (head_text (encode_lower digest) row stage) ≤ 200
head_long digest row stage long small =
    let digits : length (encode_lower digest) ≡ 64 = omega (arith, length-encode_with lower_digits digest, long) in
    let number : length (decimal row) ≤ 10 = number_long row (omega (arith, small)) in
    let word : length (stage_word stage) ≤ 11 = stage_long stage in
    simp length-append (omega (arith, digits, number, word))

section_long : (s : PlainSection) → IsSizedSection s → HasFewPlaces s → length (section_text s) ≤ length s.letters + 110_300
section_long s h few =
    let head : length (head_text (encode_lower s.digest) s.row s.stage) ≤ 200 = head_long s.digest s.row s.stage h.digest.0 h.row in
    let answer : length (answer_text s.answer) ≤ 110_000 = answer_long s.answer h.places few in
    let parts = length-append (head_text (encode_lower s.digest) s.row s.stage) (s.letters ++ (codes "\nanswer " ++ (answer_text s.answer ++ codes "\n"))) in
    let inner = length-append s.letters (codes "\nanswer " ++ (answer_text s.answer ++ codes "\n")) in
    let last = length-append (answer_text s.answer) (codes "\n") in
    omega (arith, head, answer, parts, inner, last)

sections_long : (ss : List PlainSection) → AllByRecursion IsSizedSection ss → AllByRecursion HasFewPlaces ss → length (flat_map section_text ss) ≤ letters_in ss + length ss * 110_300
unfolding letters_in
sections_long [] h few = omega arith
sections_long (s ∷ ss) h few = omega (arith, section_long s h.0 few.0, sections_long ss h.1 few.1, length-append (section_text s) (flat_map section_text ss))

-- ---- the log of a run

module _ (p : PlainPlan) (n : ℕ) (are : AreSteps (steps_of p)) where
  stands : IsFromStart p.request.seed (steps_of p) (stand_after p n)
  stands = run_stands p.request.seed (steps_of p) are (min n most_tries)

  letters_few : HasFew (stand_after p n)
  unfolding letters_in
  letters_few = few_on p.request.seed (steps_of p) (begun_first p.request.seed (steps_of p)) (record { found = []; closed = []; tries = 0 }) (min n most_tries)
      (record { closed = omega (arith, begun_untried p.request.seed (steps_of p)); walk = begun_few p.request.seed (steps_of p) })

  tries_few : (stand_after p n).past.tries ≤ 10_000_000
  tries_few =
      let most : (stand_after p n).past.tries ≤ 0 + min n most_tries = runs.most_tries p.request.seed (beginning p.request.seed (steps_of p)) (min n most_tries) in
      omega (arith, most)

  count_few : length (stand_after p n).past.closed ≤ 28
  count_few =
      let first : At = first_search p.request.seed (steps_of p) in
      let one : length (stand_after p n).past.closed ≤ length first.left = made_count p.request.seed (stand_after p n).past.closed first.left first.found stands.closed in
      omega (arith, one, to_search_short p.request.seed (steps_of p) [], steps_few (basis_of p))

  closed_long : length (flat_map section_text (stand_after p n).past.closed) ≤ letters_in (stand_after p n).past.closed + 3_088_400
  closed_long =
      let all = sections_long (stand_after p n).past.closed (made_sized (steps_of p) are (small_row p) p.request.seed (min n most_tries)) (made_few (steps_of p) are (small_row p) p.request.seed (min n most_tries)) in
      omega (arith, all, count_few)

  tail_long : (left : List PlainStep) → (stand_after p n).left ≡ left → length (ending_text (tail_of (stand_after p n) left) (is_over left)) ≤ length (all_letters (stand_after p n).before (stand_after p n).walk) + 200
  tail_long [] is = omega arith
  tail_long (y ∷ rest) is =
      let there : Contains (steps_of p) y = subst (λ (xs : List PlainStep). Contains xs y) (sym (stands.left.1 ∙ ap (λ (xs : List PlainStep). stands.left.0 ++ xs) is)) (contains_behind stands.left.0 y rest) in
      let head = head_long (digest_of y.problem) y.row y.stage (length-sha256 (problem_bytes y.problem)) (small_row p y there) in
      omega (arith, head, length-append (head_text (encode_lower (digest_of y.problem)) y.row y.stage) (all_letters (stand_after p n).before (stand_after p n).walk))

  text_by : (b : Bool) → length (text_of (log_of b (stand_after p n))) ≤ 67_108_864
  unfolding text_of
  text_by true =
      let parts = length-append (flat_map section_text (stand_after p n).past.closed) (codes "end\n") in
      omega (arith, closed_long, letters_few.few, tries_few, count_few, parts)
  text_by false =
      let tail = tail_long (stand_after p n).left refl in
      let parts = length-append (flat_map section_text (stand_after p n).past.closed) (ending_text (tail_of (stand_after p n) (stand_after p n).left) (is_over (stand_after p n).left)) in
      omega (arith, closed_long, letters_few.few, tries_few, count_few, tail, parts)

  pub log_short : length (text_of (log_at p n)) ≤ 67_108_864
  unfolding log_at
  log_short = text_by (is_partial (end_at p (stand_after p n)))
