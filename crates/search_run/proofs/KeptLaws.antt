-- What is kept of a run is accepted, and going on from it is going on.
use Rattle.std.specs.Prelude.{ℕ, ◌≡◌, ◌+◌, ◌-◌, unwrap_or, Bool, true, false, List, [], ◌∷◌, ◌++◌, Option, Some, None, if◌then◌else◌}
use Rattle.std.proofs.Common.{arith, refl, rules, sym, ap, subst, ◌∙◌, append_assoc}
use Rattle.std.proofs.lemmas.Bool.{both_ways}
use Rattle.std.proofs.lemmas.List.{append-nil}
use Rattle.closing_log.specs.Log.{PlainOpen, PlainSection}
use Rattle.pick_problem.specs.Digest.{digest_of}
use Rattle.pick_problem.specs.Letters.{letters_of}
use Rattle.pick_problem.specs.Standing.{afresh, grafted}
use Rattle.pick_problem.specs.Walk.{IsPosition, Walk, after_tries, upward}
use Rattle.pick_problem.proofs.Deciding.{by_test, if_true, if_false}
use Rattle.pick_problem.proofs.GraftLaws.{afresh_goes_on}
use Rattle.pick_problem.proofs.LetterLaws.{letters-append}
use Rattle.pick_problem.proofs.WayLaws.{reverse_upward}
use Rattle.search_run.specs.Found.{PlainFound, found_of}
use Rattle.search_run.specs.Kept.{At, CanGoOn, IsDueAt, IsFitAt, PlainSaved, comes_to, first_search, is_over, IsOpenAt, IsPositionFor, kept_walk, log_of, refreshed, saved_by, saved_of, stand_of, tail_of}
use Rattle.search_run.specs.Run.{Past, Stand, all_letters, end_by, end_of, go_on, made, onward, passed, sections_of, tried}
use Rattle.search_run.specs.Stands.{IsKeptAt, IsKeptWalk, IsStand, IsWalkBy}
use Rattle.search_run.specs.Step.{PlainStep, is_drawn}
use Rattle.search_run.proofs.ComeLaws.{along_weaker, at_step, search_first}
use Rattle.search_run.proofs.RunLaws.{stays_at, step_to}
use Rattle.search_run.proofs.StandLaws.{walk_was}

-- ---- a walk that is begun afresh

-- a walk behind letters from before
abbrev behind : Walk → Walk → Walk
behind w v = grafted w.tokens w.tries v

module _ (x : PlainStep) (before : List ℕ) (w v : Walk) (past : Past) where
  letters_same : all_letters (all_letters before w) v ≡ all_letters before (behind w v)
  letters_same = append_assoc before (letters_of w.tokens) (letters_of v.tokens) ∙ ap (λ (ls : List ℕ). before ++ ls) (sym (letters-append w.tokens v.tokens))

  made_same : past.tries + made (afresh w) v ≡ past.tries + made w (behind w v)
  made_same = omega arith

  tried_same : tried past (made (afresh w) v) ≡ tried past (made w (behind w v))
  tried_same = ap (λ (n : ℕ). record { found = past.found; closed = past.closed; tries = n }) made_same

  passed_same : passed x (all_letters before w) (afresh w) v past ≡ passed x before w (behind w v) past
  passed_same =
      let section_by : List ℕ → PlainSection = λ (ls : List ℕ). record { row = x.row; stage = x.stage; digest = digest_of x.problem; letters = ls; answer = v.best } in
      let found : List PlainFound = past.found ++ found_of x v.best in
      ap (λ (ls : List ℕ). record { found = found; closed = past.closed ++ (if is_drawn x.stage then [] else section_by ls ∷ []); tries = past.tries + made (afresh w) v }) letters_same
      ∙ ap (λ (n : ℕ). record { found = found; closed = past.closed ++ sections_of x before (behind w v); tries = n }) made_same

  left_same : (m : ℕ) → m - made (afresh w) v ≡ m - made w (behind w v)
  left_same m = omega arith

  -- behind or at the step it stands alike
  step_same : (seed : List ℕ) (rest : List PlainStep) (p t : Past) (n : ℕ) → refreshed (step_to seed x rest (all_letters before w) v p t n) ≡ refreshed (step_to seed x rest before (behind w v) p t n)
  step_same seed rest p t n =
      by_test (refreshed (step_to seed x rest (all_letters before w) v p t n) ≡ refreshed (step_to seed x rest before (behind w v) p t n)) v.done
      (λ d. ap refreshed (if_true v.done _ _ d) ∙ sym (ap refreshed (if_true v.done _ _ d)))
      (λ d.
      ap refreshed (if_false v.done _ _ d)
      ∙ (ap (λ (ls : List ℕ). record { left = x ∷ rest; walk = afresh v; before = ls; past = t }) letters_same ∙ sym (ap refreshed (if_false v.done _ _ d))))

refreshed_onward : (seed : List ℕ) (left : List PlainStep) (w : Walk) (before : List ℕ) (past : Past) (m : ℕ) → refreshed (onward seed left (afresh w) (all_letters before w) past m) ≡ refreshed (onward seed left w before past m)
refreshed_onward seed [] w before past m = refl
refreshed_onward seed (x ∷ rest) w before past m =
    let v : Walk = after_tries x.problem (afresh w) m in
    let letters : List ℕ = all_letters before w in
    let n : ℕ = m - made (afresh w) v in
    ap (λ (p : Past). refreshed (step_to seed x rest letters v p (tried past (made (afresh w) v)) n)) (passed_same x before w v past)
    ∙ (ap (λ (t : Past). refreshed (step_to seed x rest letters v (passed x before w (behind w v) past) t n)) (tried_same x before w v past)
    ∙ (ap (λ (k : ℕ). refreshed (step_to seed x rest letters v (passed x before w (behind w v) past) (tried past (made w (behind w v))) k)) (left_same x before w v past m)
    ∙ (step_same x before w v past seed rest (passed x before w (behind w v) past) (tried past (made w (behind w v))) (m - made w (behind w v))
    ∙ ap (λ (u : Walk). refreshed (step_to seed x rest before u (passed x before w u past) (tried past (made w u)) (m - made w u))) (sym (afresh_goes_on x.problem w m)))))

-- a stand that is refreshed goes on alike
pub refreshed_goes_on : (seed : List ℕ) (s : Stand) (m : ℕ) → refreshed (go_on seed (refreshed s) m) ≡ refreshed (go_on seed s m)
refreshed_goes_on seed s m = refreshed_onward seed s.left s.walk s.before s.past m

-- ---- what is told of it

end_same : (take : Bool) (seed : List ℕ) (s : Stand) (left : List PlainStep) → end_by take seed (refreshed s) left ≡ end_by take seed s left
end_same take seed s [] = refl
end_same take seed s (x ∷ rest) = refl

saved_same : (s : Stand) (left : List PlainStep) → saved_by (refreshed s) left ≡ saved_by s left
saved_same s [] = refl
saved_same s (x ∷ rest) = refl

tail_same : (s : Stand) (left : List PlainStep) → tail_of (refreshed s) left ≡ tail_of s left
tail_same s [] = refl
tail_same s (x ∷ rest) = ap (λ (ls : List ℕ). Some (record { row = x.row; stage = x.stage; digest = digest_of x.problem; letters = ls })) (append-nil (all_letters s.before s.walk))

log_same : (partial : Bool) (s : Stand) → log_of partial (refreshed s) ≡ log_of partial s
log_same true s = refl
log_same false s = ap (λ (t : Option PlainOpen). record { closed = s.past.closed; tail = t; ended = is_over s.left }) (tail_same s s.left)

module _ (seed : List ℕ) (a b : Stand) (e : refreshed a ≡ refreshed b) where
  pub same_end : (take : Bool) → end_of take seed a ≡ end_of take seed b
  same_end take = sym (end_same take seed a a.left) ∙ (ap (end_of take seed) e ∙ end_same take seed b b.left)

  pub same_saved : saved_of a ≡ saved_of b
  same_saved = sym (saved_same a a.left) ∙ (ap saved_of e ∙ saved_same b b.left)

  pub same_log : (partial : Bool) → log_of partial a ≡ log_of partial b
  same_log partial = sym (log_same partial a) ∙ (ap (log_of partial) e ∙ log_same partial b)

-- ---- what is kept of a stand

-- a walk that goes on is that of a search
searched : (seed : List ℕ) (x : PlainStep) (before : List ℕ) (w : Walk) → w.done ≡ false → IsWalkBy (is_drawn x.stage) IsKeptWalk seed x before w → is_drawn x.stage ≡ false
searched seed x before w going h =
    by_test (is_drawn x.stage ≡ false) (is_drawn x.stage)
    (λ d. absurd (both_ways w.done going (ap (λ (v : Walk). v.done) (walk_was IsKeptWalk true seed x before w d h))))
    (λ d. d)

afresh_position : (x : PlainStep) (w : Walk) → IsPosition x.problem w → IsPosition x.problem (afresh w)
afresh_position x w h = record { ready = h.ready; over = h.over; fit = h.fit; counted = refl }

abbrev pub kept_of : PlainStep → Walk → Past → PlainSaved
kept_of x w past = record { tries = past.tries; row = x.row; stage = x.stage; chosen = upward w.stack; next = w.next; best = w.best }

module _ (seed : List ℕ) (steps : List PlainStep) (x : PlainStep) (rest : List PlainStep) (w : Walk) (before : List ℕ) (past : Past)
    (stands : IsStand seed steps (stays_at x rest w before past)) (going : w.done ≡ false) where
  walk_same : kept_walk (kept_of x w past) ≡ afresh w
  walk_same =
      ap (λ (stack : List ℕ). record { stack = stack; next = w.next; best = w.best; tries = 0; done = false; tokens = [] }) (reverse_upward w.stack)
      ∙ ap (λ (b : Bool). record { stack = w.stack; next = w.next; best = w.best; tries = 0; done = b; tokens = [] }) (sym going)

  is_search : is_drawn x.stage ≡ false
  is_search = searched seed x before w going stands.walk

  at_here : comes_to seed (first_search seed steps) past.closed ≡ at_step x rest past.found
  at_here = stands.here ∙ search_first seed x rest past.found is_search

  pub restored_is : stand_of seed steps (kept_of x w past) (log_of false (stays_at x rest w before past)) ≡ refreshed (stays_at x rest w before past)
  restored_is =
      ap (λ (at : At). record { left = at.left; walk = kept_walk (kept_of x w past); before = all_letters before w; past = record { found = at.found; closed = past.closed; tries = past.tries } }) at_here
      ∙ ap (λ (v : Walk). record { left = x ∷ rest; walk = v; before = all_letters before w; past = past }) walk_same

  pub kept_accepted : CanGoOn seed steps (kept_of x w past) (log_of false (stays_at x rest w before past))
  kept_accepted =
      record {
        closed = along_weaker IsKeptAt IsDueAt seed (first_search seed steps) past.closed (λ a t h. h.0) stands.closed;
        unfinished = search rules;
        tail = subst (λ (at : At). IsOpenAt at (kept_of x w past) open_section) (sym at_here) (record { row = refl; stage = refl; digest = refl }, refl, refl);
        position = subst (λ (at : At). IsPositionFor at.left (kept_walk (kept_of x w past))) (sym at_here) (subst (IsPosition x.problem) (sym walk_same) (afresh_position x w (walk_was IsKeptWalk false seed x before w is_search stands.walk)));
        answers = along_weaker IsKeptAt IsFitAt seed (first_search seed steps) past.closed (λ a t h. h.1) stands.closed;
      }
    where
      open_section : PlainOpen
      open_section = record { row = x.row; stage = x.stage; digest = digest_of x.problem; letters = all_letters before w }

-- the same of any stand, by what is saved of it
saved_is : (k : PlainSaved) (x : PlainStep) (w : Walk) (past : Past) → Some (kept_of x w past) ≡ Some k → kept_of x w past ≡ k
saved_is k x w past e = ap (λ (o : Option PlainSaved). unwrap_or o (kept_of x w past)) e

kept_by : (seed : List ℕ) (steps : List PlainStep) (k : PlainSaved) (left : List PlainStep) (w : Walk) (before : List ℕ) (past : Past) → (s : Stand) → s ≡ record { left = left; walk = w; before = before; past = past } →
    IsStand seed steps s → s.walk.done ≡ false → saved_of s ≡ Some k → (stand_of seed steps k (log_of false s) ≡ refreshed s) × CanGoOn seed steps k (log_of false s)
kept_by seed steps k [] w before past s e h going saved = absurd (let none : None ≡ Some k = sym (ap saved_of e) ∙ saved in cc)
kept_by seed steps k (x ∷ rest) w before past s e h going saved =
    let stay : Stand = stays_at x rest w before past in
    let stands : IsStand seed steps stay = subst (IsStand seed steps) e h in
    let goes : w.done ≡ false = ap (λ (t : Stand). t.walk.done) (sym e) ∙ going in
    let k_is : kept_of x w past ≡ k = saved_is k x w past (sym (ap saved_of e) ∙ saved) in
    let both : (stand_of seed steps (kept_of x w past) (log_of false stay) ≡ refreshed stay) × CanGoOn seed steps (kept_of x w past) (log_of false stay) =
    (restored_is seed steps x rest w before past stands goes, kept_accepted seed steps x rest w before past stands goes) in
    subst (λ (t : Stand). (stand_of seed steps k (log_of false t) ≡ refreshed t) × CanGoOn seed steps k (log_of false t)) (sym e)
    (subst (λ (j : PlainSaved). (stand_of seed steps j (log_of false stay) ≡ refreshed stay) × CanGoOn seed steps j (log_of false stay)) k_is both)

pub kept_is : (seed : List ℕ) (steps : List PlainStep) (k : PlainSaved) (s : Stand) → IsStand seed steps s → s.walk.done ≡ false → saved_of s ≡ Some k → (stand_of seed steps k (log_of false s) ≡ refreshed s) × CanGoOn seed steps k (log_of false s)
kept_is seed steps k s h going saved = kept_by seed steps k s.left s.walk s.before s.past s refl h going saved
