-- Runs in pieces, and what a run with a step left has made.
use Rattle.std.specs.Prelude.{ℕ, ◌≡◌, ◌+◌, ◌-◌, ◌≤◌, true, false, List, [], ◌∷◌, ◌++◌, if◌then◌else◌}
use Rattle.std.proofs.Common.{arith, refl, sym, ap, subst, ◌∙◌}
use Rattle.pick_problem.specs.Walk.{Walk, after_tries}
use Rattle.pick_problem.proofs.Deciding.{if_cases, if_true, if_false}
use Rattle.pick_problem.proofs.GraftLaws.{tries_within}
use Rattle.pick_problem.proofs.TryStepLaws.{after_done, after_pieces, all_made}
use Rattle.search_run.specs.Found.{found_of}
use Rattle.search_run.specs.Run.{Past, Stand, begun_first, ends, go_on, made, onward, over, passed, tried}
use Rattle.search_run.specs.Step.{PlainStep}

-- a stand with a step left
abbrev pub stays_at : PlainStep → List PlainStep → Walk → List ℕ → Past → Stand
stays_at x rest w before past = record { left = x ∷ rest; walk = w; before = before; past = past }

-- behind or at a step, by its walk after the tries, with what is then behind the run and the tries that are left
abbrev pub step_to : List ℕ → PlainStep → List PlainStep → List ℕ → Walk → Past → Past → ℕ → Stand
step_to seed x rest before v behind here n =
    if v.done
    then (if ends x behind.found then over behind else onward seed rest (begun_first seed rest) [] behind n)
    else stays_at x rest v before here

pub onward_steps : (seed : List ℕ) (x : PlainStep) (rest : List PlainStep) (w : Walk) (before : List ℕ) (past : Past) (m : ℕ) →
    onward seed (x ∷ rest) w before past m ≡ step_to seed x rest before (after_tries x.problem w m) (passed x before w (after_tries x.problem w m) past) (tried past (made w (after_tries x.problem w m))) (m - made w (after_tries x.problem w m))
onward_steps seed x rest w before past m = refl

-- what holds of each of the three ways of a step holds of it
pub onward_by : (P : Stand → Type 0) (seed : List ℕ) (x : PlainStep) (rest : List PlainStep) (w : Walk) (before : List ℕ) (past : Past) (m : ℕ) →
    ((after_tries x.problem w m).done ≡ false → P (stays_at x rest (after_tries x.problem w m) before (tried past (made w (after_tries x.problem w m))))) →
    ((after_tries x.problem w m).done ≡ true → ends x (past.found ++ found_of x (after_tries x.problem w m).best) ≡ true → P (over (passed x before w (after_tries x.problem w m) past))) →
    ((after_tries x.problem w m).done ≡ true → ends x (past.found ++ found_of x (after_tries x.problem w m).best) ≡ false →
    P (onward seed rest (begun_first seed rest) [] (passed x before w (after_tries x.problem w m) past) (m - made w (after_tries x.problem w m)))) →
    P (onward seed (x ∷ rest) w before past m)
onward_by P seed x rest w before past m stays ended passes =
    if_cases P (after_tries x.problem w m).done _ _
    (λ d. if_cases P (ends x (past.found ++ found_of x (after_tries x.problem w m).best)) _ _ (λ e. ended d e) (λ e. passes d e))
    stays

-- ---- pieces

-- what is made in two pieces is made
made_both : (p w v u : ℕ) → w ≤ v → v ≤ u → p + (v - w) + (u - v) ≡ p + (u - w)
made_both p w v u h k = omega arith

pub behind_later : (x : PlainStep) (before : List ℕ) (past : Past) (w v u : Walk) → w.tries ≤ v.tries → v.tries ≤ u.tries →
    passed x before v u (tried past (made w v)) ≡ passed x before w u past
behind_later x before past w v u h k =
    let b : Past = passed x before w u past in
    ap (λ (n : ℕ). record { found = b.found; closed = b.closed; tries = n }) (made_both past.tries w.tries v.tries u.tries h k)

pub here_later : (past : Past) (w v u : Walk) → w.tries ≤ v.tries → v.tries ≤ u.tries → tried (tried past (made w v)) (made v u) ≡ tried past (made w u)
here_later past w v u h k = ap (λ (n : ℕ). record { found = past.found; closed = past.closed; tries = n }) (made_both past.tries w.tries v.tries u.tries h k)

left_later : (w v u k m : ℕ) → v ≡ w + k → v ≤ u → m - (u - v) ≡ (k + m) - (u - w)
left_later w v u k m e h = omega arith

-- a walk that goes on after k tries
goes_later : (seed : List ℕ) (x : PlainStep) (rest : List PlainStep) (w : Walk) (before : List ℕ) (past : Past) (k m : ℕ) →
    (after_tries x.problem w k).done ≡ false →
    onward seed (x ∷ rest) (after_tries x.problem w k) before (tried past (made w (after_tries x.problem w k))) m ≡ onward seed (x ∷ rest) w before past (k + m)
goes_later seed x rest w before past k m going =
    let v : Walk = after_tries x.problem w k in
    let u : Walk = after_tries x.problem v m in
    let low : w.tries ≤ v.tries = (tries_within x.problem w k).0 in
    let high : v.tries ≤ u.tries = (tries_within x.problem v m).0 in
    let all : v.tries ≡ w.tries + k = all_made x.problem w k going in
    let t : ℕ = m - made v u in
    ap (λ (b : Past). step_to seed x rest before u b (tried (tried past (made w v)) (made v u)) t) (behind_later x before past w v u low high)
    ∙ (ap (λ (h : Past). step_to seed x rest before u (passed x before w u past) h t) (here_later past w v u low high)
    ∙ (ap (λ (n : ℕ). step_to seed x rest before u (passed x before w u past) (tried past (made w u)) n) (left_later w.tries v.tries u.tries k m all high)
    ∙ ap (λ (z : Walk). step_to seed x rest before z (passed x before w z past) (tried past (made w z)) ((k + m) - made w z)) (after_pieces x.problem w k m)))

left_behind : (a k m : ℕ) → a ≤ k → (k - a) + m ≡ (k + m) - a
left_behind a k m h = omega arith

made_within : (x : PlainStep) (w : Walk) (k : ℕ) → made w (after_tries x.problem w k) ≤ k
made_within x w k = let h = tries_within x.problem w k in omega (arith, h.0, h.1)

pub add_up : (seed : List ℕ) (left : List PlainStep) (w : Walk) (before : List ℕ) (past : Past) (k m : ℕ) →
    go_on seed (onward seed left w before past k) m ≡ onward seed left w before past (k + m)
add_up seed [] w before past k m = refl
add_up seed (x ∷ rest) w before past k m =
    let v : Walk = after_tries x.problem w k in
    let at : Walk → Stand = λ z. step_to seed x rest before z (passed x before w z past) (tried past (made w z)) ((k + m) - made w z) in
    let done_stays : v.done ≡ true → onward seed (x ∷ rest) w before past (k + m) ≡ at v = λ d.
    ap at (sym (after_pieces x.problem w k m) ∙ after_done x.problem v m d) in
    onward_by (λ (s : Stand). go_on seed s m ≡ onward seed (x ∷ rest) w before past (k + m)) seed x rest w before past k
    (λ going. goes_later seed x rest w before past k m going)
    (λ d e. sym (done_stays d ∙ (if_true v.done _ _ d ∙ if_true (ends x (past.found ++ found_of x v.best)) _ _ e)))
    (λ d e.
    add_up seed rest (begun_first seed rest) [] (passed x before w v past) (k - made w v) m
    ∙ (ap (λ (n : ℕ). onward seed rest (begun_first seed rest) [] (passed x before w v past) n) (left_behind (made w v) k m (made_within x w k))
    ∙ sym (done_stays d ∙ (if_true v.done _ _ d ∙ if_false (ends x (past.found ++ found_of x v.best)) _ _ e))))

pub runs_add : (seed : List ℕ) (s : Stand) (k m : ℕ) → go_on seed (go_on seed s k) m ≡ go_on seed s (k + m)
runs_add seed s k m = add_up seed s.left s.walk s.before s.past k m

-- ---- with a step left

-- each try was made, and the walk goes on
pub record HasTried (past : Past) (m : ℕ) (s : Stand) : Type 0 where
  pub tries : s.past.tries ≡ past.tries + m
  pub going : s.walk.done ≡ false

abbrev pub Goes : Past → ℕ → Stand → List PlainStep → Type 0
Goes past m s [] = s.past.tries ≤ past.tries + m
Goes past m s (x ∷ rest) = HasTried past m s

pub tries_made : (seed : List ℕ) (left : List PlainStep) (w : Walk) (before : List ℕ) (past : Past) (m : ℕ) →
    Goes past m (onward seed left w before past m) (onward seed left w before past m).left
tries_made seed [] w before past m = omega arith
tries_made seed (x ∷ rest) w before past m =
    let v : Walk = after_tries x.problem w m in
    let within : made w v ≤ m = made_within x w m in
    onward_by (λ (s : Stand). Goes past m s s.left) seed x rest w before past m
    (λ going. record { tries = let all = all_made x.problem w m going in omega (arith, all); going = going })
    (λ d e. omega (arith, within))
    (λ d e. later past (passed x before w v past) m (m - made w v) (onward seed rest (begun_first seed rest) [] (passed x before w v past) (m - made w v)) (omega (arith, within)) _
    (tries_made seed rest (begun_first seed rest) [] (passed x before w v past) (m - made w v)))
  where
    later : (a b : Past) (n t : ℕ) (s : Stand) → b.tries + t ≡ a.tries + n → (left : List PlainStep) → Goes b t s left → Goes a n s left
    later a b n t s e [] h = omega (arith, e, h)
    later a b n t s e (y ∷ ys) h = record { tries = omega (arith, e, h.tries); going = h.going }

goes_most : (past : Past) (m : ℕ) (s : Stand) (left : List PlainStep) → Goes past m s left → s.past.tries ≤ past.tries + m
goes_most past m s [] h = h
goes_most past m s (x ∷ rest) h = omega (arith, h.tries)

pub most_tries : (seed : List ℕ) (s : Stand) (m : ℕ) → (go_on seed s m).past.tries ≤ s.past.tries + m
most_tries seed s m = goes_most s.past m (go_on seed s m) (go_on seed s m).left (tries_made seed s.left s.walk s.before s.past m)

pub all_tries : (seed : List ℕ) (s : Stand) (m : ℕ) (x : PlainStep) (rest : List PlainStep) → (go_on seed s m).left ≡ x ∷ rest → HasTried s.past m (go_on seed s m)
all_tries seed s m x rest e = subst (λ (left : List PlainStep). Goes s.past m (go_on seed s m) left) e (tries_made seed s.left s.walk s.before s.past m)

over_by : (seed : List ℕ) (left : List PlainStep) (w : Walk) (before : List ℕ) (past : Past) (m : ℕ) → left ≡ [] → onward seed left w before past m ≡ over past
over_by seed [] w before past m e = refl
over_by seed (x ∷ rest) w before past m e = absurd (cc)

pub stays_over : (seed : List ℕ) (s : Stand) (m : ℕ) → s.left ≡ [] → go_on seed s m ≡ over s.past
stays_over seed s m e = over_by seed s.left s.walk s.before s.past m e
