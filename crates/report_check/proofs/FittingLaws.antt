-- Sections are set beside searches one after another.
use Rattle.std.specs.Prelude.{ℕ, zero, suc, ◌==◌, ◌≡◌, ◌<◌, ◌≤◌, ◌+◌, ◌-◌, ◌↔◌, not, IsTrue, Bool, true, false, List, [], ◌∷◌, ◌++◌, length, Some, None, if◌then◌else◌}
use Rattle.std.proofs.Common.{refl, sym, ap, subst, ◌∙◌, arith, append_assoc, drop, get_or}
use Rattle.std.proofs.lemmas.Bool.{both_ways, false≢true}
use Rattle.std.proofs.lemmas.Bool.Decides.{Decides-eqb}
use Rattle.std.proofs.lemmas.List.{append-nil, drop_all, length-append}
use Rattle.closing_log.specs.Log.{PlainSection}
use Rattle.search_run.specs.Searched.{searches}
use Rattle.search_run.specs.Step.{PlainStep, is_drawn}
use Rattle.report_check.specs.DueSections.{AreAllButLast, AreFor, AreForFirst, IsFirstWrong, IsNamedAs, LeavesHere, PartsHere}
use Rattle.report_check.specs.Fitting.{HasFitting, IsPast, Passes, Stops}
use Rattle.report_check.proofs.SliceLaws.{drop_step}

pub searches_draw : (x : PlainStep) (xs : List PlainStep) → is_drawn x.stage ≡ true → searches (x ∷ xs) ≡ searches xs
searches_draw x xs d = ap (λ (b : Bool). if not b then (x ∷ searches xs) else searches xs) d

pub searches_search : (x : PlainStep) (xs : List PlainStep) → is_drawn x.stage ≡ false → searches (x ∷ xs) ≡ x ∷ searches xs
searches_search x xs d = ap (λ (b : Bool). if not b then (x ∷ searches xs) else searches xs) d

-- ---- one step more

pub fit_end : (sections : List PlainSection) → HasFitting [] sections sections
fit_end sections = record { due_front = []; due_rest = []; due_parts = refl; front = []; parts = refl; before = tt; stops = tt }

pub fit_stop : (x : PlainStep) (xs : List PlainStep) (sections : List PlainSection) → Passes x sections None → HasFitting (x ∷ xs) sections sections
fit_stop x xs sections h =
    record { due_front = []; due_rest = x ∷ searches xs; due_parts = searches_search x xs h.0; front = []; parts = refl; before = tt; stops = h.1 }

fit_draw : (x : PlainStep) (xs : List PlainStep) (sections rest tail : List PlainSection) → is_drawn x.stage ≡ true → rest ≡ sections → HasFitting xs rest tail → HasFitting (x ∷ xs) sections tail
fit_draw x xs sections rest tail d same h =
    record {
      due_front = h.due_front;
      due_rest = h.due_rest;
      due_parts = searches_draw x xs d ∙ h.due_parts;
      front = h.front;
      parts = sym same ∙ h.parts;
      before = h.before;
      stops = h.stops;
    }

fit_search : (x : PlainStep) (xs : List PlainStep) (s : PlainSection) (sections rest tail : List PlainSection) → is_drawn x.stage ≡ false → sections ≡ s ∷ rest → IsNamedAs x s → HasFitting xs rest tail → HasFitting (x ∷ xs) sections tail
fit_search x xs s sections rest tail d is named h =
    record {
      due_front = x ∷ h.due_front;
      due_rest = h.due_rest;
      due_parts = searches_search x xs d ∙ ap (λ (ys : List PlainStep). x ∷ ys) h.due_parts;
      front = s ∷ h.front;
      parts = is ∙ ap (λ (ts : List PlainSection). s ∷ ts) h.parts;
      before = (named, h.before);
      stops = h.stops;
    }

pub fit_more : (x : PlainStep) (xs : List PlainStep) (sections rest tail : List PlainSection) → Passes x sections (Some rest) → HasFitting xs rest tail → HasFitting (x ∷ xs) sections tail
fit_more x xs sections rest tail h k = by (is_drawn x.stage) refl h
  where
    by : (b : Bool) → is_drawn x.stage ≡ b → IsPast b x sections rest → HasFitting (x ∷ xs) sections tail
    by true d past = fit_draw x xs sections rest tail d past k
    by false d (s, is, named) = fit_search x xs s sections rest tail d is named k

-- ---- what the rest tells

pub for_length : (due : List PlainStep) (sections : List PlainSection) → AreFor due sections → length due ≡ length sections
for_length [] [] h = refl
for_length [] (s ∷ ss) h = absurd h
for_length (x ∷ xs) [] h = absurd h
for_length (x ∷ xs) (s ∷ ss) h = let more = for_length xs ss h.1 in omega (arith, more)

parts_or_ends : (due : List PlainStep) (rest : List PlainSection) → Stops due rest → (due ≡ [] → rest ≡ [] → ⊥) → PartsHere due rest
parts_or_ends [] [] h k = k refl refl
parts_or_ends [] (s ∷ ss) h k = tt
parts_or_ends (x ∷ xs) [] h k = tt
parts_or_ends (x ∷ xs) (s ∷ ss) h k = h

pub none_long : {X : Type 0} (xs : List X) → length xs ≡ 0 → xs ≡ []
none_long [] e = refl
none_long (x ∷ xs) e = absurd (omega (arith, e))

-- as many sections as searches, and none is left
pub all_fit : (steps : List PlainStep) (sections rest : List PlainSection) → HasFitting steps sections rest → length rest ≡ 0 → length sections ≡ length (searches steps) → AreFor (searches steps) sections
all_fit steps sections rest h none same =
    let ended : rest ≡ [] = none_long rest none in
    let whole : sections ≡ h.front = h.parts ∙ (ap (λ (ts : List PlainSection). h.front ++ ts) ended ∙ append-nil h.front) in
    let long = for_length h.due_front h.front h.before in
    let left : h.due_rest ≡ [] = none_long h.due_rest (omega (arith, long, same, ap length h.due_parts, length-append h.due_front h.due_rest, ap length whole)) in
    let due : searches steps ≡ h.due_front = h.due_parts ∙ (ap (λ (ys : List PlainStep). h.due_front ++ ys) left ∙ append-nil h.due_front) in
    subst (λ (ys : List PlainStep). AreFor ys sections) (sym due) (subst (AreFor h.due_front) (sym whole) h.before)

-- how many are in front of the rest
pub front_count : (steps : List PlainStep) (sections rest : List PlainSection) (h : HasFitting steps sections rest) → length h.front + length rest ≡ length sections
front_count steps sections rest h = omega (arith, ap length h.parts, length-append h.front rest)

pub fit_wrong : (steps : List PlainStep) (sections rest : List PlainSection) (i : ℕ) → HasFitting steps sections rest → i + length rest ≡ length sections → (length rest ≡ 0 → length sections ≡ length (searches steps) → ⊥) → IsFirstWrong PartsHere (searches steps) sections i
fit_wrong steps sections rest i h at apart =
    let count = front_count steps sections rest h in
    let long = for_length h.due_front h.front h.before in
    record {
      due_front = h.due_front;
      due_rest = h.due_rest;
      due_parts = h.due_parts;
      front = h.front;
      rest = rest;
      parts = h.parts;
      before = h.before;
      index = omega (arith, at, count);
      wrong = parts_or_ends h.due_rest rest h.stops
          (λ due_ended ended.
          let no_rest : length rest ≡ 0 = ap length ended in
          let no_due : length h.due_rest ≡ 0 = ap length due_ended in
          apart no_rest (omega (arith, no_rest, no_due, long, count, ap length h.due_parts, length-append h.due_front h.due_rest)));
    }

-- an index is below the number of steps
pub searches_few : (steps : List PlainStep) → length (searches steps) ≤ length steps
searches_few [] = omega arith
searches_few (x ∷ xs) = by (is_drawn x.stage) (searches_few xs) refl
  where
    by : (b : Bool) → length (searches xs) ≤ length xs → is_drawn x.stage ≡ b → length (searches (x ∷ xs)) ≤ length (x ∷ xs)
    by true more d = let same = ap length (searches_draw x xs d) in omega (arith, more, same)
    by false more d = let same = ap length (searches_search x xs d) in omega (arith, more, same)

pub front_few : (steps : List PlainStep) (sections rest : List PlainSection) (i : ℕ) → HasFitting steps sections rest → i + length rest ≡ length sections → i ≤ length (searches steps)
front_few steps sections rest i h at =
    let count = front_count steps sections rest h in
    let long = for_length h.due_front h.front h.before in
    omega (arith, at, count, long, ap length h.due_parts, length-append h.due_front h.due_rest)

pub index_few : (steps : List PlainStep) (sections rest : List PlainSection) (i : ℕ) → HasFitting steps sections rest → i + length rest ≡ length sections → i ≤ length steps
index_few steps sections rest i h at = let few = front_few steps sections rest i h at in let most = searches_few steps in omega (arith, few, most)

-- ---- where a search may be left open

record HasLast (xs : List PlainStep) : Type 0 where
  front : List PlainStep
  last : PlainStep
  parts : xs ≡ front ++ last ∷ []

last_of : (x : PlainStep) (xs : List PlainStep) → HasLast (x ∷ xs)
last_of x [] = record { front = []; last = x; parts = refl }
last_of x (y ∷ ys) = let h = last_of y ys in record { front = x ∷ h.front; last = h.last; parts = ap (λ (zs : List PlainStep). x ∷ zs) h.parts }

some_has_last : (xs : List PlainStep) → 0 < length xs → HasLast xs
some_has_last [] h = absurd (omega (arith, h))
some_has_last (x ∷ xs) h = last_of x xs

record SplitFirst (due rest : List PlainStep) (last : PlainStep) (short : List PlainStep) : Type 0 where
  more : List PlainStep
  parts : short ≡ due ++ more
  rest_is : rest ≡ more ++ last ∷ []

-- where a front is shorter than the whole, it is one of all but the last
split_first : (due rest short : List PlainStep) (last : PlainStep) → due ++ rest ≡ short ++ last ∷ [] → length due ≤ length short → SplitFirst due rest last short
split_first [] rest short last e le = record { more = short; parts = refl; rest_is = e }
split_first (x ∷ due) rest [] last e le = absurd (omega (arith, le))
split_first (x ∷ due) rest (y ∷ short) last e le =
    let h = split_first due rest short last (cc) (omega (arith, le)) in
    let same : y ≡ x = cc in
    record { more = h.more; parts = ap (λ (z : PlainStep). z ∷ short) same ∙ ap (λ (zs : List PlainStep). x ∷ zs) h.parts; rest_is = h.rest_is }

pub some_fit : (steps : List PlainStep) (sections rest : List PlainSection) → HasFitting steps sections rest → length rest ≡ 0 → length sections < length (searches steps) → (due : List PlainStep) × AreAllButLast steps due × AreForFirst due sections
some_fit steps sections rest h none fewer =
    let l = some_has_last (searches steps) (omega (arith, fewer)) in
    let ended : rest ≡ [] = none_long rest none in
    let whole : sections ≡ h.front = h.parts ∙ (ap (λ (ts : List PlainSection). h.front ++ ts) ended ∙ append-nil h.front) in
    let long = for_length h.due_front h.front h.before in
    let s = split_first h.due_front h.due_rest l.front l.last (sym h.due_parts ∙ l.parts) (omega (arith, long, fewer, ap length whole, ap length l.parts, length-append l.front (l.last ∷ []))) in
    (l.front, (l.last, l.parts), record { front = h.due_front; rest = s.more; parts = s.parts; each = subst (AreFor h.due_front) (sym whole) h.before })

leaves_or_ends : (more : List PlainStep) (last : PlainStep) (rest : List PlainSection) → Stops (more ++ last ∷ []) rest → 0 < length rest → LeavesHere more rest
leaves_or_ends more last [] h some = absurd (omega (arith, some))
leaves_or_ends [] last (s ∷ ss) h some = tt
leaves_or_ends (x ∷ xs) last (s ∷ ss) h some = h

-- a section too many, before the last search
pub some_wrong : (steps : List PlainStep) (sections rest : List PlainSection) (i : ℕ) → HasFitting steps sections rest → i + length rest ≡ length sections → 0 < length rest → i < length (searches steps) → (due : List PlainStep) × AreAllButLast steps due × IsFirstWrong LeavesHere due sections i
some_wrong steps sections rest i h at some fewer =
    let l = some_has_last (searches steps) (omega (arith, fewer)) in
    let count = front_count steps sections rest h in
    let long = for_length h.due_front h.front h.before in
    let s = split_first h.due_front h.due_rest l.front l.last (sym h.due_parts ∙ l.parts) (omega (arith, long, fewer, at, count, ap length l.parts, length-append l.front (l.last ∷ []))) in (
      l.front,
      (l.last, l.parts),
      record {
        due_front = h.due_front;
        due_rest = s.more;
        due_parts = s.parts;
        front = h.front;
        rest = rest;
        parts = h.parts;
        before = h.before;
        index = omega (arith, at, count);
        wrong = leaves_or_ends s.more l.last rest (subst (λ (ys : List PlainStep). Stops ys rest) s.rest_is h.stops) some;
      },
    )

record SplitLast (sections : List PlainSection) (short : List PlainStep) : Type 0 where
  front : List PlainSection
  section : PlainSection
  parts : sections ≡ front ++ section ∷ []
  each : AreFor short front

split_at : (xs : List PlainStep) (last : PlainStep) (ts : List PlainSection) → AreFor (xs ++ last ∷ []) ts → SplitLast ts xs
split_at [] last [] m = absurd m
split_at [] last (t ∷ []) m = record { front = []; section = t; parts = refl; each = tt }
split_at [] last (t ∷ u ∷ ts) m = absurd m.1
split_at (x ∷ xs) last [] m = absurd m
split_at (x ∷ xs) last (t ∷ ts) m =
    let r = split_at xs last ts m.1 in
    record { front = t ∷ r.front; section = r.section; parts = ap (λ (us : List PlainSection). t ∷ us) r.parts; each = (m.0, r.each) }

-- the section of the last search stands there too
pub last_wrong : (steps : List PlainStep) (sections rest : List PlainSection) (i : ℕ) → HasFitting steps sections rest → i + length rest ≡ length sections → i ≡ length (searches steps) → 0 < i → (due : List PlainStep) × AreAllButLast steps due × IsFirstWrong LeavesHere due sections (i - 1)
last_wrong steps sections rest i h at all some =
    let l = some_has_last (searches steps) (omega (arith, all, some)) in
    let count = front_count steps sections rest h in
    let long = for_length h.due_front h.front h.before in
    let left : h.due_rest ≡ [] = none_long h.due_rest (omega (arith, at, count, long, all, ap length h.due_parts, length-append h.due_front h.due_rest)) in
    let due : h.due_front ≡ l.front ++ l.last ∷ [] = sym (append-nil h.due_front) ∙ (ap (λ (ys : List PlainStep). h.due_front ++ ys) (sym left) ∙ (sym h.due_parts ∙ l.parts)) in
    let s = split_at l.front l.last h.front (subst (λ (ys : List PlainStep). AreFor ys h.front) due h.before) in (
      l.front,
      (l.last, l.parts),
      record {
        due_front = l.front;
        due_rest = [];
        due_parts = sym (append-nil l.front);
        front = s.front;
        rest = s.section ∷ rest;
        parts = h.parts ∙ (ap (λ (ts : List PlainSection). ts ++ rest) s.parts ∙ append_assoc s.front (s.section ∷ []) rest);
        before = s.each;
        index = omega (arith, at, count, ap length s.parts, length-append s.front (s.section ∷ []));
        wrong = tt;
      },
    )

-- ---- along the steps

pub fit_halt : (steps : List PlainStep) (i : ℕ) (x : PlainStep) (sections rest : List PlainSection) → i < length steps → x ≡ get_or steps i x → ((t : List PlainSection) → HasFitting (drop i steps) rest t → HasFitting steps sections t) → Passes x rest None → HasFitting steps sections rest
fit_halt steps i x sections rest below is so stops =
    so rest (subst (λ (xs : List PlainStep). HasFitting xs rest rest) (sym (drop_step steps i x below is)) (fit_stop x (drop (i + 1) steps) rest stops))

pub fit_next : (steps : List PlainStep) (i : ℕ) (x : PlainStep) (sections rest next : List PlainSection) → i < length steps → x ≡ get_or steps i x → ((t : List PlainSection) → HasFitting (drop i steps) rest t → HasFitting steps sections t) → Passes x rest (Some next) →
    (t : List PlainSection) → HasFitting (drop (i + 1) steps) next t → HasFitting steps sections t
fit_next steps i x sections rest next below is so passes t h =
    so t (subst (λ (xs : List PlainStep). HasFitting xs rest t) (sym (drop_step steps i x below is)) (fit_more x (drop (i + 1) steps) rest next t passes h))

pub fit_done : (steps : List PlainStep) (i : ℕ) (sections rest : List PlainSection) → length steps ≤ i → ((t : List PlainSection) → HasFitting (drop i steps) rest t → HasFitting steps sections t) → HasFitting steps sections rest
fit_done steps i sections rest end so = so rest (subst (λ (xs : List PlainStep). HasFitting xs rest rest) (sym (drop_all i steps end)) (fit_end rest))

-- ---- as the code tells it

pub rest_few : (steps : List PlainStep) (sections rest : List PlainSection) → HasFitting steps sections rest → length rest ≤ length sections
rest_few steps sections rest h = let count = front_count steps sections rest h in omega (arith, count)

pub front_most : (steps : List PlainStep) (sections rest : List PlainSection) (n : ℕ) → length steps ≤ n → HasFitting steps sections rest → length sections ≤ length rest + n
front_most steps sections rest n few h =
    let count = front_count steps sections rest h in
    let long = for_length h.due_front h.front h.before in
    let most = searches_few steps in
    omega (arith, few, count, long, most, ap length h.due_parts, length-append h.due_front h.due_rest)

pub all_done : (steps : List PlainStep) (sections rest : List PlainSection) (most : ℕ) (b : Bool) → HasFitting steps sections rest → most ≡ length (searches steps) → (IsTrue b ↔ (length rest ≡ 0) × (length sections ≡ most)) → b ≡ true → AreFor (searches steps) sections
all_done steps sections rest most b h is done e = let both = done.0 e in all_fit steps sections rest h both.0 (both.1 ∙ is)

pub all_undone : (steps : List PlainStep) (sections rest : List PlainSection) (most i : ℕ) (b : Bool) → HasFitting steps sections rest → most ≡ length (searches steps) → (IsTrue b ↔ (length rest ≡ 0) × (length sections ≡ most)) → b ≡ false → i + length rest ≡ length sections → IsFirstWrong PartsHere (searches steps) sections i
all_undone steps sections rest most i b h is done e at = fit_wrong steps sections rest i h at (λ none same. both_ways b e (done.1 (none, same ∙ sym is)))

pub none_left : (n : ℕ) (b : Bool) → b ≡ (n == 0) → b ≡ true → n ≡ 0
none_left n b e t = (Decides-eqb n 0).0 (sym e ∙ t)

pub some_left : (n : ℕ) (b : Bool) → b ≡ (n == 0) → b ≡ false → 0 < n
some_left zero b e f = absurd (both_ways b f e)
some_left (suc n) b e f = omega arith

-- a test that is true exactly where nothing is left
pub left_iff : (n : ℕ) (b : Bool) {P : Type 0} → b ≡ (n == 0) → (n ≡ 0 ↔ P) → (IsTrue b ↔ P)
left_iff n b e h = (λ t. h.0 ((Decides-eqb n 0).0 (sym e ∙ t)), λ p. e ∙ (Decides-eqb n 0).1 (h.1 p))

-- what isn't so is told by false, and what is so by true
pub never_true : {P : Type 0} → (P → ⊥) → (IsTrue false ↔ P)
never_true apart = (λ t. absurd (false≢true t), λ p. absurd (apart p))

pub ever_true : {P : Type 0} → P → (IsTrue true ↔ P)
ever_true h = (λ t. h, λ p. refl)
