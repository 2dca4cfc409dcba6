-- The numbers of ancestors and descendants, by 64 places at a time.
use Rattle.std.proofs.Common.{◌≡◌, ◌≢◌, ◌∙◌, ◌⊎◌, inl, inr, ℕ, zero, suc, ◌+◌, ◌<◌, ◌≤◌, ◌==◌, ◌||◌, ◌&&◌, Bool, true, false, cond, List, [], length, get_or, set, min, Contains, refl, sym, ap, subst, arith}
use Rattle.std.specs.Prelude.{count_by, nat_le, nat_lt}
use Rattle.std.specs.List.{list_any}
use Rattle.std.proofs.lemmas.Bool.{and_right, cases_eq, cases_lt, le-leb, le-ltb, lt-leb, lt-ltb, true≢false}
use Rattle.std.proofs.lemmas.List.{get_or-set_other, get_or-set_same, get_or_past}
use Rattle.payment_states.specs.Counts.{downs, is_counted, ups}
use Rattle.payment_states.specs.Graph.{IsInOrder, below, kin, steps, within}
use Rattle.payment_states.specs.Words.{flag_count, has_flag}
use Rattle.payment_states.proofs.Below.{below_within}
use Rattle.payment_states.proofs.CountSteps.{count_agree, count_filter, count_more, count_none, count_to}
use Rattle.payment_states.proofs.Paths.{any_agree, parent_before, within_step}
use Rattle.payment_states.proofs.ReachSteps.{later}

-- ---- counts by spans

-- how a span ends: after 64 places, or where there are no more
abbrev pub Ends : ℕ → ℕ → ℕ → Type 0
Ends first end count = (end ≡ first + 64) ⊎ ((end ≡ count) × (count ≤ first + 64))

zero_more : (n : ℕ) → n ≡ n + 0
zero_more n = omega arith

group : (a b c : ℕ) → (a + b) + c ≡ a + (b + c)
group a b c = omega arith

span_count : (p : ℕ → Bool) (m n : ℕ) → count_by p (below (m + n)) ≡ count_by p (below m) + count_by (λ k. p (m + k)) (below n)
unfolding below
span_count p m zero = let e : m + 0 ≡ m = omega arith in ap (λ j. count_by p (below j)) e ∙ zero_more (count_by p (below m))
span_count p m (suc n) =
    let e : m + suc n ≡ (m + n) + 1 = omega arith in
    let s : suc n ≡ n + 1 = omega arith in
    ap (λ j. count_by p (below j)) e
    ∙ count_more p (m + n)
    ∙ ap (λ x. x + cond (p (m + n)) 1 0) (span_count p m n)
    ∙ group (count_by p (below m)) (count_by (λ k. p (m + k)) (below n)) (cond (p (m + n)) 1 0)
    ∙ ap (λ x. count_by p (below m) + x) (sym (ap (λ j. count_by (λ k. p (m + k)) (below j)) s ∙ count_more (λ k. p (m + k)) n))

to_end : (p : ℕ → Bool) (first end count : ℕ) → Ends first end count → ((j : ℕ) → count ≤ j → p j ≡ false) → count_by p (below end) ≡ count_by p (below first) + count_by (λ k. p (first + k)) (below 64)
to_end p first end count (inl e) none = ap (λ j. count_by p (below j)) e ∙ span_count p first 64
to_end p first end count (inr e) none = ap (λ j. count_by p (below j)) e.0 ∙ sym (count_to p count (first + 64) e.1 none) ∙ span_count p first 64

-- a place behind the last isn't counted
none_behind : (counted : List Bool) (n j : ℕ) → length counted ≡ n → n ≤ j → is_counted counted j ≡ false
none_behind counted n j long le = get_or_past counted j false (omega arith)

swap : (a b : Bool) → (a && b) ≡ (b && a)
swap true true = refl
swap true false = refl
swap false true = refl
swap false false = refl

-- ---- ancestors

-- the place is counted, and is i or an ancestor
abbrev pub counts_up : List (List ℕ) → List Bool → ℕ → ℕ → Bool
counts_up g counted i j = is_counted counted j && within g (length g) i j

capped : (a b new old more : ℕ) → old ≡ min 4294967295 a → new ≡ min 4294967295 (old + more) → b ≡ a + more → new ≡ min 4294967295 b
capped a b new old more is e total = omega arith

up_more : (g : List (List ℕ)) (counted : List Bool) (i first word : ℕ) → ((k : ℕ) → k < 64 → has_flag word k ≡ get_or counted (first + k) false)
    → flag_count (λ k. within g (length g) i (first + k)) word ≡ count_by (λ k. counts_up g counted i (first + k)) (below 64)
unfolding flag_count
up_more g counted i first word flags =
    count_agree (λ k. within g (length g) i (first + k) && has_flag word k) (λ k. counts_up g counted i (first + k)) (below 64)
    (λ k c. ap (λ b. within g (length g) i (first + k) && b) (flags k (below_within 64 k c)) ∙ swap (within g (length g) i (first + k)) (is_counted counted (first + k)))

-- one span more of the places from it on
pub up_step : (g : List (List ℕ)) (counted : List Bool) (i first end word old new : ℕ) → IsInOrder g → i < length g → length counted ≡ length g → ((k : ℕ) → k < 64 → has_flag word k ≡ get_or counted (first + k) false) → Ends first end (length g)
    → old ≡ min 4294967295 (count_by (counts_up g counted i) (below first)) → (first ≤ i → new ≡ min 4294967295 (old + flag_count (λ k. within g (length g) i (first + k)) word)) → (i < first → new ≡ old) → new ≡ min 4294967295 (count_by (counts_up g counted i) (below end))
up_step g counted i first end word old new order lt long flags ends was more same = by (cases_lt i first)
  where
    none : (j : ℕ) → length g ≤ j → counts_up g counted i j ≡ false
    none j le = ap (λ b. b && within g (length g) i j) (none_behind counted (length g) j long le)

    total : count_by (counts_up g counted i) (below end) ≡ count_by (counts_up g counted i) (below first) + count_by (λ k. counts_up g counted i (first + k)) (below 64)
    total = to_end (counts_up g counted i) first end (length g) ends none

    by : (i < first) ⊎ (first ≤ i) → new ≡ min 4294967295 (count_by (counts_up g counted i) (below end))
    by (inl b) =
        let nothing : count_by (λ k. counts_up g counted i (first + k)) (below 64) ≡ 0 =
        count_none (λ k. counts_up g counted i (first + k)) 64 (λ k in'. and_right (is_counted counted (first + k)) (within g (length g) i (first + k)) (later g i (first + k) order lt (omega arith))) in
        let e = same b in
        omega (arith, total, nothing, e, was)
    by (inr b) = capped (count_by (counts_up g counted i) (below first)) (count_by (counts_up g counted i) (below end)) new old (flag_count (λ k. within g (length g) i (first + k)) word) was (more b)
        (total ∙ ap (λ n. count_by (counts_up g counted i) (below first) + n) (sym (up_more g counted i first word flags)))

-- all spans
pub up_all : (g : List (List ℕ)) (counted : List Bool) (i first : ℕ) → length counted ≡ length g → length g ≤ first → count_by (counts_up g counted i) (below first) ≡ ups g counted i
up_all g counted i first long le =
    count_to (counts_up g counted i) (length g) first le (λ j in'. ap (λ b. b && within g (length g) i j) (none_behind counted (length g) j long in'))
    ∙ sym (count_filter (is_counted counted) (within g (length g) i) (below (length g)))

-- ---- descendants

-- the place is counted, and is j or a descendant
abbrev pub counts_down : List (List ℕ) → List Bool → ℕ → ℕ → Bool
counts_down g counted j i = is_counted counted i && within g (length g) i j

inside : (lt reaches counts : Bool) → (counts ≡ true → lt ≡ true) → ((lt && reaches) && counts) ≡ (counts && reaches)
inside true true true h = refl
inside true true false h = refl
inside true false true h = refl
inside true false false h = refl
inside false reaches true h = absurd (true≢false (sym (h refl)))
inside false reaches false h = refl

stands : (counted : List Bool) (n i : ℕ) → length counted ≡ n → is_counted counted i ≡ true → nat_lt i n ≡ true
stands counted n i long is = by (cases_lt i n)
  where
    by : (i < n) ⊎ (n ≤ i) → nat_lt i n ≡ true
    by (inl b) = lt-ltb i n b
    by (inr b) = absurd (true≢false (sym is ∙ none_behind counted n i long b))

pub down_step : (g : List (List ℕ)) (counted : List Bool) (j first end word old new : ℕ) → length counted ≡ length g → ((k : ℕ) → k < 64 → has_flag word k ≡ get_or counted (first + k) false) → Ends first end (length g)
    → old ≡ min 4294967295 (count_by (counts_down g counted j) (below first))
    → new ≡ min 4294967295 (old + flag_count (λ k. nat_lt (first + k) (length g) && within g (length g) (first + k) j) word) → new ≡ min 4294967295 (count_by (counts_down g counted j) (below end))
unfolding flag_count
down_step g counted j first end word old new long flags ends was more =
    capped (count_by (counts_down g counted j) (below first)) (count_by (counts_down g counted j) (below end)) new old (flag_count (λ k. nat_lt (first + k) (length g) && within g (length g) (first + k) j) word) was more
    (to_end (counts_down g counted j) first end (length g) ends (λ i le. ap (λ b. b && within g (length g) i j) (none_behind counted (length g) i long le))
    ∙ ap (λ n. count_by (counts_down g counted j) (below first) + n)
    (sym (count_agree (λ k. (nat_lt (first + k) (length g) && within g (length g) (first + k) j) && has_flag word k) (λ k. counts_down g counted j (first + k)) (below 64)
    (λ k c. ap (λ b. (nat_lt (first + k) (length g) && within g (length g) (first + k) j) && b) (flags k (below_within 64 k c))
    ∙ inside (nat_lt (first + k) (length g)) (within g (length g) (first + k) j) (is_counted counted (first + k)) (stands counted (length g) (first + k) long)))))

pub down_all : (g : List (List ℕ)) (counted : List Bool) (j first : ℕ) → length counted ≡ length g → length g ≤ first → count_by (counts_down g counted j) (below first) ≡ downs g counted j
down_all g counted j first long le = count_to (counts_down g counted j) (length g) first le (λ i in'. ap (λ b. b && within g (length g) i j) (none_behind counted (length g) i long in'))

-- ---- a word that is put together from those of parents

pub up_word : (g : List (List ℕ)) (words ps : List ℕ) (first place k own word : ℕ) → IsInOrder g → place < length g → first ≤ place → k < 64 → ps ≡ steps g place
    → ((i : ℕ) → first ≤ i → i < place → has_flag (get_or words i 0) k ≡ within g (length g) i (first + k)) → has_flag own k ≡ (place == first + k)
    → has_flag word k ≡ (has_flag own k || list_any (λ p. nat_le first p && has_flag (get_or words p 0) k) ps) → has_flag word k ≡ within g (length g) place (first + k)
up_word g words ps first place k own word order lt from in' are known own_is is =
    is
    ∙ (λ j. own_is j || list_any (λ p. nat_le first p && has_flag (get_or words p 0) k) (are j))
    ∙ ap (λ b. (place == first + k) || b) (any_agree (λ p. nat_le first p && has_flag (get_or words p 0) k) (λ p. within g (length g) p (first + k)) (steps g place) (λ p c. at p (parent_before g place p order lt c) (cases_lt p first)))
    ∙ sym (within_step g place (first + k) order lt)
  where
    at : (p : ℕ) → p < place → (p < first) ⊎ (first ≤ p) → (nat_le first p && has_flag (get_or words p 0) k) ≡ within g (length g) p (first + k)
    at p before (inl b) = ap (λ x. x && has_flag (get_or words p 0) k) (lt-leb first p b) ∙ sym (later g p (first + k) order (omega arith) (omega arith))
    at p before (inr b) = ap (λ x. x && has_flag (get_or words p 0) k) (le-leb first p b) ∙ known p b before

-- ---- one place written

pub set_case : (xs : List ℕ) (p v i : ℕ) (P : ℕ → Type 0) → p < length xs → (i ≡ p → P v) → (i ≢ p → P (get_or xs i 0)) → P (get_or (set xs p v) i 0)
set_case xs p v i P lt here other = by (cases_eq i p)
  where
    by : (i ≡ p) ⊎ (i ≡ p → ⊥) → P (get_or (set xs p v) i 0)
    by (inl e) = subst P (sym (ap (λ k. get_or (set xs p v) k 0) e ∙ get_or-set_same xs p v 0 lt)) (here e)
    by (inr ne) = subst P (sym (get_or-set_other xs p i v 0 ne)) (other ne)

pub flag_same : (f h : ℕ → Bool) (word : ℕ) → ((k : ℕ) → k < 64 → f k ≡ h k) → flag_count f word ≡ flag_count h word
unfolding flag_count
flag_same f h word same = count_agree (λ k. f k && has_flag word k) (λ k. h k && has_flag word k) (below 64) (λ k c. ap (λ b. b && has_flag word k) (same k (below_within 64 k c)))

pub no_flags : (f : ℕ → Bool) (word : ℕ) → ((k : ℕ) → k < 64 → f k ≡ false) → flag_count f word ≡ 0
unfolding flag_count
no_flags f word none = count_none (λ k. f k && has_flag word k) 64 (λ k in'. ap (λ b. b && has_flag word k) (none k in'))

-- the flags that a place has after a span: those of the places of the span that reach it
pub flags_told : (g : List (List ℕ)) (words : List ℕ) (first end j : ℕ) → end ≤ length g → Ends first end (length g) → ((k : ℕ) → k < 64 → first + k < end → has_flag (get_or words j 0) k ≡ within g (length g) (first + k) j)
    → ((k : ℕ) → k < 64 → end ≤ first + k → has_flag (get_or words j 0) k ≡ false) → (k : ℕ) → k < 64 → has_flag (get_or words j 0) k ≡ (nat_lt (first + k) (length g) && within g (length g) (first + k) j)
flags_told g words first end j le ends flags others k small = by (cases_lt (first + k) end) ends
  where
    by : (first + k < end) ⊎ (end ≤ first + k) → Ends first end (length g) → has_flag (get_or words j 0) k ≡ (nat_lt (first + k) (length g) && within g (length g) (first + k) j)
    by (inl b) e = flags k small b ∙ sym (ap (λ x. x && within g (length g) (first + k) j) (lt-ltb (first + k) (length g) (omega arith)))
    by (inr b) (inl e) = absurd (omega arith)
    by (inr b) (inr e) =
        let is = e.0 in
        others k small b ∙ sym (ap (λ x. x && within g (length g) (first + k) j) (le-ltb (first + k) (length g) (omega arith)))

-- a place that none of them reaches keeps its number
pub kept_number : (told all : ℕ → Bool) (word old new : ℕ) → ((k : ℕ) → k < 64 → told k ≡ all k) → ((k : ℕ) → k < 64 → told k ≡ false) → old ≤ 4294967295 → new ≡ old → new ≡ min 4294967295 (old + flag_count all word)
kept_number told all word old new same none few kept =
    let nothing : flag_count all word ≡ 0 = sym (flag_same told all word same) ∙ no_flags told word none in
    omega (arith, nothing, few, kept)
