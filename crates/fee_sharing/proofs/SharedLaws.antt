-- What a row comes to, by the pieces of its search, and that it pays.
use Rattle.std.specs.Prelude.{ℕ, ◌≡◌, ◌≤◌, ◌<◌, ◌+◌, ◌*◌, ◌-◌, ◌↔◌, Bool, true, false, All, Contains, List, [], ◌∷◌, ◌++◌, length, map, max, nat_le, nat_lt, sum, sum_by, Option, Some, None, if◌then◌else◌}
use Rattle.std.proofs.Common.{refl, sym, ap, subst, ◌∙◌, arith}
use Rattle.std.proofs.lemmas.List.Elements.{All-head}
use Rattle.std.proofs.lemmas.List.Sums.{sum_by-cons}
use Rattle.closing_log.specs.Log.{PlainSection}
use Rattle.closing_log.specs.declared.log.Stage.TheVariants as stage
use Rattle.coin_candidates.specs.Candidates.{AreCandidates, IsCandidate}
use Rattle.coin_candidates.specs.declared.candidate.Candidate.{Candidate}
use Rattle.fee_rates.proofs.FeeLaws.{input_fee_parts, vsize_bytes, weighed_parts}
use Rattle.fee_rates.specs.Fee.{fee_of, vsize_of}
use Rattle.fee_rates.specs.Terms.{base_of, change_fee_of, change_least_of, change_limit_of, terms_of}
use Rattle.fee_rates.specs.declared.terms.PaymentLoad.{PaymentLoad}
use Rattle.fee_rates.specs.declared.terms.Terms.{Terms}
use Rattle.output_groups.specs.Ladder.{Meets}
use Rattle.output_groups.specs.Places.{members}
use Rattle.output_groups.specs.PlainGroups.{PlainGroups, pool_in}
use Rattle.output_groups.specs.declared.rows.Row.{Row}
use Rattle.pick_problem.proofs.AcceptLaws.{walk_accepted, walk_best}
use Rattle.pick_problem.proofs.TryStepLaws.{all_made}
use Rattle.pick_problem.specs.Admissible.{IsAdmissible}
use Rattle.pick_problem.specs.Best.{IsBest}
use Rattle.pick_problem.specs.Digest.{digest_of}
use Rattle.pick_problem.specs.Later.{total_value}
use Rattle.pick_problem.specs.Letters.{IsAcceptedText, letters_of}
use Rattle.pick_problem.specs.Problem.{IsProblem, PlainProblem}
use Rattle.pick_problem.specs.Walk.{Walk, start, walk}
use Rattle.pick_problem.specs.declared.item.Item.{Item}
use Rattle.pick_problem.specs.declared.item.Kind.TheVariants as kind
use Rattle.pick_problem.specs.declared.position.Progress.{Progress}
use Rattle.pick_problem.specs.declared.position.Progress.TheVariants.{Done, Open}
use Rattle.pick_problem.specs.declared.token.Reason.TheVariants.{Short}
use Rattle.pick_problem.specs.declared.token.Token.TheVariants.{Close}
use Rattle.request_text.specs.PlainRequest.{PlainRequest, paid_to}
use Rattle.wallet_text.specs.declared.wallet.Watch.{Watch}
use Rattle.walk_engine.specs.Search.{PlainSearch, begun, letters}
use Rattle.fund_steps.proofs.SelectionLaws.{in_order_keeps, in_order_sorted}
use Rattle.fund_steps.proofs.MakingLaws.{total}
use Rattle.fund_steps.specs.Amounts.{AreWithin, fees_of, value_of, weight_of}
use Rattle.fund_steps.specs.Searches.{load_with, sizes_of}
use Rattle.fund_steps.specs.Selection.{in_order}
use Rattle.fund_steps.specs.Terms.{load_of, rates_of}
use Rattle.fund_plan.specs.Pays.{payment_weight}
use Rattle.fee_sharing.proofs.RowLaws.{chosen_apart, chosen_at, chosen_held, chosen_meet, comes_at, ordered_fit, rising_in, unpriced_are, unpriced_free, unpriced_worth}
use Rattle.fee_sharing.specs.RowShares.{IsFinished, IsFound, IsPaidBy, IsShared, PaysShared, amount_of, borne_of, borne_with, change_of, change_with, chosen_in, excess_of, least_worth, load_in, needed_with, problem_in, unpriced, worth_pool}
use Rattle.fee_sharing.specs.Searching.{HasTried, IsBorne, IsClosed, IsRowSearch, section_of}
use Rattle.fee_sharing.specs.declared.shared.Shared.{Shared}
use Rattle.fee_sharing.specs.declared.shared.Shared.TheVariants as shared

-- ---- from the pieces of a search

-- what the search of a row is made from
abbrev pub groups_with : PlainRequest → List Candidate → PlainGroups
groups_with r coins = record { candidates = coins; group = r.group; rate = 0; long_term = r.long_term }

abbrev pub groups_for : PlainRequest → List Candidate → PlainGroups
groups_for r cs = groups_with r (map unpriced cs)

new_letters : (x : PlainProblem) (new : PlainSearch) (budget : ℕ) (p : Progress) → HasTried (begun x) new budget p → letters new ≡ letters_of (walk x budget).tokens
new_letters x new budget p tried = ap (λ (before : List ℕ). before ++ letters_of new.walk.tokens) tried.before ∙ ap (λ (w : Walk). letters_of w.tokens) tried.walk

abbrev section_with : Row → PlainProblem → List ℕ → Option (List ℕ) → PlainSection
section_with row x letters answer = record { row = row.number; stage = stage.LeanSmall; digest = digest_of x; letters = letters; answer = answer }

-- a finished search's section and tries
finished : (x : PlainProblem) (row : Row) (new : PlainSearch) (budget : ℕ) (p : Progress) (s : PlainSection) (tries : ℕ) → IsProblem x → HasTried (begun x) new budget p → p ≡ Done → s ≡ section_of row x new → tries ≡ new.walk.tries → IsFinished x row.number budget s tries
finished x row new budget p s tries fits tried is section_is tries_are =
    let over : (walk x budget).done ≡ true = ap (λ (w : Walk). w.done) (sym tried.walk) ∙ (tried.over).0 is in
    let whole : s ≡ section_with row x (letters_of (walk x budget).tokens) (walk x budget).best =
    section_is ∙ ap (λ (l : List ℕ). section_with row x l new.walk.best) (new_letters x new budget p tried) ∙ ap (λ (w : Walk). section_with row x (letters_of (walk x budget).tokens) w.best) tried.walk in
    record {
      is = whole;
      done = over;
      tries_are = tries_are ∙ ap (λ (w : Walk). w.tries) tried.walk;
      fits = fits;
      best = subst (λ (z : PlainSection). IsBest x z.answer) (sym whole) (walk_best x fits budget over);
      accepted = subst (λ (z : PlainSection). IsAcceptedText x z.answer z.letters) (sym whole) ((walk x budget).tokens, refl, walk_accepted x fits budget over);
    }

not_done : (b : Bool) (p : Progress) → p ≡ Open → ((p ≡ Done) ↔ (b ≡ true)) → b ≡ false
not_done true p is over = let clash = sym is ∙ over.1 refl in absurd (cc)
not_done false p is over = refl

start_by : (b : Bool) (v w : Walk) → v.tries ≡ 0 → w.tries ≡ 0 → (if b then v else w).tries ≡ 0
start_by true v w a c = a
start_by false v w a c = c

start_tries : (x : PlainProblem) → (start x).tries ≡ 0
start_tries x = start_by (nat_lt (total_value x.items) x.lo) (record { stack = []; next = length x.items; best = None; tries = 0; done = true; tokens = Close Short ∷ [] }) (record { stack = []; next = 0; best = None; tries = 0; done = false; tokens = [] }) refl refl

-- an open search has made all tries
pub opened : (x y : PlainProblem) (new : PlainSearch) (budget : ℕ) (p : Progress) (tries : ℕ) → x ≡ y → HasTried (begun x) new budget p → p ≡ Open → tries ≡ new.walk.tries → (tries ≡ budget) × ((walk y budget).done ≡ false)
opened x y new budget p tries same tried is tries_are =
    let open_ : new.walk.done ≡ false = not_done new.walk.done p is tried.over in
    let goes : (walk x budget).done ≡ false = ap (λ (w : Walk). w.done) (sym tried.walk) ∙ open_ in
    let made = all_made x (start x) budget goes in
    let count : tries ≡ (walk x budget).tries = tries_are ∙ ap (λ (w : Walk). w.tries) tried.walk in
    (omega (arith, count, made, start_tries x), subst (λ (z : PlainProblem). (walk z budget).done ≡ false) same goes)

-- ---- what is found

-- a row's groups, its terms and its problem
pub record IsMade (r : PlainRequest) (w : Watch) (row : Row) (cs : List Candidate) (g : PlainGroups) (t : Terms) (x : PlainProblem) : Type 0 where
  pub groups_are : g ≡ groups_for r cs
  pub terms_are : t ≡ terms_of (rates_of r) (load_in r w row cs)
  pub problem_is : x ≡ problem_in r w row cs

least_in : (r : PlainRequest) (l : PaymentLoad) → (terms_of (rates_of r) l).change_least ≡ change_least_of (rates_of r) l
unfolding terms_of
least_in r l = refl

pub base_in : (r : PlainRequest) (l : PaymentLoad) → (terms_of (rates_of r) l).base ≡ base_of l
unfolding terms_of
base_in r l = refl

fee_in : (r : PlainRequest) (l : PaymentLoad) → (terms_of (rates_of r) l).change_fee ≡ change_fee_of (rates_of r) l
unfolding terms_of
fee_in r l = refl

found : (r : PlainRequest) (w : Watch) (row : Row) (cs : List Candidate) (g : PlainGroups) (t : Terms) (x : PlainProblem) (places : List ℕ) (answer : Option (List ℕ)) (coins : List Candidate) (change : Option ℕ) (borne : ℕ) → IsMade r w row cs g t x
    → answer ≡ Some places → coins ≡ in_order (members (pool_in g row).groups places) → IsBorne r t coins change borne → IsFound r w row cs answer coins change borne
found r w row cs g t x places answer coins change borne made a c b =
    let l = load_in r w row cs in
    let least = ap (λ (z : Terms). z.change_least) made.terms_are ∙ least_in r l in
    let base = ap (λ (z : Terms). z.base) made.terms_are ∙ base_in r l in
    let fee = ap (λ (z : Terms). z.change_fee) made.terms_are ∙ fee_in r l in
    record {
      places = places;
      answer_is = a;
      coins_are = c ∙ ap (λ (z : PlainGroups). in_order (members (pool_in z row).groups places)) made.groups_are;
      change_is = b.change_is ∙ ap (λ (n : ℕ). change_with n (excess_of r coins)) least;
      borne_is = b.borne_is ∙ ap (λ (n : ℕ). borne_with (needed_with r n coins) t.change_fee (excess_of r coins) change) base ∙ ap (λ (n : ℕ). borne_with (needed_with r (base_of l) coins) n (excess_of r coins) change) fee;
    }

least_is : (n : ℕ) → (n ≤ max n 1) × (1 ≤ max n 1)
least_is n = (omega arith, omega arith)

limit_in : (r : PlainRequest) (l : PaymentLoad) → (terms_of (rates_of r) l).change_limit ≡ change_limit_of l
unfolding terms_of
limit_in r l = refl

abbrev problem_with : PlainRequest → List Item → ℕ → PlainProblem
problem_with r items most_weight = record { items = items; lo = least_worth r; hi = least_worth r; most_weight = most_weight; kind = kind.Lean }

-- they are those of the row
pub is_made : (r : PlainRequest) (w : Watch) (row : Row) (cs coins : List Candidate) (g : PlainGroups) (items : List Item) (sizes : List ℕ) (t : Terms) (x : PlainProblem) → coins ≡ map unpriced cs → g ≡ groups_with r coins
    → items ≡ (pool_in g row).items → sizes ≡ sizes_of (pool_in g row).groups → t ≡ terms_of (rates_of r) (load_with (load_of r w [] 0) (sum sizes))
    → x ≡ record { items = items; lo = least_worth r; hi = least_worth r; most_weight = t.change_limit; kind = kind.Lean } → IsMade r w row cs g t x
is_made r w row cs coins g items sizes t x ci gi ii si ti xi =
    let groups : g ≡ groups_for r cs = gi ∙ ap (groups_with r) ci in
    let terms : t ≡ terms_of (rates_of r) (load_in r w row cs) =
    ti ∙ ap (λ (n : ℕ). terms_of (rates_of r) (load_with (load_of r w [] 0) n)) (ap sum si ∙ total (pool_in g row).groups ∙ ap (λ (z : PlainGroups). sum_by (λ (h : List Candidate). length h) (pool_in z row).groups) groups) in
    let limit : t.change_limit ≡ change_limit_of (load_in r w row cs) = ap (λ (z : Terms). z.change_limit) terms ∙ limit_in r (load_in r w row cs) in
    let whole : x ≡ problem_with r items t.change_limit = xi in
    record {
      groups_are = groups;
      terms_are = terms;
      problem_is = whole ∙ ap (λ (l : List Item). problem_with r l t.change_limit) (ii ∙ ap (λ (z : PlainGroups). (pool_in z row).items) groups) ∙ ap (problem_with r (worth_pool r row cs).items) limit;
    }

-- and what a row's search asks for
pub row_search : (r : PlainRequest) (w : Watch) (row : Row) (cs : List Candidate) (g : PlainGroups) (t : Terms) (x : PlainProblem) (s : PlainSearch) → AreCandidates cs → value_of cs ≤ 2_100_000_000_000_000 → IsMade r w row cs g t x → s.problem ≡ x → IsRowSearch r row g x s
row_search r w row cs g t x s h worth made is =
    subst (λ (z : PlainGroups). IsRowSearch r row z x s) (sym made.groups_are)
    (record {
      candidates = unpriced_are cs h;
      worth = omega (arith, unpriced_worth cs, worth);
      prices = unpriced_free cs;
      rate = refl;
      items = ap (λ (y : PlainProblem). y.items) made.problem_is;
      asks = omega (arith, (least_is (paid_to r.recipients)).0, ap (λ (y : PlainProblem). y.lo) made.problem_is);
      search = is;
    })

-- a search that is done, as what its row comes to
pub closed_shared : (r : PlainRequest) (w : Watch) (row : Row) (cs : List Candidate) (g : PlainGroups) (t : Terms) (x : PlainProblem) (new : PlainSearch) (budget : ℕ) (p : Progress) (s : Shared) → IsMade r w row cs g t x → IsProblem x
    → HasTried (begun x) new budget p → p ≡ Done → IsClosed r row g t x new s → IsShared r w row cs budget s
closed_shared r w row cs g t x new budget p (shared.None section tries) made fits tried is c = (
  subst (λ (y : PlainProblem). IsFinished y row.number budget section tries) made.problem_is (finished x row new budget p section tries fits tried is c.0 c.1),
  ap (λ (z : PlainSection). z.answer) c.0 ∙ c.2,
)
closed_shared r w row cs g t x new budget p (shared.Found section coins change borne tries) made fits tried is c = (
  subst (λ (y : PlainProblem). IsFinished y row.number budget section tries) made.problem_is (finished x row new budget p section tries fits tried is c.0 c.1),
  found r w row cs g t x c.2.0 section.answer coins.items change borne made (ap (λ (z : PlainSection). z.answer) c.0 ∙ c.2.1) c.2.2 c.3,
)
closed_shared r w row cs g t x new budget p (shared.Open tries) made fits tried is c = absurd c

-- ---- its coins pay

-- at plain numbers
limits : (base presets size w : ℕ) → 1 ≤ w → w ≤ 400_000 - base - presets - 4 * size → (base + w ≤ 400_000) × (base + w + 4 * size ≤ 400_000)
limits base presets size w some low = (omega arith, omega arith)

pays_plain : (paid value base inputs whole borne : ℕ) → whole ≤ base + inputs → paid ≤ value → borne ≡ (base + inputs) - (value - paid) → paid + 0 + whole ≤ value + borne
pays_plain paid value base inputs whole borne parts enough is = omega arith

pays_change : (paid value amount base inputs fee whole borne : ℕ) → whole ≤ base + inputs + fee → paid ≤ value → amount ≡ value - paid → borne ≡ base + inputs + fee → paid + amount + whole ≤ value + borne
pays_change paid value amount base inputs fee whole borne parts enough a b = omega arith

parts_change : (rate base size : ℕ) (coins : List Candidate) → fee_of rate (vsize_of (base + weight_of coins + 4 * size)) ≤ fee_of rate (vsize_of base) + fees_of rate coins + fee_of rate size
parts_change rate base size coins =
    omega (
      arith,
      weighed_parts (λ (c : Candidate). c.weight) rate base coins,
      input_fee_parts rate (base + weight_of coins) (4 * size),
      ap (fee_of rate) (vsize_bytes size),
    )

change_by : (b : Bool) (excess amount : ℕ) → Some amount ≡ (if b then Some excess else None) → amount ≡ excess
change_by true excess amount e = cc
change_by false excess amount e = absurd (cc)

some_coin : (coins : List Candidate) → 1 ≤ value_of coins → 0 < length coins
some_coin [] h = absurd (omega (arith, h))
some_coin (c ∷ cs) h = omega arith

some_weight : (coins : List Candidate) → All IsCandidate coins → 0 < length coins → 1 ≤ weight_of coins
some_weight [] fit h = absurd (omega (arith, h))
some_weight (c ∷ cs) fit h = omega (arith, (All-head IsCandidate c cs fit).least_weight, sum_by-cons (λ (x : Candidate). x.weight) c cs)

-- what a payment weighs and pays, without change or with one
record Covers (r : PlainRequest) (l : PaymentLoad) (coins : List Candidate) (change : Option ℕ) (borne : ℕ) : Type 0 where
  light : payment_weight l coins change ≤ 400_000
  fee_covers : paid_to r.recipients + amount_of change + fee_of r.rate (vsize_of (payment_weight l coins change)) ≤ value_of coins + borne

covers : (r : PlainRequest) (l : PaymentLoad) (coins : List Candidate) (change : Option ℕ) (borne : ℕ) → paid_to r.recipients ≤ value_of coins → 1 ≤ weight_of coins → weight_of coins ≤ change_limit_of l
    → change ≡ change_of r l coins → borne ≡ borne_of r l coins change → Covers r l coins change borne
covers r l coins None borne enough some low c b = record {
  light = (limits (base_of l) l.preset_weight l.change_size (weight_of coins) some low).0;
  fee_covers =
      pays_plain (paid_to r.recipients) (value_of coins) (fee_of r.rate (vsize_of (base_of l))) (fees_of r.rate coins) (fee_of r.rate (vsize_of (base_of l + weight_of coins))) borne (weighed_parts (λ (d : Candidate). d.weight) r.rate (base_of l) coins) enough b;
}
covers r l coins (Some amount) borne enough some low c b = record {
  light = (limits (base_of l) l.preset_weight l.change_size (weight_of coins) some low).1;
  fee_covers =
      pays_change (paid_to r.recipients) (value_of coins) amount (fee_of r.rate (vsize_of (base_of l))) (fees_of r.rate coins) (fee_of r.rate l.change_size) (fee_of r.rate (vsize_of (base_of l + weight_of coins + 4 * l.change_size))) borne (parts_change r.rate (base_of l) l.change_size coins) enough
      (change_by (nat_le (change_least_of (rates_of r) l) (excess_of r coins)) (excess_of r coins) amount c) b;
}

-- the coins of an admissible selection pay
paying : (r : PlainRequest) (w : Watch) (row : Row) (cs : List Candidate) (places : List ℕ) (change : Option ℕ) (borne : ℕ) → AreCandidates cs → value_of cs ≤ 2_100_000_000_000_000 → row.own ≤ row.foreign
    → IsAdmissible (problem_in r w row cs) places → change ≡ change_of r (load_in r w row cs) (chosen_in r row cs places) → borne ≡ borne_of r (load_in r w row cs) (chosen_in r row cs places) change
    → PaysShared r w row cs (chosen_in r row cs places) change borne
paying r w row cs places change borne h worth own fit c b =
    let x = problem_in r w row cs in
    let l = load_in r w row cs in
    let g = groups_for r cs in
    let coins = chosen_in r row cs places in
    let fits = unpriced_are cs h in
    let rising = rising_in row g x.items places refl fit.rising in
    let chosen = chosen_at row g places in
    let apart = chosen_apart row g places fits rising in
    let held = chosen_held row g places fits rising in
    let comes = comes_at row g x places refl (unpriced_free cs) fits refl rising in
    let within : AreWithin coins = ordered_fit (map unpriced cs) chosen fits (omega (arith, unpriced_worth cs, worth)) apart held in
    let least = least_is (paid_to r.recipients) in
    let enough : paid_to r.recipients ≤ value_of coins = omega (arith, comes.value, fit.reaches, least.0) in
    let some : 0 < length coins = some_coin coins (omega (arith, comes.value, fit.reaches, least.1)) in
    let low : weight_of coins ≤ change_limit_of l = subst (λ (n : ℕ). n ≤ change_limit_of l) (sym comes.weight) fit.light in
    let all = covers r l coins change borne enough (some_weight coins within.each some) low c b in
    record {
      held = in_order_keeps (Contains (map unpriced cs)) chosen held;
      meet = in_order_keeps (Meets row) chosen (chosen_meet row g places own rising);
      sorted = in_order_sorted chosen;
      fit = within;
      some = some;
      enough = enough;
      light = all.light;
      fee_covers = all.fee_covers;
    }

found_pays : (r : PlainRequest) (w : Watch) (row : Row) (cs : List Candidate) (answer : Option (List ℕ)) (coins : List Candidate) (change : Option ℕ) (borne : ℕ) → AreCandidates cs → value_of cs ≤ 2_100_000_000_000_000 → row.own ≤ row.foreign
    → IsBest (problem_in r w row cs) answer → IsFound r w row cs answer coins change borne → PaysShared r w row cs coins change borne
found_pays r w row cs answer coins change borne h worth own best f =
    let admissible = (subst (IsBest (problem_in r w row cs)) f.answer_is best).0 in
    let l = load_in r w row cs in
    subst (λ (z : List Candidate). PaysShared r w row cs z change borne) (sym f.coins_are)
    (paying r w row cs f.places change borne h worth own admissible (f.change_is ∙ ap (λ (z : List Candidate). change_of r l z) f.coins_are) (f.borne_is ∙ ap (λ (z : List Candidate). borne_of r l z change) f.coins_are))

-- so what a row comes to pays
pub shared_pays : (r : PlainRequest) (w : Watch) (row : Row) (cs : List Candidate) (budget : ℕ) (s : Shared) → AreCandidates cs → value_of cs ≤ 2_100_000_000_000_000 → row.own ≤ row.foreign → IsShared r w row cs budget s → IsPaidBy r w row cs s
shared_pays r w row cs budget (shared.None section tries) h worth own c = tt
shared_pays r w row cs budget (shared.Found section coins change borne tries) h worth own c = found_pays r w row cs section.answer coins.items change borne h worth own c.0.best c.1
shared_pays r w row cs budget (shared.Open tries) h worth own c = tt
