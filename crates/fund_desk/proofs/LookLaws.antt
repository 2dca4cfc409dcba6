-- Coins that are looked up by their outpoints.
use Rattle.std.specs.Prelude.{ℕ, suc, ◌≡◌, ◌≢◌, ◌≤◌, ◌<◌, ◌==◌, ◌&&◌, ◌||◌, bytes_eq, List, [], ◌∷◌, AllPairs, Bool, true, false, not, Contains, Option, Some, None, filter, find, length}
use Rattle.std.specs.Map.{lookup}
use Rattle.std.specs.Option.{option_map_or, option_or}
use Rattle.std.proofs.Common.{refl, sym, ap, ◌∙◌, subst, cond, get_or, arith}
use Rattle.std.proofs.lemmas.Bool.{both_ways}
use Rattle.std.proofs.lemmas.List.Elements.{All-filter}
use Rattle.std.proofs.lemmas.List.Kept.{AllPairs-filter}
use Rattle.std.proofs.lemmas.Option.{none-some}
use Rattle.fund_base.proofs.OutpointLaws.{same_outpoint-Decides}
use Rattle.coin_candidates.specs.Candidates.{AreCandidates, IsCandidate}
use Rattle.fund_base.specs.Outpoints.{same_outpoint}
use Rattle.coin_candidates.specs.declared.candidate.Candidate.{Candidate}
use Rattle.fund_base.specs.declared.outpoint.OutPoint.{OutPoint}
use Rattle.request_text.specs.PlainRequest.{PlainRequest}
use Rattle.payment_states.proofs.FirstSteps.{find_agree}
use Rattle.fund_desk.specs.Looked.{IsLookOf, good_in, is_at, same_as, taken_in}
use Rattle.desk_machine.specs.State.{Payment, is_reserved}
use Rattle.desk_machine.specs.Taken.{coin_now, first_taken, is_good, is_taken, meets_row, same_coin}
use Rattle.fund_steps.specs.Plan.{may_be_listed}
use Rattle.fund_desk.specs.declared.taken.Look.{Look}

-- ---- coins at different outpoints

abbrev pub Apart : List Candidate → Type 0
Apart coins = AllPairs (λ (a b : Candidate). a.coin ≢ b.coin) coins

-- the first of these coins is at another outpoint than the others
apart_head : (x : Candidate) (rest : List Candidate) → Apart (x ∷ rest) → (k : ℕ) (d : Candidate) → k < length rest → x.coin ≢ (get_or rest k d).coin
apart_head x rest apart k d lt = apart 0 (suc k) d (omega arith) (omega (arith, lt))

apart_tail : (x : Candidate) (rest : List Candidate) → Apart (x ∷ rest) → Apart rest
apart_tail x rest apart = λ i j d less lt. apart (suc i) (suc j) d (omega (arith, less)) (omega (arith, lt))

-- where none is at the outpoint none is found there
none_found : (o : OutPoint) (coins : List Candidate) → ((k : ℕ) (d : Candidate) → k < length coins → o ≢ (get_or coins k d).coin) → find (is_at o) coins ≡ None
none_found o [] apart = refl
none_found o (x ∷ rest) apart = by (is_at o x) refl (none_found o rest (λ k d lt. apart (suc k) d (omega (arith, lt))))
  where
    by : (b : Bool) → is_at o x ≡ b → find (is_at o) rest ≡ None → cond b (Some x) (find (is_at o) rest) ≡ None
    by true e none = absurd (apart 0 x (omega arith) ((same_outpoint-Decides o x.coin).0 e))
    by false e none = none

-- ---- a coin as it may be spent now

same_at : (c t : Candidate) → is_at c.coin t ≡ false → same_coin c t ≡ false
same_at c t apart = ap (λ (b : Bool). b && ((c.value == t.value) && ((c.weight == t.weight) && bytes_eq c.script t.script))) apart

none_same : (c : Candidate) (coins : List Candidate) → find (is_at c.coin) coins ≡ None → find (same_coin c) coins ≡ None
none_same c [] none = refl
none_same c (x ∷ rest) none = by (is_at c.coin x) refl none (none_same c rest)
  where
    by : (b : Bool) → is_at c.coin x ≡ b → cond b (Some x) (find (is_at c.coin) rest) ≡ None → (find (is_at c.coin) rest ≡ None → find (same_coin c) rest ≡ None) → find (same_coin c) (x ∷ rest) ≡ None
    by true e h more = absurd (none-some x (sym h))
    by false e h more = rw (same_at c x e) (more h)

-- of coins at different outpoints, the one at the outpoint is the coin or none is
pub now_there : (c : Candidate) (coins : List Candidate) → Apart coins → same_as c (find (is_at c.coin) coins) ≡ coin_now coins c
now_there c [] apart = refl
now_there c (x ∷ rest) apart = by (is_at c.coin x) refl (now_there c rest (apart_tail x rest apart))
  where
    others : is_at c.coin x ≡ true → find (same_coin c) rest ≡ None
    others e =
        let at : c.coin ≡ x.coin = (same_outpoint-Decides c.coin x.coin).0 e in
        none_same c rest (none_found c.coin rest (λ k d lt same. apart_head x rest apart k d lt (sym at ∙ same)))

    one : (b : Bool) → same_coin c x ≡ b → find (same_coin c) rest ≡ None → cond b (Some x) None ≡ cond b (Some x) (find (same_coin c) rest)
    one true e none = refl
    one false e none = sym none

    by : (b : Bool) → is_at c.coin x ≡ b → same_as c (find (is_at c.coin) rest) ≡ coin_now rest c → same_as c (cond b (Some x) (find (is_at c.coin) rest)) ≡ coin_now (x ∷ rest) c
    by true e more = one (same_coin c x) refl (others e)
    by false e more = more ∙ ap (λ (b : Bool). cond b (Some x) (find (same_coin c) rest)) (sym (same_at c x e))

-- ---- the tests

good_same : (committed : List Payment) (coins : List Candidate) (r : PlainRequest) (n : ℕ) (look : Look) → IsLookOf committed r.coins coins look → (t : Candidate) → good_in look r n t ≡ is_good r n t
good_same committed coins r n look is t = ap (λ (b : Bool). cond b (may_be_listed r t) (meets_row r n t)) (is.listed t.coin)

pub taken_same : (committed : List Payment) (now ready : List Candidate) (r : PlainRequest) (n : ℕ) (look : Look) → Apart now → IsLookOf committed r.coins ready look → (c : Candidate) → find (is_at c.coin) ready ≡ find (is_at c.coin) now → taken_in look r n c ≡ is_taken committed now r n c
taken_same committed now ready r n look apart is c same =
    ap (λ (b : Bool). b || not (option_map_or (good_in look r n) (same_as c (lookup (same_outpoint c.coin) look.coins.entries)) false)) (is.reserved c.coin)
    ∙ ap (λ (o : Option Candidate). is_reserved committed c.coin || not (option_map_or (good_in look r n) o false)) (ap (same_as c) (is.coins c.coin ∙ same) ∙ now_there c now apart)
    ∙ ap (λ (b : Bool). is_reserved committed c.coin || not b) (goods (coin_now now c))
  where
    goods : (o : Option Candidate) → option_map_or (good_in look r n) o false ≡ option_map_or (is_good r n) o false
    goods None = refl
    goods (Some t) = good_same committed ready r n look is t

-- The first that is found so is the first that is taken. It is enough to know of the coins of the payment how they are now.
pub shown_first : (committed : List Payment) (ready all coins own : List Candidate) (listed : List OutPoint) (r : PlainRequest) (n m : ℕ) (look : Look) (o : Option Candidate) → AreCandidates all → ((c : Candidate) → Contains own c → find (is_at c.coin) ready ≡ find (is_at c.coin) all)
    → IsLookOf committed listed ready look → listed ≡ r.coins → coins ≡ own → n ≡ m → o ≡ find (taken_in look r n) coins → o ≡ first_taken committed all r m own
shown_first committed ready all coins own listed r n m look o are same is points coin number found =
    let here = subst (λ (ps : List OutPoint). IsLookOf committed ps ready look) points is in
    found
    ∙ ap (find (taken_in look r n)) coin
    ∙ find_agree (taken_in look r n) (is_taken committed all r n) own (λ c has. taken_same committed all ready r n look are.distinct here c (same c has))
    ∙ ap (λ (k : ℕ). first_taken committed all r k own) number

-- ---- coins that are kept

pub kept_same : (p q : Candidate → Bool) → ((c : Candidate) → p c ≡ q c) → (coins : List Candidate) → filter p coins ≡ filter q coins
kept_same p q same [] = refl
kept_same p q same (x ∷ rest) =
    ap (λ (b : Bool). cond b (x ∷ filter p rest) (filter p rest)) (same x) ∙ ap (λ (kept : List Candidate). cond (q x) (x ∷ kept) kept) (kept_same p q same rest)

fewer : (p : Candidate → Bool) (coins : List Candidate) → length (filter p coins) ≤ length coins
fewer p [] = omega arith
fewer p (x ∷ rest) = by (p x) (fewer p rest)
  where
    by : (b : Bool) → length (filter p rest) ≤ length rest → length (cond b (x ∷ filter p rest) (filter p rest)) ≤ length (x ∷ rest)
    by true h = omega (arith, h)
    by false h = omega (arith, h)

pub candidates_filter : (p : Candidate → Bool) (coins : List Candidate) → AreCandidates coins → AreCandidates (filter p coins)
candidates_filter p coins h = record {
  each = All-filter p IsCandidate coins h.each;
  count = let few = fewer p coins in let most = h.count in omega (arith, few, most);
  distinct = AllPairs-filter (λ (a b : Candidate). a.coin ≢ b.coin) p coins h.distinct;
}

-- ---- one coin more

pub swapped : (a b : OutPoint) → same_outpoint a b ≡ same_outpoint b a
swapped a b = by (same_outpoint a b) refl (same_outpoint b a) refl
  where
    by : (x : Bool) → same_outpoint a b ≡ x → (y : Bool) → same_outpoint b a ≡ y → x ≡ y
    by true e true f = refl
    by false e false f = refl
    by true e false f = absurd (both_ways (same_outpoint b a) f ((same_outpoint-Decides b a).1 (sym ((same_outpoint-Decides a b).0 e))))
    by false e true f = absurd (both_ways (same_outpoint a b) e ((same_outpoint-Decides a b).1 (sym ((same_outpoint-Decides b a).0 f))))

pub or_none : (o : Option Candidate) → o ≡ option_or o None
or_none None = refl
or_none (Some x) = refl
