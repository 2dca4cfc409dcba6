-- The faults of the list of coins of a request, from what is wrong with it.
use Rattle.std.proofs.Common.{◌≡◌, ◌≢◌, ◌+◌, ◌<◌, ℕ, List, [], ◌∷◌, ◌++◌, length, codes, get_or, Option, Some, None, Result, Ok, Err, refl, sym, ap, subst, ◌∙◌, inl, inr, ◌⊎◌, arith}
use Rattle.std.specs.Prelude.{◌↔◌, AllPairs}
use Rattle.std.proofs.lemmas.Bool.{cases_lt}
use Rattle.std.proofs.lemmas.List.{get_or_append_left, length-append}
use Rattle.std.proofs.Math.Seq.{get_or-append_seam}
use Rattle.fund_base.specs.Parsing.{◌>>=◌}
use Rattle.fund_base.specs.declared.outpoint.OutPoint.{OutPoint}
use Rattle.json_fields.proofs.ListLaws as lists
use Rattle.json_fields.specs.Fields.{coin_at, each_from, entries_at}
use Rattle.json_fields.specs.Repeats.{IsFirstRepeat}
use Rattle.json_fields.specs.Rules.{IsFirstRefused}
use Rattle.json_fields.specs.declared.fault.FieldFault.{FieldFault}
use Rattle.json_fields.specs.declared.fault.FieldFault.TheVariants.{Kind}
use Rattle.request_text.proofs.RepeatLaws.{first_twice, none_twice, only_distinct}
use Rattle.request_text.specs.RequestText.{coins_at, distinct_at, field, index_of, repeat_behind}
use Rattle.request_text.specs.declared.fault.Refusal.{Refusal}
use Rattle.request_text.specs.declared.fault.Refusal.TheVariants.{Field, Repeat}
use Rattle.serde_json.specs.Data.{Data, array}
use Rattle.serde_json.specs.View.{items_of}
use Rattle.entry_laws.specs.Asked.{AreCoins}
use Rattle.entry_laws.specs.Forms.{IsListFault}
use Rattle.entry_laws.proofs.ListFaults.{IsListed, list, none, what_is}

-- ---- one place alone

-- of two first repeats neither stands before the other
no_less : {X : Type 0} (entries : List X) (p q : ℕ) → IsFirstRepeat entries p → IsFirstRepeat entries q → p < q → ⊥
no_less {X} entries p q is other lt =
    let a : X = is.again in
    let k : ℕ = is.stood.0 in
    let before : k < length is.front = is.stood.1 in
    let place : p ≡ length is.front = is.place_is in
    let later : q ≡ length other.front = other.place_is in
    let first : get_or entries k a ≡ a = ap (λ (l : List X). get_or l k a) is.parts ∙ get_or_append_left is.front (a ∷ is.back) a k before ∙ is.stood.2 in
    let again : get_or entries p a ≡ a = ap (λ (l : List X). get_or l p a) is.parts ∙ ap (λ (n : ℕ). get_or (is.front ++ a ∷ is.back) n a) place ∙ get_or-append_seam is.front a is.back a in
    let one : get_or other.front k a ≡ a = sym (get_or_append_left other.front (other.again ∷ other.back) a k (omega arith)) ∙ ap (λ (l : List X). get_or l k a) (sym other.parts) ∙ first in
    let two : get_or other.front p a ≡ a = sym (get_or_append_left other.front (other.again ∷ other.back) a p (omega arith)) ∙ ap (λ (l : List X). get_or l p a) (sym other.parts) ∙ again in
    other.distinct k p a (omega arith) (omega arith) (one ∙ sym two)

repeat_one : {X : Type 0} (entries : List X) (p q : ℕ) → IsFirstRepeat entries p → IsFirstRepeat entries q → p ≡ q
repeat_one entries p q is other =
    elim (cases_lt p q) [
      | inl lt ↦ absurd (no_less entries p q is other lt)
      | inr le ↦ elim (cases_lt q p) [
        | inl lt ↦ absurd (no_less entries q p other is lt)
        | inr ge ↦ omega arith
      ]
    ]

-- a coin that stands twice is found
repeat_found : (coins : List OutPoint) (place : ℕ) → IsFirstRepeat coins place → repeat_behind [] coins ≡ Some place
repeat_found coins place is = by (repeat_behind [] coins) refl
  where
    by : (o : Option ℕ) → repeat_behind [] coins ≡ o → repeat_behind [] coins ≡ Some place
    by (Some other) e = e ∙ ap (λ (n : ℕ). Some n) (repeat_one coins other place (first_twice coins other e) is)
    by None e =
        let distinct = none_twice coins e in
        let a : OutPoint = is.again in
        let k : ℕ = is.stood.0 in
        let before : k < length is.front = is.stood.1 in
        let first : get_or coins k a ≡ a = ap (λ (l : List OutPoint). get_or l k a) is.parts ∙ get_or_append_left is.front (a ∷ is.back) a k before ∙ is.stood.2 in
        let again : get_or coins (length is.front) a ≡ a = ap (λ (l : List OutPoint). get_or l (length is.front) a) is.parts ∙ get_or-append_seam is.front a is.back a in
        let long : length coins ≡ length is.front + length (a ∷ is.back) = ap length is.parts ∙ length-append is.front (a ∷ is.back) in
        absurd (distinct k (length is.front) a before (omega arith) (first ∙ sym again))

-- ---- what a list comes to

abbrev reading : List OutPoint → Data → Result OutPoint FieldFault
reading before d = coin_at (codes "coins") d

abbrev answer : List OutPoint → Result (List OutPoint) Refusal
answer coins = distinct_at coins (repeat_behind [] coins)

data Outcome (d : Data) : Type 0 where
  bad : (fault : FieldFault) → IsListFault (λ f. f) (codes "coins") reading d fault → coins_at d ≡ Err (Field fault) → Outcome d
  read : (coins : List OutPoint) → AreCoins d coins → coins_at d ≡ answer coins → Outcome d

coins_read : (d : Data) (coins : List OutPoint) → AreCoins d coins → coins_at d ≡ answer coins
unfolding coins_at
coins_read d coins are =
    ap (λ (x : Data). field (entries_at (codes "coins") x) >>= λ entries. field (each_from reading [] entries) >>= answer) are.1
    ∙ ap (λ r. field r >>= answer) (lists.only reading are.0 coins are.2 are.3)

no_list : (d : Data) → ((name : List ℕ) → entries_at name d ≡ Err (Kind name)) → coins_at d ≡ Err (Field (Kind (codes "coins")))
unfolding coins_at
no_list d reads = ap (λ r. field r >>= λ entries. field (each_from reading [] entries) >>= answer) (reads (codes "coins"))

bad_coin : (d : Data) (ds : List Data) (fault : FieldFault) → d ≡ array (items_of ds) → IsFirstRefused reading ds fault → coins_at d ≡ Err (Field fault)
unfolding coins_at
bad_coin d ds fault is first =
    ap (λ (x : Data). field (entries_at (codes "coins") x) >>= λ entries. field (each_from reading [] entries) >>= answer) is
    ∙ ap (λ r. field r >>= answer) (lists.refused reading ds fault first)

outcome : (d : Data) → Outcome d
outcome d = by (what_is d)
  where
    listed : (ds : List Data) → d ≡ array (items_of ds) → (r : Result (List OutPoint) FieldFault) → each_from reading [] (items_of ds) ≡ r → Outcome d
    listed ds is (Ok coins) e =
        let all = lists.found reading ds coins e in
        let are : AreCoins d coins = (ds, is, all.0, all.1) in
        read coins are (coins_read d coins are)
    listed ds is (Err fault) e =
        let first = lists.first reading ds fault e in
        bad fault (inr (ds, is, first)) (bad_coin d ds fault is first)

    by : IsListed d → Outcome d
    by (none never reads) = bad (Kind (codes "coins")) (inl (refl, never)) (no_list d reads)
    by (list ds is) = listed ds is (each_from reading [] (items_of ds)) refl

-- ---- the law

pub coins_law : (d : Data) (coins : List OutPoint) → (coins_at d ≡ Ok coins) ↔ (AreCoins d coins × AllPairs (λ a b. a ≢ b) coins)
coins_law d coins = (λ e. found e (outcome d), λ is. coins_read d coins is.0 ∙ ap (distinct_at coins) (only_distinct coins is.1))
  where
    taken : coins_at d ≡ Ok coins → (all : List OutPoint) → AreCoins d all → (o : Option ℕ) → repeat_behind [] all ≡ o → coins_at d ≡ distinct_at all o → AreCoins d coins × AllPairs (λ a b. a ≢ b) coins
    taken e all are None is reads =
        let same : all ≡ coins = cc (reads, e) in
        (subst (λ (l : List OutPoint). AreCoins d l) same are, subst (λ (l : List OutPoint). AllPairs (λ a b. a ≢ b) l) same (none_twice all is))
    taken e all are (Some place) is reads = absurd (cc (reads, e))

    found : coins_at d ≡ Ok coins → Outcome d → AreCoins d coins × AllPairs (λ a b. a ≢ b) coins
    found e (bad fault is reads) = absurd (cc (reads, e))
    found e (read all are reads) = taken e all are (repeat_behind [] all) refl reads

abbrev IsRepeated : Data → ℕ → Type 0
IsRepeated d told = (coins : List OutPoint) × AreCoins d coins × ((place : ℕ) × (told ≡ index_of place) × IsFirstRepeat coins place)

pub repeat_law : (d : Data) (told : ℕ) → (coins_at d ≡ Err (Repeat told)) ↔ IsRepeated d told
repeat_law d told = (
  λ e. found e (outcome d),
  λ is. coins_read d is.0 is.1 ∙ ap (distinct_at is.0) (repeat_found is.0 is.2.0 is.2.2) ∙ ap (λ (i : ℕ). Err (Repeat i)) (sym is.2.1),
)
  where
    refused : coins_at d ≡ Err (Repeat told) → (all : List OutPoint) → AreCoins d all → (o : Option ℕ) → repeat_behind [] all ≡ o → coins_at d ≡ distinct_at all o → IsRepeated d told
    refused e all are None is reads = absurd (cc (reads, e))
    refused e all are (Some place) is reads = (all, are, (place, cc (reads, e), first_twice all place is))

    found : coins_at d ≡ Err (Repeat told) → Outcome d → IsRepeated d told
    found e (bad fault is reads) = absurd (cc (reads, e))
    found e (read all are reads) = refused e all are (repeat_behind [] all) refl reads

-- what is read as coins has no fault of its form
never_form : (d : Data) (fault : FieldFault) → coins_at d ≡ Err (Field fault) → (all : List OutPoint) → (o : Option ℕ) → coins_at d ≡ distinct_at all o → ⊥
never_form d fault e all None reads = cc (reads, e)
never_form d fault e all (Some place) reads = cc (reads, e)

pub coins_form_law : (d : Data) (fault : FieldFault) → (coins_at d ≡ Err (Field fault)) ↔ IsListFault (λ f. f) (codes "coins") (λ _. coin_at (codes "coins")) d fault
coins_form_law d fault = (λ e. found e (outcome d), only)
  where
    found : coins_at d ≡ Err (Field fault) → Outcome d → IsListFault (λ f. f) (codes "coins") reading d fault
    found e (bad other is reads) = let same : other ≡ fault = cc (reads, e) in subst (λ (f : FieldFault). IsListFault (λ g. g) (codes "coins") reading d f) same is
    found e (read all are reads) = absurd (never_form d fault e all (repeat_behind [] all) reads)

    only : IsListFault (λ f. f) (codes "coins") reading d fault → coins_at d ≡ Err (Field fault)
    only (inl is) = by (what_is d)
      where
        by : IsListed d → coins_at d ≡ Err (Field fault)
        by (list ds at) = absurd (is.1 ds at)
        by (none never reads) = no_list d reads ∙ ap (λ (f : FieldFault). Err (Field f)) (sym is.0)
    only (inr is) = bad_coin d is.0 fault is.1 is.2

pub coins_other : (d : Data) (fault : Refusal) → coins_at d ≡ Err fault → ((form : FieldFault) × (fault ≡ Field form)) ⊎ ((told : ℕ) × (fault ≡ Repeat told))
coins_other d fault e = by (outcome d)
  where
    which : (all : List OutPoint) → (o : Option ℕ) → coins_at d ≡ distinct_at all o → ((form : FieldFault) × (fault ≡ Field form)) ⊎ ((told : ℕ) × (fault ≡ Repeat told))
    which all None reads = absurd (cc (reads, e))
    which all (Some place) reads = inr (index_of place, cc (reads, e))

    by : Outcome d → ((form : FieldFault) × (fault ≡ Field form)) ⊎ ((told : ℕ) × (fault ≡ Repeat told))
    by (bad form is reads) = inl (form, cc (reads, e))
    by (read all are reads) = which all (repeat_behind [] all) reads
