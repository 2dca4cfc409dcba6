-- Where bytes leave the texts of a grammar whose reader is exact: there is one such place, and a text means one thing.
use Rattle.std.proofs.Common.{◌≡◌, ℕ, ◌+◌, ◌≤◌, ◌<◌, List, [], ◌∷◌, ◌++◌, length, take, drop, Result, Ok, Err, inl, inr, sym, ap, subst, ◌∙◌, append_assoc, arith}
use Rattle.std.proofs.lemmas.Bool.{cases_lt}
use Rattle.std.proofs.lemmas.List.{length-append, take-append-drop, take-take, take_at}
use Rattle.closing_log.specs.Exact.{Begins, IsFirstFault, NoneGoesOn, StopsAt}
use Rattle.closing_log.proofs.Exactness.{Law, not_both, ok_is, one_on}

-- ---- the place of a fault

-- at the end there is no byte after it
never_at : {X : Type 0} (Means : List ℕ → X → Type 0) (bytes front stop : List ℕ) (place : ℕ) → bytes ≡ front ++ stop → length front ≡ place
    → NoneGoesOn Means front stop → place < length bytes → Begins Means (take (place + 1) bytes) → ⊥
never_at Means bytes front [] place parts at never lt begins = omega (arith, lt, at, ap length parts, length-append front [])
never_at Means bytes front (b ∷ r) place parts at never lt begins =
    let cut : take (place + 1) bytes ≡ front ++ b ∷ [] =
    ap (take (place + 1)) (parts ∙ sym (one_on front b r)) ∙ take_at (front ++ b ∷ []) r (place + 1) (omega (arith, at, length-append front (b ∷ []))) in
    never (subst (Begins Means) cut begins)

-- where reading stops is the first fault of bytes that mean nothing
pub fault_where : {X : Type 0} (Means : List ℕ → X → Type 0) (bytes stop : List ℕ) (place : ℕ) → StopsAt Means bytes stop → place + length stop ≡ length bytes
    → ((x : X) → Means bytes x → ⊥) → IsFirstFault Means bytes place
fault_where Means bytes stop place s place-is nothing =
    let at : length s.front ≡ place = omega (arith, place-is, ap length s.parts, length-append s.front stop) in
    let cut : take place bytes ≡ s.front = ap (take place) s.parts ∙ take_at s.front stop place at in
    record { within = omega arith; begins = subst (Begins Means) (sym cut) s.begins; never = never_at Means bytes s.front stop place s.parts at s.never; whole = nothing }

pub stop_within : {X : Type 0} (Means : List ℕ → X → Type 0) (bytes stop : List ℕ) → StopsAt Means bytes stop → length stop ≤ length bytes
stop_within Means bytes stop s = omega (arith, ap length s.parts, length-append s.front stop)

-- ---- one place

begins_less : {X : Type 0} (Means : List ℕ → X → Type 0) (bytes : List ℕ) (p q : ℕ) → p < q → Begins Means (take q bytes) → Begins Means (take (p + 1) bytes)
begins_less Means bytes p q lt b =
    let parts : take q bytes ≡ take (p + 1) bytes ++ drop (p + 1) (take q bytes) =
    sym (take-append-drop (p + 1) (take q bytes)) ∙ ap (λ t. t ++ drop (p + 1) (take q bytes)) (take-take (p + 1) q bytes (omega arith)) in
    record {
      more = drop (p + 1) (take q bytes) ++ b.more;
      value = b.value;
      means = subst (λ (t : List ℕ). Means t b.value) (ap (λ t. t ++ b.more) parts ∙ append_assoc (take (p + 1) bytes) (drop (p + 1) (take q bytes)) b.more) b.means;
    }

not_before : {X : Type 0} (Means : List ℕ → X → Type 0) (bytes : List ℕ) (p q : ℕ) → IsFirstFault Means bytes p → IsFirstFault Means bytes q → p < q → ⊥
not_before Means bytes p q first second lt = first.never (omega (arith, lt, second.within)) (begins_less Means bytes p q lt second.begins)

pub one_place : {X : Type 0} (Means : List ℕ → X → Type 0) (bytes : List ℕ) (p q : ℕ) → IsFirstFault Means bytes p → IsFirstFault Means bytes q → p ≡ q
one_place Means bytes p q first second = elim (cases_lt p q) [
  | inl lt ↦ absurd (not_before Means bytes p q first second lt)
  | inr le ↦ elim (cases_lt q p) [ inl lt ↦ absurd (not_before Means bytes q p second first lt) | inr ge ↦ omega arith ]
]

-- ---- a reader of whole texts

pub read_means : {X : Type 0} (item : List ℕ → Result X (List ℕ)) (Means : List ℕ → X → Type 0) → ((n : ℕ) → Law n item Means)
    → (bytes : List ℕ) (x : X) → item bytes ≡ Ok x → Means bytes x
read_means item Means law bytes x e = (law (length bytes)).takes bytes x (omega arith) e

pub means_read : {X : Type 0} (item : List ℕ → Result X (List ℕ)) (Means : List ℕ → X → Type 0) → ((n : ℕ) → Law n item Means)
    → (bytes : List ℕ) (x : X) → Means bytes x → item bytes ≡ Ok x
means_read item Means law bytes x i = (law (length bytes)).again bytes x (omega arith) i

-- a text means one thing
pub one_meaning : {X : Type 0} (item : List ℕ → Result X (List ℕ)) (Means : List ℕ → X → Type 0) → ((n : ℕ) → Law n item Means)
    → (bytes : List ℕ) (a b : X) → Means bytes a → Means bytes b → a ≡ b
one_meaning item Means law bytes a b first second = ok_is a b (item bytes) (means_read item Means law bytes a first) (means_read item Means law bytes b second)

pub read_stops : {X : Type 0} (item : List ℕ → Result X (List ℕ)) (Means : List ℕ → X → Type 0) → ((n : ℕ) → Law n item Means)
    → (bytes stop : List ℕ) → item bytes ≡ Err stop → StopsAt Means bytes stop
read_stops item Means law bytes stop e = (law (length bytes)).stops bytes stop (omega arith) e

pub first_fault : {X : Type 0} (item : List ℕ → Result X (List ℕ)) (Means : List ℕ → X → Type 0) → ((n : ℕ) → Law n item Means)
    → (bytes stop : List ℕ) (place : ℕ) → item bytes ≡ Err stop → place + length stop ≡ length bytes → IsFirstFault Means bytes place
first_fault item Means law bytes stop place e place-is =
    fault_where Means bytes stop place (read_stops item Means law bytes stop e) place-is (λ x i. not_both x stop (item bytes) (means_read item Means law bytes x i) e)
