-- What the readers promise follows from what they read at each place.
use Rattle.std.proofs.Common.{◌≡◌, ◌≢◌, List, ℕ, length, eqb, Result, Ok, Err, refl, sym, ap, ◌∙◌, arith, inl, inr}
use Rattle.std.specs.Prelude.{MatchResult}
use Rattle.std.proofs.lemmas.Bool.{eqb-false, ne_eqb, cases_Bool}
use Rattle.std.proofs.lemmas.List.{nil_from_length}
use Rattle.fund_base.specs.Cursor.{At, IsBytes}
use Rattle.fund_base.specs.Parsing.{whole_of, YieldsAll}
use Rattle.fund_base.proofs.Laws.{bind_is, Reads}
use Rattle.tx_codec.specs.Transaction.{Transaction}
use Rattle.tx_codec.specs.TransactionText.{text_of, IsFollowed}
use Rattle.tx_codec.proofs.OwnFaults.{Untrailed}
use Rattle.tx_codec.specs.declared.fault.TxFault.{TxFault}
use Rattle.tx_codec.specs.declared.fault.TxFault.TheVariants.{Truncated, LongCompact, ValueRange, NoInputs, NoOutputs, BadFlag, EmptyWitness, Trailing, Memory}

-- a fault is out of memory where it can't be another
pub only_memory : (e : TxFault) → (e ≢ Memory → ⊥) → e ≡ Memory
only_memory (Truncated place) h = absurd (h (λ e. absurd cc))
only_memory (LongCompact place) h = absurd (h (λ e. absurd cc))
only_memory (ValueRange output) h = absurd (h (λ e. absurd cc))
only_memory NoInputs h = absurd (h (λ e. absurd cc))
only_memory NoOutputs h = absurd (h (λ e. absurd cc))
only_memory BadFlag h = absurd (h (λ e. absurd cc))
only_memory EmptyWitness h = absurd (h (λ e. absurd cc))
only_memory (Trailing place) h = absurd (h (λ e. absurd cc))
only_memory Memory h = refl

abbrev start : List ℕ → At
start bytes = record { rest = bytes; place = 0 }

-- a whole text that is refused for what follows a transaction
refused_behind : (read : Result (Transaction × At) TxFault) → Untrailed read → (place : ℕ) → whole_of (λ p. Trailing p) read ≡ Err (Trailing place)
    → (x : Transaction × At) × (read ≡ Ok x) × (length x.1.rest ≡ 0 → ⊥) × (place ≡ x.1.place)
refused_behind (Ok x) never place e =
    elim (cases_Bool (eqb (length x.1.rest) 0)) [
      | inl none ↦ let f = rw none at e in absurd cc
      | inr some ↦ let f = rw some at e in (x, refl, eqb-false (length x.1.rest) 0 some, cc)
    ]
refused_behind (Err d) never place e = absurd (never.never place cc)

trailing_at : (item : At → Result (Transaction × At) TxFault) (Is : Transaction → Type 0) → Reads item text_of Is → ((at : At) → Untrailed (item at)) → (bytes : List ℕ) → IsBytes bytes → (place : ℕ)
    → whole_of (λ p. Trailing p) (item (start bytes)) ≡ Err (Trailing place) → IsFollowed Is bytes place
trailing_at item Is laws never bytes fits place e =
    let r = refused_behind (item (start bytes)) (never (start bytes)) place e in
    let t = laws.takes (start bytes) r.0 fits r.1 in
    record { tx = r.0.0; rest = r.0.1.rest; whole = t.1; parts = t.0.parts; place_is = omega (arith, r.3, t.0.place_is); some = λ none. r.2 (ap (λ (l : List ℕ). length l) none) }

-- which is exactly where bytes follow
pub all_trailing : (item : At → Result (Transaction × At) TxFault) (Is : Transaction → Type 0) → Reads item text_of Is → ((at : At) → Untrailed (item at)) → (bytes : List ℕ) → IsBytes bytes → (result : Result Transaction TxFault)
    → YieldsAll Memory (λ t. t) result (whole_of (λ p. Trailing p) (item (start bytes))) → (place : ℕ) → result ≡ Err (Trailing place) → IsFollowed Is bytes place
all_trailing item Is laws never bytes fits (Ok t) given place e = absurd cc
all_trailing item Is laws never bytes fits (Err f) given place e =
    let is : f ≡ Trailing place = cc in
    trailing_at item Is laws never bytes fits place (given (λ memory. absurd cc) ∙ ap (λ (x : TxFault). Err x) is)

told : (result : Result Transaction TxFault) (read : Result Transaction TxFault) (place : ℕ) → read ≡ Err (Trailing place) → YieldsAll Memory (λ t. t) result read → MatchResult result (λ _. ⊥) (λ e. e ≢ Memory → e ≡ Trailing place)
told (Ok t) read place refused given = absurd cc
told (Err f) read place refused given = λ other. let is = given other in cc

pub all_followed : (item : At → Result (Transaction × At) TxFault) (Is : Transaction → Type 0) → Reads item text_of Is → (bytes : List ℕ) → IsBytes bytes → (result : Result Transaction TxFault)
    → YieldsAll Memory (λ t. t) result (whole_of (λ p. Trailing p) (item (start bytes))) → (place : ℕ) → IsFollowed Is bytes place → MatchResult result (λ _. ⊥) (λ e. e ≢ Memory → e ≡ Trailing place)
all_followed item Is laws bytes fits result given place followed =
    let a = laws.again followed.tx (start bytes) followed.rest followed.whole followed.parts in
    let t = laws.takes (start bytes) (followed.tx, a.next) fits a.reads in
    let some : length a.next.rest ≡ 0 → ⊥ = λ none. followed.some (sym a.left ∙ nil_from_length a.next.rest none) in
    let at_end : a.next.place ≡ place = omega (arith, followed.place_is, t.0.place_is) in
    let refused : whole_of (λ p. Trailing p) (item (start bytes)) ≡ Err (Trailing place) = bind_is _ _ _ _ a.reads (rw (ne_eqb (length a.next.rest) 0 some) (ap (λ (p : ℕ). Err (Trailing p)) at_end)) in
    told result (whole_of (λ p. Trailing p) (item (start bytes))) place refused given
