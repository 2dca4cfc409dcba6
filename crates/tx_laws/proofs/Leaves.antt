-- What each field of a transaction must be, and how it is read.
use Rattle.std.proofs.Common.{◌≡◌, ℕ, ◌+◌, ◌^◌, ◌<◌, ◌≤◌, true, cond, eqb, ltb, List, [], ◌∷◌, ◌++◌, length, Result, Ok, Err, refl, sym, ap, subst, ◌∙◌, arith, inl, inr}
use Rattle.std.specs.Prelude.{◌⊎◌, slice_index, min}
use Rattle.std.specs.Int.{w64, to_le_bytes}
use Rattle.std.proofs.lemmas.Bool.{cases_lt, ltb-true, ltb-false, lt-ltb, le-ltb, eqb-true, eqb-false, ne_eqb}
use Rattle.std.proofs.lemmas.List.Elements.{All-cons, All-head, All-nil}
use Rattle.fund_base.specs.CompactSize.{compact}
use Rattle.fund_base.specs.Cursor.{At, IsBytes, take_at, number_at, compact_at}
use Rattle.fund_base.specs.Parsing.{◌>>=◌}
use Rattle.fund_base.proofs.Laws.{bind_ok, bind_is, guard_ok, guard_met, ok_is, Takes, Reads, reads_told}
use Rattle.fund_base.proofs.LawsOfNumbers.{count_reads, number64_reads, compact1}
use Rattle.tx_codec.specs.declared.fault.TxFault.{TxFault}
use Rattle.tx_codec.specs.declared.fault.TxFault.TheVariants.{Truncated, ValueRange, BadFlag}
use Rattle.tx_codec.specs.Fault.{cut_fault}
use Rattle.tx_codec.specs.Reading.{cut}
use Rattle.tx_codec.proofs.PartLaws.{bytes}
use Rattle.tx_laws.specs.Broken.{IsShort}
use Rattle.tx_laws.specs.Fields.{IsNoCount, IsOtherFlag, IsOutOfRange}
use Rattle.tx_laws.proofs.Cuts.{guard_told, met_told, short_told, short_given, size_told, size_given}
use Rattle.tx_laws.proofs.Judged.{bind_err, bind_fails}

pub sizes : Reads (λ at. cut (compact_at at)) compact (λ n. n < 2 ^ 64)
sizes = reads_told cut_fault compact_at compact (λ n. n < 2 ^ 64) count_reads

-- ---- a number of items, of which there are some

abbrev pub count_in : TxFault → At → Result (ℕ × At) TxFault
count_in none at = cut (compact_at at) >>= λ n. cond (eqb n.0 0) (Err none) (Ok n)

abbrev pub IsCount : ℕ → Type 0
IsCount n = (0 < n) × (n < 2 ^ 64)

pub count_told : (none : TxFault) (at : At) (fault : TxFault) → IsBytes at.rest → count_in none at ≡ Err fault → IsNoCount none at.place at.rest fault
count_told none at fault fits e = elim (bind_err (cut (compact_at at)) (λ n. cond (eqb n.0 0) (Err none) (Ok n)) fault e) [
  | inl now ↦ inl (size_told cut_fault at fault fits now)
  | inr h ↦
      let g = guard_told (eqb h.0.0 0) none h.0 fault h.2 in
      let t = sizes.takes at h.0 fits h.1 in
      let zero_is : h.0.0 ≡ 0 = eqb-true h.0.0 0 g.0 in
      let spelled : compact h.0.0 ≡ 0 ∷ [] = ap compact zero_is ∙ compact1 0 (omega arith) in
      inr (record { rest = h.0.1.rest; parts = t.0.parts ∙ ap (λ (l : List ℕ). l ++ h.0.1.rest) spelled; is = g.1 })
]

pub count_given : (none : TxFault) (at : At) (fault : TxFault) → IsBytes at.rest → IsNoCount none at.place at.rest fault → count_in none at ≡ Err fault
count_given none at fault fits (inl s) = bind_fails (cut (compact_at at)) (λ n. cond (eqb n.0 0) (Err none) (Ok n)) fault (size_given cut_fault at fault fits s)
count_given none at fault fits (inr z) =
    let spelled : at.rest ≡ compact 0 ++ z.rest = z.parts ∙ ap (λ (l : List ℕ). l ++ z.rest) (sym (compact1 0 (omega arith))) in
    let a = sizes.again 0 at z.rest (omega arith) spelled in
    bind_is (cut (compact_at at)) (λ n. cond (eqb n.0 0) (Err none) (Ok n)) (0, a.next) (Err fault) a.reads (ap (λ (f : TxFault). Err f) (sym z.is))

pub above : (n : ℕ) → (n ≡ 0 → ⊥) → 0 < n
above n some = elim (cases_lt 0 n) [
  | inl lt ↦ lt
  | inr le ↦ absurd (some (omega arith))
]

pub counts : (none : TxFault) → Reads (count_in none) compact IsCount
counts none = record {
  takes = λ at x fits e.
      let a = bind_ok _ _ x e in
      let g = guard_ok _ _ _ _ a.2 in
      let t = sizes.takes at a.0 fits a.1 in
      subst (λ (y : ℕ × At). Takes at (compact y.0) y.1 × IsCount y.0) (ok_is a.0 x (Ok a.0) refl g.1) (t.0, (above a.0.0 (eqb-false a.0.0 0 g.0), t.1));
  again = λ n at rest fits is.
      let a = sizes.again n at rest fits.1 is in
      let some = ne_eqb n 0 (λ none-is. absurd (omega (arith, fits.0, none-is))) in
      record { next = a.next; reads = bind_is _ _ _ _ a.reads (rw some refl); left = a.left };
}

-- ---- a value

number64 : Reads (λ at. cut (number_at w64 at)) (to_le_bytes w64) (λ n. n < 2 ^ 64)
number64 = reads_told cut_fault (number_at w64) (to_le_bytes w64) (λ n. n < 2 ^ 64) number64_reads

abbrev pub value_in : ℕ → ℕ → At → Result (ℕ × At) TxFault
value_in index sum at = cut (number_at w64 at) >>= λ v. cond (ltb 2_100_000_000_000_000 (sum + v.0)) (Err (ValueRange (min index 4_294_967_295))) (Ok v)

pub value_told : (index sum : ℕ) (at : At) (fault : TxFault) → IsBytes at.rest → value_in index sum at ≡ Err fault → IsShort Truncated 8 at.place at.rest fault ⊎ IsOutOfRange index sum at.rest fault
value_told index sum at fault fits e = elim (bind_err (cut (number_at w64 at)) (λ v. cond (ltb 2_100_000_000_000_000 (sum + v.0)) (Err (ValueRange (min index 4_294_967_295))) (Ok v)) fault e) [
  | inl now ↦ inl (short_told cut_fault 8 at _ fault now)
  | inr h ↦
      let g = guard_told (ltb 2_100_000_000_000_000 (sum + h.0.0)) (ValueRange (min index 4_294_967_295)) h.0 fault h.2 in
      let t = number64.takes at h.0 fits h.1 in
      inr (record { value = h.0.0; rest = h.0.1.rest; parts = t.0.parts; small = t.1; above = ltb-true 2_100_000_000_000_000 (sum + h.0.0) g.0; is = g.1 })
]

pub value_given : (index sum : ℕ) (at : At) (fault : TxFault) → IsShort Truncated 8 at.place at.rest fault ⊎ IsOutOfRange index sum at.rest fault → value_in index sum at ≡ Err fault
value_given index sum at fault (inl s) = bind_fails (cut (number_at w64 at)) (λ v. cond (ltb 2_100_000_000_000_000 (sum + v.0)) (Err (ValueRange (min index 4_294_967_295))) (Ok v)) fault (short_given cut_fault 8 at _ fault s)
value_given index sum at fault (inr r) =
    let a = number64.again r.value at r.rest r.small r.parts in
    let over = lt-ltb 2_100_000_000_000_000 (sum + r.value) r.above in
    bind_is (cut (number_at w64 at)) (λ v. cond (ltb 2_100_000_000_000_000 (sum + v.0)) (Err (ValueRange (min index 4_294_967_295))) (Ok v)) (r.value, a.next) (Err fault) a.reads (rw over (ap (λ (f : TxFault). Err f) (sym r.is)))

pub values : (index sum : ℕ) → Reads (value_in index sum) (to_le_bytes w64) (λ v. sum + v ≤ 2_100_000_000_000_000)
values index sum = record {
  takes = λ at x fits e.
      let a = bind_ok _ _ x e in
      let g = guard_ok _ _ _ _ a.2 in
      let t = number64.takes at a.0 fits a.1 in
      subst (λ (y : ℕ × At). Takes at (to_le_bytes w64 y.0) y.1 × (sum + y.0 ≤ 2_100_000_000_000_000)) (ok_is a.0 x (Ok a.0) refl g.1) (t.0, ltb-false _ _ g.0);
  again = λ v at rest fits is.
      let a = number64.again v at rest (omega arith) is in
      let within = le-ltb 2_100_000_000_000_000 (sum + v) fits in
      record { next = a.next; reads = bind_is _ _ _ _ a.reads (rw within refl); left = a.left };
}

-- ---- the flag

abbrev pub flag_in : At → Result (List ℕ × At) TxFault
flag_in at = cut (take_at 1 at) >>= λ b. cond (eqb (slice_index b.0 0) 1) (Ok b) (Err BadFlag)

-- a byte by itself
lone : (bytes : List ℕ) → length bytes ≡ 1 → bytes ≡ slice_index bytes 0 ∷ []
lone [] len = absurd (omega arith)
lone (b ∷ []) len = refl
lone (b ∷ c ∷ bytes) len = absurd (omega arith)

first_fits : (whole : List ℕ) (byte : ℕ) (rest : List ℕ) → whole ≡ byte ∷ rest → IsBytes whole → IsBytes (byte ∷ [])
first_fits whole byte rest is fits = All-cons (λ c. c < 256) byte [] (All-head (λ c. c < 256) byte rest (subst (λ (l : List ℕ). IsBytes l) is fits)) (All-nil (λ c. c < 256))

pub flag_told : (at : At) (fault : TxFault) → IsBytes at.rest → flag_in at ≡ Err fault → IsShort Truncated 1 at.place at.rest fault ⊎ IsOtherFlag at.rest fault
flag_told at fault fits e = elim (bind_err (cut (take_at 1 at)) (λ b. cond (eqb (slice_index b.0 0) 1) (Ok b) (Err BadFlag)) fault e) [
  | inl now ↦ inl (short_told cut_fault 1 at _ fault now)
  | inr h ↦
      let g = met_told (eqb (slice_index h.0.0 0) 1) BadFlag h.0 fault h.2 in
      let t = (bytes 1).takes at h.0 fits h.1 in
      inr (record { byte = slice_index h.0.0 0; rest = h.0.1.rest; parts = t.0.parts ∙ ap (λ (l : List ℕ). l ++ h.0.1.rest) (lone h.0.0 t.1.0); other = eqb-false (slice_index h.0.0 0) 1 g.0; is = g.1 })
]

pub flag_given : (at : At) (fault : TxFault) → IsBytes at.rest → IsShort Truncated 1 at.place at.rest fault ⊎ IsOtherFlag at.rest fault → flag_in at ≡ Err fault
flag_given at fault fits (inl s) = bind_fails (cut (take_at 1 at)) (λ b. cond (eqb (slice_index b.0 0) 1) (Ok b) (Err BadFlag)) fault (short_given cut_fault 1 at _ fault s)
flag_given at fault fits (inr f) =
    let a = (bytes 1).again (f.byte ∷ []) at f.rest (refl, first_fits at.rest f.byte f.rest f.parts fits) f.parts in
    bind_is (cut (take_at 1 at)) (λ b. cond (eqb (slice_index b.0 0) 1) (Ok b) (Err BadFlag)) (f.byte ∷ [], a.next) (Err fault) a.reads (rw (ne_eqb f.byte 1 f.other) (ap (λ (x : TxFault). Err x) (sym f.is)))

pub flags : Reads flag_in (λ b. b) (λ b. b ≡ 1 ∷ [])
flags = record {
  takes = λ at x fits e.
      let a = bind_ok _ _ x e in
      let g = guard_met _ _ _ _ a.2 in
      let t = (bytes 1).takes at a.0 fits a.1 in
      let is : a.0.0 ≡ 1 ∷ [] = lone a.0.0 t.1.0 ∙ ap (λ (b : ℕ). b ∷ []) (eqb-true (slice_index a.0.0 0) 1 g.0) in
      subst (λ (y : List ℕ × At). Takes at y.0 y.1 × (y.0 ≡ 1 ∷ [])) (ok_is a.0 x (Ok a.0) refl g.1) (t.0, is);
  again = λ b at rest fits is.
      let small : IsBytes b = subst (λ (l : List ℕ). IsBytes l) (sym fits) (All-cons (λ c. c < 256) 1 [] (omega arith) (All-nil (λ c. c < 256))) in
      let a = (bytes 1).again b at rest (ap (λ (l : List ℕ). length l) fits, small) is in
      let set : eqb (slice_index b 0) 1 ≡ true = ap (λ (l : List ℕ). eqb (slice_index l 0) 1) fits in
      record { next = a.next; reads = bind_is _ _ _ _ a.reads (rw set refl); left = a.left };
}
