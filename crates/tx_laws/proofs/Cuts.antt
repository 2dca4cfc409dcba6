-- Fields of so many bytes, and numbers in CompactSize: when they are read, in any format's faults.
use Rattle.std.proofs.Common.{◌≡◌, ℕ, Bool, true, false, cond, eqb, ltb, List, length, Result, Ok, Err, refl, sym, ap, ◌∙◌, inl, inr}
use Rattle.std.specs.Prelude.{◌⊎◌}
use Rattle.std.proofs.lemmas.Bool.{ltb-true, lt-ltb, eqb-false, ne_eqb}
use Rattle.std.proofs.lemmas.List.{nil_from_length}
use Rattle.fund_base.specs.declared.cursor.CutFault.{CutFault}
use Rattle.fund_base.specs.declared.cursor.CutFault.TheVariants as cuts
use Rattle.fund_base.specs.Cursor.{At, IsBytes, compact_at}
use Rattle.fund_base.specs.Parsing.{fault_as}
use Rattle.fund_base.proofs.Spellings.{truncated_where, long_where, no_others}
use Rattle.tx_laws.specs.Broken.{IsShort, IsNoSize, IsMore}

-- ---- a field of so many bytes

abbrev pub truncated : {E : Type 0} → (CutFault → E) → ℕ → E
truncated tell place = tell (cuts.Truncated place)

abbrev pub long : {E : Type 0} → (CutFault → E) → ℕ → E
long tell place = tell (cuts.LongCompact place)

cond_told : {X E : Type 0} (tell : CutFault → E) (b : Bool) (place : ℕ) (x : X) (fault : E) → fault_as tell (cond b (Err (cuts.Truncated place)) (Ok x)) ≡ Err fault → (b ≡ true) × (fault ≡ truncated tell place)
cond_told tell true place x fault e = (refl, cc)
cond_told tell false place x fault e = absurd cc

cond_given : {X E : Type 0} (tell : CutFault → E) (b : Bool) (place : ℕ) (x : X) (fault : E) → b ≡ true → fault ≡ truncated tell place → fault_as tell (cond b (Err (cuts.Truncated place)) (Ok x)) ≡ Err fault
cond_given {E = E} tell true place x fault set is = ap (λ (f : E). Err f) (sym is)
cond_given tell false place x fault set is = absurd cc

pub short_told : {X E : Type 0} (tell : CutFault → E) (size : ℕ) (at : At) (x : X) (fault : E) → fault_as tell (cond (ltb (length at.rest) size) (Err (cuts.Truncated at.place)) (Ok x)) ≡ Err fault → IsShort (truncated tell) size at.place at.rest fault
short_told tell size at x fault e =
    let t = cond_told tell (ltb (length at.rest) size) at.place x fault e in
    record { short = ltb-true (length at.rest) size t.0; is = t.1 }

pub short_given : {X E : Type 0} (tell : CutFault → E) (size : ℕ) (at : At) (x : X) (fault : E) → IsShort (truncated tell) size at.place at.rest fault → fault_as tell (cond (ltb (length at.rest) size) (Err (cuts.Truncated at.place)) (Ok x)) ≡ Err fault
short_given tell size at x fault s = cond_given tell (ltb (length at.rest) size) at.place x fault (lt-ltb (length at.rest) size s.short) s.is

-- ---- a number in CompactSize

pub err_told : {X D E : Type 0} (tell : D → E) (r : Result X D) (fault : E) → fault_as tell r ≡ Err fault → (d : D) × (r ≡ Err d) × (fault ≡ tell d)
err_told tell (Ok x) fault e = absurd cc
err_told tell (Err d) fault e = (d, refl, cc)

pub err_given : {X D E : Type 0} (tell : D → E) (r : Result X D) (d : D) (fault : E) → r ≡ Err d → fault ≡ tell d → fault_as tell r ≡ Err fault
err_given {X = X} {D = D} {E = E} tell r d fault is told = ap (λ (s : Result X D). fault_as tell s) is ∙ ap (λ (f : E). Err f) (sym told)

size_by : {E : Type 0} (tell : CutFault → E) (at : At) (d : CutFault) (fault : E) → IsBytes at.rest → compact_at at ≡ Err d → fault ≡ tell d → (d ≡ cuts.Truncated at.place) ⊎ (d ≡ cuts.LongCompact at.place) → IsNoSize (truncated tell) (long tell) at.place at.rest fault
size_by tell at d fault fits e told (inl is) = inl (record { cut = (truncated_where at fits).0 (e ∙ ap (λ (f : CutFault). Err f) is); is = told ∙ ap tell is })
size_by tell at d fault fits e told (inr is) = inr (record { spelled = (long_where at fits).0 (e ∙ ap (λ (f : CutFault). Err f) is); is = told ∙ ap tell is })

pub size_told : {E : Type 0} (tell : CutFault → E) (at : At) (fault : E) → IsBytes at.rest → fault_as tell (compact_at at) ≡ Err fault → IsNoSize (truncated tell) (long tell) at.place at.rest fault
size_told tell at fault fits e =
    let t = err_told tell (compact_at at) fault e in
    size_by tell at t.0 fault fits t.1 t.2 (no_others at t.0 fits t.1)

pub size_given : {E : Type 0} (tell : CutFault → E) (at : At) (fault : E) → IsBytes at.rest → IsNoSize (truncated tell) (long tell) at.place at.rest fault → fault_as tell (compact_at at) ≡ Err fault
size_given tell at fault fits (inl c) = err_given tell (compact_at at) (cuts.Truncated at.place) fault ((truncated_where at fits).1 c.cut) c.is
size_given tell at fault fits (inr l) = err_given tell (compact_at at) (cuts.LongCompact at.place) fault ((long_where at fits).1 l.spelled) l.is

-- ---- the end

abbrev pub end_in : {X E : Type 0} → (ℕ → E) → X → At → Result X E
end_in trailing x at = cond (eqb (length at.rest) 0) (Ok x) (Err (trailing at.place))

pub guard_told : {X E : Type 0} (b : Bool) (none : E) (x : X) (fault : E) → cond b (Err none) (Ok x) ≡ Err fault → (b ≡ true) × (fault ≡ none)
guard_told true none x fault e = (refl, cc)
guard_told false none x fault e = absurd cc

pub met_told : {X E : Type 0} (b : Bool) (none : E) (x : X) (fault : E) → cond b (Ok x) (Err none) ≡ Err fault → (b ≡ false) × (fault ≡ none)
met_told true none x fault e = absurd cc
met_told false none x fault e = (refl, cc)

pub end_told : {X E : Type 0} (trailing : ℕ → E) (x : X) (at : At) (fault : E) → end_in trailing x at ≡ Err fault → IsMore trailing at.place at.rest fault
end_told trailing x at fault e =
    let g = met_told (eqb (length at.rest) 0) (trailing at.place) x fault e in
    record { some = λ none. eqb-false (length at.rest) 0 g.0 (ap (λ (l : List ℕ). length l) none); is = g.1 }

pub end_given : {X E : Type 0} (trailing : ℕ → E) (x : X) (at : At) (fault : E) → IsMore trailing at.place at.rest fault → end_in trailing x at ≡ Err fault
end_given {E = E} trailing x at fault m =
    let some : length at.rest ≡ 0 → ⊥ = λ none. m.some (nil_from_length at.rest none) in
    rw (ne_eqb (length at.rest) 0 some) (ap (λ (f : E). Err f) (sym m.is))
