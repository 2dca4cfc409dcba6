-- What an entry of recipients is read as.
use Rattle.std.proofs.Common.{◌≡◌, ◌<◌, ◌==◌, ℕ, zero, suc, Bool, true, false, cond, ◌||◌, List, [], ◌∷◌, length, get_or, codes, nat_lt, ◌⊎◌, inl, inr, is_some, Option, Some, None, Result, Ok, Err, Contains, refl, sym, ap, subst, ◌∙◌, true≢false, arith}
use Rattle.std.proofs.lemmas.Bool.{eqb-true, ltb-true, ltb-false}
use Rattle.std.specs.Bool.{⊤}
use Rattle.fund_base.specs.Parsing.{◌>>=◌, fault_as}
use Rattle.json_fields.proofs.HexLaws as hex
use Rattle.json_fields.proofs.Members.{is_among-Contains, Contains-is_among, is_some-get_member}
use Rattle.json_fields.proofs.NumberLaws as numbers
use Rattle.json_fields.proofs.ObjectLaws as objects
use Rattle.json_fields.proofs.Tables.{there}
use Rattle.json_fields.specs.Fields.{names_of, is_among, object_at, member_at, number_at, hex_at}
use Rattle.json_fields.specs.Rules.{HasMembers, AreKnown, HasAll, wrong, first_some}
use Rattle.json_fields.specs.declared.fault.FieldFault.{FieldFault}
use Rattle.json_fields.specs.declared.fault.FieldFault.TheVariants.{Kind}
use Rattle.segwit_addr.specs.Reading.{decode_of}
use Rattle.segwit_addr.specs.declared.fault.AddrFault.{AddrFault}
use Rattle.serde_json.specs.Data.{Data, null, boolean, number, string, array, object, Members, unsigned}
use Rattle.serde_json.specs.Find.{get, get_member}
use Rattle.request_text.specs.Entries.{HasAmount, IsToAddress, IsToScript, IsNoScript, PaysTo, form_faults}
use Rattle.request_text.specs.RequestText.{index_of, amount_at, paid_at, to_address_at, to_script_at, entry_names, entry_required, recipient_behind}
use Rattle.request_text.specs.declared.fault.Refusal.TheVariants.{Field, Address, Script}
use Rattle.request_text.specs.declared.request.Recipient.{Recipient}
use Rattle.request_text.proofs.Alone.{unknown_absent}

-- ---- names

-- where a known name has no member, the others are all that are known
narrowed : (x : List ℕ) (known rest : List (List ℕ)) (ms : Members) → ((name : List ℕ) → Contains known name → (x ≡ name) ⊎ Contains rest name) → get_member x ms ≡ None → AreKnown known ms → AreKnown rest ms
narrowed x known rest ms split none are name stands = by (split name (are name stands))
  where
    by : (x ≡ name) ⊎ Contains rest name → Contains rest name
    by (inr there) = there
    by (inl same) =
        let among = is_among-Contains (names_of ms) x (subst (λ n. Contains (names_of ms) n) (sym same) stands) in
        absurd (true≢false (sym (is_some-get_member x ms ∙ among) ∙ ap is_some none))

without_script : (ms : Members) → get_member (codes "script") ms ≡ None → AreKnown entry_names ms → AreKnown (codes "address" ∷ codes "amount" ∷ []) ms
without_script ms none are = narrowed (codes "script") entry_names (codes "address" ∷ codes "amount" ∷ []) ms (λ name h. at name h.0 h.1 h.2) none are
  where
    at : (name : List ℕ) (k : ℕ) → k < length entry_names → get_or entry_names k name ≡ name → (codes "script" ≡ name) ⊎ Contains (codes "address" ∷ codes "amount" ∷ []) name
    at name zero lt e = inr (zero, omega arith, e)
    at name (suc zero) lt e = inl e
    at name (suc (suc k)) lt e = inr (suc k, omega arith, e)

without_address : (ms : Members) → get_member (codes "address") ms ≡ None → AreKnown entry_names ms → AreKnown (codes "script" ∷ codes "amount" ∷ []) ms
without_address ms none are = narrowed (codes "address") entry_names (codes "script" ∷ codes "amount" ∷ []) ms (λ name h. at name h.0 h.1 h.2) none are
  where
    at : (name : List ℕ) (k : ℕ) → k < length entry_names → get_or entry_names k name ≡ name → (codes "address" ≡ name) ⊎ Contains (codes "script" ∷ codes "amount" ∷ []) name
    at name zero lt e = inl e
    at name (suc k) lt e = inr (k, omega arith, e)

with_script : (ms : Members) → AreKnown (codes "address" ∷ codes "amount" ∷ []) ms → AreKnown entry_names ms
with_script ms are name stands = let h = are name stands in at h.0 h.1 h.2
  where
    at : (k : ℕ) → k < length (codes "address" ∷ codes "amount" ∷ []) → get_or (codes "address" ∷ codes "amount" ∷ []) k name ≡ name → Contains entry_names name
    at zero lt e = (zero, omega arith, e)
    at (suc k) lt e = (suc (suc k), omega arith, e)

with_address : (ms : Members) → AreKnown (codes "script" ∷ codes "amount" ∷ []) ms → AreKnown entry_names ms
with_address ms are name stands = let h = are name stands in (suc h.0, (let lt = h.1 in omega arith), h.2)

-- an object of these names alone has no member of another
absent : (known : List (List ℕ)) (name : List ℕ) (d : Data) → HasMembers d (λ ms. AreKnown known ms) → is_among known name ≡ false → get name d ≡ None
absent known name d is other = unknown_absent (codes "recipients") known [] name d other (objects.only (codes "recipients") known [] d (is.0, is.1, (is.2, none)))
  where
    none : HasAll [] is.0
    none n c = let lt = c.1 in absurd (omega arith)

-- an object of an entry's names with an amount is one
whole : (d : Data) (amount : ℕ) → HasMembers d (λ ms. AreKnown entry_names ms) → HasAmount d amount → object_at (codes "recipients") entry_names entry_required d ≡ Ok tt
whole d amount is money = objects.only (codes "recipients") entry_names entry_required d (is.0, is.1, (is.2, has))
  where
    stands : Contains (names_of is.0) (codes "amount")
    stands =
        let found : get_member (codes "amount") is.0 ≡ Some (number (unsigned amount)) = ap (get (codes "amount")) (sym is.1) ∙ money.stands in
        Contains-is_among (names_of is.0) (codes "amount") (sym (is_some-get_member (codes "amount") is.0) ∙ ap is_some found)

    has : HasAll entry_required is.0
    has name c = at c.0 c.1 c.2
      where
        at : (k : ℕ) → k < length entry_required → get_or entry_required k name ≡ name → Contains (names_of is.0) name
        at zero lt e = subst (λ n. Contains (names_of is.0) n) e stands
        at (suc k) lt e = absurd (omega arith)

-- ---- amounts

amount_reads : (d : Data) (amount : ℕ) → HasAmount d amount → amount_at d ≡ Ok amount
unfolding member_at
amount_reads d amount is = rw (is.stands, numbers.only (codes "amount") 18_446_744_073_709_551_615 amount is.most) refl

amount_is : (d m : Data) → get (codes "amount") d ≡ Some m
    → ((amount : ℕ) × HasAmount d amount) ⊎ ((fault : FieldFault) × (amount_at d ≡ Err (Field fault)) × (wrong (number_at (codes "amount") 18_446_744_073_709_551_615) (get (codes "amount") d) ≡ Some fault))
unfolding member_at
amount_is d m is = by (number_at (codes "amount") 18_446_744_073_709_551_615 m) refl
  where
    by : (r : Result ℕ FieldFault) → number_at (codes "amount") 18_446_744_073_709_551_615 m ≡ r
        → ((amount : ℕ) × HasAmount d amount) ⊎ ((fault : FieldFault) × (amount_at d ≡ Err (Field fault)) × (wrong (number_at (codes "amount") 18_446_744_073_709_551_615) (get (codes "amount") d) ≡ Some fault))
    by (Ok n) reads =
        let law = numbers.found (codes "amount") 18_446_744_073_709_551_615 n m reads in
        inl (n, record { stands = is ∙ ap (λ (x : Data). Some x) law.0; most = law.1 })
    by (Err fault) reads = inr (fault, rw (is, reads) refl, rw (is, reads) refl)

-- ---- an entry of its kinds

pub address_reads : (before : List Recipient) (d : Data) (text : List ℕ) (amount : ℕ) → IsToAddress d text amount
    → recipient_behind before d ≡ (fault_as (Address (index_of (length before))) (decode_of text) >>= λ script. paid_at (index_of (length before)) script amount)
unfolding recipient_behind to_address_at
address_reads before d text amount is =
    let none : get (codes "script") d ≡ None = absent (codes "address" ∷ codes "amount" ∷ []) (codes "script") d is.members refl in
    let members = is.members in
    let object : object_at (codes "recipients") entry_names entry_required d ≡ Ok tt = whole d amount (members.0, members.1, with_script members.0 members.2) is.money in
    rw (is.address, none, object, amount_reads d amount is.money) refl

pub script_reads : (before : List Recipient) (d : Data) (script : List ℕ) (amount : ℕ) → IsToScript d script amount
    → recipient_behind before d ≡ cond (length script == 0 || nat_lt 10_000 (length script)) (Err (Script (index_of (length before)))) (paid_at (index_of (length before)) script amount)
unfolding recipient_behind to_script_at member_at
script_reads before d script amount is =
    let none : get (codes "address") d ≡ None = absent (codes "script" ∷ codes "amount" ∷ []) (codes "address") d is.members refl in
    let members = is.members in
    let object : object_at (codes "recipients") entry_names entry_required d ≡ Ok tt = whole d amount (members.0, members.1, with_address members.0 members.2) is.money in
    let spelled = is.spelled in
    rw (none, spelled.1, object, hex.only (codes "script") script spelled.0 spelled.2, amount_reads d amount is.money) refl

-- ---- which kind an entry is of

pub data IsOf (before : List Recipient) (d : Data) : Type 0 where
  to_address : (text : List ℕ) (amount : ℕ) → IsToAddress d text amount → IsOf before d
  to_script : (script : List ℕ) (amount : ℕ) → IsToScript d script amount → IsOf before d
  of_none : (fault : FieldFault) → recipient_behind before d ≡ Err (Field fault) → first_some (form_faults d) ≡ Some fault → IsOf before d

-- an object that is taken without a member of a name
only_names : (dropped : List ℕ) (rest : List (List ℕ)) (d : Data) → ((ms : Members) → get_member dropped ms ≡ None → AreKnown entry_names ms → AreKnown rest ms) → get dropped d ≡ None
    → object_at (codes "recipients") entry_names entry_required d ≡ Ok tt → HasMembers d (λ ms. AreKnown rest ms)
only_names dropped rest d narrow none reads =
    let is = objects.taken (codes "recipients") entry_names entry_required d reads in
    (is.0, is.1, narrow is.0 (ap (get dropped) (sym is.1) ∙ none) is.2.0)

-- an object that is taken has an amount
amount_there : (d : Data) → object_at (codes "recipients") entry_names entry_required d ≡ Ok tt → (m : Data) × (get (codes "amount") d ≡ Some m)
amount_there d reads = there (codes "recipients") entry_names entry_required (codes "amount") d reads (0, omega arith, refl)

address_kind : (before : List Recipient) (d a : Data) → get (codes "address") d ≡ Some a → get (codes "script") d ≡ None → object_at (codes "recipients") entry_names entry_required d ≡ Ok tt → IsOf before d
unfolding recipient_behind to_address_at
address_kind before d (string text) here none reads = let m = amount_there d reads in by (amount_is d m.0 m.1)
  where
    by : ((amount : ℕ) × HasAmount d amount) ⊎ ((fault : FieldFault) × (amount_at d ≡ Err (Field fault)) × (wrong (number_at (codes "amount") 18_446_744_073_709_551_615) (get (codes "amount") d) ≡ Some fault)) → IsOf before d
    by (inl money) = to_address text money.0 (record { members = only_names (codes "script") (codes "address" ∷ codes "amount" ∷ []) d without_script none reads; address = here; money = money.1 })
    by (inr bad) = of_none bad.0 (rw (here, none, reads, bad.1) refl) (rw (here, none, reads, bad.2) refl)
address_kind before d null here none reads = of_none (Kind (codes "address")) (rw (here, none, reads) refl) (rw (here, none, reads) refl)
address_kind before d (boolean b) here none reads = of_none (Kind (codes "address")) (rw (here, none, reads) refl) (rw (here, none, reads) refl)
address_kind before d (number n) here none reads = of_none (Kind (codes "address")) (rw (here, none, reads) refl) (rw (here, none, reads) refl)
address_kind before d (array ds) here none reads = of_none (Kind (codes "address")) (rw (here, none, reads) refl) (rw (here, none, reads) refl)
address_kind before d (object ms) here none reads = of_none (Kind (codes "address")) (rw (here, none, reads) refl) (rw (here, none, reads) refl)

script_kind : (before : List Recipient) (d s : Data) → get (codes "script") d ≡ Some s → get (codes "address") d ≡ None → object_at (codes "recipients") entry_names entry_required d ≡ Ok tt → IsOf before d
unfolding recipient_behind to_script_at member_at
script_kind before d s here none reads = let m = amount_there d reads in by (hex_at (codes "script") s) refl (amount_is d m.0 m.1)
  where
    by : (r : Result (List ℕ) FieldFault) → hex_at (codes "script") s ≡ r
        → ((amount : ℕ) × HasAmount d amount) ⊎ ((fault : FieldFault) × (amount_at d ≡ Err (Field fault)) × (wrong (number_at (codes "amount") 18_446_744_073_709_551_615) (get (codes "amount") d) ≡ Some fault)) → IsOf before d
    by (Err fault) spelled money = of_none fault (rw (none, here, reads, spelled) refl) (rw (none, here, reads, spelled) refl)
    by (Ok script) spelled (inl money) =
        to_script script money.0 (record { members = only_names (codes "address") (codes "script" ∷ codes "amount" ∷ []) d without_address none reads; spelled = (s, here, hex.found (codes "script") script s spelled); money = money.1 })
    by (Ok script) spelled (inr bad) = of_none bad.0 (rw (none, here, reads, spelled, bad.1) refl) (rw (none, here, reads, spelled, bad.2) refl)

pub kind_of : (before : List Recipient) (d : Data) → IsOf before d
unfolding recipient_behind
kind_of before d = by (get (codes "address") d) refl (get (codes "script") d) refl (object_at (codes "recipients") entry_names entry_required d) refl
  where
    by : (a : Option Data) → get (codes "address") d ≡ a → (s : Option Data) → get (codes "script") d ≡ s → (o : Result ⊤ FieldFault) → object_at (codes "recipients") entry_names entry_required d ≡ o → IsOf before d
    by None no_address None no_script o reads = of_none (Kind (codes "recipients")) (rw (no_address, no_script) refl) (rw (no_address, no_script) refl)
    by (Some a) address (Some s) script o reads = of_none (Kind (codes "recipients")) (rw (address, script) refl) (rw (address, script) refl)
    by (Some a) address None script (Err fault) reads = of_none fault (rw (address, script, reads) refl) (rw (address, script, reads) refl)
    by (Some a) address None script (Ok u) reads = address_kind before d a address script reads
    by None address (Some s) script (Err fault) reads = of_none fault (rw (address, script, reads) refl) (rw (address, script, reads) refl)
    by None address (Some s) script (Ok u) reads = script_kind before d s script address reads

-- nothing is wrong with the form of an entry of its kinds
pub address_form : (d : Data) (text : List ℕ) (amount : ℕ) → IsToAddress d text amount → first_some (form_faults d) ≡ None
address_form d text amount is =
    let none : get (codes "script") d ≡ None = absent (codes "address" ∷ codes "amount" ∷ []) (codes "script") d is.members refl in
    let members = is.members in
    let object : object_at (codes "recipients") entry_names entry_required d ≡ Ok tt = whole d amount (members.0, members.1, with_script members.0 members.2) is.money in
    rw (is.address, none, object, is.money.stands, numbers.only (codes "amount") 18_446_744_073_709_551_615 amount is.money.most) refl

pub script_form : (d : Data) (script : List ℕ) (amount : ℕ) → IsToScript d script amount → first_some (form_faults d) ≡ None
script_form d script amount is =
    let none : get (codes "address") d ≡ None = absent (codes "script" ∷ codes "amount" ∷ []) (codes "address") d is.members refl in
    let members = is.members in
    let object : object_at (codes "recipients") entry_names entry_required d ≡ Ok tt = whole d amount (members.0, members.1, with_address members.0 members.2) is.money in
    let spelled = is.spelled in
    rw (none, spelled.1, object, hex.only (codes "script") script spelled.0 spelled.2, is.money.stands, numbers.only (codes "amount") 18_446_744_073_709_551_615 amount is.money.most) refl

-- ---- what becomes of it

no_script : (script : List ℕ) → (length script == 0 || nat_lt 10_000 (length script)) ≡ true → IsNoScript script
no_script script e = by (length script == 0) refl e
  where
    by : (b : Bool) → (length script == 0) ≡ b → (b || nat_lt 10_000 (length script)) ≡ true → IsNoScript script
    by true empty test = inl (eqb-true (length script) 0 empty)
    by false some test = inr (ltb-true 10_000 (length script) test)

a_script : (script : List ℕ) → (length script == 0 || nat_lt 10_000 (length script)) ≡ false → ¬ IsNoScript script
a_script script e (inl empty) = true≢false (sym (rw empty refl) ∙ e)
a_script script e (inr long) = by (length script == 0) (nat_lt 10_000 (length script)) refl e
  where
    by : (a b : Bool) → nat_lt 10_000 (length script) ≡ b → (a || b) ≡ false → ⊥
    by true b is test = true≢false test
    by false true is test = true≢false test
    by false false is test = let le = ltb-false 10_000 (length script) is in absurd (omega arith)

pub data Outcome (before : List Recipient) (d : Data) : Type 0 where
  formless : (fault : FieldFault) → recipient_behind before d ≡ Err (Field fault) → Outcome before d
  bad_address : (text : List ℕ) (amount : ℕ) (fault : AddrFault) → IsToAddress d text amount → decode_of text ≡ Err fault → recipient_behind before d ≡ Err (Address (index_of (length before)) fault) → Outcome before d
  bad_script : (script : List ℕ) (amount : ℕ) → IsToScript d script amount → IsNoScript script → recipient_behind before d ≡ Err (Script (index_of (length before))) → Outcome before d
  pays : (script : List ℕ) (amount : ℕ) → PaysTo d script amount → recipient_behind before d ≡ paid_at (index_of (length before)) script amount → Outcome before d

pub outcome : (before : List Recipient) (d : Data) → Outcome before d
outcome before d = by (kind_of before d)
  where
    decoded : (text : List ℕ) (amount : ℕ) → IsToAddress d text amount → (r : Result (List ℕ) AddrFault) → decode_of text ≡ r
        → recipient_behind before d ≡ (fault_as (Address (index_of (length before))) r >>= λ script. paid_at (index_of (length before)) script amount) → Outcome before d
    decoded text amount is (Ok script) e reads = pays script amount (inl (text, is, e)) reads
    decoded text amount is (Err fault) e reads = bad_address text amount fault is e reads

    spelled : (script : List ℕ) (amount : ℕ) → IsToScript d script amount → (b : Bool) → (length script == 0 || nat_lt 10_000 (length script)) ≡ b
        → recipient_behind before d ≡ cond b (Err (Script (index_of (length before)))) (paid_at (index_of (length before)) script amount) → Outcome before d
    spelled script amount is true e reads = bad_script script amount is (no_script script e) reads
    spelled script amount is false e reads = pays script amount (inr (is, a_script script e)) reads

    by : IsOf before d → Outcome before d
    by (to_address text amount is) = decoded text amount is (decode_of text) refl (address_reads before d text amount is)
    by (to_script script amount is) = spelled script amount is (length script == 0 || nat_lt 10_000 (length script)) refl (script_reads before d script amount is)
    by (of_none fault reads table) = formless fault reads

-- an entry that pays is judged by its amount
pub pays_reads : (before : List Recipient) (d : Data) (script : List ℕ) (amount : ℕ) → PaysTo d script amount → recipient_behind before d ≡ paid_at (index_of (length before)) script amount
pays_reads before d script amount (inl is) = address_reads before d is.0 amount is.1 ∙ ap (λ r. fault_as (Address (index_of (length before))) r >>= λ s. paid_at (index_of (length before)) s amount) is.2
pays_reads before d script amount (inr is) = by (length script == 0 || nat_lt 10_000 (length script)) refl
  where
    by : (b : Bool) → (length script == 0 || nat_lt 10_000 (length script)) ≡ b → recipient_behind before d ≡ paid_at (index_of (length before)) script amount
    by true e = absurd (is.1 (no_script script e))
    by false e = script_reads before d script amount is.0 ∙ ap (λ b. cond b (Err (Script (index_of (length before)))) (paid_at (index_of (length before)) script amount)) e

pub address_refused : (before : List Recipient) (d : Data) (text : List ℕ) (amount : ℕ) (fault : AddrFault) → IsToAddress d text amount → decode_of text ≡ Err fault → recipient_behind before d ≡ Err (Address (index_of (length before)) fault)
address_refused before d text amount fault is e = address_reads before d text amount is ∙ ap (λ r. fault_as (Address (index_of (length before))) r >>= λ s. paid_at (index_of (length before)) s amount) e

pub script_refused : (before : List Recipient) (d : Data) (script : List ℕ) (amount : ℕ) → IsToScript d script amount → IsNoScript script → recipient_behind before d ≡ Err (Script (index_of (length before)))
script_refused before d script amount is bad = by (length script == 0 || nat_lt 10_000 (length script)) refl
  where
    by : (b : Bool) → (length script == 0 || nat_lt 10_000 (length script)) ≡ b → recipient_behind before d ≡ Err (Script (index_of (length before)))
    by true e = script_reads before d script amount is ∙ ap (λ b. cond b (Err (Script (index_of (length before)))) (paid_at (index_of (length before)) script amount)) e
    by false e = absurd (a_script script e bad)
