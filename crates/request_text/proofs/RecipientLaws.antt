-- When an entry of recipients is taken, and which fault is reported of one that isn't.
use Rattle.std.proofs.Common.{◌≡◌, ◌<◌, ◌≤◌, ℕ, Bool, true, false, List, [], length, nat_lt, ◌⊎◌, inl, inr, Some, Result, Ok, Err, refl, sym, ap, subst, ◌∙◌, arith}
use Rattle.std.specs.Prelude.{◌↔◌}
use Rattle.std.proofs.lemmas.Bool.{ltb-true, ltb-false}
use Rattle.fee_rates.specs.Output.{dust_of}
use Rattle.json_fields.specs.Rules.{first_some}
use Rattle.json_fields.specs.declared.fault.FieldFault.{FieldFault}
use Rattle.segwit_addr.specs.Reading.{decode_of}
use Rattle.segwit_addr.specs.declared.fault.AddrFault.{AddrFault}
use Rattle.serde_json.specs.Data.{Data}
use Rattle.request_text.specs.Entries.{IsToAddress, IsToScript, IsNoScript, PaysTo, form_faults}
use Rattle.request_text.specs.RequestText.{index_of, paid_at, recipient_behind}
use Rattle.request_text.specs.declared.fault.Refusal.{Refusal}
use Rattle.request_text.specs.declared.fault.Refusal.TheVariants.{Field, Address, Script, AmountRange, Dust, SumRange, NoRecipients}
use Rattle.request_text.specs.declared.request.Recipient.{Recipient}
use Rattle.request_text.proofs.EntryLaws.{IsOf, to_address, to_script, of_none, kind_of, address_form, script_form, Outcome, formless, bad_address, bad_script, pays, outcome, pays_reads, address_refused, script_refused}

-- ---- amounts

data Paid (i : ℕ) (script : List ℕ) (amount : ℕ) : Type 0 where
  above : 2_100_000_000_000_000 < amount → paid_at i script amount ≡ Err (AmountRange i) → Paid i script amount
  dusty : amount ≤ 2_100_000_000_000_000 → amount < dust_of script → paid_at i script amount ≡ Err (Dust i) → Paid i script amount
  fine : amount ≤ 2_100_000_000_000_000 → dust_of script ≤ amount → paid_at i script amount ≡ Ok (record { script = script; amount = amount }) → Paid i script amount

paid_of : (i : ℕ) (script : List ℕ) (amount : ℕ) → Paid i script amount
unfolding paid_at
paid_of i script amount = by (nat_lt 2_100_000_000_000_000 amount) refl (nat_lt amount (dust_of script)) refl
  where
    by : (a : Bool) → nat_lt 2_100_000_000_000_000 amount ≡ a → (b : Bool) → nat_lt amount (dust_of script) ≡ b → Paid i script amount
    by true range b dust = above (ltb-true 2_100_000_000_000_000 amount range) (rw range refl)
    by false range true dust = dusty (ltb-false 2_100_000_000_000_000 amount range) (ltb-true amount (dust_of script) dust) (rw (range, dust) refl)
    by false range false dust = fine (ltb-false 2_100_000_000_000_000 amount range) (ltb-false amount (dust_of script) dust) (rw (range, dust) refl)

paid_above : (i : ℕ) (script : List ℕ) (amount : ℕ) → 2_100_000_000_000_000 < amount → paid_at i script amount ≡ Err (AmountRange i)
paid_above i script amount lt = by (paid_of i script amount)
  where
    by : Paid i script amount → paid_at i script amount ≡ Err (AmountRange i)
    by (above h reads) = reads
    by (dusty h low reads) = absurd (omega arith)
    by (fine h low reads) = absurd (omega arith)

paid_dusty : (i : ℕ) (script : List ℕ) (amount : ℕ) → amount ≤ 2_100_000_000_000_000 → amount < dust_of script → paid_at i script amount ≡ Err (Dust i)
paid_dusty i script amount le lt = by (paid_of i script amount)
  where
    by : Paid i script amount → paid_at i script amount ≡ Err (Dust i)
    by (above h reads) = absurd (omega arith)
    by (dusty h low reads) = reads
    by (fine h low reads) = absurd (omega arith)

paid_fine : (i : ℕ) (script : List ℕ) (amount : ℕ) → amount ≤ 2_100_000_000_000_000 → dust_of script ≤ amount → paid_at i script amount ≡ Ok (record { script = script; amount = amount })
paid_fine i script amount le least = by (paid_of i script amount)
  where
    by : Paid i script amount → paid_at i script amount ≡ Ok (record { script = script; amount = amount })
    by (above h reads) = absurd (omega arith)
    by (dusty h low reads) = absurd (omega arith)
    by (fine h low reads) = reads

-- ---- each answer

abbrev Taken : Data → Recipient → Type 0
Taken d r = PaysTo d r.script r.amount × (dust_of r.script ≤ r.amount) × (r.amount ≤ 2_100_000_000_000_000)

taken_found : (before : List Recipient) (d : Data) (r : Recipient) → recipient_behind before d ≡ Ok r → Taken d r
taken_found before d r e = by (outcome before d)
  where
    judged : (script : List ℕ) (amount : ℕ) → PaysTo d script amount → paid_at (index_of (length before)) script amount ≡ Ok r → Paid (index_of (length before)) script amount → Taken d r
    judged script amount is reads (above h p) = absurd (cc (reads, p))
    judged script amount is reads (dusty h low p) = absurd (cc (reads, p))
    judged script amount is reads (fine h low p) = let same : record { script = script; amount = amount } ≡ r = cc (reads, p) in subst (Taken d) same (is, low, h)

    by : Outcome before d → Taken d r
    by (formless fault reads) = absurd (cc (reads, e))
    by (bad_address text amount fault is bad reads) = absurd (cc (reads, e))
    by (bad_script script amount is bad reads) = absurd (cc (reads, e))
    by (pays script amount is reads) = judged script amount is (sym reads ∙ e) (paid_of (index_of (length before)) script amount)

pub taken : (before : List Recipient) (d : Data) (r : Recipient) → (recipient_behind before d ≡ Ok r) ↔ Taken d r
taken before d r = (taken_found before d r, λ is. pays_reads before d r.script r.amount is.0 ∙ paid_fine _ r.script r.amount is.2 is.1)

abbrev BadAddress : List Recipient → Data → ℕ → AddrFault → Type 0
BadAddress before d told fault = (told ≡ index_of (length before)) × ((text : List ℕ) × (amount : ℕ) × IsToAddress d text amount × (decode_of text ≡ Err fault))

pub address : (before : List Recipient) (d : Data) (told : ℕ) (fault : AddrFault) → (recipient_behind before d ≡ Err (Address told fault)) ↔ BadAddress before d told fault
address before d told fault = (λ e. by e (outcome before d), λ is. address_refused before d is.1.0 is.1.1 fault is.1.2 is.1.3 ∙ ap (λ i. Err (Address i fault)) (sym is.0))
  where
    judged : (script : List ℕ) (amount : ℕ) → paid_at (index_of (length before)) script amount ≡ Err (Address told fault) → Paid (index_of (length before)) script amount → ⊥
    judged script amount reads (above h p) = cc (reads, p)
    judged script amount reads (dusty h low p) = cc (reads, p)
    judged script amount reads (fine h low p) = cc (reads, p)

    by : recipient_behind before d ≡ Err (Address told fault) → Outcome before d → BadAddress before d told fault
    by e (formless f reads) = absurd (cc (reads, e))
    by e (bad_address text amount f is bad reads) = let same : f ≡ fault = cc (reads, e) in (cc (reads, e), (text, amount, is, bad ∙ ap (λ x. Err x) same))
    by e (bad_script script amount is bad reads) = absurd (cc (reads, e))
    by e (pays script amount is reads) = absurd (judged script amount (sym reads ∙ e) (paid_of (index_of (length before)) script amount))

abbrev BadScript : List Recipient → Data → ℕ → Type 0
BadScript before d told = (told ≡ index_of (length before)) × ((script : List ℕ) × (amount : ℕ) × IsToScript d script amount × IsNoScript script)

pub script : (before : List Recipient) (d : Data) (told : ℕ) → (recipient_behind before d ≡ Err (Script told)) ↔ BadScript before d told
script before d told = (λ e. by e (outcome before d), λ is. script_refused before d is.1.0 is.1.1 is.1.2 is.1.3 ∙ ap (λ i. Err (Script i)) (sym is.0))
  where
    judged : (s : List ℕ) (amount : ℕ) → paid_at (index_of (length before)) s amount ≡ Err (Script told) → Paid (index_of (length before)) s amount → ⊥
    judged s amount reads (above h p) = cc (reads, p)
    judged s amount reads (dusty h low p) = cc (reads, p)
    judged s amount reads (fine h low p) = cc (reads, p)

    by : recipient_behind before d ≡ Err (Script told) → Outcome before d → BadScript before d told
    by e (formless f reads) = absurd (cc (reads, e))
    by e (bad_address text amount f is bad reads) = absurd (cc (reads, e))
    by e (bad_script s amount is bad reads) = (cc (reads, e), (s, amount, is, bad))
    by e (pays s amount is reads) = absurd (judged s amount (sym reads ∙ e) (paid_of (index_of (length before)) s amount))

abbrev TooMuch : List Recipient → Data → ℕ → Type 0
TooMuch before d told = (told ≡ index_of (length before)) × ((script : List ℕ) × (amount : ℕ) × PaysTo d script amount × (2_100_000_000_000_000 < amount))

pub range : (before : List Recipient) (d : Data) (told : ℕ) → (recipient_behind before d ≡ Err (AmountRange told)) ↔ TooMuch before d told
range before d told = (λ e. by e (outcome before d), λ is. pays_reads before d is.1.0 is.1.1 is.1.2 ∙ paid_above _ is.1.0 is.1.1 is.1.3 ∙ ap (λ i. Err (AmountRange i)) (sym is.0))
  where
    judged : (s : List ℕ) (amount : ℕ) → PaysTo d s amount → paid_at (index_of (length before)) s amount ≡ Err (AmountRange told) → Paid (index_of (length before)) s amount → TooMuch before d told
    judged s amount is reads (above h p) = (cc (reads, p), (s, amount, is, h))
    judged s amount is reads (dusty h low p) = absurd (cc (reads, p))
    judged s amount is reads (fine h low p) = absurd (cc (reads, p))

    by : recipient_behind before d ≡ Err (AmountRange told) → Outcome before d → TooMuch before d told
    by e (formless f reads) = absurd (cc (reads, e))
    by e (bad_address text amount f is bad reads) = absurd (cc (reads, e))
    by e (bad_script s amount is bad reads) = absurd (cc (reads, e))
    by e (pays s amount is reads) = judged s amount is (sym reads ∙ e) (paid_of (index_of (length before)) s amount)

abbrev IsDust : List Recipient → Data → ℕ → Type 0
IsDust before d told = (told ≡ index_of (length before)) × ((script : List ℕ) × (amount : ℕ) × PaysTo d script amount × (amount ≤ 2_100_000_000_000_000) × (amount < dust_of script))

pub dust : (before : List Recipient) (d : Data) (told : ℕ) → (recipient_behind before d ≡ Err (Dust told)) ↔ IsDust before d told
dust before d told = (λ e. by e (outcome before d), λ is. pays_reads before d is.1.0 is.1.1 is.1.2 ∙ paid_dusty _ is.1.0 is.1.1 is.1.3 is.1.4 ∙ ap (λ i. Err (Dust i)) (sym is.0))
  where
    judged : (s : List ℕ) (amount : ℕ) → PaysTo d s amount → paid_at (index_of (length before)) s amount ≡ Err (Dust told) → Paid (index_of (length before)) s amount → IsDust before d told
    judged s amount is reads (above h p) = absurd (cc (reads, p))
    judged s amount is reads (dusty h low p) = (cc (reads, p), (s, amount, is, h, low))
    judged s amount is reads (fine h low p) = absurd (cc (reads, p))

    by : recipient_behind before d ≡ Err (Dust told) → Outcome before d → IsDust before d told
    by e (formless f reads) = absurd (cc (reads, e))
    by e (bad_address text amount f is bad reads) = absurd (cc (reads, e))
    by e (bad_script s amount is bad reads) = absurd (cc (reads, e))
    by e (pays s amount is reads) = judged s amount is (sym reads ∙ e) (paid_of (index_of (length before)) s amount)

-- ---- the form

never_form : (i : ℕ) (s : List ℕ) (amount : ℕ) (fault : FieldFault) → paid_at i s amount ≡ Err (Field fault) → ⊥
never_form i s amount fault e = by (paid_of i s amount)
  where
    by : Paid i s amount → ⊥
    by (above h p) = cc (e, p)
    by (dusty h low p) = cc (e, p)
    by (fine h low p) = cc (e, p)

not_to_address : (before : List Recipient) (d : Data) (fault : FieldFault) → recipient_behind before d ≡ Err (Field fault) → (text : List ℕ) (amount : ℕ) → ¬ IsToAddress d text amount
not_to_address before d fault e text amount is = by (decode_of text) refl
  where
    by : (r : Result (List ℕ) AddrFault) → decode_of text ≡ r → ⊥
    by (Ok s) reads = never_form _ s amount fault (sym (pays_reads before d s amount (inl (text, is, reads))) ∙ e)
    by (Err f) reads = let told = address_refused before d text amount f is reads in cc (told, e)

not_to_script : (before : List Recipient) (d : Data) (fault : FieldFault) → recipient_behind before d ≡ Err (Field fault) → (s : List ℕ) (amount : ℕ) → ¬ IsToScript d s amount
not_to_script before d fault e s amount is = never_form _ s amount fault (sym (pays_reads before d s amount (inr (is, λ bad. let told = script_refused before d s amount is bad in cc (told, e)))) ∙ e)

pub form : (before : List Recipient) (d : Data) → ((fault : FieldFault) × (recipient_behind before d ≡ Err (Field fault))) ↔ ((text s : List ℕ) (amount : ℕ) → (¬ IsToAddress d text amount) × (¬ IsToScript d s amount))
form before d = (λ r text s amount. (not_to_address before d r.0 r.1 text amount, not_to_script before d r.0 r.1 s amount), λ none. by none (outcome before d))
  where
    by : ((text s : List ℕ) (amount : ℕ) → (¬ IsToAddress d text amount) × (¬ IsToScript d s amount)) → Outcome before d → (fault : FieldFault) × (recipient_behind before d ≡ Err (Field fault))
    by none (formless f reads) = (f, reads)
    by none (bad_address text amount f is bad reads) = absurd ((none text [] amount).0 is)
    by none (bad_script s amount is bad reads) = absurd ((none [] s amount).1 is)
    by none (pays s amount (inl is) reads) = absurd ((none is.0 [] amount).0 is.1)
    by none (pays s amount (inr is) reads) = absurd ((none [] s amount).1 is.0)

-- which fault of the form it is
pub first_form : (before : List Recipient) (d : Data) (fault : FieldFault) → (recipient_behind before d ≡ Err (Field fault)) ↔ (first_some (form_faults d) ≡ Some fault)
first_form before d fault = (λ e. told e (kind_of before d), λ e. refused e (kind_of before d))
  where
    told : recipient_behind before d ≡ Err (Field fault) → IsOf before d → first_some (form_faults d) ≡ Some fault
    told e (to_address text amount is) = absurd (not_to_address before d fault e text amount is)
    told e (to_script s amount is) = absurd (not_to_script before d fault e s amount is)
    told e (of_none f reads table) = let same : f ≡ fault = cc (reads, e) in table ∙ ap (λ x. Some x) same

    refused : first_some (form_faults d) ≡ Some fault → IsOf before d → recipient_behind before d ≡ Err (Field fault)
    refused e (to_address text amount is) = let none = address_form d text amount is in absurd (cc (none, e))
    refused e (to_script s amount is) = let none = script_form d s amount is in absurd (cc (none, e))
    refused e (of_none f reads table) = let same : f ≡ fault = cc (table, e) in reads ∙ ap (λ x. Err (Field x)) same

-- an entry is never reported as the list is
pub never_list : (before : List Recipient) (d : Data) (fault : Refusal) → recipient_behind before d ≡ Err fault → (fault ≡ NoRecipients) ⊎ (fault ≡ SumRange) → ⊥
never_list before d fault e list = by (outcome before d) list
  where
    judged : (s : List ℕ) (amount : ℕ) → paid_at (index_of (length before)) s amount ≡ Err fault → Paid (index_of (length before)) s amount → (fault ≡ NoRecipients) ⊎ (fault ≡ SumRange) → ⊥
    judged s amount reads (above h p) (inl is) = cc (reads, p, is)
    judged s amount reads (above h p) (inr is) = cc (reads, p, is)
    judged s amount reads (dusty h low p) (inl is) = cc (reads, p, is)
    judged s amount reads (dusty h low p) (inr is) = cc (reads, p, is)
    judged s amount reads (fine h low p) is = cc (reads, p)

    by : Outcome before d → (fault ≡ NoRecipients) ⊎ (fault ≡ SumRange) → ⊥
    by (formless f reads) (inl is) = cc (reads, e, is)
    by (formless f reads) (inr is) = cc (reads, e, is)
    by (bad_address text amount f is bad reads) (inl same) = cc (reads, e, same)
    by (bad_address text amount f is bad reads) (inr same) = cc (reads, e, same)
    by (bad_script s amount is bad reads) (inl same) = cc (reads, e, same)
    by (bad_script s amount is bad reads) (inr same) = cc (reads, e, same)
    by (pays s amount is reads) same = judged s amount (sym reads ∙ e) (paid_of (index_of (length before)) s amount) same
