-- When a list of recipients is taken, and which fault is reported of one that isn't.
use Rattle.std.proofs.Common.{◌≡◌, ◌≢◌, ◌<◌, ◌≤◌, ◌==◌, ℕ, Bool, true, false, cond, List, [], ◌∷◌, length, codes, nat_lt, ◌⊎◌, inl, inr, Some, None, Result, Ok, Err, refl, sym, ap, subst, ◌∙◌, arith}
use Rattle.std.specs.Prelude.{◌↔◌}
use Rattle.std.proofs.lemmas.Bool.{eqb-true, ltb-true, ltb-false}
use Rattle.json_fields.proofs.ListLaws as lists
use Rattle.json_fields.specs.Fields.{each_from}
use Rattle.json_fields.specs.Rules.{IsFirstRefused}
use Rattle.json_fields.specs.declared.fault.FieldFault.TheVariants.{Kind}
use Rattle.serde_json.specs.Data.{Data, null, boolean, number, string, array, object, Items, no_items, item}
use Rattle.serde_json.specs.Find.{as_array}
use Rattle.serde_json.specs.View.{items_of}
use Rattle.request_text.specs.Entries.{AreRecipients}
use Rattle.request_text.specs.PlainRequest.{paid_to}
use Rattle.request_text.specs.RequestText.{recipient_behind, recipients_at}
use Rattle.request_text.specs.declared.fault.Refusal.{Refusal}
use Rattle.request_text.specs.declared.fault.Refusal.TheVariants.{Field, SumRange, NoRecipients}
use Rattle.request_text.specs.declared.request.Recipient.{Recipient}
use Rattle.request_text.proofs.RecipientLaws.{never_list}

-- ---- all recipients together

abbrev answer : List Recipient → Result (List Recipient) Refusal
answer rs = cond (length rs == 0) (Err NoRecipients) (cond (nat_lt 2_100_000_000_000_000 (paid_to rs)) (Err SumRange) (Ok rs))

data Judged (rs : List Recipient) : Type 0 where
  none_at_all : length rs ≡ 0 → answer rs ≡ Err NoRecipients → Judged rs
  too_much : 2_100_000_000_000_000 < paid_to rs → answer rs ≡ Err SumRange → Judged rs
  fine : 0 < length rs → paid_to rs ≤ 2_100_000_000_000_000 → answer rs ≡ Ok rs → Judged rs

not_empty : (n : ℕ) → 0 < n → (n == 0) ≡ false
not_empty n some = by (n == 0) refl
  where
    by : (b : Bool) → (n == 0) ≡ b → b ≡ false
    by true e = let empty = eqb-true n 0 e in absurd (omega arith)
    by false e = refl

judged : (rs : List Recipient) → Judged rs
judged [] = none_at_all refl refl
judged (r ∷ rs) = by (nat_lt 2_100_000_000_000_000 (paid_to (r ∷ rs))) refl
  where
    some : (length (r ∷ rs) == 0) ≡ false
    some = not_empty (length (r ∷ rs)) (omega arith)

    by : (b : Bool) → nat_lt 2_100_000_000_000_000 (paid_to (r ∷ rs)) ≡ b → Judged (r ∷ rs)
    by true e = too_much (ltb-true 2_100_000_000_000_000 (paid_to (r ∷ rs)) e) (rw (some, e) refl)
    by false e = fine (omega arith) (ltb-false 2_100_000_000_000_000 (paid_to (r ∷ rs)) e) (rw (some, e) refl)

-- ---- the list

-- entries are those of a list
listed : (items : Items) → (ds : List Data) × (items ≡ items_of ds)
listed no_items = ([], refl)
listed (item d items) = let rest = listed items in (d ∷ rest.0, ap (item d) rest.1)

reads_as : (ds : List Data) (rs : List Recipient) → each_from recipient_behind [] (items_of ds) ≡ Ok rs → recipients_at (array (items_of ds)) ≡ answer rs
unfolding recipients_at
reads_as ds rs e = rw e refl

refused_as : (ds : List Data) (fault : Refusal) → each_from recipient_behind [] (items_of ds) ≡ Err fault → recipients_at (array (items_of ds)) ≡ Err fault
unfolding recipients_at
refused_as ds fault e = rw e refl

data Listed (d : Data) : Type 0 where
  no_list : ((ds : List Data) → d ≢ array (items_of ds)) → recipients_at d ≡ Err (Field (Kind (codes "recipients"))) → Listed d
  refused : (ds : List Data) (fault : Refusal) → d ≡ array (items_of ds) → IsFirstRefused recipient_behind ds fault → recipients_at d ≡ Err fault → Listed d
  read : (rs : List Recipient) → AreRecipients d rs → recipients_at d ≡ answer rs → Listed d

not_array : (d : Data) → as_array d ≡ None → (ds : List Data) → d ≢ array (items_of ds)
not_array d none ds is = let e : as_array d ≡ Some (items_of ds) = ap as_array is in cc (none, e)

of_array : (ds : List Data) → Listed (array (items_of ds))
of_array ds = by (each_from recipient_behind [] (items_of ds)) refl
  where
    by : (r : Result (List Recipient) Refusal) → each_from recipient_behind [] (items_of ds) ≡ r → Listed (array (items_of ds))
    by (Ok rs) e = let all = lists.found recipient_behind ds rs e in read rs (ds, refl, all.0, all.1) (reads_as ds rs e)
    by (Err fault) e = refused ds fault refl (lists.first recipient_behind ds fault e) (refused_as ds fault e)

what_is : (d : Data) → Listed d
unfolding recipients_at
what_is (array items) = let l = listed items in subst (λ (i : Items). Listed (array i)) (sym l.1) (of_array l.0)
what_is null = no_list (not_array null refl) refl
what_is (boolean b) = no_list (not_array (boolean b) refl) refl
what_is (number n) = no_list (not_array (number n) refl) refl
what_is (string s) = no_list (not_array (string s) refl) refl
what_is (object ms) = no_list (not_array (object ms) refl) refl

-- entries that are all taken are judged together
answers : (d : Data) (rs : List Recipient) → AreRecipients d rs → recipients_at d ≡ answer rs
answers d rs is = ap recipients_at is.1 ∙ reads_as is.0 rs (lists.only recipient_behind is.0 rs is.2 is.3)

-- ---- each answer

abbrev Taken : Data → List Recipient → Type 0
Taken d rs = AreRecipients d rs × (0 < length rs) × (paid_to rs ≤ 2_100_000_000_000_000)

pub taken : (d : Data) (rs : List Recipient) → (recipients_at d ≡ Ok rs) ↔ Taken d rs
taken d rs = (λ e. found e (what_is d), λ is. answers d rs is.0 ∙ all is (judged rs))
  where
    all : Taken d rs → Judged rs → answer rs ≡ Ok rs
    all is (none_at_all empty reads) = let some = is.1 in absurd (omega arith)
    all is (too_much more reads) = let le = is.2 in absurd (omega arith)
    all is (fine some le reads) = reads

    by : (others : List Recipient) → AreRecipients d others → answer others ≡ Ok rs → Judged others → Taken d rs
    by others is e (none_at_all empty reads) = absurd (cc (reads, e))
    by others is e (too_much more reads) = absurd (cc (reads, e))
    by others is e (fine some le reads) = let same : others ≡ rs = cc (reads, e) in subst (Taken d) same (is, some, le)

    found : recipients_at d ≡ Ok rs → Listed d → Taken d rs
    found e (no_list never reads) = absurd (cc (reads, e))
    found e (refused ds fault is first reads) = absurd (cc (reads, e))
    found e (read others is reads) = by others is (sym reads ∙ e) (judged others)

no_entries : (d : Data) (ds : List Data) → d ≡ array (items_of ds) → length ds ≡ 0 → d ≡ array no_items
no_entries d [] is empty = is
no_entries d (x ∷ ds) is empty = absurd (omega arith)

pub none : (d : Data) → (recipients_at d ≡ Err NoRecipients) ↔ (d ≡ array no_items)
unfolding recipients_at each_from
none d = (λ e. found e (what_is d), λ is. ap recipients_at is)
  where
    by : (rs : List Recipient) → AreRecipients d rs → answer rs ≡ Err NoRecipients → Judged rs → d ≡ array no_items
    by rs is e (none_at_all empty reads) = no_entries d is.0 is.1 (sym is.2 ∙ empty)
    by rs is e (too_much more reads) = absurd (cc (reads, e))
    by rs is e (fine some le reads) = absurd (cc (reads, e))

    found : recipients_at d ≡ Err NoRecipients → Listed d → d ≡ array no_items
    found e (no_list never reads) = absurd (cc (reads, e))
    found e (refused ds fault is first reads) = absurd (never_list first.before _ fault (first.here d) (inl (cc (reads, e))))
    found e (read rs is reads) = by rs is (sym reads ∙ e) (judged rs)

abbrev Exceeds : Data → Type 0
Exceeds d = (rs : List Recipient) × AreRecipients d rs × (2_100_000_000_000_000 < paid_to rs)

pub sum : (d : Data) → (recipients_at d ≡ Err SumRange) ↔ Exceeds d
sum d = (λ e. found e (what_is d), λ is. answers d is.0 is.1 ∙ all is.0 is.2 (judged is.0))
  where
    all : (rs : List Recipient) → 2_100_000_000_000_000 < paid_to rs → Judged rs → answer rs ≡ Err SumRange
    all [] more said = absurd (omega arith)
    all (r ∷ rs) more (none_at_all empty reads) = absurd (omega arith)
    all (r ∷ rs) more (too_much same reads) = reads
    all (r ∷ rs) more (fine some le reads) = absurd (omega arith)

    by : (rs : List Recipient) → AreRecipients d rs → answer rs ≡ Err SumRange → Judged rs → Exceeds d
    by rs is e (none_at_all empty reads) = absurd (cc (reads, e))
    by rs is e (too_much more reads) = (rs, is, more)
    by rs is e (fine some le reads) = absurd (cc (reads, e))

    found : recipients_at d ≡ Err SumRange → Listed d → Exceeds d
    found e (no_list never reads) = absurd (cc (reads, e))
    found e (refused ds fault is first reads) = absurd (never_list first.before _ fault (first.here d) (inr (cc (reads, e))))
    found e (read rs is reads) = by rs is (sym reads ∙ e) (judged rs)

pub entry : (ds : List Data) (fault : Refusal) → IsFirstRefused recipient_behind ds fault → recipients_at (array (items_of ds)) ≡ Err fault
entry ds fault first = refused_as ds fault (lists.refused recipient_behind ds fault first)

abbrev Cause : Data → Refusal → Type 0
Cause d fault = (fault ≡ NoRecipients) ⊎ ((fault ≡ SumRange) ⊎ (((fault ≡ Field (Kind (codes "recipients"))) × ((ds : List Data) → d ≢ array (items_of ds))) ⊎ ((ds : List Data) × (d ≡ array (items_of ds)) × IsFirstRefused recipient_behind ds fault)))

pub other : (d : Data) (fault : Refusal) → recipients_at d ≡ Err fault → Cause d fault
other d fault e = found (what_is d)
  where
    by : (rs : List Recipient) → answer rs ≡ Err fault → Judged rs → Cause d fault
    by rs reads (none_at_all empty told) = inl (cc (reads, told))
    by rs reads (too_much more told) = inr (inl (cc (reads, told)))
    by rs reads (fine some le told) = absurd (cc (reads, told))

    found : Listed d → Cause d fault
    found (no_list never reads) = inr (inr (inl (cc (reads, e), never)))
    found (refused ds f is first reads) = let same : f ≡ fault = cc (reads, e) in inr (inr (inr (ds, is, subst (IsFirstRefused recipient_behind ds) same first)))
    found (read rs is reads) = by rs (sym reads ∙ e) (judged rs)
