-- When an entry of scripts is taken, and which fault is reported of one that isn't.
use Rattle.std.proofs.Common.{◌≡◌, ◌<◌, ◌≤◌, ℕ, Bool, true, false, List, [], length, codes, ◌⊎◌, inl, inr, is_some, Option, Some, None, Result, Ok, Err, Contains, get_or, zero, suc, refl, sym, ap, subst, ◌∙◌, true≢false, arith}
use Rattle.std.proofs.lemmas.Bool.{cases_lt}
use Rattle.std.specs.Option.{ok_or}
use Rattle.std.specs.Prelude.{◌↔◌}
use Rattle.fund_base.proofs.Laws.{bind_ok}
use Rattle.fund_base.specs.Parsing.{◌>>=◌}
use Rattle.json_fields.proofs.HexLaws as hex
use Rattle.json_fields.proofs.Members.{is_among-Contains, Contains-is_among, is_some-get_member}
use Rattle.json_fields.proofs.NumberLaws as numbers
use Rattle.json_fields.proofs.ObjectLaws as objects
use Rattle.json_fields.proofs.ValueFacts.{hex_is}
use Rattle.json_fields.specs.Fields.{names_of, is_among, object_at, member_at, hex_at, number_at}
use Rattle.json_fields.specs.Rules.{HasAll}
use Rattle.json_fields.specs.declared.fault.FieldFault.{FieldFault}
use Rattle.json_fields.specs.declared.fault.FieldFault.TheVariants.{Missing}
use Rattle.serde_json.specs.Data.{Data, number, unsigned}
use Rattle.serde_json.specs.Find.{get, get_member}
use Rattle.wallet_text.specs.ScriptEntries.{IsEntry, IsNoScript, IsNoWeight}
use Rattle.wallet_text.specs.WalletRules.{IsWatch}
use Rattle.wallet_text.specs.WalletText.{field, told_index, watch_names, watch_at, judged, script_in, change_at}
use Rattle.wallet_text.specs.declared.fault.Refusal.{Refusal}
use Rattle.wallet_text.specs.declared.fault.Refusal.TheVariants.{Script, Weight}
use Rattle.wallet_text.specs.declared.wallet.Watch.{Watch}
use Rattle.wallet_text.proofs.Rules.{judged_is}
use Rattle.wallet_text.proofs.WalletLaws.{taken, script_fault, weight_fault, script_told, weight_told}

-- ---- what an entry is read as

pub member_stands : (name : List ℕ) (d m : Data) → member_at name d ≡ Ok m → get name d ≡ Some m
unfolding member_at
member_stands name d m e = by (get name d) e
  where
    by : (o : Option Data) → ok_or o (Missing name) ≡ Ok m → o ≡ Some m
    by None reads = absurd (cc reads)
    by (Some x) reads = let same : x ≡ m = cc reads in ap (λ y. Some y) same

entry_found : (whole : List ℕ) (d : Data) (w : Watch) → watch_at whole d ≡ Ok w → IsEntry d w
unfolding watch_at
entry_found whole d w e =
    let a = bind_ok (object_at whole watch_names watch_names d) _ w e in
    let b = bind_ok (member_at (codes "script") d) _ w a.2 in
    let script = bind_ok (hex_at (codes "script") b.0) _ w b.2 in
    let c = bind_ok (member_at (codes "weight") d) _ w script.2 in
    let weight = bind_ok (number_at (codes "weight") 18446744073709551615 c.0) _ w c.2 in
    let same : record { script = script.0; weight = weight.0 } ≡ w = cc weight.2 in
    let object = objects.taken whole watch_names watch_names d a.1 in
    let law = numbers.found (codes "weight") 18446744073709551615 weight.0 c.0 weight.1 in
    subst (IsEntry d) same (record {
      members = (object.0, object.1, object.2.0);
      spelled = (b.0, member_stands (codes "script") d b.0 b.1, hex.found (codes "script") script.0 b.0 script.1);
      weighed = member_stands (codes "weight") d c.0 c.1 ∙ ap (λ m. Some m) law.0;
      most = law.1;
    })

name_stands : (d m : Data) (name : List ℕ) (w : Watch) (is : IsEntry d w) → get name d ≡ Some m → Contains (names_of is.members.0) name
name_stands d m name w is e =
    let here : get_member name is.members.0 ≡ Some m = ap (get name) (sym is.members.1) ∙ e in
    Contains-is_among (names_of is.members.0) name (sym (is_some-get_member name is.members.0) ∙ ap is_some here)

entry_only : (whole : List ℕ) (d : Data) (w : Watch) → IsEntry d w → watch_at whole d ≡ Ok w
unfolding watch_at member_at
entry_only whole d w is =
    let spelled = is.spelled in
    let object : object_at whole watch_names watch_names d ≡ Ok tt = objects.only whole watch_names watch_names d (is.members.0, is.members.1, (is.members.2, has)) in
    rw (object, spelled.1, hex.only (codes "script") w.script spelled.0 spelled.2, is.weighed, numbers.only (codes "weight") 18446744073709551615 w.weight is.most) refl
  where
    has : HasAll watch_names is.members.0
    has name c = at c.0 c.1 c.2
      where
        at : (k : ℕ) → k < length watch_names → get_or watch_names k name ≡ name → Contains (names_of is.members.0) name
        at zero lt e = subst (λ n. Contains (names_of is.members.0) n) e (name_stands d is.spelled.0 (codes "script") w is is.spelled.1)
        at (suc zero) lt e = subst (λ n. Contains (names_of is.members.0) n) e (name_stands d (number (unsigned w.weight)) (codes "weight") w is is.weighed)
        at (suc (suc k)) lt e = absurd (omega arith)

entry_bytes : (whole : List ℕ) (d : Data) (w : Watch) → IsEntry d w → (listed : Bool) (index : ℕ) (v : Watch) → judged listed index w ≡ Ok v → IsWatch v × (w ≡ v) × (listed ≡ false)
entry_bytes whole d w is listed index v e = judged_is listed index w v (hex_is (codes "script") is.spelled.0 w.script (hex.only (codes "script") w.script is.spelled.0 is.spelled.2)) e

-- ---- how it is judged

-- where a form is read or refused, what is reported after it
behind : (whole : List ℕ) (d : Data) (listed : Watch → Bool) (index : ℕ) (out : Result Watch Refusal) → (field (watch_at whole d) >>= λ w. judged (listed w) index w) ≡ out
    → ((w : Watch) × IsEntry d w × (judged (listed w) index w ≡ out)) ⊎ ((fault : FieldFault) × (field {A = Watch} (Err fault) ≡ out))
behind whole d listed index out e = by (watch_at whole d) refl e
  where
    by : (r : Result Watch FieldFault) → watch_at whole d ≡ r → (field r >>= λ w. judged (listed w) index w) ≡ out → ((w : Watch) × IsEntry d w × (judged (listed w) index w ≡ out)) ⊎ ((fault : FieldFault) × (field {A = Watch} (Err fault) ≡ out))
    by (Ok w) is reads = inl (w, entry_found whole d w is, reads)
    by (Err fault) is reads = inr (fault, reads)

ahead : (whole : List ℕ) (d : Data) (listed : Watch → Bool) (index : ℕ) (w : Watch) → IsEntry d w → (field (watch_at whole d) >>= λ v. judged (listed v) index v) ≡ judged (listed w) index w
ahead whole d listed index w is = ap (λ r. field r >>= λ v. judged (listed v) index v) (entry_only whole d w is)

not_listed : (before : List (List ℕ)) (script : List ℕ) → ¬ Contains before script → is_among before script ≡ false
not_listed before script none = by (is_among before script) refl
  where
    by : (b : Bool) → is_among before script ≡ b → b ≡ false
    by true e = absurd (none (Contains-is_among before script e))
    by false e = refl

listed_not : (before : List (List ℕ)) (script : List ℕ) → is_among before script ≡ false → ¬ Contains before script
listed_not before script e c = true≢false (sym (is_among-Contains before script c) ∙ e)

abbrev Taken : List (List ℕ) → Data → Watch → Type 0
Taken before d w = IsEntry d w × IsWatch w × (¬ Contains before w.script)

pub script_taken : (index : ℕ) (before : List (List ℕ)) (d : Data) (w : Watch) → (script_in index before d ≡ Ok w) ↔ Taken before d w
unfolding script_in
script_taken index before d w = (
  λ e. by (behind (codes "scripts") d (λ v. is_among before v.script) index (Ok w) e),
  λ is.
      ahead (codes "scripts") d (λ v. is_among before v.script) index w is.0 ∙ ap (λ b. judged b index w) (not_listed before w.script is.2) ∙ taken index w is.1,
)
  where
    by : ((v : Watch) × IsEntry d v × (judged (is_among before v.script) index v ≡ Ok w)) ⊎ ((fault : FieldFault) × (field {A = Watch} (Err fault) ≡ Ok w)) → Taken before d w
    by (inl r) =
        let all = entry_bytes (codes "scripts") d r.0 r.1 (is_among before r.0.script) index w r.2 in
        (subst (IsEntry d) all.1 r.1, all.0, listed_not before w.script (ap (λ (v : Watch). is_among before v.script) (sym all.1) ∙ all.2))
    by (inr r) = absurd (cc r.1)

abbrev BadScript : ℕ → List (List ℕ) → Data → ℕ → Type 0
BadScript index before d told = (told ≡ told_index index) × ((w : Watch) × IsEntry d w × (Contains before w.script ⊎ IsNoScript w.script))

pub script_refused : (index : ℕ) (before : List (List ℕ)) (d : Data) (told : ℕ) → (script_in index before d ≡ Err (Script told)) ↔ BadScript index before d told
unfolding script_in
script_refused index before d told = (
  λ e. by (behind (codes "scripts") d (λ v. is_among before v.script) index (Err (Script told)) e),
  λ is.
      ahead (codes "scripts") d (λ v. is_among before v.script) index is.1.0 is.1.1 ∙ script_told (is_among before is.1.0.script) index is.1.0 (why is.1.0 is.1.2) ∙ ap (λ i. Err (Script i)) (sym is.0),
)
  where
    why : (w : Watch) → Contains before w.script ⊎ IsNoScript w.script → (is_among before w.script ≡ true) ⊎ IsNoScript w.script
    why w (inl c) = inl (is_among-Contains before w.script c)
    why w (inr bad) = inr bad

    because : (w : Watch) → (is_among before w.script ≡ true) ⊎ IsNoScript w.script → Contains before w.script ⊎ IsNoScript w.script
    because w (inl c) = inl (Contains-is_among before w.script c)
    because w (inr bad) = inr bad

    by : ((v : Watch) × IsEntry d v × (judged (is_among before v.script) index v ≡ Err (Script told))) ⊎ ((fault : FieldFault) × (field {A = Watch} (Err fault) ≡ Err (Script told))) → BadScript index before d told
    by (inl r) = let all = script_fault (is_among before r.0.script) index told r.0 r.2 in (all.0, (r.0, r.1, because r.0 all.1))
    by (inr r) = absurd (cc r.1)

abbrev BadWeight : ℕ → List (List ℕ) → Data → ℕ → Type 0
BadWeight index before d told = (told ≡ told_index index) × ((w : Watch) × IsEntry d w × (¬ Contains before w.script) × (¬ IsNoScript w.script) × IsNoWeight w.weight)

-- a weight is reported only of a script that is in order
in_order : (listed : Bool) (index told : ℕ) (w : Watch) → judged listed index w ≡ Err (Weight told) → (listed ≡ true) ⊎ IsNoScript w.script → ⊥
in_order listed index told w e why = let first = script_told listed index w why in cc (first, e)

sized : (script : List ℕ) → ¬ IsNoScript script → (0 < length script) × (length script ≤ 10_000)
sized script fits = by (length script) refl
  where
    by : (n : ℕ) → length script ≡ n → (0 < length script) × (length script ≤ 10_000)
    by zero e = absurd (fits (inl e))
    by (suc n) e = (omega arith, most (cases_lt 10_000 (length script)))
      where
        most : (10_000 < length script) ⊎ (length script ≤ 10_000) → length script ≤ 10_000
        most (inl long) = absurd (fits (inr long))
        most (inr le) = le

pub weight_refused : (index : ℕ) (before : List (List ℕ)) (d : Data) (told : ℕ) → (script_in index before d ≡ Err (Weight told)) ↔ BadWeight index before d told
unfolding script_in
weight_refused index before d told = (
  λ e. by (behind (codes "scripts") d (λ v. is_among before v.script) index (Err (Weight told)) e),
  λ is.
      let fits = sized is.1.0.script is.1.3 in
      ahead (codes "scripts") d (λ v. is_among before v.script) index is.1.0 is.1.1 ∙ ap (λ b. judged b index is.1.0) (not_listed before is.1.0.script is.1.2) ∙ weight_told index is.1.0 fits.0 fits.1 is.1.4 ∙ ap (λ i. Err (Weight i)) (sym is.0),
)
  where
    by : ((v : Watch) × IsEntry d v × (judged (is_among before v.script) index v ≡ Err (Weight told))) ⊎ ((fault : FieldFault) × (field {A = Watch} (Err fault) ≡ Err (Weight told))) → BadWeight index before d told
    by (inl r) =
        let all = weight_fault (is_among before r.0.script) index told r.0 r.2 in
        let never = in_order (is_among before r.0.script) index told r.0 r.2 in
        (all.0, (r.0, r.1, (λ c. never (inl (is_among-Contains before r.0.script c))), (λ bad. never (inr bad)), all.1))
    by (inr r) = absurd (cc r.1)

-- ---- change is judged as an entry that no other stands before

change_same : (count : ℕ) (d : Data) → (e : Result Watch Refusal) → ((fault : FieldFault) → field {A = Watch} (Err fault) ≡ e → ⊥) → (change_at count d ≡ e) ↔ (script_in count [] d ≡ e)
unfolding change_at script_in
change_same count d e never = (λ c. over (behind (codes "change") d (λ _. false) count e c), λ s. back (behind (codes "scripts") d (λ v. is_among [] v.script) count e s))
  where
    over : ((v : Watch) × IsEntry d v × (judged false count v ≡ e)) ⊎ ((fault : FieldFault) × (field {A = Watch} (Err fault) ≡ e)) → (field (watch_at (codes "scripts") d) >>= λ w. judged (is_among [] w.script) count w) ≡ e
    over (inl r) = ahead (codes "scripts") d (λ v. is_among [] v.script) count r.0 r.1 ∙ r.2
    over (inr r) = absurd (never r.0 r.1)

    back : ((v : Watch) × IsEntry d v × (judged (is_among [] v.script) count v ≡ e)) ⊎ ((fault : FieldFault) × (field {A = Watch} (Err fault) ≡ e)) → (field (watch_at (codes "change") d) >>= λ w. judged false count w) ≡ e
    back (inl r) = ahead (codes "change") d (λ _. false) count r.0 r.1 ∙ r.2
    back (inr r) = absurd (never r.0 r.1)

pub change_taken : (count : ℕ) (d : Data) (w : Watch) → (change_at count d ≡ Ok w) ↔ (script_in count [] d ≡ Ok w)
change_taken count d w = change_same count d (Ok w) (λ fault e. cc e)

pub change_script : (count : ℕ) (d : Data) (told : ℕ) → (change_at count d ≡ Err (Script told)) ↔ (script_in count [] d ≡ Err (Script told))
change_script count d told = change_same count d (Err (Script told)) (λ fault e. cc e)

pub change_weight : (count : ℕ) (d : Data) (told : ℕ) → (change_at count d ≡ Err (Weight told)) ↔ (script_in count [] d ≡ Err (Weight told))
change_weight count d told = change_same count d (Err (Weight told)) (λ fault e. cc e)
