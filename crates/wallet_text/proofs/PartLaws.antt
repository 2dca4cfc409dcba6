-- A wallet that is read part by part is the one that is read member by member, and its parts keep the rules of wallets.
use Rattle.std.proofs.Common.{◌≡◌, ℕ, List, [], length, codes, Result, Ok, Err, refl, subst}
use Rattle.std.specs.Prelude.{All}
use Rattle.fund_base.proofs.Laws.{bind_ok}
use Rattle.fund_base.specs.Parsing.{◌>>=◌}
use Rattle.json_fields.specs.Fields.{object_at, member_at, optional, number_at, hash_at, value_of, IsHash, IsPoint}
use Rattle.json_fields.specs.declared.fault.FieldFault.{FieldFault}
use Rattle.serde_json.specs.Data.{Data}
use Rattle.serde_json.specs.Find.{get}
use Rattle.tx_codec.specs.TransactionText.{IsTransaction}
use Rattle.wallet_text.specs.Parts.{PlainLists, head_at, watched_at, listed_at, parts_at}
use Rattle.wallet_text.specs.WalletRules.{IsWatch, IsEarlier, AreDistinctScripts, AreDistinctEarlier, AreDistinct, ParentsComeFirst}
use Rattle.wallet_text.specs.WalletText.{field, known_names, required_names, scripts_at, change_at, earlier_list_at, pending_list_at, abandoned_list_at, locked_list_at, lists_at, wallet_at, wallet_of}
use Rattle.wallet_text.specs.declared.fault.Refusal.{Refusal}
use Rattle.wallet_text.specs.declared.wallet.Watch.{Watch}
use Rattle.wallet_text.proofs.Rules.{field_ok, scripts_are, change_is, earlier_are, pending_are, abandoned_are, locked_are, lists_are}

-- one step, and the steps after it
step : {A B : Type 0} (first : Result A Refusal) (f g : A → Result B Refusal) → ((x : A) → f x ≡ g x) → (first >>= f) ≡ (first >>= g)
step (Ok x) f g h = h x
step (Err fault) f g h = refl

-- the same of a step within a part
within : {A B C : Type 0} (first : Result A Refusal) (row : A → Result C Refusal) (part : A → Result B Refusal) (behind : B → Result C Refusal) → ((x : A) → row x ≡ (part x >>= behind)) → (first >>= row) ≡ ((first >>= part) >>= behind)
within (Ok x) row part behind h = h x
within (Err fault) row part behind h = refl

-- the same within a part whose faults are those of the form
within_form : {A B C : Type 0} (first : Result A FieldFault) (row : A → Result C Refusal) (part : A → Result B FieldFault) (behind : B → Result C Refusal) → ((x : A) → row x ≡ (field (part x) >>= behind)) → (field first >>= row) ≡ (field (first >>= part) >>= behind)
within_form (Ok x) row part behind h = h x
within_form (Err fault) row part behind h = refl

parts : (d : Data) → wallet_at d ≡ parts_at d
unfolding wallet_at parts_at head_at watched_at listed_at
parts d =
    step (field (object_at (codes "root") known_names required_names d)) _ _ (λ _.
    within_form (member_at (codes "height") d) _ _ _ (λ g.
    within_form (number_at (codes "height") 100000000 g) _ _ _ (λ height.
    within_form (member_at (codes "hash") d) _ _ _ (λ h.
    within_form (hash_at (codes "hash") h) _ _ _ (λ _.
    within (field (member_at (codes "scripts") d)) _ _ _ (λ s.
    within (scripts_at s) _ _ _ (λ scripts.
    within (field (member_at (codes "change") d)) _ _ _ (λ c.
    within (change_at (length scripts) c) _ _ _ (λ _.
    within (optional [] (earlier_list_at height) (get (codes "earlier") d)) _ _ _ (λ earlier.
    within (optional [] pending_list_at (get (codes "pending") d)) _ _ _ (λ pending.
    within (field (optional [] abandoned_list_at (get (codes "abandoned") d))) _ _ _ (λ _.
    within (field (optional [] locked_list_at (get (codes "locked") d))) _ _ _ (λ _.
    within (lists_at earlier pending) _ _ _ (λ _. refl))))))))))))))

-- of the bytes of a value
pub parts_of : (bytes : List ℕ) (d : Data) → value_of bytes ≡ Ok d → wallet_of bytes ≡ parts_at d
unfolding wallet_of
parts_of bytes d e = rw e (parts d)

pub watched_are : (d : Data) (w : List Watch × Watch) → watched_at d ≡ Ok w → (All IsWatch w.0 × AreDistinctScripts w.0) × IsWatch w.1
unfolding watched_at
watched_are d w e =
    let s = field_ok (member_at (codes "scripts") d) _ w e in
    let scripts = bind_ok (scripts_at s.0) _ w s.2 in
    let c = field_ok (member_at (codes "change") d) _ w scripts.2 in
    let change = bind_ok (change_at (length scripts.0) c.0) _ w c.2 in
    let same : (scripts.0, change.0) ≡ w = cc change.2 in
    subst (λ (v : List Watch × Watch). (All IsWatch v.0 × AreDistinctScripts v.0) × IsWatch v.1) same (scripts_are s.0 scripts.0 scripts.1, change_is (length scripts.0) c.0 change.0 change.1)

-- the rules of the lists of a wallet at a height
pub record AreLists (most : ℕ) (l : PlainLists) : Type 0 where
  pub earlier : All (IsEarlier most) l.earlier
  pub earlier_distinct : AreDistinctEarlier l.earlier
  pub pending : All IsTransaction l.pending
  pub pending_distinct : AreDistinct l.pending
  pub parents : ParentsComeFirst l.pending
  pub abandoned : All IsHash l.abandoned
  pub locked : All IsPoint l.locked

pub listed_are : (most : ℕ) (d : Data) (l : PlainLists) → listed_at most d ≡ Ok l → AreLists most l
unfolding listed_at
listed_are most d l e =
    let earlier = bind_ok (optional [] (earlier_list_at most) (get (codes "earlier") d)) _ l e in
    let pending = bind_ok (optional [] pending_list_at (get (codes "pending") d)) _ l earlier.2 in
    let abandoned = field_ok (optional [] abandoned_list_at (get (codes "abandoned") d)) _ l pending.2 in
    let locked = field_ok (optional [] locked_list_at (get (codes "locked") d)) _ l abandoned.2 in
    let judged = bind_ok (lists_at earlier.0 pending.0) _ l locked.2 in
    let lists = lists_are earlier.0 pending.0 judged.1 in
    let same : record { earlier = earlier.0; pending = pending.0; abandoned = abandoned.0; locked = locked.0 } ≡ l = cc judged.2 in
    subst (AreLists most) same (record {
      earlier = earlier_are most _ earlier.0 earlier.1;
      earlier_distinct = lists.0;
      pending = pending_are _ pending.0 pending.1;
      pending_distinct = lists.1;
      parents = lists.2;
      abandoned = abandoned_are _ abandoned.0 abandoned.1;
      locked = locked_are _ locked.0 locked.1;
    })
