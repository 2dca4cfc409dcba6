-- An entry that is read had something to store.
use Rattle.std.proofs.Common.{◌≡◌, ℕ, Bool, true, false, cond, ◌||◌, not, nat_lt, ◌⊎◌, List, [], length, codes, Result, Ok, Err, refl, sym, ap, subst, inl, inr}
use Rattle.std.specs.Prelude.{IsOkAnd}
use Rattle.fund_base.proofs.Laws.{bind_ok}
use Rattle.json_fields.specs.Fields.{member_at, entries_at, hex_at, each_from}
use Rattle.json_fields.specs.Memory.{StoresFirst}
use Rattle.json_fields.specs.declared.fault.FieldFault.{FieldFault}
use Rattle.serde_json.specs.Data.{Data, Items, no_items, item}
use Rattle.tx_codec.specs.Transaction.{Transaction}
use Rattle.wallet_text.specs.Parts.{watched_at}
use Rattle.wallet_text.specs.PlainWallet.{Earlier}
use Rattle.wallet_text.specs.Stores.{StoresScript, StoresChange, StoresEarlier, StoresPending, StoresWatched}
use Rattle.wallet_text.specs.WalletText.{told_index, watch_at, has_script_length, judged, script_in, script_behind, change_at, earlier_at, earlier_in, pending_in, scripts_at}
use Rattle.wallet_text.specs.declared.fault.Refusal.{Refusal}
use Rattle.wallet_text.specs.declared.fault.Refusal.TheVariants.{Script, Weight}
use Rattle.wallet_text.specs.declared.wallet.Watch.{Watch}
use Rattle.wallet_text.proofs.Rules.{field_ok}

-- an entry of no script's length is refused for it, be it listed or not
pub unfit : (listed fits : Bool) (fault : Refusal) (rest : Result Watch Refusal) → fits ≡ false → cond (listed || not fits) (Err fault) rest ≡ Err fault
unfit true fits fault rest e = refl
unfit false true fault rest e = absurd (cc e)
unfit false false fault rest e = refl

fitting : (listed : Bool) (index : ℕ) (v w : Watch) → judged listed index v ≡ Ok w → has_script_length v.script ≡ true
unfolding judged
fitting listed index v w e = by listed (has_script_length v.script) e
  where
    by : (l s : Bool) → cond (l || not s) (Err (Script (told_index index))) (cond (nat_lt v.weight 165 || nat_lt 400000 v.weight) (Err (Weight (told_index index))) (Ok v)) ≡ Ok w → s ≡ true
    by l true reads = refl
    by true false reads = absurd (cc reads)
    by false false reads = absurd (cc reads)

pub spelled_stored : (d : Data) (w : Watch) → watch_at (codes "scripts") d ≡ Ok w → has_script_length w.script ≡ true → StoresScript d
spelled_stored d w e fits = inr (rw e fits)

pub script_stored : (index : ℕ) (before : List (List ℕ)) (d : Data) (w : Watch) → script_in index before d ≡ Ok w → StoresScript d
unfolding script_in
script_stored index before d w e = let a = field_ok (watch_at (codes "scripts") d) _ w e in spelled_stored d a.0 a.1 (fitting _ index a.0 w a.2)

pub earlier_entry_stored : (most : ℕ) (d : Data) (entry : List ℕ × ℕ) → earlier_at most d ≡ Ok entry → StoresEarlier most d
earlier_entry_stored most d entry e = inr (rw e refl)

pub earlier_stored : (most index : ℕ) (d : Data) (x : Earlier) → earlier_in most index d ≡ Ok x → StoresEarlier most d
unfolding earlier_in
earlier_stored most index d x e = let entry = field_ok (earlier_at most d) _ x e in earlier_entry_stored most d entry.0 entry.1

pub pending_stored : (index : ℕ) (d : Data) (t : Transaction) → pending_in index d ≡ Ok t → StoresPending d
unfolding pending_in
pending_stored index d t e = let a = field_ok (hex_at (codes "pending") d) _ t e in rw a.1 refl

-- ---- the scripts and the change entry

-- scripts that are read have a first entry, which had something to store, or they have no entry
first_stored : (entries : Items) (ws : List Watch) → each_from script_behind [] entries ≡ Ok ws → StoresFirst StoresScript entries ⊎ ((entries ≡ no_items) × (length ws ≡ 0))
unfolding each_from
first_stored no_items ws e = let same : [] ≡ ws = cc e in inr (refl, ap (λ (vs : List Watch). length vs) (sym same))
first_stored (item d ds) ws e = let first = bind_ok (script_behind [] d) _ ws e in inl (script_stored 0 [] d first.0 first.1)

joined : (entries : Items) (ws : List Watch) (m : Result Data FieldFault) (c : Data) → StoresFirst StoresScript entries ⊎ ((entries ≡ no_items) × (length ws ≡ 0)) → m ≡ Ok c → StoresChange (length ws) c
    → StoresFirst StoresScript entries ⊎ ((entries ≡ no_items) × IsOkAnd m (StoresChange 0))
joined entries ws m c (inl first) e stored = inl first
joined entries ws m c (inr none) e stored = inr (none.0, rw e (subst (λ n. StoresChange n c) none.1 stored))

pub change_stored : (d s c : Data) (ws : List Watch) → member_at (codes "scripts") d ≡ Ok s → scripts_at s ≡ Ok ws → member_at (codes "change") d ≡ Ok c → StoresChange (length ws) c → StoresWatched d
unfolding scripts_at
change_stored d s c ws scripts read change stored =
    let entries = field_ok (entries_at (codes "scripts") s) _ ws read in
    rw (scripts, entries.1) (joined entries.0 ws (member_at (codes "change") d) c (first_stored entries.0 ws entries.2) change stored)

pub watched_stored : (d : Data) (w : List Watch × Watch) → watched_at d ≡ Ok w → StoresWatched d
unfolding watched_at
watched_stored d w e =
    let s = field_ok (member_at (codes "scripts") d) _ w e in
    let scripts = bind_ok (scripts_at s.0) _ w s.2 in
    let c = field_ok (member_at (codes "change") d) _ w scripts.2 in
    let change = bind_ok (change_at (length scripts.0) c.0) _ w c.2 in
    change_stored d s.0 c.0 scripts.0 s.1 scripts.1 c.1 (inr (rw change.1 refl))
