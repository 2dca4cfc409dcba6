-- An entry that is read had something to store.
use Rattle.std.proofs.Common.{◌≡◌, ℕ, List, codes, Ok, refl, inr}
use Rattle.fund_base.proofs.Laws.{bind_ok}
use Rattle.json_fields.specs.Fields.{object_at, member_at, hex_at}
use Rattle.serde_json.specs.Data.{Data}
use Rattle.keys_text.specs.KeysText.{entry_at, entry_behind, entry_names, entry_required, key_path_at, path_names}
use Rattle.keys_text.specs.PlainKeys.{PlainEntry, PlainKeyPath}
use Rattle.keys_text.specs.Stores.{StoresEntry, StoresKey}
use Rattle.keys_text.proofs.Rules.{field_ok}

pub key_stored : (whole name : List ℕ) (d : Data) (k : PlainKeyPath) → key_path_at whole name d ≡ Ok k → StoresKey whole name d
unfolding key_path_at
key_stored whole name d k e =
    let a = bind_ok (object_at whole (path_names name) (path_names name) d) _ k e in
    let b = bind_ok (member_at name d) _ k a.2 in
    let key = bind_ok (hex_at name b.0) _ k b.2 in
    inr (rw (b.1, key.1) refl)

entry_stored : (d : Data) (e : PlainEntry) → entry_at d ≡ Ok e → StoresEntry d
unfolding entry_at
entry_stored d e is =
    let a = bind_ok (object_at (codes "scripts") entry_names entry_required d) _ e is in
    let s = bind_ok (member_at (codes "script") d) _ e a.2 in
    let script = bind_ok (hex_at (codes "script") s.0) _ e s.2 in
    inr (rw (s.1, script.1) refl)

pub stored_behind : (before : List PlainEntry) (d : Data) (e : PlainEntry) → entry_behind before d ≡ Ok e → StoresEntry d
unfolding entry_behind
stored_behind before d e is = let a = field_ok (entry_at d) _ e is in entry_stored d a.0 a.1
