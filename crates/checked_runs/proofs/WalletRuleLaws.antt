-- What a wallet file is read as keeps the rules of wallets.
use Rattle.std.proofs.Common.{◌≡◌, ◌≤◌, ◌∙◌, ℕ, List, codes, Ok, sym, subst}
use Rattle.fund_base.proofs.Laws.{bind_ok}
use Rattle.json_fields.proofs.NumberLaws as numbers
use Rattle.json_fields.proofs.ValueFacts.{hash_is}
use Rattle.json_fields.specs.Fields.{object_at, member_at, number_at, hash_at, value_of, IsHash}
use Rattle.serde_json.specs.Data.{Data}
use Rattle.wallet_text.proofs.PartLaws.{listed_are, parts_of, watched_are}
use Rattle.wallet_text.proofs.Rules.{field_ok}
use Rattle.wallet_text.specs.Parts.{head_at, listed_at, parts_at, watched_at}
use Rattle.wallet_text.specs.PlainWallet.{PlainWallet}
use Rattle.wallet_text.specs.WalletRules.{IsWallet}
use Rattle.wallet_text.specs.WalletText.{known_names, required_names, wallet_at, wallet_of}

head_is : (d : Data) (h : ℕ × List ℕ) → head_at d ≡ Ok h → (h.0 ≤ 100000000) × IsHash h.1
unfolding head_at
head_is d h e =
    let g = bind_ok (member_at (codes "height") d) _ h e in
    let height = bind_ok (number_at (codes "height") 100000000 g.0) _ h g.2 in
    let m = bind_ok (member_at (codes "hash") d) _ h height.2 in
    let hash = bind_ok (hash_at (codes "hash") m.0) _ h m.2 in
    let same : (height.0, hash.0) ≡ h = cc hash.2 in
    subst (λ (x : ℕ × List ℕ). (x.0 ≤ 100000000) × IsHash x.1) same ((numbers.found (codes "height") 100000000 height.0 g.0 height.1).1, hash_is (codes "hash") m.0 hash.0 hash.1)

parts_are : (d : Data) (w : PlainWallet) → parts_at d ≡ Ok w → IsWallet w
unfolding parts_at
parts_are d w e =
    let object = field_ok (object_at (codes "root") known_names required_names d) _ w e in
    let head = field_ok (head_at d) _ w object.2 in
    let watched = bind_ok (watched_at d) _ w head.2 in
    let lists = bind_ok (listed_at head.0.0 d) _ w watched.2 in
    let h = head_is d head.0 head.1 in
    let of_scripts = watched_are d watched.0 watched.1 in
    let of_lists = listed_are head.0.0 d lists.0 lists.1 in
    let same : record { height = head.0.0; hash = head.0.1; scripts = watched.0.0; change = watched.0.1; earlier = lists.0.earlier; pending = lists.0.pending; abandoned = lists.0.abandoned; locked = lists.0.locked } ≡ w = cc lists.2 in
    subst IsWallet same (record {
      height = h.0;
      hash = h.1;
      scripts = of_scripts.0.0;
      scripts_distinct = of_scripts.0.1;
      change = of_scripts.1;
      earlier = of_lists.earlier;
      earlier_distinct = of_lists.earlier_distinct;
      pending = of_lists.pending;
      pending_distinct = of_lists.pending_distinct;
      parents = of_lists.parents;
      abandoned = of_lists.abandoned;
      locked = of_lists.locked;
    })

pub wallet_is : (bytes : List ℕ) (w : PlainWallet) → wallet_of bytes ≡ Ok w → IsWallet w
unfolding wallet_of
wallet_is bytes w e =
    let d = field_ok (value_of bytes) wallet_at w e in
    parts_are d.0 w (sym (parts_of bytes d.0 d.1) ∙ e)
