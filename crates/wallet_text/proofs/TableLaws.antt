-- The first fault of a wallet file is the first in the table of its members' own, and its fields are what they say.
use Rattle.std.proofs.Common.{◌≡◌, ℕ, List, [], ◌∷◌, length, codes, Option, Some, None, Result, Ok, Err, Contains, refl, ap, ◌∙◌, arith, sym}
use Rattle.std.specs.Bool.{⊤}
use Rattle.std.specs.Result.{result_err}
use Rattle.fund_base.proofs.Laws.{bind_ok}
use Rattle.fund_base.specs.Parsing.{◌>>=◌}
use Rattle.json_fields.proofs.Tables.{part, required, left_out, said_is, there, behind_required, behind_left_out}
use Rattle.json_fields.specs.Fields.{number_at, hash_at, object_at, optional}
use Rattle.json_fields.specs.Rules.{first_some, wrong, said}
use Rattle.json_fields.specs.declared.fault.FieldFault.{FieldFault}
use Rattle.serde_json.specs.Data.{Data}
use Rattle.serde_json.specs.Find.{get}
use Rattle.wallet_text.specs.PlainWallet.{PlainWallet}
use Rattle.wallet_text.specs.Table.{member_faults, said_by, height_said, scripts_said, earlier_said, pending_said}
use Rattle.wallet_text.specs.WalletText.{field, known_names, required_names, scripts_at, change_at, earlier_list_at, pending_list_at, abandoned_list_at, locked_list_at, lists_at, wallet_at}
use Rattle.wallet_text.specs.declared.fault.Refusal.{Refusal}
use Rattle.wallet_text.specs.declared.fault.Refusal.TheVariants.{Field}

-- the object was taken
taken : (d : Data) (u : ⊤) → field (object_at (codes "root") known_names required_names d) ≡ Ok u → object_at (codes "root") known_names required_names d ≡ Ok tt
taken d u e = by (object_at (codes "root") known_names required_names d) e
  where
    by : (r : Result ⊤ FieldFault) → field r ≡ Ok u → r ≡ Ok tt
    by (Ok v) reads = refl
    by (Err fault) reads = absurd (cc reads)

-- a list that may be left out, whose faults are those of the form
form_of : {A B : Type 0} (default : A) (reading : Data → Result A FieldFault) (then : A → Result B Refusal) (rest : List (Option Refusal)) (o : Option Data) → ((x : A) → result_err (then x) ≡ first_some rest)
    → result_err (field (optional default reading o) >>= then) ≡ first_some (wrong (λ m. field (reading m)) o ∷ rest)
form_of default reading then rest None h = h default
form_of default reading then rest (Some m) h = part (field (reading m)) then rest (λ x _. h x)

-- what a member that is there says is what was read of it
said_so : {A : Type 0} (default : A) (reading : Data → Result A Refusal) (name : List ℕ) (d m : Data) (x : A) → get name d ≡ Some m → reading m ≡ Ok x → said default reading (get name d) ≡ x
said_so default reading name d m x here reads = said_is default reading (get name d) x (ap (optional default reading) here ∙ reads)

pub first : (d : Data) → result_err (wallet_at d) ≡ first_some (result_err (field (object_at (codes "root") known_names required_names d)) ∷ member_faults d)
unfolding wallet_at member_faults
first d =
    part (field (object_at (codes "root") known_names required_names d)) _ _ (λ u reads.
    let object = taken d u reads in
    let at = λ (name : List ℕ) (is : Contains required_names name). there (codes "root") known_names required_names name d object is in
    let height = at (codes "height") (0, omega arith, refl) in
    let hash = at (codes "hash") (1, omega arith, refl) in
    let scripts = at (codes "scripts") (2, omega arith, refl) in
    let change = at (codes "change") (3, omega arith, refl) in
    required Field (codes "height") (λ m. field (number_at (codes "height") 100_000_000 m)) _ _ d height.0 height.1 (λ h h_is.
    required Field (codes "hash") (λ m. field (hash_at (codes "hash") m)) _ _ d hash.0 hash.1 (λ _ _.
    required Field (codes "scripts") scripts_at _ _ d scripts.0 scripts.1 (λ ws ws_is.
    let high : height_said d ≡ h = said_so 0 (λ m. field (number_at (codes "height") 100_000_000 m)) (codes "height") d height.0 h height.1 h_is in
    let count : scripts_said d ≡ ws = said_so [] scripts_at (codes "scripts") d scripts.0 ws scripts.1 ws_is in
    rw (count, high) (
    required Field (codes "change") (change_at (length ws)) _ _ d change.0 change.1 (λ _ _.
    left_out [] (earlier_list_at h) _ _ (get (codes "earlier") d) (λ es es_is.
    left_out [] pending_list_at _ _ (get (codes "pending") d) (λ ts ts_is.
    let earlier : said [] (earlier_list_at h) (get (codes "earlier") d) ≡ es = said_is [] (earlier_list_at h) (get (codes "earlier") d) es es_is in
    let pending : pending_said d ≡ ts = said_is [] pending_list_at (get (codes "pending") d) ts ts_is in
    rw (earlier, pending) (
    form_of [] abandoned_list_at _ _ (get (codes "abandoned") d) (λ _.
    form_of [] locked_list_at _ _ (get (codes "locked") d) (λ _.
    part (lists_at es ts) _ _ (λ _ _. refl)))))))))))
    )

-- a list of the form that may be left out
behind_form : {A B : Type 0} (default : A) (reading : Data → Result A FieldFault) (then : A → Result B Refusal) (o : Option Data) (out : B) → (field (optional default reading o) >>= then) ≡ Ok out → then (said default (λ m. field (reading m)) o) ≡ Ok out
behind_form default reading then None out e = e
behind_form default reading then (Some m) out e = behind_left_out default (λ v. field (reading v)) then (Some m) out e

-- each field is what its own member says
pub values : (d : Data) (w : PlainWallet) → wallet_at d ≡ Ok w → w ≡ said_by d
unfolding wallet_at said_by
values d w e =
    let object = bind_ok (field (object_at (codes "root") known_names required_names d)) _ w e in
    let height = behind_required Field 0 (codes "height") (λ m. field (number_at (codes "height") 100_000_000 m)) _ d w object.2 in
    let hash = behind_required Field [] (codes "hash") (λ m. field (hash_at (codes "hash") m)) _ d w height in
    let scripts = behind_required Field [] (codes "scripts") scripts_at _ d w hash in
    let change = behind_required Field (record { script = []; weight = 0 }) (codes "change") (change_at (length (scripts_said d))) _ d w scripts in
    let earlier = behind_left_out [] (earlier_list_at (height_said d)) _ (get (codes "earlier") d) w change in
    let pending = behind_left_out [] pending_list_at _ (get (codes "pending") d) w earlier in
    let abandoned = behind_form [] abandoned_list_at _ (get (codes "abandoned") d) w pending in
    let locked = behind_form [] locked_list_at _ (get (codes "locked") d) w abandoned in
    let lists = bind_ok (lists_at (earlier_said d) (pending_said d)) _ w locked in
    sym (cc lists.2)
