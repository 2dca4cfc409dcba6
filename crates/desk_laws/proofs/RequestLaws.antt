-- A request that is read keeps the rules of a request.
use Rattle.std.specs.Prelude.{ℕ, suc, zero, ◌≡◌, ◌≢◌, ◌≤◌, ◌<◌, ◌++◌, List, [], ◌∷◌, All, AllPairs, true, Option, None, Some, IfSome, IsSome, Result, Ok, Err, codes, is_some, length, replicate, take}
use Rattle.std.specs.Bool.{⊤}
use Rattle.std.specs.Result.{result_err, result_unwrap_or}
use Rattle.std.proofs.lemmas.Option.{none-some}
use Rattle.std.proofs.Common.{refl, sym, ap, ◌∙◌, subst, inl, inr, arith, get_or, ◌⊎◌}
use Rattle.std.proofs.lemmas.Bool.{cases_lt}
use Rattle.std.proofs.lemmas.List.Elements.{All-nil, All-push, All-replicate}
use Rattle.fund_base.proofs.Laws.{bind_ok}
use Rattle.fund_base.specs.Cursor.{IsBytes}
use Rattle.fund_base.specs.Parsing.{◌>>=◌, fault_as}
use Rattle.fund_base.specs.declared.outpoint.OutPoint.{OutPoint}
use Rattle.json_fields.proofs.HexLaws as hexes
use Rattle.json_fields.proofs.NumberLaws as numbers
use Rattle.json_fields.proofs.Tables.{there}
use Rattle.json_fields.proofs.ValueFacts.{coin_is, hash_is, hex_is}
use Rattle.json_fields.specs.Fields.{IsHash, IsPoint, coin_at, each_from, entries_at, number_at, object_at, optional, value_of}
use Rattle.json_fields.specs.Rules.{first_some, said, wrong}
use Rattle.json_fields.specs.declared.fault.FieldFault.{FieldFault}
use Rattle.segwit_addr.proofs.Addresses.{address_is}
use Rattle.segwit_addr.proofs.Found.{decode_found}
use Rattle.serde_json.specs.Data.{Data, Items, no_items, item}
use Rattle.serde_json.specs.Find.{get}
use Rattle.request_text.proofs.Alone.{alone}
use Rattle.request_text.proofs.RangeLaws as ranges
use Rattle.request_text.proofs.RecipientLaws as entries
use Rattle.request_text.proofs.RecipientLists as lists
use Rattle.request_text.proofs.RepeatLaws.{none_twice}
use Rattle.request_text.proofs.SeedLaws as seeds
use Rattle.request_text.proofs.TableLaws.{first, recipients_required, values}
use Rattle.request_text.proofs.Witness.{most, some}
use Rattle.request_text.specs.Entries.{IsNoScript, PaysTo}
use Rattle.request_text.specs.PlainRequest.{IsRecipient, IsRequest, IsVersion, PlainRequest, paid_to}
use Rattle.request_text.specs.RequestText.{bump_at, coins_at, distinct_at, field, known_in, or_else, rate_at, recipient_behind, recipients_at, repeat_behind, request_at, request_of, required_in, seed_at, tries_at, version_at}
use Rattle.request_text.specs.Table.{member_faults, number_of_name, said_by}
use Rattle.request_text.specs.declared.fault.Refusal.TheVariants.{Field}
use Rattle.request_text.specs.declared.request.Recipient.{Recipient}

-- ---- members

-- what is read with faults of another type is read
from_told : {A E F : Type 0} (tell : E → F) (r : Result A E) (x : A) → fault_as tell r ≡ Ok x → r ≡ Ok x
from_told tell (Ok y) x e = let same : y ≡ x = cc in ap (λ z. Ok z) same
from_told tell (Err f) x e = absurd cc

-- what holds of a default and of whatever is read
by_optional : {A E : Type 0} (P : A → Type 0) (default : A) (reading : Data → Result A E) (o : Option Data) (x : A) → P default → ((m : Data) (y : A) → reading m ≡ Ok y → P y) → optional default reading o ≡ Ok x → P x
by_optional {A} {E} P default reading None x d h e = let same : default ≡ x = cc in subst P same d
by_optional {A} {E} P default reading (Some m) x d h e = h m x e

number_most : (name : List ℕ) (most : ℕ) (m : Data) (n : ℕ) → field (number_at name most m) ≡ Ok n → n ≤ most
number_most name most m n e = (numbers.found name most n m (from_told Field (number_at name most m) n e)).1

rate_most : (name : List ℕ) (m : Data) (n : ℕ) → rate_at name m ≡ Ok n → n ≤ 100_000_000
rate_most name m n e = ((ranges.rate name m n).0 e).1

tries_are : (m : Data) (n : ℕ) → tries_at m ≡ Ok n → (1 ≤ n) × (n ≤ 10_000_000)
tries_are m n e = let t = (ranges.tries m n).0 e in (t.1, t.2)

seed_is : (m : Data) (seed : List ℕ) → field (seed_at m) ≡ Ok seed → IsHash seed
seed_is m seed e = (seeds.found m seed (from_told Field (seed_at m) seed e)).1

version_is : (m : Data) (n : ℕ) → field (version_at m) ≡ Ok n → IsVersion n
version_is m n e = ((ranges.versions m n).0 (from_told Field (version_at m) n e)).1

no_seed : IsHash (replicate 32 0)
no_seed = record { len = refl; bytes = All-replicate (λ b. b < 256) 32 0 (omega arith) }

-- ---- recipients

script_length : (script : List ℕ) → (IsNoScript script → ⊥) → (1 ≤ length script) × (length script ≤ 10_000)
script_length script h = (least (length script) refl, greatest (cases_lt 10_000 (length script)))
  where
    least : (n : ℕ) → length script ≡ n → 1 ≤ length script
    least zero e = absurd (h (inl e))
    least (suc n) e = omega (arith, e)

    greatest : (10_000 < length script) ⊎ (length script ≤ 10_000) → length script ≤ 10_000
    greatest (inl more) = absurd (h (inr more))
    greatest (inr le) = le

record IsPaid (script : List ℕ) : Type 0 where
  bytes : IsBytes script
  some : 1 ≤ length script
  most : length script ≤ 10_000

paid_script : (d : Data) (script : List ℕ) (amount : ℕ) → PaysTo d script amount → IsPaid script
paid_script d script amount (inl to) =
    let a = decode_found to.0 script to.2 in
    let w = (address_is script _ a.spells).0 in
    record { bytes = a.bytes; some = some script w; most = most script w }
paid_script d script amount (inr to) =
    let spelled = to.0.spelled in
    let size = script_length script to.1 in
    record { bytes = hex_is (codes "script") spelled.0 script (hexes.only (codes "script") script spelled.0 spelled.2); some = size.0; most = size.1 }

recipient_is : (before : List Recipient) (d : Data) (r : Recipient) → recipient_behind before d ≡ Ok r → IsRecipient r
recipient_is before d r e =
    let t = (entries.taken before d r).0 e in
    let s = paid_script d r.script r.amount t.0 in
    record { bytes = s.bytes; some = s.some; most = s.most; dust = t.1; money = t.2 }

-- ---- lists of what is read

each_holds : {A E : Type 0} (P : A → Type 0) (reading : List A → Data → Result A E) (front : List A) (ds : Items) (out : List A) → ((before : List A) (d : Data) (x : A) → reading before d ≡ Ok x → P x) → All P front → each_from reading front ds ≡ Ok out → All P out
unfolding each_from
each_holds {A} {E} P reading front no_items out h all e = let same : front ≡ out = cc in subst (All P) same all
each_holds {A} {E} P reading front (item d ds) out h all e =
    let x = bind_ok _ _ out e in
    each_holds P reading (front ++ x.0 ∷ []) ds out h (All-push P front x.0 all (h front d x.0 x.1)) x.2

record AreCoins (coins : List OutPoint) : Type 0 where
  each : All IsPoint coins
  distinct : AllPairs (λ a b. a ≢ b) coins

coins_are : (m : Data) (coins : List OutPoint) → coins_at m ≡ Ok coins → AreCoins coins
unfolding coins_at
coins_are m coins e =
    let ds = bind_ok (field (entries_at (codes "coins") m)) (λ entries. field (each_from (λ _. coin_at (codes "coins")) [] entries) >>= λ cs. distinct_at cs (repeat_behind [] cs)) coins e in
    let read = bind_ok (field (each_from (λ _. coin_at (codes "coins")) [] ds.0)) (λ cs. distinct_at cs (repeat_behind [] cs)) coins ds.2 in
    by read.0 (repeat_behind [] read.0) refl read.2
    (each_holds IsPoint (λ _. coin_at (codes "coins")) [] ds.0 read.0 (λ before d x is. coin_is (codes "coins") d x is) (All-nil IsPoint) (from_told Field (each_from (λ _. coin_at (codes "coins")) [] ds.0) read.0 read.1))
  where
    by : (cs : List OutPoint) (o : Option ℕ) → repeat_behind [] cs ≡ o → distinct_at cs o ≡ Ok coins → All IsPoint cs → AreCoins coins
    by cs (Some place) is h all = absurd cc
    by cs None is h all = let same : cs ≡ coins = cc in subst AreCoins same (record { each = all; distinct = none_twice cs is })

-- ---- what is replaced

record IsReplacing (d : Data) (bump : Option (List ℕ)) : Type 0 where
  hash : IfSome bump IsHash
  there : IsSome bump → is_some (get (codes "bump") d) ≡ true

bump_is : (d : Data) (bump : Option (List ℕ)) → or_else None (λ m. field (bump_at m)) (codes "bump") d ≡ Ok bump → IsReplacing d bump
bump_is d bump e = by (get (codes "bump") d) refl e
  where
    hashed : (m : Data) → field (bump_at m) ≡ Ok bump → IfSome bump IsHash
    hashed m h =
        let x = bind_ok _ _ bump (from_told Field (bump_at m) bump h) in
        let same : Some x.0 ≡ bump = cc in
        subst (λ o. IfSome o IsHash) same (hash_is (codes "bump") m x.0 x.1)

    by : (o : Option Data) → get (codes "bump") d ≡ o → optional None (λ m. field (bump_at m)) o ≡ Ok bump → IsReplacing d bump
    by None is h = let same : None ≡ bump = cc in subst (IsReplacing d) same (record { hash = tt; there = λ s. absurd (cc s) })
    by (Some m) is h = record { hash = hashed m h; there = λ s. ap is_some is }

-- ---- the whole

-- where no fault comes first, none is there
none_at : {E : Type 0} (faults : List (Option E)) → first_some faults ≡ None → (k : ℕ) → get_or faults k None ≡ None
none_at [] e k = refl
none_at {E} (None ∷ faults) e zero = refl
none_at {E} (None ∷ faults) e (suc k) = none_at faults e k
none_at {E} (Some f ∷ faults) e k = absurd (none-some f (sym e))

-- a member without a fault is read, or left out
read_of : {A E : Type 0} (default : A) (reading : Data → Result A E) (o : Option Data) → wrong reading o ≡ None → optional default reading o ≡ Ok (said default reading o)
read_of {A} {E} default reading None e = refl
read_of {A} {E} default reading (Some m) e = by (reading m) refl e
  where
    by : (r : Result A E) → reading m ≡ r → result_err r ≡ None → reading m ≡ Ok (result_unwrap_or r default)
    by (Ok x) is h = is
    by (Err f) is h = absurd (none-some f (sym h))

whole_taken : (d : Data) → result_err (field (object_at (codes "root") (known_in d) (required_in d) d)) ≡ None → object_at (codes "root") (known_in d) (required_in d) d ≡ Ok tt
whole_taken d e = by (object_at (codes "root") (known_in d) (required_in d) d) e
  where
    by : (r : Result ⊤ FieldFault) → result_err (field r) ≡ None → r ≡ Ok tt
    by (Ok tt) h = refl
    by (Err f) h = absurd (none-some _ (sym h))

-- at least one
record ArePaid (rs : List Recipient) : Type 0 where
  some : 1 ≤ length rs
  each : All IsRecipient rs
  money : paid_to rs ≤ 2_100_000_000_000_000

paid_are : (m : Data) (rs : List Recipient) → recipients_at m ≡ Ok rs → ArePaid rs
paid_are m rs e =
    let t = (lists.taken m rs).0 e in
    let read = t.0 in
    record { some = t.1; each = λ k x lt. recipient_is (take k rs) (get_or read.0 k m) (get_or rs k x) (read.3 k m x lt); money = t.2 }

said_paid : (d : Data) → object_at (codes "root") (known_in d) (required_in d) d ≡ Ok tt → wrong recipients_at (get (codes "recipients") d) ≡ None → ArePaid (said [] recipients_at (get (codes "recipients") d))
said_paid d whole e =
    let m = there (codes "root") (known_in d) (required_in d) (codes "recipients") d whole (recipients_required d) in
    by (get (codes "recipients") d) m.1 (read_of [] recipients_at (get (codes "recipients") d) e)
  where
    by : {m : Data} (o : Option Data) → o ≡ Some m → optional [] recipients_at o ≡ Ok (said [] recipients_at o) → ArePaid (said [] recipients_at o)
    by None is h = absurd cc
    by (Some x) is h = paid_are x _ h

-- what an object says without a fault
record SaysWell (d : Data) : Type 0 where
  whole : object_at (codes "root") (known_in d) (required_in d) d ≡ Ok tt
  recipients : wrong recipients_at (get (codes "recipients") d) ≡ None
  rate : wrong (rate_at (codes "rate")) (get (codes "rate") d) ≡ None
  long_term : wrong (rate_at (codes "long_term")) (get (codes "long_term") d) ≡ None
  discard : wrong (rate_at (codes "discard")) (get (codes "discard") d) ≡ None
  change_target : number_of_name (codes "change_target") 2_100_000_000_000_000 d ≡ None
  seed : wrong (λ m. field (seed_at m)) (get (codes "seed") d) ≡ None
  tries : wrong tries_at (get (codes "tries") d) ≡ None
  coins : wrong coins_at (get (codes "coins") d) ≡ None
  bump : wrong (λ m. field (bump_at m)) (get (codes "bump") d) ≡ None
  locktime : number_of_name (codes "locktime") 4_294_967_295 d ≡ None
  psbt : wrong (λ m. field (version_at m)) (get (codes "psbt") d) ≡ None

says_well : (d : Data) → first_some (result_err (field (object_at (codes "root") (known_in d) (required_in d) d)) ∷ member_faults d) ≡ None → SaysWell d
unfolding member_faults
says_well d e =
    let at = none_at (result_err (field (object_at (codes "root") (known_in d) (required_in d) d)) ∷ member_faults d) e in
    record {
      whole = whole_taken d (at 0);
      recipients = at 1;
      rate = at 2;
      long_term = at 3;
      discard = at 4;
      change_target = at 5;
      seed = at 7;
      tries = at 8;
      coins = at 13;
      bump = at 14;
      locktime = at 16;
      psbt = at 17;
    }

said_rules : (d : Data) → SaysWell d → IsRequest (said_by d)
unfolding said_by
said_rules d w =
    let paid = said_paid d w.whole w.recipients in
    let coins = read_of [] coins_at (get (codes "coins") d) w.coins in
    let own = by_optional AreCoins [] coins_at (get (codes "coins") d) _ (record { each = All-nil IsPoint; distinct = λ i j x lt below. absurd (omega (arith, below)) }) coins_are coins in
    let replaced = bump_is d _ (read_of None (λ m. field (bump_at m)) (get (codes "bump") d) w.bump) in
    record {
      some = paid.some;
      recipients = paid.each;
      money = paid.money;
      rate = rate_said 0 (codes "rate") d (omega arith) w.rate;
      long_term = rate_said 10_000 (codes "long_term") d (omega arith) w.long_term;
      discard = rate_said 10_000 (codes "discard") d (omega arith) w.discard;
      change_target = number_said 50_000 (codes "change_target") 2_100_000_000_000_000 d (omega arith) w.change_target;
      seed = by_optional IsHash (replicate 32 0) (λ m. field (seed_at m)) (get (codes "seed") d) _ no_seed seed_is (read_of (replicate 32 0) (λ m. field (seed_at m)) (get (codes "seed") d) w.seed);
      tries = by_optional (λ n. (1 ≤ n) × (n ≤ 10_000_000)) 100_000 tries_at (get (codes "tries") d) _ (omega arith, omega arith) tries_are (read_of 100_000 tries_at (get (codes "tries") d) w.tries);
      coins = own.each;
      distinct = own.distinct;
      bump = replaced.hash;
      alone = λ s. alone d _ w.whole (replaced.there s) coins;
      locktime = let le = number_said 0 (codes "locktime") 4_294_967_295 d (omega arith) w.locktime in omega (arith, le);
      psbt = by_optional IsVersion 0 (λ m. field (version_at m)) (get (codes "psbt") d) _ (inl refl) version_is (read_of 0 (λ m. field (version_at m)) (get (codes "psbt") d) w.psbt);
    }
  where
    rate_said : (default : ℕ) (name : List ℕ) (d : Data) → default ≤ 100_000_000 → wrong (rate_at name) (get name d) ≡ None → said default (rate_at name) (get name d) ≤ 100_000_000
    rate_said default name d low e = by_optional (λ n. n ≤ 100_000_000) default (rate_at name) (get name d) _ low (rate_most name) (read_of default (rate_at name) (get name d) e)

    number_said : (default : ℕ) (name : List ℕ) (most : ℕ) (d : Data) → default ≤ most → number_of_name name most d ≡ None → said default (λ m. field (number_at name most m)) (get name d) ≤ most
    number_said default name most d low e =
        by_optional (λ n. n ≤ most) default (λ m. field (number_at name most m)) (get name d) _ low (number_most name most) (read_of default (λ m. field (number_at name most m)) (get name d) e)

pub request_is : (d : Data) (q : PlainRequest) → request_at d ≡ Ok q → IsRequest q
request_is d q e = subst IsRequest (sym (values d q e)) (said_rules d (says_well d (sym (first d) ∙ ap result_err e)))

pub asked_is : (bytes : List ℕ) (q : PlainRequest) → request_of bytes ≡ Ok q → IsRequest q
unfolding request_of
asked_is bytes q e = let d = bind_ok (field (value_of bytes)) request_at q e in request_is d.0 q d.2
