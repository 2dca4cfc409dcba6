-- The one fault of a value by itself, from what is wrong with it.
use Rattle.std.proofs.Common.{◌≡◌, ◌≢◌, ℕ, Bool, List, length, reverse, Option, Some, None, Result, Ok, Err, refl, sym, ap, ◌∙◌}
use Rattle.std.specs.Option.{ok_or}
use Rattle.std.specs.Prelude.{◌↔◌}
use Rattle.fund_base.proofs.Laws.{bind_ok}
use Rattle.fund_base.specs.Parsing.{◌>>=◌}
use Rattle.fund_base.specs.declared.outpoint.OutPoint.{OutPoint}
use Rattle.json_fields.proofs.CoinLaws as coins
use Rattle.json_fields.proofs.HexLaws as hex
use Rattle.json_fields.proofs.NumberLaws as numbers
use Rattle.json_fields.specs.Fields.{coin_at, coin_in, entries_at, flag_at, hash_at, hash_in, hex_at, number_at, text_at}
use Rattle.json_fields.specs.Rules.{IsHexString}
use Rattle.json_fields.specs.declared.fault.FieldFault.{FieldFault}
use Rattle.json_fields.specs.declared.fault.FieldFault.TheVariants.{Kind}
use Rattle.serde_json.specs.Data.{Data, null, boolean, number, string, array, object, Items}
use Rattle.serde_json.specs.View.{items_of}
use Rattle.entry_laws.specs.Forms.{IsCoinString, IsHashString, IsNoCoin, IsNoHash, IsNoHex, IsNoList, IsNoNumber}
use Rattle.entry_laws.proofs.ListFaults.{listed}

-- Where a reader takes just what is so, and tells nothing but its own kind, it tells that of just what is never so.
pub told_by : {X : Type 0} (r : Result X FieldFault) (name : List ℕ) (Is : X → Type 0) → ((x : X) → (r ≡ Ok x) ↔ Is x) → ((fault : FieldFault) → r ≡ Err fault → fault ≡ Kind name) → (fault : FieldFault)
    → (r ≡ Err fault) ↔ ((fault ≡ Kind name) × ((x : X) → ¬ Is x))
told_by {X} r name Is exact one fault = (λ e. (one fault e, λ x is. let taken = (exact x).1 is in cc (e, taken)), λ is. by r refl is.0 is.1)
  where
    by : (s : Result X FieldFault) → r ≡ s → fault ≡ Kind name → ((x : X) → ¬ Is x) → r ≡ Err fault
    by (Ok x) e named none = absurd (none x ((exact x).0 e))
    by (Err other) e named none = e ∙ ap (λ f. Err f) (one other e ∙ sym named)

-- a value that is turned into an option
pub kind_alone : {X : Type 0} (o : Option X) (name : List ℕ) (fault : FieldFault) → ok_or o (Kind name) ≡ Err fault → fault ≡ Kind name
kind_alone None name fault e = cc
kind_alone (Some x) name fault e = absurd (cc e)

-- ---- numbers, and bytes in hex

pub number_law : (name : List ℕ) (most : ℕ) (d : Data) (fault : FieldFault) → (number_at name most d ≡ Err fault) ↔ ((fault ≡ Kind name) × IsNoNumber most d)
number_law name most d fault = (
  λ e. (numbers.fault name most d fault e, λ n le is. let taken = ap (number_at name most) is ∙ numbers.only name most n le in cc (e, taken)),
  λ is. by (number_at name most d) refl is.0 is.1,
)
  where
    by : (r : Result ℕ FieldFault) → number_at name most d ≡ r → fault ≡ Kind name → IsNoNumber most d → number_at name most d ≡ Err fault
    by (Ok n) e named none = let is = numbers.found name most n d e in absurd (none n is.1 is.0)
    by (Err other) e named none = e ∙ ap (λ f. Err f) (numbers.fault name most d other e ∙ sym named)

pub number_wrong : (name : List ℕ) (most : ℕ) (d : Data) → IsNoNumber most d → number_at name most d ≡ Err (Kind name)
number_wrong name most d none = (number_law name most d (Kind name)).1 (refl, none)

pub hex_law : (name : List ℕ) (d : Data) (fault : FieldFault) → (hex_at name d ≡ Err fault) ↔ ((fault ≡ Kind name) × IsNoHex d)
hex_law name d fault = told_by (hex_at name d) name (λ bytes. IsHexString d bytes) (λ bytes. (λ e. hex.found name bytes d e, λ is. hex.only name bytes d is)) (λ other e. (hex.refused name d other e).0) fault

pub hex_wrong : (name : List ℕ) (d : Data) → IsNoHex d → hex_at name d ≡ Err (Kind name)
hex_wrong name d none = (hex_law name d (Kind name)).1 (refl, none)

-- ---- truth values, texts and lists

flag_exact : (name : List ℕ) (d : Data) (b : Bool) → (flag_at name d ≡ Ok b) ↔ (d ≡ boolean b)
flag_exact name d b = (found d, λ is. ap (flag_at name) is)
  where
    found : (x : Data) → flag_at name x ≡ Ok b → x ≡ boolean b
    found (boolean c) e = let same : c ≡ b = cc in ap (λ y. boolean y) same
    found null e = absurd (cc e)
    found (number n) e = absurd (cc e)
    found (string s) e = absurd (cc e)
    found (array ds) e = absurd (cc e)
    found (object ms) e = absurd (cc e)

pub flag_law : (name : List ℕ) (d : Data) (fault : FieldFault) → (flag_at name d ≡ Err fault) ↔ ((fault ≡ Kind name) × ((b : Bool) → d ≢ boolean b))
flag_law name d fault = told_by (flag_at name d) name (λ b. d ≡ boolean b) (flag_exact name d) (λ other e. kind_alone _ name other e) fault

pub text_exact : (name : List ℕ) (d : Data) (text : List ℕ) → (text_at name d ≡ Ok text) ↔ (d ≡ string text)
text_exact name d text = (found d, λ is. ap (text_at name) is)
  where
    found : (x : Data) → text_at name x ≡ Ok text → x ≡ string text
    found (string s) e = let same : s ≡ text = cc in ap (λ y. string y) same
    found null e = absurd (cc e)
    found (boolean b) e = absurd (cc e)
    found (number n) e = absurd (cc e)
    found (array ds) e = absurd (cc e)
    found (object ms) e = absurd (cc e)

pub text_law : (name : List ℕ) (d : Data) (fault : FieldFault) → (text_at name d ≡ Err fault) ↔ ((fault ≡ Kind name) × ((text : List ℕ) → d ≢ string text))
text_law name d fault = told_by (text_at name d) name (λ text. d ≡ string text) (text_exact name d) (λ other e. kind_alone _ name other e) fault

entries_exact : (name : List ℕ) (d : Data) (items : Items) → (entries_at name d ≡ Ok items) ↔ (d ≡ array items)
entries_exact name d items = (found d, λ is. ap (entries_at name) is)
  where
    found : (x : Data) → entries_at name x ≡ Ok items → x ≡ array items
    found (array ds) e = let same : ds ≡ items = cc in ap (λ y. array y) same
    found null e = absurd (cc e)
    found (boolean b) e = absurd (cc e)
    found (number n) e = absurd (cc e)
    found (string s) e = absurd (cc e)
    found (object ms) e = absurd (cc e)

pub list_law : (name : List ℕ) (d : Data) (fault : FieldFault) → (entries_at name d ≡ Err fault) ↔ ((fault ≡ Kind name) × IsNoList d)
list_law name d fault = (
  λ e. let told = by.0 e in (told.0, λ ds is. told.1 (items_of ds) is),
  λ is. by.1 (is.0, λ items at. let l = listed items in is.1 l.0 (at ∙ ap (λ i. array i) l.1)),
)
  where
    by : (entries_at name d ≡ Err fault) ↔ ((fault ≡ Kind name) × ((items : Items) → d ≢ array items))
    by = told_by (entries_at name d) name (λ items. d ≡ array items) (entries_exact name d) (λ other e. kind_alone _ name other e) fault

-- ---- hashes and coins

pub hash_law : (name : List ℕ) (d : Data) (hash : List ℕ) → (hash_at name d ≡ Ok hash) ↔ IsHashString d hash
unfolding hash_at
hash_law name d hash = (
  λ e. found (bind_ok (text_at name d) _ hash e),
  λ is. only is.spelled (is.len),
)
  where
    found : (text : List ℕ) × (text_at name d ≡ Ok text) × (ok_or (hash_in text) (Kind name) ≡ Ok hash) → IsHashString d hash
    found r =
        let law = hex.hash_found r.0 hash (given (hash_in r.0) r.2) in
        record { len = law.0; spelled = (r.0, (text_exact name d r.0).0 r.1, law.1) }
      where
        given : (o : Option (List ℕ)) → ok_or o (Kind name) ≡ Ok hash → o ≡ Some hash
        given None reads = absurd (cc reads)
        given (Some h) reads = let same : h ≡ hash = cc in ap (λ x. Some x) same

    only : IsHexString d (reverse hash) → length hash ≡ 32 → (text_at name d >>= λ text. ok_or (hash_in text) (Kind name)) ≡ Ok hash
    only is len = rw ((text_exact name d is.0).1 is.1, hex.hash_only is.0 hash len is.2) refl

pub hash_fault_law : (name : List ℕ) (d : Data) (fault : FieldFault) → (hash_at name d ≡ Err fault) ↔ ((fault ≡ Kind name) × IsNoHash d)
unfolding hash_at
hash_fault_law name d fault = told_by (hash_at name d) name (λ hash. IsHashString d hash) (hash_law name d) (λ other e. by (text_at name d) refl other e) fault
  where
    by : (r : Result (List ℕ) FieldFault) → text_at name d ≡ r → (other : FieldFault) → (r >>= λ text. ok_or (hash_in text) (Kind name)) ≡ Err other → other ≡ Kind name
    by (Ok text) is other e = kind_alone (hash_in text) name other e
    by (Err f) is other e = let same : f ≡ other = cc in sym same ∙ ((text_law name d f).0 is).0

pub coin_law : (name : List ℕ) (d : Data) (coin : OutPoint) → (coin_at name d ≡ Ok coin) ↔ IsCoinString d coin
unfolding coin_at
coin_law name d coin = (
  λ e. found (bind_ok (text_at name d) _ coin e),
  λ is. rw ((text_exact name d is.0).1 is.1, coins.only is.0 coin is.2) refl,
)
  where
    found : (text : List ℕ) × (text_at name d ≡ Ok text) × (ok_or (coin_in text) (Kind name) ≡ Ok coin) → IsCoinString d coin
    found r = (r.0, (text_exact name d r.0).0 r.1, coins.found r.0 coin (given (coin_in r.0) r.2))
      where
        given : (o : Option OutPoint) → ok_or o (Kind name) ≡ Ok coin → o ≡ Some coin
        given None reads = absurd (cc reads)
        given (Some c) reads = let same : c ≡ coin = cc in ap (λ x. Some x) same

pub coin_fault_law : (name : List ℕ) (d : Data) (fault : FieldFault) → (coin_at name d ≡ Err fault) ↔ ((fault ≡ Kind name) × IsNoCoin d)
unfolding coin_at
coin_fault_law name d fault = told_by (coin_at name d) name (λ coin. IsCoinString d coin) (coin_law name d) (λ other e. by (text_at name d) refl other e) fault
  where
    by : (r : Result (List ℕ) FieldFault) → text_at name d ≡ r → (other : FieldFault) → (r >>= λ text. ok_or (coin_in text) (Kind name)) ≡ Err other → other ≡ Kind name
    by (Ok text) is other e = kind_alone (coin_in text) name other e
    by (Err f) is other e = let same : f ≡ other = cc in sym same ∙ ((text_law name d f).0 is).0
