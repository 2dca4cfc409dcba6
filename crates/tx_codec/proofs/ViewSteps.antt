-- A transaction that was passed over is the one that stands at the front of its bytes, and they hold its parts.
use Rattle.std.proofs.Common.{◌≡◌, ◌≢◌, ◌∙◌, ℕ, ◌+◌, ◌-◌, ◌≤◌, Bool, true, false, List, [], ◌∷◌, ◌++◌, length, take, drop, Result, Ok, Err, refl, sym, ap, subst, append_assoc, arith}
use Rattle.std.specs.Int.{w32, to_le_bytes}
use Rattle.std.specs.List.{flat_map}
use Rattle.std.proofs.lemmas.List.{append-nil, drop_at, length-append, take_at}
use Rattle.sha2.specs.Sha256.{sha256}
use Rattle.fund_base.specs.CompactSize.{counted}
use Rattle.fund_base.specs.Cursor.{At, IsBytes}
use Rattle.fund_base.specs.Parsing.{Yields}
use Rattle.fund_base.proofs.Laws.{ok_is}
use Rattle.tx_codec.specs.Passing.{HoldsTx, IsViewed, in_front, start_of, viewed}
use Rattle.tx_codec.specs.Reading.{tx_at}
use Rattle.tx_codec.specs.Transaction.{Transaction}
use Rattle.tx_codec.specs.TransactionText.{IsTransaction, bare_text, input_text, output_text, segregated_text, stack_text, text_of}
use Rattle.tx_codec.specs.Txid.{txid_of}
use Rattle.tx_codec.specs.declared.fault.TxFault.{TxFault}
use Rattle.tx_codec.specs.declared.fault.TxFault.TheVariants.{Memory}
use Rattle.tx_codec.proofs.Laws.{tx_reads}
use Rattle.tx_codec.proofs.PublicClauses.{only_memory}

-- ---- the parts of a list

lead : (n : ℕ) (a b bytes : List ℕ) → bytes ≡ a ++ b → length a ≡ n → take n bytes ≡ a
lead n a b bytes is len = ap (λ (l : List ℕ). take n l) is ∙ take_at a b n len

rear : (n : ℕ) (a b bytes : List ℕ) → bytes ≡ a ++ b → length a ≡ n → drop n bytes ≡ b
rear n a b bytes is len = ap (λ (l : List ℕ). drop n l) is ∙ drop_at a b n len

-- a text's version, body and lock time, where other bytes stand between
pub record HasParts (bytes version between body stacks locktime : List ℕ) (start len : ℕ) : Type 0 where
  pub is : bytes ≡ version ++ (between ++ (body ++ (stacks ++ locktime)))
  pub version_len : length version ≡ 4
  pub locktime_len : length locktime ≡ 4
  pub start_is : 4 + length between ≡ start
  pub len_is : length body ≡ len

parts_len : (bytes version between body stacks locktime : List ℕ) (start len : ℕ) → HasParts bytes version between body stacks locktime start len → length bytes ≡ start + len + length stacks + 4
parts_len bytes version between body stacks locktime start len h =
    omega (
      arith,
      ap (λ (l : List ℕ). length l) h.is,
      length-append version (between ++ (body ++ (stacks ++ locktime))),
      length-append between (body ++ (stacks ++ locktime)),
      length-append body (stacks ++ locktime),
      length-append stacks locktime,
      h.version_len,
      h.locktime_len,
      h.start_is,
      h.len_is,
    )

-- what stands behind the version and what follows it
pub parts_behind : (bytes version between body stacks locktime : List ℕ) (start len : ℕ) → HasParts bytes version between body stacks locktime start len → drop start bytes ≡ body ++ (stacks ++ locktime)
parts_behind bytes version between body stacks locktime start len h =
    let front : bytes ≡ (version ++ between) ++ (body ++ (stacks ++ locktime)) = h.is ∙ sym (append_assoc version between (body ++ (stacks ++ locktime))) in
    rear start (version ++ between) (body ++ (stacks ++ locktime)) bytes front (omega (arith, length-append version between, h.version_len, h.start_is))

parts_are : (bytes version between body stacks locktime : List ℕ) (start len : ℕ) → HasParts bytes version between body stacks locktime start len
    → version ++ (body ++ locktime) ≡ take 4 bytes ++ (take len (drop start bytes) ++ drop (length bytes - 4) bytes)
parts_are bytes version between body stacks locktime start len h =
    let first : take 4 bytes ≡ version = lead 4 version (between ++ (body ++ (stacks ++ locktime))) bytes h.is h.version_len in
    let front : bytes ≡ (version ++ between) ++ (body ++ (stacks ++ locktime)) = h.is ∙ sym (append_assoc version between (body ++ (stacks ++ locktime))) in
    let behind = parts_behind bytes version between body stacks locktime start len h in
    let middle : take len (drop start bytes) ≡ body = lead len body (stacks ++ locktime) (drop start bytes) behind h.len_is in
    let to_end : bytes ≡ ((version ++ between) ++ (body ++ stacks)) ++ locktime =
    front
    ∙ ap (λ (l : List ℕ). (version ++ between) ++ l) (sym (append_assoc body stacks locktime))
    ∙ sym (append_assoc (version ++ between) (body ++ stacks) locktime) in
    let before : length ((version ++ between) ++ (body ++ stacks)) ≡ length bytes - 4 =
    omega (arith, ap (λ (l : List ℕ). length l) to_end, length-append ((version ++ between) ++ (body ++ stacks)) locktime, h.locktime_len) in
    let last : drop (length bytes - 4) bytes ≡ locktime = rear (length bytes - 4) ((version ++ between) ++ (body ++ stacks)) locktime bytes to_end before in
    rw (first, middle, last) refl

-- ---- a transaction's text

four : (n : ℕ) → length (to_le_bytes w32 n) ≡ 4
four n = refl

abbrev pub body_of : Transaction → List ℕ
body_of t = counted input_text t.inputs ++ counted output_text t.outputs

pub legacy_parts : (t : Transaction) (bytes : List ℕ) (len : ℕ) → t.segwit ≡ false → length (body_of t) ≡ len → bytes ≡ text_of t → HasParts bytes (to_le_bytes w32 t.version) [] (body_of t) [] (to_le_bytes w32 t.locktime) 4 len
unfolding bare_text
legacy_parts t bytes len form long is = record {
  is = is ∙ rw form (ap (λ (l : List ℕ). to_le_bytes w32 t.version ++ l) (sym (append_assoc (counted input_text t.inputs) (counted output_text t.outputs) (to_le_bytes w32 t.locktime))));
  version_len = four t.version;
  locktime_len = four t.locktime;
  start_is = refl;
  len_is = long;
}

pub segregated_parts : (t : Transaction) (bytes : List ℕ) (len : ℕ) → t.segwit ≡ true → length (body_of t) ≡ len → bytes ≡ text_of t
    → HasParts bytes (to_le_bytes w32 t.version) (0 ∷ 1 ∷ []) (body_of t) (flat_map stack_text t.inputs) (to_le_bytes w32 t.locktime) 6 len
unfolding segregated_text
segregated_parts t bytes len form long is = record {
  is =
      is
      ∙ rw form (ap (λ (l : List ℕ). to_le_bytes w32 t.version ++ (0 ∷ 1 ∷ l)) (sym (append_assoc (counted input_text t.inputs) (counted output_text t.outputs) (flat_map stack_text t.inputs ++ to_le_bytes w32 t.locktime))));
  version_len = four t.version;
  locktime_len = four t.locktime;
  start_is = refl;
  len_is = long;
}

bare_is : (t : Transaction) → bare_text t ≡ to_le_bytes w32 t.version ++ (body_of t ++ to_le_bytes w32 t.locktime)
unfolding bare_text
bare_is t = ap (λ (l : List ℕ). to_le_bytes w32 t.version ++ l) (sym (append_assoc (counted input_text t.inputs) (counted output_text t.outputs) (to_le_bytes w32 t.locktime)))

record Shows (t : Transaction) (bytes : List ℕ) (segwit : Bool) (len : ℕ) : Type 0 where
  pub bare : bare_text t ≡ take 4 bytes ++ (take len (drop (start_of segwit) bytes) ++ drop (length bytes - 4) bytes)
  pub room : start_of segwit + len + 4 ≤ length bytes

shows : (t : Transaction) (bytes : List ℕ) (segwit : Bool) (len : ℕ) → t.segwit ≡ segwit → length (body_of t) ≡ len → bytes ≡ text_of t → Shows t bytes segwit len
shows t bytes false len form long is =
    let p = legacy_parts t bytes len form long is in
    record { bare = bare_is t ∙ parts_are _ _ _ _ _ _ _ _ p; room = omega (arith, parts_len _ _ _ _ _ _ _ _ p) }
shows t bytes true len form long is =
    let p = segregated_parts t bytes len form long is in
    record { bare = bare_is t ∙ parts_are _ _ _ _ _ _ _ _ p; room = omega (arith, parts_len _ _ _ _ _ _ _ _ p) }

-- ---- what was passed over

pub record ViewedFront (old new : At) (text : List ℕ) (segwit : Bool) (len : ℕ) : Type 0 where
  pub viewed_is : IsViewed text segwit len
  pub exact : tx_at old ≡ Ok (viewed text, new)

pub passed_len : (old new : At) (segwit : Bool) (len : ℕ) → IsBytes old.rest → HoldsTx (tx_at old) new segwit len → length new.rest ≤ length old.rest
passed_len old new segwit len fits h =
    let t = tx_reads.takes old (h.tx, new) fits h.is in
    omega (arith, ap (λ (l : List ℕ). length l) t.0.parts, length-append (text_of h.tx) new.rest)

viewed_is : (text : List ℕ) (tx : Transaction) (next : At) → tx_at (record { rest = text; place = 0 }) ≡ Ok (tx, next) → viewed text ≡ tx
unfolding viewed
viewed_is text tx next h = ap in_front h

pub viewed_front : (old new : At) (text : List ℕ) (segwit : Bool) (len : ℕ) → IsBytes old.rest → HoldsTx (tx_at old) new segwit len → text ≡ take (length old.rest - length new.rest) old.rest → ViewedFront old new text segwit len
viewed_front old new text segwit len fits h is =
    let t = tx_reads.takes old (h.tx, new) fits h.is in
    let long : length (text_of h.tx) ≡ length old.rest - length new.rest = omega (arith, ap (λ (l : List ℕ). length l) t.0.parts, length-append (text_of h.tx) new.rest) in
    let text_is : text ≡ text_of h.tx = is ∙ lead (length old.rest - length new.rest) (text_of h.tx) new.rest old.rest t.0.parts long in
    let a = tx_reads.again h.tx (record { rest = text; place = 0 }) [] t.1 (text_is ∙ sym (append-nil (text_of h.tx))) in
    let same : viewed text ≡ h.tx = viewed_is text h.tx a.next a.reads in
    let s = shows h.tx text segwit len h.form h.text_len text_is in
    record {
      viewed_is = record {
        whole = rw same t.1;
        text = rw same text_is;
        bare = rw same s.bare;
        room = s.room;
        form = rw same h.form;
      };
      exact = rw same h.is;
    }

-- the front of what a cursor had, as a call has its parts
pub front_viewed : (old ahead new : At) (text rest front : List ℕ) (segwit : Bool) (len : ℕ) → IsBytes old.rest → ahead ≡ old → HoldsTx (tx_at ahead) new segwit len → text ≡ old.rest → rest ≡ new.rest → front ≡ take (length text - length rest) text → ViewedFront old new front segwit len
front_viewed old ahead new text rest front segwit len fits same h text_is rest_is front_is =
    let there : HoldsTx (tx_at old) new segwit len = subst (λ (at : At). HoldsTx (tx_at at) new segwit len) same h in
    let is : front ≡ take (length old.rest - length new.rest) old.rest =
    front_is ∙ ap (λ (l : List ℕ). take (length l - length rest) l) text_is ∙ ap (λ (l : List ℕ). take (length old.rest - length l) old.rest) rest_is in
    viewed_front old new front segwit len fits there is

pub front_len : (old ahead new : At) (text rest : List ℕ) (segwit : Bool) (len : ℕ) → IsBytes old.rest → ahead ≡ old → HoldsTx (tx_at ahead) new segwit len → text ≡ old.rest → rest ≡ new.rest → length rest ≤ length text
front_len old ahead new text rest segwit len fits same h text_is rest_is =
    let there : HoldsTx (tx_at old) new segwit len = subst (λ (at : At). HoldsTx (tx_at at) new segwit len) same h in
    omega (arith, passed_len old new segwit len fits there, ap (λ (l : List ℕ). length l) text_is, ap (λ (l : List ℕ). length l) rest_is)

-- the parts of a view's text are the bytes that its txid is taken over
pub txid_is : (text : List ℕ) (segwit : Bool) (len : ℕ) (version behind body locktime : List ℕ) (start : ℕ) → IsViewed text segwit len → version ≡ take 4 text → start ≡ start_of segwit → behind ≡ drop start text → body ≡ take len behind → locktime ≡ drop (length text - 4) text
    → sha256 (sha256 (version ++ (body ++ locktime))) ≡ txid_of (viewed text)
unfolding txid_of
txid_is text segwit len version behind body locktime start v version_is start_is behind_is body_is locktime_is =
    let middle : body ≡ take len (drop (start_of segwit) text) = body_is ∙ ap (λ (l : List ℕ). take len l) behind_is ∙ ap (λ (n : ℕ). take len (drop n text)) start_is in
    let same : version ++ (body ++ locktime) ≡ take 4 text ++ (take len (drop (start_of segwit) text) ++ drop (length text - 4) text) = λ k. version_is k ++ (middle k ++ locktime_is k) in
    ap (λ (m : List ℕ). sha256 (sha256 m)) (same ∙ sym v.bare)

-- each text of a transaction is lent, since no memory is asked for
pub only_viewed : (old new : At) (result : Result Transaction TxFault) → Yields Memory (λ t. t) new result (tx_at old) → result ≢ Err Memory → (tx : Transaction) (rest : List ℕ) → IsTransaction tx → old.rest ≡ text_of tx ++ rest
    → (result ≡ Ok tx) × (new.rest ≡ rest)
only_viewed old new (Ok t) given never tx rest fits is =
    let a = tx_reads.again tx old rest fits is in
    let same : (t, new) ≡ (tx, a.next) = ok_is (t, new) (tx, a.next) (tx_at old) given a.reads in
    let first : t ≡ tx = ap (λ (p : Transaction × At). p.0) same in
    (ap (λ (x : Transaction). Ok x) first, ap (λ (p : Transaction × At). p.1.rest) same ∙ a.left)
only_viewed old new (Err e) given never tx rest fits is =
    let a = tx_reads.again tx old rest fits is in
    let short : e ≡ Memory = only_memory e (λ other. absurd (cc (given other, a.reads))) in
    absurd (never (ap (λ (x : TxFault). Err x) short))
