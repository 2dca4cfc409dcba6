-- Inputs, outputs and witnesses: which of their fields is the first that is broken.
use Rattle.std.proofs.Common.{◌≡◌, ℕ, ◌+◌, ◌^◌, ◌<◌, ◌≤◌, List, [], ◌∷◌, ◌++◌, length, take, drop, All, Result, Ok, Err, refl, sym, ap, subst, ◌∙◌, append_assoc, arith, inl, inr}
use Rattle.std.specs.Prelude.{◌⊎◌}
use Rattle.std.specs.Int.{w32, w64, to_le_bytes, from_le_bytes}
use Rattle.std.specs.List.{flat_map, AllByRecursion}
use Rattle.std.proofs.lemmas.List.{append-nil, length-append, length-take, length-drop, take-append-drop, take_at, drop_at}
use Rattle.std.proofs.lemmas.List.Elements.{All-take, All-drop, All-weaker, All-from_recursion, recursion_from_All}
use Rattle.std.proofs.lemmas.List.Sums.{sum_by-append, sum_by-cons, sum_by_push}
use Rattle.fund_base.specs.declared.cursor.CutFault.{CutFault}
use Rattle.fund_base.specs.CompactSize.{compact, prefixed}
use Rattle.fund_base.specs.Cursor.{At, IsBytes, take_at as bytes_at, number_at, compact_at}
use Rattle.fund_base.specs.Parsing.{◌>>=◌, string_at}
use Rattle.fund_base.proofs.Laws.{Reads}
use Rattle.fund_base.proofs.LawsOfNumbers.{wide32}
use Rattle.fund_base.proofs.Repeat.{AllFrom, all_from, from_all}
use Rattle.tx_codec.specs.declared.fault.TxFault.{TxFault}
use Rattle.tx_codec.specs.declared.fault.TxFault.TheVariants.{NoInputs, NoOutputs}
use Rattle.tx_codec.specs.declared.tx.TxIn.{TxIn}
use Rattle.tx_codec.specs.declared.tx.TxOut.{TxOut}
use Rattle.tx_codec.specs.Fault.{cut_fault}
use Rattle.tx_codec.specs.Reading.{cut, input_at, output_at, output_in, some_at, inputs_at, outputs_at, item_at}
use Rattle.tx_codec.specs.TransactionText.{input_text, output_text, InputFits, OutputFits}
use Rattle.tx_codec.proofs.PartLaws.{number32, bytes, string, StringFits, BareFits, input_reads, FitsBehind, output_reads}
use Rattle.tx_laws.specs.Broken.{IsFirst, FollowsWhole}
use Rattle.tx_laws.specs.Fields.{Field, Breaks}
use Rattle.tx_laws.specs.Fields.Field.{Txid, Index, InputScriptSize, InputScript, Sequence, OutputCount, Value, OutputScriptSize, OutputScript, ItemSize, Item}
use Rattle.tx_laws.specs.Order.{InputComes, OutputComes, ItemComes, IsAmong, AreInputs, sum_of, AreOutputs, InputsCome, OutputsCome}
use Rattle.tx_laws.proofs.Judged.{Judged, Either, IsWithin, checked, first, judged_as, judged_is, many, mapped, then}
use Rattle.tx_laws.proofs.Cuts.{short_told, short_given, size_told, size_given}
use Rattle.tx_laws.proofs.Leaves.{sizes, count_in, IsCount, counts, count_told, count_given, value_in, values, value_told, value_given}

-- ---- a string behind its size

abbrev pub IsSize : ℕ → Type 0
IsSize n = n < 2 ^ 64

abbrev pub StringComes : Field → (ℕ → Field) → List ℕ → Field → Type 0
StringComes size body = Either (IsFirst size) compact IsSize (λ n. IsFirst (body n))

cut_then : {A B : Type 0} (r : Result A CutFault) (f : A → Result B CutFault) → (cut r >>= λ x. cut (f x)) ≡ cut (r >>= f)
cut_then (Ok x) f = refl
cut_then (Err e) f = refl

string_judged : (size : Field) (body : ℕ → Field) → ((at : At) → IsBytes at.rest → Judged Breaks (IsFirst size) at (cut (compact_at at))) → ((n : ℕ) (at : At) → Judged Breaks (IsFirst (body n)) at (cut (bytes_at n at)))
    → (at : At) → IsBytes at.rest → Judged Breaks (StringComes size body) at (cut (string_at at))
unfolding string_at
string_judged size body sized taken at fits =
    judged_is Breaks (StringComes size body) at _ _ (cut_then (compact_at at) (λ n. bytes_at n.0 n.1))
    (then Breaks (λ at. cut (compact_at at)) compact IsSize sizes (IsFirst size) (λ n. IsFirst (body n)) at (λ n. cut (bytes_at n.0 n.1)) fits (sized at fits) (λ n next is fit. taken n next))

-- the bytes of a part are bytes
pub front_fits : (whole front behind : List ℕ) → whole ≡ front ++ behind → IsBytes whole → IsBytes front
front_fits whole front behind is fits =
    let same : front ≡ take (length front) whole = sym (ap (λ (l : List ℕ). take (length front) l) is ∙ take_at front behind (length front) refl) in
    subst (λ (l : List ℕ). IsBytes l) (sym same) (All-take (λ c. c < 256) (length front) whole fits)

pub behind_fits : (whole front behind : List ℕ) → whole ≡ front ++ behind → IsBytes whole → IsBytes behind
behind_fits whole front behind is fits =
    let same : behind ≡ drop (length front) whole = sym (ap (λ (l : List ℕ). drop (length front) l) is ∙ drop_at front behind (length front) refl) in
    subst (λ (l : List ℕ). IsBytes l) (sym same) (All-drop (λ c. c < 256) (length front) whole fits)

-- four bytes are a number
pub number_of : (four : List ℕ) → length four ≡ 4 → IsBytes four → (from_le_bytes w32 four < 2 ^ 32) × (four ≡ to_le_bytes w32 (from_le_bytes w32 four))
number_of four len fits = (wide32.below four fits, sym (wide32.back four len fits))

pub len_of : (front a b : List ℕ) → front ≡ a ++ b → length front ≡ length a + length b
len_of front a b is = ap (λ (l : List ℕ). length l) is ∙ length-append a b

-- nothing follows the first field of a part
pub alone : (front a inner : List ℕ) → front ≡ a ++ inner → inner ≡ [] → front ≡ a
alone front a inner is none = is ∙ ap (λ (l : List ℕ). a ++ l) none ∙ append-nil a

-- ---- an input

abbrev ScriptThen : List ℕ → Field → Type 0
ScriptThen = Either (StringComes InputScriptSize InputScript) prefixed StringFits (λ _. IsFirst Sequence)

abbrev IndexThen : List ℕ → Field → Type 0
IndexThen = Either (IsFirst Index) (to_le_bytes w32) (λ n. n < 2 ^ 32) (λ _. ScriptThen)

abbrev IsTxid : List ℕ → Type 0
IsTxid x = (length x ≡ 32) × IsBytes x

abbrev InputParts : List ℕ → Field → Type 0
InputParts = Either (IsFirst Txid) (λ (x : List ℕ). x) IsTxid (λ _. IndexThen)

first_is : (C : Field → Type 0) (d field : Field) → field ≡ d → C d → C field
first_is C d field is c = subst (λ (f : Field). C f) (sym is) c

script_to : (head front inner : List ℕ) (field : Field) → length head ≡ 36 → front ≡ head ++ inner → ScriptThen inner field → InputComes front field
script_to head front inner field len is (inl (inl c)) =
    first_is (InputComes front) InputScriptSize field c.field_is (ap (λ (l : List ℕ). length l) (alone front head inner is c.front_is) ∙ len)
script_to head front inner field len is (inl (inr n)) =
    first_is (InputComes front) (InputScript n.whole) field n.comes.field_is
    (record { head = head; parts = is ∙ ap (λ (l : List ℕ). head ++ l) (alone inner (compact n.whole) n.inner n.parts n.comes.front_is); len = len; small = n.is })
script_to head front inner field len is (inr s) =
    first_is (InputComes front) Sequence field s.comes.field_is
    (record { head = head; script = s.whole; parts = is ∙ ap (λ (l : List ℕ). head ++ l) (alone inner (prefixed s.whole) s.inner s.parts s.comes.front_is); len = len; small = s.is.1 })

input_to : (front : List ℕ) (field : Field) → InputParts front field → InputComes front field
input_to front field (inl c) = first_is (InputComes front) Txid field c.field_is c.front_is
input_to front field (inr h) = index_to h.comes
  where
    index_to : IndexThen h.inner field → InputComes front field
    index_to (inl c) = first_is (InputComes front) Index field c.field_is (ap (λ (l : List ℕ). length l) (alone front h.whole h.inner h.parts c.front_is) ∙ h.is.0)
    index_to (inr g) =
        let number : List ℕ = to_le_bytes w32 g.whole in
        let len : length (h.whole ++ number) ≡ 36 = omega (arith, length-append h.whole number, h.is.0, wide32.len g.whole) in
        script_to (h.whole ++ number) front g.inner field len (h.parts ∙ ap (λ (l : List ℕ). h.whole ++ l) g.parts ∙ sym (append_assoc h.whole number g.inner)) g.comes

-- 36 bytes are a txid and an index
head_to : (head front inner : List ℕ) (field : Field) → length head ≡ 36 → front ≡ head ++ inner → IsBytes front → ScriptThen inner field → InputParts front field
head_to head front inner field len is fits c =
    let head_fits = front_fits front head inner is fits in
    let txid : List ℕ = take 32 head in
    let four : List ℕ = drop 32 head in
    let txid_len : length txid ≡ 32 = omega (arith, length-take 32 head, len) in
    let four_len : length four ≡ 4 = omega (arith, length-drop 32 head, len) in
    let n = number_of four four_len (All-drop (λ b. b < 256) 32 head head_fits) in
    let parted : front ≡ txid ++ (four ++ inner) = is ∙ ap (λ (l : List ℕ). l ++ inner) (sym (take-append-drop 32 head)) ∙ append_assoc txid four inner in
    inr (record {
      whole = txid;
      inner = four ++ inner;
      is = (txid_len, All-take (λ b. b < 256) 32 head head_fits);
      parts = parted;
      comes = inr (record { whole = from_le_bytes w32 four; inner = inner; is = n.0; parts = ap (λ (l : List ℕ). l ++ inner) n.1; comes = c });
    })

abbrev pub at_once : (d : Field) → IsFirst d [] d
at_once d = record { front_is = refl; field_is = refl }

input_back : (front : List ℕ) (field : Field) → IsBytes front → InputComes front field → InputParts front field
input_back front Txid fits c = inl (record { front_is = c; field_is = refl })
input_back front Index fits c = inr (record { whole = front; inner = []; is = (c, fits); parts = sym (append-nil front); comes = inl (at_once Index) })
input_back front InputScriptSize fits c = head_to front front [] InputScriptSize c (sym (append-nil front)) fits (inl (inl (at_once InputScriptSize)))
input_back front (InputScript n) fits c = head_to c.head front (compact n) (InputScript n) c.len c.parts fits (inl (inr (record { whole = n; inner = []; is = c.small; parts = sym (append-nil (compact n)); comes = at_once (InputScript n) })))
input_back front Sequence fits c =
    let script_fits : IsBytes c.script = behind_fits (prefixed c.script) (compact (length c.script)) c.script refl (behind_fits front c.head (prefixed c.script) c.parts fits) in
    head_to c.head front (prefixed c.script) Sequence c.len c.parts fits (inr (record { whole = c.script; inner = []; is = (script_fits, c.small); parts = sym (append-nil (prefixed c.script)); comes = at_once Sequence }))
input_back front other fits c = absurd c

input_judged : (at : At) → IsBytes at.rest → Judged Breaks InputComes at (input_at at)
unfolding input_at
input_judged at fits =
    judged_as Breaks InputParts InputComes at _ fits (λ front field _ c. input_to front field c) input_back
    (then Breaks (λ at. cut (bytes_at 32 at)) (λ (x : List ℕ). x) IsTxid (bytes 32) (IsFirst Txid) (λ _. IndexThen) at _ fits (first Breaks Txid at _ (short_told cut_fault 32 at _) (short_given cut_fault 32 at _)) (λ txid a _ a_fits.
    then Breaks (λ at. cut (number_at w32 at)) (to_le_bytes w32) (λ n. n < 2 ^ 32) number32 (IsFirst Index) (λ _. ScriptThen) a _ a_fits (first Breaks Index a _ (short_told cut_fault 4 a _) (short_given cut_fault 4 a _)) (λ index b _ b_fits.
    then Breaks (λ at. cut (string_at at)) prefixed StringFits string (StringComes InputScriptSize InputScript) (λ _. IsFirst Sequence) b _ b_fits (string_judged InputScriptSize InputScript (λ c c_fits. first Breaks InputScriptSize c _ (λ fault. size_told cut_fault c fault c_fits) (λ fault. size_given cut_fault c fault c_fits)) (λ n c. first Breaks (InputScript n) c _ (short_told cut_fault n c _) (short_given cut_fault n c _)) b b_fits) (λ script c _ c_fits.
    mapped Breaks (IsFirst Sequence) c (cut (number_at w32 c)) _ (first Breaks Sequence c _ (short_told cut_fault 4 c _) (short_given cut_fault 4 c _))))))

-- ---- an output

abbrev IsValue : ℕ → ℕ → Type 0
IsValue sum v = sum + v ≤ 2_100_000_000_000_000

abbrev OutputParts : (index sum : ℕ) → List ℕ → Field → Type 0
OutputParts index sum = Either (IsFirst (Value index sum)) (to_le_bytes w64) (IsValue sum) (λ _. StringComes OutputScriptSize OutputScript)

output_to : (index sum : ℕ) (front : List ℕ) (field : Field) → OutputParts index sum front field → OutputComes index sum front field
output_to index sum front field (inl c) = first_is (OutputComes index sum front) (Value index sum) field c.field_is (c.front_is, refl, refl)
output_to index sum front field (inr h) = script_behind h.comes
  where
    script_behind : StringComes OutputScriptSize OutputScript h.inner field → OutputComes index sum front field
    script_behind (inl c) = first_is (OutputComes index sum front) OutputScriptSize field c.field_is (record { value = h.whole; parts = h.parts ∙ ap (λ (l : List ℕ). to_le_bytes w64 h.whole ++ l) c.front_is; range = h.is })
    script_behind (inr n) = first_is (OutputComes index sum front) (OutputScript n.whole) field n.comes.field_is
        (record { value = h.whole; parts = h.parts ∙ ap (λ (l : List ℕ). to_le_bytes w64 h.whole ++ l) (alone h.inner (compact n.whole) n.inner n.parts n.comes.front_is); range = h.is }, n.is)

output_back : (index sum : ℕ) (front : List ℕ) (field : Field) → OutputComes index sum front field → OutputParts index sum front field
output_back index sum front (Value i s) c = inl (record { front_is = c.0; field_is = ap (λ (n : ℕ). Value n s) c.1 ∙ ap (λ (n : ℕ). Value index n) c.2 })
output_back index sum front OutputScriptSize c = inr (record { whole = c.value; inner = []; is = c.range; parts = c.parts; comes = inl (at_once OutputScriptSize) })
output_back index sum front (OutputScript n) c = inr (record { whole = c.0.value; inner = compact n; is = c.0.range; parts = c.0.parts; comes = inr (record { whole = n; inner = []; is = c.1; parts = sym (append-nil (compact n)); comes = at_once (OutputScript n) }) })
output_back index sum front other c = absurd c

output_judged : (before : List TxOut) (at : At) → IsBytes at.rest → Judged Breaks (OutputComes (length before) (sum_of before)) at (output_in before at)
unfolding output_at
output_judged before at fits =
    let index : ℕ = length before in
    let sum : ℕ = sum_of before in
    judged_as Breaks (OutputParts index sum) (OutputComes index sum) at _ fits (λ front field _ c. output_to index sum front field c) (λ front field _ c. output_back index sum front field c)
    (judged_is Breaks (OutputParts index sum) at _ _ (sym (checked (cut (number_at w64 at)) _ _ _))
    (then Breaks (value_in index sum) (to_le_bytes w64) (IsValue sum) (values index sum) (IsFirst (Value index sum)) (λ _. StringComes OutputScriptSize OutputScript) at _ fits (first Breaks (Value index sum) at _ (λ fault. value_told index sum at fault fits) (value_given index sum at)) (λ value a _ a_fits.
    mapped Breaks (StringComes OutputScriptSize OutputScript) a (cut (string_at a)) _ (string_judged OutputScriptSize OutputScript (λ c c_fits. first Breaks OutputScriptSize c _ (λ fault. size_told cut_fault c fault c_fits) (λ fault. size_given cut_fault c fault c_fits)) (λ n c. first Breaks (OutputScript n) c _ (short_told cut_fault n c _) (short_given cut_fault n c _)) a a_fits))))

-- ---- a byte string of a witness

item_to : (front : List ℕ) (field : Field) → StringComes ItemSize Item front field → ItemComes front field
item_to front field (inl c) = first_is (ItemComes front) ItemSize field c.field_is c.front_is
item_to front field (inr n) = first_is (ItemComes front) (Item n.whole) field n.comes.field_is (alone front (compact n.whole) n.inner n.parts n.comes.front_is, n.is)

item_back : (front : List ℕ) (field : Field) → ItemComes front field → StringComes ItemSize Item front field
item_back front ItemSize c = inl (record { front_is = c; field_is = refl })
item_back front (Item n) c = inr (record { whole = n; inner = []; is = c.1; parts = c.0 ∙ sym (append-nil (compact n)); comes = at_once (Item n) })
item_back front other c = absurd c

pub item_judged : (at : At) → IsBytes at.rest → Judged Breaks ItemComes at (item_at at)
item_judged at fits =
    judged_as Breaks (StringComes ItemSize Item) ItemComes at _ fits (λ front field _ c. item_to front field c) (λ front field _ c. item_back front field c)
    (string_judged ItemSize Item (λ c c_fits. first Breaks ItemSize c _ (λ fault. size_told cut_fault c fault c_fits) (λ fault. size_given cut_fault c fault c_fits)) (λ n c. first Breaks (Item n) c _ (short_told cut_fault n c _) (short_given cut_fault n c _)) at fits)

-- ---- a count, and so many items

abbrev pub AmongParts : {X : Type 0} → (X → List ℕ) → (List X → X → Type 0) → (List X → List ℕ → Field → Type 0) → (ℕ → Type 0) → List ℕ → Field → Type 0
AmongParts text Fits ItemHas Is = FollowsWhole compact Is (λ n. IsWithin text Fits ItemHas n [])

pub among_to : {X : Type 0} (text : X → List ℕ) (Fits : List X → X → Type 0) (ItemHas : List X → List ℕ → Field → Type 0) (AreWhole : List X → Type 0) (Is : ℕ → Type 0) → ((n : ℕ) → Is n → n < 2 ^ 64) → ((items : List X) → AllFrom Fits [] items → AreWhole items)
    → (front : List ℕ) (field : Field) → AmongParts text Fits ItemHas Is front field → IsAmong text AreWhole ItemHas front field
among_to text Fits ItemHas AreWhole Is small whole front field h =
    let w = h.comes in
    record { count = h.whole; before = w.items; inner = w.inner; parts = h.parts ∙ ap (λ (l : List ℕ). compact h.whole ++ l) w.parts; small = small h.whole h.is; few = w.few; whole = whole w.items w.fit; comes = w.comes }

pub among_back : {X : Type 0} (text : X → List ℕ) (Fits : List X → X → Type 0) (ItemHas : List X → List ℕ → Field → Type 0) (AreWhole : List X → Type 0) (Is : ℕ → Type 0) → ((n k : ℕ) → n < 2 ^ 64 → k < n → Is n) → ((items : List X) → AreWhole items → AllFrom Fits [] items)
    → (front : List ℕ) (field : Field) → IsAmong text AreWhole ItemHas front field → AmongParts text Fits ItemHas Is front field
among_back text Fits ItemHas AreWhole Is small fit front field a = record {
  whole = a.count;
  inner = flat_map text a.before ++ a.inner;
  is = small a.count (length a.before) a.small a.few;
  parts = a.parts;
  comes = record { items = a.before; inner = a.inner; few = a.few; fit = fit a.before a.whole; parts = refl; comes = a.comes };
}

-- the count, and what is known of several items
pub either_to : (C D E : List ℕ → Field → Type 0) (front : List ℕ) (field : Field) → (D front field → E front field) → C front field ⊎ D front field → C front field ⊎ E front field
either_to C D E front field to (inl c) = inl c
either_to C D E front field to (inr d) = inr (to d)

some_judged : {X : Type 0} (none : TxFault) (item : List X → At → Result (X × At) TxFault) (text : X → List ℕ) (Fits : List X → X → Type 0) → ((before : List X) → Reads (item before) text (Fits before)) → (ItemHas : List X → List ℕ → Field → Type 0) (AreWhole : List X → Type 0)
    → ((items : List X) → AllFrom Fits [] items → AreWhole items) → ((items : List X) → AreWhole items → AllFrom Fits [] items) → ((before : List X) (at : At) → IsBytes at.rest → Judged Breaks (ItemHas before) at (item before at))
    → (count : Field) (at : At) → IsBytes at.rest → Judged Breaks (IsFirst count) at (count_in none at) → Judged Breaks (λ front field. IsFirst count front field ⊎ IsAmong text AreWhole ItemHas front field) at (some_at none item at)
unfolding some_at
some_judged none item text Fits laws ItemHas AreWhole to back each count at fits counted_by =
    judged_as Breaks (Either (IsFirst count) compact IsCount (λ n. IsWithin text Fits ItemHas n [])) (λ front field. IsFirst count front field ⊎ IsAmong text AreWhole ItemHas front field) at _ fits
    (λ front field _ c. either_to (IsFirst count) (AmongParts text Fits ItemHas IsCount) (IsAmong text AreWhole ItemHas) front field (among_to text Fits ItemHas AreWhole IsCount (λ n is. is.1) to front field) c)
    (λ front field _ c. either_to (IsFirst count) (IsAmong text AreWhole ItemHas) (AmongParts text Fits ItemHas IsCount) front field (among_back text Fits ItemHas AreWhole IsCount (λ n k small few. (omega (arith, few), small)) back front field) c)
    (judged_is Breaks (Either (IsFirst count) compact IsCount (λ n. IsWithin text Fits ItemHas n [])) at _ _ (sym (checked (cut (compact_at at)) _ _ _))
    (then Breaks (count_in none) compact IsCount (counts none) (IsFirst count) (λ n. IsWithin text Fits ItemHas n []) at _ fits counted_by (λ n next _ next_fits. many Breaks item text Fits laws ItemHas each n [] next next_fits)))

-- ---- the inputs

inputs_whole : (inputs : List TxIn) → AllFrom (λ _. BareFits) [] inputs → AreInputs inputs
inputs_whole inputs fits = All-weaker BareFits (λ (i : TxIn). InputFits i × (i.witness ≡ [])) (λ i b. (b.fits, b.bare)) inputs (All-from_recursion BareFits inputs (from_all BareFits [] inputs fits))

pub bare_all : (inputs : List TxIn) → AreInputs inputs → All BareFits inputs
bare_all inputs whole = All-weaker (λ (i : TxIn). InputFits i × (i.witness ≡ [])) BareFits (λ i b. record { fits = b.0; bare = b.1 }) inputs whole

inputs_fit : (inputs : List TxIn) → AreInputs inputs → AllFrom (λ _. BareFits) [] inputs
inputs_fit inputs whole = all_from BareFits [] inputs (recursion_from_All BareFits inputs (bare_all inputs whole))

pub inputs_judged : (count : Field) (at : At) → IsBytes at.rest → Judged Breaks (IsFirst count) at (count_in NoInputs at) → Judged Breaks (InputsCome count) at (inputs_at at)
inputs_judged count at fits counted_by =
    some_judged NoInputs (λ _. input_at) input_text (λ _. BareFits) (λ _. input_reads) (λ _. InputComes) AreInputs inputs_whole inputs_fit (λ before. input_judged) count at fits counted_by

-- ---- the outputs

outputs_from : (before outputs : List TxOut) → AllFrom FitsBehind before outputs → sum_of before ≤ 2_100_000_000_000_000 → AllByRecursion OutputFits outputs × (sum_of (before ++ outputs) ≤ 2_100_000_000_000_000)
outputs_from before [] fits range = (tt, rw append-nil range)
outputs_from before (o ∷ outputs) fits range =
    let pushed : sum_of (before ++ o ∷ []) ≤ 2_100_000_000_000_000 = rw sum_by_push fits.0.range in
    let others = outputs_from (before ++ o ∷ []) outputs fits.1 pushed in
    ((fits.0.fits, others.0), rw (← append_assoc before (o ∷ []) outputs) others.1)

from_outputs : (before outputs : List TxOut) → AllByRecursion OutputFits outputs → sum_of (before ++ outputs) ≤ 2_100_000_000_000_000 → AllFrom FitsBehind before outputs
from_outputs before [] fits range = tt
from_outputs before (o ∷ outputs) fits range =
    let here : sum_of before + o.value ≤ 2_100_000_000_000_000 = omega (arith, sum_by-append (λ (p : TxOut). p.value) before (o ∷ outputs), sum_by-cons (λ (p : TxOut). p.value) o outputs) in
    (record { fits = fits.0; range = here }, from_outputs (before ++ o ∷ []) outputs fits.1 (rw append_assoc range))

outputs_whole : (outputs : List TxOut) → AllFrom FitsBehind [] outputs → AreOutputs outputs
outputs_whole outputs fits =
    let t = outputs_from [] outputs fits (omega arith) in
    record { each = All-from_recursion OutputFits outputs t.0; money = t.1 }

outputs_fit : (outputs : List TxOut) → AreOutputs outputs → AllFrom FitsBehind [] outputs
outputs_fit outputs whole = from_outputs [] outputs (recursion_from_All OutputFits outputs whole.each) whole.money

pub outputs_judged : (at : At) → IsBytes at.rest → Judged Breaks OutputsCome at (outputs_at at)
outputs_judged at fits =
    some_judged NoOutputs output_in output_text FitsBehind output_reads (λ before. OutputComes (length before) (sum_of before)) AreOutputs outputs_whole outputs_fit output_judged OutputCount at fits
    (first Breaks OutputCount at _ (λ fault. count_told NoOutputs at fault fits) (λ fault. count_given NoOutputs at fault fits))
