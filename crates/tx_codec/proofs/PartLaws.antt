-- The laws of inputs and outputs.
use Rattle.std.proofs.Common.{◌≡◌, ℕ, zero, suc, ◌+◌, ◌^◌, ◌<◌, ◌≤◌, List, [], ◌∷◌, ◌++◌, length, All, Result, Ok, refl, sym, ap, subst, ◌∙◌, append_assoc, arith}
use Rattle.std.specs.Int.{w32, w64, to_le_bytes}
use Rattle.std.specs.List.{flat_map, AllByRecursion}
use Rattle.std.proofs.lemmas.Bool.{ltb-false, le-ltb, eqb-false, ne_eqb}
use Rattle.std.proofs.lemmas.List.{append-nil}
use Rattle.std.proofs.lemmas.List.Elements.{All-nil, All-from_recursion, recursion_from_All}
use Rattle.std.proofs.lemmas.List.Sums.{sum_by-append, sum_by-cons, sum_by_push}
use Rattle.fund_base.proofs.Lists.{regroup3}
use Rattle.fund_base.specs.CompactSize.{compact, prefixed, counted}
use Rattle.fund_base.specs.Cursor.{At, IsBytes, take_at as bytes_at, number_at, compact_at}
use Rattle.fund_base.specs.Parsing.{string_at}
use Rattle.fund_base.proofs.Laws.{bind_ok, bind_is, guard_ok, ok_is, Takes, takes_then, Again, Reads, reads_told}
use Rattle.fund_base.proofs.LawsOfNumbers.{number32_reads, number64_reads, bytes_reads, count_reads, string_reads}
use Rattle.fund_base.proofs.Repeat.{AllFrom, many_take, many_again, all_from, from_all}
use Rattle.tx_codec.specs.declared.fault.TxFault.{TxFault}
use Rattle.tx_codec.specs.declared.fault.TxFault.TheVariants.{NoInputs, NoOutputs}
use Rattle.tx_codec.specs.declared.tx.TxIn.{TxIn}
use Rattle.tx_codec.specs.declared.tx.TxOut.{TxOut}
use Rattle.tx_codec.specs.Fault.{cut_fault}
use Rattle.tx_codec.specs.Reading.{cut, input_at, output_at, output_in, some_at, inputs_at, outputs_at}
use Rattle.tx_codec.specs.TransactionText.{input_text, output_text, InputFits, OutputFits}
use Rattle.tx_codec.proofs.Outputs.{worth}

pub number32 : Reads (λ at. cut (number_at w32 at)) (to_le_bytes w32) (λ n. n < 2 ^ 32)
number32 = reads_told cut_fault (number_at w32) (to_le_bytes w32) (λ n. n < 2 ^ 32) number32_reads

number64 : Reads (λ at. cut (number_at w64 at)) (to_le_bytes w64) (λ n. n < 2 ^ 64)
number64 = reads_told cut_fault (number_at w64) (to_le_bytes w64) (λ n. n < 2 ^ 64) number64_reads

pub bytes : (n : ℕ) → Reads (λ at. cut (bytes_at n at)) (λ x. x) (λ x. (length x ≡ n) × IsBytes x)
bytes n = reads_told cut_fault (bytes_at n) (λ x. x) (λ x. (length x ≡ n) × IsBytes x) (bytes_reads n)

count : Reads (λ at. cut (compact_at at)) compact (λ n. n < 2 ^ 64)
count = reads_told cut_fault compact_at compact (λ n. n < 2 ^ 64) count_reads

abbrev pub StringFits : List ℕ → Type 0
StringFits x = IsBytes x × (length x < 2 ^ 64)

pub string : Reads (λ at. cut (string_at at)) prefixed StringFits
string = reads_told cut_fault string_at prefixed StringFits string_reads

-- ---- an input

-- an input whose witness is empty
pub record BareFits (i : TxIn) : Type 0 where
  pub fits : InputFits i
  pub bare : i.witness ≡ []

input_takes : (at : At) (x : TxIn × At) → IsBytes at.rest → input_at at ≡ Ok x → Takes at (input_text x.0) x.1 × BareFits x.0
unfolding input_at input_text
input_takes at x fits e =
    let a = bind_ok _ _ x e in
    let b = bind_ok _ _ x a.2 in
    let c = bind_ok _ _ x b.2 in
    let d = bind_ok _ _ x c.2 in
    let ta = (bytes 32).takes at a.0 fits a.1 in
    let tb = number32.takes a.0.1 b.0 ta.0.rest_fits b.1 in
    let tc = string.takes b.0.1 c.0 tb.0.rest_fits c.1 in
    let td = number32.takes c.0.1 d.0 tc.0.rest_fits d.1 in
    let cd = takes_then b.0.1 c.0.1 d.0.1 (prefixed c.0.0) (to_le_bytes w32 d.0.0) tc.0 td.0 in
    let bd = takes_then a.0.1 b.0.1 d.0.1 (to_le_bytes w32 b.0.0) (prefixed c.0.0 ++ to_le_bytes w32 d.0.0) tb.0 cd in
    let ad = takes_then at a.0.1 d.0.1 a.0.0 (to_le_bytes w32 b.0.0 ++ (prefixed c.0.0 ++ to_le_bytes w32 d.0.0)) ta.0 bd in
    let made : TxIn × At = (record { prev = record { txid = a.0.0; index = b.0.0 }; script = c.0.0; sequence = d.0.0; witness = [] }, d.0.1) in
    let small : InputFits made.0 = record { txid_len = ta.1.0; txid = ta.1.1; index = tb.1; script = tc.1.0; script_len = tc.1.1; sequence = td.1; stack = All-nil StringFits; stack_len = omega arith } in
    subst (λ (y : TxIn × At). Takes at (input_text y.0) y.1 × BareFits y.0) (ok_is made x (Ok made) refl d.2) (ad, record { fits = small; bare = refl })

abbrev read : TxIn → At → Result (TxIn × At) TxFault
read i next = Ok (i, next)

input_again : (i : TxIn) (at : At) (rest : List ℕ) → BareFits i → at.rest ≡ input_text i ++ rest → Again (input_at at) i rest
unfolding input_at input_text
input_again i at rest fits is =
    let s = fits.fits in
    let parted = is ∙ regroup3 i.prev.txid (to_le_bytes w32 i.prev.index) (prefixed i.script) (to_le_bytes w32 i.sequence) rest in
    let a = (bytes 32).again i.prev.txid at (to_le_bytes w32 i.prev.index ++ (prefixed i.script ++ (to_le_bytes w32 i.sequence ++ rest))) (s.txid_len, s.txid) parted in
    let b = number32.again i.prev.index a.next (prefixed i.script ++ (to_le_bytes w32 i.sequence ++ rest)) s.index a.left in
    let c = string.again i.script b.next (to_le_bytes w32 i.sequence ++ rest) (s.script, s.script_len) b.left in
    let d = number32.again i.sequence c.next rest s.sequence c.left in
    let whole : read (record i { witness = [] }) d.next ≡ read i d.next = ap (λ (w : List (List ℕ)). read (record i { witness = w }) d.next) (sym fits.bare) in
    record { next = d.next; reads = bind_is _ _ _ _ a.reads (bind_is _ _ _ _ b.reads (bind_is _ _ _ _ c.reads (bind_is _ _ _ _ d.reads whole))); left = d.left }

pub input_reads : Reads input_at input_text BareFits
input_reads = record { takes = input_takes; again = input_again }

-- ---- an output

-- an output that fits after others
pub record FitsBehind (before : List TxOut) (o : TxOut) : Type 0 where
  pub fits : OutputFits o
  pub range : worth before + o.value ≤ 2_100_000_000_000_000

output_takes : (before : List TxOut) (at : At) (x : TxOut × At) → IsBytes at.rest → output_in before at ≡ Ok x → Takes at (output_text x.0) x.1 × FitsBehind before x.0
unfolding output_at output_text
output_takes before at x fits e =
    let a = bind_ok _ _ x e in
    let g = guard_ok _ _ _ _ a.2 in
    let b = bind_ok _ _ x g.1 in
    let ta = number64.takes at a.0 fits a.1 in
    let tb = string.takes a.0.1 b.0 ta.0.rest_fits b.1 in
    let ab = takes_then at a.0.1 b.0.1 (to_le_bytes w64 a.0.0) (prefixed b.0.0) ta.0 tb.0 in
    let made : TxOut × At = (record { value = a.0.0; script = b.0.0 }, b.0.1) in
    let small : FitsBehind before made.0 = record { fits = record { script = tb.1.0; script_len = tb.1.1 }; range = ltb-false _ _ g.0 } in
    subst (λ (y : TxOut × At). Takes at (output_text y.0) y.1 × FitsBehind before y.0) (ok_is made x (Ok made) refl b.2) (ab, small)

output_again : (before : List TxOut) (o : TxOut) (at : At) (rest : List ℕ) → FitsBehind before o → at.rest ≡ output_text o ++ rest → Again (output_in before at) o rest
unfolding output_at output_text
output_again before o at rest fits is =
    let parted = is ∙ append_assoc (to_le_bytes w64 o.value) (prefixed o.script) rest in
    let small : o.value < 2 ^ 64 = omega arith in
    let a = number64.again o.value at (prefixed o.script ++ rest) small parted in
    let b = string.again o.script a.next rest (fits.fits.script, fits.fits.script_len) a.left in
    let in_range = le-ltb 2_100_000_000_000_000 (worth before + o.value) fits.range in
    record { next = b.next; reads = bind_is _ _ _ _ a.reads (rw in_range (bind_is _ _ _ _ b.reads refl)); left = b.left }

pub output_reads : (before : List TxOut) → Reads (output_in before) output_text (FitsBehind before)
output_reads before = record { takes = output_takes before; again = output_again before }

-- ---- a count that isn't 0, and so many items

-- at least one item, and no more than a count tells
pub record SomeFit {X : Type 0} (Fits : List X → X → Type 0) (xs : List X) : Type 0 where
  pub each : AllFrom Fits [] xs
  pub some : 0 < length xs
  pub len : length xs < 2 ^ 64

above_none : (n : ℕ) → (n ≡ 0 → ⊥) → 0 < n
above_none zero some = absurd (some refl)
above_none (suc n) some = omega arith

some_takes : {X : Type 0} (none : TxFault) (item : List X → At → Result (X × At) TxFault) (text : X → List ℕ) (Fits : List X → X → Type 0) → ((before : List X) → Reads (item before) text (Fits before))
    → (at : At) (x : List X × At) → IsBytes at.rest → some_at none item at ≡ Ok x → Takes at (counted text x.0) x.1 × SomeFit Fits x.0
unfolding some_at
some_takes {X = X} none item text Fits laws at x fits e =
    let a = bind_ok _ _ x e in
    let g = guard_ok _ _ _ _ a.2 in
    let n = count.takes at a.0 fits a.1 in
    let m = many_take item text Fits laws a.0.0 [] a.0.1 x n.0.rest_fits g.1 in
    let some : a.0.0 ≡ 0 → ⊥ = eqb-false a.0.0 0 g.0 in
    let both : Takes at (counted text m.items) x.1 = rw m.count (takes_then at a.0.1 x.1 (compact a.0.0) (flat_map text m.items) n.0 m.takes) in
    subst (λ (l : List X). Takes at (counted text l) x.1 × SomeFit Fits l) (sym m.whole) (both, record { each = m.fits; some = above_none (length m.items) (λ is. some (sym m.count ∙ is)); len = omega (arith, m.count, n.1) })

some_again : {X : Type 0} (none : TxFault) (item : List X → At → Result (X × At) TxFault) (text : X → List ℕ) (Fits : List X → X → Type 0) → ((before : List X) → Reads (item before) text (Fits before))
    → (xs : List X) (at : At) (rest : List ℕ) → SomeFit Fits xs → at.rest ≡ counted text xs ++ rest → Again (some_at none item at) xs rest
unfolding some_at
some_again none item text Fits laws xs at rest fits is =
    let a = count.again (length xs) at (flat_map text xs ++ rest) fits.len (is ∙ append_assoc (compact (length xs)) (flat_map text xs) rest) in
    let b = many_again item text Fits laws xs [] a.next rest fits.each a.left in
    let some = ne_eqb (length xs) 0 (λ none-is. absurd (omega (arith, fits.some, none-is))) in
    record { next = b.next; reads = bind_is _ _ _ _ a.reads (rw some b.reads); left = b.left }

some_reads : {X : Type 0} (none : TxFault) (item : List X → At → Result (X × At) TxFault) (text : X → List ℕ) (Fits : List X → X → Type 0) → ((before : List X) → Reads (item before) text (Fits before))
    → Reads (some_at none item) (counted text) (SomeFit Fits)
some_reads none item text Fits laws = record { takes = some_takes none item text Fits laws; again = some_again none item text Fits laws }

pub record InputsFit (inputs : List TxIn) : Type 0 where
  pub each : All BareFits inputs
  pub some : 0 < length inputs
  pub len : length inputs < 2 ^ 64

pub inputs_reads : Reads inputs_at (counted input_text) InputsFit
inputs_reads =
    let laws = some_reads NoInputs (λ _. input_at) input_text (λ _. BareFits) (λ _. input_reads) in
    record {
      takes = λ at x fits e.
          let t = laws.takes at x fits e in
          (t.0, record { each = All-from_recursion BareFits x.0 (from_all BareFits [] x.0 t.1.each); some = t.1.some; len = t.1.len });
      again = λ xs at rest fits is. laws.again xs at rest (record { each = all_from BareFits [] xs (recursion_from_All BareFits xs fits.each); some = fits.some; len = fits.len }) is;
    }

pub record OutputsFit (outputs : List TxOut) : Type 0 where
  pub each : All OutputFits outputs
  pub money : worth outputs ≤ 2_100_000_000_000_000
  pub some : 0 < length outputs
  pub len : length outputs < 2 ^ 64

each_from : (before outputs : List TxOut) → AllFrom FitsBehind before outputs → worth before ≤ 2_100_000_000_000_000 → AllByRecursion OutputFits outputs × (worth (before ++ outputs) ≤ 2_100_000_000_000_000)
each_from before [] fits range = (tt, rw append-nil range)
each_from before (o ∷ outputs) fits range =
    let pushed : worth (before ++ o ∷ []) ≤ 2_100_000_000_000_000 = rw sum_by_push fits.0.range in
    let others = each_from (before ++ o ∷ []) outputs fits.1 pushed in
    ((fits.0.fits, others.0), rw (← append_assoc before (o ∷ []) outputs) others.1)

from_each : (before outputs : List TxOut) → AllByRecursion OutputFits outputs → worth (before ++ outputs) ≤ 2_100_000_000_000_000 → AllFrom FitsBehind before outputs
from_each before [] fits range = tt
from_each before (o ∷ outputs) fits range =
    let here : worth before + o.value ≤ 2_100_000_000_000_000 = omega (arith, sum_by-append (λ (p : TxOut). p.value) before (o ∷ outputs), sum_by-cons (λ (p : TxOut). p.value) o outputs) in
    (record { fits = fits.0; range = here }, from_each (before ++ o ∷ []) outputs fits.1 (rw append_assoc range))

pub outputs_reads : Reads outputs_at (counted output_text) OutputsFit
outputs_reads =
    let laws = some_reads NoOutputs output_in output_text FitsBehind output_reads in
    record {
      takes = λ at x fits e.
          let t = laws.takes at x fits e in
          let each = each_from [] x.0 t.1.each (omega arith) in
          (t.0, record { each = All-from_recursion OutputFits x.0 each.0; money = each.1; some = t.1.some; len = t.1.len });
      again = λ xs at rest fits is. laws.again xs at rest (record { each = from_each [] xs (recursion_from_All OutputFits xs fits.each) fits.money; some = fits.some; len = fits.len }) is;
    }
