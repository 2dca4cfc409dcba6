-- What a view tells of inputs and outputs is what its transaction has.
use Rattle.std.proofs.Common.{◌≡◌, ◌≢◌, ◌∙◌, ℕ, zero, suc, ◌-◌, Bool, true, false, List, [], ◌∷◌, ◌++◌, length, map, drop, Result, Ok, Err, refl, sym, ap, subst, append_assoc, arith}
use Rattle.std.specs.Prelude.{MatchResult}
use Rattle.std.specs.Int.{w32, w64, to_le_bytes}
use Rattle.std.specs.List.{flat_map, AllByRecursion}
use Rattle.std.proofs.lemmas.List.{append-nil}
use Rattle.std.proofs.lemmas.List.Elements.{All-from_recursion, recursion_from_All}
use Rattle.fund_base.specs.CompactSize.{counted}
use Rattle.fund_base.specs.Cursor.{At, compact_at, number_at}
use Rattle.fund_base.specs.Parsing.{many_from, string_at}
use Rattle.fund_base.specs.declared.outpoint.OutPoint.{OutPoint}
use Rattle.fund_base.proofs.Laws.{bind_is, bind_ok, guard_ok, ok_is, told_ok}
use Rattle.tx_codec.specs.Fault.{cut_fault}
use Rattle.tx_codec.specs.Passing.{IsViewed, PassesList, start_of, viewed}
use Rattle.tx_codec.specs.Reading.{cut, input_at, inputs_at, output_at, output_in, some_at}
use Rattle.tx_codec.specs.Transaction.{Transaction}
use Rattle.tx_codec.specs.TransactionText.{InputFits, IsTransaction, input_text, output_text, stack_text, text_of}
use Rattle.tx_codec.specs.Views.{CountsTo, HasBody, items_left, point_at, points_of, script_at, scripts_of, with_left}
use Rattle.tx_codec.specs.declared.fault.TxFault.{TxFault}
use Rattle.tx_codec.specs.declared.fault.TxFault.TheVariants.{Memory}
use Rattle.tx_codec.specs.declared.tx.TxIn.{TxIn}
use Rattle.tx_codec.specs.declared.tx.TxOut.{TxOut}
use Rattle.tx_codec.proofs.Laws.{same_inputs}
use Rattle.tx_codec.proofs.LawsOfStacks.{fit_without_stacks, length-strips, strips}
use Rattle.tx_codec.proofs.PartLaws.{BareFits, InputsFit, inputs_reads, outputs_reads}
use Rattle.tx_codec.proofs.ViewSteps.{body_of, legacy_parts, parts_behind, segregated_parts}

-- ---- one item after the other

pub none_left : {X E : Type 0} (item : At → Result (X × At) E) (n : ℕ) (at : At) → n ≡ 0 → items_left item n at ≡ []
unfolding items_left
none_left item zero at none = refl
none_left item (suc n) at none = absurd (omega (arith, none))

pub one_left : {X E : Type 0} (item : At → Result (X × At) E) (n : ℕ) (at next : At) (x : X) → (n ≡ 0 → ⊥) → item at ≡ Ok (x, next) → items_left item n at ≡ x ∷ items_left item (n - 1) next
unfolding items_left
one_left item zero at next x some is = absurd (some refl)
one_left {X = X} {E = E} item (suc n) at next x some is =
    let same : n ≡ suc n - 1 = omega arith in
    ap (λ (r : Result (X × At) E). with_left (λ a. items_left item n a) r) is ∙ ap (λ (k : ℕ). x ∷ items_left item k next) same

pub no_more_left : {X E : Type 0} (item : At → Result (X × At) E) (n : ℕ) (at : At) (fault : E) → item at ≡ Err fault → items_left item n at ≡ []
unfolding items_left
no_more_left item zero at fault is = refl
no_more_left item (suc n) at fault is = ap (with_left (λ a. items_left item n a)) is

-- ---- what is told of each of so many items

pub record Told {X Y E : Type 0} (one : At → Result (Y × At) E) (tell : X → Y) (n : ℕ) (before all : List X) (at : At) : Type 0 where
  pub items : List X
  pub all_is : all ≡ before ++ items
  pub told : items_left one n at ≡ map tell items

pub many_told : {X Y E : Type 0} (item : List X → At → Result (X × At) E) (one : At → Result (Y × At) E) (tell : X → Y)
    → ((before : List X) (at : At) (x : X × At) → item before at ≡ Ok x → one at ≡ Ok (tell x.0, x.1))
    → (n : ℕ) (before : List X) (at : At) (x : List X × At) → many_from item n before at ≡ Ok x → Told one tell n before x.0 at
unfolding many_from items_left
many_told {X = X} item one tell same zero before at x is =
    record { items = []; all_is = ap (λ (p : List X × At). p.0) (sym (ok_is (before, at) x (Ok (before, at)) refl is)) ∙ sym (append-nil before); told = refl }
many_told {X = X} {Y = Y} item one tell same (suc n) before at x is =
    let a = bind_ok _ _ x is in
    let r = many_told item one tell same n (before ++ a.0.0 ∷ []) a.0.1 x a.2 in
    record {
      items = a.0.0 ∷ r.items;
      all_is = r.all_is ∙ append_assoc before (a.0.0 ∷ []) r.items;
      told = ap (with_left (λ next. items_left one n next)) (same before at a.0 a.1) ∙ ap (λ (l : List Y). tell a.0.0 ∷ l) r.told;
    }

pub all_told : {X Y E : Type 0} (item : List X → At → Result (X × At) E) (one : At → Result (Y × At) E) (tell : X → Y)
    → ((before : List X) (at : At) (x : X × At) → item before at ≡ Ok x → one at ≡ Ok (tell x.0, x.1))
    → (n : ℕ) (at : At) (x : List X × At) → many_from item n [] at ≡ Ok x → items_left one n at ≡ map tell x.0
all_told item one tell same n at x is =
    let r = many_told item one tell same n [] at x is in
    r.told ∙ ap (map tell) (sym r.all_is)

-- ---- an input's outpoint and an output's script

point_told : (before : List TxIn) (at : At) (x : TxIn × At) → input_at at ≡ Ok x → point_at at ≡ Ok (x.0.prev, x.1)
unfolding point_at
point_told before at x is = bind_is (input_at at) _ x _ is refl

script_told : (before : List TxOut) (at : At) (x : TxOut × At) → output_in before at ≡ Ok x → script_at at ≡ Ok (x.0.script, x.1)
unfolding output_at script_at
script_told before at x is =
    let a = bind_ok (cut (number_at w64 at)) _ x is in
    let g = guard_ok _ _ _ _ a.2 in
    let b = bind_ok (cut (string_at a.0.1)) _ x g.1 in
    let made : TxOut × At = (record { value = a.0.0; script = b.0.0 }, b.0.1) in
    let same : made ≡ x = ok_is made x (Ok made) refl b.2 in
    bind_is (cut (number_at w64 at)) _ a.0 _ a.1 (b.1 ∙ ap (λ (y : TxOut × At). Ok (y.0.script, y.1)) same)

-- ---- those of a transaction

counted_here : (at new : At) (left : ℕ) (n : ℕ × At) → CountsTo at left new → compact_at at ≡ Ok n → (left ≡ n.0) × (new ≡ n.1)
counted_here at new left n counts is = subst (λ r. MatchResult r (λ m. (left ≡ m.0) × (new ≡ m.1)) (λ fault. left ≡ 0)) is counts

pub points_lent : (t : Transaction) (at new : At) (left : ℕ) → HasBody t at → CountsTo at left new → items_left point_at left new ≡ points_of t
unfolding some_at
points_lent t at new left h counts =
    let a = bind_ok _ _ _ h.inputs_is in
    let g = guard_ok _ _ _ _ a.2 in
    let c = counted_here at new left a.0 counts (told_ok cut_fault (compact_at at) a.0 a.1) in
    (λ k. items_left point_at (c.0 k) (c.1 k)) ∙ all_told (λ _. input_at) point_at (λ (i : TxIn). i.prev) point_told a.0.0 a.0.1 (h.inputs, h.between) g.1 ∙ h.points

passed_inputs : (t : Transaction) (at mid : At) (passed : Result ℕ TxFault) → (h : HasBody t at) → PassesList (inputs_at at) mid passed → passed ≢ Err Memory → mid ≡ h.between
passed_inputs t at mid (Ok count) h passes never = ap (λ (p : List TxIn × At). p.1) (ok_is (passes.items, mid) (h.inputs, h.between) (inputs_at at) passes.is h.inputs_is)
passed_inputs t at mid (Err e) h passes never =
    let refused = passes (λ is. never (ap (λ (x : TxFault). Err x) is)) in
    absurd (cc (refused, h.inputs_is))

pub scripts_lent : (t : Transaction) (at mid new : At) (passed : Result ℕ TxFault) (left : ℕ) → HasBody t at → PassesList (inputs_at at) mid passed → passed ≢ Err Memory → CountsTo mid left new → items_left script_at left new ≡ scripts_of t
unfolding some_at
scripts_lent t at mid new passed left h passes never counts =
    let there = passed_inputs t at mid passed h passes never in
    let a = bind_ok _ _ _ h.outputs_is in
    let g = guard_ok _ _ _ _ a.2 in
    let c = counted_here mid new left a.0 counts (ap compact_at there ∙ told_ok cut_fault (compact_at h.between) a.0 a.1) in
    (λ k. items_left script_at (c.0 k) (c.1 k)) ∙ all_told output_in script_at (λ (o : TxOut). o.script) script_told a.0.0 a.0.1 (t.outputs, h.end) g.1

-- ---- where they stand in a view's text

same_points : (inputs : List TxIn) → map (λ (i : TxIn). i.prev) (strips inputs) ≡ map (λ (i : TxIn). i.prev) inputs
same_points [] = refl
same_points (i ∷ inputs) = ap (λ (l : List OutPoint). i.prev ∷ l) (same_points inputs)

record Behind (t : Transaction) (body : List ℕ) : Type 0 where
  pub rest : List ℕ
  pub is : body ≡ body_of t ++ rest

behind_start : (t : Transaction) (text : List ℕ) (segwit : Bool) → t.segwit ≡ segwit → text ≡ text_of t → Behind t (drop (start_of segwit) text)
behind_start t text false form is = record { rest = [] ++ to_le_bytes w32 t.locktime; is = parts_behind _ _ _ _ _ _ _ _ (legacy_parts t text (length (body_of t)) form refl is) }
behind_start t text true form is = record { rest = flat_map stack_text t.inputs ++ to_le_bytes w32 t.locktime; is = parts_behind _ _ _ _ _ _ _ _ (segregated_parts t text (length (body_of t)) form refl is) }

body_stands : (t : Transaction) (at : At) → IsTransaction t → Behind t at.rest → HasBody t at
body_stands t at w b =
    let each : AllByRecursion InputFits t.inputs = recursion_from_All InputFits t.inputs w.inputs in
    let bare : InputsFit (strips t.inputs) = record {
      each = All-from_recursion BareFits (strips t.inputs) (fit_without_stacks t.inputs each);
      some = omega (arith, length-strips t.inputs, w.inputs_some);
      len = omega (arith, length-strips t.inputs, w.inputs_len);
    } in
    let behind : List ℕ = counted output_text t.outputs ++ b.rest in
    let parted : at.rest ≡ counted input_text t.inputs ++ behind = b.is ∙ append_assoc (counted input_text t.inputs) (counted output_text t.outputs) b.rest in
    let a = inputs_reads.again (strips t.inputs) at behind bare (parted ∙ ap (λ (l : List ℕ). l ++ behind) (sym (same_inputs t.inputs))) in
    let o = outputs_reads.again t.outputs a.next b.rest (record { each = w.outputs; money = w.money; some = w.outputs_some; len = w.outputs_len }) a.left in
    record { inputs = strips t.inputs; between = a.next; end = o.next; points = same_points t.inputs; inputs_is = a.reads; outputs_is = o.reads }

pub body_there : (text : List ℕ) (segwit : Bool) (len start : ℕ) (body : List ℕ) (at : At) → IsViewed text segwit len → start ≡ start_of segwit → body ≡ drop start text → at ≡ record { rest = body; place = 0 } → HasBody (viewed text) at
body_there text segwit len start body at v start_is body_is at_is =
    let is : at.rest ≡ drop (start_of segwit) text = ap (λ (a : At). a.rest) at_is ∙ body_is ∙ ap (λ (n : ℕ). drop n text) start_is in
    body_stands (viewed text) at v.whole (subst (λ (l : List ℕ). Behind (viewed text) l) (sym is) (behind_start (viewed text) text segwit v.form v.text))
