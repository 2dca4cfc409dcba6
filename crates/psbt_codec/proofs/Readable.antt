-- What is read of a PSBT is readable, and what is readable is read.
use Rattle.std.proofs.Common.{◌≡◌, ℕ, ◌<◌, true, false, List, [], ◌++◌, length, take, drop, Result, Ok, Err, refl, sym, ap, subst, ◌∙◌, inl, inr}
use Rattle.std.specs.Prelude.{bytes_eq, ◌==◌}
use Rattle.std.specs.List.{flat_map}
use Rattle.std.proofs.lemmas.Bool.{cases_Bool, eqb-true, eq-eqb}
use Rattle.std.proofs.lemmas.List.{append-nil, nil_from_length, take-append-drop, take_at, drop_at}
use Rattle.std.proofs.lemmas.List.Elements.{All-drop}
use Rattle.std.proofs.lemmas.Slice.Eq.{bytes_eq-Decides}
use Rattle.fund_base.proofs.Lists.{regroup3}
use Rattle.fund_base.specs.Cursor.{At, IsBytes, after}
use Rattle.fund_base.proofs.Laws.{bind_ok, bind_is, guard_met, ok_is, Takes, takes_then, Again}
use Rattle.psbt_codec.specs.declared.fault.PsbtFault.{PsbtFault}
use Rattle.psbt_codec.specs.declared.pairs.Part.TheVariants.{Global}
use Rattle.psbt_codec.specs.declared.psbt.Versioned.{Versioned}
use Rattle.psbt_codec.specs.PartialTransaction.{PartialTransaction}
use Rattle.psbt_codec.specs.Psbt.{Pair, magic, map_text, AreMapsOf, IsPsbt, spelled, IsReadable, IsReadableIn}
use Rattle.psbt_codec.specs.Reading.{start, whole_at, fields_at, magic_at, version_of, of_version, in_version, behind_global, maps_at, psbt_at, versioned_of, read_of, unversioned}
use Rattle.psbt_codec.proofs.MapReads.{MapFits, map_reads}
use Rattle.psbt_codec.proofs.WholeMaps.{global_fit, version_again, whole_takes, whole_again}
use Rattle.psbt_codec.proofs.CountMeaning.{fields_fit_global, fields_version}
use Rattle.psbt_codec.proofs.FieldMaps.{fields_take, fields_again}

-- ---- what stands behind the global map

record BehindTaken (pairs : List Pair) (at : At) (x : Versioned × At) : Type 0 where
  pub inputs : List (List Pair)
  pub outputs : List (List Pair)
  pub takes : Takes at (flat_map map_text inputs ++ flat_map map_text outputs) x.1
  pub psbt : IsPsbt x.0.psbt
  pub maps : AreMapsOf x.0.version x.0.psbt pairs inputs outputs

abbrev made : ℕ → PartialTransaction × At → Versioned × At
made version read = (record { version = version; psbt = read.0 }, read.1)

behind_takes : (place : ℕ) (pairs : List Pair) (at : At) (x : Versioned × At) → MapFits Global [] pairs → IsBytes at.rest → behind_global place pairs at ≡ Ok x → BehindTaken pairs at x
unfolding behind_global
behind_takes place pairs at x fit fits e =
    elim (cases_Bool (version_of pairs == 0)) [
      | inl first ↦
          let a = bind_ok (whole_at pairs at) (in_version 0) x (rw first at e) in
          let t = whole_takes pairs at a.0 fit (eqb-true (version_of pairs) 0 first) fits a.1 in
          subst (λ (y : Versioned × At). BehindTaken pairs at y) (ok_is (made 0 a.0) x (Ok (made 0 a.0)) refl a.2) (record { inputs = t.inputs; outputs = t.outputs; takes = t.takes; psbt = t.psbt; maps = inl (refl, t.maps) })
      | inr other ↦ elim (cases_Bool (version_of pairs == 2)) [
        | inl second ↦
            let a = bind_ok (fields_at place pairs at) (in_version 2) x (rw (other, second) at e) in
            let t = fields_take place pairs at a.0 fit (eqb-true (version_of pairs) 2 second) fits a.1 in
            subst (λ (y : Versioned × At). BehindTaken pairs at y) (ok_is (made 2 a.0) x (Ok (made 2 a.0)) refl a.2) (record { inputs = t.inputs; outputs = t.outputs; takes = t.takes; psbt = t.psbt; maps = inr (refl, t.maps) })
        | inr neither ↦ let refused = rw (other, neither) at e in absurd cc
      ]
    ]

behind_again : (version place : ℕ) (p : PartialTransaction) (global : List Pair) (inputs outputs : List (List Pair)) (at : At) (rest : List ℕ) → IsPsbt p → AreMapsOf version p global inputs outputs → at.rest ≡ flat_map map_text inputs ++ (flat_map map_text outputs ++ rest)
    → Again (behind_global place global at) (record { version = version; psbt = p }) rest
unfolding behind_global
behind_again version place p global inputs outputs at rest psbt (inl (is, maps)) parts =
    let told : version_of global ≡ 0 = version_again p.tx global maps.global_is in
    let first : (version_of global == 0) ≡ true = eq-eqb (version_of global) 0 told in
    let a = whole_again p global inputs outputs at rest psbt maps parts in
    let named : made 0 (p, a.next) ≡ made version (p, a.next) = ap (λ (n : ℕ). made n (p, a.next)) (sym is) in
    record { next = a.next; reads = rw first (bind_is _ (in_version 0) _ _ a.reads (ap (λ (x : Versioned × At). Ok x) named)); left = a.left }
behind_again version place p global inputs outputs at rest psbt (inr (is, maps)) parts =
    let told : version_of global ≡ 2 = fields_version p.tx global maps.global_is in
    let other : (version_of global == 0) ≡ false = ap (λ (n : ℕ). n == 0) told in
    let second : (version_of global == 2) ≡ true = eq-eqb (version_of global) 2 told in
    let a = fields_again place p global inputs outputs at rest psbt maps parts in
    let named : made 2 (p, a.next) ≡ made version (p, a.next) = ap (λ (n : ℕ). made n (p, a.next)) (sym is) in
    record { next = a.next; reads = rw (other, second) (bind_is _ (in_version 2) _ _ a.reads (ap (λ (x : Versioned × At). Ok x) named)); left = a.left }

global_fits : (version : ℕ) (p : PartialTransaction) (global : List Pair) (inputs outputs : List (List Pair)) → AreMapsOf version p global inputs outputs → MapFits Global [] global
global_fits version p global inputs outputs (inl (is, maps)) = global_fit p.tx global maps.global_is
global_fits version p global inputs outputs (inr (is, maps)) = fields_fit_global p.tx global maps.global_is

-- ---- the whole

magic_takes : (at : At) (x : Unit {0} × At) → IsBytes at.rest → magic_at at ≡ Ok x → Takes at magic x.1
magic_takes at x fits e =
    let g = guard_met _ _ _ _ e in
    let first : take 5 at.rest ≡ magic = (bytes_eq-Decides (take 5 at.rest) magic).0 g.0 in
    let taken : Takes at magic (after 5 at) = record { parts = sym (take-append-drop 5 at.rest) ∙ ap (λ (l : List ℕ). l ++ drop 5 at.rest) first; place_is = refl; rest_fits = All-drop (λ b. b < 256) 5 at.rest fits } in
    subst (λ (y : Unit {0} × At). Takes at magic y.1) (ok_is (tt, after 5 at) x (Ok (tt, after 5 at)) refl g.1) taken

magic_again : (at : At) (rest : List ℕ) → at.rest ≡ magic ++ rest → Again (magic_at at) tt rest
magic_again at rest parts =
    let first : bytes_eq (take 5 at.rest) magic ≡ true = (bytes_eq-Decides (take 5 at.rest) magic).1 (ap (λ (l : List ℕ). take 5 l) parts ∙ take_at magic rest 5 refl) in
    record { next = after 5 at; reads = rw first refl; left = ap (λ (l : List ℕ). drop 5 l) parts ∙ drop_at magic rest 5 refl }

pub record PsbtTaken (at : At) (x : Versioned × At) : Type 0 where
  pub text : List ℕ
  pub takes : Takes at text x.1
  pub readable : IsReadableIn x.0.version text x.0.psbt

pub psbt_takes : (at : At) (x : Versioned × At) → IsBytes at.rest → psbt_at at ≡ Ok x → PsbtTaken at x
unfolding psbt_at maps_at
psbt_takes at x fits e =
    let m = bind_ok _ _ x e in
    let a = bind_ok _ _ x m.2 in
    let tm = magic_takes at m.0 fits m.1 in
    let ta = (map_reads Global).takes m.0.1 a.0 tm.rest_fits a.1 in
    let b = behind_takes m.0.1.place a.0.0 a.0.1 x ta.1 ta.0.rest_fits a.2 in
    let ab = takes_then m.0.1 a.0.1 x.1 (map_text a.0.0) (flat_map map_text b.inputs ++ flat_map map_text b.outputs) ta.0 b.takes in
    let all = takes_then at m.0.1 x.1 magic (map_text a.0.0 ++ (flat_map map_text b.inputs ++ flat_map map_text b.outputs)) tm ab in
    let readable : IsReadable (spelled a.0.0 b.inputs b.outputs) x.0.psbt = record { version = x.0.version; psbt = b.psbt; global = a.0.0; inputs = b.inputs; outputs = b.outputs; spelling = refl; maps = b.maps } in
    record { text = spelled a.0.0 b.inputs b.outputs; takes = all; readable = (readable, refl) }

pub psbt_again : (text : List ℕ) (p : PartialTransaction) (at : At) (rest : List ℕ) → (is : IsReadable text p) → at.rest ≡ text ++ rest → Again (psbt_at at) (record { version = is.version; psbt = p }) rest
unfolding psbt_at maps_at
psbt_again text p at rest is parts =
    let g = map_text is.global in
    let i = flat_map map_text is.inputs in
    let o = flat_map map_text is.outputs in
    let parted : at.rest ≡ magic ++ (g ++ (i ++ (o ++ rest))) = parts ∙ ap (λ (l : List ℕ). l ++ rest) is.spelling ∙ regroup3 magic g i o rest in
    let m = magic_again at (g ++ (i ++ (o ++ rest))) parted in
    let a = (map_reads Global).again is.global m.next (i ++ (o ++ rest)) (global_fits is.version p is.global is.inputs is.outputs is.maps) m.left in
    let b = behind_again is.version m.next.place p is.global is.inputs is.outputs a.next rest is.psbt is.maps a.left in
    record { next = b.next; reads = bind_is _ _ _ _ m.reads (bind_is _ _ _ _ a.reads b.reads); left = b.left }

-- what is read is readable
pub versioned_takes : (bytes : List ℕ) (v : Versioned) → IsBytes bytes → versioned_of bytes ≡ Ok v → IsReadableIn v.version bytes v.psbt
versioned_takes bytes v fits e =
    let a = bind_ok (psbt_at (start bytes)) _ v e in
    let g = guard_met _ _ _ _ a.2 in
    let t = psbt_takes (start bytes) a.0 fits a.1 in
    let nothing : a.0.1.rest ≡ [] = nil_from_length a.0.1.rest (eqb-true _ _ g.0) in
    let whole : bytes ≡ t.text = t.takes.parts ∙ ap (λ (r : List ℕ). t.text ++ r) nothing ∙ append-nil t.text in
    subst (λ (w : Versioned). IsReadableIn w.version bytes w.psbt) (ok_is a.0.0 v (Ok a.0.0) refl g.1) (subst (λ (l : List ℕ). IsReadableIn a.0.0.version l a.0.0.psbt) (sym whole) t.readable)

-- what is readable is read
pub versioned_again : (bytes : List ℕ) (p : PartialTransaction) → (is : IsReadable bytes p) → versioned_of bytes ≡ Ok (record { version = is.version; psbt = p })
versioned_again bytes p is =
    let a = psbt_again bytes p (start bytes) [] is (sym (append-nil bytes)) in
    let nothing : length a.next.rest ≡ 0 = ap (λ (r : List ℕ). length r) a.left in
    let v : Versioned = record { version = is.version; psbt = p } in
    bind_is (psbt_at (start bytes)) _ (v, a.next) (Ok v) a.reads (rw nothing refl)

pub versioned_in : (bytes : List ℕ) (version : ℕ) (p : PartialTransaction) → IsReadableIn version bytes p → versioned_of bytes ≡ Ok (of_version version p)
versioned_in bytes version p is = versioned_again bytes p is.0 ∙ ap (λ (n : ℕ). Ok (of_version n p)) is.1

-- ---- without the version

-- what was read, and in which version
pub unversioned_ok : (r : Result Versioned PsbtFault) (p : PartialTransaction) → unversioned r ≡ Ok p → (v : Versioned) × (r ≡ Ok v) × (v.psbt ≡ p)
unversioned_ok (Ok v) p e = (v, refl, cc)
unversioned_ok (Err d) p e = absurd cc

pub unversioned_err : (r : Result Versioned PsbtFault) (e : PsbtFault) → unversioned r ≡ Err e → r ≡ Err e
unversioned_err (Ok v) e is = absurd cc
unversioned_err (Err d) e is = cc

pub unversioned_fails : (r : Result Versioned PsbtFault) (e : PsbtFault) → r ≡ Err e → unversioned r ≡ Err e
unversioned_fails r e is = ap unversioned is

-- what is read is readable
pub read_takes : (bytes : List ℕ) (p : PartialTransaction) → IsBytes bytes → read_of bytes ≡ Ok p → IsReadable bytes p
read_takes bytes p fits e =
    let a = unversioned_ok (versioned_of bytes) p e in
    subst (λ (q : PartialTransaction). IsReadable bytes q) a.2 (versioned_takes bytes a.0 fits a.1).0

-- what is readable is read
pub read_again : (bytes : List ℕ) (p : PartialTransaction) → IsReadable bytes p → read_of bytes ≡ Ok p
read_again bytes p is = ap unversioned (versioned_again bytes p is)
