use Rattle.std.proofs.Common.{◌≡◌, ◌∙◌, ℕ, List, Contains, refl, sym, ap, subst, inl, inr}
use Rattle.std.specs.List.{insert}
use Rattle.psbt_codec.specs.Psbt.{Pair}
use Rattle.psbt_keys.specs.Placing.{IsPlace, IsPut}
use Rattle.psbt_keys.specs.declared.fault.MapFault.TheVariants.{Differs}
use Rattle.psbt_keys.proofs.FoundLaws.{agree, differ, found_none, found_under, looked_up}
use Rattle.psbt_keys.proofs.ReadLaws.{pair_is}
use Rattle.psbt_keys.proofs.placing.put.Goals as goal

pub returns-in_default : goal.returns-in_default
returns-in_default c =
    let q = c.args.pair.now in
    let pairs = c.args.pairs.now.items in
    let key = λ (k : List ℕ) (e : k ≡ c.pair.inside.key.items). e ∙ ap (λ (p : Pair). p.key) c.pair.view_is in
    let value = λ (k : List ℕ) (e : k ≡ c.pair.inside.value.items). e ∙ ap (λ (p : Pair). p.value) c.pair.view_is in
    let look = looked_up c.value_under.result q.key c.deref-2.result.now pairs c.deref.result.now c.value_under.ensures (key c.deref-2.result.now c.deref-2.ensures.value) c.deref.ensures.value in
    let place = c.place_for-place.result in
    let at_key : IsPlace q.key c.deref-in_default.result.now place = subst (λ (k : List ℕ). IsPlace k c.deref-in_default.result.now place) (key c.deref-in_default-2.result.now c.deref-in_default-2.ensures.value) c.place_for-place.ensures in
    let at_place : IsPlace q.key pairs place = subst (λ (l : List Pair). IsPlace q.key l place) c.deref-in_default.ensures.value at_key in
    let same : c.in_ok-copy_of.field-0 ≡ q = c.in_ok-copy_of.ensures ∙ pair_is q c.deref-in_default-3.result.now c.deref-in_default-4.result.now (key c.deref-in_default-3.result.now c.deref-in_default-3.ensures.value) (value c.deref-in_default-4.result.now c.deref-in_default-4.ensures.value) in
    let put : IsPut q pairs c.insert.new.self.items = record {
      absent = found_none c.value_under.result q.key pairs c.in_default.is look;
      place = place;
      place_is = at_place;
      new_is = c.in_ok-insert.ensures.items ∙ ap (λ (p : Pair). insert pairs place p) same;
    } in
    inr put

pub returns-then-ne : goal.returns-then-ne
returns-then-ne c = λ other.
    let q = c.args.pair.now in
    let pairs = c.args.pairs.now.items in
    let look = looked_up c.value_under.result q.key c.deref-2.result.now pairs c.deref.result.now c.value_under.ensures (c.deref-2.ensures.value ∙ ap (λ (p : Pair). p.key) c.pair.view_is) c.deref.ensures.value in
    let u = found_under c.value_under.result c.in-Some.value q.key pairs c.in-Some.is look in
    let own : c.as_slice.result.now ≡ q.value = c.as_slice.ensures.value ∙ ap (λ (p : Pair). p.value) c.pair.view_is in (
      ap (λ (k : ℕ). Differs c.args.number k) c.kind.ensures,
      (u.pair, u.there, u.key_is, λ same. differ c.ne.result c.in-Some.value.now c.as_slice.result.now c.ne.ensures c.if-ne.true (sym u.value_is ∙ same ∙ sym own)),
    )

pub returns : goal.returns
returns c =
    let q = c.args.pair.now in
    let pairs = c.args.pairs.now.items in
    let look = looked_up c.value_under.result q.key c.deref-2.result.now pairs c.deref.result.now c.value_under.ensures (c.deref-2.ensures.value ∙ ap (λ (p : Pair). p.key) c.pair.view_is) c.deref.ensures.value in
    let u = found_under c.value_under.result c.in-Some.value q.key pairs c.in-Some.is look in
    let own : c.as_slice.result.now ≡ q.value = c.as_slice.ensures.value ∙ ap (λ (p : Pair). p.value) c.pair.view_is in
    let value = u.value_is ∙ agree c.ne.result c.in-Some.value.now c.as_slice.result.now c.ne.ensures c.if-ne.false ∙ own in
    inl (subst (λ (p : Pair). Contains pairs p) (pair_is q u.pair.key u.pair.value u.key_is value) u.there, refl)
