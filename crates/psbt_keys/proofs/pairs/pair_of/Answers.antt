use Rattle.std.proofs.Common.{◌∙◌, ◌++◌, ℕ, List, [], refl, sym, ap, length}
use Rattle.std.proofs.lemmas.Bool.{eqb-false, eqb-true}
use Rattle.std.proofs.lemmas.List.{nil_from_length}
use Rattle.fund_base.specs.CompactSize.{prefixed}
use Rattle.signed_psbt.proofs.MapLaws.{end_parts, pair_parts}
use Rattle.psbt_keys.proofs.ReadLaws.{empty_fits, none_is, some_is}
use Rattle.psbt_keys.proofs.pairs.pair_of.Goals as goal

pub returns-in_default-clause-pair : goal.returns-in_default-clause-pair
returns-in_default-clause-pair c = λ p behind plain e. absurd (none_is c.string_of.result p.key c.in_default.is (c.string_of.ensures.string p.key (prefixed p.value ++ behind) plain.key (pair_parts p c.args.cursor.now.rest behind e)).0)

pub returns-in_default-clause-end : goal.returns-in_default-clause-end
returns-in_default-clause-end c = λ behind e. absurd (none_is c.string_of.result [] c.in_default.is (c.string_of.ensures.string [] behind empty_fits (end_parts c.args.cursor.now.rest behind e)).0)

pub returns-then-is_empty-clause-pair : goal.returns-then-is_empty-clause-pair
returns-then-is_empty-clause-pair c = λ p behind plain e. absurd (plain.some (sym (some_is c.string_of.result c.in-Some.key p.key c.in-Some.is (c.string_of.ensures.string p.key (prefixed p.value ++ behind) plain.key (pair_parts p c.args.cursor.now.rest behind e)).0) ∙ nil_from_length c.in-Some.key.now (eqb-true _ _ (sym c.is_empty.ensures ∙ c.if-is_empty.true))))

pub returns-then-is_empty-clause-end : goal.returns-then-is_empty-clause-end
returns-then-is_empty-clause-end c = λ behind e. (refl, (c.string_of.ensures.string [] behind empty_fits (end_parts c.args.cursor.now.rest behind e)).1)

pub returns-in_default-string_of-clause-pair : goal.returns-in_default-string_of-clause-pair
returns-in_default-string_of-clause-pair c = λ p behind plain e. absurd (none_is c.string_of-2.result p.value c.in_default-string_of.is (c.string_of-2.ensures.string p.value behind plain.value (c.string_of.ensures.string p.key (prefixed p.value ++ behind) plain.key (pair_parts p c.args.cursor.now.rest behind e)).1).0)

pub returns-in_default-string_of-clause-end : goal.returns-in_default-string_of-clause-end
returns-in_default-string_of-clause-end c = λ behind e. absurd (eqb-false _ _ (sym c.is_empty.ensures ∙ c.if-is_empty.false) (ap (λ (l : List ℕ). length l) (some_is c.string_of.result c.in-Some.key [] c.in-Some.is (c.string_of.ensures.string [] behind empty_fits (end_parts c.args.cursor.now.rest behind e)).0)))

pub returns-clause-pair : goal.returns-clause-pair
returns-clause-pair c = λ p behind plain e.
    let k = (c.string_of.ensures.string p.key (prefixed p.value ++ behind) plain.key (pair_parts p c.args.cursor.now.rest behind e)) in
    let v = c.string_of-2.ensures.string p.value behind plain.value k.1 in
    ((some_is c.string_of.result c.in-Some.key p.key c.in-Some.is k.0, some_is c.string_of-2.result c.in-Some-string_of.value p.value c.in-Some-string_of.is v.0), v.1)

pub returns-clause-end : goal.returns-clause-end
returns-clause-end c = λ behind e. absurd (eqb-false _ _ (sym c.is_empty.ensures ∙ c.if-is_empty.false) (ap (λ (l : List ℕ). length l) (some_is c.string_of.result c.in-Some.key [] c.in-Some.is (c.string_of.ensures.string [] behind empty_fits (end_parts c.args.cursor.now.rest behind e)).0)))
