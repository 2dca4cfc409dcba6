use Rattle.std.proofs.Common.{◌∙◌, ◌<◌, ◌++◌, ℕ, List, [], refl, sym, ap, arith, length}
use Rattle.std.proofs.lemmas.Bool.{eqb-false, eqb-true}
use Rattle.std.proofs.lemmas.List.{nil_from_length}
use Rattle.std.proofs.lemmas.List.Elements.{All-nil}
use Rattle.fund_base.specs.CompactSize.{prefixed}
use Rattle.signed_psbt.proofs.MapLaws.{absent, end_parts, got, key_is, pair_parts}
use Rattle.signed_psbt.proofs.maps.pair_of.Goals as goal

pub returns-in_default-clause-pair : goal.returns-in_default-clause-pair
returns-in_default-clause-pair c = λ p behind plain e. absurd (absent _ _ _ _ _ (got c.args.cursor.now c.bytes_of.new.cursor c.bytes_of.result p.key (prefixed p.value ++ behind) c.bytes_of.ensures.gives c.bytes_of.ensures.never_short plain.key (pair_parts p c.args.cursor.now.rest behind e)) c.in_default.is)

pub returns-in_default-clause-end : goal.returns-in_default-clause-end
returns-in_default-clause-end c = λ behind e. absurd (absent _ _ _ _ _ (got c.args.cursor.now c.bytes_of.new.cursor c.bytes_of.result [] behind c.bytes_of.ensures.gives c.bytes_of.ensures.never_short (All-nil (λ (b : ℕ). b < 256), omega arith) (end_parts c.args.cursor.now.rest behind e)) c.in_default.is)

pub returns-then-is_empty-clause-pair : goal.returns-then-is_empty-clause-pair
returns-then-is_empty-clause-pair c = λ p behind plain e. absurd (plain.some (sym (key_is _ _ _ _ _ (got c.args.cursor.now c.bytes_of.new.cursor c.bytes_of.result p.key (prefixed p.value ++ behind) c.bytes_of.ensures.gives c.bytes_of.ensures.never_short plain.key (pair_parts p c.args.cursor.now.rest behind e)) c.in-Ok.is) ∙ nil_from_length c.in-Ok.key.now (eqb-true _ _ (sym c.is_empty.ensures ∙ c.if-is_empty.true))))

pub returns-then-is_empty-clause-end : goal.returns-then-is_empty-clause-end
returns-then-is_empty-clause-end c = λ behind e. (refl, let g = (got c.args.cursor.now c.bytes_of.new.cursor c.bytes_of.result [] behind c.bytes_of.ensures.gives c.bytes_of.ensures.never_short (All-nil (λ (b : ℕ). b < 256), omega arith) (end_parts c.args.cursor.now.rest behind e)) in g.left)

pub returns-in_default-bytes_of-clause-pair : goal.returns-in_default-bytes_of-clause-pair
returns-in_default-bytes_of-clause-pair c = λ p behind plain e. let k = (got c.args.cursor.now c.bytes_of.new.cursor c.bytes_of.result p.key (prefixed p.value ++ behind) c.bytes_of.ensures.gives c.bytes_of.ensures.never_short plain.key (pair_parts p c.args.cursor.now.rest behind e)) in absurd (absent _ _ _ _ _ (got c.bytes_of.new.cursor c.bytes_of-2.new.cursor c.bytes_of-2.result p.value behind c.bytes_of-2.ensures.gives c.bytes_of-2.ensures.never_short plain.value k.left) c.in_default-bytes_of.is)

pub returns-in_default-bytes_of-clause-end : goal.returns-in_default-bytes_of-clause-end
returns-in_default-bytes_of-clause-end c = λ behind e. absurd (eqb-false _ _ (sym c.is_empty.ensures ∙ c.if-is_empty.false) (ap (λ (l : List ℕ). length l) (key_is _ _ _ _ _ (got c.args.cursor.now c.bytes_of.new.cursor c.bytes_of.result [] behind c.bytes_of.ensures.gives c.bytes_of.ensures.never_short (All-nil (λ (b : ℕ). b < 256), omega arith) (end_parts c.args.cursor.now.rest behind e)) c.in-Ok.is)))

pub returns-clause-pair : goal.returns-clause-pair
returns-clause-pair c = λ p behind plain e. let k = (got c.args.cursor.now c.bytes_of.new.cursor c.bytes_of.result p.key (prefixed p.value ++ behind) c.bytes_of.ensures.gives c.bytes_of.ensures.never_short plain.key (pair_parts p c.args.cursor.now.rest behind e)) in let v = (got c.bytes_of.new.cursor c.bytes_of-2.new.cursor c.bytes_of-2.result p.value behind c.bytes_of-2.ensures.gives c.bytes_of-2.ensures.never_short plain.value k.left) in ((key_is _ _ _ _ _ k c.in-Ok.is, key_is _ _ _ _ _ v c.in-Ok-bytes_of.is), v.left)

pub returns-clause-end : goal.returns-clause-end
returns-clause-end c = λ behind e. absurd (eqb-false _ _ (sym c.is_empty.ensures ∙ c.if-is_empty.false) (ap (λ (l : List ℕ). length l) (key_is _ _ _ _ _ (got c.args.cursor.now c.bytes_of.new.cursor c.bytes_of.result [] behind c.bytes_of.ensures.gives c.bytes_of.ensures.never_short (All-nil (λ (b : ℕ). b < 256), omega arith) (end_parts c.args.cursor.now.rest behind e)) c.in-Ok.is)))
