use Rattle.std.proofs.Common.{Result, Ok, Err, ◌∙◌, sym, ap, refl, not, cond, ◌++◌, ◌∷◌, []}
use Rattle.std.specs.Prelude.{OnErr}
use Rattle.json_fields.specs.Fields.{is_among}
use Rattle.wallet_text.proofs.Strings.{lists_inserted, fresh_string, is_among_lists}
use Rattle.wallet_text.proofs.seen.Seen.insert.Goals as goal

pub returns-clause-fresh : goal.returns-clause-fresh
returns-clause-fresh c =
    c.in_ok-insert.ensures.added ∙ fresh_string c.self.inside.strings.keys c.args.string c.args.string.items refl ∙ ap (λ s. not (is_among s c.args.string.items)) c.self.view_is

pub returns-clause-strings : goal.returns-clause-strings
returns-clause-strings c =
    lists_inserted c.self.inside.strings.keys c.insert.new.self.keys c.args.string c.args.string.items refl c.in_ok-insert.ensures.keys
    ∙ ap (λ s. cond (is_among s c.args.string.items) s (s ++ c.args.string.items ∷ [])) c.self.view_is

on_err : {X E P : Type 0} (r : Result X E) → P → OnErr r P
on_err (Ok x) p = tt
on_err (Err e) p = p

pub returns-in_err-insert-clause-absent : goal.returns-in_err-insert-clause-absent
returns-in_err-insert-clause-absent c =
    on_err c.from_residual.result (ap (λ s. is_among s c.args.string.items) (sym c.self.view_is) ∙ is_among_lists c.self.inside.strings.keys c.args.string.items ∙ c.in_err-insert.ensures.absent)
