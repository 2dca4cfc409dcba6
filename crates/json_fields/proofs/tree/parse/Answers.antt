use Rattle.std.proofs.Common.{◌≡◌, [], Some, sym}
use Rattle.std.proofs.lemmas.Result.{err_from_is_err_and}
use Rattle.json.specs.Json.{value}
use Rattle.json.specs.Lex.{tokens}
use Rattle.json.specs.Value.{value_view}
use Rattle.serde_json.specs.Read.{max_depth}
use Rattle.json_fields.proofs.Parsed.{no_value_of, none_left, some_left, too_large, read_of, next_some, next_none}
use Rattle.json_fields.proofs.tree.parse.Goals.{then-is_some-via-then-is_some, then-is_some-via-else-is_some+then-not-is_in_range}
use Rattle.json_fields.proofs.tree.parse.Goals as goal

pub returns-in_default : goal.returns-in_default
returns-in_default c other = no_value_of c.args.bytes.now (λ utf8. absurd (c.in_default.ensures.cases.0 utf8))

pub returns-in_err-value : goal.returns-in_err-value
returns-in_err-value c =
    let p = err_from_is_err_and c.from_residual-in_err-value.result c.from_residual-in_err-value.ensures.1 in
    let reads = c.in_err-value.ensures.refused in
    rw (p.1, p.2) (λ other. let r = reads other in rw r.0 (none_left c.args.bytes.now c.in-Ok.text.now c.in-Ok.ensures.cases.0 (rw c.in_ok-reader.ensures.ok at r.1)))

pub returns-then-is_some : goal.returns-then-is_some
returns-then-is_some c other =
    let bytes = c.args.bytes.now in
    let text = c.in-Ok.text.now in
    let same : text ≡ bytes = c.in-Ok.ensures.cases.0 in
    let left = c.read_value.new.reader in
    let read : value max_depth (tokens text) ≡ Some (value_view c.in_ok-value.value, left) = rw c.in_ok-reader.ensures.ok at c.in_ok-value.ensures.ok in
    elim c.then-is_some.branch [
      | then-is_some-via-then-is_some w ↦
          let next = next_some left c.next.new.self c.next.result (sym w.if-is_some.ensures) c.next.ensures.value in
          some_left bytes text c.in_ok-value.value next.0 next.1 same (rw next.2 at read)
      | then-is_some-via-else-is_some+then-not-is_in_range w ↦
          let none : left ≡ [] = next_none left c.next.new.self c.next.result (sym w.if-is_some.ensures) c.next.ensures.value in
          too_large bytes text c.in_ok-value.value same (rw none at read) (sym w.if-not-is_in_range.ensures)
    ]

pub returns : goal.returns
returns c =
    let bytes = c.args.bytes.now in
    let text = c.in-Ok.text.now in
    let left = c.read_value.new.reader in
    let read : value max_depth (tokens text) ≡ Some (value_view c.in_ok-value.value, left) = rw c.in_ok-reader.ensures.ok at c.in_ok-value.ensures.ok in
    let none : left ≡ [] = next_none left c.next.new.self c.next.result (sym c.if-is_some.ensures) c.next.ensures.value in
    read_of bytes text c.in_ok-value.value c.in-Ok.ensures.cases.1 c.in-Ok.ensures.cases.0 (rw none at read) (sym c.if-not-is_in_range.ensures)
