use Rattle.std.proofs.Common.{◌≡◌, ap, ℕ, List, [], sym}
use Rattle.std.specs.Prelude.{bytes_eq, is_some}
use Rattle.std.specs.Map.{lookup}
use Rattle.std.proofs.lemmas.List.{nil_from_length}
use Rattle.coin_book.proofs.adding.has_height.Goals as goal

pub returns-then-is_empty : goal.returns-then-is_empty
returns-then-is_empty c =
    let none : c.args.heights.now.entries ≡ [] = nil_from_length c.args.heights.now.entries (c.is_empty.ensures.0 c.if-is_empty.true) in
    ap (λ (es : List (List ℕ × ℕ)). is_some (lookup (bytes_eq c.args.txid.now) es)) (sym none)
