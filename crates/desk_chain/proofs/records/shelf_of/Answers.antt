use Rattle.std.specs.Prelude.{ℕ, List, Vec, String, ◌∷◌, [], ◌++◌, codes}
use Rattle.std.proofs.Common.{ap, ◌∙◌, Global}
use Rattle.fund_shelf.specs.Causes.{ShelfView}
use Rattle.desk_chain.proofs.ShelfLaws.{one_file}
use Rattle.desk_chain.proofs.records.shelf_of.Goals as goal

pub returns : goal.returns
returns c =
    let name : String Global = c.in_ok-name.name in
    let held : Vec ℕ Global = c.in_ok-bytes.bytes in
    ap (λ (v : ShelfView). v.files (codes "blocks")) c.new.ensures.view
    ∙ one_file c.push.new.self.items name held (codes "blocks") c.args.bytes.now (c.in_ok-push.ensures.items ∙ ap (λ (fs : List (String Global × Vec ℕ Global)). fs ++ (name, held) ∷ []) c.new-files.ensures.items) c.in_ok-name.ensures.ok c.in_ok-bytes.ensures.items
