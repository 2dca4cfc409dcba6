use Rattle.std.proofs.Common.{◌≡◌, ℕ, List, Bor, drop, filter, not, option_map}
use Rattle.json.specs.Strict.{keys}
use Rattle.json.specs.Value as trees
use Rattle.json_fields.specs.Fields.{texts, is_among, least}
use Rattle.json_fields.proofs.Names.{least_with}
use Rattle.json_fields.proofs.object.least_among.Given as goal

abbrev pub invariant-loop-member : goal.invariant-loop-member
invariant-loop-member l =
    least_with (option_map (λ (n : Bor (List ℕ)). n.now) l.least) (filter (λ name. not (is_among (texts l.known) name)) (keys (trees.members_view (drop l.member-index l.members))))
    ≡ least (filter (λ name. not (is_among (texts l.known) name)) (keys (trees.members_view l.members)))
