use Rattle.std.proofs.Common.{◌≡◌, ◌+◌, ◌∙◌, ℕ, List, ◌∷◌, Bool, not, drop, filter, Bor, Some, option_map, sym, ap}
use Rattle.std.proofs.lemmas.List.{drop_more}
use Rattle.json.specs.Strict.{keys}
use Rattle.json.specs.Value.{members_view}
use Rattle.json_fields.specs.Fields.{texts, is_among}
use Rattle.json_fields.specs.Tree.{lesser_than}
use Rattle.json_fields.proofs.Names.{is_among_texts, least_with, kept, dropped}
use Rattle.json_fields.proofs.object.least_among.Goals.{then-not-is_among, else-not-is_among}
use Rattle.json_fields.proofs.object.least_among.Goals as goal

pub loop-member-preserved : goal.loop-member-preserved
loop-member-preserved c =
    let ms = c.args.members.now in
    let m = c.member-item.result in
    let next = c.loop-member.member-index + 1 in
    let p : List ℕ → Bool = λ name. not (is_among (texts c.args.known.now) name) in
    let now : Bor (List ℕ) → List ℕ = λ n. n.now in
    let found = option_map now c.loop-member.least in
    let here : drop c.loop-member.member-index ms ≡ m ∷ drop next ms = drop_more ms c.loop-member.member-index m c.loop-member-test.true ∙ ap (λ y. y ∷ drop next ms) (sym c.member-item.is) in
    let tested : is_among (texts c.args.known.now) m.0.now ≡ c.is_among.result = is_among_texts c.args.known.now m.0.now ∙ sym c.is_among.ensures in
    let so_far = ap (λ rest. least_with found (filter p (keys (members_view rest)))) (sym here) ∙ c.loop-member.invariant in
    elim c.if-not-is_among.branch [
      | then-not-is_among w ↦
          let least : option_map now c.if-not-is_among.least ≡ Some (lesser_than found m.0.now) = ap (option_map now) w.least-is ∙ ap Some w.lesser_than.ensures in
          rw least (sym (kept p found m (drop next ms) (ap not (tested ∙ w.if-not-is_among.true))) ∙ so_far)
      | else-not-is_among w ↦
          rw w.least-is (sym (dropped p found m (drop next ms) (ap not (tested ∙ w.if-not-is_among.false))) ∙ so_far)
    ]
