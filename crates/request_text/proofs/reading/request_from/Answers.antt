use Rattle.std.proofs.Common.{◌≡◌, true, codes, is_some, Some, Result, subst, sym}
use Rattle.std.proofs.lemmas.Result.{IfOk-weaker}
use Rattle.serde_json.specs.Data.{Data}
use Rattle.serde_json.specs.Find.{get}
use Rattle.json_fields.specs.Tree.{view}
use Rattle.json_fields.specs.Fields.{parsed}
use Rattle.request_text.specs.PlainRequest.{PlainRequest, draws}
use Rattle.request_text.specs.Reported.{Gives}
use Rattle.request_text.specs.declared.fault.Refusal.{Refusal}
use Rattle.request_text.proofs.PartLaws.{parts_of}
use Rattle.request_text.proofs.Seeds.{same_value}
use Rattle.request_text.proofs.reading.request_from.Goals as goal

pub returns-clause-gives : goal.returns-clause-gives
returns-clause-gives c =
    subst (λ (r : Result PlainRequest Refusal). Gives (λ q. q) c.request_in.result r) (sym (parts_of c.args.bytes.now (view c.in_ok-value.value) c.in_ok-value.ensures)) c.request_in.ensures.gives

pub returns-clause-seed : goal.returns-clause-seed
returns-clause-seed c =
    let given : PlainRequest → Type 0 = λ r. draws r.method ≡ true → is_some (get (codes "seed") (view c.in_ok-value.value)) ≡ true in
    let wanted : PlainRequest → Type 0 = λ r. (d : Data) → parsed c.args.bytes.now ≡ Some d → draws r.method ≡ true → is_some (get (codes "seed") d) ≡ true in
    IfOk-weaker c.request_in.result given wanted
    (λ r h d parses drawn. subst (λ (e : Data). is_some (get (codes "seed") e) ≡ true) (same_value c.args.bytes.now (view c.in_ok-value.value) d c.in_ok-value.ensures parses) (h drawn))
    c.request_in.ensures.seed
