-- The request that a file says which leaves out what it may.
use Rattle.std.proofs.Common.{◌≡◌, ℕ, ◌<◌, true, List, [], Option, None, Ok, refl, sym, ap, ◌∙◌, arith}
use Rattle.std.specs.Prelude.{codes, replicate}
use Rattle.json_fields.specs.Rules.{said}
use Rattle.serde_json.specs.Data.{Data}
use Rattle.serde_json.specs.Find.{get}
use Rattle.request_text.specs.PlainRequest.{PlainRequest}
use Rattle.request_text.specs.RequestText.{field, rate_at, recipients_at, request_at, seed_at}
use Rattle.request_text.specs.Table.{said_by}
use Rattle.request_text.proofs.TableLaws.{values}
use Rattle.command_work.specs.LeftOut.{LeavesRestOut}
use Rattle.command_work.specs.Load.{request_with}

filled : (d : Data) (q : PlainRequest) (amount : ℕ) → LeavesRestOut d → q ≡ said_by d → q.recipients ≡ (request_with amount).recipients → q.rate ≡ 25_000 → q.seed ≡ replicate 32 0 → said_by d ≡ request_with amount
unfolding said_by
filled d q amount out is recipients rate seed =
    let r : said [] recipients_at (get (codes "recipients") d) ≡ (request_with amount).recipients = sym (ap (λ (p : PlainRequest). p.recipients) is) ∙ recipients in
    let s : said 0 (rate_at (codes "rate")) (get (codes "rate") d) ≡ 25_000 = sym (ap (λ (p : PlainRequest). p.rate) is) ∙ rate in
    let t : said (replicate 32 0) (λ m. field (seed_at m)) (get (codes "seed") d) ≡ replicate 32 0 = sym (ap (λ (p : PlainRequest). p.seed) is) ∙ seed in
    rw (r, s, t, out 0 [] (omega arith), out 1 [] (omega arith), out 2 [] (omega arith), out 3 [] (omega arith), out 4 [] (omega arith), out 5 [] (omega arith), out 6 [] (omega arith), out 7 [] (omega arith), out 8 [] (omega arith), out 9 [] (omega arith), out 10 [] (omega arith), out 11 [] (omega arith), out 12 [] (omega arith), out 13 [] (omega arith)) refl

pub left_out : (d : Data) (q : PlainRequest) (amount : ℕ) → LeavesRestOut d → request_at d ≡ Ok q → q.recipients ≡ (request_with amount).recipients → q.rate ≡ 25_000 → q.seed ≡ replicate 32 0 → q ≡ request_with amount
left_out d q amount out reads recipients rate seed = let is = values d q reads in is ∙ filled d q amount out is recipients rate seed
