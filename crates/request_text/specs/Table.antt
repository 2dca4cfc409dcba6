-- What each member of a request says by itself, and what is wrong with it.
use Rattle.std.specs.Prelude.{ℕ, true, false, List, [], ◌∷◌, codes, replicate, Option, None}
use Rattle.json_fields.specs.Fields.{number_at, flag_at}
use Rattle.json_fields.specs.Rules.{wrong, said}
use Rattle.serde_json.specs.Data.{Data}
use Rattle.serde_json.specs.Find.{get}
use Rattle.request_text.specs.PlainRequest.{PlainRequest}
use Rattle.request_text.specs.RequestText.{field, recipients_at, rate_at, method_at, seed_at, tries_at, take_at, coins_at, bump_at, version_at}
use Rattle.request_text.specs.declared.fault.Refusal.{Refusal}
use Rattle.request_text.specs.declared.request.Method.TheVariants.{Auto}

-- a truth value
abbrev pub flag_of_name : List ℕ → Data → Option Refusal
flag_of_name name d = wrong (λ m. field (flag_at name m)) (get name d)

-- a whole number up to the greatest
abbrev pub number_of_name : List ℕ → ℕ → Data → Option Refusal
number_of_name name most d = wrong (λ m. field (number_at name most m)) (get name d)

-- each member's own fault, in the order of the format's table
unfoldable pub member_faults : Data → List (Option Refusal)
member_faults d =
    wrong recipients_at (get (codes "recipients") d)
    ∷ wrong (rate_at (codes "rate")) (get (codes "rate") d)
    ∷ wrong (rate_at (codes "long_term")) (get (codes "long_term") d)
    ∷ wrong (rate_at (codes "discard")) (get (codes "discard") d)
    ∷ number_of_name (codes "change_target") 2_100_000_000_000_000 d
    ∷ wrong (λ m. field (method_at m)) (get (codes "method") d)
    ∷ wrong (λ m. field (seed_at m)) (get (codes "seed") d)
    ∷ wrong tries_at (get (codes "tries") d)
    ∷ wrong (λ m. field (take_at m)) (get (codes "when_unfinished") d)
    ∷ flag_of_name (codes "zero_conf") d
    ∷ flag_of_name (codes "include_unsafe") d
    ∷ flag_of_name (codes "group") d
    ∷ wrong coins_at (get (codes "coins") d)
    ∷ wrong (λ m. field (bump_at m)) (get (codes "bump") d)
    ∷ flag_of_name (codes "replaceable") d
    ∷ number_of_name (codes "locktime") 4_294_967_295 d
    ∷ wrong (λ m. field (version_at m)) (get (codes "psbt") d)
    ∷ []

-- each field by its own member, with the default where that is left out; recipients and a rate never are
unfoldable pub said_by : Data → PlainRequest
said_by d = record {
  recipients = said [] recipients_at (get (codes "recipients") d);
  rate = said 0 (rate_at (codes "rate")) (get (codes "rate") d);
  long_term = said 10_000 (rate_at (codes "long_term")) (get (codes "long_term") d);
  discard = said 10_000 (rate_at (codes "discard")) (get (codes "discard") d);
  change_target = said 50_000 (λ m. field (number_at (codes "change_target") 2_100_000_000_000_000 m)) (get (codes "change_target") d);
  method = said Auto (λ m. field (method_at m)) (get (codes "method") d);
  seed = said (replicate 32 0) (λ m. field (seed_at m)) (get (codes "seed") d);
  tries = said 100_000 tries_at (get (codes "tries") d);
  take = said true (λ m. field (take_at m)) (get (codes "when_unfinished") d);
  zero_conf = said true (λ m. field (flag_at (codes "zero_conf") m)) (get (codes "zero_conf") d);
  include_unsafe = said false (λ m. field (flag_at (codes "include_unsafe") m)) (get (codes "include_unsafe") d);
  group = said false (λ m. field (flag_at (codes "group") m)) (get (codes "group") d);
  coins = said [] coins_at (get (codes "coins") d);
  bump = said None (λ m. field (bump_at m)) (get (codes "bump") d);
  replaceable = said true (λ m. field (flag_at (codes "replaceable") m)) (get (codes "replaceable") d);
  locktime = said 0 (λ m. field (number_at (codes "locktime") 4_294_967_295 m)) (get (codes "locktime") d);
  psbt = said 0 (λ m. field (version_at m)) (get (codes "psbt") d);
}
