-- The first fault of a request is the first in the table of its members' own, and its fields are what they say.
use Rattle.std.proofs.Common.{◌≡◌, Bool, true, false, cond, [], ◌∷◌, codes, replicate, None, Result, Ok, Err, Contains, refl, sym, arith}
use Rattle.std.specs.Bool.{⊤}
use Rattle.std.specs.Result.{result_err}
use Rattle.fund_base.proofs.Laws.{bind_ok}
use Rattle.json_fields.proofs.Tables.{part, grouped, left_out, there, behind_grouped, behind_left_out}
use Rattle.json_fields.specs.Fields.{number_at, flag_at, object_at}
use Rattle.json_fields.specs.Rules.{first_some}
use Rattle.json_fields.specs.declared.fault.FieldFault.{FieldFault}
use Rattle.serde_json.specs.Data.{Data}
use Rattle.serde_json.specs.Find.{get}
use Rattle.request_text.specs.PlainRequest.{PlainRequest}
use Rattle.request_text.specs.RequestText.{field, recipients_at, rate_at, method_at, seed_at, tries_at, take_at, coins_at, bump_at, version_at, known_in, needs_seed, required_in, request_at}
use Rattle.request_text.specs.Table.{member_faults, said_by}
use Rattle.request_text.specs.declared.fault.Refusal.TheVariants.{Field}
use Rattle.request_text.specs.declared.request.Method.TheVariants.{Auto}

pub recipients_required : (d : Data) → Contains (required_in d) (codes "recipients")
unfolding required_in
recipients_required d = by (needs_seed d)
  where
    by : (b : Bool) → Contains (cond b (codes "recipients" ∷ codes "rate" ∷ codes "seed" ∷ []) (codes "recipients" ∷ codes "rate" ∷ [])) (codes "recipients")
    by true = (0, omega arith, refl)
    by false = (0, omega arith, refl)

rate_required : (d : Data) → Contains (required_in d) (codes "rate")
unfolding required_in
rate_required d = by (needs_seed d)
  where
    by : (b : Bool) → Contains (cond b (codes "recipients" ∷ codes "rate" ∷ codes "seed" ∷ []) (codes "recipients" ∷ codes "rate" ∷ [])) (codes "rate")
    by true = (1, omega arith, refl)
    by false = (1, omega arith, refl)

-- the object was taken
taken : (d : Data) (u : ⊤) → field (object_at (codes "root") (known_in d) (required_in d) d) ≡ Ok u → object_at (codes "root") (known_in d) (required_in d) d ≡ Ok tt
taken d u e = by (object_at (codes "root") (known_in d) (required_in d) d) e
  where
    by : (r : Result ⊤ FieldFault) → field r ≡ Ok u → r ≡ Ok tt
    by (Ok v) reads = refl
    by (Err fault) reads = absurd (cc reads)

pub first : (d : Data) → result_err (request_at d) ≡ first_some (result_err (field (object_at (codes "root") (known_in d) (required_in d) d)) ∷ member_faults d)
unfolding request_at member_faults
first d =
    part (field (object_at (codes "root") (known_in d) (required_in d) d)) _ _ (λ u reads.
    let object = taken d u reads in
    let recipients = there (codes "root") (known_in d) (required_in d) (codes "recipients") d object (recipients_required d) in
    let rate = there (codes "root") (known_in d) (required_in d) (codes "rate") d object (rate_required d) in
    grouped Field (codes "recipients") recipients_at _ _ d recipients.0 recipients.1 (λ _ _.
    grouped Field (codes "rate") (rate_at (codes "rate")) _ _ d rate.0 rate.1 (λ _ _.
    left_out 10_000 (rate_at (codes "long_term")) _ _ (get (codes "long_term") d) (λ _ _.
    left_out 10_000 (rate_at (codes "discard")) _ _ (get (codes "discard") d) (λ _ _.
    left_out 50_000 (λ m. field (number_at (codes "change_target") 2_100_000_000_000_000 m)) _ _ (get (codes "change_target") d) (λ _ _.
    left_out Auto (λ m. field (method_at m)) _ _ (get (codes "method") d) (λ _ _.
    left_out (replicate 32 0) (λ m. field (seed_at m)) _ _ (get (codes "seed") d) (λ _ _.
    left_out 100_000 tries_at _ _ (get (codes "tries") d) (λ _ _.
    left_out true (λ m. field (take_at m)) _ _ (get (codes "when_unfinished") d) (λ _ _.
    left_out true (λ m. field (flag_at (codes "zero_conf") m)) _ _ (get (codes "zero_conf") d) (λ _ _.
    left_out false (λ m. field (flag_at (codes "include_unsafe") m)) _ _ (get (codes "include_unsafe") d) (λ _ _.
    left_out false (λ m. field (flag_at (codes "group") m)) _ _ (get (codes "group") d) (λ _ _.
    left_out [] coins_at _ _ (get (codes "coins") d) (λ _ _.
    left_out None (λ m. field (bump_at m)) _ _ (get (codes "bump") d) (λ _ _.
    left_out true (λ m. field (flag_at (codes "replaceable") m)) _ _ (get (codes "replaceable") d) (λ _ _.
    left_out 0 (λ m. field (number_at (codes "locktime") 4_294_967_295 m)) _ _ (get (codes "locktime") d) (λ _ _.
    left_out 0 (λ m. field (version_at m)) _ _ (get (codes "psbt") d) (λ _ _. refl))))))))))))))))))

-- each field is what its own member says
pub values : (d : Data) (q : PlainRequest) → request_at d ≡ Ok q → q ≡ said_by d
unfolding request_at said_by
values d q e =
    let object = bind_ok (field (object_at (codes "root") (known_in d) (required_in d) d)) _ q e in
    let recipients = behind_grouped Field [] (codes "recipients") recipients_at _ d q object.2 in
    let rate = behind_grouped Field 0 (codes "rate") (rate_at (codes "rate")) _ d q recipients in
    let long_term = behind_left_out 10_000 (rate_at (codes "long_term")) _ (get (codes "long_term") d) q rate in
    let discard = behind_left_out 10_000 (rate_at (codes "discard")) _ (get (codes "discard") d) q long_term in
    let target = behind_left_out 50_000 (λ m. field (number_at (codes "change_target") 2_100_000_000_000_000 m)) _ (get (codes "change_target") d) q discard in
    let method = behind_left_out Auto (λ m. field (method_at m)) _ (get (codes "method") d) q target in
    let seed = behind_left_out (replicate 32 0) (λ m. field (seed_at m)) _ (get (codes "seed") d) q method in
    let tries = behind_left_out 100_000 tries_at _ (get (codes "tries") d) q seed in
    let take = behind_left_out true (λ m. field (take_at m)) _ (get (codes "when_unfinished") d) q tries in
    let zero = behind_left_out true (λ m. field (flag_at (codes "zero_conf") m)) _ (get (codes "zero_conf") d) q take in
    let unsafe = behind_left_out false (λ m. field (flag_at (codes "include_unsafe") m)) _ (get (codes "include_unsafe") d) q zero in
    let group = behind_left_out false (λ m. field (flag_at (codes "group") m)) _ (get (codes "group") d) q unsafe in
    let coins = behind_left_out [] coins_at _ (get (codes "coins") d) q group in
    let bump = behind_left_out None (λ m. field (bump_at m)) _ (get (codes "bump") d) q coins in
    let replaceable = behind_left_out true (λ m. field (flag_at (codes "replaceable") m)) _ (get (codes "replaceable") d) q bump in
    let locktime = behind_left_out 0 (λ m. field (number_at (codes "locktime") 4_294_967_295 m)) _ (get (codes "locktime") d) q replaceable in
    let psbt = behind_left_out 0 (λ m. field (version_at m)) _ (get (codes "psbt") d) q locktime in
    sym (cc psbt)
