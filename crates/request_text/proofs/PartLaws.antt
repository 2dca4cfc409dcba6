-- A request that is read part by part is the one that is read member by member.
use Rattle.std.proofs.Common.{◌≡◌, ℕ, List, [], true, false, codes, replicate, None, Result, Ok, Err, refl}
use Rattle.fund_base.specs.Parsing.{◌>>=◌}
use Rattle.json_fields.specs.Fields.{object_at, member_at, number_at, flag_at, value_of}
use Rattle.serde_json.specs.Data.{Data}
use Rattle.request_text.specs.Parts.{rates_at, search_at, policy_at, terms_at, parts_at}
use Rattle.request_text.specs.RequestText.{field, or_else, recipients_at, rate_at, method_at, seed_at, tries_at, take_at, coins_at, bump_at, version_at, known_in, required_in, request_at, request_of}
use Rattle.request_text.specs.declared.request.Method.TheVariants.{Auto}

-- one step, and the steps after it
step : {A B E : Type 0} (first : Result A E) (f g : A → Result B E) → ((x : A) → f x ≡ g x) → (first >>= f) ≡ (first >>= g)
step (Ok x) f g h = h x
step (Err fault) f g h = refl

-- the same of a step within a part
within : {A B C E : Type 0} (first : Result A E) (row : A → Result C E) (part : A → Result B E) (behind : B → Result C E) → ((x : A) → row x ≡ (part x >>= behind)) → (first >>= row) ≡ ((first >>= part) >>= behind)
within (Ok x) row part behind h = h x
within (Err fault) row part behind h = refl

parts : (d : Data) → request_at d ≡ parts_at d
unfolding request_at parts_at rates_at search_at policy_at terms_at
parts d =
    step (field (object_at (codes "root") (known_in d) (required_in d) d)) _ _ (λ _.
    step (field (member_at (codes "recipients") d) >>= recipients_at) _ _ (λ _.
    within (field (member_at (codes "rate") d) >>= rate_at (codes "rate")) _ _ _ (λ _.
    within (or_else 10_000 (rate_at (codes "long_term")) (codes "long_term") d) _ _ _ (λ _.
    within (or_else 10_000 (rate_at (codes "discard")) (codes "discard") d) _ _ _ (λ _.
    within (or_else 50_000 (λ m. field (number_at (codes "change_target") 2_100_000_000_000_000 m)) (codes "change_target") d) _ _ _ (λ _.
    within (or_else Auto (λ m. field (method_at m)) (codes "method") d) _ _ _ (λ _.
    within (or_else (replicate 32 0) (λ m. field (seed_at m)) (codes "seed") d) _ _ _ (λ _.
    within (or_else 100_000 tries_at (codes "tries") d) _ _ _ (λ _.
    within (or_else true (λ m. field (take_at m)) (codes "when_unfinished") d) _ _ _ (λ _.
    within (or_else true (λ m. field (flag_at (codes "zero_conf") m)) (codes "zero_conf") d) _ _ _ (λ _.
    within (or_else false (λ m. field (flag_at (codes "include_unsafe") m)) (codes "include_unsafe") d) _ _ _ (λ _.
    within (or_else false (λ m. field (flag_at (codes "group") m)) (codes "group") d) _ _ _ (λ _.
    step (or_else [] coins_at (codes "coins") d) _ _ (λ _.
    within (or_else None (λ m. field (bump_at m)) (codes "bump") d) _ _ _ (λ _.
    within (or_else true (λ m. field (flag_at (codes "replaceable") m)) (codes "replaceable") d) _ _ _ (λ _.
    within (or_else 0 (λ m. field (number_at (codes "locktime") 4_294_967_295 m)) (codes "locktime") d) _ _ _ (λ _.
    within (or_else 0 (λ m. field (version_at m)) (codes "psbt") d) _ _ _ (λ _. refl))))))))))))))))))

-- of the bytes of a value
pub parts_of : (bytes : List ℕ) (d : Data) → value_of bytes ≡ Ok d → request_of bytes ≡ parts_at d
unfolding request_of
parts_of bytes d e = rw e (parts d)
