-- A method that draws comes with a seed.
use Rattle.std.proofs.Common.{◌≡◌, ℕ, Bool, true, false, cond, List, [], ◌∷◌, codes, is_none, is_some, Option, Some, None, Ok, option_and_then, refl, ap, ◌∙◌}
use Rattle.std.specs.Option.{ok_or, option_map_or}
use Rattle.fund_base.specs.Parsing.{◌>>=◌}
use Rattle.serde_json.specs.Data.{Data, Members}
use Rattle.serde_json.specs.Find.{as_object, as_str, get}
use Rattle.json_fields.specs.Fields.{first_missing, least, object_at, optional, parsed, refuse, unknown_in, value_of}
use Rattle.json_fields.specs.declared.fault.FieldFault.TheVariants.{Kind, Member, Missing}
use Rattle.request_text.specs.PlainRequest.{draws}
use Rattle.request_text.specs.RequestText.{field, known_in, method_at, method_in, needs_seed, or_else, required_in}
use Rattle.request_text.specs.declared.request.Method.{Method}
use Rattle.request_text.specs.declared.request.Method.TheVariants.{Auto}

-- a method that was read is the one that its word names
named : (v : Data) (m : Method) → field (method_at v) ≡ Ok m → draws m ≡ true → option_map_or draws (option_and_then method_in (as_str v)) false ≡ true
unfolding method_at
named v m read h = by_text (as_str v) read
  where
    by_word : (o : Option Method) → field (ok_or o (Kind (codes "method"))) ≡ Ok m → option_map_or draws o false ≡ true
    by_word None r = absurd (cc r)
    by_word (Some k) r = let same : k ≡ m = cc r in ap draws same ∙ h

    by_text : (o : Option (List ℕ)) → field (ok_or o (Kind (codes "method")) >>= λ word. ok_or (method_in word) (Kind (codes "method"))) ≡ Ok m → option_map_or draws (option_and_then method_in o) false ≡ true
    by_text None r = absurd (cc r)
    by_text (Some word) r = by_word (method_in word) r

needed : (d : Data) (m : Method) → or_else Auto (λ v. field (method_at v)) (codes "method") d ≡ Ok m → draws m ≡ true → needs_seed d ≡ true
unfolding needs_seed
needed d m read h = by (get (codes "method") d) read
  where
    by : (o : Option Data) → optional Auto (λ v. field (method_at v)) o ≡ Ok m → option_map_or (λ v. option_map_or draws (option_and_then method_in (as_str v)) false) o true ≡ true
    by None r = refl
    by (Some v) r = named v m r h

-- an object that is taken has all that are required
none_missing : (o : Option Members) (whole : List ℕ) (unknown : Members → Option (List ℕ)) (missing : Option (List ℕ))
    → (ok_or o (Kind whole) >>= λ ms. refuse Member (unknown ms) >>= λ known. refuse Missing missing) ≡ Ok tt → missing ≡ None
none_missing None whole unknown missing r = absurd (cc r)
none_missing (Some ms) whole unknown missing r = by (unknown ms) missing r
  where
    by : (u o : Option (List ℕ)) → (refuse Member u >>= λ known. refuse Missing o) ≡ Ok tt → o ≡ None
    by (Some n) o e = absurd (cc e)
    by None None e = refl
    by None (Some n) e = absurd (cc e)

third : (x y z : List ℕ) (a b : Bool) (o : Option Data) → cond a (Some x) (cond b (Some y) (cond (is_none o) (Some z) None)) ≡ None → is_some o ≡ true
third x y z true b o r = absurd (cc r)
third x y z false true o r = absurd (cc r)
third x y z false false None r = absurd (cc r)
third x y z false false (Some d) r = refl

seed_stands : (known : List (List ℕ)) (d : Data) → object_at (codes "root") known (codes "recipients" ∷ codes "rate" ∷ codes "seed" ∷ []) d ≡ Ok tt → is_some (get (codes "seed") d) ≡ true
unfolding object_at
seed_stands known d r =
    let none : first_missing (codes "recipients" ∷ codes "rate" ∷ codes "seed" ∷ []) d ≡ None = none_missing (as_object d) (codes "root") (λ ms. least (unknown_in known ms)) _ r in
    third (codes "recipients") (codes "rate") (codes "seed") (is_none (get (codes "recipients") d)) (is_none (get (codes "rate") d)) (get (codes "seed") d) none

required : (d : Data) → needs_seed d ≡ true → required_in d ≡ codes "recipients" ∷ codes "rate" ∷ codes "seed" ∷ []
unfolding required_in
required d h = rw h refl

pub seed_given : (d : Data) (m : Method) → object_at (codes "root") (known_in d) (required_in d) d ≡ Ok tt → or_else Auto (λ v. field (method_at v)) (codes "method") d ≡ Ok m → draws m ≡ true → is_some (get (codes "seed") d) ≡ true
seed_given d m whole read h = seed_stands (known_in d) d (rw (required d (needed d m read h)) at whole)

-- the value that the bytes are
pub same_value : (bytes : List ℕ) (d e : Data) → value_of bytes ≡ Ok d → parsed bytes ≡ Some e → d ≡ e
unfolding value_of
same_value bytes d e is parses = let one : value_of bytes ≡ Ok e = rw parses refl in cc (is, one)
