-- The members of a request that is written: all are known, and those that have to be there are.
use Rattle.std.proofs.Common.{◌≡◌, ℕ, Bool, true, false, List, [], ◌∷◌, Option, Some, None, Ok, refl}
use Rattle.std.specs.Prelude.{codes, String}
use Rattle.std.specs.declared.alloc.Global.{Global}
use Rattle.serde_json.specs.Data.{string}
use Rattle.json_fields.specs.Fields.{object_at}
use Rattle.request_text.specs.RequestText.{known_in, required_in, needs_seed, method_at, method_in, take_at, take_in}
use Rattle.request_text.specs.Rules.{word_of}
use Rattle.request_text.specs.declared.request.Method.{Method}
use Rattle.request_text.specs.declared.request.Method.TheVariants.{Auto, Changeless, Weight, Draw, Manual}
use Rattle.request_making.specs.Asked.{none_beside}
use Rattle.request_making.specs.Written.{request_data, take_word}
use Rattle.request_making.specs.declared.payment.Payment.{Payment}
use Rattle.request_making.specs.declared.settings.Settings.{Settings}

pub method_read : (m : Method) → method_at (string (word_of m)) ≡ Ok m
unfolding method_at method_in
method_read Auto = refl
method_read Changeless = refl
method_read Weight = refl
method_read Draw = refl
method_read Manual = refl

pub take_read : (b : Bool) → take_at (string (take_word b)) ≡ Ok b
unfolding take_at take_in
take_read true = refl
take_read false = refl

-- the members of a request that replaces a payment, or none, by what is asked
abbrev IsWhole : List Payment → List (String Global) → Settings → Type 0
IsWhole payments coins s =
    object_at (codes "root") (known_in (request_data payments coins s)) (required_in (request_data payments coins s)) (request_data payments coins s)
    ≡ none_beside s.bump coins

-- by the method, since some need a seed
module _ (payments : List Payment) (coins : List (String Global)) (s : Settings) where
  whole_by : (m : Method) → IsWhole payments coins (record s { method = m; bump = None })
  unfolding object_at known_in required_in needs_seed method_in
  whole_by Auto = refl
  whole_by Changeless = refl
  whole_by Weight = refl
  whole_by Draw = refl
  whole_by Manual = refl

-- beside a payment that is replaced
module _ (payments : List Payment) (txid : List ℕ) (s : Settings) where
  bumped_by : (m : Method) → IsWhole payments [] (record s { method = m; bump = Some txid })
  unfolding object_at known_in required_in needs_seed method_in
  bumped_by Auto = refl
  bumped_by Changeless = refl
  bumped_by Weight = refl
  bumped_by Draw = refl
  bumped_by Manual = refl

-- with coins that are listed beside it
module _ (payments : List Payment) (coin : String Global) (coins : List (String Global)) (txid : List ℕ) (s : Settings) where
  listed_by : (m : Method) → IsWhole payments (coin ∷ coins) (record s { method = m; bump = Some txid })
  unfolding object_at known_in required_in needs_seed method_in
  listed_by Auto = refl
  listed_by Changeless = refl
  listed_by Weight = refl
  listed_by Draw = refl
  listed_by Manual = refl

pub whole_read : (payments : List Payment) (coins : List (String Global)) (s : Settings) (bump : Option (List ℕ)) → IsWhole payments coins (record s { bump = bump })
whole_read payments coins s None = whole_by payments coins s s.method
whole_read payments [] s (Some txid) = bumped_by payments txid s s.method
whole_read payments (coin ∷ coins) s (Some txid) = listed_by payments coin coins txid s s.method
