-- A request that is written is read as what was asked.
use Rattle.std.proofs.Common.{◌≡◌, ℕ, List, [], ◌∷◌, Option, Some, None, Ok, refl}
use Rattle.std.specs.Prelude.{All, IfSome, String, codes}
use Rattle.std.specs.declared.alloc.Global.{Global}
use Rattle.std.specs.Str.{IsUtf8}
use Rattle.std.proofs.lemmas.Str.{is_utf8-from_IsUtf8}
use Rattle.serde_json.specs.Data.{Data, object, no_members}
use Rattle.serde_json.specs.Read.{read}
use Rattle.json_fields.specs.Fields.{IsHash, hash_at, member_at, number_at, parsed}
use Rattle.json_fields.proofs.NumberLaws.{lower as hash_lower}
use Rattle.json_fields.proofs.Parsed.{value_of_text}
use Rattle.request_text.specs.RequestText.{request_at, request_of, rate_at, repeat_behind, tries_at}
use Rattle.request_text.proofs.SeedLaws.{lower}
use Rattle.request_making.specs.Asked.{HasBytes, asked_of, coins_asked, coins_named}
use Rattle.request_making.specs.Written.{bump_put, flags_put, lists_put, numbers_put, request_data, txid_data, words_put}
use Rattle.request_making.specs.declared.payment.Payment.{Payment}
use Rattle.request_making.specs.declared.settings.Settings.{Settings}
use Rattle.request_making.proofs.Entries.{recipients_read, coins_read}
use Rattle.request_making.proofs.Whole.{whole_read, method_read, take_read}

-- a txid that is written is read back
txid_read : (txid : List ℕ) → IsHash txid → hash_at (codes "bump") (txid_data txid) ≡ Ok txid
unfolding hash_at
txid_read txid is = rw (hash_lower txid is) refl

no_coins : coins_asked [] ≡ Ok []
unfolding coins_named repeat_behind
no_coins = refl

abbrev IsRead : List Payment → List (String Global) → Settings → Type 0
IsRead payments coins s = request_at (request_data payments coins s) ≡ asked_of payments coins s

module _ (payments : List Payment) (s : Settings) (bytes : All HasBytes payments) (seed : IsHash s.seed) where
  plain_read : (coins : List (String Global)) → IsRead payments coins (record s { bump = None })
  unfolding request_at asked_of member_at rate_at number_at tries_at
  plain_read coins =
      rw (whole_read payments coins s None, recipients_read payments bytes, method_read s.method, lower s.seed seed, take_read s.take, coins_read coins) refl

  -- one that replaces a payment
  bumped_read : (txid : List ℕ) → IsHash txid → IsRead payments [] (record s { bump = Some txid })
  unfolding request_at asked_of member_at rate_at number_at tries_at
  bumped_read txid is =
      rw (whole_read payments [] s (Some txid), recipients_read payments bytes, method_read s.method, lower s.seed seed, take_read s.take, no_coins, txid_read txid is) refl

  -- with coins beside it
  listed_read : (coin : String Global) (coins : List (String Global)) (txid : List ℕ) → IsRead payments (coin ∷ coins) (record s { bump = Some txid })
  unfolding request_at asked_of
  listed_read coin coins txid = rw (whole_read payments (coin ∷ coins) s (Some txid)) refl

  read_by : (coins : List (String Global)) (bump : Option (List ℕ)) → IfSome bump IsHash → IsRead payments coins (record s { bump = bump })
  read_by coins None is = plain_read coins
  read_by [] (Some txid) is = bumped_read txid is
  read_by (coin ∷ coins) (Some txid) is = listed_read coin coins txid

pub made_read : (payments : List Payment) (coins : List (String Global)) (s : Settings) → All HasBytes payments → IsHash s.seed → IfSome s.bump IsHash → request_at (request_data payments coins s) ≡ asked_of payments coins s
made_read payments coins s bytes seed bump = read_by payments s bytes seed coins s.bump bump

-- the text of a value that is JSON is read as the value is
pub text_read : (bytes : List ℕ) (d : Data) → IsUtf8 bytes → read bytes ≡ Some d → (request_of bytes ≡ request_at d) × (parsed bytes ≡ Some d)
unfolding request_of parsed
text_read bytes d utf8 e = (rw (value_of_text bytes d utf8 e) refl, rw (is_utf8-from_IsUtf8 bytes utf8) e)

-- the members that are put one by one are those of the request
module _ (payments : List Payment) (s : Settings) where
  put_by : (coins : List (String Global)) (bump : Option (List ℕ)) → object (lists_put payments coins bump (bump_put bump (words_put s (flags_put s (numbers_put s no_members))))) ≡ request_data payments coins (record s { bump = bump })
  put_by coins None = refl
  put_by [] (Some txid) = refl
  put_by (coin ∷ coins) (Some txid) = refl

pub put_request : (payments : List Payment) (coins : List (String Global)) (s : Settings) → object (lists_put payments coins s.bump (bump_put s.bump (words_put s (flags_put s (numbers_put s no_members))))) ≡ request_data payments coins s
put_request payments coins s = put_by payments s coins s.bump
