-- Sentences that go by a name: those of a name as it is shown are those of the name.
use Rattle.std.proofs.Common.{◌≡◌, ℕ, List, codes, refl}
use Rattle.fund_base.specs.Cursor.{IsBytes}
use Rattle.fault_lines.specs.Sentences.{other_request_kind_sentence, request_kind_sentence, request_member_sentence, wallet_kind_sentence}
use Rattle.command_end.specs.Name.{shown_name}
use Rattle.fault_lines.proofs.WordLaws.{same_name}

pub wallet_kind_shown : (name : List ℕ) → IsBytes name → wallet_kind_sentence (shown_name name) ≡ wallet_kind_sentence name
unfolding wallet_kind_sentence
wallet_kind_shown name is =
    rw (same_name name (codes "root") is refl refl, same_name name (codes "script") is refl refl, same_name name (codes "tx") is refl refl, same_name name (codes "height") is refl refl, same_name name (codes "hash") is refl refl, same_name name (codes "weight") is refl refl, same_name name (codes "scripts") is refl refl, same_name name (codes "change") is refl refl, same_name name (codes "earlier") is refl refl, same_name name (codes "pending") is refl refl, same_name name (codes "abandoned") is refl refl, same_name name (codes "locked") is refl refl) refl

other_request_kind_shown : (name : List ℕ) → IsBytes name → other_request_kind_sentence (shown_name name) ≡ other_request_kind_sentence name
unfolding other_request_kind_sentence
other_request_kind_shown name is =
    rw (same_name name (codes "long_term") is refl refl, same_name name (codes "discard") is refl refl, same_name name (codes "change_target") is refl refl, same_name name (codes "tries") is refl refl, same_name name (codes "when_unfinished") is refl refl, same_name name (codes "zero_conf") is refl refl, same_name name (codes "include_unsafe") is refl refl, same_name name (codes "group") is refl refl, same_name name (codes "replaceable") is refl refl, same_name name (codes "bump") is refl refl, same_name name (codes "locktime") is refl refl, same_name name (codes "psbt") is refl refl) refl

pub request_kind_shown : (name : List ℕ) → IsBytes name → request_kind_sentence (shown_name name) ≡ request_kind_sentence name
unfolding request_kind_sentence
request_kind_shown name is =
    rw (same_name name (codes "root") is refl refl, same_name name (codes "recipients") is refl refl, same_name name (codes "address") is refl refl, same_name name (codes "script") is refl refl, same_name name (codes "amount") is refl refl, same_name name (codes "rate") is refl refl, same_name name (codes "coins") is refl refl, same_name name (codes "method") is refl refl, same_name name (codes "seed") is refl refl, other_request_kind_shown name is) refl

pub request_member_shown : (name : List ℕ) → IsBytes name → request_member_sentence (shown_name name) ≡ request_member_sentence name
unfolding request_member_sentence
request_member_shown name is = rw (same_name name (codes "coins") is refl refl) refl
