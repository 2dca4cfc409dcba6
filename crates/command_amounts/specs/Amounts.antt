-- A request whose recipients get other amounts than it asks for.
use Rattle.std.specs.Prelude.{ℕ, List, [], ◌∷◌, map}
use Rattle.request_text.specs.PlainRequest.{PlainRequest}
use Rattle.request_text.specs.declared.request.Recipient.{Recipient}

-- each recipient with the amount of its place, as long as there are both
abbrev pub given : List Recipient → List ℕ → List Recipient
given [] amounts = []
given (q ∷ qs) [] = []
given (q ∷ qs) (n ∷ ns) = record q { amount = n } ∷ given qs ns

-- the request with these amounts, in satoshi, in the order of its recipients
abbrev pub with_amounts : PlainRequest → List ℕ → PlainRequest
with_amounts r amounts = record r { recipients = given r.recipients amounts }

-- what it asks for, recipient by recipient
abbrev pub amounts_of : PlainRequest → List ℕ
amounts_of r = map (λ (q : Recipient). q.amount) r.recipients
