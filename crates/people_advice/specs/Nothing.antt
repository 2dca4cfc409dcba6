-- Why no coins pay for what is asked, by what chose them.
use Rattle.std.specs.Prelude.{ℕ, ◌==◌, Bool, true, false, List, codes, length, not, is_some}
use Rattle.request_text.specs.declared.request.Method.{Method}
use Rattle.request_text.specs.declared.request.Method.TheVariants as methods
use Rattle.pay_words.specs.declared.asked.Asked.{Asked}
use Rattle.pay_words.specs.declared.way.Way.{Way}
use Rattle.pay_words.specs.declared.way.Way.TheVariants as ways

-- by the method, and by whether coins are listed
unfoldable pub none_by : Method → Bool → List ℕ
none_by methods.Changeless listed = codes "No choice of coins pays this without change: take another --method, or pay less."
none_by methods.Manual true = codes "The listed coins do not pay this: list more with --coin, pay less, or give a lower rate."
none_by methods.Manual false = codes "--method manual spends the coins behind --coin alone, and none is listed: list them."
none_by methods.Auto listed = codes "The coins that may be spent do not pay this: pay less, give a lower rate, or --zero-conf for own outputs that wait."
none_by methods.Weight listed = codes "The coins that may be spent do not pay this: pay less, give a lower rate, or --zero-conf for own outputs that wait."
none_by methods.Draw listed = codes "The coins that may be spent do not pay this: pay less, give a lower rate, or --zero-conf for own outputs that wait."

-- By the method, where a payment is replaced. No coin is listed beside that, and what is added to its coins is confirmed.
unfoldable pub none_replacing : Method → List ℕ
none_replacing methods.Changeless = codes "No choice of coins pays this without change: take another --method, or pay less."
none_replacing methods.Manual = codes "The coins of the payment that is replaced do not pay this alone: take another --method, pay less, or give a lower rate."
none_replacing methods.Auto = codes "The coins of the payment that is replaced, with those that may be added, do not pay this: pay less, or give a lower rate."
none_replacing methods.Weight = codes "The coins of the payment that is replaced, with those that may be added, do not pay this: pay less, or give a lower rate."
none_replacing methods.Draw = codes "The coins of the payment that is replaced, with those that may be added, do not pay this: pay less, or give a lower rate."

-- By the command too. The recipients bear the fee of `share`, whose coins are confirmed: no rate is too high for them.
unfoldable pub none_for : Way → (replaces : Bool) → Method → (listed : Bool) → List ℕ
none_for ways.Share replaces method listed = codes "The confirmed coins are not worth these amounts within the weight of one payment: pay less."
none_for ways.Wide replaces method listed = codes "No choice of coins pays this without change: leave out --consolidate and --method changeless, or pay less."
none_for ways.Fund true method listed = none_replacing method
none_for ways.Fund false method listed = none_by method listed

-- of what is asked
unfoldable pub none_advice : Asked → List ℕ
none_advice a = none_for a.way (is_some a.settings.bump) a.settings.method (not (length a.coins.items == 0))

-- where all coins leave too little for their one recipient
unfoldable pub none_swept : List ℕ
none_swept = codes "The coins that may be spent leave less than is asked for, or than nodes relay: give a lower rate, or --zero-conf for own outputs that wait."
