-- The lines of a table that are of amounts: the fee, the change, and what the mark promises.
use Rattle.std.specs.Prelude.{ℕ, List, ◌++◌, codes, Option, Some, None}
use Rattle.std.specs.Fmt.{decimal}
use Rattle.request_making.specs.Printed.{btc_text, rate_text, sat_text}
use Rattle.closing_log.specs.declared.mark.Mark.{Mark}
use Rattle.closing_log.specs.declared.mark.Mark.TheVariants as marks
use Rattle.pay_words.specs.declared.way.Way.{Way}
use Rattle.pay_words.specs.declared.way.Way.TheVariants as ways
use Rattle.command_pay.specs.Rates.{rate_of}

-- an amount in bitcoin and in satoshi
unfoldable pub money_text : ℕ → List ℕ
money_text n = btc_text n ++ (codes "  " ++ sat_text n)

-- a rate, if there is one
abbrev pub rate_words : Option ℕ → List ℕ
rate_words None = codes "no rate"
rate_words (Some rate) = rate_text rate

-- the line of the fee, with what it comes to a virtual byte and how many of these there are
unfoldable pub fee_line : ℕ → ℕ → List ℕ
fee_line fee vsize = codes "fee     " ++ (money_text fee ++ (codes "  " ++ (rate_words (rate_of fee vsize) ++ (codes " for " ++ (decimal vsize ++ codes " vB\n")))))

-- the line of the change
unfoldable pub change_line : Option ℕ → List ℕ
change_line None = codes "change  none\n"
change_line (Some change) = codes "change  " ++ (money_text change ++ codes "\n")

-- what a search promises that came to its end
unfoldable pub best_sentence : Way → List ℕ
best_sentence ways.Fund = codes "These coins are the best of what was searched, to its end, and the log proves it."
best_sentence ways.Wide = codes "These coins waste least of all choices without change of their row, needed or not, and the log proves it."
best_sentence ways.Share = codes "These coins are the lightest of their row that are worth the amounts, and the log proves it."

-- what a mark promises of a payment by this command
unfoldable pub mark_sentence : Way → Mark → List ℕ
mark_sentence way marks.Exhausted = best_sentence way
mark_sentence way marks.Drawn = codes "These coins were drawn by the seed, and no search beside the draw found any that waste less."
mark_sentence way marks.Given = codes "These are exactly the coins that were listed: others may cost less."
mark_sentence way marks.Partial = codes "The tries were used up: these coins are the best so far, and more tries may find better."

-- the line of the mark
unfoldable pub mark_line : Way → Mark → List ℕ
mark_line way mark = codes "choice  " ++ (mark_sentence way mark ++ codes "\n")
