-- The sentence of each fault of the words of a payment: what is wrong, and what to do.
use Rattle.std.specs.Prelude.{ℕ, List, codes, Option, Some, None}
use Rattle.request_making.specs.declared.fault.SpellingFault.{SpellingFault}
use Rattle.request_making.specs.declared.fault.SpellingFault.TheVariants as spellings
use Rattle.base58_addr.specs.declared.fault.Base58Fault.{Base58Fault}
use Rattle.base58_addr.specs.declared.fault.Base58Fault.TheVariants as base58
use Rattle.pay_words.specs.declared.address.Network.{Network}
use Rattle.pay_words.specs.declared.address.Network.TheVariants as networks
use Rattle.pay_words.specs.declared.fault.WordFault.{WordFault}
use Rattle.pay_words.specs.declared.fault.WordFault.TheVariants as faults
use Rattle.pay_words.specs.declared.flag.Flag.{Flag}
use Rattle.pay_words.specs.declared.line_fault.LineFault.{LineFault}
use Rattle.pay_words.specs.declared.line_fault.LineFault.TheVariants as lists

-- a text that is no amount
unfoldable pub amount_sentence : SpellingFault → List ℕ
amount_sentence (spellings.Digit place) = codes "A digit has to stand there: an amount is spelled as 150000, 150000sat or 0.0015 BTC."
amount_sentence (spellings.Unit place) = codes "The unit is not known: behind an amount stands sat, BTC or nothing; write a point and no comma."
amount_sentence (spellings.Fine place) = codes "The amount is finer than a satoshi: BTC has at most eight digits behind its point, and sat has none."
amount_sentence spellings.Range = codes "The amount is above 21,000,000 bitcoin: give less."

-- a text that is no rate
unfoldable pub rate_sentence : SpellingFault → List ℕ
rate_sentence (spellings.Digit place) = codes "A digit has to stand there: a rate is spelled as 12, 12.5 or 12.5sat/vB."
rate_sentence (spellings.Unit place) = codes "The unit is not known: a rate is in satoshi per virtual byte, with sat/vB behind it or nothing; write a point and no comma."
rate_sentence (spellings.Fine place) = codes "A rate has at most three digits behind its point."
rate_sentence spellings.Range = codes "The rate is above 100,000 satoshi per virtual byte: give less."

-- a text that is no address in base58
unfoldable pub base58_sentence : Base58Fault → List ℕ
base58_sentence base58.Letter = codes "A letter stands there that no address has: base58 has no 0, O, I and l, no blank and no sign; copy the address again."
base58_sentence base58.Length = codes "The address is too short or too long: copy it again."
base58_sentence base58.Checksum = codes "A letter of the address is mistyped: copy it again."
base58_sentence base58.Version = codes "This is an address of another network, as m, n and 2 stand for a test network, and L and M for Litecoin: ask for one of Bitcoin's main network."
base58_sentence base58.Memory = codes "The machine has too little memory: try again with less beside it."

-- an address of another network
unfoldable pub network_sentence : Network → List ℕ
network_sentence networks.Litecoin = codes "This is an address of Litecoin: ask for one of Bitcoin's main network."
network_sentence networks.Ethereum = codes "This is an address of Ethereum: ask for one of Bitcoin's main network."

-- a file that lists no payments
unfoldable pub pay_file_sentence : LineFault → List ℕ
pay_file_sentence lists.TooLong = codes "The file of payments is longer than 4,194,304 bytes: pay by several files."
pay_file_sentence lists.NotText = codes "The file of payments is no text in UTF-8: save it as one."
pay_file_sentence (lists.NoComma number) = codes "No comma stands in this line: each line is ADDRESS,AMOUNT."
pay_file_sentence lists.NoLine = codes "The file of payments has no line: each line is ADDRESS,AMOUNT."
pay_file_sentence lists.Memory = codes "The machine has too little memory: try again with less beside it."

-- words that ask for no payment
unfoldable pub word_sentence : WordFault → List ℕ
word_sentence (faults.Unknown place) = codes "This word is no flag: the help shows all flags with examples."
word_sentence (faults.Twice place) = codes "This flag is given twice: leave one out."
word_sentence (faults.NoValue flag) = codes "Nothing stands behind this flag, or another flag does: give its value."
word_sentence (faults.Missing flag) = codes "This flag has to be given: the help shows what it says."
word_sentence (faults.EmptyName flag) = codes "The name behind this flag is empty: give the name of a file."
word_sentence (faults.SameName place) = codes "This name is given for another file too: name a new file."
word_sentence (faults.NoAmount place) = codes "The amount is missing: a recipient is spelled as ADDRESS=AMOUNT."
word_sentence (faults.Amount place fault) = amount_sentence fault
word_sentence (faults.Script place) = codes "The script is no hex: give the scriptPubKey that getaddressinfo tells."
word_sentence (faults.Rate place fault) = rate_sentence fault
word_sentence (faults.LowRate place) = codes "Nodes do not relay a payment below 1 satoshi per virtual byte: give more, or --allow-low-rate beside it."
word_sentence (faults.Base58Letter place letter) = base58_sentence base58.Letter
word_sentence (faults.Base58 place fault) = base58_sentence fault
word_sentence (faults.Foreign place network) = network_sentence network
word_sentence (faults.Method place) = codes "The method is not known: auto, changeless, weight, draw and manual are."
word_sentence (faults.Number place) = codes "This is no whole number, or it is too great: write it in digits alone."
word_sentence (faults.Seed place) = codes "The seed is not 64 hex digits: openssl rand -hex 32 prints such."
word_sentence (faults.Txid place) = codes "The txid is not 64 hex digits: copy it as coins shows it."
word_sentence (faults.LockTime place) = codes "This is no lock time: write the height of a block, or from 500000000 on the seconds since 1970, up to 4294967295."
word_sentence (faults.BesideBump place) = codes "--bump spends the coins of the payment that is replaced: leave out --coin, --consolidate and --fee-from-amount beside it."
word_sentence (faults.BothWays place) = codes "--fee-from-amount and --consolidate exclude one another: leave one of them out."
word_sentence (faults.NotChangeless place) = codes "--consolidate goes with --method changeless alone: give that beside it."
word_sentence (faults.NotWeight place) = codes "--fee-from-amount goes with --method weight alone: leave out --method, or this flag."
word_sentence (faults.ListedCoin place) = codes "No coin may be listed beside --consolidate or --fee-from-amount: leave --coin out, or that flag."
word_sentence faults.Memory = codes "The machine has too little memory: try again with less beside it."

-- the place of the word that it is about
abbrev pub word_place : WordFault → Option ℕ
word_place (faults.Unknown place) = Some place
word_place (faults.Twice place) = Some place
word_place (faults.NoValue flag) = None
word_place (faults.Missing flag) = None
word_place (faults.EmptyName flag) = None
word_place (faults.SameName place) = Some place
word_place (faults.NoAmount place) = Some place
word_place (faults.Amount place fault) = Some place
word_place (faults.Script place) = Some place
word_place (faults.Rate place fault) = Some place
word_place (faults.LowRate place) = Some place
word_place (faults.Base58Letter place letter) = Some place
word_place (faults.Base58 place fault) = Some place
word_place (faults.Foreign place network) = Some place
word_place (faults.Method place) = Some place
word_place (faults.Number place) = Some place
word_place (faults.Seed place) = Some place
word_place (faults.Txid place) = Some place
word_place (faults.LockTime place) = Some place
word_place (faults.BesideBump place) = Some place
word_place (faults.BothWays place) = Some place
word_place (faults.NotChangeless place) = Some place
word_place (faults.NotWeight place) = Some place
word_place (faults.ListedCoin place) = Some place
word_place faults.Memory = None

-- the place of the letter of the address that it is about
abbrev pub letter_about : WordFault → Option ℕ
letter_about (faults.Base58Letter place letter) = Some letter
letter_about _ = None

-- the flag that it is about
abbrev pub flag_about : WordFault → Option Flag
flag_about (faults.NoValue flag) = Some flag
flag_about (faults.Missing flag) = Some flag
flag_about (faults.EmptyName flag) = Some flag
flag_about _ = None
