use Rattle.pay_words.specs.Asked.{plain_asked, plain_names}
use Rattle.pay_words.proofs.NameLaws.{names_apart}
use Rattle.payment_files.proofs.FileLaws.{own_names}
use Rattle.command_pay.proofs.paying.pay.Goals as goal

-- the names of files that words give are apart
pub pay_asked-ending-requires : goal.pay_asked-ending-requires
pay_asked-ending-requires g c = own_names (plain_names c.in-Ok.asked.names) (names_apart c.args.drawn c.args.words.now (plain_asked c.in-Ok.asked) c.in-Ok.ensures.gives)
