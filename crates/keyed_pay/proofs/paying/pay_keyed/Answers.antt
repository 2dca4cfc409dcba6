use Rattle.std.proofs.Common.{◌∙◌, ap, sym}
use Rattle.std.specs.Prelude.{option_map, string_bytes}
use Rattle.pay_words.specs.Asked.{PlainAsked, plain_asked, plain_names}
use Rattle.pay_words.proofs.NameLaws.{names_apart}
use Rattle.payment_files.proofs.FileLaws.{own_names}
use Rattle.keyed_pay.proofs.NameLaws.{bare_own}
use Rattle.keyed_pay.proofs.paying.pay_keyed.Goals as goal

-- the names of files that words give are apart, and so are those without the PSBT's
pub pay_bare-ending-requires : goal.pay_bare-ending-requires
pay_bare-ending-requires g c =
    bare_own (plain_names c.apart-asked.result.0.names) (plain_names c.in-Ok.asked.names) (option_map string_bytes c.apart-asked.result.1) (ap (λ (a : PlainAsked). a.names) c.apart-asked.ensures.same) (ap (option_map string_bytes) c.apart-asked.ensures.bare)
    (own_names (plain_names c.in-Ok.asked.names) (names_apart c.args.drawn c.args.words.now (plain_asked c.in-Ok.asked) c.in-Ok.ensures.gives))
