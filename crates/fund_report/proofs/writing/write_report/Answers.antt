use Rattle.fund_report.proofs.WrittenLaws.{text_is_of}
use Rattle.fund_report.proofs.writing.write_report.Goals as goal

pub returns-clause-text : goal.returns-clause-text
returns-clause-text c = c.in_ok-write_text.ensures.feeds _ c.in_ok-text.ensures.items

pub returns-clause-means : goal.returns-clause-means
returns-clause-means c = text_is_of c.args.report.now c.write_text.new.out.items (c.in_ok-write_text.ensures.feeds _ c.in_ok-text.ensures.items)
