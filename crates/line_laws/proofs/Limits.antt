-- The line of each file that is longer than its limit has its sentence.
use Rattle.std.proofs.Common.{◌++◌, codes, refl}
use Rattle.command_check.specs.Words.{evidence_word}
use Rattle.command_check.specs.declared.stop.CheckedFile.{CheckedFile}
use Rattle.command_check.specs.declared.stop.CheckedFile.TheVariants as proofs
use Rattle.command_end.specs.Lines.{file_word}
use Rattle.fault_lines.specs.Lines.{HasSentence, limit_line, line_sentence, words_sentence}
use Rattle.fund_files.specs.declared.refusal.File.{File}
use Rattle.fund_files.specs.declared.refusal.File.TheVariants as files
use Rattle.line_laws.specs.Sentences.{evidence_sentence, limit_sentence}

pub limit_told : (f : File) → HasSentence (codes "limit " ++ file_word f) (limit_sentence f)
unfolding line_sentence words_sentence limit_line
limit_told files.Wallet = refl
limit_told files.Blocks = refl
limit_told files.Request = refl

pub evidence_told : (f : CheckedFile) → HasSentence (codes "limit " ++ evidence_word f) (evidence_sentence f)
unfolding line_sentence words_sentence limit_line
evidence_told proofs.Report = refl
evidence_told proofs.Log = refl
