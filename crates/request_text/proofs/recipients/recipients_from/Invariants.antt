use Rattle.std.proofs.Common.{◌≡◌, ◌<◌, []}
use Rattle.std.specs.Prelude.{All}
use Rattle.json_fields.proofs.Loops.{rest_of}
use Rattle.json_fields.specs.Fields.{each_from}
use Rattle.json_fields.specs.Memory.{StoresFirst}
use Rattle.request_text.specs.PlainRequest.{IsRecipient}
use Rattle.request_text.specs.RequestText.{recipient_behind}
use Rattle.request_text.specs.Stores.{StoresRecipient}
use Rattle.request_text.proofs.recipients.recipients_from.Given as goal

abbrev pub invariant-loop-value : goal.invariant-loop-value
invariant-loop-value l = record {
  read : each_from recipient_behind l.recipients.items (rest_of l.values l.value-index) ≡ each_from recipient_behind [] (rest_of l.values 0);
  are : All IsRecipient l.recipients.items;
  stores : 0 < l.value-index → StoresFirst StoresRecipient (rest_of l.values 0);
}
