use Rattle.std.proofs.Common.{◌≡◌, ◌∙◌, ℕ, List, Option, ap, subst, sym}
use Rattle.std.specs.Prelude.{AllPairs}
use Rattle.psbt_codec.specs.Fault.{shown}
use Rattle.psbt_codec.specs.Psbt.{HaveOtherKeys, Pair}
use Rattle.psbt_codec.specs.declared.fault.PsbtFault.TheVariants.{Memory as OutOfMemory}
use Rattle.psbt_keys.specs.Extended.{IsConflict}
use Rattle.psbt_keys.specs.Origins.{due_for, spent_script, types_of_input}
use Rattle.psbt_keys.proofs.DueLaws.{due_alone, input_types}
use Rattle.psbt_keys.specs.Placing.{IsWritten}
use Rattle.psbt_keys.specs.declared.fault.KeyFault.TheVariants.{Psbt, Input}
use Rattle.psbt_keys.proofs.WholeLaws.{told}
use Rattle.psbt_keys.proofs.adding.add_input.Goals as goal

pub returns-in-Ok : goal.returns-in-Ok
returns-in-Ok c = λ pairs behind are alone e.
    let due : List Pair = due_for types_of_input c.args.keys.now.scripts (spent_script (c.args.input.now, c.args.spent.now)) in
    let same : c.deref.result.now ≡ due = c.deref.ensures.value ∙ c.in_ok-due.ensures ∙ ap (λ (s : Option (List ℕ)). due_for types_of_input c.args.keys.now.scripts s) c.spent_script.ensures in
    let apart : AllPairs HaveOtherKeys c.deref.result.now = subst (λ (l : List Pair). AllPairs HaveOtherKeys l) (sym same) (due_alone types_of_input c.args.keys.now (spent_script (c.args.input.now, c.args.spent.now)) input_types c.keeps_rules.ensures) in
    let h = c.in-Ok.ensures pairs behind are alone apart e in
    (subst (λ (l : List Pair). IsWritten l pairs c.args.out.now.items c.add_map.new.out.items) same h.0, h.1)

pub returns : goal.returns
returns c = λ pairs behind are alone e.
    let due : List Pair = due_for types_of_input c.args.keys.now.scripts (spent_script (c.args.input.now, c.args.spent.now)) in
    let same : c.deref.result.now ≡ due = c.deref.ensures.value ∙ c.in_ok-due.ensures ∙ ap (λ (s : Option (List ℕ)). due_for types_of_input c.args.keys.now.scripts s) c.spent_script.ensures in
    let apart : AllPairs HaveOtherKeys c.deref.result.now = subst (λ (l : List Pair). AllPairs HaveOtherKeys l) (sym same) (due_alone types_of_input c.args.keys.now (spent_script (c.args.input.now, c.args.spent.now)) input_types c.keeps_rules.ensures) in
    λ other.
    let w = told (λ place kind. Input (shown c.args.index) kind) c.in-Err.fault c.in_input.result (Psbt OutOfMemory) c.deref.result.now pairs c.in_input.ensures.differs c.in_input.ensures.memory (c.in-Err.ensures pairs behind are alone apart e) other in
    (w.0, w.1, w.2, subst (λ (l : List Pair). IsConflict l pairs w.0 w.1) same w.3)
