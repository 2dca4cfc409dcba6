use Rattle.std.proofs.Common.{Result, Ok, Err, []}
use Rattle.std.specs.Prelude.{OnOk}
use Rattle.command_pay.proofs.new_files.NewFileShelfShelf.TheImpl.Goals as goal

on_ok : {X Y : Type 0} {P Q : Type 0} (r : Result X Y) → (P → Q) → OnOk r P → OnOk r Q
on_ok (Ok x) f p = f p
on_ok (Err e) f p = tt

pub read_at-tells : goal.read_at-tells
read_at-tells g c = record {
  bound = c.ensures.bound;
  bytes = λ told. absurd told;
  same = λ told. absurd told;
  reads = c.ensures.reads;
  writes = λ k name. c.ensures.writes k;
  cause = c.ensures.cause;
  unfailed = c.ensures.unfailed;
  short = c.ensures.short;
  asked = λ told. absurd told;
  once = λ told. absurd told;
}

pub write_file-tells : goal.write_file-tells
write_file-tells g c = record {
  wrote = λ told. absurd told;
  others = λ told. absurd told;
  memory = λ told. absurd told;
  reads = λ k name. (c.ensures.reads k).reads;
  writes = λ name. c.ensures.writes;
  cause = c.ensures.cause;
  unfailed = on_ok c.result (λ e k name. e k) c.ensures.unfailed;
  short = λ h k name. c.ensures.short h k;
  asked = λ k. [];
}
